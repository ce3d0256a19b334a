use Rattle.std.proofs.Common.{◌≡◌, ℕ, ◌∙◌, ap, subst, arith}
use Rattle.std.specs.Prelude.{is_ok, max}
use Rattle.board.specs.Counts.{Rose}
use Rattle.board.specs.Meaning.{TellsFlash}
use Rattle.board.proofs.Works.{works_most}
use Rattle.pst_model.specs.Arrivals.{arrive}
use Rattle.pst_model.specs.Table.{Table}
use Rattle.space_packet.specs.View.{octets_of}
use Rattle.store_directory.specs.Changes.{Clock}
use Rattle.vault.proofs.Arrivals.{after_entry, clock_becomes, clock_entered}
use Rattle.vault.proofs.Freshened.{idle_freshened}
use Rattle.vault.proofs.Outcomes.{flash_causes, flash_differs, flash_spares}
use Rattle.vault.proofs.PutPackets.{on_ok}
use Rattle.vault.proofs.RoomAfters.{room_most}
use Rattle.vault.proofs.Stands.{ok_gives}
use Rattle.vault.specs.Arriving.{IsFreshenedBy}
use Rattle.vault.specs.Changing.{Becomes, CanBeEntered, RoomAfter}
use Rattle.vault.specs.Memory.{InMemory, IsSound}
use Rattle.vault.specs.Standing.{StandsFor}
use Rattle.vault.specs.Storing.{AreFreshFor}
use Rattle.vault.proofs.vault.Vault.raise_clock.Goals as goal

pub enter-requires-clause-journal : goal.enter-requires-clause-journal
enter-requires-clause-journal g c told = let (table, stands) = c.requires.flash told in stands.journal

pub enter-requires-clause-can_be_entered : goal.enter-requires-clause-can_be_entered
enter-requires-clause-can_be_entered g c =
    subst (λ (v : InMemory). CanBeEntered v.directory.directory (Clock c.max.result c.reports.result)) c.self.view_is
    (clock_entered c.self.inside.directory.directory c.max.result c.reports.result c.reports.ensures.range
    (omega (arith, c.max.ensures, c.now.ensures.now)))

pub returns : goal.returns
returns g c =
    let means = g.B.Board.means in
    let was = c.args.self.now in
    let now = c.enter.new.self in
    let old = c.args.board.now in
    let new = c.enter.new.board in
    let packet = octets_of c.args.packet in
    let moment = c.args.moment in
    let change = Clock c.max.result c.reports.result in
    let r = c.enter.result in
    let faults = (means.counts old).flash_faults in
    let faults_now = (means.counts new).flash_faults in
    let sound : IsSound was =
    subst IsSound c.self.view_is (c.self.invariant.1 (ap (λ (v : InMemory). v.is_open) c.self.view_is ∙ c.requires.is_open)) in
    let now_is : c.max.result ≡ max was.directory.now moment =
    c.max.ensures ∙ ap (λ (n : ℕ). max n moment) (c.now.ensures.now ∙ ap (λ (v : InMemory). v.directory.now) c.self.view_is) in
    let reports_is : c.reports.result ≡ was.directory.reports =
    c.reports.ensures.reports ∙ ap (λ (v : InMemory). v.directory.reports) c.self.view_is in
    let becomes : (table : Table) (number : ℕ) → StandsFor was (means.flash old) table → Becomes was change (means.flash old) (arrive number moment packet table).table =
    (λ table number stands. clock_becomes was (means.flash old) table number moment c.max.result c.reports.result packet sound stands c.requires.idle now_is reports_is) in
    record {
      any_moment = λ told table number stands. c.enter.ensures.any_moment told table (arrive number moment packet table).table stands (becomes table number stands);
      stands =
          ok_gives r
          (TellsFlash means old → (table next : Table) → StandsFor was (means.flash old) table → Becomes was change (means.flash old) next
          → StandsFor now (means.flash new) next)
          (TellsFlash means old → (table : Table) (number : ℕ) → StandsFor was (means.flash old) table
          → StandsFor now (means.flash new) (arrive number moment packet table).table)
          c.enter.ensures.stands
          (λ run told table number stands. run told table (arrive number moment packet table).table stands (becomes table number stands));
      after = after_entry was now (is_ok r) c.enter.ensures.after.others;
      sound = c.enter.ensures.sound;
      journal = c.enter.ensures.journal;
      fresh = on_ok r (IsFreshenedBy packet was now) (idle_freshened packet was now c.requires.idle (ap (λ (v : InMemory). v.lasts) c.enter.ensures.after.others));
      quiet = c.enter.ensures.touches.unsent;
      link = record { faults = c.enter.ensures.touches.work.link_faults; sends = c.enter.ensures.touches.work.sends };
      same = c.enter.ensures.touches.same;
      work = λ fresh table view is shown.
          works_most c.enter.ensures.touches.work (omega arith) (omega arith) (omega arith) (omega arith);
      idle_work = λ idle. c.enter.ensures.touches.work;
      room =
          ok_gives r (RoomAfter 2 was.journal.room now.journal.room) (AreFreshFor packet was → RoomAfter 7 was.journal.room now.journal.room) c.enter.ensures.room
          (λ room fresh. room_most room (omega arith));
      mismatch = flash_differs r c.enter.ensures.fault (TellsFlash means old);
      no_fault = flash_spares r c.enter.ensures.fault (faults_now ≡ faults) c.enter.ensures.no_fault;
      cause = flash_causes r c.enter.ensures.fault (Rose faults faults_now) c.enter.ensures.cause;
    }
