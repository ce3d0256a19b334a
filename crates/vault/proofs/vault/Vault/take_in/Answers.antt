use Rattle.std.proofs.Common.{◌≡◌, ℕ, length, refl, sym, ◌∙◌, ap, subst}
use Rattle.std.proofs.lemmas.Bool.{false≢true}
use Rattle.std.specs.Prelude.{is_ok}
use Rattle.board.specs.Counts.{Rose}
use Rattle.board.specs.Device.{Device}
use Rattle.board.specs.Meaning.{TellsFlash}
use Rattle.board.proofs.Runs as runs
use Rattle.board.proofs.Works.{tells_too}
use Rattle.meta_journal.specs.Standing as journals
use Rattle.pst_model.specs.Arrivals.{arrive}
use Rattle.pst_model.specs.Table.{Table}
use Rattle.space_packet.specs.View.{octets_of}
use Rattle.vault.proofs.Arrivals.{after_both, none_within, renewed_within}
use Rattle.vault.proofs.Freshened.{freshened_by}
use Rattle.vault.proofs.Outcomes.{err_gives, flash_causes, flash_differs, flash_spares}
use Rattle.vault.proofs.PutPackets.{failed_held, last_held}
use Rattle.vault.proofs.Stands.{ok_gives}
use Rattle.vault.proofs.Unlinked.{puts_leave_link}
use Rattle.vault.specs.Arriving.{IsFreshenedBy}
use Rattle.vault.specs.Changing.{RoomAfter}
use Rattle.vault.specs.Memory.{InMemory}
use Rattle.vault.specs.Standing.{StandsFor}
use Rattle.vault.specs.Storing.{AreFreshFor, IsFreshened}
use Rattle.vault.proofs.vault.Vault.take_in.Goals as goal

pub put_packet-requires-clause-is_open : goal.put_packet-requires-clause-is_open
put_packet-requires-clause-is_open g c = ap (λ (v : InMemory). v.is_open) c.in-Ok.ensures.after.others

pub put_packet-requires-clause-blocks : goal.put_packet-requires-clause-blocks
put_packet-requires-clause-blocks g c =
    ap (λ (v : InMemory). v.blocks) c.in-Ok.ensures.after.others ∙ c.requires.blocks
    ∙ ap (λ (v : Device). v.blocks) (sym c.renew_for.ensures.same)

pub put_packet-requires-clause-flash : goal.put_packet-requires-clause-flash
put_packet-requires-clause-flash g c told_mid =
    let told = tells_too (sym c.renew_for.ensures.same) told_mid in
    let (table, stands) = c.requires.flash told in
    (table, c.in-Ok.ensures.stands told table stands)

pub returns-in-Ok : goal.returns-in-Ok
returns-in-Ok g c =
    let means = g.B.Board.means in
    let was = c.args.self.now in
    let first = c.renew_for.new.self in
    let now = c.put_packet.new.self in
    let old = c.args.board.now in
    let mid = c.renew_for.new.board in
    let new = c.put_packet.new.board in
    let packet = octets_of c.args.packet in
    let moment = c.args.moment in
    let r = c.put_packet.result in
    let same = c.renew_for.ensures.same in
    let others = c.in-Ok.ensures.after.others in
    let faults = (means.counts old).flash_faults in
    let faults_mid = (means.counts mid).flash_faults in
    let faults_now = (means.counts new).flash_faults in
    record {
      any_moment = λ told table number stands.
          let next = (arrive number moment packet table).table in
          last_held means old mid new was first table next (ap (λ (v : InMemory). v.blocks) others)
          (c.renew_for.ensures.any_moment told table stands)
          (c.put_packet.ensures.any_moment (tells_too same told) table number (c.in-Ok.ensures.stands told table stands));
      stands =
          ok_gives r
          (TellsFlash means mid → (table : Table) (number : ℕ) → StandsFor first (means.flash mid) table
          → StandsFor now (means.flash new) (arrive number moment packet table).table)
          (TellsFlash means old → (table : Table) (number : ℕ) → StandsFor was (means.flash old) table
          → StandsFor now (means.flash new) (arrive number moment packet table).table)
          c.put_packet.ensures.stands
          (λ run told table number stands. run (tells_too same told) table number (c.in-Ok.ensures.stands told table stands));
      after = after_both was first now (is_ok r) others c.put_packet.ensures.after;
      sound = c.put_packet.ensures.sound;
      journal =
          ok_gives r
          (TellsFlash means mid → journals.StandsFor now.journal (means.flash new))
          (TellsFlash means old → journals.StandsFor now.journal (means.flash new))
          c.put_packet.ensures.journal (λ run told. run (tells_too same told));
      fresh =
          ok_gives r (IsFreshened packet (length first.directory.stores) first now.lasts) (IsFreshenedBy packet was now) c.put_packet.ensures.fresh
          (freshened_by was first c.in-Ok.ensures.after.rows c.in-Ok.ensures.after.fresh c.requires.sound c.in-Ok.ensures.sound c.in-Ok.ensures.shown packet now);
      quiet = λ told. runs.sends_nothing_on means old mid new (c.renew_for.ensures.quiet told) (c.put_packet.ensures.quiet (runs.links_too same told));
      link =
          let put = puts_leave_link means mid new first packet c.in-Ok.ensures.sound c.put_packet.ensures.work in
          let renewed = c.renew_for.ensures.link in
          record { faults = put.faults ∙ renewed.faults; sends = put.sends ∙ renewed.sends };
      same = c.put_packet.ensures.same ∙ same;
      work = λ fresh.
          let nothing = c.renew_for.ensures.nothing fresh in
          renewed_within means old mid new was first packet nothing.0 nothing.1 c.put_packet.ensures.work;
      idle_work = λ idle. absurd (false≢true (sym c.requires.busy ∙ idle));
      room =
          ok_gives r (RoomAfter 7 first.journal.room now.journal.room) (AreFreshFor packet was → RoomAfter 7 was.journal.room now.journal.room)
          c.put_packet.ensures.room
          (λ room fresh. subst (λ (v : InMemory). RoomAfter 7 v.journal.room now.journal.room) (c.renew_for.ensures.nothing fresh).1 room);
      mismatch = flash_differs r c.put_packet.ensures.fault (TellsFlash means old);
      no_fault =
          flash_spares r c.put_packet.ensures.fault (faults_now ≡ faults)
          (ok_gives r (faults_now ≡ faults_mid) (faults_now ≡ faults) c.put_packet.ensures.no_fault (λ is. is ∙ c.in-Ok.ensures.no_fault));
      cause =
          flash_causes r c.put_packet.ensures.fault (Rose faults faults_now)
          (err_gives r (Rose faults_mid faults_now) (Rose faults faults_now) c.put_packet.ensures.cause
          (λ is. subst (λ (n : ℕ). Rose n faults_now) c.in-Ok.ensures.no_fault is));
    }

pub returns-in-Err : goal.returns-in-Err
returns-in-Err g c =
    let means = g.B.Board.means in
    let was = c.args.self.now in
    let first = c.renew_for.new.self in
    let old = c.args.board.now in
    let mid = c.renew_for.new.board in
    let packet = octets_of c.args.packet in
    record {
      any_moment = λ told table number stands.
          failed_held means old mid mid was was table (arrive number c.args.moment packet table).table refl (c.renew_for.ensures.any_moment told table stands);
      stands = tt;
      after = c.in-Err.ensures.after.others;
      sound = tt;
      journal = tt;
      fresh = tt;
      quiet = c.renew_for.ensures.quiet;
      link = c.renew_for.ensures.link;
      same = c.renew_for.ensures.same;
      work = λ fresh. none_within means old mid was packet (c.renew_for.ensures.nothing fresh).0;
      idle_work = λ idle. absurd (false≢true (sym c.requires.busy ∙ idle));
      room = tt;
      mismatch = c.in-Err.ensures.mismatch;
      no_fault = c.in-Err.ensures.no_fault;
      cause = c.in-Err.ensures.cause;
    }
