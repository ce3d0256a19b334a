-- The work of one command, by its kind.
use Rattle.std.proofs.Common.{◌≡◌, ◌≤◌, ◌==◌, inl, inr, ℕ, ◌+◌, ◌*◌, zero, suc, Bool, true, false, List, [], ◌∷◌, length, Option, Some, None, Result, Ok, Err, refl, sym, ◌∙◌, ap, subst, arith}
use Rattle.std.proofs.lemmas.Bool.{false≢true, ltb-false, ltb-true}
use Rattle.std.proofs.lemmas.List.{length-map}
use Rattle.std.proofs.lemmas.Option.{slice_get_within}
use Rattle.std.specs.Prelude.{OnOk, if◌then◌else◌, max, nat_lt, slice_get}
use Rattle.board.specs.Flash.{Flash}
use Rattle.board.specs.Meaning.{BoardMeaning}
use Rattle.handler.proofs.Shown.{is_view, view_of}
use Rattle.handler.specs.Working.{ArrivesWithin, WorksWithin, pages_retrieved}
use Rattle.pst_model.specs.Arrivals.{arrive, forwarded_on, offer}
use Rattle.pst_model.specs.Command.{Arrival, Grant, Idle}
use Rattle.pst_model.specs.Replies.{behind_outputs}
use Rattle.pst_model.specs.Rules.{grant}
use Rattle.pst_model.specs.Arrivals.{offered}
use Rattle.pst_model.specs.Table.{Table}
use Rattle.retrieval.specs.Picks.{pick_of}
use Rattle.retrieval.specs.declared.pick.Pick.{Pick}
use Rattle.space_packet.specs.Charge.{charge_of}
use Rattle.space_packet.specs.Packet.{apid_of}
use Rattle.station.specs.Working.{CommandWorks, Enters, NoneIsStale}
use Rattle.store_directory.specs.Directory.{Listed}
use Rattle.store_put.proofs.Refused.{shown_many}
use Rattle.time_index.specs.TimeIndex.{TimeIndex}
use Rattle.vault.proofs.EachStores.{as_many_lasts}
use Rattle.vault.proofs.Places.{some_at}
use Rattle.vault.proofs.RoomAfters.{room_most}
use Rattle.vault.specs.Arriving.{IsFreshenedBy}
use Rattle.vault.specs.Changing.{RoomAfter, if_short}
use Rattle.vault.specs.Granting.{charge_next}
use Rattle.vault.specs.Memory.{EachStore, InMemory}
use Rattle.vault.specs.Standing.{IsStoreOf, StandsFor}
use Rattle.vault.specs.Storing.{AreFreshFor, IsFreshFor, takers}
use Rattle.vault.specs.declared.last_block.LastBlock.{LastBlock}

-- what holds of an answer that is Ok

pub ok_by : {A E : Type 0} (r : Result A E) (P : Type 0) → ((x : A) → r ≡ Ok x → P) → OnOk r P
ok_by (Ok x) P f = f x refl
ok_by (Err e) P f = tt

pub of_ok : {A E : Type 0} (r : Result A E) (P : Type 0) (x : A) → r ≡ Ok x → OnOk r P → P
of_ok {A} {E} r P x is holds = subst (λ (s : Result A E). OnOk s P) is holds

-- an entry, and the checkpoint before it where there is too little room
enters_by : (pages was now old new : ℕ) → new ≤ old + (if_short was 85 + pages + 7) → RoomAfter 7 was now → Enters pages was now old new
enters_by pages was now old new work room = by (nat_lt was 21) refl work
  where
    by : (short : Bool) → nat_lt was 21 ≡ short → new ≤ old + ((if short then 85 else 0) + pages + 7) → Enters pages was now old new
    by true is some = let less = ltb-true was 21 is in inr (less, room.switched less, omega (arith, some))
    by false is some = let more = ltb-false was 21 is in inl (room.within more, omega (arith, some))

-- nothing is written
enters_none : (pages was now old new : ℕ) → now ≡ was → new ≡ old → Enters pages was now old new
enters_none pages was now old new same none = inl (omega (arith, same), omega (arith, none))

none_stale_too : (was now : InMemory) → now.lasts ≡ was.lasts → NoneIsStale was → NoneIsStale now
none_stale_too was now same fresh place last is = fresh place last (ap (λ (l : List LastBlock). slice_get l place) (sym same) ∙ is)

module _ {B : Type 0} (means : BoardMeaning B) (old new : B) (was now : InMemory) (table : Table) (fresh : NoneIsStale was) where
  pub idle_works : (moment : ℕ) → new ≡ old → now ≡ was → CommandWorks (Idle moment) table [] was now (means.counts old) (means.counts new)
  idle_works moment same_board same_vault =
      let reads = ap (λ (b : B). (means.counts b).reads) same_board in
      record {
        fresh = none_stale_too was now (ap (λ (v : InMemory). v.lasts) same_vault) fresh;
        reads = omega (arith, reads);
        enters = enters_none 0 was.journal.room now.journal.room (means.counts old).programs (means.counts new).programs
            (ap (λ (v : InMemory). v.journal.room) same_vault) (ap (λ (b : B). (means.counts b).programs) same_board);
      }

  pub grant_works : (number moment : ℕ) {erases barriers : ℕ}
      → WorksWithin (charge_next was) (if_short was.journal.room 85 + 2) erases barriers (means.counts old) (means.counts new)
      → charge_next was ≤ pages_retrieved (grant number table).outputs
      → ((pick : Pick) → pick_of was.directory.stores ≡ Some pick → RoomAfter 2 was.journal.room now.journal.room)
      → (pick_of was.directory.stores ≡ None → (new ≡ old) × (now ≡ was)) → now.lasts ≡ was.lasts
      → CommandWorks (Grant moment) table (grant number table).outputs was now (means.counts old) (means.counts new)
  grant_works number moment work few room nothing lasts = record {
    fresh = none_stale_too was now lasts fresh;
    reads = omega (arith, work.reads_to, few);
    enters = by (pick_of was.directory.stores) refl;
  }
    where
      by : (picked : Option Pick) → pick_of was.directory.stores ≡ picked
          → Enters 0 was.journal.room now.journal.room (means.counts old).programs (means.counts new).programs
      by None is =
          let (board, vault) = nothing is in
          enters_none 0 was.journal.room now.journal.room (means.counts old).programs (means.counts new).programs
          (ap (λ (v : InMemory). v.journal.room) vault) (ap (λ (b : B). (means.counts b).programs) board)
      by (Some pick) is =
          enters_by 0 was.journal.room now.journal.room (means.counts old).programs (means.counts new).programs
          (omega (arith, work.programs_to)) (room_most (room pick is) (omega arith))

-- no store has to be renewed before it takes a packet
each_fresh : (P : Listed → TimeIndex → LastBlock → Type 0) (packet : List ℕ) (stores : List Listed) (indexes : List TimeIndex) (lasts : List LastBlock)
    → EachStore P stores indexes lasts → ((place : ℕ) (last : LastBlock) → slice_get lasts place ≡ Some last → last.stale ≡ false)
    → EachStore (IsFreshFor packet) stores indexes lasts
each_fresh P packet [] [] [] each fresh = tt
each_fresh P packet [] [] (l ∷ lasts) each fresh = absurd each
each_fresh P packet [] (i ∷ indexes) lasts each fresh = absurd each
each_fresh P packet (s ∷ stores) [] lasts each fresh = absurd each
each_fresh P packet (s ∷ stores) (i ∷ indexes) [] each fresh = absurd each
each_fresh P packet (s ∷ stores) (i ∷ indexes) (l ∷ lasts) each fresh = (
  λ store gone shown patterns accepts. inr (fresh zero l refl),
  each_fresh P packet stores indexes lasts each.1 (λ place last is. fresh (suc place) last is),
)

-- an arriving packet leaves the stores as many as they are
arrive_many : (number moment : ℕ) (packet : List ℕ) (table : Table) → length (arrive number moment packet table).table.stores ≡ length table.stores
arrive_many number moment packet table = by (apid_of packet == 2047)
  where
    by : (idle : Bool)
        → length ((if idle then record { table = record table { now = max table.now moment }; outputs = [] }
        else behind_outputs (forwarded_on number packet table) (offer number moment (record { time = max table.now moment; octets = packet }) table)).table.stores)
        ≡ length table.stores
    by true = refl
    by false = length-map table.stores (offered (record { time = max table.now moment; octets = packet }))

-- a vault has as many last blocks as its table has stores
lasts_many : (vault : InMemory) (flash : Flash) (table : Table) → StandsFor vault flash table → length vault.lasts ≡ length table.stores
lasts_many vault flash table stands =
    as_many_lasts (IsStoreOf flash vault.directory.now) vault.directory.stores vault.indexes vault.lasts stands.stores
    ∙ sym (shown_many table.stores vault.directory.stores vault.indexes (stands.shows (view_of vault) (is_view vault)).stores)

module _ {B : Type 0} (means : BoardMeaning B) (old new : B) (was now : InMemory) (table : Table) (fresh : NoneIsStale was) (number moment : ℕ) (packet : List ℕ)
    (stands : StandsFor was (means.flash old) table) (behind : StandsFor now (means.flash new) (arrive number moment packet table).table)
    (work : AreFreshFor packet was → ArrivesWithin means old new was packet) {erases barriers : ℕ}
    (idle_work : (apid_of packet == 2047) ≡ true → WorksWithin 0 (if_short was.journal.room 85 + 2) erases barriers (means.counts old) (means.counts new))
    (room : AreFreshFor packet was → RoomAfter 7 was.journal.room now.journal.room) (freshened : IsFreshenedBy packet was now) where
  all_fresh : AreFreshFor packet was
  all_fresh = each_fresh (IsStoreOf (means.flash old) was.directory.now) packet was.directory.stores was.indexes was.lasts stands.stores fresh

  many : length now.lasts ≡ length was.lasts
  many =
      lasts_many now (means.flash new) (arrive number moment packet table).table behind ∙ arrive_many number moment packet table
      ∙ sym (lasts_many was (means.flash old) table stands)

  still_fresh : NoneIsStale now
  still_fresh place last is = by last.stale refl
    where
      by : (stale : Bool) → last.stale ≡ stale → last.stale ≡ false
      by false kept = kept
      by true stale =
          let within = slice_get_within now.lasts place last is in
          let (before, there) = some_at was.lasts place (omega (arith, within, many)) in
          absurd (false≢true (sym (fresh place before there) ∙ freshened.stale place before last there is stale))

  pub arrival_works : CommandWorks (Arrival moment packet) table (arrive number moment packet table).outputs was now (means.counts old) (means.counts new)
  arrival_works =
      let within = work all_fresh table (view_of was) (is_view was) (stands.shows (view_of was) (is_view was)) in
      record {
        fresh = still_fresh;
        reads = omega (arith, within.reads_to);
        enters = by (apid_of packet == 2047) refl;
      }
    where
      by : (idle : Bool) → (apid_of packet == 2047) ≡ idle
          → Enters (if idle then 0 else charge_of (length packet) * takers packet table.stores) was.journal.room now.journal.room (means.counts old).programs (means.counts new).programs
      by true is =
          let within = (idle_work is).programs_to in
          enters_by 0 was.journal.room now.journal.room (means.counts old).programs (means.counts new).programs (omega (arith, within)) (room all_fresh)
      by false is =
          let within = work all_fresh table (view_of was) (is_view was) (stands.shows (view_of was) (is_view was)) in
          enters_by (charge_of (length packet) * takers packet table.stores) was.journal.room now.journal.room (means.counts old).programs (means.counts new).programs
          within.programs_to (room all_fresh)
