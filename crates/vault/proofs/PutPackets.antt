-- A packet that was put into each store that takes it, from the room in the journal to the commit.
use Rattle.std.proofs.Common.{◌≡◌, inl, ◌≤◌, ◌+◌, ◌*◌, ◌==◌, ℕ, false, true, List, length, take, Some, refl, sym, ◌∙◌, ap, subst, arith}
use Rattle.std.specs.Prelude.{Err, Ok, OnOk, Result, max}
use Rattle.std.proofs.lemmas.Nat.{mul-le}
use Rattle.board.specs.Counts.{Works}
use Rattle.board.specs.Meaning.{BoardMeaning, TellsFlash, TellsLink}
use Rattle.board.specs.Moments.{LeavesOnly, SendsNothing}
use Rattle.board.specs.Touches.{Touches}
use Rattle.board.proofs.Runs as runs
use Rattle.board.proofs.Stops.{goes_on, weaker}
use Rattle.board.proofs.Works.{tells_too, works_most, works_on}
use Rattle.image_table.specs.Standing.{HoldsEitherTable, HoldsTable}
use Rattle.image_table.specs.Table.{table_by}
use Rattle.meta_journal.specs.Standing as journals
use Rattle.pst_model.specs.Arrivals.{arrive}
use Rattle.pst_model.specs.Table.{Stored, Table}
use Rattle.put_laws.proofs.Ending.{ends}
use Rattle.put_laws.specs.Walks.{HasOffered}
use Rattle.space_packet.specs.Charge.{charge_of}
use Rattle.space_packet.specs.Packet.{apid_of}
use Rattle.store_policy.specs.Shown.{IsTableShown}
use Rattle.store_policy.specs.declared.view.View.{View}
use Rattle.store_put.proofs.Refused.{shown_many}
use Rattle.vault.proofs.OfferedSoFar.{beginners_all, takers_all}
use Rattle.vault.proofs.RequestStands.{view_of_vault}
use Rattle.vault.specs.Changing.{if_short, journal_pages}
use Rattle.vault.specs.Memory.{InMemory, IsViewOf}
use Rattle.vault.specs.Putting.{HasPutAll, PutsWithin}
use Rattle.vault.specs.Standing.{StandsFor}
use Rattle.vault.specs.Storing.{AreFreshFor, IsFreshened, OffersQuietly, beginners, takers}

-- the vault behind the room that was made has what it had

module _ (was first : InMemory) (room : first ≡ record was { journal = first.journal; is_open = true }) where
  pub room_blocks : first.blocks ≡ was.blocks
  room_blocks = ap (λ (v : InMemory). v.blocks) room

  pub room_fresh : (packet : List ℕ) → AreFreshFor packet was → AreFreshFor packet first
  room_fresh packet fresh = subst (AreFreshFor packet) (sym room) fresh

  pub room_freshened : (packet : List ℕ) (put : InMemory) → IsFreshened packet (length first.directory.stores) first put.lasts
      → IsFreshened packet (length was.directory.stores) was put.lasts
  room_freshened packet put is =
      let there : IsFreshened packet (length was.directory.stores) (record was { journal = first.journal; is_open = true }) put.lasts =
      subst (λ (v : InMemory). IsFreshened packet (length v.directory.stores) v put.lasts) room is in
      record { stale = there.stale; taken = there.taken }

  pub room_view : (view : View) → IsViewOf view was → IsViewOf view first
  room_view view is =
      subst (IsViewOf view) (sym room) (record { directory = is.directory; indexes = is.indexes; blocks = is.blocks })

  module _ {B : Type 0} (means : BoardMeaning B) (old mid late : B) (packet : List ℕ)
      (touches : Touches means journal_pages (if_short was.journal.room 85) (if_short was.journal.room 7) (if_short was.journal.room 13) old mid)
      (quiet : OffersQuietly means mid late first packet (length first.directory.stores)) where
    pub late_device : means.device late ≡ means.device old
    late_device = quiet.same ∙ touches.same

    pub late_unsent : TellsLink means old → SendsNothing means old late
    late_unsent told = runs.sends_nothing_on means old mid late (touches.unsent told) (quiet.unsent (runs.links_too touches.same told))

    -- the table from before is held until the entry is added
    pub late_held : TellsFlash means old → (table : Table) → LeavesOnly means old mid (HoldsTable was.blocks table) → StandsFor first (means.flash mid) table
        → LeavesOnly means old late (HoldsTable was.blocks table)
    late_held told table early stands =
        goes_on means old mid late (HoldsTable was.blocks table) (HoldsTable first.blocks table) early (quiet.leaves (tells_too touches.same told) table stands)
        (λ image is. subst (λ (n : ℕ). HoldsTable n table image) room_blocks is)

    late_work : (table : Table) (view : View) → IsViewOf view was → IsTableShown table view
        → let begun = beginners packet table.stores was.directory.stores was.lasts in
        Works 0 (if_short was.journal.room 85 + charge_of (length packet) * takers packet table.stores)
        (if_short was.journal.room 7 + begun) (if_short was.journal.room 13 + begun) (means.counts old) (means.counts late)
    late_work table view is shown = works_on touches.work (more_work table view is shown)
      where
        more_work : (table : Table) (view : View) → IsViewOf view was → IsTableShown table view
            → let begun = beginners packet table.stores was.directory.stores was.lasts in
            Works 0 (charge_of (length packet) * takers packet table.stores) begun begun (means.counts mid) (means.counts late)
        more_work table view is shown =
            let n = length first.directory.stores in
            let c = charge_of (length packet) in
            let pages = takers_all packet table.stores n in
            let begun : beginners packet (take n table.stores) first.directory.stores first.lasts ≤ beginners packet table.stores was.directory.stores was.lasts =
            subst (λ (v : InMemory). beginners packet (take n table.stores) v.directory.stores v.lasts ≤ beginners packet table.stores was.directory.stores was.lasts)
            (sym room) (beginners_all packet table.stores n was.directory.stores was.lasts) in
            works_most (quiet.work table view (room_view view is) shown) (omega arith)
            (mul-le c (takers packet (take n table.stores)) c (takers packet table.stores) (omega arith) pages) begun begun

    -- also where the offer failed
    pub late_within : PutsWithin means old late was packet
    late_within table view is shown = works_most (late_work table view is shown) (omega arith) (omega arith) (omega arith) (omega arith)

    module _ (new : B) (adds : Touches means journal_pages 7 0 2 late new) where
      pub last_within : PutsWithin means old new was packet
      last_within table view is shown = works_most (works_on (late_work table view is shown) adds.work) (omega arith) (omega arith) (omega arith) (omega arith)

      pub last_unsent : TellsLink means old → SendsNothing means old new
      last_unsent told = runs.sends_nothing_on means old late new (late_unsent told) (adds.unsent (runs.links_too late_device told))

      pub last_device : means.device new ≡ means.device old
      last_device = adds.same ∙ late_device

-- where no room was made
pub early_within : {B : Type 0} (means : BoardMeaning B) (old mid : B) (was : InMemory) (packet : List ℕ)
    → Touches means journal_pages (if_short was.journal.room 85) (if_short was.journal.room 7) (if_short was.journal.room 13) old mid
    → PutsWithin means old mid was packet
early_within means old mid was packet touches table view is shown =
    works_most touches.work (omega arith) (omega arith) (omega arith) (omega arith)

-- the table behind the arrival
module _ {B : Type 0} (means : BoardMeaning B) (mid late : B) (first put : InMemory) (moment time : ℕ) (packet text : List ℕ)
    (time_is : time ≡ max first.directory.now moment) (busy : (apid_of packet == 2047) ≡ false)
    (has : HasPutAll means mid late first put (record { time = time; octets = packet }) text) where
  abbrev stored : Stored
  stored = record { time = time; octets = packet }

  pub put_by : TellsFlash means mid → (table : Table) (number : ℕ) → StandsFor first (means.flash mid) table
      → table_by put.blocks (means.flash late).content put.directory.directory ≡ Some (arrive number moment packet table).table
  put_by told table number stands =
      let on = has.flash told table stands in
      let view = view_of_vault first in
      let shown = stands.shows view (record { directory = refl; indexes = refl; blocks = refl }) in
      let many = shown_many table.stores first.directory.stores first.indexes shown.stores in
      let content = (means.flash late).content in
      let d = first.directory.directory in
      let e = put.directory.directory in
      let at = length first.directory.stores in
      let same : time ≡ max table.now moment = time_is ∙ ap (λ (n : ℕ). max n moment) (sym shown.now) in
      let offered : HasOffered first.blocks content d table (record { time = max table.now moment; octets = packet }) at has.changes e =
      subst (λ (n : ℕ). HasOffered first.blocks content d table (record { time = n; octets = packet }) at has.changes e) same on.offered in
      ap (λ (v : InMemory). table_by v.blocks content e) has.memory.others
      ∙ ends first.blocks content d table number moment packet at has.changes e offered (omega (arith, many)) busy

  pub put_journal : (TellsFlash means mid → (table : Table) × StandsFor first (means.flash mid) table) → TellsFlash means late
      → journals.StandsFor put.journal (means.flash late)
  put_journal stood told =
      let told_mid = tells_too (sym has.quiet.same) told in
      let (table, stands) = stood told_mid in
      subst (λ (v : InMemory). journals.StandsFor v.journal (means.flash late)) (sym has.memory.others) (has.flash told_mid table stands).journal

-- what holds however it was answered
pub on_ok : {A E : Type 0} (r : Result A E) (P : Type 0) → P → OnOk r P
on_ok (Ok x) P is = is
on_ok (Err e) P is = tt

module _ {B : Type 0} (means : BoardMeaning B) (old late new : B) (was put : InMemory) (table next : Table) (same : put.blocks ≡ was.blocks)
    (held : LeavesOnly means old late (HoldsTable was.blocks table)) where
  pub failed_held : LeavesOnly means old late (HoldsEitherTable was.blocks table next)
  failed_held =
      weaker means old late (HoldsEitherTable was.blocks table next) (HoldsTable was.blocks table) held (λ image is. inl is)

  pub last_held : LeavesOnly means late new (HoldsEitherTable put.blocks table next) → LeavesOnly means old new (HoldsEitherTable was.blocks table next)
  last_held commit =
      goes_on means old late new (HoldsEitherTable was.blocks table next) (HoldsEitherTable put.blocks table next) failed_held commit
      (λ image is. subst (λ (n : ℕ). HoldsEitherTable n table next image) same is)
