-- What holds of the board goes on while a packet is offered to one store after another.
use Rattle.std.proofs.Common.{◌≡◌, ℕ, ◌+◌, ◌*◌, ◌≤◌, ◌&&◌, not, Bool, true, false, List, length, take, ◌∙◌, ap, arith}
use Rattle.board.specs.Flash.{IsImage, loosened}
use Rattle.board.specs.Meaning.{BoardMeaning, TellsFlash}
use Rattle.board.specs.Touches.{Touches}
use Rattle.board.proofs.Runs as runs
use Rattle.board.proofs.Stops.{goes_on}
use Rattle.board.proofs.Works.{tells_too, works_most, works_on}
use Rattle.image_table.specs.Standing.{HoldsTable}
use Rattle.pst_model.specs.Arrivals.{is_offered}
use Rattle.pst_model.specs.Rules.{is_refused}
use Rattle.pst_model.specs.Table.{Store, Stored, Table}
use Rattle.put_laws.specs.Puts.{Accepts, Refuses, need_of}
use Rattle.space_packet.specs.Charge.{charge_of}
use Rattle.store_directory.specs.Directory.{Listed}
use Rattle.store_policy.specs.Shown.{IsTableShown}
use Rattle.store_policy.specs.declared.view.View.{View}
use Rattle.time_index.specs.TimeIndex.{TimeIndex}
use Rattle.vault.proofs.OfferCounts.{beginners_next, one_if, takers_next}
use Rattle.vault.proofs.OfferShown.{ShownAt, viewed_at}
use Rattle.vault.specs.Memory.{InMemory, IsViewOf}
use Rattle.vault.specs.Offering.{IsAt}
use Rattle.vault.specs.Standing.{StandsFor}
use Rattle.vault.specs.Storing.{OffersQuietly, beginners, is_full, takers, takes}
use Rattle.vault.specs.declared.last_block.LastBlock.{LastBlock}

-- what a store does with the packet, as a test

pub not_offered : (stored : Stored) (store : Store) → is_offered stored.octets store ≡ false → takes stored.octets store ≡ false
not_offered stored store is = ap (λ (b : Bool). b && not (is_refused store (need_of stored))) is

pub refuses_not : (stored : Stored) (store : Store) → Refuses store stored → takes stored.octets store ≡ false
refuses_not stored store refuses = λ i. refuses.offered i && not (refuses.refused i)

pub accepts_takes : (stored : Stored) (store : Store) (gone : ℕ) → Accepts store stored gone → takes stored.octets store ≡ true
accepts_takes stored store gone accepts = λ i. accepts.offered i && not (accepts.room i)

one_more : (need n : ℕ) → need * (n + 1) ≡ need * n + need
one_more need n = omega arith

more_work : (need n : ℕ) (b : Bool) → need * n ≤ need * (n + one_if b)
more_work need n true = let more = one_more need n in omega (arith, more)
more_work need n false = let same : n + 0 ≡ n = omega arith in let is = ap (λ (k : ℕ). need * k) same in omega (arith, is)

module _ {B : Type 0} (means : BoardMeaning B) (start board new : B) (old : InMemory) (stored : Stored) (at : ℕ)
    (quiet : OffersQuietly means start board old stored.octets at) (s : Listed) (index : TimeIndex) (last : LastBlock) (was : IsAt old at s index last) where
  -- the store at the place, of each table that the vault shows
  abbrev there : (table : Table) (view : View) → IsViewOf view old → IsTableShown table view → ShownAt table at s index
  there table view is shown = viewed_at old table view at s index is shown was.listed was.indexed

  -- no call more
  pub quiet_stays : OffersQuietly means start board old stored.octets (at + 1)
  quiet_stays = record {
    leaves = quiet.leaves;
    unsent = quiet.unsent;
    same = quiet.same;
    work = λ table view is shown.
        let one = there table view is shown in
        let packet = stored.octets in
        let many = takers_next packet table.stores at one.store one.there in
        let begun = beginners_next packet table.stores old.directory.stores old.lasts at one.store s last one.there was.listed was.known in
        let more = more_work (charge_of (length packet)) (takers packet (take at table.stores)) (takes packet one.store) in
        let same = ap (λ (n : ℕ). charge_of (length packet) * n) many in
        works_most (quiet.work table view is shown) (omega arith) (omega (arith, more, same)) (omega (arith, begun)) (omega (arith, begun));
  }

  -- a call more, or two
  quiet_on : (these : ℕ → Bool) (programs erases : ℕ) → Touches means these programs erases erases board new
      → (TellsFlash means start → (table : Table) → StandsFor old (means.flash start) table
      → (image : ℕ → List ℕ) → IsImage (means.device board).blocks (loosened these (means.flash board)) image → HoldsTable old.blocks table image)
      → ((table : Table) (view : View) → IsViewOf view old → IsTableShown table view
      → (charge_of (length stored.octets) * takers stored.octets (take at table.stores) + programs
      ≤ charge_of (length stored.octets) * takers stored.octets (take (at + 1) table.stores))
      × (beginners stored.octets (take at table.stores) old.directory.stores old.lasts + erases
      ≤ beginners stored.octets (take (at + 1) table.stores) old.directory.stores old.lasts))
      → OffersQuietly means start new old stored.octets (at + 1)
  quiet_on these programs erases touches images few = record {
    leaves = λ told table stands.
        goes_on means start board new (HoldsTable old.blocks table) (IsImage (means.device board).blocks (loosened these (means.flash board)))
        (quiet.leaves told table stands) (touches.leaves (tells_too quiet.same told)) (images told table stands);
    unsent = λ told. runs.sends_nothing_on means start board new (quiet.unsent told) (touches.unsent (runs.links_too quiet.same told));
    same = touches.same ∙ quiet.same;
    work = λ table view is shown.
        let most = few table view is shown in
        works_most (works_on (quiet.work table view is shown) touches.work) (omega arith) (omega (arith, most.0)) (omega (arith, most.1)) (omega (arith, most.1));
  }

  module _ (these : ℕ → Bool)
      (images : TellsFlash means start → (table : Table) → StandsFor old (means.flash start) table
      → (image : ℕ → List ℕ) → IsImage (means.device board).blocks (loosened these (means.flash board)) image → HoldsTable old.blocks table image)
      (accepted : (table : Table) → (one : ShownAt table at s index) → takes stored.octets one.store ≡ true) where
    abbrev packet : List ℕ
    packet = stored.octets

    programs_few : (table : Table) → ShownAt table at s index
        → charge_of (length packet) * takers packet (take at table.stores) + charge_of (length packet) ≤ charge_of (length packet) * takers packet (take (at + 1) table.stores)
    programs_few table one =
        let count = takers_next packet table.stores at one.store one.there in
        let is = ap one_if (accepted table one) in
        let more = one_more (charge_of (length packet)) (takers packet (take at table.stores)) in
        let sum : takers packet (take (at + 1) table.stores) ≡ takers packet (take at table.stores) + 1 = omega (arith, count, is) in
        let same = ap (λ (n : ℕ). charge_of (length packet) * n) sum in
        omega (arith, more, same)

    -- the record is programmed
    pub quiet_takes : Touches means these (need_of stored) 0 0 board new → OffersQuietly means start new old stored.octets (at + 1)
    quiet_takes touches =
        quiet_on these (need_of stored) 0 touches images
        (λ table view is shown.
        let one = there table view is shown in
        let begun = beginners_next packet table.stores old.directory.stores old.lasts at one.store s last one.there was.listed was.known in
        (programs_few table one, omega (arith, begun)))

    -- and a block is begun
    pub quiet_begins : is_full s.links last ≡ true → Touches means these (need_of stored) 1 1 board new → OffersQuietly means start new old stored.octets (at + 1)
    quiet_begins full touches =
        quiet_on these (need_of stored) 1 touches images
        (λ table view is shown.
        let one = there table view is shown in
        let begun = beginners_next packet table.stores old.directory.stores old.lasts at one.store s last one.there was.listed was.known in
        let both : (takes packet one.store && is_full s.links last) ≡ true = (λ i. accepted table one i && full i) in
        let one_is = ap one_if both in
        (programs_few table one, omega (arith, begun, one_is)))
