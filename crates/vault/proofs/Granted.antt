-- What a grant sends, and what it makes of the vault.
use Rattle.std.proofs.Common.{◌≡◌, inl, ℕ, ◌+◌, ◌≤◌, ◌&&◌, nat_le, Bool, true, List, [], Option, None, Some, refl, sym, ◌∙◌, ap, subst, arith}
use Rattle.std.specs.Prelude.{slice_get}
use Rattle.std.specs.List.{All}
use Rattle.std.specs.Option.{IsSomeAnd, option_or}
use Rattle.std.proofs.lemmas.Bool.Decides.{nat_tests}
use Rattle.std.proofs.lemmas.Option.{get_or_from_slice_get, none-some, same_Some}
use Rattle.board.specs.Device.{Device}
use Rattle.board.specs.Flash.{Flash, IsImage, loosened}
use Rattle.board.specs.Meaning.{BoardMeaning, TellsFlash}
use Rattle.board.specs.Moments.{LeavesOnly}
use Rattle.board.specs.Reads.{ReadsOnly}
use Rattle.board.specs.Touches.{KeptElsewhere, ReadsAndTouches, Touches}
use Rattle.board.proofs.Pages.{image_of_loosened}
use Rattle.board.proofs.Runs as runs
use Rattle.board.proofs.Stops as stops
use Rattle.board.proofs.Works.{tells_too, works_most, works_on}
use Rattle.image_table.proofs.ByRows.{held_by_rows}
use Rattle.image_table.specs.Granting.{put_sent}
use Rattle.image_table.specs.Standing.{HoldsEitherTable}
use Rattle.meta_journal.specs.Standing as journals
use Rattle.pst_model.specs.Rules.{Step, grant, packet_at}
use Rattle.pst_model.specs.Table.{Store, Stored, Table}
use Rattle.record_view.specs.Records.{Meaning}
use Rattle.retrieval.proofs.Firsts.{of_first}
use Rattle.retrieval.proofs.Granted.{nothing_if, sent_by}
use Rattle.retrieval.specs.Grants.{AreByRows, IsRowAt}
use Rattle.retrieval.specs.Picks.{first_pick, has_ahead, has_range, open_pick, pick_of, range_pick}
use Rattle.retrieval.specs.declared.pick.Pick.{Pick}
use Rattle.store_directory.specs.Changes.{apply}
use Rattle.store_directory.specs.Directory.{IsListed, Listed}
use Rattle.store_directory.specs.Kept.{Kept}
use Rattle.store_directory.specs.Rows.{is_lawful_row, is_range}
use Rattle.store_directory.specs.declared.row.Row.{Row}
use Rattle.vault.proofs.Entered.{here}
use Rattle.vault.proofs.Loads.{all_at}
use Rattle.vault.proofs.Positions.{and_some}
use Rattle.vault.proofs.Passed.{picked_store}
use Rattle.vault.proofs.Stopped.{image_holds, still_stands}
use Rattle.vault.specs.Fetching.{HasPacket, charge_at}
use Rattle.vault.specs.Changing.{RoomAfter}
use Rattle.vault.specs.Granting.{IsChannel, IsGranted, charge_next, charge_of_pick, sent_of}
use Rattle.vault.specs.Memory.{InMemory, IsSound}
use Rattle.vault.specs.Standing.{StandsFor}

-- a run that reads, and then one that touches pages
module _ {B : Type 0} (means : BoardMeaning B) (these : ℕ → Bool) where
  pub reads_touches : {r p e b s q f c : ℕ} (old mid new : B) → ReadsOnly means r old mid → Touches means these p e b mid new
      → r ≤ s → p ≤ q → e ≤ f → b ≤ c → ReadsAndTouches means these s q f c old new
  reads_touches old mid new first second reads programs erases barriers = record {
    others = λ told.
        subst (λ (flash : Flash). KeptElsewhere these flash (means.flash new)) (first.stays told).flash
        (second.others (tells_too first.same told));
    leaves = λ told.
        let blocks = (means.device old).blocks in
        let stays = first.stays told in
        let Left : (ℕ → List ℕ) → Type 0 = IsImage blocks (loosened these (means.flash old)) in
        stops.goes_on means old mid new Left Left
        (stops.weaker means old mid Left (IsImage blocks (means.flash old)) stays.leaves
        (λ image is. image_of_loosened blocks these (means.flash old) image is))
        (subst (λ (device : Device). LeavesOnly means mid new (IsImage device.blocks (loosened these (means.flash old)))) first.same
        (subst (λ (flash : Flash). LeavesOnly means mid new (IsImage (means.device mid).blocks (loosened these flash))) stays.flash
        (second.leaves (tells_too first.same told))))
        (λ image is. is);
    unsent = λ told. runs.sends_nothing_on means old mid new (first.unsent told) (second.unsent (runs.links_too first.same told));
    same = second.same ∙ first.same;
    work = works_most (works_on first.work second.work) (omega (arith, reads)) (omega (arith, programs)) (omega (arith, erases)) (omega (arith, barriers));
  }

-- the packet of the model's grant

has_packet : (table : Table) (at position : ℕ) (m : Meaning) (store : Store) → HasPacket table at position m.stamp m.packet
    → slice_get table.stores at ≡ Some store → packet_at store position ≡ m.packet
has_packet table at position m store has there =
    let (found, is, inside) = and_some (λ (store : Store). IsSomeAnd (slice_get store.packets position) Same) (slice_get table.stores at) has in
    let same : found ≡ store = same_Some found store (sym is ∙ there) in
    let (stored, here, parts) = and_some Same (slice_get found.packets position) inside in
    ap (λ (s : Store). packet_at s position) (sym same)
    ∙ ap (λ (s : Stored). s.octets) (get_or_from_slice_get found.packets position stored (record { time = 0; octets = [] }) here)
    ∙ sym parts.1
  where
    Same : Stored → Type 0
    Same stored = (m.stamp ≡ stored.time) × (m.packet ≡ stored.octets)

module _ (vault : InMemory) (flash : Flash) (table : Table) (sound : IsSound vault) (stands : StandsFor vault flash table) where
  by_rows : AreByRows table.stores vault.directory.stores
  by_rows = held_by_rows vault.blocks flash.content vault.directory.directory table stands.pages sound.kept (here vault flash table sound stands)

  -- nothing is picked, and the grant sends nothing
  pub none_sent : (number : ℕ) → pick_of vault.directory.stores ≡ None → grant number table ≡ record { table = table; outputs = [] }
  none_sent number none = (nothing_if number table vault.directory.stores by_rows).0 none

  -- the packet that was read is what it sends
  pub packet_sent : (number : ℕ) (pick : Pick) (m : Meaning) → pick_of vault.directory.stores ≡ Some pick
      → HasPacket table pick.at pick.position m.stamp m.packet → (grant number table).outputs ≡ sent_of number pick.channel m.packet
  packet_sent number pick m picked has =
      let store = picked_store vault pick sound picked in
      let sends = sent_by number table vault.directory.stores by_rows pick store.s picked store.there in
      sends.outputs ∙ ap (sent_of number pick.channel) (has_packet table pick.at pick.position m sends.store has sends.there)

-- a vault that loaded a record
module _ (vault loaded : InMemory) (is : loaded ≡ record vault { held = loaded.held; is_open = true }) where
  pub stands_loaded : (flash : Flash) (table : Table) → StandsFor vault flash table → StandsFor loaded flash table
  stands_loaded flash table stands =
      subst (λ (v : InMemory). StandsFor v flash table) (sym is) (still_stands vault flash table loaded.held true stands)

-- what is left at each moment
module _ {B : Type 0} (means : BoardMeaning B) (vault : InMemory) (table after : Table) (old mid : B) (told : TellsFlash means old)
    (blocks : vault.blocks ≡ (means.device old).blocks) (sound : IsSound vault) (stands : StandsFor vault (means.flash old) table) where
  -- by a run that reads
  pub still_held : {n : ℕ} → ReadsOnly means n old mid → LeavesOnly means old mid (HoldsEitherTable vault.blocks table after)
  still_held reads =
      stops.weaker means old mid (HoldsEitherTable vault.blocks table after) (IsImage (means.device old).blocks (means.flash old)) (reads.stays told).leaves
      (λ image is. inl (image_holds vault (means.flash old) table image sound stands
      (subst (λ (n : ℕ). IsImage n (means.flash old) image) (sym blocks) is)))

  -- and by the passing behind it
  pub then_passed : {n : ℕ} (new : B) (loaded : InMemory) → ReadsOnly means n old mid → loaded ≡ record vault { held = loaded.held; is_open = true }
      → (TellsFlash means mid → StandsFor loaded (means.flash mid) table → LeavesOnly means mid new (HoldsEitherTable loaded.blocks table after))
      → LeavesOnly means old new (HoldsEitherTable vault.blocks table after)
  then_passed new loaded reads is second =
      stops.goes_on means old mid new (HoldsEitherTable vault.blocks table after) (HoldsEitherTable vault.blocks table after) (still_held reads)
      (subst (λ (n : ℕ). LeavesOnly means mid new (HoldsEitherTable n table after)) (ap (λ (v : InMemory). v.blocks) is)
      (second (tells_too reads.same told)
      (subst (λ (f : Flash). StandsFor loaded f table) (sym (reads.stays told).flash) (stands_loaded vault loaded is (means.flash old) table stands))))
      (λ image is. is)

-- a vault after a grant
module _ {B : Type 0} (means : BoardMeaning B) (vault : InMemory) (old : B) (sound : IsSound vault) where
  pub granted_none : vault.is_open ≡ true → pick_of vault.directory.stores ≡ None
      → (TellsFlash means old → journals.StandsFor vault.journal (means.flash old)) → IsGranted means old old vault vault true
  granted_none open_is none journal = record {
    others = λ i. record vault { is_open = open_is i };
    none = λ _. refl;
    directory = λ pick row picked here _. absurd (none-some pick (sym none ∙ picked));
    room = λ pick picked _. absurd (none-some pick (sym none ∙ picked));
    sound = λ _. sound;
    journal = λ _. journal;
    stands = λ _ told table number stands.
        subst (λ (t : Table). StandsFor vault (means.flash old) t)
        (sym (ap (λ (s : Step). s.table) (none_sent vault (means.flash old) table sound stands number none))) stands;
  }

  pub granted_by : {n : ℕ} (mid new : B) (loaded passed : InMemory) (pick : Pick) → pick_of vault.directory.stores ≡ Some pick
      → ReadsOnly means n old mid → loaded ≡ record vault { held = loaded.held; is_open = true }
      → passed ≡ record loaded { directory = passed.directory; journal = passed.journal; is_open = true }
      → ((row : Row) → IsRowAt loaded.directory.stores pick.at row → apply loaded.directory.directory (put_sent pick row) ≡ Some passed.directory.directory)
      → RoomAfter 2 loaded.journal.room passed.journal.room
      → IsSound passed → (TellsFlash means mid → journals.StandsFor passed.journal (means.flash new))
      → (TellsFlash means mid → (table : Table) (number : ℕ) → StandsFor loaded (means.flash mid) table
      → StandsFor passed (means.flash new) (grant number table).table)
      → IsGranted means old new vault passed true
  granted_by mid new loaded passed pick picked reads is others directory room sound_passed journal stands =
      let held : loaded.held ≡ passed.held = sym (ap (λ (v : InMemory). v.held) others) in
      record {
        others =
            others ∙ (λ i. record (is i) { directory = passed.directory; journal = passed.journal; is_open = true })
            ∙ (λ i. record vault { directory = passed.directory; journal = passed.journal; held = held i; is_open = true });
        none = λ none. absurd (none-some pick (sym none ∙ picked));
        directory = λ other row found here _.
            let same : other ≡ pick = same_Some other pick (sym found ∙ picked) in
            let kept : loaded.directory ≡ vault.directory = ap (λ (v : InMemory). v.directory) is in
            ap (λ (d : Kept). apply d.directory (put_sent other row)) (sym kept)
            ∙ ap (λ (p : Pick). apply loaded.directory.directory (put_sent p row)) same
            ∙ directory row
            (subst (λ (d : Kept). IsRowAt d.stores pick.at row) (sym kept)
            (subst (λ (p : Pick). IsRowAt vault.directory.stores p.at row) same here));
        room = λ other found _. subst (λ (v : InMemory). RoomAfter 2 v.journal.room passed.journal.room) is room;
        sound = λ _. sound_passed;
        journal = λ _ told. journal (tells_too reads.same told);
        stands = λ _ told table number was.
            stands (tells_too reads.same told) table number
            (subst (λ (f : Flash). StandsFor loaded f table) (sym (reads.stays told).flash) (stands_loaded vault loaded is (means.flash old) table was));
      }

-- the pages of the record at the pick
pub charge_is : (vault : InMemory) (pick : Pick) → pick_of vault.directory.stores ≡ Some pick → charge_next vault ≡ charge_at vault pick.at pick.position
charge_is vault pick picked = ap (charge_of_pick vault) picked

-- the channel of a pick
channel_within : (row : Row) → is_lawful_row row ≡ true → IsChannel row.channel
channel_within row lawful = (least row.size row.channel row.count row.behind (is_range row.count row.range) lawful, most row.size row.channel row.count row.behind (is_range row.count row.range) lawful)
  where
    least : (size channel count behind : ℕ) (range : Bool)
        → (nat_le 1 size && nat_le size 100000 && nat_le 1 channel && nat_le channel 7 && nat_le count size && nat_le behind count && range) ≡ true → 1 ≤ channel
    least size channel count behind range is = grind (arith, nat_tests)

    most : (size channel count behind : ℕ) (range : Bool)
        → (nat_le 1 size && nat_le size 100000 && nat_le 1 channel && nat_le channel 7 && nat_le count size && nat_le behind count && range) ≡ true → channel ≤ 7
    most size channel count behind range is = grind (arith, nat_tests)

channel_of : (test : Row → Bool) (pick : (at : ℕ) → Row → Pick) (stores : List Listed) (found : Pick) → All IsListed stores
    → ((at : ℕ) (row : Row) → (pick at row).channel ≡ row.channel) → first_pick test pick 0 stores ≡ Some found → IsChannel found.channel
channel_of test pick stores found all same is =
    let first = of_first test pick 0 stores found is in
    subst IsChannel (sym (same (0 + first.at) first.listed.row) ∙ ap (λ (p : Pick). p.channel) first.is)
    (channel_within first.listed.row (all_at IsListed stores first.at first.listed all first.there).lawful)

pub picked_channel : (stores : List Listed) (pick : Pick) → All IsListed stores → pick_of stores ≡ Some pick → IsChannel pick.channel
picked_channel stores pick all picked = by (first_pick has_range range_pick 0 stores) refl picked
  where
    by : (found : Option Pick) → first_pick has_range range_pick 0 stores ≡ found → option_or found (first_pick has_ahead open_pick 0 stores) ≡ Some pick
        → IsChannel pick.channel
    by (Some other) is same = channel_of has_range range_pick stores pick all (λ at row. refl) (is ∙ same)
    by None is same = channel_of has_ahead open_pick stores pick all (λ at row. refl) same
