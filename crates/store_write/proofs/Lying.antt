-- Where the records of a store's last block lie, and the index of a store whose last block is renewed.
use Rattle.std.proofs.Common.{◌≡◌, ℕ, ◌<◌, ◌≤◌, ◌==◌, not, Bool, true, false, List, [], ◌∷◌, All, map}
use Rattle.std.proofs.Common.{Some, sym, ◌∙◌, ap, subst, arith}
use Rattle.std.specs.Prelude.{◌≢◌, if◌then◌else◌}
use Rattle.std.proofs.lemmas.Bool.{and_parts}
use Rattle.std.proofs.lemmas.List.Elements.{All-cons, All-drop, All-head, All-nil, All-tail}
use Rattle.std.proofs.lemmas.Option.{same_Some}
use Rattle.record_view.specs.Records.{Meaning, number_after}
use Rattle.record_view.specs.declared.link.Link.{Link}
use Rattle.store_directory.specs.Directory.{is_new, swap_last}
use Rattle.store_directory.specs.Rows.{is_by}
use Rattle.store_directory.specs.declared.row.Row.{Row}
use Rattle.store_load.specs.Claims.{block_of}
use Rattle.store_load.specs.InRange.{AreInBlocks, AreInLinks, IsInRange, block_for}
use Rattle.store_load.specs.Keeping.{IsInDevice, Keeps}
use Rattle.store_load.specs.Loaded.{index_of, used_in}
use Rattle.store_load.specs.Moving.{SpellsLast}
use Rattle.store_load.specs.declared.rule.Rule.{Rule}
use Rattle.store_load.proofs.SwappedIndexes.{alone_indexed, alone_used, swapped_indexed, swapped_used}
use Rattle.time_index.specs.TimeIndex.{TimeIndex, pages_of}
use Rattle.time_index.specs.declared.entry.Entry.{Entry}
use Rattle.store_write.specs.Moved.{IsElsewhere, IsInPlace}
use Rattle.store_write.specs.Renewed.{last_entries, renewed_index, renewed_link}
use Rattle.store_write.proofs.Spelling.{live_alone, not_there}

-- what holds of the block of each link holds of the block of each entry
module _ (P : ℕ → Type 0) where
  abbrev OfLink : Link → Type 0
  OfLink link = P link.block

  abbrev OfEntry : Entry → Type 0
  OfEntry entry = P entry.block

  block_is : (number : ℕ) (link : Link) (links : List Link) → All OfLink (link ∷ links)
      → P (block_for number link links)
  block_is number link [] all = All-head OfLink link [] all
  block_is number link (next ∷ links) all =
      pick (is_by next.first number)
      (block_is number next links (All-tail OfLink link (next ∷ links) all))
    where
      pick : (t : Bool) → P (block_for number next links)
          → P (if t then block_for number next links else link.block)
      pick true behind = behind
      pick false behind = All-head OfLink link (next ∷ links) all

  in_blocks : (number : ℕ) (link : Link) (links : List Link) (entries : List Entry)
      → All OfLink (link ∷ links) → AreInBlocks number link links entries → All OfEntry entries
  in_blocks number link links [] all are = All-nil OfEntry
  in_blocks number link links (e ∷ entries) all are =
      All-cons OfEntry e entries (subst P (sym are.0) (block_is number link links all))
      (in_blocks (number_after number) link links entries all are.1)

  pub in_links : (number : ℕ) (links : List Link) (entries : List Entry) → All OfLink links
      → AreInLinks number links entries → All OfEntry entries
  in_links number [] entries all are = subst (All OfEntry) (sym are) (All-nil OfEntry)
  in_links number (link ∷ links) entries all are = in_blocks number link links entries all are

-- a new block is that of no link
all_apart : (fresh : ℕ) (links : List Link) → is_new fresh (map block_of links) ≡ true
    → All (λ (l : Link). l.block ≢ fresh) links
all_apart fresh [] new = All-nil (λ (l : Link). l.block ≢ fresh)
all_apart fresh (link ∷ links) new =
    let parts = and_parts (not (fresh == link.block)) (is_new fresh (map block_of links)) new in
    All-cons (λ (l : Link). l.block ≢ fresh) link links (not_there fresh link.block parts.0)
    (all_apart fresh links parts.1)

module _ (rule : Rule) (now : ℕ) (row : Row) (links : List Link) (index : TimeIndex) (used : ℕ)
    (range : IsInRange rule now row links index used) where
  pub elsewhere : (fresh : ℕ) → is_new fresh (map block_of links) ≡ true
      → All (IsElsewhere fresh) (last_entries row links index)
  elsewhere fresh new =
      All-drop (IsElsewhere fresh) _ index.entries
      (in_links (λ (b : ℕ). b ≢ fresh) row.first links index.entries (all_apart fresh links new)
      range.blocks)

  pub in_place : (blocks : ℕ) → rule.largest ≤ 4096 → All (IsInDevice blocks) links
      → All (IsInPlace blocks) (last_entries row links index)
  in_place blocks short own =
      let inside = in_links (λ (b : ℕ). b < blocks) row.first links index.entries own range.blocks in
      All-drop (IsInPlace blocks) _ index.entries
      (λ i d lt.
      let placed = range.placed i d lt in
      record {
        block = inside i d lt;
        within = placed.within;
        shortest = placed.shortest;
        longest = omega (arith, short, placed.longest);
      })

-- the index behind a renewal, and the pages that its last block uses
pub renewed_indexed : (rule : Rule) (blocks : ℕ) (image : ℕ → List ℕ) (now : ℕ) (row : Row)
    (links swapped : List Link) (records : List Meaning) (index : TimeIndex) (fresh : ℕ)
    → Keeps rule blocks image now row links records
    → index_of rule image now row links ≡ Some index
    → SpellsLast image row links (renewed_link row links fresh)
    → swap_last (renewed_link row links fresh) links ≡ Some swapped
    → (index_of rule image now row swapped ≡ Some (renewed_index row links fresh index))
    × (used_in image row swapped ≡ pages_of (last_entries row links index))
renewed_indexed rule blocks image now row [] swapped records index fresh keeps is spells made =
    absurd spells
renewed_indexed rule blocks image now row (link ∷ []) swapped records index fresh keeps is spells
    made =
    let new = renewed_link row (link ∷ []) fresh in
    let read = spells.1 ∙ live_alone rule image now row link records keeps.kept in
    let are : new ∷ [] ≡ swapped = same_Some (new ∷ []) swapped made in (
      ap (index_of rule image now row) (sym are)
          ∙ alone_indexed rule blocks image now row link new records index keeps is spells.0 read,
      ap (used_in image row) (sym are)
          ∙ alone_used rule blocks image now row link new records index keeps is read,
    )
renewed_indexed rule blocks image now row (link ∷ next ∷ links) swapped records index fresh keeps is
    spells made =
    let new = renewed_link row (link ∷ next ∷ links) fresh in (
      swapped_indexed rule blocks image now row link next links records index keeps is new swapped
          made spells.0 spells.1,
      swapped_used rule blocks image now row link next links records index keeps is new swapped made
          spells.1,
    )
