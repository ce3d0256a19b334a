-- Blocks of stores while the pages of one block are written.
use Rattle.std.proofs.Common.{◌≡◌, ◌⊎◌, inl, inr, ℕ, ◌+◌, ◌*◌, ◌<◌, ◌≤◌, ◌==◌, ◌&&◌, not, nat_le, nat_lt, Bool, true, false, List, [], ◌∷◌, length, map, eq-eqb, Some, refl, sym, ◌∙◌, subst, arith}
use Rattle.std.specs.Prelude.{slice_get}
use Rattle.std.proofs.lemmas.Bool.{and_parts, cases_lt, false≢true}
use Rattle.std.proofs.lemmas.Option.{none-some, same_Some}
use Rattle.board.specs.Flash.{Flash, pages_from}
use Rattle.board.specs.Touches.{KeptElsewhere}
use Rattle.board.proofs.Pages.{above_pages, below_pages}
use Rattle.chain_log.specs.Pages.{IsCleanFrom}
use Rattle.put_laws.specs.Puts.{last_link}
use Rattle.record_view.specs.declared.link.Link.{Link}
use Rattle.store_directory.specs.Directory.{Listed, is_new}
use Rattle.store_load.specs.Claims.{all_links, block_of}
use Rattle.store_load.specs.Extents.{last_of}
use Rattle.store_put.specs.Pools.{is_unlinked}
use Rattle.vault.specs.Standing.{IsCleanBehind}

-- the last of some links, at its place
pub last_at : (link : Link) (links : List Link) → slice_get (link ∷ links) (length links) ≡ Some (last_of link links)
last_at link [] = refl
last_at link (next ∷ links) = last_at next links

-- the same last block
pub clean_by_last : (flash : Flash) (links others : List Link) (used : ℕ) → last_link others ≡ last_link links → IsCleanBehind flash links used
    → IsCleanBehind flash others used
clean_by_last flash links [] used same clean = tt
clean_by_last flash [] (other ∷ others) used same clean = absurd (none-some (last_of other others) (sym same))
clean_by_last flash (link ∷ links) (other ∷ others) used same clean =
    let is = same_Some (last_of other others) (last_of link links) same in
    subst (λ (l : Link). IsCleanFrom flash l.block used) (sym is) clean

pub clean_by_one : (flash : Flash) (links : List Link) (link : Link) (used : ℕ) → last_link links ≡ Some link → IsCleanFrom flash link.block used
    → IsCleanBehind flash links used
clean_by_one flash links link used same clean = clean_by_last flash (link ∷ []) links used same clean

-- a block whose pages were not written stays clean
pub clean_kept : (these : ℕ → Bool) (old new : Flash) (block used : ℕ) → KeptElsewhere these old new
    → ((q : ℕ) → q < 256 → these (256 * block + q) ≡ false) → IsCleanFrom old block used → IsCleanFrom new block used
clean_kept these old new block used kept out clean = λ q low high.
    let was = clean q low high in
    (kept.erased (256 * block + q) (out q high) ∙ was.0, kept.firm (256 * block + q) (out q high) was.1)

-- pages of one block are none of another
pub other_pages : (first from count block q : ℕ) → (first ≡ block → ⊥) → from + count ≤ 256 → q < 256 → pages_from (256 * first + from) count (256 * block + q) ≡ false
other_pages first from count block q differs few high = elim (apart first block differs) [
  | inl less ↦ above_pages (256 * first + from) count (256 * block + q) (omega arith)
  | inr more ↦ below_pages (256 * first + from) count (256 * block + q) (omega arith)
]
  where
    apart : (a b : ℕ) → (a ≡ b → ⊥) → (a < b) ⊎ (b < a)
    apart a b ne = elim (cases_lt a b) [ inl lt ↦ inl lt | inr ge ↦ elim (cases_lt b a) [ inl lt ↦ inr lt | inr le ↦ absurd (ne (omega arith)) ] ]

pub not_same : (b : Bool) → not b ≡ true → b ≡ true → ⊥
not_same true h is = false≢true h
not_same false h is = false≢true is

-- a number that is new to links is none of their blocks
pub new_last : (block : ℕ) (link : Link) (links : List Link) → is_new block (map block_of (link ∷ links)) ≡ true → block ≡ (last_of link links).block → ⊥
new_last block link [] new is =
    let parts = and_parts (not (block == link.block)) true new in not_same (block == link.block) parts.0 (eq-eqb block link.block is)
new_last block link (next ∷ links) new is =
    new_last block next links (and_parts (not (block == link.block)) (is_new block (map block_of (next ∷ links))) new).1 is

pub clean_of_other : (these : ℕ → Bool) (old new : Flash) (block : ℕ) (links : List Link) (used : ℕ) → KeptElsewhere these old new
    → ((other q : ℕ) → (block ≡ other → ⊥) → q < 256 → these (256 * other + q) ≡ false) → is_new block (map block_of links) ≡ true
    → IsCleanBehind old links used → IsCleanBehind new links used
clean_of_other these old new block [] used kept out fresh clean = tt
clean_of_other these old new block (link ∷ links) used kept out fresh clean =
    clean_kept these old new (last_of link links).block used kept (λ q high. out (last_of link links).block q (new_last block link links fresh) high) clean

pub unlinked_new : (blocks : ℕ) (stores : List Listed) (block : ℕ) → is_unlinked blocks stores block ≡ true → is_new block (map block_of (all_links stores)) ≡ true
unlinked_new blocks stores block is = (and_parts (nat_le 7 block && nat_lt block blocks) (is_new block (map block_of (all_links stores))) is).1
