-- What the stores of a directory reserve, store by store.
use Rattle.std.proofs.Common.{◌≡◌, ℕ, zero, suc, ◌+◌, ◌<◌, ◌≤◌, ◌&&◌, nat_le, List, [], ◌∷◌, ◌++◌, length, drop, sym, ◌∙◌, ap, arith}
use Rattle.std.specs.Prelude.{IfSome, slice_get}
use Rattle.std.specs.List.{All, list_all}
use Rattle.std.proofs.lemmas.List.Elements.{All-head, All-tail}
use Rattle.record_view.specs.declared.link.Link.{Link}
use Rattle.store_directory.specs.Directory.{IsListed, Listed}
use Rattle.store_directory.specs.Rows.{is_lawful_row}
use Rattle.store_directory.specs.declared.row.Row.{Row}
use Rattle.store_load.proofs.Rows.{row_numbers}
use Rattle.store_load.specs.Claims.{all_links, blocks_at, is_within, reserved_at}

-- a store's size
pub size_at : (stores : List Listed) (at : ℕ) (row : Row) → All IsListed stores → at < length stores
    → IfSome (slice_get stores at) (λ s. row ≡ s.row) → row.size ≤ 100000
size_at [] at row each within is = absurd (omega arith)
size_at (s ∷ stores) zero row each within is =
    (row_numbers row (ap is_lawful_row is ∙ (All-head IsListed s stores each).lawful)).0
size_at (s ∷ stores) (suc at) row each within is = size_at stores at row (All-tail IsListed s stores each) (omega arith) is

-- the store at a place, before those behind it
pub reserved_from : (least : ℕ) (stores : List Listed) (at blocks : ℕ) → at < length stores
    → IfSome (slice_get stores at) (λ s. blocks ≡ blocks_at least s.size)
    → reserved_at least (drop at stores) ≡ blocks + reserved_at least (drop (suc at) stores)
reserved_from least [] at blocks within is = absurd (omega arith)
reserved_from least (s ∷ stores) zero blocks within is =
    ap (λ (n : ℕ). n + reserved_at least stores) (sym is)
reserved_from least (s ∷ stores) (suc at) blocks within is =
    reserved_from least stores at blocks (omega arith) is

pub links_from : (stores : List Listed) (at : ℕ) (links : List Link) → at < length stores
    → IfSome (slice_get stores at) (λ s. links ≡ s.links)
    → all_links (drop at stores) ≡ links ++ all_links (drop (suc at) stores)
links_from [] at links within is = absurd (omega arith)
links_from (s ∷ stores) zero links within is =
    ap (λ (l : List Link). l ++ all_links stores) (sym is)
links_from (s ∷ stores) (suc at) links within is = links_from stores at links (omega arith) is

-- whether a store has no more blocks than it reserves
pub within_from : (least : ℕ) (stores : List Listed) (at : ℕ) (links : List Link) (blocks : ℕ)
    → at < length stores → IfSome (slice_get stores at) (λ s. links ≡ s.links)
    → IfSome (slice_get stores at) (λ s. blocks ≡ blocks_at least s.size)
    → list_all (is_within least) (drop at stores)
    ≡ (nat_le (length links) blocks && list_all (is_within least) (drop (suc at) stores))
within_from least [] at links blocks within is are = absurd (omega arith)
within_from least (s ∷ stores) zero links blocks within is are =
    let links_are = sym is in
    let blocks_are = sym are in
    λ i. nat_le (length (links_are i)) (blocks_are i) && list_all (is_within least) stores
within_from least (s ∷ stores) (suc at) links blocks within is are =
    within_from least stores at links blocks (omega arith) is are
