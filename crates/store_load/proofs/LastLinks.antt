-- A link behind the others, of whose block no record counts yet.
use Rattle.std.proofs.Common.{◌≡◌, ℕ, ◌<◌, List, [], ◌∷◌, ◌++◌, Some, refl, ◌∙◌, ap, arith}
use Rattle.chain_log.specs.Pages.{block_octets}
use Rattle.record_view.specs.declared.link.Link.{Link}
use Rattle.store_directory.specs.Rows.{between}
use Rattle.store_directory.specs.declared.row.Row.{Row}
use Rattle.store_load.specs.Extents.{end_of, extent_to, last_of, read_extent}
use Rattle.store_load.specs.Frame.{pages_read}
use Rattle.store_load.specs.Moving.{used_by}
use Rattle.store_load.proofs.Records.{records_none}

pub last_more : (link : Link) (links : List Link) (new : Link) → last_of link (links ++ new ∷ []) ≡ new
last_more link [] new = refl
last_more link (next ∷ links) new = last_more next links new

pub none_between : (a end : ℕ) → a ≡ end → end < 4294967296 → between a end ≡ 0
none_between a end same low = omega (arith, same, low)

pub empty : (image : ℕ → List ℕ) (end : ℕ) (link : Link) → between link.first end ≡ 0 → read_extent image (extent_to end link) ≡ Some []
unfolding read_extent
empty image end link none =
    ap (λ (n : ℕ). read_extent image (record { block = link.block; first = link.first; count = n })) none
    ∙ records_none (block_octets image link.block) link.first 0

pub used_none : (image : ℕ → List ℕ) (row : Row) (link : Link) (links : List Link) (new : Link) → new.first ≡ end_of row
    → used_by image row link (links ++ new ∷ []) ≡ 0
used_none image row link links new same =
    ap (λ (l : Link). pages_read (read_extent image (extent_to (end_of row) l))) (last_more link links new)
    ∙ ap pages_read (empty image (end_of row) new (none_between new.first (end_of row) same (omega arith)))
