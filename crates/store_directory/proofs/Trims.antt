-- How many links a row takes from the front.
use Rattle.std.proofs.Common.{◌≡◌, ◌≤◌, ◌<◌, ◌+◌, ℕ, zero, suc, Bool, true, false, List, [], ◌∷◌, length, drop, refl, ap, sym, ◌∙◌, arith}
use Rattle.std.proofs.lemmas.List.Sums.{prefix_len-le-length}
use Rattle.std.specs.List.{prefix_len}
use Rattle.record_view.specs.declared.link.Link.{Link}
use Rattle.store_directory.specs.Directory.{trim_front, trimmed}
use Rattle.store_directory.specs.Rows.{is_by}

-- so many of the links behind the front one are at the record or before it
abbrev pub passed : (first : ℕ) → List Link → ℕ
passed first links = prefix_len (λ (next : Link). is_by next.first first) links

trim_front-drops : (first : ℕ) (link : Link) (links : List Link) → trim_front first link links ≡ drop (passed first links) (link ∷ links)
trim_front-drops first link [] = refl
trim_front-drops first link (next ∷ links) = by (is_by next.first first) refl (trim_front-drops first next links)
  where
    by : (test : Bool) → is_by next.first first ≡ test → trim_front first next links ≡ drop (passed first links) (next ∷ links)
        → trim_front first link (next ∷ links) ≡ drop (passed first (next ∷ links)) (link ∷ next ∷ links)
    by true is rest =
        let more : 1 + passed first links ≡ suc (passed first links) = omega arith in
        rw is (rest ∙ sym (ap (λ (count : ℕ). drop count (link ∷ next ∷ links)) more))
    by false is rest = rw is refl

pub passed-within : (first : ℕ) (links : List Link) → passed first links ≤ length links
passed-within first links = prefix_len-le-length (λ (next : Link). is_by next.first first) links

pub trimmed-drops : (first count : ℕ) (links : List Link) → 0 < count → trimmed first count links ≡ drop (passed first (drop 1 links)) links
trimmed-drops first zero links some = absurd (omega arith)
trimmed-drops first (suc count) [] some = refl
trimmed-drops first (suc count) (link ∷ links) some = trim_front-drops first link links
