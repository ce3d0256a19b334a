-- The stores of a directory as octets, store by store, and how many they are.
use Rattle.std.proofs.Common.{◌≡◌, ℕ, zero, suc, ◌+◌, ◌*◌, ◌<◌, ◌≤◌, List, [], ◌∷◌, ◌++◌, length, take, get_or, sym, ap, subst, ◌∙◌, arith, length-append}
use Rattle.std.specs.Prelude.{IfSome, Some, slice_get}
use Rattle.std.specs.List.{All}
use Rattle.std.proofs.lemmas.List.Elements.{All-head, All-tail}
use Rattle.std.proofs.lemmas.List.Folds.{length-flat_map-take}
use Rattle.std.proofs.lemmas.Option.{get_or_from_slice_get}
use Rattle.octet_fields.specs.Fields.{Writes}
use Rattle.octet_fields.proofs.Rows.{flat_map-more}
use Rattle.octet_fields.proofs.Splices.{Writes-then}
use Rattle.control_defs.specs.declared.patterns.Pattern.{Pattern}
use Rattle.record_view.specs.declared.link.Link.{Link}
use Rattle.store_directory.specs.Checkpoints.{listed_octets, stores_octets}
use Rattle.store_directory.specs.Directory.{IsListed, Listed, reserved_by}
use Rattle.store_directory.specs.Views.{listed_as}
use Rattle.store_directory.specs.Written.{WritesStores}
use Rattle.store_directory.specs.declared.row.Row.{Row}
use Rattle.store_directory.proofs.StoreTexts.{length-listed_octets}

-- a store, by what is known of its parts
pub listed-at : (stores : List Listed) (n : ℕ) (row : Row) (patterns : List Pattern) (links : List Link) → n < length stores → IfSome (slice_get stores n) (λ s. row ≡ s.row)
    → IfSome (slice_get stores n) (λ s. patterns ≡ s.patterns) → IfSome (slice_get stores n) (λ s. links ≡ s.links) → slice_get stores n ≡ Some (listed_as row patterns links)
listed-at [] n row patterns links within a b c = absurd (omega arith)
listed-at (s ∷ stores) zero row patterns links within a b c = λ i. Some (listed_as (sym a i) (sym b i) (sym c i))
listed-at (s ∷ stores) (suc n) row patterns links within a b c = listed-at stores n row patterns links (omega arith) a b c

-- how many octets stores have at most
pub few-octets : (stores : List Listed) → All IsListed stores → length (stores_octets stores) ≤ 352 * length stores + 6 * reserved_by stores
few-octets [] each = omega arith
few-octets (s ∷ stores) each =
    let listed = All-head IsListed s stores each in
    let patterns = listed.patterns.fits in
    let links = listed.links in
    let long = length-listed_octets s.row s.patterns s.links in
    let rest = few-octets stores (All-tail IsListed s stores each) in
    omega (arith, length-append (listed_octets s) (stores_octets stores), patterns, links, long, rest)

module _ (stores : List Listed) (n : ℕ) (s : Listed) (within : n < length stores) (is : slice_get stores n ≡ Some s) where
  here : get_or stores n s ≡ s
  here = get_or_from_slice_get stores n s s is

  -- there is room for it where there is for all
  pub room-for : (at place out : ℕ) → place ≡ at + length (stores_octets (take n stores)) → at + length (stores_octets stores) ≤ out → place + length (listed_octets s) ≤ out
  room-for at place out behind room =
      omega (arith, behind, room, length-flat_map-take listed_octets stores n s within, ap (λ (t : Listed). length (listed_octets t)) here)

  pub one-more : stores_octets (take (n + 1) stores) ≡ stores_octets (take n stores) ++ listed_octets s
  one-more = sym (flat_map-more listed_octets stores n s within) ∙ ap (λ (t : Listed). stores_octets (take n stores) ++ listed_octets t) here

  pub writes-more : (old mid new : List ℕ) (at place next : ℕ) → WritesStores stores n old mid at place → next ≡ place + length (listed_octets s) → Writes mid new place (listed_octets s)
      → WritesStores stores (n + 1) old new at next
  writes-more old mid new at place next so_far behind written = record {
    behind = omega (arith, behind, so_far.behind, ap length one-more, length-append (stores_octets (take n stores)) (listed_octets s));
    written = subst (λ (octets : List ℕ). Writes old new at octets) (sym one-more) (Writes-then so_far.written written so_far.behind);
  }
