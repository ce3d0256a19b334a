-- Stored packets and the entries that show them.
use Rattle.std.proofs.Common.{◌≡◌, ℕ, List, [], ◌∷◌, length, drop, ap, ◌∙◌, arith, refl, sym}
use Rattle.std.proofs.lemmas.List.{drop-map, length-map}
use Rattle.std.proofs.lemmas.List.Sums.{sum_by-cons}
use Rattle.std.specs.Prelude.{map, sum_by}
use Rattle.space_packet.specs.Charge.{charge_of}
use Rattle.pst_model.specs.Table.{Stored, content_in}
use Rattle.store_policy.specs.Shown.{AreIndexed, length_of, octets_in}
use Rattle.time_index.proofs.Entries.{cost}
use Rattle.time_index.specs.TimeIndex.{pages_of}
use Rattle.time_index.specs.declared.entry.Entry.{Entry}

pub content-sum : (packets : List Stored) → content_in packets ≡ sum_by charge_of (map octets_in packets)
content-sum [] = refl
content-sum (stored ∷ packets) =
    omega (arith, content-sum packets, sum_by-cons charge_of (octets_in stored) (map octets_in packets))

pub pages-sum : (entries : List Entry) → pages_of entries ≡ sum_by charge_of (map length_of entries)
pages-sum [] = refl
pages-sum (entry ∷ entries) =
    omega (arith, pages-sum entries, sum_by-cons cost entry entries, sum_by-cons charge_of (length_of entry) (map length_of entries))

module _ (packets : List Stored) (entries : List Entry) (shown : AreIndexed packets entries) where
  -- what is left behind so many packets costs what the entries say
  pub content-behind : (n : ℕ) → content_in (drop n packets) ≡ pages_of (drop n entries)
  content-behind n =
      content-sum (drop n packets)
      ∙ ap (sum_by charge_of) (sym (drop-map octets_in n packets) ∙ ap (drop n) shown.lengths ∙ drop-map length_of n entries)
      ∙ sym (pages-sum (drop n entries))

  pub packets-counted : length packets ≡ length entries
  packets-counted = sym (length-map packets octets_in) ∙ ap length shown.lengths ∙ length-map entries length_of
