-- Octets between two places of a buffer, and what a step of either place, a move or a write leaves there.
use Rattle.std.proofs.Common.{◌≡◌, ℕ, ◌+◌, ◌-◌, ◌≤◌, List, ◌++◌, length, take, drop, sym, ap, ◌∙◌, arith, append_assoc, length-append, length-take, length-drop}
use Rattle.std.proofs.lemmas.List.{with_items_is, drop-drop, take_at, take-append-drop, drop-append-le}
use Rattle.std.proofs.lemmas.Slice.{between_is}
use Rattle.std.specs.List.{copy_within}
use Rattle.std.specs.Prelude.{slice_range, Vec, Result, Ok, Err, OnErr}
use Rattle.std.specs.Vec.{with_items}
use borrow.Rule.Slice.PartMut.{put_mid, same_len_mid}

-- These octets stand between the two places.
pub record Stands (octets : List ℕ) (start end : ℕ) (held : List ℕ) : Type 0 where
  pub order : start ≤ end
  pub within : end ≤ length octets
  pub between : slice_range octets start end ≡ held

-- the first octets are dropped
pub slice_range-skipped : (octets : List ℕ) (start count end : ℕ) → slice_range octets (start + count) end ≡ drop count (slice_range octets start end)
slice_range-skipped octets start count end =
    between_is octets (start + count) end ∙ sym (drop-drop count start (take end octets)) ∙ ap (drop count) (sym (between_is octets start end))

-- they are moved to the front
pub Stands-moved : (octets : List ℕ) (start end : ℕ) (held : List ℕ) → Stands octets start end held → Stands (copy_within octets start end 0) 0 (end - start) held
Stands-moved octets start end held stands =
    let order = stands.order in
    let within = stands.within in
    let count : length (slice_range octets start end) ≡ end - start = omega (arith, length-take (end - start) (drop start octets), length-drop start octets) in
    let total = length-append (slice_range octets start end) (drop (0 + (end - start)) octets) in record {
      order = omega arith;
      within = omega (arith, count, total);
      between =
          between_is (copy_within octets start end 0) 0 (end - start)
          ∙ take_at (slice_range octets start end) (drop (0 + (end - start)) octets) (end - start) count ∙ stands.between;
    }

-- a write behind them changes nothing
pub Stands-kept : (octets rest : List ℕ) (start end : ℕ) (held : List ℕ) → Stands octets start end held → slice_range (take end octets ++ rest) start end ≡ held
Stands-kept octets rest start end held stands =
    let within = stands.within in
    between_is (take end octets ++ rest) start end
    ∙ ap (drop start) (take_at (take end octets) rest end (omega (arith, length-take end octets)))
    ∙ sym (between_is octets start end) ∙ stands.between

-- the first octets of a write behind them are gained
pub Stands-gained : (octets part rest : List ℕ) (start end count : ℕ) (held : List ℕ) → Stands octets start end held → count ≤ length part
    → slice_range (take end octets ++ (part ++ rest)) start (end + count) ≡ held ++ take count part
Stands-gained octets part rest start end count held stands fits =
    let order = stands.order in
    let within = stands.within in
    let front : length (take end octets) ≡ end = omega (arith, length-take end octets) in
    let gained : length (take count part) ≡ count = omega (arith, length-take count part) in
    let split : part ++ rest ≡ take count part ++ (drop count part ++ rest) =
    ap (λ (l : List ℕ). l ++ rest) (sym (take-append-drop count part)) ∙ append_assoc (take count part) (drop count part) rest in
    between_is (take end octets ++ (part ++ rest)) start (end + count)
    ∙ ap (λ (l : List ℕ). drop start (take (end + count) (take end octets ++ l))) split
    ∙ ap (λ (l : List ℕ). drop start (take (end + count) l)) (sym (append_assoc (take end octets) (take count part) (drop count part ++ rest)))
    ∙ ap (drop start) (take_at (take end octets ++ take count part) (drop count part ++ rest) (end + count) (omega (arith, length-append (take end octets) (take count part))))
    ∙ drop-append-le start (take end octets) (take count part) (omega arith)
    ∙ ap (λ (l : List ℕ). l ++ take count part) (sym (between_is octets start end) ∙ stands.between)

-- what a vector holds after a write behind a place
pub items-put : {Z : Type 0} (octets : Vec ℕ Z) (end : ℕ) (items part : List ℕ) → length items ≡ octets.len
    → length part ≡ length (take (length items - end) (drop end items)) → end ≤ length items
    → (with_items octets (put_mid end (length items - end) items part)).items ≡ put_mid end (length items - end) items part
items-put octets end items part size same within = with_items_is octets (put_mid end (length items - end) items part) (same_len_mid end (length items - end) items part same ∙ size)

pub on_err : {T E P : Type 0} (result : Result T E) → P → OnErr result P
on_err (Ok value) p = tt
on_err (Err why) p = p
