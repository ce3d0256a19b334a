-- The change that begins a text, where octets go or come behind it.
use Rattle.std.proofs.Common.{◌≡◌, ℕ, ◌≤◌, ◌&&◌, true, false, Bool, nat_le, List, ◌++◌, length, take, slice_index, Some, None, refl, sym, ap, ◌∙◌, arith, length-append, length-take}
use Rattle.std.specs.Prelude.{if◌then◌else◌}
use Rattle.std.proofs.lemmas.Bool.{and_from, and_parts, cond-true, le-leb, leb-true}
use Rattle.std.proofs.lemmas.Option.{none-some}
use Rattle.std.proofs.lemmas.List.{get_or-take, take-append-le, take-take, take_all}
use Rattle.store_directory.specs.Changes.{Change}
use Rattle.store_directory.specs.Entries.{change_by, change_in, width_by, width_in}
use Rattle.store_directory.proofs.Widths.{width_by-from_take, width_by-take}

-- a change begins a text and is whole
pub record BeginsWith (text : List ℕ) (change : Change) : Type 0 where
  pub some : 1 ≤ width_in text
  pub within : width_in text ≤ length text
  pub spelled : change_by (slice_index text 0) (take (width_in text) text) ≡ Some change

pub begins-from : (text : List ℕ) (change : Change) → change_in text ≡ Some change → BeginsWith text change
unfolding change_in
begins-from text change is = by (nat_le 1 (width_in text) && nat_le (width_in text) (length text)) refl is
  where
    by : (whole : Bool) → (nat_le 1 (width_in text) && nat_le (width_in text) (length text)) ≡ whole
        → (if whole then change_by (slice_index text 0) (take (width_in text) text) else None) ≡ Some change → BeginsWith text change
    by true whole is =
        let both = and_parts (nat_le 1 (width_in text)) (nat_le (width_in text) (length text)) whole in
        record { some = leb-true 1 (width_in text) both.0; within = leb-true (width_in text) (length text) both.1; spelled = is }
    by false whole is = absurd (none-some change is)

pub change_in-from : (text : List ℕ) (change : Change) → BeginsWith text change → change_in text ≡ Some change
unfolding change_in
change_in-from text change begins =
    cond-true (nat_le 1 (width_in text) && nat_le (width_in text) (length text)) (change_by (slice_index text 0) (take (width_in text) text)) None
    (and_from (nat_le 1 (width_in text)) (nat_le (width_in text) (length text)) (le-leb 1 (width_in text) begins.some) (le-leb (width_in text) (length text) begins.within))
    ∙ begins.spelled

-- a change that is all of a text
pub change_in-whole : (text : List ℕ) (change : Change) → 1 ≤ length text → width_in text ≡ length text → change_by (slice_index text 0) text ≡ Some change → change_in text ≡ Some change
change_in-whole text change some whole spelled =
    change_in-from text change
    (record {
      some = omega arith;
      within = omega arith;
      spelled = ap (change_by (slice_index text 0)) (take_all (width_in text) text (omega arith)) ∙ spelled;
    })

-- The same change begins another text that has the same octets in front.
pub record Begins_too (text other : List ℕ) (change : Change) : Type 0 where
  pub width : width_in other ≡ width_in text
  pub spelled : change_in other ≡ Some change

same_begin : (text other : List ℕ) (change : Change) → change_in text ≡ Some change → width_in text ≤ length other
    → take (width_in text) other ≡ take (width_in text) text → Begins_too text other change
unfolding width_in
same_begin text other change is long front =
    let begins = begins-from text change is in
    let some = begins.some in
    let width : ℕ = width_in text in
    let tag : slice_index other 0 ≡ slice_index text 0 =
    sym (get_or-take width other 0 0 (omega arith)) ∙ ap (λ (octets : List ℕ). slice_index octets 0) front ∙ get_or-take width text 0 0 (omega arith) in
    let here : width_by (slice_index other 0) (take width other) ≡ width =
    (λ i. width_by (tag i) (front i)) ∙ width_by-take (slice_index text 0) width text refl in
    let same : width_in other ≡ width = width_by-from_take (slice_index other 0) width other here in
    record {
      width = same;
      spelled = change_in-from other change (record {
        some = omega arith;
        within = omega arith;
        spelled = ap (λ (n : ℕ). change_by (slice_index other 0) (take n other)) same ∙ (λ i. change_by (tag i) (front i)) ∙ begins.spelled;
      });
    }

pub change_in-append : (text rest : List ℕ) (change : Change) → change_in text ≡ Some change → Begins_too text (text ++ rest) change
change_in-append text rest change is =
    let within = (begins-from text change is).within in
    same_begin text (text ++ rest) change is (omega (arith, length-append text rest)) (take-append-le (width_in text) text rest within)

pub change_in-take : (text : List ℕ) (long : ℕ) (change : Change) → change_in text ≡ Some change → width_in text ≤ long → Begins_too text (take long text) change
change_in-take text long change is room =
    let within = (begins-from text change is).within in
    same_begin text (take long text) change is (omega (arith, length-take long text)) (take-take (width_in text) long text room)
