-- Data of a request that is not malformed, item by item.
use Rattle.std.proofs.Common.{◌≡◌, ℕ, zero, suc, ◌+◌, ◌-◌, ◌*◌, ◌/◌, ◌%◌, ◌<◌, ◌≤◌, ◌==◌, Bool, true, false, ◌&&◌, not, List, length, drop, Option, Some, None, refl, sym, ◌∙◌, ap, arith, inl, inr}
use Rattle.std.proofs.Math.Nat.{div-add-mod', div-lt_iff_lt-mul, mod-lt, mul-le-mul_right}
use Rattle.std.proofs.lemmas.Bool.{and_from, and_left, and_parts, cases_lt, eq-eqb, eqb-true, le-leb, leb-true, lt-leb}
use Rattle.std.proofs.lemmas.Nat.{div-mul-add, mod-mul-add}
use Rattle.std.specs.Prelude.{if◌then◌else◌, nat_le, min}
use Rattle.pst_model.specs.Layouts.{RequestKind, is_wrong_in, width_of}
use Rattle.pst_model.specs.Least.{first_below}
use Rattle.pst_model.specs.Requests.{count_in, front_of, is_wrong_at, length_asked, malformed_at, place_of}
use Rattle.pst_model.proofs.KindsRead.{IsRight}
use Rattle.pst_model.proofs.Leasts.{IsLeast-below, first_below-none, first_below-some, none-below}

-- the first place, by the tests
abbrev pub first_malformed : (count whole : Bool) (at : ℕ) (wrong : Option ℕ) → Option ℕ
first_malformed count whole at wrong = if not count then Some 0 else if not whole then Some at else wrong

all_pass : (count whole : Bool) (at : ℕ) (wrong : Option ℕ) → first_malformed count whole at wrong ≡ None → (count ≡ true) × (whole ≡ true) × (wrong ≡ None)
all_pass true true at wrong is = (refl, refl, is)
all_pass true false at wrong is = absurd cc
all_pass false whole at wrong is = absurd cc

-- whether there are from 1 to 32 items
abbrev pub is_count : ℕ → Bool
is_count count = nat_le 1 count && nat_le count 32

-- Data of a request of this kind that is not malformed.
pub record IsWhole (kind : RequestKind) (body : List ℕ) : Type 0 where
  pub some : 1 ≤ count_in kind body
  pub few : count_in kind body ≤ 32
  pub long : length body ≡ length_asked kind body
  pub right : (place : ℕ) → place < length body → is_wrong_at kind body place ≡ false

pub whole-from_none : (kind : RequestKind) (body : List ℕ) → malformed_at kind body ≡ None → IsWhole kind body
whole-from_none kind body is =
    let tests = all_pass (is_count (count_in kind body)) (length body == length_asked kind body) (min (length body) (length_asked kind body)) (first_below (is_wrong_at kind body) (length body)) is in
    let count = and_parts (nat_le 1 (count_in kind body)) (nat_le (count_in kind body) 32) tests.0 in record {
      some = leb-true 1 (count_in kind body) count.0;
      few = leb-true (count_in kind body) 32 count.1;
      long = eqb-true (length body) (length_asked kind body) tests.1;
      right = none-below (is_wrong_at kind body) (length body) tests.2;
    }

pub none-from_whole : (kind : RequestKind) (body : List ℕ) → IsWhole kind body → malformed_at kind body ≡ None
none-from_whole kind body whole =
    let count : is_count (count_in kind body) ≡ true = and_from _ _ (le-leb 1 (count_in kind body) whole.some) (le-leb (count_in kind body) 32 whole.few) in
    let long : (length body == length_asked kind body) ≡ true = eq-eqb (length body) (length_asked kind body) whole.long in
    let right = first_below-none (is_wrong_at kind body) (length body) whole.right in
    ap (λ (b : Bool). first_malformed b (length body == length_asked kind body) (min (length body) (length_asked kind body)) (first_below (is_wrong_at kind body) (length body))) count
    ∙ ap (λ (b : Bool). first_malformed true b (min (length body) (length_asked kind body)) (first_below (is_wrong_at kind body) (length body))) long
    ∙ right

-- a product above a number has no factor 0
positive : (a b c : ℕ) → c < a * b → 0 < b
positive a zero c below = absurd (omega arith)
positive a (suc b) c below = omega arith

-- a place within an item
pub is_wrong_at-item : (kind : RequestKind) (body : List ℕ) (number place : ℕ) → place < width_of kind.fields
    → is_wrong_at kind body (place_of kind number + place) ≡ is_wrong_in kind.fields (drop (place_of kind number) body) place
is_wrong_at-item kind body number place within =
    let width = width_of kind.fields in
    let front = front_of kind in
    let behind : place_of kind number + place - front ≡ number * width + place = omega arith in
    let item : (place_of kind number + place - front) / width ≡ number = ap (λ (n : ℕ). n / width) behind ∙ div-mul-add number width place within in
    let inner : (place_of kind number + place - front) % width ≡ place = ap (λ (n : ℕ). n % width) behind ∙ mod-mul-add number width place within in
    let past : nat_le front (place_of kind number + place) ≡ true = le-leb front (place_of kind number + place) (omega arith) in
    ap (λ (b : Bool). b && is_wrong_in kind.fields (drop (place_of kind ((place_of kind number + place - front) / width)) body) ((place_of kind number + place - front) % width)) past
    ∙ ap (λ (n : ℕ). is_wrong_in kind.fields (drop (place_of kind n) body) ((place_of kind number + place - front) % width)) item
    ∙ ap (is_wrong_in kind.fields (drop (place_of kind number) body)) inner

-- each item's octets are right
abbrev pub HasRightItems : (kind : RequestKind) (count : ℕ) → List ℕ → Type 0
HasRightItems kind count body = (number : ℕ) → number < count → IsRight kind.fields (drop (place_of kind number) body)

pub right_items : (kind : RequestKind) (count : ℕ) (body : List ℕ) → length body ≡ place_of kind count → ((place : ℕ) → place < length body → is_wrong_at kind body place ≡ false)
    → HasRightItems kind count body
right_items kind count body long right number before place within =
    let width = width_of kind.fields in
    let next : (number + 1) * width ≤ count * width = mul-le-mul_right width (omega arith) in
    sym (is_wrong_at-item kind body number place within) ∙ right (place_of kind number + place) (omega arith)

-- before the place of an item no octet is wrong, where none is in the items before it
pub right_before : (kind : RequestKind) (count : ℕ) (body : List ℕ) → HasRightItems kind count body → (place : ℕ) → place < place_of kind count → is_wrong_at kind body place ≡ false
right_before kind count body right place before = elim (cases_lt place (front_of kind)) [
  | inl front ↦
      and_left (nat_le (front_of kind) place)
      (is_wrong_in kind.fields (drop (place_of kind ((place - front_of kind) / width_of kind.fields)) body) ((place - front_of kind) % width_of kind.fields))
      (lt-leb (front_of kind) place front)
  | inr behind ↦
      let width = width_of kind.fields in
      let inner : ℕ = place - front_of kind in
      let some : 0 < width = positive count width inner (omega arith) in
      let number = inner / width in
      let parts = div-add-mod' inner width in
      let at : place ≡ place_of kind number + inner % width = omega arith in
      ap (is_wrong_at kind body) at ∙ is_wrong_at-item kind body number (inner % width) (mod-lt inner some)
      ∙ right number ((div-lt_iff_lt-mul some).1 (omega arith)) (inner % width) (mod-lt inner some)
]

pub right_places : (kind : RequestKind) (count : ℕ) (body : List ℕ) → length body ≡ place_of kind count → HasRightItems kind count body
    → (place : ℕ) → place < length body → is_wrong_at kind body place ≡ false
right_places kind count body long right place within = right_before kind count body right place (omega arith)

-- the first wrong octet of an item is the first of all, where none is wrong in the items before it
pub first_wrong-item : (kind : RequestKind) (count number place : ℕ) (body : List ℕ) → length body ≡ place_of kind count → number < count → HasRightItems kind number body
    → first_below (is_wrong_in kind.fields (drop (place_of kind number) body)) (width_of kind.fields) ≡ Some place
    → first_below (is_wrong_at kind body) (length body) ≡ Some (place_of kind number + place)
first_wrong-item kind count number place body long among right first =
    let width = width_of kind.fields in
    let start = place_of kind number in
    let found = IsLeast-below (is_wrong_in kind.fields (drop start body)) width place first in
    let inside = found.0 in
    let next : (number + 1) * width ≤ count * width = mul-le-mul_right width (omega arith) in
    first_below-some (is_wrong_at kind body) (length body) (start + place) (omega arith) (is_wrong_at-item kind body number place inside ∙ found.1.passes)
    (λ earlier before. elim (cases_lt earlier start) [
      | inl front ↦ right_before kind number body right earlier front
      | inr behind ↦
          let at : earlier ≡ start + (earlier - start) = omega arith in
          ap (is_wrong_at kind body) at ∙ is_wrong_at-item kind body number (earlier - start) (omega arith) ∙ found.1.first (earlier - start) (omega arith)
    ])
