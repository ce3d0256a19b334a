-- Where the first wrong octet of an item stands.
use Rattle.std.proofs.Common.{◌≡◌, ℕ, suc, ◌+◌, ◌-◌, ◌<◌, ◌≤◌, Bool, true, false, not, List, [], ◌∷◌, length, drop, Option, Some, None, refl, sym, ◌∙◌, ap, arith, below_more, subst}
use Rattle.std.proofs.lemmas.Bool.{lt-ltb, le-ltb, ltb-false, ltb-true, cond-true, cond-false}
use Rattle.std.proofs.lemmas.List.{drop-drop}
use Rattle.std.specs.List.{position_or_len}
use Rattle.std.specs.Prelude.{MatchOption, if◌then◌else◌, is_some, nat_lt}
use Rattle.pst_model.specs.Layouts.{OnePattern, RequestKind, is_wrong_in, store_field, width_of}
use Rattle.pst_model.specs.Least.{first_below, least}
use Rattle.control_defs.specs.PatternOctets.{first_wrong_in_pattern, is_wrong_in_pattern, pattern_places}
use Rattle.pst_model.specs.Requests.{is_wrong_at, place_of}
use Rattle.pst_model.proofs.KindsRead.{IsRight}
use Rattle.pst_model.proofs.Leasts.{none-below}
use Rattle.pst_model.proofs.WholeRequests.{HasRightItems, first_wrong-item}

-- a place from the front of the data is that of the first in an item, where there is one
abbrev pub IsPlace : (first : Option ℕ) (at : ℕ) → Option ℕ → Type 0
IsPlace first at found = MatchOption found (first ≡ None) (λ place. (at ≤ place) × (first ≡ Some (place - at)))

-- the first of the five places of a pattern that passes a test is the least number below 5 that does

one_place : (passes : Bool) (m n : ℕ) → m ≡ n → (if not passes then 1 + m else 0) ≡ (if passes then 0 else suc n)
one_place true m n same = refl
one_place false m n same = omega (arith, same)

least-place : (test : ℕ → Bool) → position_or_len test pattern_places ≡ least test 5
least-place test = one_place (test 0) _ _ (one_place (test 1) _ _ (one_place (test 2) _ _ (one_place (test 3) _ _ (one_place (test 4) 0 0 refl))))

-- so the first wrong octet of a pattern is found by its place
pub place_in_pattern : (octets : List ℕ) (at : ℕ) (found : Option ℕ) → IsPlace (first_wrong_in_pattern octets) at found → IsPlace (first_below (is_wrong_in_pattern octets) 5) at found
place_in_pattern octets at found is =
    subst (λ (first : Option ℕ). IsPlace first at found) (ap (λ (n : ℕ). if nat_lt n 5 then Some n else None) (least-place (is_wrong_in_pattern octets))) is

abbrev among : (number bound : ℕ) → Option ℕ
among number bound = if nat_lt number bound then Some number else None

-- two octets stand in front of a pattern
two_more : (number at : ℕ) (found : Option ℕ) → IsPlace (among number 5) (at + 2) found → IsPlace (among (suc (suc number)) 7) at found
two_more number at None none = by (nat_lt number 5) refl none
  where
    by : (below : Bool) → nat_lt number 5 ≡ below → (if below then Some number else None) ≡ None → among (suc (suc number)) 7 ≡ None
    by true below is = absurd cc
    by false below is =
        let past = ltb-false number 5 below in
        cond-false (nat_lt (suc (suc number)) 7) (Some (suc (suc number))) None (le-ltb (suc (suc number)) 7 (omega arith))
two_more number at (Some place) some = (omega (arith, some.0), by (nat_lt number 5) refl some.1)
  where
    by : (below : Bool) → nat_lt number 5 ≡ below → (if below then Some number else None) ≡ Some (place - (at + 2)) → among (suc (suc number)) 7 ≡ Some (place - at)
    by true below is =
        let lt = ltb-true number 5 below in
        let same : number ≡ place - (at + 2) = cc in
        let behind = some.0 in
        cond-true (nat_lt (suc (suc number)) 7) (Some (suc (suc number))) None (lt-ltb (suc (suc number)) 7 (omega arith)) ∙ ap Some (omega arith)
    by false below is = absurd cc

-- the first wrong octet of a store and a pattern
pub behind_store : (at : ℕ) (body : List ℕ) (found : Option ℕ) → IsPlace (first_below (is_wrong_in_pattern (drop (at + 2) body)) 5) (at + 2) found
    → IsPlace (first_below (is_wrong_in (store_field ∷ OnePattern ∷ []) (drop at body)) 7) at found
behind_store at body found is =
    two_more (least (is_wrong_in_pattern (drop 2 (drop at body))) 5) at found
    (subst (λ (octets : List ℕ). IsPlace (first_below (is_wrong_in_pattern octets) 5) (at + 2) found) (sym (drop-drop 2 at body)) is)

-- an item with a wrong octet, where the items before it have none
pub found_in_item : (kind : RequestKind) (count number at : ℕ) (body : List ℕ) (found : Option ℕ) → length body ≡ place_of kind count → number < count → HasRightItems kind number body
    → at ≡ place_of kind number → IsPlace (first_below (is_wrong_in kind.fields (drop at body)) (width_of kind.fields)) at found → is_some found ≡ true
    → found ≡ first_below (is_wrong_at kind body) (length body)
found_in_item kind count number at body None long among right here is some = absurd cc
found_in_item kind count number at body (Some place) long among right here is some =
    let inner : ℕ = place - at in
    let first : first_below (is_wrong_in kind.fields (drop (place_of kind number) body)) (width_of kind.fields) ≡ Some inner =
    subst (λ (p : ℕ). first_below (is_wrong_in kind.fields (drop p body)) (width_of kind.fields) ≡ Some inner) here is.1 in
    let behind = is.0 in
    let back : place ≡ place_of kind number + inner = omega arith in
    ap Some back ∙ sym (first_wrong-item kind count number inner body long among right first)

-- an item with none
pub none_in_item : (kind : RequestKind) (number at : ℕ) (body : List ℕ) (found : Option ℕ) → HasRightItems kind number body
    → at ≡ place_of kind number → IsPlace (first_below (is_wrong_in kind.fields (drop at body)) (width_of kind.fields)) at found → is_some found ≡ false
    → HasRightItems kind (number + 1) body
none_in_item kind number at body (Some place) right here is none = absurd cc
none_in_item kind number at body None right here is none =
    below_more _ _ right
    (subst (λ (p : ℕ). IsRight kind.fields (drop p body)) here (none-below (is_wrong_in kind.fields (drop at body)) (width_of kind.fields) is))
