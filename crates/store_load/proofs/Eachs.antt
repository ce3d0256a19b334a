-- Steps that may fail, one for each element of a list.
use Rattle.std.proofs.Common.{◌≡◌, ℕ, Bool, true, false, ◌||◌, ◌&&◌, List, [], ◌∷◌, ◌++◌, length, Option, Some, refl, sym, ◌∙◌, ap, arith}
use Rattle.std.specs.List.{list_any, list_all}
use Rattle.std.proofs.lemmas.Bool.{false≢true}
use Rattle.std.proofs.lemmas.Option.{none-some, same_Some}
use Rattle.std.specs.Prelude.{⊤}
use Rattle.store_directory.specs.Options.{◌>>=◌, given}
use Rattle.store_directory.proofs.Steps.{some_then}
use Rattle.store_load.specs.Each.{each}

-- P holds of each element
abbrev pub EachIs : {X : Type 0} → (X → Type 0) → List X → Type 0
EachIs P [] = Unit {0}
EachIs P (x ∷ xs) = P x × EachIs P xs

pub given_then : {B : Type 0} (b : Bool) (f : ⊤ → Option B) (y : B) → (given b >>= f) ≡ Some y → (b ≡ true) × (f tt ≡ Some y)
given_then true f y h = (refl, h)
given_then false f y h = absurd (none-some y h)

-- each element of a list and of its answers
each_parts : {A B : Type 0} (f : A → Option B) (x : A) (xs : List A) (ys : List B) → each f (x ∷ xs) ≡ Some ys → (y : B) × (zs : List B) × (f x ≡ Some y) × (each f xs ≡ Some zs) × (y ∷ zs ≡ ys)
each_parts {B = B} f x xs ys h =
    let (y, fx, rest) = some_then (f x) (λ (y : B). each f xs >>= λ (zs : List B). Some (y ∷ zs)) ys h in
    let (zs, fxs, last) = some_then (each f xs) (λ (zs : List B). Some (y ∷ zs)) ys rest in
    (y, zs, fx, fxs, same_Some (y ∷ zs) ys last)

pub each_cons : {A B : Type 0} (f : A → Option B) (x : A) (xs : List A) (ys : List B) → each f (x ∷ xs) ≡ Some ys → (y : B) × (zs : List B) × (f x ≡ Some y) × (each f xs ≡ Some zs) × (y ∷ zs ≡ ys)
each_cons = each_parts

pub each_more : {A B : Type 0} (f : A → Option B) (x : A) (xs : List A) (y : B) (ys : List B) → f x ≡ Some y → each f xs ≡ Some ys → each f (x ∷ xs) ≡ Some (y ∷ ys)
each_more f x xs y ys fx fxs = rw fx (rw fxs refl)

-- where P holds of each element, one function answers as the other did
pub each_same : {A B : Type 0} (P : A → Type 0) (f g : A → Option B) → ((x : A) (y : B) → P x → f x ≡ Some y → g x ≡ Some y)
    → (xs : List A) (ys : List B) → EachIs P xs → each f xs ≡ Some ys → each g xs ≡ Some ys
each_same P f g same [] ys all h = h
each_same P f g same (x ∷ xs) ys all h =
    let (y, zs, fx, fxs, whole) = each_parts f x xs ys h in
    each_more g x xs y zs (same x y all.0 fx) (each_same P f g same xs zs all.1 fxs) ∙ ap Some whole

-- the answers to a list with an element in it
pub record Parted {A B : Type 0} (f : A → Option B) (front : List A) (x : A) (back : List A) (ys : List B) : Type 0 where
  pub fronts : List B
  pub here : B
  pub backs : List B
  pub in_front : each f front ≡ Some fronts
  pub answer : f x ≡ Some here
  pub behind : each f back ≡ Some backs
  pub whole : fronts ++ here ∷ backs ≡ ys

pub each_parted : {A B : Type 0} (f : A → Option B) (front : List A) (x : A) (back : List A) (ys : List B) → each f (front ++ x ∷ back) ≡ Some ys → Parted f front x back ys
each_parted f [] x back ys h =
    let (y, zs, fx, fxs, whole) = each_parts f x back ys h in
    record { fronts = []; here = y; backs = zs; in_front = refl; answer = fx; behind = fxs; whole = whole }
each_parted f (a ∷ front) x back ys h =
    let (y, zs, fx, fxs, whole) = each_parts f a (front ++ x ∷ back) ys h in
    let rest = each_parted f front x back zs fxs in
    record {
      fronts = y ∷ rest.fronts;
      here = rest.here;
      backs = rest.backs;
      in_front = each_more f a front y rest.fronts fx rest.in_front;
      answer = rest.answer;
      behind = rest.behind;
      whole = ap (λ l. y ∷ l) rest.whole ∙ whole;
    }

pub each_joined : {A B : Type 0} (f : A → Option B) (front : List A) (x : A) (back : List A) (ys : List B) (y : B) (zs : List B)
    → each f front ≡ Some ys → f x ≡ Some y → each f back ≡ Some zs → each f (front ++ x ∷ back) ≡ Some (ys ++ y ∷ zs)
each_joined f [] x back ys y zs a here b =
    let none : [] ≡ ys = same_Some [] ys a in
    each_more f x back y zs here b ∙ ap (λ l. Some (l ++ y ∷ zs)) none
each_joined f (first ∷ front) x back ys y zs a here b =
    let (w, ws, fw, fws, whole) = each_parts f first front ys a in
    each_more f first (front ++ x ∷ back) w (ws ++ y ∷ zs) fw (each_joined f front x back ws y zs fws here b) ∙ ap (λ l. Some (l ++ y ∷ zs)) whole

-- as many answers as elements
pub each_length : {A B : Type 0} (f : A → Option B) (xs : List A) (ys : List B) → each f xs ≡ Some ys → length ys ≡ length xs
each_length f [] ys h = sym (ap length (same_Some [] ys h))
each_length f (x ∷ xs) ys h =
    let (y, zs, fx, fxs, whole) = each_parts f x xs ys h in
    let rest = each_length f xs zs fxs in
    sym (ap length whole) ∙ omega (arith, rest)

pub in_either : (b c : Bool) → b ≡ true → (b || c) ≡ true
in_either true c h = refl
in_either false c h = absurd (false≢true h)

pub in_other : (b c : Bool) → c ≡ true → (b || c) ≡ true
in_other true c h = refl
in_other false c h = h

-- what holds wherever some element passes holds wherever any one does
pub all_of_any : {X : Type 0} (test : ℕ → X → Bool) (P : ℕ → Type 0) (xs : List X) → ((p : ℕ) → list_any (test p) xs ≡ true → P p) → EachIs (λ x. (p : ℕ) → test p x ≡ true → P p) xs
all_of_any test P [] h = tt
all_of_any test P (x ∷ xs) h =
    ((λ p t. h p (in_either (test p x) (list_any (test p) xs) t)), all_of_any test P xs (λ p t. h p (in_other (test p x) (list_any (test p) xs) t)))

-- where some element passes, and each that passes gives P
pub any_of : {X : Type 0} (test : X → Bool) (P : Type 0) (xs : List X) → EachIs (λ x. test x ≡ true → P) xs → list_any test xs ≡ true → P
any_of test P [] each h = absurd (false≢true h)
any_of test P (x ∷ xs) each h = pick (test x) (list_any test xs) each.0 (any_of test P xs each.1) h
  where
    pick : (b c : Bool) → (b ≡ true → P) → (c ≡ true → P) → (b || c) ≡ true → P
    pick true c f g e = f refl
    pick false c f g e = g e

-- both of two tests
pub one : (b c : Bool) → (b && c) ≡ true → b ≡ true
one true c h = refl
one false c h = h

pub two : (b c : Bool) → (b && c) ≡ true → c ≡ true
two true c h = h
two false c h = absurd (false≢true h)

pub both : (b c : Bool) → b ≡ true → c ≡ true → (b && c) ≡ true
both true c h k = k
both false c h k = absurd (false≢true h)

pub all_each : {X : Type 0} (test : X → Bool) (xs : List X) → list_all test xs ≡ true → EachIs (λ x. test x ≡ true) xs
all_each test [] h = tt
all_each test (x ∷ xs) h = (one (test x) (list_all test xs) h, all_each test xs (two (test x) (list_all test xs) h))

pub each_all : {X : Type 0} (test : X → Bool) (xs : List X) → EachIs (λ x. test x ≡ true) xs → list_all test xs ≡ true
each_all test [] h = refl
each_all test (x ∷ xs) h = both (test x) (list_all test xs) h.0 (each_all test xs h.1)

pub each_weaker : {X : Type 0} (P Q : X → Type 0) → ((x : X) → P x → Q x) → (xs : List X) → EachIs P xs → EachIs Q xs
each_weaker P Q f [] h = tt
each_weaker P Q f (x ∷ xs) h = (f x h.0, each_weaker P Q f xs h.1)

pub each_both : {X : Type 0} (P Q R : X → Type 0) → ((x : X) → P x → Q x → R x) → (xs : List X) → EachIs P xs → EachIs Q xs → EachIs R xs
each_both P Q R f [] p q = tt
each_both P Q R f (x ∷ xs) p q = (f x p.0 q.0, each_both P Q R f xs p.1 q.1)

pub each_front : {X : Type 0} (P : X → Type 0) (front back : List X) → EachIs P (front ++ back) → EachIs P front
each_front P [] back h = tt
each_front P (x ∷ front) back h = (h.0, each_front P front back h.1)

pub each_back : {X : Type 0} (P : X → Type 0) (front back : List X) → EachIs P (front ++ back) → EachIs P back
each_back P [] back h = h
each_back P (x ∷ front) back h = each_back P front back h.1

pub each_append : {X : Type 0} (P : X → Type 0) (front back : List X) → EachIs P front → EachIs P back → EachIs P (front ++ back)
each_append P [] back h k = k
each_append P (x ∷ front) back h k = (h.0, each_append P front back h.1 k)
