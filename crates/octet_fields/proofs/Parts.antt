-- What is made of the same parts is the same.
use Rattle.std.proofs.Common.{◌≡◌, refl}

pub same_pair : {A B : Type 0} {a b : A} {x y : B} → a ≡ b → x ≡ y → ◌≡◌ {A = A × B} (a, x) (b, y)
same_pair first second = rw (first, second) refl

pub same_two : {A B C : Type 0} (f : A → B → C) {a b : A} {x y : B} → a ≡ b → x ≡ y → f a x ≡ f b y
same_two f first second = rw (first, second) refl

pub same_three : {A B C D : Type 0} (f : A → B → C → D) {a b : A} {x y : B} {m n : C}
    → a ≡ b → x ≡ y → m ≡ n → f a x m ≡ f b y n
same_three f first second third = rw (first, second, third) refl

pub same_four : {A B C D E : Type 0} (f : A → B → C → D → E) {a b : A} {x y : B} {m n : C} {p q : D}
    → a ≡ b → x ≡ y → m ≡ n → p ≡ q → f a x m p ≡ f b y n q
same_four f first second third fourth = rw (first, second, third, fourth) refl
