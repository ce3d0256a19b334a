-- What one pattern covers of another, and keys that tell patterns apart.
use Rattle.std.proofs.Common.{◌≡◌, ℕ, suc, zero, ◌≤◌, true, false, ◌==◌, ◌&&◌, Option, Some, None, refl, sym, arith, eq-eqb}
use Rattle.std.proofs.lemmas.Bool.{and_from, and_parts, eqb-true, ne_eqb}
use Rattle.control_defs.specs.declared.keys.Key.{Key}
use Rattle.control_defs.specs.declared.patterns.Pattern.{Pattern}
use Rattle.control_defs.specs.declared.patterns.Pattern.TheVariants.{Every, App, Service, Kind}
use Rattle.control_defs.specs.Patterns.{HasPatternOctets, IsKey, IsPattern, covers, is_of_kind, is_of_service, pattern_covers}

same : (a : ℕ) → (a == a) ≡ true
same a = eq-eqb a a refl

turned : (a b : ℕ) → (b == a) ≡ true → (a == b) ≡ true
turned a b h = eq-eqb a b (sym (eqb-true b a h))

of_service_of_kind : (kind : Option (ℕ × ℕ)) (service subtype : ℕ)
    → is_of_kind kind service subtype ≡ true → is_of_service kind service ≡ true
of_service_of_kind None service subtype h = cc h
of_service_of_kind (Some kind) service subtype h = (and_parts (kind.0 == service) (kind.1 == subtype) h).0

pub covers_itself : (p : Pattern) → pattern_covers p p ≡ true
covers_itself Every = refl
covers_itself (App a) = same a
covers_itself (Service a s) = and_from _ _ (same a) (same s)
covers_itself (Kind a s u) = and_from _ _ (same a) (and_from _ _ (same s) (same u))

-- a pattern covers the keys of a pattern that it covers
pub covers_keys : (p q : Pattern) (key : Key) → pattern_covers p q ≡ true → covers q key ≡ true → covers p key ≡ true
covers_keys Every q key h k = refl
covers_keys (App a) Every key h k = cc h
covers_keys (App a) (App b) key h k = rw (eqb-true a b h) k
covers_keys (App a) (Service b t) key h k = rw (eqb-true a b h) (and_parts (key.apid == b) (is_of_service key.kind t) k).0
covers_keys (App a) (Kind b t u) key h k = rw (eqb-true a b h) (and_parts (key.apid == b) (is_of_kind key.kind t u) k).0
covers_keys (Service a s) Every key h k = cc h
covers_keys (Service a s) (App b) key h k = cc h
covers_keys (Service a s) (Service b t) key h k =
    let e = and_parts (a == b) (s == t) h in rw (eqb-true a b e.0, eqb-true s t e.1) k
covers_keys (Service a s) (Kind b t u) key h k =
    let e = and_parts (a == b) (s == t) h in
    let both = and_parts (key.apid == b) (is_of_kind key.kind t u) k in
    rw (eqb-true a b e.0, eqb-true s t e.1) (and_from _ _ both.0 (of_service_of_kind key.kind t u both.1))
covers_keys (Kind a s v) Every key h k = cc h
covers_keys (Kind a s v) (App b) key h k = cc h
covers_keys (Kind a s v) (Service b t) key h k = cc h
covers_keys (Kind a s v) (Kind b t u) key h k =
    let e = and_parts (a == b) (s == t && v == u) h in
    let f = and_parts (s == t) (v == u) e.1 in
    rw (eqb-true a b e.0, eqb-true s t f.0, eqb-true v u f.1) k

-- a small number that is another
abbrev another : ℕ → ℕ
another zero = 1
another (suc n) = 0

another_small : (n : ℕ) → another n ≤ 1
another_small zero = omega arith
another_small (suc n) = omega arith

is_another : (n : ℕ) → (another n == n) ≡ false
is_another zero = refl
is_another (suc n) = ne_eqb 0 (suc n) (omega arith)

-- a pattern that covers the keys of another covers it
pub covers_from_keys : (p q : Pattern) → IsPattern q → HasPatternOctets q
    → ((key : Key) → IsKey key → covers q key ≡ true → covers p key ≡ true) → pattern_covers p q ≡ true
covers_from_keys Every q range octets f = refl
covers_from_keys (App a) Every range octets f =
    let k = f (record { apid = another a; kind = None }) (omega (arith, another_small a), tt) refl in
    let n = is_another a in cc
covers_from_keys (App a) (App b) range octets f = turned a b (f (record { apid = b; kind = None }) (range, tt) (same b))
covers_from_keys (App a) (Service b t) range octets f =
    turned a b (f (record { apid = b; kind = Some (t, 0) }) (range, (octets, omega arith)) (covers_itself (Service b t)))
covers_from_keys (App a) (Kind b t u) range octets f =
    turned a b (f (record { apid = b; kind = Some (t, u) }) (range, octets) (covers_itself (Kind b t u)))
covers_from_keys (Service a s) Every range octets f =
    (and_parts (0 == a) false (f (record { apid = 0; kind = None }) (omega arith, tt) refl)).1
covers_from_keys (Service a s) (App b) range octets f =
    (and_parts (b == a) false (f (record { apid = b; kind = None }) (range, tt) (same b))).1
covers_from_keys (Service a s) (Service b t) range octets f =
    let itself = covers_itself (Service b t) in
    let covered = f (record { apid = b; kind = Some (t, 0) }) (range, (octets, omega arith)) itself in
    let k = and_parts (b == a) (t == s) covered in
    and_from _ _ (turned a b k.0) (turned s t k.1)
covers_from_keys (Service a s) (Kind b t u) range octets f =
    let covered = f (record { apid = b; kind = Some (t, u) }) (range, octets) (covers_itself (Kind b t u)) in
    let k = and_parts (b == a) (t == s) covered in
    and_from _ _ (turned a b k.0) (turned s t k.1)
covers_from_keys (Kind a s v) Every range octets f =
    (and_parts (0 == a) false (f (record { apid = 0; kind = None }) (omega arith, tt) refl)).1
covers_from_keys (Kind a s v) (App b) range octets f =
    (and_parts (b == a) false (f (record { apid = b; kind = None }) (range, tt) (same b))).1
covers_from_keys (Kind a s v) (Service b t) range octets f =
    let small : another v ≤ 255 = omega (arith, another_small v) in
    let itself = covers_itself (Service b t) in
    let covered = f (record { apid = b; kind = Some (t, another v) }) (range, (octets, small)) itself in
    let k = and_parts (b == a) (t == s && another v == v) covered in
    let two = and_parts (t == s) (another v == v) k.1 in
    let n = is_another v in cc (two.1, n)
covers_from_keys (Kind a s v) (Kind b t u) range octets f =
    let covered = f (record { apid = b; kind = Some (t, u) }) (range, octets) (covers_itself (Kind b t u)) in
    let k = and_parts (b == a) (t == s && u == v) covered in
    let two = and_parts (t == s) (u == v) k.1 in
    and_from _ _ (turned a b k.0) (and_from _ _ (turned s t two.0) (turned v u two.1))
