-- Two directories are the same exactly where the test says so.
use Rattle.std.proofs.Common.{◌≡◌, ℕ, suc, ◌<◌, length, slice_get, unwrap_or, [], ◌∷◌, arith, Bool, true, false, ◌&&◌, ◌==◌, List, Option, Some, None, refl, ap, subst}
use Rattle.std.specs.Bool.{Decides}
use Rattle.std.specs.Cmp.Lexicographic.{pointwise}
use Rattle.std.proofs.lemmas.Bool.{and_from, and_parts, false≢true}
use Rattle.std.proofs.lemmas.Bool.Decides.{Decides-eqb}
use Rattle.std.proofs.lemmas.Slice.Eq.{slice_eq-Decides}
use Rattle.control_defs.specs.declared.instructions.StoreKind.{StoreKind}
use Rattle.control_defs.specs.declared.instructions.StoreKind.TheVariants.{Bounded, Circular}
use Rattle.control_defs.specs.declared.patterns.Pattern.{Pattern}
use Rattle.control_defs.specs.declared.patterns.Pattern.TheVariants.{App, Every, Kind, Service}
use Rattle.record_view.specs.declared.link.Link.{Link}
use Rattle.store_directory.specs.Directory.{Directory, Listed}
use Rattle.store_directory.specs.Same.{same_directory, same_flag, same_flags, same_kept, same_kind, same_link, same_listed, same_pattern, same_range, same_records, same_row}
use Rattle.store_directory.specs.declared.row.Row.{Row}

-- three tests, and four
three : (a b c : Bool) → (a && b && c) ≡ true → (a ≡ true) × (b ≡ true) × (c ≡ true)
three a b c is =
    let last = and_parts (a && b) c is in
    let front = and_parts a b last.0 in
    (front.0, front.1, last.1)

three_from : (a b c : Bool) → a ≡ true → b ≡ true → c ≡ true → (a && b && c) ≡ true
three_from a b c x y z = and_from (a && b) c (and_from a b x y) z

four : (a b c d : Bool) → (a && b && c && d) ≡ true → (a ≡ true) × (b ≡ true) × (c ≡ true) × (d ≡ true)
four a b c d is =
    let last = and_parts (a && b && c) d is in
    let front = three a b c last.0 in
    (front.0, front.1, front.2, last.1)

four_from : (a b c d : Bool) → a ≡ true → b ≡ true → c ≡ true → d ≡ true → (a && b && c && d) ≡ true
four_from a b c d x y z w = and_from (a && b && c) d (three_from a b c x y z) w

-- a test that says only what is so, and says it of each value and itself
decided : {A : Type 0} (same : A → A → Bool) → ((a b : A) → same a b ≡ true → a ≡ b) → ((a : A) → same a a ≡ true)
    → (a b : A) → Decides (same a b) (a ≡ b)
decided same exact self a b = (exact a b, λ is. subst (λ x. same a x ≡ true) is (self a))

number_is : (m n : ℕ) → (m == n) ≡ true → m ≡ n
number_is m n is = (Decides-eqb m n).0 is

number_self : (n : ℕ) → (n == n) ≡ true
number_self n = (Decides-eqb n n).1 refl

flag_is : (a b : Bool) → same_flag a b ≡ true → a ≡ b
flag_is true true is = refl
flag_is false false is = refl
flag_is _ _ is = absurd (false≢true is)

flag_self : (a : Bool) → same_flag a a ≡ true
flag_self true = refl
flag_self false = refl

kind_is : (a b : StoreKind) → same_kind a b ≡ true → a ≡ b
kind_is Circular Circular is = refl
kind_is Bounded Bounded is = refl
kind_is _ _ is = absurd (false≢true is)

kind_self : (a : StoreKind) → same_kind a a ≡ true
kind_self Circular = refl
kind_self Bounded = refl

range_is : (a b : Option (ℕ × ℕ)) → same_range a b ≡ true → a ≡ b
range_is None None is = refl
range_is (Some a) (Some b) is =
    let parts = and_parts (a.0 == b.0) (a.1 == b.1) is in
    let next = number_is a.0 b.0 parts.0 in
    let end = number_is a.1 b.1 parts.1 in
    λ i. Some (next i, end i)
range_is _ _ is = absurd (false≢true is)

range_self : (a : Option (ℕ × ℕ)) → same_range a a ≡ true
range_self None = refl
range_self (Some a) = and_from (a.0 == a.0) (a.1 == a.1) (number_self a.0) (number_self a.1)

pattern_is : (a b : Pattern) → same_pattern a b ≡ true → a ≡ b
pattern_is Every Every is = refl
pattern_is (App a) (App b) is = ap App (number_is a b is)
pattern_is (Service a s) (Service b t) is =
    let parts = and_parts (a == b) (s == t) is in
    let apid = number_is a b parts.0 in
    let service = number_is s t parts.1 in
    λ i. Service (apid i) (service i)
pattern_is (Kind a s m) (Kind b t n) is =
    let parts = three (a == b) (s == t) (m == n) is in
    let apid = number_is a b parts.0 in
    let service = number_is s t parts.1 in
    let subtype = number_is m n parts.2 in
    λ i. Kind (apid i) (service i) (subtype i)
pattern_is _ _ is = absurd (false≢true is)

pattern_self : (a : Pattern) → same_pattern a a ≡ true
pattern_self Every = refl
pattern_self (App a) = number_self a
pattern_self (Service a s) = and_from (a == a) (s == s) (number_self a) (number_self s)
pattern_self (Kind a s m) =
    three_from (a == a) (s == s) (m == m) (number_self a) (number_self s) (number_self m)

pub one_pattern : (a b : Pattern) → Decides (same_pattern a b) (a ≡ b)
one_pattern = decided same_pattern pattern_is pattern_self

link_is : (a b : Link) → same_link a b ≡ true → a ≡ b
link_is a b is =
    let parts = and_parts (a.block == b.block) (a.first == b.first) is in
    let block = number_is a.block b.block parts.0 in
    let first = number_is a.first b.first parts.1 in
    λ i. record { block = block i; first = first i }

link_self : (a : Link) → same_link a a ≡ true
link_self a = and_from (a.block == a.block) (a.first == a.first) (number_self a.block) (number_self a.first)

row_is : (a b : Row) → same_row a b ≡ true → a ≡ b
row_is a b is =
    let parts = three (same_kept a b) (same_flags a b) (same_records a b) is in
    let kept = four (a.identifier == b.identifier) (same_kind a.kind b.kind) (a.size == b.size) (a.channel == b.channel) parts.0 in
    let flags = three (same_flag a.storage b.storage) (same_flag a.open_on b.open_on) (same_flag a.told b.told) parts.1 in
    let records = four (a.first == b.first) (a.count == b.count) (a.behind == b.behind) (same_range a.range b.range) parts.2 in
    let identifier_is = number_is a.identifier b.identifier kept.0 in
    let kind_same = kind_is a.kind b.kind kept.1 in
    let size_is = number_is a.size b.size kept.2 in
    let channel_is = number_is a.channel b.channel kept.3 in
    let storage_is = flag_is a.storage b.storage flags.0 in
    let open_is = flag_is a.open_on b.open_on flags.1 in
    let told_is = flag_is a.told b.told flags.2 in
    let first_is = number_is a.first b.first records.0 in
    let count_is = number_is a.count b.count records.1 in
    let behind_is = number_is a.behind b.behind records.2 in
    let range_same = range_is a.range b.range records.3 in
    λ i. record {
      identifier = identifier_is i;
      kind = kind_same i;
      size = size_is i;
      channel = channel_is i;
      storage = storage_is i;
      open_on = open_is i;
      told = told_is i;
      first = first_is i;
      count = count_is i;
      behind = behind_is i;
      range = range_same i;
    }

kept_self : (a : Row) → same_kept a a ≡ true
kept_self a =
    four_from (a.identifier == a.identifier) (same_kind a.kind a.kind) (a.size == a.size) (a.channel == a.channel)
    (number_self a.identifier) (kind_self a.kind) (number_self a.size) (number_self a.channel)

flags_self : (a : Row) → same_flags a a ≡ true
flags_self a =
    three_from (same_flag a.storage a.storage) (same_flag a.open_on a.open_on) (same_flag a.told a.told)
    (flag_self a.storage) (flag_self a.open_on) (flag_self a.told)

records_self : (a : Row) → same_records a a ≡ true
records_self a =
    four_from (a.first == a.first) (a.count == a.count) (a.behind == a.behind) (same_range a.range a.range)
    (number_self a.first) (number_self a.count) (number_self a.behind) (range_self a.range)

row_self : (a : Row) → same_row a a ≡ true
row_self a = three_from (same_kept a a) (same_flags a a) (same_records a a) (kept_self a) (flags_self a) (records_self a)

pub rows_decided : (a b : Row) → Decides (same_row a b) (a ≡ b)
rows_decided = decided same_row row_is row_self

pub patterns_decided : (xs ys : List Pattern) → Decides (pointwise same_pattern xs ys) (xs ≡ ys)
patterns_decided xs ys = slice_eq-Decides one_pattern xs ys (pointwise same_pattern xs ys) refl

links_decided : (xs ys : List Link) → Decides (pointwise same_link xs ys) (xs ≡ ys)
links_decided xs ys = slice_eq-Decides (decided same_link link_is link_self) xs ys (pointwise same_link xs ys) refl

listed_is : (a b : Listed) → same_listed a b ≡ true → a ≡ b
listed_is a b is =
    let parts = three (same_row a.row b.row) (pointwise same_pattern a.patterns b.patterns) (pointwise same_link a.links b.links) is in
    let row = row_is a.row b.row parts.0 in
    let patterns = (patterns_decided a.patterns b.patterns).0 parts.1 in
    let links = (links_decided a.links b.links).0 parts.2 in
    λ i. record { row = row i; patterns = patterns i; links = links i }

listed_self : (a : Listed) → same_listed a a ≡ true
listed_self a =
    three_from (same_row a.row a.row) (pointwise same_pattern a.patterns a.patterns) (pointwise same_link a.links a.links)
    (row_self a.row) ((patterns_decided a.patterns a.patterns).1 refl) ((links_decided a.links a.links).1 refl)

stores_decided : (xs ys : List Listed) → Decides (pointwise same_listed xs ys) (xs ≡ ys)
stores_decided xs ys = slice_eq-Decides (decided same_listed listed_is listed_self) xs ys (pointwise same_listed xs ys) refl

directory_is : (d e : Directory) → same_directory d e ≡ true → d ≡ e
unfolding same_directory
directory_is d e is =
    let parts = four (d.now == e.now) (d.reports == e.reports) (pointwise same_pattern d.forward e.forward) (pointwise same_listed d.stores e.stores) is in
    let now = number_is d.now e.now parts.0 in
    let reports = number_is d.reports e.reports parts.1 in
    let forward = (patterns_decided d.forward e.forward).0 parts.2 in
    let stores = (stores_decided d.stores e.stores).0 parts.3 in
    λ i. record { now = now i; reports = reports i; forward = forward i; stores = stores i }

directory_self : (d : Directory) → same_directory d d ≡ true
unfolding same_directory
directory_self d =
    four_from (d.now == d.now) (d.reports == d.reports) (pointwise same_pattern d.forward d.forward) (pointwise same_listed d.stores d.stores)
    (number_self d.now) (number_self d.reports) ((patterns_decided d.forward d.forward).1 refl) ((stores_decided d.stores d.stores).1 refl)

pub directories_decided : (d e : Directory) → Decides (same_directory d e) (d ≡ e)
directories_decided = decided same_directory directory_is directory_self

-- lists of one length are one where each of their elements is
pub listed_same : {A : Type 0} (xs ys : List A) → length xs ≡ length ys → ((k : ℕ) → k < length xs → slice_get xs k ≡ slice_get ys k) → xs ≡ ys
listed_same [] [] long same = refl
listed_same [] (y ∷ ys) long same = absurd (omega (arith, long))
listed_same (x ∷ xs) [] long same = absurd (omega (arith, long))
listed_same (x ∷ xs) (y ∷ ys) long same =
    let first = ap (λ o. unwrap_or o x) (same 0 (omega arith)) in
    let rest = listed_same xs ys (omega (arith, long)) (λ k lt. same (suc k) (omega (arith, lt))) in
    λ i. first i ∷ rest i
