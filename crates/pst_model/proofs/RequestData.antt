-- The data of requests by their kinds: what it spells, and that of instructions.
use Rattle.std.proofs.Common.{◌≡◌, ℕ, ◌+◌, ◌*◌, ◌<◌, ◌≤◌, Bool, true, false, not, List, [], ◌∷◌, ◌++◌, length, drop, get_or, Option, Some, None, refl, sym, ◌∙◌, ap, arith, length-drop, subst}
use Rattle.std.proofs.Math.Nat.{mul-le-mul_right}
use Rattle.std.proofs.lemmas.List.{drop-drop}
use Rattle.std.proofs.lemmas.List.Elements.{All-drop, All-head}
use Rattle.std.specs.Prelude.{All, IsSomeAnd, if◌then◌else◌, slice_index}
use Rattle.octet_fields.proofs.Parts.{same_pair}
use Rattle.control_defs.specs.declared.instructions.Instruction.{Instruction}
use Rattle.control_defs.specs.declared.instructions.Instruction.TheVariants.{Status}
use Rattle.pst_model.specs.Items.{is_alone}
use Rattle.pst_model.specs.Layouts.{RequestKind, kind_in, width_of}
use Rattle.pst_model.specs.Requests.{AreAsked, SpellsRequest, are_alone, count_in, count_octets, data_of, front_of, items_from, items_octets, most_of, place_of}
use Rattle.pst_model.proofs.ItemOctets.{AreOctets}
use Rattle.pst_model.proofs.KindsRead.{IsRight}
use Rattle.pst_model.proofs.KindsFound.{reader_found, width_found}
use Rattle.pst_model.proofs.KindsWritten.{IsOf, IsOf-asked}
use Rattle.pst_model.proofs.RequestItems.{AreRight, AreRight-items_octets, IsAskedBy-items_from, items_from-items_octets, items_octets-items_from, length-items_from, length-items_octets}
use Rattle.pst_model.proofs.WholeRequests.{HasRightItems, IsWhole, right_items, right_places}
use Rattle.pst_model.proofs.RequestItems.{AreRight-by_number, right_by_number}

-- what stands in front of the items

abbrev front_octets : (list : Bool) → (count : ℕ) → List ℕ
front_octets true count = count ∷ []
front_octets false count = []

behind_front : (list : Bool) (body : List ℕ) → 1 ≤ (if list then slice_index body 0 else 1) → body ≡ front_octets list (if list then slice_index body 0 else 1) ++ drop (if list then 1 else 0) body
behind_front true [] some = absurd (omega arith)
behind_front true (count ∷ rest) some = refl
behind_front false body some = refl

count_octets-front : (list : Bool) (items : List Instruction) → are_alone items ≡ not list → count_octets items ≡ front_octets list (length items)
count_octets-front true items lone = rw lone refl
count_octets-front false items lone = rw lone refl

most_of-list : (list : Bool) (items : List Instruction) → are_alone items ≡ not list → most_of items ≡ (if list then 32 else 1)
most_of-list true items lone = rw lone refl
most_of-list false items lone = rw lone refl

few_of : (list : Bool) (count : ℕ) → (if list then count else 1) ≤ 32 → (if list then count else 1) ≤ (if list then 32 else 1)
few_of true count few = few
few_of false count few = omega arith

are_alone-first : (lone : Bool) (items : List Instruction) → 1 ≤ length items → All (λ (item : Instruction). is_alone item ≡ lone) items → are_alone items ≡ lone
are_alone-first lone [] some all = absurd (omega arith)
are_alone-first lone (item ∷ items) some all = All-head (λ (item : Instruction). is_alone item ≡ lone) item items all

-- what is known of the items of one kind
module _ (service subtype : ℕ) (kind : RequestKind) (found : kind_in service subtype ≡ Some kind) where
  -- data that is not malformed spells the instructions that are read
  pub spelled-by_kind : (body : List ℕ) → AreOctets body → IsWhole kind body → SpellsRequest service subtype body (items_from kind (count_in kind body) (drop (front_of kind) body))
  spelled-by_kind body fit whole =
      let count = count_in kind body in
      let octets = drop (front_of kind) body in
      let items = items_from kind count octets in
      let known = reader_found service subtype kind found in
      let fits : AreOctets octets = All-drop (λ (octet : ℕ). octet < 256) (front_of kind) body fit in
      let many : length items ≡ count = length-items_from kind count octets in
      let size : length octets ≡ count * width_of kind.fields = let long = whole.long in omega (arith, length-drop (front_of kind) body) in
      let right : AreRight kind count octets = AreRight-by_number kind count octets
      (λ number before.
      subst (IsRight kind.fields) (sym (drop-drop (number * width_of kind.fields) (front_of kind) body)) (right_items kind count body whole.long whole.right number before)) in
      let asked = IsAskedBy-items_from kind known.0 count octets fits size right in
      let some : 1 ≤ length items = let least = whole.some in omega (arith, many) in
      let lone : are_alone items ≡ not kind.is_list = are_alone-first (not kind.is_list) items some (λ k d lt. (asked k d lt).lone) in
      let few : count ≤ (if kind.is_list then 32 else 1) = few_of kind.is_list (slice_index body 0) whole.few in
      record {
        asked = record {
          kind = λ k d lt. (asked k d lt).asked ∙ same_pair known.1 known.2;
          lawful = λ k d lt. (asked k d lt).lawful;
          fit = λ k d lt. (asked k d lt).fits;
          some = some;
          few = subst (λ (most : ℕ). length items ≤ most) (sym (most_of-list kind.is_list items lone)) (subst (λ (n : ℕ). n ≤ (if kind.is_list then 32 else 1)) (sym many) few);
        };
        octets = behind_front kind.is_list body whole.some
            ∙ ap (λ (l : List ℕ). front_octets kind.is_list count ++ l) (sym (items_octets-items_from kind known.0 count octets fits size right))
            ∙ ap (λ (n : ℕ). front_octets kind.is_list n ++ items_octets items) (sym many)
            ∙ ap (λ (l : List ℕ). l ++ items_octets items) (sym (count_octets-front kind.is_list items lone));
      }

-- what the data of instructions is, by whether it is a list

record IsData (list : Bool) (items : List Instruction) : Type 0 where
  count : (if list then slice_index (data_of items) 0 else 1) ≡ length items
  behind : drop (if list then 1 else 0) (data_of items) ≡ items_octets items
  long : length (data_of items) ≡ (if list then 1 else 0) + length (items_octets items)

IsData-of : (list : Bool) (items : List Instruction) → are_alone items ≡ not list → 1 ≤ length items → length items ≤ most_of items → IsData list items
IsData-of true items lone some few =
    let front : count_octets items ≡ length items ∷ [] = count_octets-front true items lone in record {
      count = ap (λ (l : List ℕ). slice_index (l ++ items_octets items) 0) front;
      behind = ap (λ (l : List ℕ). drop 1 (l ++ items_octets items)) front;
      long = ap (λ (l : List ℕ). length (l ++ items_octets items)) front ∙ omega arith;
    }
IsData-of false items lone some few =
    let front : count_octets items ≡ [] = count_octets-front false items lone in
    let most : most_of items ≡ 1 = most_of-list false items lone in record {
      count = omega (arith, most);
      behind = ap (λ (l : List ℕ). l ++ items_octets items) front;
      long = ap (λ (l : List ℕ). length (l ++ items_octets items)) front ∙ omega arith;
    }

most_few : (list : Bool) → (if list then 32 else 1) ≤ 32
most_few true = omega arith
most_few false = omega arith

-- Instructions of one kind, of which a request asks.
pub record AreOf (service subtype : ℕ) (items : List Instruction) : Type 0 where
  pub kind : RequestKind
  pub found : kind_in service subtype ≡ Some kind
  pub are : All (IsOf kind) items

pub AreOf-asked : (service subtype : ℕ) (items : List Instruction) → AreAsked service subtype items → AreOf service subtype items
AreOf-asked service subtype items asked = by (kind_in service subtype) refl each
  where
    each : All (λ (item : Instruction). IsSomeAnd (kind_in service subtype) (λ kind. IsOf kind item)) items
    each k d lt =
        subst (λ (asked : ℕ × ℕ). IsSomeAnd (kind_in asked.0 asked.1) (λ kind. IsOf kind (get_or items k d))) (asked.kind k d lt) (IsOf-asked (get_or items k d) (asked.lawful k d lt) (asked.fit k d lt))

    by : (kind : Option RequestKind) → kind_in service subtype ≡ kind → All (λ (item : Instruction). IsSomeAnd kind (λ kind. IsOf kind item)) items → AreOf service subtype items
    by (Some kind) found all = record { kind = kind; found = found; are = all }
    by None found all = absurd (all 0 Status asked.some)

-- the data of instructions is not malformed, and they are read in it
module _ (service subtype : ℕ) (items : List Instruction) (asked : AreAsked service subtype items) where
  data_is : (kind : RequestKind) → All (IsOf kind) items → IsData kind.is_list items
  data_is kind are = IsData-of kind.is_list items (are_alone-first (not kind.is_list) items asked.some (λ k d lt. (are k d lt).lone)) asked.some asked.few

  pub whole-data : (kind : RequestKind) → All (IsOf kind) items → IsWhole kind (data_of items)
  whole-data kind are =
      let body = data_of items in
      let is = data_is kind are in
      let width = width_of kind.fields in
      let size = length-items_octets kind items are in
      let long : length body ≡ place_of kind (length items) = omega (arith, is.long, size) in
      let count : count_in kind body ≡ length items = is.count in
      let lone = are_alone-first (not kind.is_list) items asked.some (λ k d lt. (are k d lt).lone) in
      let most : most_of items ≤ 32 = subst (λ (n : ℕ). n ≤ 32) (sym (most_of-list kind.is_list items lone)) (most_few kind.is_list) in
      let right : HasRightItems kind (length items) body =
      (λ number before.
      subst (IsRight kind.fields) (ap (drop (number * width)) (sym is.behind) ∙ drop-drop (number * width) (front_of kind) body)
      (right_by_number kind (length items) (items_octets items) (AreRight-items_octets kind items are) number before)) in record {
        some = let least = asked.some in omega (arith, count);
        few = let few = asked.few in omega (arith, count, most);
        long = long ∙ ap (place_of kind) (sym count);
        right = right_places kind (length items) body long right;
      }

  pub items_from-data : (kind : RequestKind) → All (IsOf kind) items → items_from kind (count_in kind (data_of items)) (drop (front_of kind) (data_of items)) ≡ items
  items_from-data kind are =
      let is = data_is kind are in
      ap (λ (n : ℕ). items_from kind n (drop (front_of kind) (data_of items))) is.count
      ∙ ap (items_from kind (length items)) is.behind ∙ items_from-items_octets kind items are

-- the length of the data of instructions, by their kind
pub length-data_of : (service subtype : ℕ) (items : List Instruction) → AreAsked service subtype items → (kind : RequestKind) → kind_in service subtype ≡ Some kind
    → length (data_of items) ≡ place_of kind (length items)
length-data_of service subtype items asked kind found =
    let of = AreOf-asked service subtype items asked in
    let same : Some of.kind ≡ Some kind = sym of.found ∙ found in
    let is : of.kind ≡ kind = cc in
    subst (λ (k : RequestKind). length (data_of items) ≡ place_of k (length items)) is
    (let whole = whole-data service subtype items asked of.kind of.are in whole.long ∙ ap (place_of of.kind) (data_is service subtype items asked of.kind of.are).count)

-- what stands in front of its items
pub count_octets-kind : (service subtype : ℕ) (items : List Instruction) → AreAsked service subtype items → (kind : RequestKind) → kind_in service subtype ≡ Some kind
    → count_octets items ≡ (if kind.is_list then length items ∷ [] else [])
count_octets-kind service subtype items asked kind found =
    let of = AreOf-asked service subtype items asked in
    let same : Some of.kind ≡ Some kind = sym of.found ∙ found in
    let is : of.kind ≡ kind = cc in
    let lone = are_alone-first (not of.kind.is_list) items asked.some (λ k d lt. (of.are k d lt).lone) in
    count_octets-front of.kind.is_list items lone ∙ by of.kind.is_list ∙ ap (λ (k : RequestKind). if k.is_list then length items ∷ [] else []) is
  where
    by : (list : Bool) → front_octets list (length items) ≡ (if list then length items ∷ [] else [])
    by true = refl
    by false = refl

front_few : (list : Bool) → (if list then 1 else 0) ≤ 1
front_few true = omega arith
front_few false = omega arith

-- it is at most 513 octets
pub length-data_most : (service subtype : ℕ) (items : List Instruction) → AreAsked service subtype items → length (data_of items) ≤ 513
length-data_most service subtype items asked =
    let of = AreOf-asked service subtype items asked in
    let whole = whole-data service subtype items asked of.kind of.are in
    let count = count_in of.kind (data_of items) in
    let width = width_of of.kind.fields in
    let narrow : width ≤ 16 = width_found service subtype of.kind of.found in
    let front : front_of of.kind ≤ 1 = front_few of.kind.is_list in
    let items_fit : count * width ≤ 32 * width = let few = whole.few in mul-le-mul_right width few in
    let long = whole.long in
    omega arith
