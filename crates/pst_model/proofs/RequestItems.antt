-- Lists of items of one kind: the instructions that octets spell, and the octets of instructions.
use Rattle.std.proofs.Common.{◌≡◌, ℕ, zero, suc, ◌+◌, ◌*◌, ◌<◌, ◌≤◌, not, List, [], ◌∷◌, ◌++◌, length, take, drop, get_or, refl, sym, ◌∙◌, ap, arith, append_assoc, length-append, length-drop, subst}
use Rattle.std.proofs.lemmas.List.{append-nil, drop_at, drop-drop, nil_from_length, take_more, take-append-drop}
use Rattle.std.proofs.lemmas.List.Elements.{All-cons, All-drop, All-head, All-nil, All-tail}
use Rattle.std.specs.Prelude.{All}
use Rattle.control_defs.specs.declared.instructions.Instruction.{Instruction}
use Rattle.control_defs.specs.Instructions.{IsInstruction}
use Rattle.pst_model.specs.Items.{HasOctets, is_alone, item_of, kind_asked}
use Rattle.pst_model.specs.Layouts.{RequestKind, width_of}
use Rattle.pst_model.specs.Requests.{items_from, items_octets}
use Rattle.pst_model.proofs.ItemOctets.{AreOctets}
use Rattle.pst_model.proofs.KindsRead.{IsReader, IsRight}
use Rattle.pst_model.proofs.KindsWritten.{IsOf}

-- A lawful instruction for which requests of this kind ask.
pub record IsAskedBy (kind : RequestKind) (item : Instruction) : Type 0 where
  pub asked : kind_asked item ≡ (kind.service, kind.subtype)
  pub lone : is_alone item ≡ not kind.is_list
  pub lawful : IsInstruction item
  pub fits : HasOctets item

-- none of the octets of so many items is wrong
abbrev pub AreRight : RequestKind → (count : ℕ) → List ℕ → Type 0
AreRight kind zero octets = Unit {0}
AreRight kind (suc count) octets = IsRight kind.fields octets × AreRight kind count (drop (width_of kind.fields) octets)

-- right octets of items one behind another, and by their numbers

pub AreRight-by_number : (kind : RequestKind) (count : ℕ) (octets : List ℕ) → ((number : ℕ) → number < count → IsRight kind.fields (drop (number * width_of kind.fields) octets)) → AreRight kind count octets
AreRight-by_number kind zero octets right = tt
AreRight-by_number kind (suc count) octets right =
    let width = width_of kind.fields in
    let none : 0 * width ≡ 0 = omega arith in (
      subst (λ (n : ℕ). IsRight kind.fields (drop n octets)) none (right 0 (omega arith)),
      AreRight-by_number kind count (drop width octets)
          (λ number before.
          let place : suc number * width ≡ width + number * width = omega arith in
          subst (IsRight kind.fields) (ap (λ (n : ℕ). drop n octets) place ∙ sym (drop-drop (number * width) width octets)) (right (suc number) (omega arith))),
    )

pub right_by_number : (kind : RequestKind) (count : ℕ) (octets : List ℕ) → AreRight kind count octets → (number : ℕ) → number < count → IsRight kind.fields (drop (number * width_of kind.fields) octets)
right_by_number kind zero octets right number before = absurd (omega arith)
right_by_number kind (suc count) octets right zero before =
    let none : 0 ≡ 0 * width_of kind.fields = omega arith in subst (λ (n : ℕ). IsRight kind.fields (drop n octets)) none right.0
right_by_number kind (suc count) octets right (suc number) before =
    let width = width_of kind.fields in
    let place : width + number * width ≡ suc number * width = omega arith in
    subst (IsRight kind.fields) (drop-drop (number * width) width octets ∙ ap (λ (n : ℕ). drop n octets) place) (right_by_number kind count (drop width octets) right.1 number (omega arith))

-- Lists of items that are read.

pub length-items_from : (kind : RequestKind) (count : ℕ) (octets : List ℕ) → length (items_from kind count octets) ≡ count
length-items_from kind zero octets = refl
length-items_from kind (suc count) octets = ap suc (length-items_from kind count (drop (width_of kind.fields) octets))

pub get_or-items_from : (kind : RequestKind) (count at : ℕ) (octets : List ℕ) (d : Instruction) → at < count
    → get_or (items_from kind count octets) at d ≡ kind.spelled (drop (at * width_of kind.fields) octets)
get_or-items_from kind zero at octets d within = absurd (omega arith)
get_or-items_from kind (suc count) zero octets d within = let none : 0 * width_of kind.fields ≡ 0 = omega arith in rw none refl
get_or-items_from kind (suc count) (suc at) octets d within =
    let width = width_of kind.fields in
    let places : width + at * width ≡ suc at * width = omega arith in
    get_or-items_from kind count at (drop width octets) d (omega arith)
    ∙ ap kind.spelled (drop-drop (at * width) width octets ∙ ap (λ (n : ℕ). drop n octets) places)

module _ (kind : RequestKind) (reader : IsReader kind) where
  pub items_octets-items_from : (count : ℕ) (octets : List ℕ) → AreOctets octets → length octets ≡ count * width_of kind.fields → AreRight kind count octets
      → items_octets (items_from kind count octets) ≡ octets
  items_octets-items_from zero octets fit long right = sym (nil_from_length octets (omega arith))
  items_octets-items_from (suc count) octets fit long right =
      let width = width_of kind.fields in
      let item = reader octets fit (omega arith) right.0 in
      ap (λ (l : List ℕ). item_of (kind.spelled octets) ++ l)
      (items_octets-items_from count (drop width octets) (All-drop (λ (octet : ℕ). octet < 256) width octets fit) (omega (arith, length-drop width octets)) right.1)
      ∙ sym item.octets_are

  pub IsAskedBy-items_from : (count : ℕ) (octets : List ℕ) → AreOctets octets → length octets ≡ count * width_of kind.fields → AreRight kind count octets
      → All (IsAskedBy kind) (items_from kind count octets)
  IsAskedBy-items_from zero octets fit long right = All-nil (IsAskedBy kind)
  IsAskedBy-items_from (suc count) octets fit long right =
      let width = width_of kind.fields in
      let item = reader octets fit (omega arith) right.0 in
      All-cons (IsAskedBy kind) (kind.spelled octets) (items_from kind count (drop width octets))
      (record { asked = item.asked; lone = item.lone; lawful = item.lawful; fits = item.fits })
      (IsAskedBy-items_from count (drop width octets) (All-drop (λ (octet : ℕ). octet < 256) width octets fit) (omega (arith, length-drop width octets)) right.1)

-- Lists of items that are written.

module _ (kind : RequestKind) where
  pub length-items_octets : (items : List Instruction) → All (IsOf kind) items → length (items_octets items) ≡ length items * width_of kind.fields
  length-items_octets [] are = omega arith
  length-items_octets (item ∷ items) are =
      let one = (All-head (IsOf kind) item items are).long in
      let others = length-items_octets items (All-tail (IsOf kind) item items are) in
      omega (arith, one, others, length-append (item_of item) (items_octets items))

  pub items_from-items_octets : (items : List Instruction) → All (IsOf kind) items → items_from kind (length items) (items_octets items) ≡ items
  items_from-items_octets [] are = refl
  items_from-items_octets (item ∷ items) are =
      let one = All-head (IsOf kind) item items are in
      let width = width_of kind.fields in
      let behind : drop width (item_of item ++ items_octets items) ≡ items_octets items = drop_at (item_of item) (items_octets items) width one.long in
      ap (λ (first : Instruction). first ∷ items_from kind (length items) (drop width (item_of item ++ items_octets items))) (one.back (items_octets items))
      ∙ ap (λ (l : List ℕ). item ∷ items_from kind (length items) l) behind
      ∙ ap (λ (l : List Instruction). item ∷ l) (items_from-items_octets items (All-tail (IsOf kind) item items are))

  pub AreRight-items_octets : (items : List Instruction) → All (IsOf kind) items → AreRight kind (length items) (items_octets items)
  AreRight-items_octets [] are = tt
  AreRight-items_octets (item ∷ items) are =
      let one = All-head (IsOf kind) item items are in
      let behind : drop (width_of kind.fields) (item_of item ++ items_octets items) ≡ items_octets items =
      drop_at (item_of item) (items_octets items) (width_of kind.fields) one.long in (
        one.right (items_octets items),
        subst (AreRight kind (length items)) (sym behind) (AreRight-items_octets items (All-tail (IsOf kind) item items are)),
      )

items_octets-append : (front behind : List Instruction) → items_octets (front ++ behind) ≡ items_octets front ++ items_octets behind
items_octets-append [] behind = refl
items_octets-append (item ∷ front) behind =
    ap (λ (l : List ℕ). item_of item ++ l) (items_octets-append front behind) ∙ sym (append_assoc (item_of item) (items_octets front) (items_octets behind))

-- one more item
pub items_octets-more : (items : List Instruction) (at : ℕ) (d : Instruction) → at < length items → items_octets (take (at + 1) items) ≡ items_octets (take at items) ++ item_of (get_or items at d)
items_octets-more items at d within =
    ap items_octets (take_more items at d within) ∙ items_octets-append (take at items) (get_or items at d ∷ [])
    ∙ ap (λ (l : List ℕ). items_octets (take at items) ++ l) (append-nil (item_of (get_or items at d)))

-- the items up to one, and those behind
pub items_octets-split : (items : List Instruction) (at : ℕ) → items_octets items ≡ items_octets (take at items) ++ items_octets (drop at items)
items_octets-split items at = ap items_octets (sym (take-append-drop at items)) ∙ items_octets-append (take at items) (drop at items)

-- as lengths
pub length-items_more : (items : List Instruction) (at : ℕ) (d : Instruction) → at < length items
    → length (item_of (get_or items at d)) + length (items_octets (take at items)) ≡ length (items_octets (take (at + 1) items))
length-items_more items at d within =
    let more = ap length (items_octets-more items at d within) in
    omega (arith, more, length-append (items_octets (take at items)) (item_of (get_or items at d)))

-- an item and those before it are no longer than all
pub length-items_upto : (items : List Instruction) (at : ℕ) (d : Instruction) → at < length items
    → length (item_of (get_or items at d)) + length (items_octets (take at items)) ≤ length (items_octets items)
length-items_upto items at d within =
    let all = ap length (items_octets-split items (at + 1)) in
    omega (arith, all, length-items_more items at d within, length-append (items_octets (take (at + 1) items)) (items_octets (drop (at + 1) items)))
