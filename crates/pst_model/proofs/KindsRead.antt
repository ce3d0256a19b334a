-- What an item of each kind of request spells.
use Rattle.std.proofs.Common.{◌≡◌, ℕ, zero, suc, ◌+◌, ◌-◌, ◌^◌, ◌<◌, ◌≤◌, Bool, true, false, not, List, [], ◌∷◌, ◌++◌, length, drop, slice_index, refl, sym, ◌∙◌, ap, arith, length-drop}
use Rattle.std.proofs.lemmas.Bool.{cond-false, cond-true, le-ltb, lt-ltb, ltb-false}
use Rattle.std.proofs.lemmas.List.{get_or-drop}
use Rattle.std.proofs.lemmas.List.Elements.{All-drop}
use Rattle.std.specs.Prelude.{nat_lt}
use Rattle.octet_fields.specs.Fields.{big_bytes, field}
use Rattle.control_defs.specs.declared.instructions.Instruction.{Instruction}
use Rattle.control_defs.specs.declared.instructions.Instruction.TheVariants.{StartRange, Create, Copy, Resize, Channel}
use Rattle.control_defs.specs.Instructions.{store_kind_in, kind_octet, IsInstruction}
use Rattle.control_defs.specs.declared.patterns.Pattern.{Pattern}
use Rattle.control_defs.specs.Patterns.{HasPatternOctets, IsPattern}
use Rattle.pst_model.specs.Items.{HasOctets, is_alone, item_of, kind_asked}
use Rattle.pst_model.specs.Layouts.{Field, OneKind, OnePattern, RequestKind, alone, channel_field, is_wrong_in, is_wrong_in_field, list_of, size_field, store_field, time_field, width_of, width_of_field}
use Rattle.control_defs.specs.PatternOctets.{pattern_octets}
use Rattle.control_defs.specs.PatternOctets.{pattern_in}
use Rattle.control_defs.proofs.PatternOctets.{ReadsPattern-right}
use Rattle.pst_model.proofs.ItemOctets.{AreOctets, Stands-number, Stands-octet, Stands-pattern, Stands-then, field-lt, octet-lt}

-- none of the octets of an item at the front is wrong
abbrev pub IsRight : List Field → List ℕ → Type 0
IsRight fields octets = (place : ℕ) → place < width_of fields → is_wrong_in fields octets place ≡ false

-- in the first field, and in the others
IsRight-first : (first : Field) (others : List Field) (octets : List ℕ) → IsRight (first ∷ others) octets → (place : ℕ) → place < width_of_field first → is_wrong_in_field first octets place ≡ false
IsRight-first first others octets right place within =
    sym
    (cond-true (nat_lt place (width_of_field first)) (is_wrong_in_field first octets place) (is_wrong_in others (drop (width_of_field first) octets) (place - width_of_field first))
    (lt-ltb place (width_of_field first) within))
    ∙ right place (omega arith)

IsRight-others : (first : Field) (others : List Field) (octets : List ℕ) → IsRight (first ∷ others) octets → IsRight others (drop (width_of_field first) octets)
IsRight-others first others octets right place within =
    let width = width_of_field first in
    let behind : width + place - width ≡ place = omega arith in
    ap (is_wrong_in others (drop width octets)) (sym behind)
    ∙ sym
    (cond-false (nat_lt (width + place) width) (is_wrong_in_field first octets (width + place)) (is_wrong_in others (drop width octets) (width + place - width))
    (le-ltb (width + place) width (omega arith)))
    ∙ right (width + place) (omega arith)

-- An item at the front spells a lawful instruction of this kind, whose octets are those of the
-- item.
pub record Reads (kind : RequestKind) (octets : List ℕ) : Type 0 where
  pub asked : kind_asked (kind.spelled octets) ≡ (kind.service, kind.subtype)
  pub lone : is_alone (kind.spelled octets) ≡ not kind.is_list
  pub lawful : IsInstruction (kind.spelled octets)
  pub fits : HasOctets (kind.spelled octets)
  pub octets_are : octets ≡ item_of (kind.spelled octets) ++ drop (width_of kind.fields) octets

abbrev pub IsReader : RequestKind → Type 0
IsReader kind = (octets : List ℕ) → AreOctets octets → width_of kind.fields ≤ length octets → IsRight kind.fields octets → Reads kind octets

-- one store, and a store with a number

pub store_reader : (list : Bool) (service subtype : ℕ) (make : ℕ → Instruction) → ((n : ℕ) → kind_asked (make n) ≡ (service, subtype)) → ((n : ℕ) → is_alone (make n) ≡ not list)
    → ((n : ℕ) → IsInstruction (make n)) → ((n : ℕ) → n < 65536 → HasOctets (make n)) → ((n : ℕ) → item_of (make n) ≡ big_bytes 2 n)
    → IsReader (record { service = service; subtype = subtype; is_list = list; fields = store_field ∷ []; spelled = λ item. make (field 2 0 item) })
store_reader list service subtype make asked lone lawful fits octets_are octets fit long right =
    let store = field 2 0 octets in record {
      asked = asked store;
      lone = lone store;
      lawful = lawful store;
      fits = fits store (field-lt 2 0 octets fit);
      octets_are = (Stands-number 2 0 octets fit long).is ∙ ap (λ (l : List ℕ). l ++ drop 2 octets) (sym (octets_are store));
    }

pub listed_store : (subtype : ℕ) (make : ℕ → Instruction) → ((n : ℕ) → kind_asked (make n) ≡ (15, subtype)) → ((n : ℕ) → is_alone (make n) ≡ false)
    → ((n : ℕ) → IsInstruction (make n)) → ((n : ℕ) → n < 65536 → HasOctets (make n)) → ((n : ℕ) → item_of (make n) ≡ big_bytes 2 n)
    → IsReader (list_of 15 subtype (store_field ∷ []) (λ item. make (field 2 0 item)))
listed_store subtype make = store_reader true 15 subtype make

pub time_reader : (subtype : ℕ) (make : ℕ → ℕ → Instruction) → ((n t : ℕ) → kind_asked (make n t) ≡ (15, subtype)) → ((n t : ℕ) → is_alone (make n t) ≡ false)
    → ((n t : ℕ) → t < 2 ^ 48 → IsInstruction (make n t)) → ((n t : ℕ) → n < 65536 → t < 2 ^ 48 → HasOctets (make n t)) → ((n t : ℕ) → item_of (make n t) ≡ big_bytes 2 n ++ big_bytes 6 t)
    → IsReader (list_of 15 subtype (store_field ∷ time_field ∷ []) (λ item. make (field 2 0 item) (field 6 2 item)))
time_reader subtype make asked lone lawful fits octets_are octets fit long right =
    let store = field 2 0 octets in
    let time = field 6 2 octets in record {
      asked = asked store time;
      lone = lone store time;
      lawful = lawful store time (field-lt 6 2 octets fit);
      fits = fits store time (field-lt 2 0 octets fit) (field-lt 6 2 octets fit);
      octets_are = (Stands-then (Stands-number 2 0 octets fit (omega arith)) (Stands-number 6 2 octets fit long)).is ∙ ap (λ (l : List ℕ). l ++ drop 8 octets) (sym (octets_are store time));
    }

pub start_range_reader : IsReader (list_of 15 9 (store_field ∷ time_field ∷ time_field ∷ []) (λ item. StartRange (field 2 0 item) (field 6 2 item) (field 6 8 item)))
start_range_reader octets fit long right = record {
  asked = refl;
  lone = refl;
  lawful = (field-lt 6 2 octets fit, field-lt 6 8 octets fit);
  fits = (field-lt 2 0 octets fit, (field-lt 6 2 octets fit, (field-lt 6 8 octets fit, tt)));
  octets_are =
      (Stands-then (Stands-then (Stands-number 2 0 octets fit (omega arith)) (Stands-number 6 2 octets fit (omega arith))) (Stands-number 6 8 octets fit long)).is;
}

pub copy_reader : IsReader (list_of 15 24 (store_field ∷ store_field ∷ time_field ∷ time_field ∷ []) (λ item. Copy (field 2 0 item) (field 2 2 item) (field 6 4 item) (field 6 10 item)))
copy_reader octets fit long right = record {
  asked = refl;
  lone = refl;
  lawful = (field-lt 6 4 octets fit, field-lt 6 10 octets fit);
  fits = (field-lt 2 0 octets fit, (field-lt 2 2 octets fit, (field-lt 6 4 octets fit, (field-lt 6 10 octets fit, tt))));
  octets_are =
      let stores = Stands-then (Stands-number 2 0 octets fit (omega arith)) (Stands-number 2 2 octets fit (omega arith)) in
      (Stands-then (Stands-then stores (Stands-number 6 4 octets fit (omega arith))) (Stands-number 6 10 octets fit long)).is;
}

pub resize_reader : IsReader (list_of 15 25 (store_field ∷ size_field ∷ []) (λ item. Resize (field 2 0 item) (field 4 2 item)))
resize_reader octets fit long right = record {
  asked = refl;
  lone = refl;
  lawful = tt;
  fits = (field-lt 2 0 octets fit, (field-lt 4 2 octets fit, tt));
  octets_are = (Stands-then (Stands-number 2 0 octets fit (omega arith)) (Stands-number 4 2 octets fit long)).is;
}

pub channel_reader : IsReader (list_of 15 28 (store_field ∷ channel_field ∷ []) (λ item. Channel (field 2 0 item) (slice_index item 2)))
channel_reader octets fit long right = record {
  asked = refl;
  lone = refl;
  lawful = tt;
  fits = (field-lt 2 0 octets fit, (octet-lt octets fit 2, tt));
  octets_are = (Stands-then (Stands-number 2 0 octets fit (omega arith)) (Stands-octet 2 octets (omega arith))).is;
}

-- an octet that is 0 or 1, as that of what a store does when it is full
store_kind-octet : (octet : ℕ) → nat_lt 1 octet ≡ false → kind_octet (store_kind_in octet) ≡ octet
store_kind-octet zero right = refl
store_kind-octet (suc zero) right = refl
store_kind-octet (suc (suc octet)) right = let most = ltb-false 1 (suc (suc octet)) right in absurd (omega arith)

pub create_reader : IsReader (list_of 15 20 (store_field ∷ OneKind ∷ size_field ∷ channel_field ∷ [])
    (λ item. Create (field 2 0 item) (store_kind_in (slice_index item 2)) (field 4 3 item) (slice_index item 7)))
create_reader octets fit long right =
    let octet : nat_lt 1 (slice_index octets 2) ≡ false = ap (nat_lt 1) (sym (get_or-drop 2 octets 0 0)) ∙ right 2 (omega arith) in
    let kind : kind_octet (store_kind_in (slice_index octets 2)) ≡ slice_index octets 2 = store_kind-octet (slice_index octets 2) octet in
    let first = Stands-then (Stands-number 2 0 octets fit (omega arith)) (Stands-octet 2 octets (omega arith)) in
    let all = Stands-then (Stands-then first (Stands-number 4 3 octets fit (omega arith))) (Stands-octet 7 octets (omega arith)) in record {
      asked = refl;
      lone = refl;
      lawful = tt;
      fits = (field-lt 2 0 octets fit, (tt, (field-lt 4 3 octets fit, (octet-lt octets fit 7, tt))));
      octets_are = all.is ∙ ap (λ (octet : ℕ). (((big_bytes 2 (field 2 0 octets) ++ octet ∷ []) ++ big_bytes 4 (field 4 3 octets)) ++ slice_index octets 7 ∷ []) ++ drop 8 octets) (sym kind);
    }

-- one pattern, and a store with a pattern

pub pattern_reader : (subtype : ℕ) (make : Pattern → Instruction) → ((p : Pattern) → kind_asked (make p) ≡ (14, subtype)) → ((p : Pattern) → is_alone (make p) ≡ false)
    → ((p : Pattern) → IsPattern p → IsInstruction (make p)) → ((p : Pattern) → HasPatternOctets p → HasOctets (make p)) → ((p : Pattern) → item_of (make p) ≡ pattern_octets p)
    → IsReader (list_of 14 subtype (OnePattern ∷ []) (λ item. make (pattern_in item)))
pattern_reader subtype make asked lone lawful fits octets_are octets fit long right =
    let pattern = pattern_in octets in
    let reads = ReadsPattern-right octets fit long (IsRight-first OnePattern [] octets right) in record {
      asked = asked pattern;
      lone = lone pattern;
      lawful = lawful pattern reads.lawful;
      fits = fits pattern reads.fits;
      octets_are = reads.octets_are ∙ ap (λ (l : List ℕ). l ++ drop 5 octets) (sym (octets_are pattern));
    }

pub types_reader : (subtype : ℕ) (make : ℕ → Pattern → Instruction) → ((n : ℕ) (p : Pattern) → kind_asked (make n p) ≡ (15, subtype)) → ((n : ℕ) (p : Pattern) → is_alone (make n p) ≡ false)
    → ((n : ℕ) (p : Pattern) → IsPattern p → IsInstruction (make n p)) → ((n : ℕ) (p : Pattern) → n < 65536 → HasPatternOctets p → HasOctets (make n p))
    → ((n : ℕ) (p : Pattern) → item_of (make n p) ≡ big_bytes 2 n ++ pattern_octets p)
    → IsReader (list_of 15 subtype (store_field ∷ OnePattern ∷ []) (λ item. make (field 2 0 item) (pattern_in (drop 2 item))))
types_reader subtype make asked lone lawful fits octets_are octets fit long right =
    let store = field 2 0 octets in
    let pattern = pattern_in (drop 2 octets) in
    let reads = ReadsPattern-right (drop 2 octets) (All-drop (λ (octet : ℕ). octet < 256) 2 octets fit) (omega (arith, length-drop 2 octets))
    (IsRight-first OnePattern [] (drop 2 octets) (IsRight-others store_field (OnePattern ∷ []) octets right)) in record {
      asked = asked store pattern;
      lone = lone store pattern;
      lawful = lawful store pattern reads.lawful;
      fits = fits store pattern (field-lt 2 0 octets fit) reads.fits;
      octets_are = (Stands-then (Stands-number 2 0 octets fit (omega arith)) (Stands-pattern 2 octets reads)).is
          ∙ ap (λ (l : List ℕ). l ++ drop 7 octets) (sym (octets_are store pattern));
    }

-- no field at all
pub empty_reader : (service subtype : ℕ) (item : Instruction) → kind_asked item ≡ (service, subtype) → is_alone item ≡ true → IsInstruction item → HasOctets item → item_of item ≡ []
    → IsReader (alone service subtype [] (λ octets. item))
empty_reader service subtype item asked lone lawful fits octets_are octets fit long right = record {
  asked = asked;
  lone = lone;
  lawful = lawful;
  fits = fits;
  octets_are = ap (λ (l : List ℕ). l ++ octets) (sym octets_are);
}
