-- The octets of each kind of instruction, as an item of the kind that it asks for.
use Rattle.std.proofs.Common.{◌≡◌, ℕ, suc, ◌-◌, ◌^◌, ◌<◌, Bool, true, false, not, List, [], ◌∷◌, ◌++◌, length, drop, refl, sym, ◌∙◌, ap, arith, subst, Option, Some}
use Rattle.std.proofs.lemmas.Bool.{cond_both, ltb-false, ltb-true}
use Rattle.std.specs.Prelude.{nat_lt, unwrap_or, IsSomeAnd}
use Rattle.byteorder.specs.Endian.{big_number}
use Rattle.byteorder.specs.Numbers.{big_number-reads_back}
use Rattle.octet_fields.specs.Fields.{big_bytes}
use Rattle.octet_fields.proofs.Parts.{same_three, same_two}
use Rattle.control_defs.specs.declared.instructions.Instruction.{Instruction}
use Rattle.control_defs.specs.declared.instructions.Instruction.TheVariants.{ForwardAdd, ForwardDelete, ForwardReport, Enable, Disable, AddTypes, DeleteTypes, ReportTypes, StartRange, DeleteUpTo, Summary, OpenFrom, Resume, Suspend, Abort, Status, Create, Remove, Configuration, Copy, Resize, ToCircular, ToBounded, Channel}
use Rattle.control_defs.specs.declared.instructions.StoreKind.TheVariants.{Circular, Bounded}
use Rattle.control_defs.specs.Instructions.{IsInstruction}
use Rattle.pst_model.specs.Items.{HasOctets, is_alone, item_of, kind_asked}
use Rattle.pst_model.specs.Layouts.{Field, alone, Octets, OneKind, OnePattern, RequestKind, channel_field, is_wrong_in, is_wrong_in_field, kind_in, size_field, store_field, width_of, width_of_field}
use Rattle.control_defs.specs.PatternOctets.{pattern_octets}
use Rattle.pst_model.proofs.KindsRead.{IsRight}
use Rattle.control_defs.proofs.PatternOctets.{length-pattern_octets}
use Rattle.control_defs.proofs.PatternOctets.{IsRightPattern, IsRightPattern-octets, pattern_in-octets}

-- An item of this kind: its octets spell it, whatever follows them, and none is wrong.
pub record IsOf (kind : RequestKind) (item : Instruction) : Type 0 where
  pub long : length (item_of item) ≡ width_of kind.fields
  pub lone : is_alone item ≡ not kind.is_list
  pub back : (rest : List ℕ) → kind.spelled (item_of item ++ rest) ≡ item
  pub right : (rest : List ℕ) → IsRight kind.fields (item_of item ++ rest)

-- fields whose octets are right, one behind another
IsRight-fields : (first : Field) (others : List Field) (octets : List ℕ) → ((place : ℕ) → place < width_of_field first → is_wrong_in_field first octets place ≡ false)
    → IsRight others (drop (width_of_field first) octets) → IsRight (first ∷ others) octets
IsRight-fields first others octets here behind place within =
    let width = width_of_field first in
    cond_both (nat_lt place width) (is_wrong_in_field first octets place) (is_wrong_in others (drop width octets) (place - width)) (λ (b : Bool). b ≡ false)
    (λ before. here place (ltb-true place width before))
    (λ past. let place_behind = ltb-false place width past in behind (place - width) (omega arith))

plain_octets : (count : ℕ) (others : List Field) (octets : List ℕ) → IsRight others (drop count octets) → IsRight (Octets count ∷ others) octets
plain_octets count others octets behind = IsRight-fields (Octets count) others octets (λ place within. refl) behind

one_pattern : (octets : List ℕ) → IsRightPattern octets → IsRight (OnePattern ∷ []) octets
one_pattern octets right = IsRight-fields OnePattern [] octets right (λ place within. refl)

-- fields none of whose octets can be wrong
abbrev are_plain : List Field → Bool
are_plain [] = true
are_plain (Octets count ∷ others) = are_plain others
are_plain (_ ∷ others) = false

plain_right : (fields : List Field) (octets : List ℕ) → are_plain fields ≡ true → IsRight fields octets
plain_right [] octets plain place within = refl
plain_right (Octets count ∷ others) octets plain place within = plain_octets count others octets (plain_right others (drop count octets) plain) place within
plain_right (OnePattern ∷ others) octets plain place within = absurd cc
plain_right (OneKind ∷ others) octets plain place within = absurd cc

-- the kind of requests for an instruction
abbrev row_asked : Instruction → RequestKind
row_asked item = unwrap_or (kind_in (kind_asked item).0 (kind_asked item).1) (alone 0 0 [] (λ octets. Status))

plain_is : {item : Instruction} → are_plain (row_asked item).fields ≡ true → length (item_of item) ≡ width_of (row_asked item).fields
    → is_alone item ≡ not (row_asked item).is_list → ((rest : List ℕ) → (row_asked item).spelled (item_of item ++ rest) ≡ item) → IsOf (row_asked item) item
plain_is {item} plain long lone back = record {
  long = long;
  lone = lone;
  back = back;
  right = λ rest. plain_right (row_asked item).fields (item_of item ++ rest) plain;
}

-- the octets of a store's identifier, its kind, its size and its channel
created_right : (store kind size channel : ℕ) (rest : List ℕ) → nat_lt 1 kind ≡ false
    → IsRight (store_field ∷ OneKind ∷ size_field ∷ channel_field ∷ []) ((((big_bytes 2 store ++ kind ∷ []) ++ big_bytes 4 size) ++ channel ∷ []) ++ rest)
created_right store kind size channel rest right =
    let behind : List ℕ = kind ∷ big_bytes 4 size ++ channel ∷ rest in
    plain_octets 2 (OneKind ∷ size_field ∷ channel_field ∷ []) (big_bytes 2 store ++ behind)
    (IsRight-fields OneKind (size_field ∷ channel_field ∷ []) behind (λ place within. right) (plain_right (size_field ∷ channel_field ∷ []) (drop 1 behind) refl))

-- numbers in their octets, whatever follows these
two : (n : ℕ) → n < 65536 → big_number 2 (big_bytes 2 n) ≡ n
two n fits = big_number-reads_back 2 n [] fits

four : (n : ℕ) → n < 2 ^ 32 → big_number 4 (big_bytes 4 n) ≡ n
four n fits = big_number-reads_back 4 n [] fits

six : (n : ℕ) → n < 2 ^ 48 → big_number 6 (big_bytes 6 n) ≡ n
six n fits = big_number-reads_back 6 n [] fits

IsOf-row : (item : Instruction) → IsInstruction item → HasOctets item → IsOf (row_asked item) item
IsOf-row (ForwardAdd pattern) lawful fits = record {
  long = length-pattern_octets pattern;
  lone = refl;
  back = λ rest. ap ForwardAdd (pattern_in-octets pattern rest lawful);
  right = λ rest. one_pattern (pattern_octets pattern ++ rest) (IsRightPattern-octets pattern rest lawful);
}
IsOf-row (ForwardDelete pattern) lawful fits = record {
  long = length-pattern_octets pattern;
  lone = refl;
  back = λ rest. ap ForwardDelete (pattern_in-octets pattern rest lawful);
  right = λ rest. one_pattern (pattern_octets pattern ++ rest) (IsRightPattern-octets pattern rest lawful);
}
IsOf-row ForwardReport lawful fits = plain_is refl refl refl (λ rest. refl)
IsOf-row (Enable store) lawful fits = plain_is refl refl refl (λ rest. ap Enable (two store fits.0))
IsOf-row (Disable store) lawful fits = plain_is refl refl refl (λ rest. ap Disable (two store fits.0))
IsOf-row (AddTypes store pattern) lawful fits = record {
  long = ap (λ (n : ℕ). suc (suc n)) (length-pattern_octets pattern);
  lone = refl;
  back = λ rest. same_two AddTypes (two store fits.0) (pattern_in-octets pattern rest lawful);
  right = λ rest.
      plain_octets 2 (OnePattern ∷ []) (big_bytes 2 store ++ pattern_octets pattern ++ rest)
      (one_pattern (pattern_octets pattern ++ rest) (IsRightPattern-octets pattern rest lawful));
}
IsOf-row (DeleteTypes store pattern) lawful fits = record {
  long = ap (λ (n : ℕ). suc (suc n)) (length-pattern_octets pattern);
  lone = refl;
  back = λ rest. same_two DeleteTypes (two store fits.0) (pattern_in-octets pattern rest lawful);
  right = λ rest.
      plain_octets 2 (OnePattern ∷ []) (big_bytes 2 store ++ pattern_octets pattern ++ rest)
      (one_pattern (pattern_octets pattern ++ rest) (IsRightPattern-octets pattern rest lawful));
}
IsOf-row (ReportTypes store) lawful fits = plain_is refl refl refl (λ rest. ap ReportTypes (two store fits.0))
IsOf-row (StartRange store t1 t2) lawful fits = plain_is refl refl refl (λ rest. same_three StartRange (two store fits.0) (six t1 lawful.0) (six t2 lawful.1))
IsOf-row (DeleteUpTo store t) lawful fits = plain_is refl refl refl (λ rest. same_two DeleteUpTo (two store fits.0) (six t lawful))
IsOf-row (Summary store) lawful fits = plain_is refl refl refl (λ rest. ap Summary (two store fits.0))
IsOf-row (OpenFrom store t) lawful fits = plain_is refl refl refl (λ rest. same_two OpenFrom (two store fits.0) (six t lawful))
IsOf-row (Resume store) lawful fits = plain_is refl refl refl (λ rest. ap Resume (two store fits.0))
IsOf-row (Suspend store) lawful fits = plain_is refl refl refl (λ rest. ap Suspend (two store fits.0))
IsOf-row (Abort store) lawful fits = plain_is refl refl refl (λ rest. ap Abort (two store fits.0))
IsOf-row Status lawful fits = plain_is refl refl refl (λ rest. refl)
IsOf-row (Create store Circular size channel) lawful fits = record {
  long = refl;
  lone = refl;
  back = λ rest. same_two (λ (s n : ℕ). Create s Circular n channel) (two store fits.0) (four size fits.1.1.0);
  right = λ rest. created_right store 0 size channel rest refl;
}
IsOf-row (Create store Bounded size channel) lawful fits = record {
  long = refl;
  lone = refl;
  back = λ rest. same_two (λ (s n : ℕ). Create s Bounded n channel) (two store fits.0) (four size fits.1.1.0);
  right = λ rest. created_right store 1 size channel rest refl;
}
IsOf-row (Remove store) lawful fits = plain_is refl refl refl (λ rest. ap Remove (two store fits.0))
IsOf-row Configuration lawful fits = plain_is refl refl refl (λ rest. refl)
IsOf-row (Copy from to t1 t2) lawful fits =
    plain_is refl refl refl
    (λ rest. same_three (Copy (big_number 2 (big_bytes 2 from))) (two to fits.1.0) (six t1 lawful.0) (six t2 lawful.1) ∙ ap (λ (s : ℕ). Copy s to t1 t2) (two from fits.0))
IsOf-row (Resize store size) lawful fits = plain_is refl refl refl (λ rest. same_two Resize (two store fits.0) (four size fits.1.0))
IsOf-row (ToCircular store) lawful fits = plain_is refl refl refl (λ rest. ap ToCircular (two store fits.0))
IsOf-row (ToBounded store) lawful fits = plain_is refl refl refl (λ rest. ap ToBounded (two store fits.0))
IsOf-row (Channel store channel) lawful fits = plain_is refl refl refl (λ rest. ap (λ (s : ℕ). Channel s channel) (two store fits.0))

row-found : (item : Instruction) → kind_in (kind_asked item).0 (kind_asked item).1 ≡ Some (row_asked item)
row-found ForwardReport = refl
row-found _ = refl

pub IsOf-asked : (item : Instruction) → IsInstruction item → HasOctets item → IsSomeAnd (kind_in (kind_asked item).0 (kind_asked item).1) (λ kind. IsOf kind item)
IsOf-asked item lawful fits = subst (λ (found : Option RequestKind). IsSomeAnd found (λ kind. IsOf kind item)) (sym (row-found item)) (IsOf-row item lawful fits)
