-- The kinds of request of services 14 and 15, each with the fields of its items (ECSS-E-ST-70-41C,
-- 8.14.2 and 8.15.2).
use Rattle.std.specs.Prelude.{◌+◌, ◌-◌, ◌==◌, ◌&&◌, ℕ, Bool, true, false, nat_lt, if◌then◌else◌, find, List, [], ◌∷◌, drop, slice_index, Option}
use Rattle.octet_fields.specs.Fields.{field}
use Rattle.control_defs.specs.declared.instructions.Instruction.{Instruction}
use Rattle.control_defs.specs.declared.instructions.Instruction.TheVariants.{ForwardAdd, ForwardDelete, ForwardReport, Enable, Disable, AddTypes, DeleteTypes, ReportTypes, StartRange, DeleteUpTo, Summary, OpenFrom, Resume, Suspend, Abort, Status, Create, Remove, Configuration, Copy, Resize, ToCircular, ToBounded, Channel}
use Rattle.control_defs.specs.Instructions.{store_kind_in}
use Rattle.control_defs.specs.PatternOctets.{is_wrong_in_pattern, pattern_in}

-- A field of an item: so many octets, any of which may stand there, a pattern, or what a store does
-- when it is full.
pub data Field : Type 0 where
  Octets : (count : ℕ) → Field
  OnePattern : Field
  OneKind : Field

-- the fields by their names: identifiers of stores, times in 1/65,536 s, sizes in pages, virtual
-- channels
abbrev pub store_field : Field
store_field = Octets 2

abbrev pub time_field : Field
time_field = Octets 6

abbrev pub size_field : Field
size_field = Octets 4

abbrev pub channel_field : Field
channel_field = Octets 1

-- the octets of a field, and those of an item of such fields
abbrev pub width_of_field : Field → ℕ
width_of_field (Octets count) = count
width_of_field OnePattern = 5
width_of_field OneKind = 1

abbrev pub width_of : List Field → ℕ
width_of [] = 0
width_of (first ∷ others) = width_of_field first + width_of others

-- whether the octet at this place of a field is wrong
abbrev pub is_wrong_in_field : Field → List ℕ → (place : ℕ) → Bool
is_wrong_in_field (Octets count) octets place = false
is_wrong_in_field OnePattern octets place = is_wrong_in_pattern octets place
is_wrong_in_field OneKind octets place = nat_lt 1 (slice_index octets 0)

-- whether the octet at this place of an item is wrong in its field
abbrev pub is_wrong_in : List Field → List ℕ → (place : ℕ) → Bool
is_wrong_in [] octets place = false
is_wrong_in (first ∷ others) octets place =
    if nat_lt place (width_of_field first) then is_wrong_in_field first octets place
    else is_wrong_in others (drop (width_of_field first) octets) (place - width_of_field first)

-- A kind of request: its service type and message subtype, whether its data is a list of items with
-- their number in front or one item alone, the fields of an item, and the instruction that an item
-- spells.
pub record RequestKind : Type 0 where
  pub service : ℕ
  pub subtype : ℕ
  pub is_list : Bool
  pub fields : List Field
  pub spelled : List ℕ → Instruction

abbrev pub list_of : (service subtype : ℕ) → List Field → (List ℕ → Instruction) → RequestKind
list_of service subtype fields spelled = record {
  service = service;
  subtype = subtype;
  is_list = true;
  fields = fields;
  spelled = spelled;
}

abbrev pub alone : (service subtype : ℕ) → List Field → (List ℕ → Instruction) → RequestKind
alone service subtype fields spelled = record {
  service = service;
  subtype = subtype;
  is_list = false;
  fields = fields;
  spelled = spelled;
}

-- each kind of request
abbrev pub kinds : List RequestKind
kinds =
    list_of 14 1 (OnePattern ∷ []) (λ item. ForwardAdd (pattern_in item))
    ∷ list_of 14 2 (OnePattern ∷ []) (λ item. ForwardDelete (pattern_in item))
    ∷ alone 14 3 [] (λ item. ForwardReport)
    ∷ list_of 15 1 (store_field ∷ []) (λ item. Enable (field 2 0 item))
    ∷ list_of 15 2 (store_field ∷ []) (λ item. Disable (field 2 0 item))
    ∷ list_of 15 3 (store_field ∷ OnePattern ∷ [])
    (λ item. AddTypes (field 2 0 item) (pattern_in (drop 2 item)))
    ∷ list_of 15 4 (store_field ∷ OnePattern ∷ [])
    (λ item. DeleteTypes (field 2 0 item) (pattern_in (drop 2 item)))
    ∷ alone 15 5 (store_field ∷ []) (λ item. ReportTypes (field 2 0 item))
    ∷ list_of 15 9 (store_field ∷ time_field ∷ time_field ∷ [])
    (λ item. StartRange (field 2 0 item) (field 6 2 item) (field 6 8 item))
    ∷ list_of 15 11 (store_field ∷ time_field ∷ [])
    (λ item. DeleteUpTo (field 2 0 item) (field 6 2 item))
    ∷ list_of 15 12 (store_field ∷ []) (λ item. Summary (field 2 0 item))
    ∷ list_of 15 14 (store_field ∷ time_field ∷ [])
    (λ item. OpenFrom (field 2 0 item) (field 6 2 item))
    ∷ list_of 15 15 (store_field ∷ []) (λ item. Resume (field 2 0 item))
    ∷ list_of 15 16 (store_field ∷ []) (λ item. Suspend (field 2 0 item))
    ∷ list_of 15 17 (store_field ∷ []) (λ item. Abort (field 2 0 item))
    ∷ alone 15 18 [] (λ item. Status)
    ∷ list_of 15 20 (store_field ∷ OneKind ∷ size_field ∷ channel_field ∷ [])
    (λ item. Create (field 2 0 item) (store_kind_in (slice_index item 2)) (field 4 3 item)
    (slice_index item 7))
    ∷ list_of 15 21 (store_field ∷ []) (λ item. Remove (field 2 0 item))
    ∷ alone 15 22 [] (λ item. Configuration)
    ∷ list_of 15 24 (store_field ∷ store_field ∷ time_field ∷ time_field ∷ [])
    (λ item. Copy (field 2 0 item) (field 2 2 item) (field 6 4 item) (field 6 10 item))
    ∷ list_of 15 25 (store_field ∷ size_field ∷ [])
    (λ item. Resize (field 2 0 item) (field 4 2 item))
    ∷ list_of 15 26 (store_field ∷ []) (λ item. ToCircular (field 2 0 item))
    ∷ list_of 15 27 (store_field ∷ []) (λ item. ToBounded (field 2 0 item))
    ∷ list_of 15 28 (store_field ∷ channel_field ∷ [])
    (λ item. Channel (field 2 0 item) (slice_index item 2))
    ∷ []

-- the kind with this service type and message subtype
abbrev pub is_kind : (service subtype : ℕ) → RequestKind → Bool
is_kind service subtype kind = kind.service == service && kind.subtype == subtype

abbrev pub kind_in : (service subtype : ℕ) → Option RequestKind
kind_in service subtype = find (is_kind service subtype) kinds
