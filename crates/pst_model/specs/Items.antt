-- How requests spell instructions: what they ask for, and the octets of an item.
use Rattle.std.specs.Prelude.{◌<◌, ◌^◌, ℕ, Bool, true, false, List, [], ◌∷◌, ◌++◌}
use Rattle.octet_fields.specs.Fields.{big_bytes}
use Rattle.control_defs.specs.declared.instructions.Instruction.{Instruction}
use Rattle.control_defs.specs.declared.instructions.Instruction.TheVariants.{ForwardAdd, ForwardDelete, ForwardReport, Enable, Disable, AddTypes, DeleteTypes, ReportTypes, StartRange, DeleteUpTo, Summary, OpenFrom, Resume, Suspend, Abort, Status, Create, Remove, Configuration, Copy, Resize, ToCircular, ToBounded, Channel}
use Rattle.control_defs.specs.declared.instructions.StoreKind.{StoreKind}
use Rattle.control_defs.specs.declared.patterns.Pattern.{Pattern}
use Rattle.control_defs.specs.Instructions.{kind_octet}
use Rattle.control_defs.specs.PatternOctets.{pattern_octets}
use Rattle.control_defs.specs.Patterns.{HasPatternOctets}

-- A part of an item: a number in so many octets, one octet, a pattern, or what a store does when it
-- is full.
pub data Part : Type 0 where
  Number : (width number : ℕ) → Part
  Octet : (octet : ℕ) → Part
  OfPattern : Pattern → Part
  OfKind : StoreKind → Part

abbrev pub part_octets : Part → List ℕ
part_octets (Number width number) = big_bytes width number
part_octets (Octet octet) = octet ∷ []
part_octets (OfPattern pattern) = pattern_octets pattern
part_octets (OfKind kind) = kind_octet kind ∷ []

-- its numbers fit their octets
abbrev pub FitsPart : Part → Type 0
FitsPart (Number width number) = number < 256 ^ width
FitsPart (Octet octet) = octet < 256
FitsPart (OfPattern pattern) = HasPatternOctets pattern
FitsPart (OfKind kind) = Unit {0}

abbrev pub FitParts : List Part → Type 0
FitParts [] = Unit {0}
FitParts (part ∷ parts) = FitsPart part × FitParts parts

-- the octets of parts behind others
abbrev pub octets_behind : (front : List ℕ) → List Part → List ℕ
octets_behind front [] = front
octets_behind front (part ∷ parts) = octets_behind (front ++ part_octets part) parts

-- How a request asks for an instruction: its service type and message subtype, whether it asks for
-- one instruction alone or for a list, and the parts of an item.
pub record Spelling : Type 0 where
  pub service : ℕ
  pub subtype : ℕ
  pub lone : Bool
  pub parts : List Part

abbrev pub listed_as : (service subtype : ℕ) → List Part → Spelling
listed_as service subtype parts = record {
  service = service;
  subtype = subtype;
  lone = false;
  parts = parts;
}

abbrev pub alone_as : (service subtype : ℕ) → List Part → Spelling
alone_as service subtype parts = record {
  service = service;
  subtype = subtype;
  lone = true;
  parts = parts;
}

-- each kind of instruction
abbrev pub spelling_of : Instruction → Spelling
spelling_of (ForwardAdd pattern) = listed_as 14 1 (OfPattern pattern ∷ [])
spelling_of (ForwardDelete pattern) = listed_as 14 2 (OfPattern pattern ∷ [])
spelling_of ForwardReport = alone_as 14 3 []
spelling_of (Enable store) = listed_as 15 1 (Number 2 store ∷ [])
spelling_of (Disable store) = listed_as 15 2 (Number 2 store ∷ [])
spelling_of (AddTypes store pattern) = listed_as 15 3 (Number 2 store ∷ OfPattern pattern ∷ [])
spelling_of (DeleteTypes store pattern) = listed_as 15 4 (Number 2 store ∷ OfPattern pattern ∷ [])
spelling_of (ReportTypes store) = alone_as 15 5 (Number 2 store ∷ [])
spelling_of (StartRange store t1 t2) =
    listed_as 15 9 (Number 2 store ∷ Number 6 t1 ∷ Number 6 t2 ∷ [])
spelling_of (DeleteUpTo store t) = listed_as 15 11 (Number 2 store ∷ Number 6 t ∷ [])
spelling_of (Summary store) = listed_as 15 12 (Number 2 store ∷ [])
spelling_of (OpenFrom store t) = listed_as 15 14 (Number 2 store ∷ Number 6 t ∷ [])
spelling_of (Resume store) = listed_as 15 15 (Number 2 store ∷ [])
spelling_of (Suspend store) = listed_as 15 16 (Number 2 store ∷ [])
spelling_of (Abort store) = listed_as 15 17 (Number 2 store ∷ [])
spelling_of Status = alone_as 15 18 []
spelling_of (Create store kind size channel) =
    listed_as 15 20 (Number 2 store ∷ OfKind kind ∷ Number 4 size ∷ Octet channel ∷ [])
spelling_of (Remove store) = listed_as 15 21 (Number 2 store ∷ [])
spelling_of Configuration = alone_as 15 22 []
spelling_of (Copy from to t1 t2) =
    listed_as 15 24 (Number 2 from ∷ Number 2 to ∷ Number 6 t1 ∷ Number 6 t2 ∷ [])
spelling_of (Resize store size) = listed_as 15 25 (Number 2 store ∷ Number 4 size ∷ [])
spelling_of (ToCircular store) = listed_as 15 26 (Number 2 store ∷ [])
spelling_of (ToBounded store) = listed_as 15 27 (Number 2 store ∷ [])
spelling_of (Channel store channel) = listed_as 15 28 (Number 2 store ∷ Octet channel ∷ [])

-- the service type and the message subtype of a request for an instruction
abbrev pub kind_asked : Instruction → ℕ × ℕ
kind_asked item = ((spelling_of item).service, (spelling_of item).subtype)

-- whether a request asks for one instruction of its kind alone
abbrev pub is_alone : Instruction → Bool
is_alone item = (spelling_of item).lone

-- the octets of an instruction's item
abbrev pub item_of : Instruction → List ℕ
item_of item = octets_behind [] (spelling_of item).parts

-- each of its numbers fits the octets of its field
abbrev pub HasOctets : Instruction → Type 0
HasOctets item = FitParts (spelling_of item).parts
