-- What the data of a request spells, and which data spells instructions.
use Rattle.std.proofs.Common.{◌≡◌, ℕ, ◌≤◌, Bool, true, false, not, List, [], ◌∷◌, ◌++◌, length, drop, Option, Some, None, refl, sym, ◌∙◌, ap, arith, length-append, subst}
use Rattle.std.proofs.lemmas.List.{nil_from_length}
use Rattle.std.specs.Prelude.{◌↔◌, IsSomeAnd, if◌then◌else◌, slice_index}
use Rattle.control_defs.specs.declared.instructions.Instruction.{Instruction}
use Rattle.pst_model.specs.declared.faults.RequestFault.{RequestFault}
use Rattle.pst_model.specs.declared.faults.RequestFault.TheVariants.{UnknownService}
use Rattle.pst_model.specs.Layouts.{RequestKind, kind_in}
use Rattle.pst_model.specs.Requests.{AreAsked, SpellsRequest, count_in, data_of, fault_by, front_of, items_by, items_from, items_in, length_asked, malformed_at, malformed_by, place_of, request_fault_of}
use Rattle.pst_model.proofs.ItemOctets.{AreOctets}
use Rattle.pst_model.proofs.KindsFound.{is_service, service_found}
use Rattle.pst_model.proofs.WholeRequests.{IsWhole, none-from_whole, whole-from_none}
use Rattle.pst_model.proofs.RequestData.{AreOf-asked, items_from-data, spelled-by_kind, whole-data}

-- a request by its service and subtype

-- the first fault, by the tests
abbrev fault_when : (service subtype : ℕ) (body : List ℕ) (served : Bool) → Option RequestKind → Option RequestFault
fault_when service subtype body served kind = if not served then Some (UnknownService service) else fault_by subtype body kind

faultless : (service subtype : ℕ) (body : List ℕ) (served : Bool) (kind : Option RequestKind) → fault_when service subtype body served kind ≡ None → IsSomeAnd kind (λ kind. malformed_at kind body ≡ None)
faultless service subtype body true (Some kind) is = by (malformed_at kind body) is
  where
    by : (at : Option ℕ) → malformed_by at ≡ None → at ≡ None
    by None is = refl
    by (Some at) is = absurd cc
faultless service subtype body true None is = absurd cc
faultless service subtype body false kind is = absurd cc

pub none-from_kind : (service subtype : ℕ) (body : List ℕ) (kind : RequestKind) → kind_in service subtype ≡ Some kind → IsWhole kind body → request_fault_of service subtype body ≡ None
none-from_kind service subtype body kind found whole =
    ap (λ (served : Bool). fault_when service subtype body served (kind_in service subtype)) (service_found service subtype kind found)
    ∙ ap (fault_when service subtype body true) found
    ∙ ap malformed_by (none-from_whole kind body whole)

items_in-kind : (service subtype : ℕ) (body : List ℕ) (kind : RequestKind) → kind_in service subtype ≡ Some kind → items_in service subtype body ≡ items_from kind (count_in kind body) (drop (front_of kind) body)
items_in-kind service subtype body kind found = ap (items_by body) found

pub spelled-from_none : (service subtype : ℕ) (body : List ℕ) → AreOctets body → request_fault_of service subtype body ≡ None → SpellsRequest service subtype body (items_in service subtype body)
spelled-from_none service subtype body fit is = by (kind_in service subtype) refl (faultless service subtype body (is_service service) (kind_in service subtype) is)
  where
    by : (kind : Option RequestKind) → kind_in service subtype ≡ kind → IsSomeAnd kind (λ kind. malformed_at kind body ≡ None) → SpellsRequest service subtype body (items_in service subtype body)
    by (Some kind) found none =
        subst (SpellsRequest service subtype body) (sym (items_in-kind service subtype body kind found)) (spelled-by_kind service subtype kind found body fit (whole-from_none kind body none))
    by None found none = absurd none

pub none-data_of : (service subtype : ℕ) (items : List Instruction) → AreAsked service subtype items → request_fault_of service subtype (data_of items) ≡ None
none-data_of service subtype items asked =
    let of = AreOf-asked service subtype items asked in
    none-from_kind service subtype (data_of items) of.kind of.found (whole-data service subtype items asked of.kind of.are)

pub items_in-data_of : (service subtype : ℕ) (items : List Instruction) → AreAsked service subtype items → items_in service subtype (data_of items) ≡ items
items_in-data_of service subtype items asked =
    let of = AreOf-asked service subtype items asked in
    items_in-kind service subtype (data_of items) of.kind of.found ∙ items_from-data service subtype items asked of.kind of.are

-- what is spelled is what is read

pub none-spelled : (service subtype : ℕ) (body : List ℕ) (items : List Instruction) → SpellsRequest service subtype body items → request_fault_of service subtype body ≡ None
none-spelled service subtype body items spells = ap (request_fault_of service subtype) spells.octets ∙ none-data_of service subtype items spells.asked

pub items_in-spelled : (service subtype : ℕ) (body : List ℕ) (items : List Instruction) → SpellsRequest service subtype body items → items ≡ items_in service subtype body
items_in-spelled service subtype body items spells = sym (ap (items_in service subtype) spells.octets ∙ items_in-data_of service subtype items spells.asked)

pub none-or_spelled : (service subtype : ℕ) (body : List ℕ) → AreOctets body → (request_fault_of service subtype body ≡ None) ↔ SpellsRequest service subtype body (items_in service subtype body)
none-or_spelled service subtype body fit =
    (spelled-from_none service subtype body fit, none-spelled service subtype body (items_in service subtype body))

-- no data that spells instructions begins other data that does

-- the kind of a request whose data spells instructions, and that it is not malformed
record IsSpelled (service subtype : ℕ) (body : List ℕ) : Type 0 where
  kind : RequestKind
  found : kind_in service subtype ≡ Some kind
  whole : IsWhole kind body

IsSpelled-spells : (service subtype : ℕ) (body : List ℕ) (items : List Instruction) → SpellsRequest service subtype body items → IsSpelled service subtype body
IsSpelled-spells service subtype body items spells =
    let of = AreOf-asked service subtype items spells.asked in record {
      kind = of.kind;
      found = of.found;
      whole = subst (IsWhole of.kind) (sym spells.octets) (whole-data service subtype items spells.asked of.kind of.are);
    }

count-append : (list : Bool) (front more : List ℕ) → 1 ≤ (if list then slice_index front 0 else 1) → (if list then slice_index (front ++ more) 0 else 1) ≡ (if list then slice_index front 0 else 1)
count-append true [] more some = absurd (omega arith)
count-append true (count ∷ rest) more some = refl
count-append false front more some = refl

pub nothing_more : (service subtype : ℕ) (front more : List ℕ) (items all : List Instruction) → SpellsRequest service subtype front items → SpellsRequest service subtype (front ++ more) all → more ≡ []
nothing_more service subtype front more items all first second =
    let one = IsSpelled-spells service subtype front items first in
    let two = IsSpelled-spells service subtype (front ++ more) all second in
    let same : Some two.kind ≡ Some one.kind = sym two.found ∙ one.found in
    let is : two.kind ≡ one.kind = cc in
    let whole : IsWhole one.kind (front ++ more) = subst (λ (k : RequestKind). IsWhole k (front ++ more)) is two.whole in
    let count : count_in one.kind (front ++ more) ≡ count_in one.kind front = count-append one.kind.is_list front more one.whole.some in
    let short = one.whole.long in
    let long : length (front ++ more) ≡ length_asked one.kind front = whole.long ∙ ap (place_of one.kind) count in
    nil_from_length more (omega (arith, short, long, length-append front more))
