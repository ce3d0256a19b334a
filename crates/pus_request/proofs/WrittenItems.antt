-- What the writes of a request leave.
use Rattle.std.proofs.Common.{◌≡◌, ℕ, ◌+◌, ◌<◌, ◌≤◌, Bool, true, false, List, [], ◌∷◌, ◌++◌, length, take, drop, get_or, Some, refl, sym, ap, ◌∙◌, subst, arith}
use Rattle.octet_fields.specs.Fields.{Writes}
use Rattle.octet_fields.proofs.Splices.{Writes-at_front, Writes-from_front, Writes-then}
use Rattle.space_packet.specs.Header.{header_of}
use Rattle.control_defs.specs.declared.instructions.Instruction.{Instruction}
use Rattle.control_defs.specs.declared.instructions.Instruction.TheVariants.{ForwardAdd}
use Rattle.control_defs.specs.declared.patterns.Pattern.TheVariants.{Every}
use Rattle.pst_model.specs.Items.{item_of, kind_asked}
use Rattle.pst_model.specs.Layouts.{kind_in}
use Rattle.std.specs.Prelude.{if◌then◌else◌}
use Rattle.pst_model.specs.Requests.{AreAsked, count_octets, data_of, front_of, items_octets, place_of, request_packet, request_primary, request_secondary, service_of_items, subtype_of_items}
use Rattle.pst_model.proofs.RequestItems.{items_octets-more}
use Rattle.pst_model.proofs.RequestData.{count_octets-kind, length-data_most, length-data_of}
use Rattle.pus_request.specs.declared.kinds.Kind.{Kind}
use Rattle.pus_request.specs.Kinds.{asked_by, row_of}
use Rattle.pus_request.proofs.Rows.{found-row}

-- one more item
pub Writes-more_items : (old new : List ℕ) (at number : ℕ) (items : List Instruction) (d : Instruction) → number < length items
    → Writes old new at (items_octets (take number items) ++ item_of (get_or items number d)) → Writes old new at (items_octets (take (number + 1) items))
Writes-more_items old new at number items d within written = subst (λ (l : List ℕ). Writes old new at l) (sym (items_octets-more items number d within)) written

-- the headers, the number of items and the items
pub written-packet : (old headed counted new : List ℕ) (count acks service subtype source size : ℕ) (items : List Instruction) → size ≡ length (data_of items) → 11 ≤ length old
    → headed ≡ header_of (request_primary count size) ++ request_secondary acks service subtype source ++ drop 11 old
    → Writes headed counted 11 (count_octets items) → Writes counted new (11 + length (count_octets items)) (items_octets items)
    → new ≡ request_packet count acks service subtype source items ++ drop (length (request_packet count acks service subtype source items)) old
written-packet old headed counted new count acks service subtype source size items whole room front number behind =
    let head : List ℕ = header_of (request_primary count (length (data_of items))) ++ request_secondary acks service subtype source in
    let headers : Writes old headed 0 head =
    Writes-from_front old headed head room
    (front ∙ ap (λ (n : ℕ). header_of (request_primary count n) ++ request_secondary acks service subtype source ++ drop 11 old) whole) in
    let rest : Writes headed new 11 (data_of items) = Writes-then number behind refl in
    Writes-at_front (Writes-then headers rest refl)

-- The kind for which a request of instructions asks, by the first of them.
module _ (items : List Instruction) (kind : Kind) (first : kind_asked (get_or items 0 (ForwardAdd Every)) ≡ asked_by kind) (asked : AreAsked (service_of_items items) (subtype_of_items items) items) where
  pub asked_first : (service_of_items items ≡ (asked_by kind).0) × (subtype_of_items items ≡ (asked_by kind).1)
  asked_first = by items first asked.some
    where
      by : (items : List Instruction) → kind_asked (get_or items 0 (ForwardAdd Every)) ≡ asked_by kind → 1 ≤ length items
          → (service_of_items items ≡ (asked_by kind).0) × (subtype_of_items items ≡ (asked_by kind).1)
      by [] is none = absurd (omega arith)
      by (item ∷ items) is some = (ap (λ (asked : ℕ × ℕ). asked.0) is, ap (λ (asked : ℕ × ℕ). asked.1) is)

  row_first : kind_in (service_of_items items) (subtype_of_items items) ≡ Some (row_of kind)
  row_first = ap (λ (s : ℕ). kind_in s (subtype_of_items items)) asked_first.0 ∙ ap (kind_in (asked_by kind).0) asked_first.1 ∙ found-row kind

  pub size_asked : length (data_of items) ≡ place_of (row_of kind) (length items)
  size_asked = length-data_of (service_of_items items) (subtype_of_items items) items asked (row_of kind) row_first

  pub size_most : length (data_of items) ≤ 513
  size_most = length-data_most (service_of_items items) (subtype_of_items items) items asked

  pub count_asked : count_octets items ≡ (if (row_of kind).is_list then length items ∷ [] else [])
  count_asked = count_octets-kind (service_of_items items) (subtype_of_items items) items asked (row_of kind) row_first

  pub front_asked : length (count_octets items) ≡ front_of (row_of kind)
  front_asked = ap length count_asked ∙ by (row_of kind).is_list
    where
      by : (list : Bool) → length (if list then length items ∷ [] else []) ≡ (if list then 1 else 0)
      by true = refl
      by false = refl
