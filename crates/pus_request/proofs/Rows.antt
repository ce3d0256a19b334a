-- The kinds that the code knows stand in the table.
use Rattle.std.proofs.Common.{◌≡◌, ℕ, List, Some, None, refl, sym, ◌∙◌}
use Rattle.octet_fields.proofs.Parts.{same_pair}
use Rattle.pst_model.specs.Layouts.{kind_in}
use Rattle.pst_model.specs.Requests.{SpellsRequest, items_by, malformed_at}
use Rattle.pst_model.proofs.ItemOctets.{AreOctets}
use Rattle.pst_model.proofs.KindsFound.{reader_found}
use Rattle.pst_model.proofs.RequestData.{spelled-by_kind}
use Rattle.pst_model.proofs.WholeRequests.{whole-from_none}
use Rattle.pus_request.specs.declared.kinds.Kind.{Kind}
use Rattle.pus_request.specs.declared.kinds.Kind.TheVariants.{ForwardAdd}
use Rattle.pus_request.specs.Kinds.{asked_by, row_of}

pub found-row : (kind : Kind) → kind_in (asked_by kind).0 (asked_by kind).1 ≡ Some (row_of kind)
found-row ForwardAdd = refl
found-row _ = refl

-- a kind that is found by a service type and a message subtype has these
pub asked-found : (kind : Kind) (service subtype : ℕ) → kind_in service subtype ≡ Some (row_of kind) → asked_by kind ≡ (service, subtype)
asked-found kind service subtype found =
    let own = reader_found (asked_by kind).0 (asked_by kind).1 (row_of kind) (found-row kind) in
    let other = reader_found service subtype (row_of kind) found in
    same_pair (sym own.1 ∙ other.1) (sym own.2 ∙ other.2)

-- data of a kind that is not malformed spells the instructions that are read
pub spelled-view : (kind : Kind) (body : List ℕ) → AreOctets body → malformed_at (row_of kind) body ≡ None → SpellsRequest (asked_by kind).0 (asked_by kind).1 body (items_by body (Some (row_of kind)))
spelled-view kind body fit none = spelled-by_kind (asked_by kind).0 (asked_by kind).1 (row_of kind) (found-row kind) body fit (whole-from_none (row_of kind) body none)
