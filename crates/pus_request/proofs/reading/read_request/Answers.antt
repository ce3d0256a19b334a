use Rattle.std.proofs.Common.{◌≡◌, ℕ, List, ◌∙◌, ap, subst}
use Rattle.pus_header.specs.Commands.{service_of, subtype_of}
use Rattle.pus_header.specs.View.{command_octets}
use Rattle.pst_model.specs.Requests.{SpellsRequest}
use Rattle.pus_request.specs.Kinds.{asked_by}
use Rattle.pus_request.specs.View.{listed}
use Rattle.octet_fields.proofs.Parts.{same_pair}
use Rattle.pus_request.proofs.Rows.{asked-found}
use Rattle.pus_request.proofs.reading.read_request.Goals as goal

-- the kind that was found has the service type and the message subtype of the telecommand
asked_is : (c : goal.After-new) → asked_by c.in-Some.kind ≡ (service_of (command_octets c.args.tc.now), subtype_of (command_octets c.args.tc.now))
asked_is c =
    asked-found c.in-Some.kind c.service-service.result c.subtype-subtype.result c.in-Some.ensures
    ∙ same_pair c.service-service.ensures c.subtype-subtype.ensures

pub returns-clause-kind : goal.returns-clause-kind
returns-clause-kind c = ap asked_by c.new.ensures.kind ∙ asked_is c

pub returns-clause-spelled : goal.returns-clause-spelled
returns-clause-spelled c =
    let items = listed c.new.result in
    subst (λ (octets : List ℕ). SpellsRequest (service_of (command_octets c.args.tc.now)) (subtype_of (command_octets c.args.tc.now)) octets items) c.body-body.ensures
    (subst (λ (asked : ℕ × ℕ). SpellsRequest asked.0 asked.1 c.body-body.result.now items) (asked_is c) c.new.ensures.spelled)
