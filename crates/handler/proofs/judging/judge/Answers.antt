use Rattle.std.proofs.Common.{◌≡◌, false, sym, ◌∙◌}
use Rattle.pst_model.specs.Answers.{is_pending}
use Rattle.pus_header.specs.Commands.{service_of, subtype_of}
use Rattle.pus_header.specs.View.{command_octets}
use Rattle.pus_request.specs.View.{listed}
use Rattle.request_laws.proofs.Asked.{can_be_carried}
use Rattle.handler.proofs.judging.judge.Goals as goal

pub returns-in-Ok-read_request-clause-carried : goal.returns-in-Ok-read_request-clause-carried
returns-in-Ok-read_request-clause-carried c =
    let octets = command_octets c.in-Ok.command in
    let pending : is_pending (service_of octets) (subtype_of octets) ≡ false =
    (λ i. is_pending (sym c.service.ensures i) (sym c.subtype.ensures i)) ∙ sym c.is_pending.ensures ∙ c.if-is_pending.false in
    can_be_carried (service_of octets) (subtype_of octets) (listed c.in-Ok-read_request.items) c.in-Ok-read_request.ensures.spelled.asked pending
