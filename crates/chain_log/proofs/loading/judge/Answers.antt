use Rattle.std.proofs.Common.{◌≡◌, ℕ, ◌+◌, ◌-◌, ◌/◌, List, take, drop, sym, ◌∙◌, ap, arith}
use Rattle.octet_fields.specs.Fields.{field}
use Rattle.space_packet.specs.Packet.{said_length, version_of}
use Rattle.chain_log.specs.Loaded.{IsFirstDifference, packet_in}
use Rattle.chain_log.proofs.Judging.{fault_is, length_first, number_first, own_first, passed_on}
use Rattle.chain_log.proofs.Judging.{version_first}
use Rattle.chain_log.proofs.loading.judge.Goals as goal

-- the packet, as a part of the octets
part_is : (octets : List ℕ) (long : ℕ)
    → take (16 + long - 16) (drop 16 octets) ≡ packet_in octets long
part_is octets long =
    let same : 16 + long - 16 ≡ long = omega arith in
    ap (λ (k : ℕ). take k (drop 16 octets)) same

pub returns-in_err-expect-clause-differs : goal.returns-in_err-expect-clause-differs
returns-in_err-expect-clause-differs c =
    let octets = c.args.octets.now in
    let number = c.args.number in
    let long = c.args.place.length in
    let err = c.in_err-expect.ensures.err in
    passed_on c.from_residual.result c.in_err-expect.field-0.0
    (IsFirstDifference octets number long) c.from_residual.ensures.1
    (fault_is octets number long _ _ _ _ (field 4 6 octets) c.in_err-expect.field-0.0 err.1
    c.u32_at.ensures
    (number_first number long octets (λ same. err.0 (same ∙ sym c.u32_at.ensures))))

pub returns-in_err-expect-2-clause-differs : goal.returns-in_err-expect-2-clause-differs
returns-in_err-expect-2-clause-differs c =
    let octets = c.args.octets.now in
    let number = c.args.number in
    let long = c.args.place.length in
    let err = c.in_err-expect-2.ensures.err in
    let there : c.from.result ≡ field 2 10 octets = c.from.ensures ∙ c.u16_at.ensures in
    passed_on c.from_residual-in_err-expect-2.result c.in_err-expect-2.field-0.0
    (IsFirstDifference octets number long) c.from_residual-in_err-expect-2.ensures.1
    (fault_is octets number long _ _ _ _ (field 2 10 octets) c.in_err-expect-2.field-0.0 err.1 there
    (length_first number long octets (c.in_ok-expect.ensures.ok ∙ c.u32_at.ensures)
    (λ same. err.0 (same ∙ sym there))))

pub returns-in_err-expect-3-clause-differs : goal.returns-in_err-expect-3-clause-differs
returns-in_err-expect-3-clause-differs c =
    let octets = c.args.octets.now in
    let number = c.args.number in
    let long = c.args.place.length in
    let err = c.in_err-expect-3.ensures.err in
    let there : c.from-2.result ≡ version_of (packet_in octets long) =
    c.from-2.ensures ∙ ap (λ (n : ℕ). n / 8192) c.u16_at-2.ensures
    ∙ ap version_of (part_is octets long) in
    passed_on c.from_residual-in_err-expect-3.result c.in_err-expect-3.field-0.0
    (IsFirstDifference octets number long) c.from_residual-in_err-expect-3.ensures.1
    (fault_is octets number long _ _ _ _ (version_of (packet_in octets long))
    c.in_err-expect-3.field-0.0 err.1 there
    (version_first number long octets (c.in_ok-expect.ensures.ok ∙ c.u32_at.ensures)
    (c.in_ok-expect-2.ensures.ok ∙ c.from.ensures ∙ c.u16_at.ensures)
    (λ same. err.0 (same ∙ sym there))))

pub returns-in_err-expect-4-clause-differs : goal.returns-in_err-expect-4-clause-differs
returns-in_err-expect-4-clause-differs c =
    let octets = c.args.octets.now in
    let number = c.args.number in
    let long = c.args.place.length in
    let err = c.in_err-expect-4.ensures.err in
    let version : c.from-2.result ≡ version_of (packet_in octets long) =
    c.from-2.ensures ∙ ap (λ (n : ℕ). n / 8192) c.u16_at-2.ensures
    ∙ ap version_of (part_is octets long) in
    let there : 7 + c.from-3.result ≡ said_length (packet_in octets long) =
    ap (λ (n : ℕ). 7 + n) (c.from-3.ensures ∙ c.u16_at-3.ensures)
    ∙ ap said_length (part_is octets long) in
    passed_on c.from_residual-in_err-expect-4.result c.in_err-expect-4.field-0.0
    (IsFirstDifference octets number long) c.from_residual-in_err-expect-4.ensures.1
    (fault_is octets number long _ _ _ _ (said_length (packet_in octets long))
    c.in_err-expect-4.field-0.0 err.1 there
    (own_first number long octets (c.in_ok-expect.ensures.ok ∙ c.u32_at.ensures)
    (c.in_ok-expect-2.ensures.ok ∙ c.from.ensures ∙ c.u16_at.ensures)
    (c.in_ok-expect-3.ensures.ok ∙ version)
    (λ same. err.0 (same ∙ sym there))))
