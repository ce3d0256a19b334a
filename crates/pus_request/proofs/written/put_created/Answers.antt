use Rattle.std.proofs.Common.{◌∷◌, ◌++◌, [], ℕ, refl, subst}
use Rattle.octet_fields.specs.Fields.{Writes, big_bytes}
use Rattle.octet_fields.proofs.Splices.{Writes-then}
use Rattle.pus_request.proofs.written.put_created.Goals as goal

pub returns-clause-item : goal.returns-clause-item
returns-clause-item c =
    let kind = Writes-then c.put_u16.ensures c.put_u8.ensures refl in
    let all = Writes-then (Writes-then kind c.put_u32.ensures refl) c.put_u8-2.ensures refl in
    subst
    (λ (octet : ℕ). Writes c.args.out.now c.put_u8-2.new.out c.args.at (((big_bytes 2 c.args.store ++ octet ∷ []) ++ big_bytes 4 c.args.size) ++ c.args.channel ∷ []))
    c.octet.ensures all
