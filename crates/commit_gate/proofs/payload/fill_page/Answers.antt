use Rattle.std.proofs.Common.{◌≡◌, ◌+◌, ◌*◌, length, arith}
use Rattle.std.proofs.lemmas.List.FromFn.{fill_by_all}
use Rattle.commit_gate.specs.Commits.{payload_octet, payload_page}
use Rattle.commit_gate.proofs.payload.fill_page.Goals as goal

pub returns : goal.returns
unfolding payload_page
returns c =
    let long : length c.loop-i.page ≡ 256 = omega arith in
    fill_by_all (λ k. payload_octet c.args.entry.now (256 * c.args.index + k)) c.loop-i.page 256 0
    long (λ k lt. c.loop-i.invariant k (omega arith))
