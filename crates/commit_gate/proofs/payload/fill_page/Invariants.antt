use Rattle.std.proofs.Common.{◌≡◌, ◌<◌, ◌+◌, ◌*◌, ℕ, get_or}
use Rattle.commit_gate.specs.Commits.{payload_octet}
use Rattle.commit_gate.proofs.payload.fill_page.Given as goal

abbrev pub invariant-loop-i : goal.invariant-loop-i
invariant-loop-i l = (k : ℕ) → k < l.i → get_or l.page k 0 ≡ payload_octet l.entry
    (256 * l.index + k)
