use Rattle.std.proofs.Common.{ℕ, Err, sym, ◌∙◌, ap, subst}
use Rattle.record_view.specs.Records.{Meaning}
use Rattle.vault.specs.Fetching.{HasPacket, Holds}
use Rattle.vault.specs.Memory.{InMemory, IsSound}
use Rattle.vault.specs.declared.fault.VaultFault.{VaultFault}
use Rattle.vault.proofs.Fetched.{err_holds, found_there}
use Rattle.vault.proofs.vault.Vault.load.Goals as goal

pub returns-in-Ok-clause-told : goal.returns-in-Ok-clause-told
returns-in-Ok-clause-told g c told table stands =
    let is = c.self.view_is in
    let sound = subst IsSound is (c.self.invariant.1 (ap (λ (v : InMemory). v.is_open) is ∙ c.requires.is_open)) in
    let flash = g.B.Board.means.flash c.args.board.now in
    let asked = c.record_at-number.result in
    let found = found_there c.args.self.now flash table c.args.at c.args.position asked.0 asked.1 stands sound c.record_at-number.ensures.at in
    subst (λ (m : Meaning). HasPacket table c.args.at c.args.position m.stamp m.packet)
    (sym (c.in-Ok.ensures.spelled told found.meaning found.spelled found.long)) found.has

pub returns-in-Err-clause-told : goal.returns-in-Err-clause-told
returns-in-Err-clause-told g c told table stands =
    let is = c.self.view_is in
    let sound = subst IsSound is (c.self.invariant.1 (ap (λ (v : InMemory). v.is_open) is ∙ c.requires.is_open)) in
    let flash = g.B.Board.means.flash c.args.board.now in
    let asked = c.record_at-number.result in
    let found = found_there c.args.self.now flash table c.args.at c.args.position asked.0 asked.1 stands sound c.record_at-number.ensures.at in
    subst (λ (fault : VaultFault). Holds {A = ℕ} table c.args.at c.args.position (Err fault) c.load_into.new.held) (sym c.fault_of.ensures)
    (err_holds table c.args.at c.args.position found.meaning c.load_into.new.held c.in-Err.fault
    (c.in-Err.ensures.spelled told found.meaning found.spelled found.long))
