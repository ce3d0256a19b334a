use Rattle.space_packet.specs.View.{octets_of}
use Rattle.vault.proofs.RenewedFor.{HasRenewed}
use Rattle.vault.proofs.vault.Vault.renew_for.Given as goal

abbrev pub invariant-loop-at : goal.invariant-loop-at
invariant-loop-at g l =
    HasRenewed g.B.Board.means l.fn.board l.board l.fn.self l.self (octets_of l.packet) l.at
