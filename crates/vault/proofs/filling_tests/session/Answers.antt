use Rattle.board.proofs.Works.{tells_too}
use Rattle.std.proofs.Common.{sym}
use Rattle.vault.proofs.filling_tests.session.Goals as goal

pub store_all-requires-clause-flash : goal.store_all-requires-clause-flash
store_all-requires-clause-flash c =
    λ told. c.in-Ok-open.ensures.stands (tells_too (sym c.in-Ok-open.ensures.reads.same) told) c.requires
