use Rattle.put_laws.proofs.NewPages.{off_behind, off_unnamed}
use Rattle.put_laws.proofs.beside.records_lie_before_new_pages.Goals as goal

pub returns-clause-unnamed : goal.returns-clause-unnamed
returns-clause-unnamed c = off_unnamed

pub returns-clause-behind : goal.returns-clause-behind
returns-clause-behind c = off_behind
