use Rattle.request_laws.proofs.Room.{no_room}
use Rattle.request_laws.proofs.keeping.changes_take_no_memory.Goals as goal

pub returns : goal.returns
returns c = no_room
