use Rattle.std.proofs.Common.{length, refl}
use Rattle.request_laws.proofs.ShownTables.{held_behind}
use Rattle.request_laws.proofs.showing.carried_tables_are_held.Goals as goal

pub returns : goal.returns
returns c = λ blocks acks image d table items changes next indexes pages held walk ended.
    held_behind blocks d table items (length items) changes next indexes walk acks refl ended image pages held
