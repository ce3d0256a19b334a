use Rattle.std.proofs.Common.{length, refl}
use Rattle.request_laws.proofs.ShownTables.{shown_behind, shown_so_far}
use Rattle.request_laws.proofs.showing.carried_tables_are_shown.Goals as goal

pub returns-clause-so_far : goal.returns-clause-so_far
returns-clause-so_far c = λ blocks d table items at changes next indexes view walk. shown_so_far blocks d table items at changes next indexes walk view

pub returns-clause-behind : goal.returns-clause-behind
returns-clause-behind c = λ blocks acks d table items changes next indexes view walk ended.
    shown_behind blocks d table items (length items) changes next indexes walk acks refl ended view
