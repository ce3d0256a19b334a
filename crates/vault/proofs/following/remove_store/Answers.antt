use Rattle.std.proofs.Common.{nat_eq, sym, ◌∙◌, arith}
use Rattle.store_directory.specs.Directory.{identifiers}
use Rattle.store_directory.proofs.Places.{first-position}
use Rattle.vault.proofs.Found.{without_at, without_none}
use Rattle.vault.proofs.following.remove_store.Goals as goal

pub returns-in_default-clause-indexes : goal.returns-in_default-clause-indexes
returns-in_default-clause-indexes c =
    sym (without_none c.args.store c.args.directory.now.directory.stores c.args.indexes.now.items c.in_default.ensures.place)

pub returns-in_default-clause-lasts : goal.returns-in_default-clause-lasts
returns-in_default-clause-lasts c =
    sym (without_none c.args.store c.args.directory.now.directory.stores c.args.lasts.now.items c.in_default.ensures.place)

pub returns-clause-indexes : goal.returns-clause-indexes
returns-clause-indexes c =
    let stores = c.args.directory.now.directory.stores in
    let first = first-position (nat_eq c.args.store) (identifiers stores) c.in-Some.at (sym c.in-Some.ensures.place) in
    c.remove.ensures.by_index.2
    ∙ sym (without_at c.args.store stores c.args.indexes.now.items c.in-Some.at first (omega (arith, c.requires.indexes, c.in-Some.ensures.within)))

pub returns-clause-lasts : goal.returns-clause-lasts
returns-clause-lasts c =
    let stores = c.args.directory.now.directory.stores in
    let first = first-position (nat_eq c.args.store) (identifiers stores) c.in-Some.at (sym c.in-Some.ensures.place) in
    c.remove-2.ensures.by_index.2
    ∙ sym (without_at c.args.store stores c.args.lasts.now.items c.in-Some.at first (omega (arith, c.requires.lasts, c.in-Some.ensures.within)))
