use Rattle.std.proofs.Common.{Option, sym, ◌∙◌, ap}
use Rattle.std.specs.Option.{option_map}
use Rattle.store_directory.specs.Changes.{Gone}
use Rattle.store_directory.specs.Directory.{Listed}
use Rattle.store_directory.specs.Kept.{change_of}
use Rattle.vault.proofs.Found.{store_absent, store_found}
use Rattle.vault.proofs.change_for.remove.Goals as goal

pub returns-in_err-find : goal.returns-in_err-find
returns-in_err-find c =
    ap (option_map change_of) c.from_residual.ensures
    ∙ ap (λ (found : Option Listed). option_map (λ (_ : Listed). Gone c.args.store) found)
    (sym (store_absent c.args.store c.args.directory.now.directory.stores c.in_err-find.ensures.place))

pub returns : goal.returns
returns c =
    let stores = c.args.directory.now.directory.stores in
    let is = store_found c.args.store c.in_ok-find.field-0 stores c.in_ok-find.ensures.place c.in_ok-find.ensures.within in
    ap (λ (found : Option Listed). option_map (λ (_ : Listed). Gone c.args.store) found) (sym is.found)
