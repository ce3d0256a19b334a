use Rattle.std.proofs.Common.{◌≡◌, Some, Option, sym, ◌∙◌, ap}
use Rattle.std.specs.Prelude.{slice_get}
use Rattle.std.specs.Option.{option_map}
use Rattle.store_directory.specs.Directory.{Listed}
use Rattle.vault.proofs.Found.{store_absent, store_found}
use Rattle.vault.proofs.Places.{of_some}
use Rattle.vault.proofs.change_for.row_of.Goals as goal

pub returns-in_err-at : goal.returns-in_err-at
returns-in_err-at c =
    c.from_residual.ensures
    ∙ ap (λ (found : Option Listed). option_map (λ (s : Listed). s.row) found)
    (sym (store_absent c.args.store c.args.directory.now.directory.stores c.in_err-at.ensures.place))

pub returns : goal.returns
returns c =
    let stores = c.args.directory.now.directory.stores in
    let is = store_found c.args.store c.in_ok-at.at stores c.in_ok-at.ensures.place c.in_ok-at.ensures.within in
    ap Some (of_some (λ (s : Listed). c.row.result.now ≡ s.row) (slice_get stores c.in_ok-at.at) is.s c.row.ensures is.there)
    ∙ ap (λ (found : Option Listed). option_map (λ (s : Listed). s.row) found) (sym is.found)
