use Rattle.store_directory.specs.Spelled.{text_of}
use Rattle.store_directory.proofs.StoreTexts.{IsBehind-broken, IsBehind-more}
use Rattle.store_directory.proofs.store_text.behind_stores.Goals as goal

pub returns-in_err-rest : goal.returns-in_err-rest
returns-in_err-rest c =
    rw c.from_residual.ensures
    (IsBehind-broken c.args.count c.loop-number._number c.args.text.now c.loop-number.rest.now c.loop-number-test.true c.loop-number.invariant c.in_err-rest.ensures.store)

pub loop-number-preserved : goal.loop-number-preserved
loop-number-preserved c =
    IsBehind-more c.args.count c.loop-number._number c.args.text.now c.loop-number.rest.now c.in_ok-rest.field-0-1.now (text_of c.in_ok-rest.field-0-0)
    c.loop-number-test.true c.loop-number.invariant c.in_ok-rest.ensures.store
