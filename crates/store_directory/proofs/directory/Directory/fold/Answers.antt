use Rattle.std.proofs.Common.{◌≡◌, ◌≢◌, sym, subst, rules}
use Rattle.std.specs.Prelude.{Err, IfErr, None, Ok, Result}
use Rattle.std.specs.Result.{IsErrAnd}
use Rattle.store_directory.specs.Folds.{Makes, Stops, fold_entry}
use Rattle.store_directory.specs.Kept.{Kept}
use Rattle.store_directory.specs.declared.fault.FoldFault.{FoldFault}
use Rattle.store_directory.specs.declared.fault.FoldFault.TheVariants.{NoMemory}
use Rattle.store_directory.proofs.Folded.{fold-whole, makes-more, makes-nothing, stops-at, unlawful-at}
use Rattle.store_directory.proofs.directory.Directory.fold.Goals as goal

pub loop-at-init : goal.loop-at-init
loop-at-init c = makes-nothing c.args.text.now c.args.self.now

passed-on : (answer : Result (Unit {0}) FoldFault) (fault : FoldFault) (P : FoldFault → Type 0) → IsErrAnd answer (λ e. e ≡ fault) → P fault → IfErr answer P
passed-on (Ok u) fault P is holds = tt
passed-on (Err e) fault P is holds = subst P (sym is) holds

pub returns-in_err-at-clause-stops : goal.returns-in_err-at-clause-stops
returns-in_err-at-clause-stops c =
    let text = c.args.text.now in
    let makes = subst (λ (now : Kept). Makes text c.loop-at.at c.args.self.now now) (sym c.in_err-at.ensures.err) c.loop-at.invariant in
    passed-on c.from_residual.result c.in_err-at.field-0.0 (λ fault. Stops fault text c.args.self.now c.fold_one.new.self) c.from_residual.ensures.1
    (stops-at c.in_err-at.field-0.0 text c.loop-at.at c.args.self.now c.fold_one.new.self (search rules) makes c.in_err-at.ensures.stops)

pub returns-in_err-at-clause-unlawful : goal.returns-in_err-at-clause-unlawful
returns-in_err-at-clause-unlawful c =
    let text = c.args.text.now in
    let makes = subst (λ (now : Kept). Makes text c.loop-at.at c.args.self.now now) (sym c.in_err-at.ensures.err) c.loop-at.invariant in
    passed-on c.from_residual.result c.in_err-at.field-0.0 (λ fault. fault ≢ NoMemory → fold_entry c.args.self.now.directory text ≡ None) c.from_residual.ensures.1
    (unlawful-at c.in_err-at.field-0.0 text c.loop-at.at c.args.self.now c.fold_one.new.self (search rules) makes c.in_err-at.ensures.stops)

pub loop-at-preserved : goal.loop-at-preserved
loop-at-preserved c = makes-more c.args.text.now c.loop-at.at c.in_ok-at.at c.args.self.now c.loop-at.self c.fold_one.new.self c.loop-at.invariant c.in_ok-at.ensures.ok

pub returns-clause-ok : goal.returns-clause-ok
returns-clause-ok c = fold-whole c.args.text.now c.loop-at.at c.args.self.now c.loop-at.self c.loop-at.invariant (search rules)
