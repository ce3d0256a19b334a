use Rattle.store_directory.proofs.StoreTexts.{IsBehind}
use Rattle.store_directory.proofs.store_text.behind_stores.Given as goal

abbrev pub invariant-loop-number : goal.invariant-loop-number
invariant-loop-number l = IsBehind l.count l._number l.text l.rest
