use Rattle.root_vote.specs.declared.votes.Choice.TheVariants.{Agreed, Split}
use Rattle.meta_journal.proofs.Folds.{by_choice, none_chosen}
use Rattle.meta_journal.proofs.laws.choices_hold_directories.Goals as goal

pub returns : goal.returns
returns c = record {
  agreed = λ blocks image root d is. by_choice blocks image d (Agreed root) is;
  split = λ blocks image first last d is. by_choice blocks image d (Split first last) is;
  nobody = none_chosen;
}
