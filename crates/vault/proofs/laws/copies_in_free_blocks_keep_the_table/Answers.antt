use Rattle.vault.proofs.Renewed.{journal_copied, kept_copied, while_copying}
use Rattle.vault.proofs.laws.copies_in_free_blocks_keep_the_table.Goals as goal

pub returns-clause-images : goal.returns-clause-images
returns-clause-images c = λ vault flash table block image sound stands free is. while_copying vault flash table block sound stands free image is

pub returns-clause-kept : goal.returns-clause-kept
returns-clause-kept c = λ vault flash copied table block sound stands free kept pages. kept_copied vault flash table block sound stands free copied kept pages

pub returns-clause-journal : goal.returns-clause-journal
returns-clause-journal c = λ vault flash copied table block sound stands free kept pages. journal_copied vault flash table block sound stands free copied kept pages
