use Rattle.vault.proofs.Renewed.{while_swapping}
use Rattle.vault.proofs.laws.renewed_blocks_keep_the_table.Goals as goal

pub returns : goal.returns
returns c = λ vault flash copied table identifier s new next image sound stands free kept pages found applied lawful share spells either.
    while_swapping vault flash table new.block sound stands free copied kept pages identifier s new next found applied lawful share spells image either
