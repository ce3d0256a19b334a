use Rattle.store_load.proofs.BegunIndexes.{block_indexed, first_indexed, link_indexed}
use Rattle.store_load.proofs.indexes.indexes_begin_blocks.Goals as goal

pub returns-clause-first : goal.returns-clause-first
returns-clause-first c = first_indexed

pub returns-clause-further : goal.returns-clause-further
returns-clause-further c = link_indexed

pub returns-clause-counted : goal.returns-clause-counted
returns-clause-counted c = λ rule blocks image now later row link links records index new gone next meaning keeps is same filled own few le goes spelled follows fits.
    block_indexed rule blocks image now row link links records index new keeps is same filled own few later gone next meaning le goes spelled follows fits
