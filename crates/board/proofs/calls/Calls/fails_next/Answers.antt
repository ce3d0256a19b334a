use Rattle.board.proofs.calls.Calls.fails_next.Goals as goal

pub returns-in-Read-clause-fails : goal.returns-in-Read-clause-fails
returns-in-Read-clause-fails c = rw c.in-Read.is c.fails_next.ensures.fails

pub returns-in-Program-clause-fails : goal.returns-in-Program-clause-fails
returns-in-Program-clause-fails c = rw c.in-Program.is c.fails_next-in-Program.ensures.fails

pub returns-in-Erase-clause-fails : goal.returns-in-Erase-clause-fails
returns-in-Erase-clause-fails c = rw c.in-Erase.is c.fails_next-in-Erase.ensures.fails

pub returns-in-Barrier-clause-fails : goal.returns-in-Barrier-clause-fails
returns-in-Barrier-clause-fails c = rw c.in-Barrier.is c.fails_next-in-Barrier.ensures.fails

pub returns-in-Send-clause-fails : goal.returns-in-Send-clause-fails
returns-in-Send-clause-fails c = rw c.in-Send.is c.fails_next-in-Send.ensures.fails
