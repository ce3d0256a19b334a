use Rattle.vault.proofs.change_tests.placed.Goals as goal

-- the device was just made, so an opened vault stands for its table
pub change-requires-clause-journal : goal.change-requires-clause-journal
change-requires-clause-journal c told = (c.in-Ok.ensures.stands told c.in_ok-board.ensures).1.journal
