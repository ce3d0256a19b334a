use Rattle.vault.proofs.renew_tests.renewed.Goals as goal

-- no page of the device is loose, so an opened vault stands for its table
pub renew_for-requires-clause-flash : goal.renew_for-requires-clause-flash
renew_for-requires-clause-flash c told = c.in-Ok-open.ensures.stands told c.requires
