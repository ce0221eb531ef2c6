use Rattle.sg_sharing.proofs.tests.dropped_in_mid_transaction.Given as goal

-- the table that was just opened
abbrev pub ghosts-dropped : goal.ghosts-dropped
ghosts-dropped g a = record { table = a.opened.table }
