use Rattle.sg_sharing.proofs.tests.two_updates_that_cross.Given as goal

-- the table that was just opened
abbrev pub ghosts-crossing : goal.ghosts-crossing
ghosts-crossing g a = record { table = a.opened.table }
