use Rattle.sg_sharing.proofs.tests.two_callers_take_turns.Given as goal

-- the table that was just opened
abbrev pub ghosts-turns : goal.ghosts-turns
ghosts-turns g a = record { table = a.opened.table }
