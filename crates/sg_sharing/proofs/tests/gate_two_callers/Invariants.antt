use Rattle.sg_sharing.proofs.tests.gate_two_callers.Given as goal

-- the table that was just opened
abbrev pub ghosts-meeting : goal.ghosts-meeting
ghosts-meeting g a = record { table = a.opened.table }
