use Rattle.library_example.proofs.main.Given as goal

-- the table that was just opened
abbrev pub ghosts-office : goal.ghosts-office
ghosts-office g a = record { table = a.opened.table }
