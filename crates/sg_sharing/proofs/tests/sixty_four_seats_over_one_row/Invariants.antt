use Rattle.sg_sharing.proofs.tests.sixty_four_seats_over_one_row.Given as goal

-- the table that was just opened
abbrev pub ghosts-all_over_one : goal.ghosts-all_over_one
ghosts-all_over_one g a = record { table = a.opened.table }
