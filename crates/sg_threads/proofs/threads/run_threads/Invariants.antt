use Rattle.sg_threads.proofs.threads.run_threads.Given as goal

-- the script of the run that was passed
abbrev pub ghosts-run_named : goal.ghosts-run_named
ghosts-run_named g a = record { plan = a.run.script }
