use Rattle.uf_tests_disk.proofs.store_tests.outcome.Given as goal

abbrev pub ghosts-outcome_by : goal.ghosts-outcome_by
ghosts-outcome_by g a = record { name = a.blank.name; parts = a.blank.parts }
