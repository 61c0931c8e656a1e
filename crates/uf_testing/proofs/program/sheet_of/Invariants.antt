use Rattle.uf_testing.proofs.program.sheet_of.Given as goal

abbrev pub ghosts-sheet_by : goal.ghosts-sheet_by
ghosts-sheet_by g a = record { name = a.blank.name; parts = a.blank.parts }
