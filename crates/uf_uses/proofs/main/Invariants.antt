use Rattle.uf_uses.proofs.main.Given as goal

abbrev pub ghosts-root_of_notes : goal.ghosts-root_of_notes
ghosts-root_of_notes a = record { name = a.blank.name; parts = a.blank.parts }
