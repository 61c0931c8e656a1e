use Rattle.uf_build.proofs.apart.file_apart.Given as goal

abbrev pub ghosts-counted_file : goal.ghosts-counted_file
ghosts-counted_file g a = record { name = a.blank.name; parts = a.blank.parts }
