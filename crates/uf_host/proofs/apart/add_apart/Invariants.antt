use Rattle.uf_host.proofs.apart.add_apart.Given as goal

abbrev pub ghosts-counted_add : goal.ghosts-counted_add
ghosts-counted_add g a = record { name = a.blank.name; parts = a.blank.parts }
