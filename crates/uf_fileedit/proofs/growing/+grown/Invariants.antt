use Rattle.uf_fileedit.proofs.growing.+grown.Given as goal

abbrev pub decreases-grown : goal.decreases-grown
decreases-grown g l = l.layer.height
