use Rattle.uf_shard.proofs.weighing.+are_over.Given as goal

abbrev pub decreases-are_over : goal.decreases-are_over
decreases-are_over g l = l.left
