use Rattle.uf_tree.specs.Standing.{Stands}
use Rattle.uf_tree.specs.TreePlan.{entry}
use Rattle.uf_headline.proofs.Afresh.{afresh-prints, stat-prints}
use Rattle.uf_headline.proofs.Doing.{makes-stands}
use Rattle.uf_headline.proofs.paths.each_path_has_the_cid_of_its_tree.Goals as goal

pub returns-clause-plan : goal.returns-clause-plan
returns-clause-plan c = λ X N steps a b first p es stat path t m there s. stat-prints X N stat b path p es t (makes-stands X N steps a b first (Stands p es) m) there s

pub returns-clause-afresh : goal.returns-clause-afresh
returns-clause-afresh c = λ X N steps a b first p es stat path t fresh standing host_path m there s f.
    ((entry X N p t).cid, stat-prints X N stat b path p es t (makes-stands X N steps a b first (Stands p es) m) there s, afresh-prints X N fresh standing host_path p t f)
