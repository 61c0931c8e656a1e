use Rattle.std.proofs.Common.{refl}
use Rattle.std.proofs.lemmas.List.{length-map}
use Rattle.uf_walk.proofs.Steps.{adds_inside}
use Rattle.uf_walk.proofs.walk.Walk.add_root.Goals as goal

pub returns-clause-ok : goal.returns-clause-ok
returns-clause-ok c =
    adds_inside _ _ _ c.args.cid.now c.self.view_is c.requires refl refl refl (simp length-map c.self.invariant) c.in_ok-push_back.ensures.ok
