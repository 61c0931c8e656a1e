-- What refusals leave of an input, from a later place on.
use Rattle.std.proofs.Common.{◌≡◌, ℕ, ◌+◌, List, drop, ap, ◌∙◌, arith}
use Rattle.std.specs.Prelude.{Some}
use Rattle.std.proofs.lemmas.List.{drop-drop}
use Rattle.uf_edge.specs.Streams.{Told}
use Rattle.uf_pull.specs.declared.fault.PullFault.{PullFault}
use Rattle.uf_pull.specs.declared.fault.PullFault.TheVariants as fault
use Rattle.uf_pull.specs.Reading.{LeavesFrom, LeavesRest}

module _ (place mid count used : ℕ) (bytes rest : List ℕ) (left : Told) (moved : mid ≡ place + count) (behind : rest ≡ drop count bytes) where
  from_more : LeavesFrom mid used rest left → LeavesFrom place used bytes left
  from_more later = record {
    count = count + later.count;
    moved = omega (arith, moved, later.moved);
    left = later.left ∙ ap (λ (xs : List ℕ). Some (drop later.count xs)) behind ∙ ap (λ (xs : List ℕ). Some xs) (drop-drop later.count count bytes);
  }

  pub rest_more : (f : PullFault) → LeavesRest f mid used rest left → LeavesRest f place used bytes left
  rest_more (fault.Lacks c) later = from_more later
  rest_more (fault.Ended c) later = later
  rest_more (fault.Bad at) later = tt
  rest_more fault.Noise later = from_more later
  rest_more (fault.NotDagPb c why) later = from_more later
  rest_more fault.TooMany later = from_more later
  rest_more fault.Read later = from_more later
  rest_more fault.Sink later = from_more later
  rest_more (fault.Store f) later = from_more later
