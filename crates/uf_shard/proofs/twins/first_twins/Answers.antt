use Rattle.std.proofs.Common.{◌≡◌, ◌-◌, List, ◌∷◌, drop, Option, Some, cond, ap, arith, sym, ◌∙◌, subst}
use Rattle.std.specs.Ordering.{is_eq, nat_cmp}
use Rattle.uf_tree.specs.ShardPlan.{same_hash, twins}
use Rattle.uf_shard.specs.Buckets.{AreHashed, pairs_of}
use Rattle.uf_shard.specs.declared.hashed.Hashed.{Hashed}
use Rattle.uf_shard.proofs.Collisions.{drop-back, first-of-more, first_of, no-twins-behind, none-behind, twins-more}
use Rattle.uf_shard.proofs.twins.first_twins.Goals as goal

pub loop-at-init : goal.loop-at-init
loop-at-init c = record {
  first = λ q. none-behind c.new-first_behind.result c.args.rows.now q c.new-first_behind.ensures.empty;
  found = λ N hashed. no-twins-behind N c.args.rows.now;
}

pub loop-at-preserved : goal.loop-at-preserved
loop-at-preserved c =
    let back : drop (c.loop-at.at - 1) c.args.rows.now ≡ c.index-rows-at.result ∷ drop c.loop-at.at c.args.rows.now =
    drop-back c.args.rows.now c.loop-at.at c.index-rows-at.result (omega arith) (omega arith) c.index-rows-at.is in
    record {
      first = λ q. c.in_ok-twin.ensures.updates.0 q
          ∙ ap (λ (o : Option Hashed). cond (is_eq (nat_cmp c.index-rows-at.result.hash q)) (Some c.index-rows-at.result) o) (c.loop-at.invariant.first q)
          ∙ first-of-more q c.index-rows-at.result (drop c.loop-at.at c.args.rows.now) ∙ ap (first_of q) (sym back);
      found = λ N hashed.
          let behind = subst (AreHashed N) back hashed in
          twins-more N c.index-rows-at.result (drop c.loop-at.at c.args.rows.now) c.in_ok-twin.twin c.loop-at.found c.twins_from-found.result
          (c.in_ok-twin.ensures.old ∙ c.loop-at.invariant.first c.index-rows-at.result.hash) c.twins_from-found.ensures behind (c.loop-at.invariant.found N behind.1)
          ∙ ap (λ (l : List Hashed). twins (same_hash N) (pairs_of l)) (sym back);
    }
