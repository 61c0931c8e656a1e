use Rattle.std.proofs.Common.{List, [], ◌∷◌, ◌++◌, ◌∙◌, ap}
use Rattle.uf_cid.specs.declared.cid.Cid.{Cid}
use Rattle.uf_shard.proofs.Reaching.{reached-root}
use Rattle.uf_shard.proofs.lookup.trace_placed.Goals as goal

pub returns-clause-value : goal.returns-clause-value
returns-clause-value g c = λ before m l first is agrees stood. c.trace_in.ensures.value c.args.root.now [] before m l (c.in_ok-push.ensures.ok ∙ ap (λ (k : List Cid). k ++ c.args.root.now ∷ []) c.new-cids.ensures)
    first.has first.reads (reached-root g.S.X.BlockHash.block32 g.N.NameHash.name64 (record { size = g.met.S.X.BlockHash.size; are_bytes = g.met.S.X.BlockHash.are_bytes }) c.args.name.now c.args.root.now m l is) agrees stood
