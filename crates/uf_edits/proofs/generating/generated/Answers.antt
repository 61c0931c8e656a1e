use Rattle.uf_edits.proofs.Grown.{of-tree, told-own}
use Rattle.uf_edits.proofs.generating.generated.Goals as goal

pub grown_refusal-requires : goal.grown_refusal-requires
grown_refusal-requires g c =
    of-tree g.X.BlockHash.block32 g.N.NameHash.name64 c.args.n c.args.seed c.in-Err.fault (c.in-Err.ensures c.new-store.ensures.seen)

pub returns-in-Err : goal.returns-in-Err
returns-in-Err g c =
    told-own g.X.BlockHash.block32 g.N.NameHash.name64 c.args.n c.args.seed c.in-Err.fault c.grown_refusal.result
    (c.in-Err.ensures c.new-store.ensures.seen) c.grown_refusal.ensures

pub generated_beside-requires-clause-grown : goal.generated_beside-requires-clause-grown
generated_beside-requires-clause-grown g c = c.in-Ok.ensures c.new-store.ensures.seen
