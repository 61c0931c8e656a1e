use Rattle.uf_store.specs.InMemory.{memory_seen}
use Rattle.uf_tree.specs.TreePlan.{entry}
use Rattle.uf_gen.specs.Fresh.{left_tree}
use Rattle.uf_edits.specs.Generated.{small_profile}
use Rattle.uf_edits.proofs.Grown.{of-store, told-fresh, told-lines}
use Rattle.uf_edits.proofs.generating.generated_beside.Goals as goal

pub fresh_refusal-requires : goal.fresh_refusal-requires
fresh_refusal-requires g c =
    let X = g.X.BlockHash.block32 in
    let N = g.N.NameHash.name64 in
    of-store X N c.args.n c.args.seed c.args.root.now (entry X N small_profile (left_tree c.args.seed c.args.n)) c.in-Err.fault
    c.requires.few c.requires.grown c.in-Err.ensures.answer

pub returns-in-Err : goal.returns-in-Err
returns-in-Err g c =
    told-fresh g.X.BlockHash.block32 g.N.NameHash.name64 c.args.n c.args.seed c.in-Err.fault c.fresh_refusal.result
    (memory_seen c.new-store.result) (memory_seen c.fresh_root.new.store) c.new-store.ensures.seen c.in-Err.ensures.saves.saves c.in-Err.ensures.saves.cause c.fresh_refusal.ensures

pub returns : goal.returns
returns g c =
    told-lines g.X.BlockHash.block32 g.N.NameHash.name64 c.args.n c.args.seed c.args.root.now c.in-Ok.fresh c.in_ok-generated_lines-in-Ok.field-0
    c.requires.grown c.in-Ok.ensures.answer c.in_ok-generated_lines-in-Ok.ensures
