use Rattle.std.proofs.Common.{◌∙◌, sym, ap}
use Rattle.uf_tree.specs.declared.nodes.Item.{Item}
use Rattle.uf_shard.proofs.Ways.{leaf-then, leaf-else, sub-there}
use Rattle.uf_shard.proofs.reading.is_on_way.Goals as goal

pub returns-then-shares_way : goal.returns-then-shares_way
returns-then-shares_way g c = leaf-then g.N.NameHash.name64 c.args.hash c.args.level c.placed.inside.slot c.slot.result c.name64-other.result c.shares_way.result c.in-Leaf.name c.in-Leaf.field-1 c.args.placed.now
    (sym c.placed.view_is ∙ ap (λ (i : Item). (c.placed.inside.slot, i)) c.in-Leaf.is) (c.name64-other.ensures ∙ ap g.N.NameHash.name64 (c.as_bytes.ensures.value ∙ c.as_str.ensures.value)) c.shares_way.ensures c.if-shares_way.true c.slot.ensures

pub returns-else-shares_way : goal.returns-else-shares_way
returns-else-shares_way g c = leaf-else g.N.NameHash.name64 c.args.hash c.args.level c.placed.inside.slot c.name64-other.result c.shares_way.result c.in-Leaf.name c.in-Leaf.field-1 c.args.placed.now
    (sym c.placed.view_is ∙ ap (λ (i : Item). (c.placed.inside.slot, i)) c.in-Leaf.is) (c.name64-other.ensures ∙ ap g.N.NameHash.name64 (c.as_bytes.ensures.value ∙ c.as_str.ensures.value)) c.shares_way.ensures c.if-shares_way.false

pub returns-in-Sub : goal.returns-in-Sub
returns-in-Sub g c = sub-there g.N.NameHash.name64 c.args.hash c.args.level c.placed.inside.slot c.in-Sub.field-0 c.args.placed.now
    (sym c.placed.view_is ∙ ap (λ (i : Item). (c.placed.inside.slot, i)) c.in-Sub.is) c.requires
