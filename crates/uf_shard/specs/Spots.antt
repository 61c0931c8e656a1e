-- What a shard says of a name.
use Rattle.std.specs.Prelude.{◌<◌, ℕ, List, cond, ⊤}
use Rattle.std.specs.declared.option.Option.{Option}
use Rattle.std.specs.declared.option.Option.TheVariants.{None, Some}
use Rattle.std.specs.Ordering.{eq_by_cmp}
use Rattle.uf_tree.specs.declared.nodes.Item.{Item}
use Rattle.uf_tree.specs.declared.nodes.Item.TheVariants.{Leaf, Sub}
use Rattle.uf_tree.specs.Names.{names_cmp}
use Rattle.uf_shard.specs.declared.spot.ShardAnswer.{ShardAnswer}
use Rattle.uf_shard.specs.declared.spot.ShardAnswer.TheVariants.{Here, Below}

-- what a slot says of a name: its entry where the slot has it, no entry where it has another name or nothing, or the
-- shard below
abbrev pub spot_of : List ℕ → Option Item → ShardAnswer
spot_of name None = Here None
spot_of name (Some (Leaf other e)) = Here (cond (eq_by_cmp names_cmp name other) (Some e) None)
spot_of name (Some (Sub e)) = Below e.cid

-- there is no shard below level 7
abbrev pub HasRoom : ℕ → ShardAnswer → Type 0
HasRoom level (Here e) = ⊤
HasRoom level (Below cid) = level < 7
