use Rattle.std.proofs.Common.{List, ℕ, ap, sym, ◌∙◌}
use Rattle.uf_tree.specs.Names.{names_cmp}
use Rattle.uf_shard.proofs.Pairing.{shown-ordered}
use Rattle.uf_shard.proofs.putting.collision.Goals as goal

pub returns-in-Greater : goal.returns-in-Greater
returns-in-Greater c = shown-ordered c.args.name.now c.args.other.now c.shown-in-Greater.result
    (sym (c.cmp.ensures ∙ ap (λ (n : List ℕ). names_cmp n c.as_bytes-2.result.now) (c.as_bytes.ensures.value ∙ c.as_str.ensures.value) ∙ ap (names_cmp c.args.name.now) (c.as_bytes-2.ensures.value ∙ c.as_str-2.ensures.value)) ∙ c.in-Greater.is)
    c.shown-in-Greater.ensures
