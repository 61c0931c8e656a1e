use Rattle.std.proofs.Common.{◌≡◌, ℕ, List, [], ◌∷◌, refl, subst, ◌∙◌}
use Rattle.uf_cid.specs.Cid.{cid_of}
use Rattle.uf_cid.specs.declared.cid.Codec.TheVariants.{DagPb}
use Rattle.uf_store.specs.Among.{SavesAmong}
use Rattle.uf_store.proofs.Among.{SavesAmong-kept, SavesAmong-same}
use Rattle.uf_tree.specs.Nodes.{shard_block}
use Rattle.uf_shard.specs.Answers.{shard_node_held}
use Rattle.uf_shard.proofs.nodes.save_node.Goals as goal

pub returns-in_err-cid-clause-no_other : goal.returns-in_err-cid-clause-no_other
returns-in_err-cid-clause-no_other g c =
    let hash : List ℕ → List ℕ = g.S.X.BlockHash.block32 in
    SavesAmong-same hash (shard_node_held hash c.args.meta.now c.args.items.now ∷ []) (g.S.Store.seen c.args.store.now).told (g.S.Store.seen c.save_block.new.store).told c.in_err-cid.ensures.err

pub returns-clause-no_other : goal.returns-clause-no_other
returns-clause-no_other g c =
    let hash : List ℕ → List ℕ = g.S.X.BlockHash.block32 in
    let before = g.S.Store.seen c.args.store.now in
    let now = g.S.Store.seen c.save_block.new.store in
    let bytes : c.as_slice-bytes.result.now ≡ shard_block c.args.meta.now c.args.items.now = c.as_slice-bytes.ensures ∙ c.in_ok-block.ensures.block in
    subst (λ (b : List ℕ). SavesAmong hash ((cid_of hash DagPb b, b) ∷ []) before.told now.told) bytes
    (SavesAmong-kept hash (cid_of hash DagPb c.as_slice-bytes.result.now, c.as_slice-bytes.result.now) before now refl c.in_ok-cid.ensures.kept)
