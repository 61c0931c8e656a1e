use Rattle.std.proofs.Common.{◌≡◌, ℕ, List, ap, sym, ◌∙◌, subst}
use Rattle.std.specs.Option.{option_map}
use Rattle.uf_tree.specs.ShardPlan.{same_hash, shard, twins}
use Rattle.uf_store.specs.Among.{SavesAmong}
use Rattle.uf_tree.specs.Nodes.{Named}
use Rattle.uf_shard.specs.Buckets.{AreForShard, AreHashed, pairs_of}
use Rattle.uf_shard.specs.Saving.{names_of}
use Rattle.uf_shard.specs.declared.hashed.Hashed.{Hashed}
use Rattle.uf_shard.proofs.Collisions.{root-rows}
use Rattle.uf_shard.proofs.building.build.Goals as goal

pub save_shard-requires-clause-rows : goal.save_shard-requires-clause-rows
save_shard-requires-clause-rows g c =
    let hashed = subst (AreHashed g.N.NameHash.name64) (sym c.as_slice-2.ensures) c.in_ok-rows.ensures.hashed in
    let none = sym (ap (option_map names_of) c.in-None.is) ∙ c.in_ok-twins.ensures g.N.NameHash.name64 hashed
    ∙ ap (λ (l : List Hashed). twins (same_hash g.N.NameHash.name64) (pairs_of l)) c.as_slice-2.ensures in
    subst (AreForShard g.N.NameHash.name64 7) (sym c.as_slice-3.ensures)
    (root-rows g.N.NameHash.name64 g.met.N.NameHash.fits c.in_ok-rows.rows c.args.pairs.now c.in_ok-rows.ensures.hashed (c.in_ok-rows.ensures.pairs ∙ c.as_slice.ensures) c.requires.directory c.requires.some none)

pub returns-in_err-entry-clause-no_other : goal.returns-in_err-entry-clause-no_other
returns-in_err-entry-clause-no_other g c =
    let hash : List ℕ → List ℕ = g.S.X.BlockHash.block32 in
    let name : List ℕ → ℕ = g.N.NameHash.name64 in
    let pairs : pairs_of c.as_slice-3.result.now ≡ c.args.pairs.now = ap pairs_of c.as_slice-3.ensures ∙ c.in_ok-rows.ensures.pairs ∙ c.as_slice.ensures in
    subst (λ (l : List Named). SavesAmong hash (shard hash name 7 c.args.meta.now l).blocks (g.S.Store.seen c.args.store.now).told (g.S.Store.seen c.save_shard.new.store).told) pairs c.save_shard.ensures.no_other

pub returns-clause-no_other : goal.returns-clause-no_other
returns-clause-no_other g c =
    let hash : List ℕ → List ℕ = g.S.X.BlockHash.block32 in
    let name : List ℕ → ℕ = g.N.NameHash.name64 in
    let pairs : pairs_of c.as_slice-3.result.now ≡ c.args.pairs.now = ap pairs_of c.as_slice-3.ensures ∙ c.in_ok-rows.ensures.pairs ∙ c.as_slice.ensures in
    subst (λ (l : List Named). SavesAmong hash (shard hash name 7 c.args.meta.now l).blocks (g.S.Store.seen c.args.store.now).told (g.S.Store.seen c.save_shard.new.store).told) pairs c.save_shard.ensures.no_other
