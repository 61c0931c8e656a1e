use Rattle.uf_mfs.proofs.Shifting.{put-after, put-crossed}
use Rattle.std.proofs.Common.{subst}
use Rattle.uf_store.specs.Among.{SavesAmong}
use Rattle.uf_mfs.specs.Saving.{next_blocks}
use Rattle.uf_mfs.proofs.Shifting.{puts-at}
use Rattle.uf_mfs.proofs.placing.put_root.Goals as goal

pub returns-clause-edits : goal.returns-clause-edits
returns-clause-edits g c = λ t plan es o.
    put-after g.S.X.BlockHash.block32 g.N.NameHash.name64 c.args.tree.now.profile _ _ _ c.args.entry.now t c.args.names.now es c.edited_root.result (c.edited_root.ensures.edits t plan es o)

pub returns-clause-touches : goal.returns-clause-touches
returns-clause-touches g c = λ t plan es o.
    put-crossed g.S.X.BlockHash.block32 g.N.NameHash.name64 c.args.tree.now.profile c.args.entry.now t c.args.names.now es c.args.touches.now c.edited_root.new.touches (c.edited_root.ensures.touches t (λ n. n) plan tt es o)

pub returns-clause-missing : goal.returns-clause-missing
returns-clause-missing g c = c.edited_root.ensures.missing tt

pub returns-clause-no_other : goal.returns-clause-no_other
returns-clause-no_other g c =
    λ t new es plan h.
    let X = g.S.X.BlockHash.block32 in let N = g.N.NameHash.name64 in let p = c.args.tree.now.profile in
    subst (λ w. SavesAmong X (next_blocks X N p w) (g.S.Store.seen c.args.store.now).told (g.S.Store.seen c.edited_root.new.store).told) (puts-at p c.args.entry.now t c.args.names.now es)
    (c.edited_root.ensures.no_other t new es plan h)
