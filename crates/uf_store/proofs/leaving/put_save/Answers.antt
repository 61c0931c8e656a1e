use Rattle.std.proofs.Common.{[], cond, sym, ap, subst, append-nil}
use Rattle.std.specs.FinMap.{from_entries, get}
use Rattle.uf_cid.specs.Blocks.{Lookup}
use Rattle.uf_cid.specs.Cid.{cid_cmp}
use Rattle.uf_store.specs.declared.store.Write.{Write}
use Rattle.uf_store.specs.Sweeping.{PutsSave, save_of}
use Rattle.uf_store.proofs.Relisting.{put-known, put-nothing, put-one}
use Rattle.uf_store.proofs.leaving.put_save.Goals as goal

pub returns-in_ok-push : goal.returns-in_ok-push
returns-in_ok-push g c ws are =
    let held : Lookup = λ cid. get (from_entries {R = cid_cmp} c.args.blocks.now.blocks.entries) cid in
    subst (λ (w : Write). PutsSave held w ws c.args.saves.now.items c.push.new.self.items c.insert.new.self.keys) (sym c.in-Saved.is)
    (put-known held c.in-Saved.cid c.in-Saved.field-1 ws _ _ _ c.args.saves.now.items _ _ are c.in_ok-insert.ensures.added c.in_ok-insert.ensures.updates.0 c.in_ok-push.ensures.items
    (put-one held c.in-Saved.cid c.in_ok-insert.field-0 _ _ c.if-branch.true c.in-Some.ensures c.in_ok-copy.ensures))

pub returns-in_default-get : goal.returns-in_default-get
returns-in_default-get g c ws are =
    let held : Lookup = λ cid. get (from_entries {R = cid_cmp} c.args.blocks.now.blocks.entries) cid in
    subst (λ (w : Write). PutsSave held w ws c.args.saves.now.items c.args.saves.now.items c.insert.new.self.keys) (sym c.in-Saved.is)
    (put-known held c.in-Saved.cid c.in-Saved.field-1 ws _ _ _ c.args.saves.now.items _ [] are c.in_ok-insert.ensures.added c.in_ok-insert.ensures.updates.0 (sym (append-nil c.args.saves.now.items))
    (put-nothing held c.in-Saved.cid c.in_ok-insert.field-0 (sym c.in_default-get.ensures)))

pub returns-else-branch : goal.returns-else-branch
returns-else-branch g c ws are =
    let held : Lookup = λ cid. get (from_entries {R = cid_cmp} c.args.blocks.now.blocks.entries) cid in
    subst (λ (w : Write). PutsSave held w ws c.args.saves.now.items c.args.saves.now.items c.insert.new.self.keys) (sym c.in-Saved.is)
    (put-known held c.in-Saved.cid c.in-Saved.field-1 ws _ _ _ c.args.saves.now.items _ [] are c.in_ok-insert.ensures.added c.in_ok-insert.ensures.updates.0 (sym (append-nil c.args.saves.now.items))
    (sym (ap (λ b. cond b (save_of c.in-Saved.cid (held c.in-Saved.cid)) []) c.if-branch.false)))
