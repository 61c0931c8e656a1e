use Rattle.std.proofs.Common.{Some, sym, ap, subst, ◌∙◌}
use Rattle.std.specs.FinMap.{from_entries}
use Rattle.uf_cid.specs.Cid.{cid_cmp}
use Rattle.uf_store.specs.Contents.{HeldMap}
use Rattle.uf_store.specs.Sweeping.{with_found}
use Rattle.uf_store.specs.Whole.{IsWhole}
use Rattle.uf_store.proofs.Holding.{get-held}
use Rattle.uf_store.proofs.shelf.Shelf.hand.Goals as goal

pub insert-requires : goal.insert-requires
insert-requires g c is =
    let here = sym (get-held c.args.self.now.blocks.entries c.args.cid.now) ∙ sym c.in-Some.ensures.value in
    subst (IsWhole g.X.BlockHash.block32 c.args.cid.now) (sym c.in_ok-copy.ensures) (c.args.self.now.whole is c.args.cid.now c.in-Some.block.now here)

pub returns-in_ok-insert : goal.returns-in_ok-insert
returns-in_ok-insert g c =
    let m : HeldMap = from_entries {R = cid_cmp} c.args.other.now.blocks.entries in
    let here = sym (get-held c.args.self.now.blocks.entries c.args.cid.now) ∙ sym c.in-Some.ensures.value in
    c.in_ok-insert.ensures.held ∙ ap (λ b. with_found (Some b) c.args.cid.now m) c.in_ok-copy.ensures ∙ sym (ap (λ o. with_found o c.args.cid.now m) here)

pub returns-in_default : goal.returns-in_default
returns-in_default g c =
    let m : HeldMap = from_entries {R = cid_cmp} c.args.other.now.blocks.entries in
    let here = sym (get-held c.args.self.now.blocks.entries c.args.cid.now) ∙ sym c.in_default.ensures.value in
    sym (ap (λ o. with_found o c.args.cid.now m) here)
