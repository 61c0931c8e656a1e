use Rattle.std.proofs.Common.{◌≡◌, ◌≤◌, length, inl, inr, arith, rules}
use Rattle.std.proofs.lemmas.Bool.Decides.{nat_tests}
use Rattle.std.proofs.lemmas.Grind.{common_steps}
use Rattle.std.proofs.lemmas.Result.{on_ok_weaker}
use Rattle.uf_store.proofs.Among.{SavesAmong-refl}
use Rattle.uf_tree.specs.FilePlan.{file_plan}
use Rattle.uf_tree.proofs.Told.{kept}
use Rattle.uf_build.specs.Rows.{groups_in}
use Rattle.uf_build.proofs.Cutting.{no-length}
use Rattle.uf_build.proofs.Ending.{Ends-saved, Ends-whole, last-most, last-saves, no-last, some-last}
use Rattle.uf_build.proofs.Holding.{on_err_given}
use Rattle.uf_build.proofs.layout.Layout.end_last.Goals as goal

pub returns-then-is_none-clause-ends : goal.returns-then-is_none-clause-ends
returns-then-is_none-clause-ends g c =
    let p = kept c.args.self.now.profile c.requires.can.profile in
    on_ok_weaker c.end_piece.result (λ h. Ends-saved g.S.X.BlockHash.block32 c.args.self.now.profile p.some p.two _ _ _ _ _ _ _ (inr (no-last c.args.self.now.opened (search rules))) c.requires.can.room h.adds) c.end_piece.ensures.ends

pub returns-then-is_empty-clause-ends : goal.returns-then-is_empty-clause-ends
returns-then-is_empty-clause-ends g c =
    let p = kept c.args.self.now.profile c.requires.can.profile in
    let none : length c.args.self.now.begun.items ≡ 0 = grind (arith, nat_tests, common_steps) in
    Ends-whole g.S.X.BlockHash.block32 c.args.self.now.profile p.some p.two _ _ _ _ (no-length _ none) (some-last c.args.self.now.opened (search rules)) c.requires.can.are_open

pub returns-clause-ends : goal.returns-clause-ends
returns-clause-ends g c =
    let p = kept c.args.self.now.profile c.requires.can.profile in
    let some : 1 ≤ length c.args.self.now.begun.items = grind (arith, nat_tests, common_steps) in
    on_ok_weaker c.end_piece-2.result (λ h. Ends-saved g.S.X.BlockHash.block32 c.args.self.now.profile p.some p.two _ _ _ _ _ _ _ (inl some) c.requires.can.room h.adds) c.end_piece-2.ensures.ends

pub returns-then-is_none-clause-most : goal.returns-then-is_none-clause-most
returns-then-is_none-clause-most g c =
    let p = kept c.args.self.now.profile c.requires.can.profile in
    on_err_given c.end_piece.result
    (λ m. last-most g.S.X.BlockHash.block32 c.args.self.now.profile p.some p.two m c.args.self.now.begun.items (groups_in c.args.self.now.opened) c.args.touches.now c.end_piece.new.touches
    (inr (no-last c.args.self.now.opened (search rules))) c.requires.can.room c.end_piece.ensures.within.most)

pub returns-clause-most : goal.returns-clause-most
returns-clause-most g c =
    let p = kept c.args.self.now.profile c.requires.can.profile in
    let some : 1 ≤ length c.args.self.now.begun.items = grind (arith, nat_tests, common_steps) in
    on_err_given c.end_piece-2.result
    (λ m. last-most g.S.X.BlockHash.block32 c.args.self.now.profile p.some p.two m c.args.self.now.begun.items (groups_in c.args.self.now.opened) c.args.touches.now c.end_piece-2.new.touches
    (inl some) c.requires.can.room c.end_piece-2.ensures.within.most)

pub returns-then-is_none-clause-no_other : goal.returns-then-is_none-clause-no_other
returns-then-is_none-clause-no_other g c = λ m.
    let p = kept c.args.self.now.profile c.requires.can.profile in
    last-saves g.S.X.BlockHash.block32 c.args.self.now.profile p.some p.two m c.args.self.now.begun.items (groups_in c.args.self.now.opened)
    (g.S.Store.seen c.args.store.now).told (g.S.Store.seen c.end_piece.new.store).told (inr (no-last c.args.self.now.opened (search rules))) c.requires.can.room c.end_piece.ensures.within.no_other

pub returns-then-is_empty-clause-no_other : goal.returns-then-is_empty-clause-no_other
returns-then-is_empty-clause-no_other g c = λ m bytes h.
    SavesAmong-refl g.S.X.BlockHash.block32 (file_plan g.S.X.BlockHash.block32 c.args.self.now.profile m bytes).blocks (g.S.Store.seen c.args.store.now).told

pub returns-clause-no_other : goal.returns-clause-no_other
returns-clause-no_other g c = λ m.
    let p = kept c.args.self.now.profile c.requires.can.profile in
    let some : 1 ≤ length c.args.self.now.begun.items = grind (arith, nat_tests, common_steps) in
    last-saves g.S.X.BlockHash.block32 c.args.self.now.profile p.some p.two m c.args.self.now.begun.items (groups_in c.args.self.now.opened)
    (g.S.Store.seen c.args.store.now).told (g.S.Store.seen c.end_piece-2.new.store).told (inl some) c.requires.can.room c.end_piece-2.ensures.within.no_other
