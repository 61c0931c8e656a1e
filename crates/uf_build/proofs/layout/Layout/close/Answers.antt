use Rattle.std.proofs.Common.{◌≡◌, ◌+◌, ◌≤◌, ℕ, List, [], ◌∷◌, length, ap, sym, ◌∙◌, arith, subst}
use Rattle.std.specs.Option.{option_to_list}
use Rattle.std.proofs.lemmas.Result.{err_from_is_err_and}
use Rattle.uf_cid.specs.Blocks.{Held}
use Rattle.uf_store.specs.Keeping.{Holds}
use Rattle.uf_store.specs.Among.{SavesAmong}
use Rattle.uf_store.proofs.Among.{SavesAmong-trans}
use Rattle.uf_tree.specs.FilePlan.{file_plan}
use Rattle.uf_tree.specs.declared.nodes.Part.{Part}
use Rattle.uf_tree.proofs.Told.{kept}
use Rattle.uf_build.specs.Rows.{close_all, close_all_held, groups_in}
use Rattle.uf_build.proofs.Among.{close-saves}
use Rattle.uf_build.proofs.Calls.{builds-builds}
use Rattle.uf_build.proofs.Ending.{entry-is, blocks-held, closed-all, closed-most}
use Rattle.uf_build.proofs.Up.{short-wider}
use Rattle.uf_build.proofs.layout.Layout.close.Goals as goal

pub returns-in_err-part-in-Some-clause-most : goal.returns-in_err-part-in-Some-clause-most
returns-in_err-part-in-Some-clause-most g c =
    let hash : List ℕ → List ℕ = g.S.X.BlockHash.block32 in
    let p = kept c.args.self.profile c.requires.can.profile in
    let rows = c.end_last.new.self.opened.rows.items in
    closed-most hash c.args.self.profile p.some p.two c.args.meta.now c.args.self.begun.items (groups_in c.args.self.opened) (groups_in c.end_last.new.self.opened)
    (g.S.Store.seen c.args.store.now).told (g.S.Store.seen c.end_last.new.store).told c.args.touches.now c.end_last.new.touches c.close_all.new.touches c.in_ok-end_last.ensures.ends
    (subst (λ (last : List Part). c.close_all.new.touches ≤ c.end_last.new.touches + length (close_all_held hash c.args.meta.now (last ∷ rows))) (ap option_to_list (sym c.in-Some.is)) c.close_all.ensures.touches)

pub returns-in_err-part-in-Some-clause-builds : goal.returns-in_err-part-in-Some-clause-builds
returns-in_err-part-in-Some-clause-builds g c =
    let out = err_from_is_err_and c.from_residual-in_err-part-in-Some.result c.from_residual-in_err-part-in-Some.ensures.1 in
    rw (out.1, out.2) (builds-builds c.in_ok-end_last.ensures.builds c.in_err-part-in-Some.ensures.builds)

pub returns-clause-closed : goal.returns-clause-closed
returns-clause-closed g c =
    let hash : List ℕ → List ℕ = g.S.X.BlockHash.block32 in
    let m = c.args.meta.now in
    let p = kept c.args.self.profile c.requires.can.profile in
    let rows = c.end_last.new.self.opened.rows.items in
    let last : c.in-Some.last ∷ [] ≡ option_to_list c.end_last.new.self.opened.last = ap option_to_list (sym c.in-Some.is) in
    let is : c.in_ok-part-in-Some.part ∷ [] ≡ close_all hash m (groups_in c.end_last.new.self.opened) =
    ap (λ (part : Part). part ∷ []) c.in_ok-part-in-Some.ensures.closed.stands ∙ ap (λ (last : List Part). close_all hash m (last ∷ rows)) last in
    let nodes : close_all_held hash m ((c.in-Some.last ∷ []) ∷ rows) ≡ close_all_held hash m (groups_in c.end_last.new.self.opened) = ap (λ (last : List Part). close_all_held hash m (last ∷ rows)) last in
    record {
      entry_is = entry-is hash c.args.self.profile p.some p.two m c.args.self.begun.items (groups_in c.args.self.opened) (groups_in c.end_last.new.self.opened)
          (g.S.Store.seen c.args.store.now).told (g.S.Store.seen c.end_last.new.store).told c.args.touches.now c.end_last.new.touches c.in_ok-part-in-Some.part c.in_ok-end_last.ensures.ends is;
      held = blocks-held hash c.args.self.profile p.some p.two m c.args.self.begun.items (groups_in c.args.self.opened) (groups_in c.end_last.new.self.opened)
          (g.S.Store.seen c.args.store.now).told (g.S.Store.seen c.end_last.new.store).told (g.S.Store.seen c.close_all.new.store).told c.args.touches.now c.end_last.new.touches c.in_ok-part-in-Some.part c.in_ok-end_last.ensures.ends
          c.close_all.ensures.builds.good (subst (λ (l : List Held). Holds (g.S.Store.seen c.close_all.new.store).told l) nodes c.in_ok-part-in-Some.ensures.closed.held) is;
      saved = closed-all hash c.args.self.profile p.some p.two m c.args.self.begun.items (groups_in c.args.self.opened) (groups_in c.end_last.new.self.opened)
          (g.S.Store.seen c.args.store.now).told (g.S.Store.seen c.end_last.new.store).told c.args.touches.now c.end_last.new.touches c.close_all.new.touches c.in_ok-end_last.ensures.ends
          (c.in_ok-part-in-Some.ensures.closed.count ∙ ap (λ (l : List Held). c.end_last.new.touches + length l) nodes);
    }

pub returns-clause-most : goal.returns-clause-most
returns-clause-most g c =
    let hash : List ℕ → List ℕ = g.S.X.BlockHash.block32 in
    let p = kept c.args.self.profile c.requires.can.profile in
    let rows = c.end_last.new.self.opened.rows.items in
    closed-most hash c.args.self.profile p.some p.two c.args.meta.now c.args.self.begun.items (groups_in c.args.self.opened) (groups_in c.end_last.new.self.opened)
    (g.S.Store.seen c.args.store.now).told (g.S.Store.seen c.end_last.new.store).told c.args.touches.now c.end_last.new.touches c.close_all.new.touches c.in_ok-end_last.ensures.ends
    (subst (λ (last : List Part). c.close_all.new.touches ≤ c.end_last.new.touches + length (close_all_held hash c.args.meta.now (last ∷ rows))) (ap option_to_list (sym c.in-Some.is)) c.close_all.ensures.touches)

pub returns-clause-builds : goal.returns-clause-builds
returns-clause-builds g c = builds-builds c.in_ok-end_last.ensures.builds c.in_ok-part-in-Some.ensures.builds

pub unreachable-requires : goal.unreachable-requires
unreachable-requires g c = omega (arith, c.in_ok-end_last.ensures.ends.some, ap (λ (last : List Part). length last) (ap option_to_list (sym c.in-None.is)))

pub close_all-requires-clause-short : goal.close_all-requires-clause-short
close_all-requires-clause-short g c =
    let p = kept c.args.self.profile c.requires.can.profile in
    short-wider c.args.self.profile.width 1024 c.end_last.new.self.opened.rows.items p.few c.in_ok-end_last.ensures.ends.are_open.short.1

pub returns-in_err-part-in-Some-clause-no_other : goal.returns-in_err-part-in-Some-clause-no_other
returns-in_err-part-in-Some-clause-no_other g c = λ bytes h.
    let hash : List ℕ → List ℕ = g.S.X.BlockHash.block32 in
    let p = kept c.args.self.profile c.requires.can.profile in
    let rows = c.end_last.new.self.opened.rows.items in
    let mid = (g.S.Store.seen c.end_last.new.store).told in
    let now = (g.S.Store.seen c.close_all.new.store).told in
    let nodes = subst (λ (last : List Part). SavesAmong hash (close_all_held hash c.args.meta.now (last ∷ rows)) mid now) (ap option_to_list (sym c.in-Some.is)) c.close_all.ensures.no_other in
    SavesAmong-trans hash (file_plan hash c.args.self.profile c.args.meta.now bytes).blocks (g.S.Store.seen c.args.store.now).told mid now (c.end_last.ensures.no_other c.args.meta.now bytes h)
    (close-saves hash c.args.self.profile p.two c.args.meta.now bytes (groups_in c.end_last.new.self.opened) mid now (c.in_ok-end_last.ensures.ends.fed bytes h) nodes)

pub returns-clause-no_other : goal.returns-clause-no_other
returns-clause-no_other g c = λ bytes h.
    let hash : List ℕ → List ℕ = g.S.X.BlockHash.block32 in
    let p = kept c.args.self.profile c.requires.can.profile in
    let rows = c.end_last.new.self.opened.rows.items in
    let mid = (g.S.Store.seen c.end_last.new.store).told in
    let now = (g.S.Store.seen c.close_all.new.store).told in
    let nodes = subst (λ (last : List Part). SavesAmong hash (close_all_held hash c.args.meta.now (last ∷ rows)) mid now) (ap option_to_list (sym c.in-Some.is)) c.close_all.ensures.no_other in
    SavesAmong-trans hash (file_plan hash c.args.self.profile c.args.meta.now bytes).blocks (g.S.Store.seen c.args.store.now).told mid now (c.end_last.ensures.no_other c.args.meta.now bytes h)
    (close-saves hash c.args.self.profile p.two c.args.meta.now bytes (groups_in c.end_last.new.self.opened) mid now (c.in_ok-end_last.ensures.ends.fed bytes h) nodes)

pub returns-in_err-end_last-clause-no_other : goal.returns-in_err-end_last-clause-no_other
returns-in_err-end_last-clause-no_other g c = c.end_last.ensures.no_other c.args.meta.now
