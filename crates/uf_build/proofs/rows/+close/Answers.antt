use Rattle.std.proofs.Common.{◌≡◌, ℕ, ◌+◌, ◌<◌, List, [], ◌∷◌, ◌++◌, length, refl, arith, rules, ap, ◌∙◌, set, subst, nat_eq, length-append}
use Rattle.std.proofs.lemmas.Result.{IfOk-weaker}
use Rattle.uf_cid.specs.Blocks.{Held}
use Rattle.uf_store.specs.Keeping.{Holds}
use Rattle.uf_store.specs.Among.{AreAmong, SavesAmong}
use Rattle.uf_store.proofs.Among.{SavesAmong-append, SavesAmong-more, among-left}
use Rattle.uf_tree.specs.declared.nodes.Part.{Part}
use Rattle.uf_store.proofs.Keeping.{Holds-append, Holds-kept}
use Rattle.uf_build.specs.Rows.{carry, carry_held, close_held_up}
use Rattle.uf_build.proofs.Calls.{builds-builds}
use Rattle.uf_build.proofs.Holding.{Holds-nil}
use Rattle.uf_build.proofs.Up.{close-past, close_held-past, close-next, sizes-closed, short-at, short-up, falls, next-level, carry-good}
use Rattle.uf_build.proofs.rows.+close.Goals as goal

pub returns-then-level-len-clause-closed : goal.returns-then-level-len-clause-closed
returns-then-level-len-clause-closed g t c =
    let hash : List ℕ → List ℕ = g.S.X.BlockHash.block32 in
    let top : c.args.level ≡ length c.args.rows.now.items = omega arith in
    let none = close_held-past hash c.args.meta.now c.args.level c.args.carried c.args.rows.now.items top in
    record {
      stands = close-past hash c.args.meta.now c.args.level _ c.args.rows.now.items top;
      held = subst (λ (l : List Held). Holds (g.S.Store.seen c.args.store.now).told l) none (Holds-nil _);
      count = omega (arith, ap length none);
    }

pub returns-in_err-up-clause-touches : goal.returns-in_err-up-clause-touches
returns-in_err-up-clause-touches g t c =
    let lt : c.args.level < length c.args.rows.now.items = omega arith in
    let count : c.len-2.result ≡ length c.args.rows.now.items = omega arith in
    let hash : List ℕ → List ℕ = g.S.X.BlockHash.block32 in
    let same = close-next hash c.args.meta.now c.args.level c.len-2.result c.args.carried _ c.args.rows.now.items c.index_mut.result.now c.replace-row.result [] lt
    c.index_mut.ensures.value c.replace-row.ensures.value count refl refl in
    omega (arith, ap length same.1, length-append (carry_held hash c.args.meta.now (nat_eq (c.args.level + 1) c.len-2.result) (c.replace-row.result ++ c.args.carried ∷ [])), c.close_row.ensures.touches)

pub close-requires : goal.close-requires
close-requires g t c κs within =
    let lt : c.args.level < length c.args.rows.now.items = omega arith in
    let hash : List ℕ → List ℕ = g.S.X.BlockHash.block32 in
    let none : c.replace-row.new.dest ≡ [] = c.replace-row.ensures.after ∙ c.new.ensures in
    let size = sizes-closed hash c.args.meta.now c.args.level (nat_eq (c.args.level + 1) c.len-2.result) c.args.carried c.in_ok-up.up c.args.rows.now.items
    c.index_mut.result.now c.replace-row.result c.replace-row.new.dest lt c.index_mut.ensures.value c.replace-row.ensures.value c.in_ok-up.ensures.ends.goes_up none in
    let less = falls c.args.level c.args.rows.now.items c.replace-row.new.dest lt in (
      search rules,
      (
        within.0,
        (
          within.1.0,
          (
            within.1.1,
            (
              next-level c.args.level c.args.rows.now.items c.replace-row.new.dest lt,
              (
                short-up 1024 c.args.level c.args.rows.now.items c.replace-row.new.dest (omega arith) none c.requires.short,
                (omega (arith, size, c.requires.size), c.requires.good),
              ),
            ),
          ),
        ),
      ),
    )

pub returns-clause-closed : goal.returns-clause-closed
returns-clause-closed g t c =
    let lt : c.args.level < length c.args.rows.now.items = omega arith in
    let count : c.len-2.result ≡ length c.args.rows.now.items = omega arith in
    let hash : List ℕ → List ℕ = g.S.X.BlockHash.block32 in
    let none : c.replace-row.new.dest ≡ [] = c.replace-row.ensures.after ∙ c.new.ensures in
    let is_top = nat_eq (c.args.level + 1) c.len-2.result in
    let row : List Part = c.replace-row.result ++ c.args.carried ∷ [] in
    let same = close-next hash c.args.meta.now c.args.level c.len-2.result c.args.carried c.in_ok-up.up c.args.rows.now.items c.index_mut.result.now c.replace-row.result
    c.replace-row.new.dest lt c.index_mut.ensures.value c.replace-row.ensures.value count c.in_ok-up.ensures.ends.goes_up none in
    IfOk-weaker c.close.result _ _ (λ part h. record {
      stands = h.stands ∙ same.0;
      held = subst (λ (l : List Held). Holds (g.S.Store.seen c.close.new.store).told l) same.1
          (Holds-append _ (carry_held hash c.args.meta.now is_top row) _ (Holds-kept hash _ _ _ (carry-good hash c.args.meta.now is_top row) c.close.ensures.builds.good c.in_ok-up.ensures.ends.held) h.held);
      count = omega (arith, ap length same.1, length-append (carry_held hash c.args.meta.now is_top row), c.in_ok-up.ensures.ends.count, h.count);
    }) c.close.ensures.closed

pub returns-clause-touches : goal.returns-clause-touches
returns-clause-touches g t c =
    let lt : c.args.level < length c.args.rows.now.items = omega arith in
    let count : c.len-2.result ≡ length c.args.rows.now.items = omega arith in
    let hash : List ℕ → List ℕ = g.S.X.BlockHash.block32 in
    let none : c.replace-row.new.dest ≡ [] = c.replace-row.ensures.after ∙ c.new.ensures in
    let same = close-next hash c.args.meta.now c.args.level c.len-2.result c.args.carried c.in_ok-up.up c.args.rows.now.items c.index_mut.result.now c.replace-row.result
    c.replace-row.new.dest lt c.index_mut.ensures.value c.replace-row.ensures.value count c.in_ok-up.ensures.ends.goes_up none in
    omega (
      arith,
      ap length same.1,
      length-append (carry_held hash c.args.meta.now (nat_eq (c.args.level + 1) c.len-2.result) (c.replace-row.result ++ c.args.carried ∷ [])),
      c.close_row.ensures.touches,
      c.close.ensures.touches,
    )

pub returns-clause-builds : goal.returns-clause-builds
returns-clause-builds g t c = builds-builds c.in_ok-up.ensures.builds c.close.ensures.builds

pub returns-in_err-up-clause-no_other : goal.returns-in_err-up-clause-no_other
returns-in_err-up-clause-no_other g t c =
    let lt : c.args.level < length c.args.rows.now.items = omega arith in
    let count : c.len-2.result ≡ length c.args.rows.now.items = omega arith in
    let hash : List ℕ → List ℕ = g.S.X.BlockHash.block32 in
    let m = c.args.meta.now in
    let row : List Part = c.replace-row.result ++ c.args.carried ∷ [] in
    let is_top = nat_eq (c.args.level + 1) c.len-2.result in
    let nodes : List Held = carry_held hash m is_top row in
    let above : List Held = close_held_up hash m (c.args.level + 1) (set c.args.rows.now.items c.args.level []) (carry hash m is_top row) in
    let same = close-next hash m c.args.level c.len-2.result c.args.carried (carry hash m is_top row) c.args.rows.now.items c.index_mut.result.now c.replace-row.result [] lt
    c.index_mut.ensures.value c.replace-row.ensures.value count refl refl in
    SavesAmong-more hash nodes (close_held_up hash m c.args.level c.args.rows.now.items c.args.carried) (g.S.Store.seen c.args.store.now).told (g.S.Store.seen c.close_row.new.store).told
    (subst (λ (l : List Held). AreAmong nodes l) same.1 (among-left nodes above)) c.close_row.ensures.no_other

pub returns-clause-no_other : goal.returns-clause-no_other
returns-clause-no_other g t c =
    let lt : c.args.level < length c.args.rows.now.items = omega arith in
    let count : c.len-2.result ≡ length c.args.rows.now.items = omega arith in
    let hash : List ℕ → List ℕ = g.S.X.BlockHash.block32 in
    let m = c.args.meta.now in
    let none : c.replace-row.new.dest ≡ [] = c.replace-row.ensures.after ∙ c.new.ensures in
    let same = close-next hash m c.args.level c.len-2.result c.args.carried c.in_ok-up.up c.args.rows.now.items c.index_mut.result.now c.replace-row.result
    c.replace-row.new.dest lt c.index_mut.ensures.value c.replace-row.ensures.value count c.in_ok-up.ensures.ends.goes_up none in
    let nodes : List Held = carry_held hash m (nat_eq (c.args.level + 1) c.len-2.result) (c.replace-row.result ++ c.args.carried ∷ []) in
    let above : List Held = close_held_up hash m (c.args.level + 1) (set c.args.rows.now.items c.args.level c.replace-row.new.dest) c.in_ok-up.up in
    let before = (g.S.Store.seen c.args.store.now).told in
    let mid = (g.S.Store.seen c.close_row.new.store).told in
    let now = (g.S.Store.seen c.close.new.store).told in
    subst (λ (l : List Held). SavesAmong hash l before now) same.1 (SavesAmong-append hash nodes above before mid now c.close_row.ensures.no_other c.close.ensures.no_other)

pub index_mut-requires : goal.index_mut-requires
index_mut-requires g t c = omega arith

pub close_row-requires-clause-few : goal.close_row-requires-clause-few
close_row-requires-clause-few g t c =
    let lt : c.args.level < length c.args.rows.now.items = omega arith in
    omega (arith, short-at 1024 c.args.level c.args.rows.now.items c.index_mut.result.now c.requires.short lt c.index_mut.ensures.value, ap length c.replace-row.ensures.value)
