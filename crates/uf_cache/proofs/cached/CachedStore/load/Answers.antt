use Rattle.std.proofs.Common.{arith, rules, refl, subst, sym, ◌∙◌}
use Rattle.std.specs.Prelude.{IfSome}
use Rattle.uf_store.proofs.Plain.{calls_write}
use Rattle.uf_cache.specs.Entries.{Entries, IsKept, lent_by}
use Rattle.uf_cache.proofs.Answering.{found_kept, hit_finds, hits, is_found, is_other, keeps_found, keeps_none}
use Rattle.uf_cache.proofs.Answering.{may_keep, rests, unfound}
use Rattle.uf_cache.proofs.Bytes.{room-used}
use Rattle.uf_cache.proofs.Finding.{among, each_some, is_absent, is_first, is_left, is_there, promotes}
use Rattle.uf_cache.proofs.Kept.{AreKept-kept, AreKept-same, AreKept-used}
use Rattle.uf_cache.proofs.cached.CachedStore.load.Goals as goal

pub invariant_of-self : goal.invariant_of-self
invariant_of-self g c =
    let self = c.args.self.now in let cid = c.args.cid.now in
    let p = promotes self.entries _ _ cid _ c.to_binary.ensures c.promote.ensures.value c.promote.ensures.entries in
    let hash = g.S.X.BlockHash.block32 in
    let below = g.S.Store.seen self.inner in
    let there = is_there p c.if-promote.true in
    let whole = self.kept cid there.0 (among self.entries cid there.0 there.1) in
    record {
      small = room-used self.room cid self.entries _ p.is_used self.small;
      kept = AreKept-used hash _ self.entries _ cid self.kept p.is_used;
      rests = subst (IsKept hash below.told cid) (sym (is_first p below.lent there.0 there.1)) whole;
    }

pub returns-then-promote-clause-again : goal.returns-then-promote-clause-again
returns-then-promote-clause-again g c is same =
    let self = c.args.self.now in let cid = c.args.cid.now in
    let p = promotes self.entries _ _ cid _ c.to_binary.ensures c.promote.ensures.value c.promote.ensures.entries in
    let no_entry = sym is ∙ (is_there p c.if-promote.true).1 in absurd cc

pub returns-then-promote-clause-seen : goal.returns-then-promote-clause-seen
returns-then-promote-clause-seen g c =
    let self = c.args.self.now in let cid = c.args.cid.now in
    let p = promotes self.entries _ _ cid _ c.to_binary.ensures c.promote.ensures.value c.promote.ensures.entries in
    let hash = g.S.X.BlockHash.block32 in
    let below = g.S.Store.seen self.inner in
    let there = is_there p c.if-promote.true in
    let first = is_first p below.lent there.0 there.1 in
    let kept = self.kept cid there.0 (among self.entries cid there.0 there.1) in
    hit_finds hash cid below _ _ there.0 _ _ kept first c.saturating_add-self.ensures (grind (arith, rules))

pub returns-then-promote-clause-hit : goal.returns-then-promote-clause-hit
returns-then-promote-clause-hit g c =
    let self = c.args.self.now in let cid = c.args.cid.now in
    let p = promotes self.entries _ _ cid _ c.to_binary.ensures c.promote.ensures.value c.promote.ensures.entries in
    hits self _ cid p.is_used (refl {a = self.inner}) (is_first p (g.S.Store.seen self.inner).lent)

pub returns-then-promote-clause-miss : goal.returns-then-promote-clause-miss
returns-then-promote-clause-miss g c is other =
    let self = c.args.self.now in let cid = c.args.cid.now in
    let p = promotes self.entries _ _ cid _ c.to_binary.ensures c.promote.ensures.value c.promote.ensures.entries in
    let no_entry = sym is ∙ (is_there p c.if-promote.true).1 in absurd cc

pub invariant_of-self-then-eq : goal.invariant_of-self-then-eq
invariant_of-self-then-eq g c =
    let self = c.args.self.now in let cid = c.args.cid.now in
    let p = promotes self.entries _ _ cid _ c.to_binary.ensures c.promote.ensures.value c.promote.ensures.entries in
    let hash = g.S.X.BlockHash.block32 in
    let below = g.S.Store.seen self.inner in
    record {
      small = room-used self.room cid self.entries _ p.is_used self.small;
      kept = AreKept-used hash _ self.entries _ cid self.kept p.is_used;
      rests = subst (λ (es : Entries). IfSome self.lent (λ x. IsKept hash below.told x (lent_by self.lends_first es below.lent)))
          (sym (is_left p c.if-promote.false)) self.rests;
    }

pub returns-then-eq-clause-hit : goal.returns-then-eq-clause-hit
returns-then-eq-clause-hit g c =
    let self = c.args.self.now in let cid = c.args.cid.now in
    let p = promotes self.entries _ _ cid _ c.to_binary.ensures c.promote.ensures.value c.promote.ensures.entries in
    each_some _ _ (λ bytes is. let no_entry = sym (is_absent p c.if-promote.false) ∙ is in absurd cc)

pub returns-then-eq-clause-again : goal.returns-then-eq-clause-again
returns-then-eq-clause-again g c is same =
    let self = c.args.self.now in let cid = c.args.cid.now in
    let p = promotes self.entries _ _ cid _ c.to_binary.ensures c.promote.ensures.value c.promote.ensures.entries in
    rests self _ cid (is_left p c.if-promote.false) (refl {a = self.inner}) refl

pub invariant_of-self-then-eq-2 : goal.invariant_of-self-then-eq-2
invariant_of-self-then-eq-2 g c =
    let self = c.args.self.now in let cid = c.args.cid.now in
    let p = promotes self.entries _ _ cid _ c.to_binary.ensures c.promote.ensures.value c.promote.ensures.entries in
    let hash = g.S.X.BlockHash.block32 in
    let found = is_found c.load-answer.result c.if-eq-2.ensures in
    let same = (calls_write hash _ _).load cid _ c.load-answer.ensures.seen in
    let whole = found_kept hash cid _ _ _ found c.load-answer.ensures.seen in
    let put = may_keep _ _ _ _ _ _ (is_left p c.if-promote.false) c.block.ensures c.keep.ensures.kept in
    let kept = AreKept-same hash _ _ self.entries same self.kept in
    record { small = c.keep.ensures.room; kept = AreKept-kept hash _ self.entries _ cid kept _ whole put; rests = whole }

pub invariant_of-self-else-eq-2 : goal.invariant_of-self-else-eq-2
invariant_of-self-else-eq-2 g c =
    let self = c.args.self.now in let cid = c.args.cid.now in
    let p = promotes self.entries _ _ cid _ c.to_binary.ensures c.promote.ensures.value c.promote.ensures.entries in
    let hash = g.S.X.BlockHash.block32 in
    let same = (calls_write hash _ _).load cid _ c.load-answer.ensures.seen in
    let kept = AreKept-same hash _ _ self.entries same self.kept in
    record { small = room-used self.room cid self.entries _ p.is_used self.small; kept = AreKept-used hash _ self.entries _ cid kept p.is_used; rests = tt }

pub returns-then-eq-2-clause-hit : goal.returns-then-eq-2-clause-hit
returns-then-eq-2-clause-hit g c =
    let self = c.args.self.now in let cid = c.args.cid.now in
    let p = promotes self.entries _ _ cid _ c.to_binary.ensures c.promote.ensures.value c.promote.ensures.entries in
    each_some _ _ (λ bytes is. let no_entry = sym (is_absent p c.if-promote.false) ∙ is in absurd cc)

pub returns-then-eq-2-clause-miss : goal.returns-then-eq-2-clause-miss
returns-then-eq-2-clause-miss g c is other =
    let self = c.args.self.now in let cid = c.args.cid.now in
    let p = promotes self.entries _ _ cid _ c.to_binary.ensures c.promote.ensures.value c.promote.ensures.entries in
    let found = is_found c.load-answer.result c.if-eq-2.ensures in
    let put = may_keep _ _ _ _ _ _ (is_left p c.if-promote.false) c.block.ensures c.keep.ensures.kept in
    record { below = c.load-answer.ensures.seen; kept = keeps_found self _ cid _ found put }

pub returns-else-eq-2-clause-seen : goal.returns-else-eq-2-clause-seen
returns-else-eq-2-clause-seen g c =
    let self = c.args.self.now in let cid = c.args.cid.now in
    let p = promotes self.entries _ _ cid _ c.to_binary.ensures c.promote.ensures.value c.promote.ensures.entries in
    let hash = g.S.X.BlockHash.block32 in
    let left = is_left p c.if-promote.false in
    let other = is_other c.load-answer.result c.if-eq-2.ensures in
    unfound hash cid _ _ _ _ _ (λ e i. lent_by self.lends_first (left i) (e i)) _ other c.load-answer.ensures.seen

pub returns-else-eq-2-clause-hit : goal.returns-else-eq-2-clause-hit
returns-else-eq-2-clause-hit g c =
    let self = c.args.self.now in let cid = c.args.cid.now in
    let p = promotes self.entries _ _ cid _ c.to_binary.ensures c.promote.ensures.value c.promote.ensures.entries in
    each_some _ _ (λ bytes is. let no_entry = sym (is_absent p c.if-promote.false) ∙ is in absurd cc)

pub returns-else-eq-2-clause-miss : goal.returns-else-eq-2-clause-miss
returns-else-eq-2-clause-miss g c is still =
    let self = c.args.self.now in let cid = c.args.cid.now in
    let p = promotes self.entries _ _ cid _ c.to_binary.ensures c.promote.ensures.value c.promote.ensures.entries in
    let other = is_other c.load-answer.result c.if-eq-2.ensures in
    record { below = c.load-answer.ensures.seen; kept = keeps_none self _ cid _ other (is_left p c.if-promote.false) }

pub keep-requires-clause-room : goal.keep-requires-clause-room
keep-requires-clause-room g c =
    let self = c.args.self.now in let cid = c.args.cid.now in
    let p = promotes self.entries _ _ cid _ c.to_binary.ensures c.promote.ensures.value c.promote.ensures.entries in
    room-used self.room cid self.entries _ p.is_used self.small
