use Rattle.std.proofs.Common.{◌≡◌, ◌∙◌, ◌++◌, ap, sym, subst, arith, Option, List}
use Rattle.std.proofs.lemmas.Result.{err_from_is_err_and}
use Rattle.uf_shard.specs.Answers.{Gives}
use Rattle.uf_store.specs.Among.{SavesAmong}
use Rattle.uf_store.proofs.Among.{SavesAmong-trans}
use Rattle.uf_store.proofs.Calls.{saves-saves}
use Rattle.uf_tree.specs.Metas.{none}
use Rattle.uf_tree.specs.Nodes.{Named}
use Rattle.uf_tree.specs.Tree.{entries}
use Rattle.uf_tree.specs.TreePlan.{Refusal, blocks as blocks_of, dir_refusal, named_entries, entry as entry_of, refusal as refusal_of}
use Rattle.uf_tree.specs.declared.meta.Meta.{Meta}
use Rattle.uf_tree.specs.declared.nodes.Entry.{Entry}
use Rattle.uf_tree.specs.Validity.{IsDirectory, IsHash}
use Rattle.uf_dir.specs.Planned.{dir_entry, own_blocks}
use Rattle.uf_tree.proofs.TreeLaws.{entry-dir, meta-entries}
use Rattle.uf_tree.proofs.Valid.{directory-valid}
use Rattle.uf_gen.specs.Fresh.{left_entries, left_entry, left_tree}
use Rattle.uf_gen.specs.Grown.{left_files}
use Rattle.uf_gen.proofs.Left.{entries-more, named-entries, refusal-left, tree-left}
use Rattle.uf_gen.proofs.Saving.{directory-saves, file-saves}
use Rattle.uf_gen.proofs.fresh.fresh_root.Goals as goal

pub loop-i-preserved : goal.loop-i-preserved
loop-i-preserved g c =
    let X = g.S.X.BlockHash.block32 in
    let N = g.N.NameHash.name64 in
    record {
      pairs = c.in_ok-add_left.ensures.adds
          ∙ ap (λ (l : List Named). l ++ left_entry X c.args.p.now c.args.seed c.loop-i.i) c.loop-i.invariant.pairs
          ∙ sym (entries-more X N c.args.p.now c.args.seed c.loop-i.i);
      saves = saves-saves c.loop-i.invariant.saves c.in_ok-add_left.ensures.saves;
      no_other = SavesAmong-trans X (blocks_of X N c.args.p.now (left_tree c.args.seed c.args.n)) (g.S.Store.seen c.args.store.now).told (g.S.Store.seen c.loop-i.store).told (g.S.Store.seen c.add_left.new.store).told c.loop-i.invariant.no_other
          (file-saves X N c.args.p.now c.args.seed c.args.n (g.S.Store.seen c.loop-i.store).told (g.S.Store.seen c.add_left.new.store).told c.loop-i.i (omega (arith, c.loop-i-test.true, c.loop-i.auto.i-end)) c.add_left.ensures.no_other);
    }

pub build-requires-clause-directory : goal.build-requires-clause-directory
build-requires-clause-directory g c =
    let X = g.S.X.BlockHash.block32 in
    let N = g.N.NameHash.name64 in
    let hash : IsHash X = record { size = g.met.S.X.BlockHash.size; are_bytes = g.met.S.X.BlockHash.are_bytes } in
    let n : c.loop-i.i ≡ c.args.n = omega (arith, c.loop-i-test.false, c.loop-i.auto.i-end) in
    subst IsDirectory
    (named-entries X N c.args.p.now c.args.seed c.args.n ∙ sym (c.loop-i.invariant.pairs ∙ ap (left_entries X c.args.p.now c.args.seed) n))
    (directory-valid X hash N c.args.p.now c.requires.profile (entries none (left_files c.args.seed c.args.n)) (tree-left c.args.seed c.args.n c.requires.few))

pub returns-in_err-add_left-clause-saves : goal.returns-in_err-add_left-clause-saves
returns-in_err-add_left-clause-saves g c =
    let out = err_from_is_err_and c.from_residual.result c.from_residual.ensures.1 in
    rw (out.1, out.2) (saves-saves c.loop-i.invariant.saves c.in_err-add_left.ensures.saves)

pub returns-clause-answer : goal.returns-clause-answer
returns-clause-answer g c =
    let X = g.S.X.BlockHash.block32 in
    let N = g.N.NameHash.name64 in
    let p = c.args.p.now in
    let seed = c.args.seed in
    let n : c.loop-i.i ≡ c.args.n = omega (arith, c.loop-i-test.false, c.loop-i.auto.i-end) in
    let all : c.loop-i.pairs ≡ left_entries X p seed c.args.n = c.loop-i.invariant.pairs ∙ ap (left_entries X p seed) n in
    let refusal : dir_refusal X N p none c.loop-i.pairs ≡ refusal_of X N p (left_tree seed c.args.n) =
    ap (dir_refusal X N p none) all ∙ sym (refusal-left X N p seed c.requires.profile c.args.n) in
    let entry : dir_entry X N p none c.loop-i.pairs ≡ entry_of X N p (left_tree seed c.args.n) =
    ap (dir_entry X N p none) (all ∙ sym (named-entries X N p seed c.args.n))
    ∙ ap (λ (m : Meta). dir_entry X N p m (named_entries X N p (entries none (left_files seed c.args.n)))) (sym (meta-entries none (left_files seed c.args.n)))
    ∙ sym (entry-dir X N p (entries none (left_files seed c.args.n))) in
    subst (λ (e : Entry). Gives (refusal_of X N p (left_tree seed c.args.n)) e c.build.result) entry
    (subst (λ (r : Option Refusal). Gives r (dir_entry X N p none c.loop-i.pairs) c.build.result) refusal
    (subst (λ (m : Meta). Gives (dir_refusal X N p m c.loop-i.pairs) (dir_entry X N p m c.loop-i.pairs) c.build.result) c.none.ensures c.build.ensures.answer))

pub returns-clause-saves : goal.returns-clause-saves
returns-clause-saves g c = saves-saves c.loop-i.invariant.saves
    (record { cause = c.build.ensures.cause; good = c.build.ensures.good; saves = c.build.ensures.saves })

pub returns-in_err-add_left-clause-no_other : goal.returns-in_err-add_left-clause-no_other
returns-in_err-add_left-clause-no_other g c =
    let X = g.S.X.BlockHash.block32 in
    let N = g.N.NameHash.name64 in
    SavesAmong-trans X (blocks_of X N c.args.p.now (left_tree c.args.seed c.args.n)) (g.S.Store.seen c.args.store.now).told (g.S.Store.seen c.loop-i.store).told (g.S.Store.seen c.add_left.new.store).told c.loop-i.invariant.no_other
    (file-saves X N c.args.p.now c.args.seed c.args.n (g.S.Store.seen c.loop-i.store).told (g.S.Store.seen c.add_left.new.store).told c.loop-i.i (omega (arith, c.loop-i-test.true, c.loop-i.auto.i-end)) c.add_left.ensures.no_other)

pub returns-clause-no_other : goal.returns-clause-no_other
returns-clause-no_other g c =
    let X = g.S.X.BlockHash.block32 in
    let N = g.N.NameHash.name64 in
    let p = c.args.p.now in
    let seed = c.args.seed in
    let n : c.loop-i.i ≡ c.args.n = omega (arith, c.loop-i-test.false, c.loop-i.auto.i-end) in
    let all : c.loop-i.pairs ≡ left_entries X p seed c.args.n = c.loop-i.invariant.pairs ∙ ap (left_entries X p seed) n in
    SavesAmong-trans X (blocks_of X N p (left_tree seed c.args.n)) (g.S.Store.seen c.args.store.now).told (g.S.Store.seen c.loop-i.store).told (g.S.Store.seen c.build.new.store).told c.loop-i.invariant.no_other
    (directory-saves X N p seed c.args.n (g.S.Store.seen c.loop-i.store).told (g.S.Store.seen c.build.new.store).told
    (subst (λ (l : List Named). SavesAmong X (own_blocks X N p none l) (g.S.Store.seen c.loop-i.store).told (g.S.Store.seen c.build.new.store).told) all
    (subst (λ (m : Meta). SavesAmong X (own_blocks X N p m c.loop-i.pairs) (g.S.Store.seen c.loop-i.store).told (g.S.Store.seen c.build.new.store).told) c.none.ensures c.build.ensures.no_other)))
