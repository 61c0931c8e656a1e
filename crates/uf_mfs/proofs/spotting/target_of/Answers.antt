use Rattle.std.proofs.Common.{Err, List, Ok, length, subst, sym, take, ℕ, ◌≡◌, ◌≤◌, ◌-◌, ◌∙◌}
use Rattle.std.specs.Prelude.{get_or}
use Rattle.std.proofs.lemmas.Result.{err_from_is_err_and}
use Rattle.uf_tree.specs.Tree.{Dir}
use Rattle.uf_store.specs.Lost.{IsLossOf}
use Rattle.uf_store.proofs.Calls.{stood-back, stood-front}
use Rattle.uf_tree.specs.TreePlan.{blocks}
use Rattle.uf_plain.specs.Moves.{told_of}
use Rattle.uf_mfs.specs.Moving.{GivesOver, IsFound, lands}
use Rattle.uf_mfs.specs.Standing.{IsAgreed}
use Rattle.uf_mfs.proofs.Spots.{target-in, target-stop, target-there, tree-after, tree-rises}
use Rattle.std.proofs.Common.{None}
use Rattle.uf_mfs.proofs.Judging.{bad-below, folder-required}
use Rattle.uf_mfs.proofs.spotting.target_of.Goals as goal

pub returns-in_err-found-in-len1-up-clause-found : goal.returns-in_err-found-in-len1-up-clause-found
returns-in_err-found-in-len1-up-clause-found g c = λ p es s stood.
    let X = g.S.X.BlockHash.block32 in let N = g.N.NameHash.name64 in let told = (g.S.Store.seen c.args.store.now).told in let dest = c.args.dest.now in let last = c.last-item.result in
    let out = err_from_is_err_and c.from_residual.result c.from_residual.ensures.1 in
    rw (out.1, out.2) (target-stop dest last c.args.name.now es c.if-dest.false (subst (λ (ns : List (List ℕ)). 1 ≤ length ns) c.as_slice-names.ensures c.in-len1-up.len_at_least)
    (subst (λ (ns : List (List ℕ)). last ≡ get_or ns (length ns - 1) last) c.as_slice-names.ensures c.last-item.is) (IsLossOf told (blocks X N p (Dir es))) (IsFound X N told p) (IsFound X N told p) c.in_err-found-in-len1-up.field-0.0
    (subst (λ (ns : List (List ℕ)). GivesOver X N told p es (IsFound X N told p) (told_of ns (lands (take (length ns - 1) ns) last es)) (Err c.in_err-found-in-len1-up.field-0.0)) c.as_slice-names.ensures
    (c.in_err-found-in-len1-up.ensures.found p es s stood)))

pub returns-in-Some-clause-found : goal.returns-in-Some-clause-found
returns-in-Some-clause-found g c = λ p es s stood.
    let X = g.S.X.BlockHash.block32 in let N = g.N.NameHash.name64 in let dest = c.args.dest.now in let last = c.last-item.result in
    let a = g.S.Store.seen c.args.store.now in let b = g.S.Store.seen c.landing-in-len1-up.new.store in let d = g.S.Store.seen c.under.new.store in let told = a.told in
    let before = c.in_ok-found-in-len1-up.ensures.reads.reads in let same = before.told in
    let front = stood-front a.faults b.faults d.faults before.cause.faults (tree-rises c.under.result c.under.ensures.reads) stood in
    let back = stood-back a.faults b.faults d.faults before.cause.faults stood in
    let ns = c.as_slice-names.result.now in
    target-in X N p told dest last c.args.name.now es c.if-dest.false (subst (λ (ns : List (List ℕ)). 1 ≤ length ns) c.as_slice-names.ensures c.in-len1-up.len_at_least)
    (subst (λ (ns : List (List ℕ)). last ≡ get_or ns (length ns - 1) last) c.as_slice-names.ensures c.last-item.is) (IsFound X N told p) c.in_ok-found-in-len1-up.found c.in-Some.entry c.under.result (sym c.in-Some.is ∙ c.folder_in.ensures)
    (subst (λ (ns : List (List ℕ)). GivesOver X N told p es (IsFound X N told p) (told_of ns (lands (take (length ns - 1) ns) last es)) (Ok c.in_ok-found-in-len1-up.found)) c.as_slice-names.ensures
    (c.in_ok-found-in-len1-up.ensures.found p es s front))
    (λ gs i. subst (λ (ns : List (List ℕ)). GivesOver X N told p gs (IsFound X N told p) (Ok (record { folder = ns; name = c.args.name.now }, gs)) c.under.result) c.as_slice-names.ensures
    (subst (λ told. GivesOver X N told p gs (IsFound X N told p) (Ok (record { folder = ns; name = c.args.name.now }, gs)) c.under.result) same
    (c.under.ensures.found p gs (subst (λ told. IsAgreed X N told p c.in-Some.entry (Dir gs)) (sym same) i) back)))

pub returns-in-None-clause-found : goal.returns-in-None-clause-found
returns-in-None-clause-found g c = λ p es s stood.
    let X = g.S.X.BlockHash.block32 in let N = g.N.NameHash.name64 in let dest = c.args.dest.now in let last = c.last-item.result in let told = (g.S.Store.seen c.args.store.now).told in
    target-there X N p told dest last c.args.name.now es c.if-dest.false (subst (λ (ns : List (List ℕ)). 1 ≤ length ns) c.as_slice-names.ensures c.in-len1-up.len_at_least)
    (subst (λ (ns : List (List ℕ)). last ≡ get_or ns (length ns - 1) last) c.as_slice-names.ensures c.last-item.is) c.in_ok-found-in-len1-up.found (sym c.in-None.is ∙ c.folder_in.ensures)
    (subst (λ (ns : List (List ℕ)). GivesOver X N told p es (IsFound X N told p) (told_of ns (lands (take (length ns - 1) ns) last es)) (Ok c.in_ok-found-in-len1-up.found)) c.as_slice-names.ensures
    (c.in_ok-found-in-len1-up.ensures.found p es s stood))

pub returns-in-Some-clause-reads : goal.returns-in-Some-clause-reads
returns-in-Some-clause-reads g c =
    let X = g.S.X.BlockHash.block32 in let N = g.N.NameHash.name64 in let root = c.args.root.now.cid in
    let r = folder-required X N root c.in_ok-found-in-len1-up.found.there c.in-Some.entry (sym c.folder_in.ensures ∙ c.in-Some.is) c.in_ok-found-in-len1-up.ensures.required in
    tree-after (bad-below X N None root c.in-Some.entry.cid r) c.in_ok-found-in-len1-up.ensures.reads.reads c.under.ensures.reads
