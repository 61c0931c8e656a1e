use Rattle.std.proofs.Common.{◌≡◌, ◌+◌, ◌-◌, ◌∷◌, Err, None, drop, length, subst, sym, take}
use Rattle.std.proofs.lemmas.Result.{err_from_is_err_and}
use Rattle.uf_store.specs.Lost.{IsLossOf}
use Rattle.uf_store.proofs.Calls.{reads-by, reads-reads, shown-rises, stood-back, stood-front}
use Rattle.uf_tree.specs.Tree.{Dir, Tree}
use Rattle.uf_plain.specs.Edits.{at, child}
use Rattle.uf_plain.specs.Needs.{way}
use Rattle.uf_mfs.specs.Answers.{MeetsOr}
use Rattle.uf_mfs.specs.Standing.{IsAgreedMember, IsAgreedThing}
use Rattle.uf_mfs.specs.Steps.{stop_fault}
use Rattle.uf_mfs.specs.declared.thing.Thing.{Thing}
use Rattle.uf_mfs.proofs.Meeting.{first-rest}
use Rattle.uf_mfs.proofs.Needed.{look-err, look-on}
use Rattle.uf_mfs.proofs.Seeing.{folder-tree, member-tree}
use Rattle.std.specs.Prelude.{IfSome}
use Rattle.uf_store.specs.Calls.{OnlyReads}
use Rattle.uf_mfs.specs.Bad.{IsBadInTree, IsBadUnder, IsRequired}
use Rattle.uf_mfs.proofs.Judging.{required-below, under-bad}
use Rattle.uf_mfs.proofs.looking.+look.Goals as goal

pub returns-in_err-member-clause-looks : goal.returns-in_err-member-clause-looks
returns-in_err-member-clause-looks g t c = λ p u s stood.
    let X = g.S.X.BlockHash.block32 in let N = g.N.NameHash.name64 in let told = (g.S.Store.seen c.args.store.now).told in let name = c.name-item.result in
    let more = take (length c.args.names.now - 1) (drop 1 c.args.names.now) in
    let names : name ∷ more ≡ c.args.names.now = first-rest c.args.names.now name c.in-len1-up.len_at_least c.name-item.is in
    let folder = folder-tree X N told p u c.in-Folder.folder c.in-Folder.field-1 (subst (λ x. IsAgreedThing X N told p u x) c.in-Folder.is s) in let es = folder.0 in
    let out = err_from_is_err_and c.from_residual.result c.from_residual.ensures.1 in
    rw (out.1, out.2) (subst (λ (u : Tree). MeetsOr (IsLossOf told (way X N p c.args.names.now u)) (λ t x. IsAgreedThing X N told p t x) (at c.args.led c.args.names.now u) (Err c.in_err-member.field-0.0)) (sym folder.1)
    (subst (λ l. MeetsOr (IsLossOf told (way X N p l (Dir es))) (λ t x. IsAgreedThing X N told p t x) (at c.args.led l (Dir es)) (Err c.in_err-member.field-0.0)) names
    (look-err X N p (record { size = g.met.S.X.BlockHash.size; are_bytes = g.met.S.X.BlockHash.are_bytes }) told name more es (λ o x. IsAgreedMember X N told p o x) (λ t x. IsAgreedThing X N told p t x) (child name es) (at c.args.led (name ∷ more) (Dir es)) c.in_err-member.field-0.0
    (c.in_err-member.ensures.member p es folder.2 stood))))

pub returns-in-Some-clause-looks : goal.returns-in-Some-clause-looks
returns-in-Some-clause-looks g t c = λ p u s stood.
    let X = g.S.X.BlockHash.block32 in let N = g.N.NameHash.name64 in let a = g.S.Store.seen c.args.store.now in let told = a.told in let name = c.name-item.result in
    let more = take (length c.args.names.now - 1) (drop 1 c.args.names.now) in
    let names : name ∷ more ≡ c.args.names.now = first-rest c.args.names.now name c.in-len1-up.len_at_least c.name-item.is in
    let folder = folder-tree X N told p u c.in-Folder.folder c.in-Folder.field-1 (subst (λ x. IsAgreedThing X N told p u x) c.in-Folder.is s) in let es = folder.0 in
    let b = g.S.Store.seen c.member.new.store in let d = g.S.Store.seen c.look.new.store in let same = c.in_ok-member.ensures.reads.told in
    let front = stood-front a.faults b.faults d.faults c.in_ok-member.ensures.reads.cause.faults (shown-rises X _ (stop_fault c.look.result) b d c.look.ensures.reads.cause).faults stood in
    let back = stood-back a.faults b.faults d.faults c.in_ok-member.ensures.reads.cause.faults stood in
    let found = member-tree X N told p (child name es) c.in-Some.below (subst (λ o. IsAgreedMember X N told p (child name es) o) c.in-Some.is (c.in_ok-member.ensures.member p es folder.2 front)) in
    subst (λ (u : Tree). MeetsOr (IsLossOf told (way X N p c.args.names.now u)) (λ t x. IsAgreedThing X N told p t x) (at c.args.led c.args.names.now u) c.look.result) (sym folder.1)
    (subst (λ l. MeetsOr (IsLossOf told (way X N p l (Dir es))) (λ t x. IsAgreedThing X N told p t x) (at c.args.led l (Dir es)) c.look.result) names
    (look-on X N p told c.args.led name more es found.0 (λ t x. IsAgreedThing X N told p t x) c.look.result found.1
    (subst (λ told. MeetsOr (IsLossOf told (way X N p more found.0)) (λ t x. IsAgreedThing X N told p t x) (at (c.args.led + 1) more found.0) c.look.result) same
    (c.look.ensures.looks p found.0 (subst (λ told. IsAgreedThing X N told p found.0 c.in-Some.below) (sym same) found.2) back))))

pub returns-in_err-member-clause-reads : goal.returns-in_err-member-clause-reads
returns-in_err-member-clause-reads g t c =
    let X = g.S.X.BlockHash.block32 in let N = g.N.NameHash.name64 in let a = g.S.Store.seen c.args.store.now in let b = g.S.Store.seen c.member.new.store in
    let out = err_from_is_err_and c.from_residual.result c.from_residual.ensures.1 in
    rw (out.1, out.2) (subst (λ x. OnlyReads X (IsBadUnder X N None x) (stop_fault {A = Thing} (Err c.in_err-member.field-0.0)) a b) (sym c.in-Folder.is) c.in_err-member.ensures.reads)

pub returns-in-Some-clause-reads : goal.returns-in-Some-clause-reads
returns-in-Some-clause-reads g t c =
    let X = g.S.X.BlockHash.block32 in let N = g.N.NameHash.name64 in let a = g.S.Store.seen c.args.store.now in let d = g.S.Store.seen c.look.new.store in let folder = c.in-Folder.folder.cid in
    let below = subst (λ o. IfSome o (IsRequired X folder)) c.in-Some.is c.in_ok-member.ensures.required in
    subst (λ x. OnlyReads X (IsBadUnder X N None x) (stop_fault c.look.result) a d) (sym c.in-Folder.is)
    (reads-reads c.in_ok-member.ensures.reads (reads-by (IsBadInTree X N None folder) (under-bad X N None folder c.in-Some.below below) c.look.ensures.reads))

pub returns-in-Some-clause-required : goal.returns-in-Some-clause-required
returns-in-Some-clause-required g t c = λ root r.
    let X = g.S.X.BlockHash.block32 in let folder = c.in-Folder.folder.cid in
    let below = subst (λ o. IfSome o (IsRequired X folder)) c.in-Some.is c.in_ok-member.ensures.required in
    c.look.ensures.required root (required-below X g.N.NameHash.name64 root folder c.in-Some.below (subst (IsRequired X root) c.in-Folder.is r) below)
