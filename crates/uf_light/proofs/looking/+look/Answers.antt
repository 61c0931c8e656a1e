use Rattle.std.proofs.Common.{◌≡◌, ◌+◌, ◌-◌, ◌∷◌, Some, Ok, drop, length, subst, sym, take}
use Rattle.std.proofs.lemmas.Result.{err_from_is_err_and}
use Rattle.std.specs.Prelude.{IfSome}
use Rattle.uf_store.proofs.Calls.{reads-by, reads-reads, shown-rises, stood-back, stood-front}
use Rattle.uf_store.specs.Calls.{OnlyReads}
use Rattle.uf_store.specs.Faults.{fault_in}
use Rattle.uf_plain.specs.Edits.{at, child}
use Rattle.uf_plain.specs.Needs.{way}
use Rattle.uf_light.specs.Bad.{IsBadOnPath, IsBadUnder, IsRequired}
use Rattle.uf_light.proofs.Below.{ends-at, ends-below}
use Rattle.uf_light.proofs.Blaming.{under-bad}
use Rattle.uf_light.specs.Standing.{IsAgreedMember, IsAgreedThing, IsMet, LosesOr}
use Rattle.uf_light.proofs.Finding.{first-rest, look-lost, look-on, met-nothing, met-there, no-names}
use Rattle.uf_light.proofs.Seeing.{folder-tree, member-nothing, member-tree}
use Rattle.uf_light.proofs.looking.+look.Goals as goal

pub returns-in_default-clause-looks : goal.returns-in_default-clause-looks
returns-in_default-clause-looks g t c = λ p u s stood.
    met-there g.S.X.BlockHash.block32 g.N.NameHash.name64 p (g.S.Store.seen c.args.store.now).told c.args.led c.args.names.now u c.args.thing (no-names c.args.names.now c.in_default.len_below) s

pub returns-in_err-member-clause-looks : goal.returns-in_err-member-clause-looks
returns-in_err-member-clause-looks g t c = λ p u s stood.
    let X = g.S.X.BlockHash.block32 in let N = g.N.NameHash.name64 in let told = (g.S.Store.seen c.args.store.now).told in let name = c.name-item.result in
    let more = take (length c.args.names.now - 1) (drop 1 c.args.names.now) in
    let names : name ∷ more ≡ c.args.names.now = first-rest c.args.names.now name c.in-len1-up.len_at_least c.name-item.is in
    let folder = folder-tree X N told p u c.in-Folder.folder (subst (λ x. IsAgreedThing X N told p u x) c.in-Folder.is s) in
    let out = err_from_is_err_and c.from_residual.result c.from_residual.ensures.1 in
    rw (out.1, out.2) (look-lost X N p (record { size = g.met.S.X.BlockHash.size; are_bytes = g.met.S.X.BlockHash.are_bytes }) told name more c.args.names.now folder.0 u c.in_err-member.field-0.0 names folder.1 (c.in_err-member.ensures.member p folder.0 folder.2 stood))

pub returns-in_err-member-clause-reads : goal.returns-in_err-member-clause-reads
returns-in_err-member-clause-reads g t c =
    let X = g.S.X.BlockHash.block32 in let N = g.N.NameHash.name64 in let a = g.S.Store.seen c.args.store.now in let b = g.S.Store.seen c.member.new.store in
    let out = err_from_is_err_and c.from_residual.result c.from_residual.ensures.1 in
    rw (out.1, out.2) (subst (λ x. OnlyReads X (IsBadUnder X N x) (Some c.in_err-member.field-0.0) a b) (sym c.in-Folder.is) c.in_err-member.ensures.reads)

pub returns-in-None-clause-looks : goal.returns-in-None-clause-looks
returns-in-None-clause-looks g t c = λ p u s stood.
    let X = g.S.X.BlockHash.block32 in let N = g.N.NameHash.name64 in let told = (g.S.Store.seen c.args.store.now).told in let name = c.name-item.result in
    let more = take (length c.args.names.now - 1) (drop 1 c.args.names.now) in
    let names : name ∷ more ≡ c.args.names.now = first-rest c.args.names.now name c.in-len1-up.len_at_least c.name-item.is in
    let folder = folder-tree X N told p u c.in-Folder.folder (subst (λ x. IsAgreedThing X N told p u x) c.in-Folder.is s) in
    met-nothing X N p told c.args.led name more c.args.names.now u folder.0 names folder.1
    (member-nothing X N told p (child name folder.0) (subst (λ o. IsAgreedMember X N told p (child name folder.0) o) c.in-None.is (c.in_ok-member.ensures.member p folder.0 folder.2 stood)))

pub returns-in-Some-clause-looks : goal.returns-in-Some-clause-looks
returns-in-Some-clause-looks g t c = λ p u s stood.
    let X = g.S.X.BlockHash.block32 in let N = g.N.NameHash.name64 in let a = g.S.Store.seen c.args.store.now in let told = a.told in let name = c.name-item.result in
    let more = take (length c.args.names.now - 1) (drop 1 c.args.names.now) in
    let names : name ∷ more ≡ c.args.names.now = first-rest c.args.names.now name c.in-len1-up.len_at_least c.name-item.is in
    let folder = folder-tree X N told p u c.in-Folder.folder (subst (λ x. IsAgreedThing X N told p u x) c.in-Folder.is s) in
    let b = g.S.Store.seen c.member.new.store in let d = g.S.Store.seen c.look.new.store in let same = c.in_ok-member.ensures.reads.told in
    let front = stood-front a.faults b.faults d.faults c.in_ok-member.ensures.reads.cause.faults (shown-rises X _ (fault_in c.look.result) b d c.look.ensures.reads.cause).faults stood in
    let back = stood-back a.faults b.faults d.faults c.in_ok-member.ensures.reads.cause.faults stood in
    let found = member-tree X N told p (child name folder.0) c.in-Some.below (subst (λ o. IsAgreedMember X N told p (child name folder.0) o) c.in-Some.is (c.in_ok-member.ensures.member p folder.0 folder.2 front)) in
    look-on X N p told c.args.led name more c.args.names.now folder.0 u found.0 c.look.result names folder.1 found.1
    (subst (λ told. LosesOr X N told p (way X N p more found.0) (IsMet X N told p (at (c.args.led + 1) more found.0)) c.look.result) same
    (c.look.ensures.looks p found.0 (subst (λ told. IsAgreedThing X N told p found.0 c.in-Some.below) (sym same) found.2) back))

pub returns-in-Some-clause-reads : goal.returns-in-Some-clause-reads
returns-in-Some-clause-reads g t c =
    let X = g.S.X.BlockHash.block32 in let N = g.N.NameHash.name64 in let a = g.S.Store.seen c.args.store.now in let d = g.S.Store.seen c.look.new.store in let folder = c.in-Folder.folder.cid in
    let below = subst (λ o. IfSome o (IsRequired X folder)) c.in-Some.is c.in_ok-member.ensures.required in
    subst (λ x. OnlyReads X (IsBadUnder X N x) (fault_in c.look.result) a d) (sym c.in-Folder.is)
    (reads-reads c.in_ok-member.ensures.reads (reads-by (IsBadOnPath X N folder) (under-bad X N folder c.in-Some.below below) c.look.ensures.reads))

pub returns-in_default-clause-ends : goal.returns-in_default-clause-ends
returns-in_default-clause-ends g t c = ends-at c.args.thing c.args.names.now _ (no-names c.args.names.now c.in_default.len_below)

pub returns-in-None-clause-ends : goal.returns-in-None-clause-ends
returns-in-None-clause-ends g t c = ends-below c.args.thing c.in-Folder.folder c.args.names.now (Ok _) c.in-Folder.is

pub returns-in-Some-clause-ends : goal.returns-in-Some-clause-ends
returns-in-Some-clause-ends g t c = ends-below c.args.thing c.in-Folder.folder c.args.names.now c.look.result c.in-Folder.is
