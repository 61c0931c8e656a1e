use Rattle.std.proofs.Common.{◌≡◌, ◌+◌, ◌-◌, ◌∷◌, None, drop, length, subst, sym, take}
use Rattle.std.proofs.lemmas.Result.{err_from_is_err_and}
use Rattle.uf_store.proofs.Calls.{reads-by, reads-reads, shown-rises, stood-back, stood-front}
use Rattle.uf_store.specs.Calls.{OnlyReads}
use Rattle.uf_store.specs.Faults.{fault_in}
use Rattle.uf_plain.specs.Edits.{at, child}
use Rattle.std.specs.Prelude.{IfSome}
use Rattle.uf_light.specs.Bad.{IsBadOnPath, IsBadUnder, IsRequired}
use Rattle.uf_light.proofs.Blaming.{under-bad}
use Rattle.uf_light.specs.Gathered.{Gathers}
use Rattle.uf_light.specs.Standing.{IsAgreedMember, IsAgreedThing}
use Rattle.uf_light.proofs.Collecting.{ends-there, gather-none, gather-on}
use Rattle.uf_light.proofs.Finding.{first-rest, look-lost, met-nothing, met-there, no-names}
use Rattle.uf_light.proofs.Seeing.{folder-tree, member-nothing, member-tree}
use Rattle.uf_light.proofs.gathering.+gather.Goals as goal

pub returns-in_default-clause-gathers : goal.returns-in_default-clause-gathers
returns-in_default-clause-gathers g t c = λ p u s stood.
    let X = g.S.X.BlockHash.block32 in let N = g.N.NameHash.name64 in let told = (g.S.Store.seen c.args.store.now).told in let none = no-names c.args.names.now c.in_default.len_below in
    (met-there X N p told c.args.led c.args.names.now u c.args.thing none s, ends-there X N p told c.args.names.now u c.args.cids.now none)

pub returns-in_err-gather_member-clause-gathers : goal.returns-in_err-gather_member-clause-gathers
returns-in_err-gather_member-clause-gathers g t c = λ p u s stood.
    let X = g.S.X.BlockHash.block32 in let N = g.N.NameHash.name64 in let told = (g.S.Store.seen c.args.store.now).told in let name = c.name-item.result in
    let folder = folder-tree X N told p u c.in-Folder.folder (subst (λ x. IsAgreedThing X N told p u x) c.in-Folder.is s) in
    let out = err_from_is_err_and c.from_residual.result c.from_residual.ensures.1 in let f = c.in_err-gather_member.field-0.0 in
    let more = take (length c.args.names.now - 1) (drop 1 c.args.names.now) in
    let names : name ∷ more ≡ c.args.names.now = first-rest c.args.names.now name c.in-len1-up.len_at_least c.name-item.is in
    rw (out.1, out.2) (look-lost X N p (record { size = g.met.S.X.BlockHash.size; are_bytes = g.met.S.X.BlockHash.are_bytes }) told name more c.args.names.now folder.0 u f names folder.1 (c.in_err-gather_member.ensures.gathers p folder.0 folder.2 stood))

pub returns-in-None-clause-gathers : goal.returns-in-None-clause-gathers
returns-in-None-clause-gathers g t c = λ p u s stood.
    let X = g.S.X.BlockHash.block32 in let N = g.N.NameHash.name64 in let told = (g.S.Store.seen c.args.store.now).told in let name = c.name-item.result in
    let more = take (length c.args.names.now - 1) (drop 1 c.args.names.now) in
    let names : name ∷ more ≡ c.args.names.now = first-rest c.args.names.now name c.in-len1-up.len_at_least c.name-item.is in
    let folder = folder-tree X N told p u c.in-Folder.folder (subst (λ x. IsAgreedThing X N told p u x) c.in-Folder.is s) in
    let m = c.in_ok-gather_member.ensures.gathers p folder.0 folder.2 stood in
    let none : child name folder.0 ≡ None = member-nothing X N told p (child name folder.0) (subst (λ o. IsAgreedMember X N told p (child name folder.0) o) c.in-None.is m.0) in
    (met-nothing X N p told c.args.led name more c.args.names.now u folder.0 names folder.1 none, gather-none X N p told c.args.led name more c.args.names.now u folder.0 c.args.cids.now c.gather_member.new.cids names folder.1 none m.1)

pub returns-in-Some-clause-gathers : goal.returns-in-Some-clause-gathers
returns-in-Some-clause-gathers g t c = λ p u s stood.
    let X = g.S.X.BlockHash.block32 in let N = g.N.NameHash.name64 in let a = g.S.Store.seen c.args.store.now in let b = g.S.Store.seen c.gather_member.new.store in let e = g.S.Store.seen c.gather.new.store in
    let told = a.told in let name = c.name-item.result in
    let more = take (length c.args.names.now - 1) (drop 1 c.args.names.now) in
    let names : name ∷ more ≡ c.args.names.now = first-rest c.args.names.now name c.in-len1-up.len_at_least c.name-item.is in
    let folder = folder-tree X N told p u c.in-Folder.folder (subst (λ x. IsAgreedThing X N told p u x) c.in-Folder.is s) in
    let calm = c.in_ok-gather_member.ensures.reads.cause.faults in
    let rises = (shown-rises X _ (fault_in c.gather.result) b e c.gather.ensures.reads.cause).faults in
    let front = stood-front a.faults b.faults e.faults calm rises stood in
    let back = stood-back a.faults b.faults e.faults calm stood in
    let same : b.told ≡ told = c.in_ok-gather_member.ensures.reads.told in
    let m = c.in_ok-gather_member.ensures.gathers p folder.0 folder.2 front in
    let found = member-tree X N told p (child name folder.0) c.in-Some.below (subst (λ o. IsAgreedMember X N told p (child name folder.0) o) c.in-Some.is m.0) in
    gather-on X N p told c.args.led name more c.args.names.now u found.0 folder.0 c.args.cids.now c.gather_member.new.cids c.gather.new.cids c.gather.result names folder.1 found.1 m.1
    (subst (λ told. Gathers X N told p more found.0 (at (c.args.led + 1) more found.0) c.gather_member.new.cids c.gather.new.cids c.gather.result) same
    (c.gather.ensures.gathers p found.0 (subst (λ told. IsAgreedThing X N told p found.0 c.in-Some.below) (sym same) found.2) back))

pub returns-in-Some-clause-reads : goal.returns-in-Some-clause-reads
returns-in-Some-clause-reads g t c =
    let X = g.S.X.BlockHash.block32 in let N = g.N.NameHash.name64 in let a = g.S.Store.seen c.args.store.now in let e = g.S.Store.seen c.gather.new.store in let folder = c.in-Folder.folder.cid in
    let below = subst (λ o. IfSome o (IsRequired X folder)) c.in-Some.is c.in_ok-gather_member.ensures.required in
    subst (λ x. OnlyReads X (IsBadUnder X N x) (fault_in c.gather.result) a e) (sym c.in-Folder.is)
    (reads-reads c.in_ok-gather_member.ensures.reads (reads-by (IsBadOnPath X N folder) (under-bad X N folder c.in-Some.below below) c.gather.ensures.reads))
