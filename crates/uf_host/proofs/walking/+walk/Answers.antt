use Rattle.std.proofs.Common.{◌≡◌, ℕ, ◌+◌, ◌-◌, suc, List, [], ◌∷◌, ◌++◌, append_assoc, take, drop, None, Ok, Err, refl, subst, sym, ap, ◌∙◌, arith}
use Rattle.std.specs.Prelude.{IsTrue, OnErr}
use Rattle.std.proofs.lemmas.Result.{err_from_is_err_and}
use Rattle.uf_edge.specs.Host.{HostTold, IsAbsentAt, IsFileAt, front}
use Rattle.uf_shard.specs.Answers.{Gives}
use Rattle.uf_store.specs.Among.{SavesAmong}
use Rattle.uf_store.specs.Keeping.{Holds}
use Rattle.uf_store.proofs.Calls.{saves-saves}
use Rattle.uf_shard.proofs.Saves.{saves-none}
use Rattle.uf_tree.specs.Metas.{none}
use Rattle.uf_tree.specs.Names.{is_name}
use Rattle.uf_tree.specs.Nodes.{Named}
use Rattle.uf_tree.specs.declared.meta.Meta.{Meta}
use Rattle.uf_tree.specs.declared.nodes.Entry.{Entry}
use Rattle.uf_tree.specs.DirPlan.{own_plan}
use Rattle.uf_tree.specs.TreePlan.{dir_refusal}
use Rattle.uf_tree.specs.Validity.{IsDirectory}
use Rattle.uf_tree.specs.declared.profile.Profile.{Profile}
use Rattle.uf_host.specs.Adding.{AddsMember, IsOfMembers, IsRefusal, IsSaid, SavesReadAt, SavesReadIn}
use Rattle.uf_host.specs.HostTree.{each_member, member_at, walk_down}
use Rattle.uf_host.specs.Reading.{AddsFile, SavesFileAt}
use Rattle.uf_host.specs.declared.fault.HostFault.TheVariants.{TooDeep}
use Rattle.uf_host.proofs.Folders.{directory-of}
use Rattle.uf_host.proofs.Saids.{directory-saves, memory-stop}
use Rattle.uf_host.proofs.Stops.{file-stops, nothing-read, saves-first, saves-folder, saves-front, saves-members, saves-whole, unread}
use Rattle.uf_host.proofs.Walks.{absent-said, cut-at, deep-said, file-below, folder-below, folder-refused, member-refused, members-fault, members-more, members-none, members-refused, next-at, row-added}
use Rattle.uf_host.proofs.walking.+walk.Goals as goal

pub add_at-returns-clause-adds : goal.add_at-returns-clause-adds
add_at-returns-clause-adds g t c =
    row-added g.S.X.BlockHash.block32 g.N.NameHash.name64 c.args.import.now.profile (g.S.Store.seen c.args.store.now).told (g.S.Store.seen c.add_below.new.store).told (g.W.Host.tree c.args.host.now) c.args.levels c.args.site.now
    c.args.import.now.rows c.add_below.new.import.rows c.put_row.new.import.rows c.in_ok-entry.entry c.in_ok-entry.ensures.adds c.in_ok-put_row.ensures.rows

pub add_below-returns-in-File-clause-adds : goal.add_below-returns-in-File-clause-adds
add_below-returns-in-File-clause-adds g t c =
    let X = g.S.X.BlockHash.block32 in let p = c.args.import.now.profile in let before = (g.S.Store.seen c.args.store.now).told in let told = (g.S.Store.seen c.add_file.new.store).told in
    let host = g.W.Host.tree c.args.host.now in let path = c.args.site.now.path in
    file-below X g.N.NameHash.name64 p before told host c.args.levels c.args.site.now c.args.import.now.rows c.add_file.new.import.rows c.add_file.result
    (subst (λ (q : List ℕ). IsFileAt host q) c.as_str.ensures c.in-File.ensures.kind) c.add_file.ensures.rows
    (subst (λ (h : HostTold). AddsFile X p before told h path c.add_file.result) c.in-File.ensures.told c.add_file.ensures.file)

pub add_below-returns-in-Absent-clause-adds : goal.add_below-returns-in-Absent-clause-adds
add_below-returns-in-Absent-clause-adds g t c =
    let host = g.W.Host.tree c.args.host.now in
    absent-said g.S.X.BlockHash.block32 g.N.NameHash.name64 c.args.import.now.profile host c.args.levels c.args.site.now.path
    (subst (λ (q : List ℕ). IsAbsentAt host q) c.as_str.ensures c.in-Absent.ensures.kind)

pub add_folder-returns-then-levels-eq0-clause-adds : goal.add_folder-returns-then-levels-eq0-clause-adds
add_folder-returns-then-levels-eq0-clause-adds g t c =
    let X = g.S.X.BlockHash.block32 in let N = g.N.NameHash.name64 in let p = c.args.import.now.profile in
    let host = g.W.Host.tree c.args.host.now in let path = c.args.site.now.path in
    subst (λ (q : List ℕ). IsSaid host (λ tree. walk_down X N p tree c.args.levels path) (Err (TooDeep q))) (sym c.in_ok-copy.ensures)
    (deep-said X N p host c.args.levels path c.if-levels-eq0.true c.requires.folder)

pub add_folder-returns-in_err-pairs-clause-adds : goal.add_folder-returns-in_err-pairs-clause-adds
add_folder-returns-in_err-pairs-clause-adds g t c =
    let X = g.S.X.BlockHash.block32 in let N = g.N.NameHash.name64 in let p = c.args.import.now.profile in
    let host = g.W.Host.tree c.args.host.now in let path = c.args.site.now.path in let names = c.in_ok-names.names in
    let f = c.in_err-pairs.field-0.0 in
    let out = err_from_is_err_and c.from_residual-in_err-pairs.result c.from_residual-in_err-pairs.ensures.1 in
    let one : c.args.levels ≡ suc (c.args.levels - 1) = omega (arith, c.if-levels-eq0.false) in
    rw (out.1, out.2) (members-refused X N p host c.args.levels (c.args.levels - 1) path names f one c.requires.folder c.in_ok-names.ensures.names
    (subst (λ (h : HostTold). IsRefusal h (λ tree. each_member (walk_down X N p tree (c.args.levels - 1)) path names) f) c.in_ok-names.ensures.told c.in_err-pairs.ensures.adds))

pub add_folder-build-requires-clause-directory : goal.add_folder-build-requires-clause-directory
add_folder-build-requires-clause-directory g t c =
    let X = g.S.X.BlockHash.block32 in let N = g.N.NameHash.name64 in let p = c.args.import.now.profile in
    let of = c.in_ok-pairs.ensures.adds in
    subst IsDirectory (sym of.is) (directory-of X N p (record { size = g.met.S.X.BlockHash.size; are_bytes = g.met.S.X.BlockHash.are_bytes }) c.args.import.now.cut
    (g.S.Store.seen c.add_members.new.store).told of.members c.in_ok-names.names of.are_named c.in_ok-names.ensures.names.ascend of.each)

pub add_folder-returns-in_err-entry-clause-adds : goal.add_folder-returns-in_err-entry-clause-adds
add_folder-returns-in_err-entry-clause-adds g t c =
    let X = g.S.X.BlockHash.block32 in let N = g.N.NameHash.name64 in let p = c.args.import.now.profile in
    let host = g.W.Host.tree c.args.host.now in let names = c.in_ok-names.names in let l = c.in_ok-pairs.pairs in
    let a = (g.S.Store.seen c.add_members.new.store).told in let below = c.args.levels - 1 in let why = c.in_err-entry.field-0.0 in
    let rows = c.args.import.now.rows in let rows_now = c.add_members.new.import.rows in let site = c.args.site.now in
    let out = err_from_is_err_and c.from_residual-in_err-entry.result c.from_residual-in_err-entry.ensures.1 in
    let one : c.args.levels ≡ suc below = omega (arith, c.if-levels-eq0.false) in
    rw (out.1, out.2) (folder-refused X N p (g.S.Store.seen c.args.store.now).told a host c.args.levels below site names rows rows_now l why one c.requires.folder c.in_ok-names.ensures.names
    (subst (λ (h : HostTold). IsOfMembers X N p (g.S.Store.seen c.args.store.now).told a h below site names rows rows_now l) c.in_ok-names.ensures.told c.in_ok-pairs.ensures.adds)
    (subst (λ (q : Profile). Gives (dir_refusal X N q none l) (own_plan X N q none l).entry (Err why)) c.in_ok-pairs.ensures.profile
    (subst (λ (m : Meta). Gives (dir_refusal X N c.add_members.new.import.profile m l) (own_plan X N c.add_members.new.import.profile m l).entry (Err why)) c.none-bare.ensures c.in_err-entry.ensures.answer)))

pub add_folder-returns-in_err-entry-clause-saves : goal.add_folder-returns-in_err-entry-clause-saves
add_folder-returns-in_err-entry-clause-saves g t c =
    let out = err_from_is_err_and c.from_residual-in_err-entry.result c.from_residual-in_err-entry.ensures.1 in
    rw (out.1, out.2) (saves-saves c.in_ok-pairs.ensures.saves
    (directory-saves Entry Entry g.S.X.BlockHash.block32 c.in_err-entry.field-0.0 (g.S.Store.seen c.add_members.new.store) (g.S.Store.seen c.build.new.store) c.in_err-entry.ensures.cause c.in_err-entry.ensures.good c.in_err-entry.ensures.saves))

pub add_folder-returns-clause-adds : goal.add_folder-returns-clause-adds
add_folder-returns-clause-adds g t c =
    let X = g.S.X.BlockHash.block32 in let N = g.N.NameHash.name64 in let p = c.args.import.now.profile in
    let host = g.W.Host.tree c.args.host.now in let names = c.in_ok-names.names in let l = c.in_ok-pairs.pairs in
    let a = (g.S.Store.seen c.add_members.new.store).told in let b = (g.S.Store.seen c.build.new.store).told in
    let below = c.args.levels - 1 in let e = c.in_ok-entry.entry in
    let rows = c.args.import.now.rows in let rows_now = c.add_members.new.import.rows in let site = c.args.site.now in
    let one : c.args.levels ≡ suc below = omega (arith, c.if-levels-eq0.false) in
    folder-below X N p (g.S.Store.seen c.args.store.now).told a b host c.args.levels below site names rows rows_now l e one c.requires.folder c.in_ok-names.ensures.names c.in_ok-entry.ensures.good
    (subst (λ (h : HostTold). IsOfMembers X N p (g.S.Store.seen c.args.store.now).told a h below site names rows rows_now l) c.in_ok-names.ensures.told c.in_ok-pairs.ensures.adds)
    (subst (λ (q : Profile). Gives (dir_refusal X N q none l) (own_plan X N q none l).entry (Ok e)) c.in_ok-pairs.ensures.profile
    (subst (λ (m : Meta). Gives (dir_refusal X N c.add_members.new.import.profile m l) (own_plan X N c.add_members.new.import.profile m l).entry (Ok e)) c.none-bare.ensures c.in_ok-entry.ensures.answer))
    (subst (λ (q : Profile). Holds b (own_plan X N q none l).blocks) c.in_ok-pairs.ensures.profile
    (subst (λ (m : Meta). Holds b (own_plan X N c.add_members.new.import.profile m l).blocks) c.none-bare.ensures c.in_ok-entry.ensures.held))
    (subst (λ (q : Profile). SavesAmong X (own_plan X N q none l).blocks a b) c.in_ok-pairs.ensures.profile
    (subst (λ (m : Meta). SavesAmong X (own_plan X N c.add_members.new.import.profile m l).blocks a b) c.none-bare.ensures c.build.ensures.no_other))

pub add_folder-returns-clause-saves : goal.add_folder-returns-clause-saves
add_folder-returns-clause-saves g t c = saves-saves {f = None} c.in_ok-pairs.ensures.saves
    (record { cause = c.in_ok-entry.ensures.cause; good = c.in_ok-entry.ensures.good; saves = c.in_ok-entry.ensures.saves })

pub add_member-returns-in_err-entry-clause-adds : goal.add_member-returns-in_err-entry-clause-adds
add_member-returns-in_err-entry-clause-adds g t c =
    let site = c.args.site.now in let name = c.args.name.now in
    let out = err_from_is_err_and c.from_residual-in_err-entry.result c.from_residual-in_err-entry.ensures.1 in
    rw (out.1, out.2) (member-refused g.S.X.BlockHash.block32 g.N.NameHash.name64 c.args.import.now.profile (g.W.Host.tree c.args.host.now) c.args.levels site c.in_ok-member.member name c.in_err-entry.field-0.0
    (c.in_ok-member.ensures.path ∙ ap (λ (n : List ℕ). front site.path ++ n) c.as_str.ensures)
    (subst (λ (n : List ℕ). IsTrue (is_name n)) c.as_str-2.ensures c.in_ok-name.ensures.name.1) c.in_err-entry.ensures.adds)

pub add_members-loop-at-init : goal.add_members-loop-at-init
add_members-loop-at-init g t c =
    let X = g.S.X.BlockHash.block32 in let N = g.N.NameHash.name64 in let p = c.args.import.now.profile in
    let host = g.W.Host.tree c.args.host.now in let told = (g.S.Store.seen c.args.store.now).told in let rows = c.args.import.now.rows in
    record {
      of = subst (λ (l : List Named). IsOfMembers X N p told told host c.args.levels c.args.site.now [] rows rows l) (sym c.new-pairs.ensures) (members-none X N p host c.args.levels c.args.site.now told rows);
      profile = refl;
      saves = saves-none (g.S.Store.seen c.args.store.now);
      told = refl;
      reads = refl;
      writes = refl;
    }

pub add_members-returns-in_err-pair-clause-adds : goal.add_members-returns-in_err-pair-clause-adds
add_members-returns-in_err-pair-clause-adds g t c =
    let X = g.S.X.BlockHash.block32 in let N = g.N.NameHash.name64 in let p = c.args.import.now.profile in
    let host = g.W.Host.tree c.args.host.now in let site = c.args.site.now in let levels = c.args.levels in
    let listed = c.as_slice-listed.result.now in let at = c.loop-at.at in let name = c.index-listed-at.result in let f = c.in_err-pair.field-0.0 in
    let out = err_from_is_err_and c.from_residual.result c.from_residual.ensures.1 in
    rw (out.1, out.2) (members-fault X N p host levels site (g.S.Store.seen c.args.store.now).told (g.S.Store.seen c.loop-at.store).told (take at listed) (drop (at + 1) listed) c.args.names.now name c.args.import.now.rows c.loop-at.import.rows c.loop-at.pairs f
    (sym c.as_slice-listed.ensures ∙ cut-at listed at name c.loop-at-test.true c.index-listed-at.is) c.loop-at.invariant.of
    (subst (λ (h : HostTold). IsRefusal h (λ tree. member_at (walk_down X N p tree levels) site.path name) f) c.loop-at.invariant.told
    (subst (λ (q : Profile). IsRefusal (g.W.Host.tree c.loop-at.host) (λ tree. member_at (walk_down X N q tree levels) site.path name) f) c.loop-at.invariant.profile c.in_err-pair.ensures.adds)))

pub add_members-returns-in_err-pair-clause-saves : goal.add_members-returns-in_err-pair-clause-saves
add_members-returns-in_err-pair-clause-saves g t c =
    let out = err_from_is_err_and c.from_residual.result c.from_residual.ensures.1 in
    rw (out.1, out.2) (saves-saves c.loop-at.invariant.saves c.in_err-pair.ensures.saves)

pub add_members-returns-in_err-push-clause-saves : goal.add_members-returns-in_err-push-clause-saves
add_members-returns-in_err-push-clause-saves g t c =
    let out = err_from_is_err_and c.from_residual-in_err-push.result c.from_residual-in_err-push.ensures.1 in
    rw (out.1, out.2) (memory-stop g.S.X.BlockHash.block32 (g.S.Store.seen c.args.store.now) (g.S.Store.seen c.add_member.new.store)
    (saves-saves {f = None} c.loop-at.invariant.saves c.in_ok-pair.ensures.saves))

pub add_members-loop-at-preserved : goal.add_members-loop-at-preserved
add_members-loop-at-preserved g t c =
    let X = g.S.X.BlockHash.block32 in let N = g.N.NameHash.name64 in let p = c.args.import.now.profile in
    let host = g.W.Host.tree c.args.host.now in let site = c.args.site.now in let levels = c.args.levels in
    let listed = c.as_slice-listed.result.now in let at = c.loop-at.at in let name = c.index-listed-at.result in let e = c.in_ok-pair.pair in
    let a = (g.S.Store.seen c.loop-at.store).told in let b = (g.S.Store.seen c.add_member.new.store).told in
    let rows = c.args.import.now.rows in let mid = c.loop-at.import.rows in let rows_now = c.add_member.new.import.rows in
    let adds = subst (λ (h : HostTold). AddsMember X N p a b h levels site name mid rows_now (Ok e)) c.loop-at.invariant.told
    (subst (λ (q : Profile). AddsMember X N q a b (g.W.Host.tree c.loop-at.host) levels site name mid rows_now (Ok e)) c.loop-at.invariant.profile c.in_ok-pair.ensures.adds) in
    let more = members-more X N p host levels site (g.S.Store.seen c.args.store.now).told a b (take at listed) name rows mid rows_now c.loop-at.pairs e c.in_ok-pair.ensures.saves.good c.loop-at.invariant.of adds in
    record {
      of = subst (λ (l : List Named). IsOfMembers X N p (g.S.Store.seen c.args.store.now).told b host levels site (take (at + 1) listed) rows rows_now l) (sym c.in_ok-push.ensures.ok)
          (subst (λ (ns : List (List ℕ)). IsOfMembers X N p (g.S.Store.seen c.args.store.now).told b host levels site ns rows rows_now (c.loop-at.pairs ++ e ∷ [])) (sym (next-at listed at name c.loop-at-test.true c.index-listed-at.is)) more);
      profile = c.in_ok-pair.ensures.profile ∙ c.loop-at.invariant.profile;
      saves = saves-saves {f = None} c.loop-at.invariant.saves c.in_ok-pair.ensures.saves;
      told = c.in_ok-pair.ensures.told ∙ c.loop-at.invariant.told;
      reads = c.in_ok-pair.ensures.reads.still refl ∙ c.loop-at.invariant.reads;
      writes = c.in_ok-pair.ensures.writes ∙ c.loop-at.invariant.writes;
    }

pub add_at-returns-in_err-put_row-clause-no_other : goal.add_at-returns-in_err-put_row-clause-no_other
add_at-returns-in_err-put_row-clause-no_other g t c =
    let X = g.S.X.BlockHash.block32 in let N = g.N.NameHash.name64 in let p = c.args.import.now.profile in
    let adds = c.in_ok-entry.ensures.adds in
    let out = err_from_is_err_and c.from_residual-in_err-put_row.result c.from_residual-in_err-put_row.ensures.1 in
    rw out.1 (saves-whole X N p (g.W.Host.tree c.args.host.now) (g.S.Store.seen c.args.store.now).told (g.S.Store.seen c.add_below.new.store).told c.args.levels c.args.site.now.path adds.0 adds.2 adds.1.no_other)

pub add_below-returns-in-File-clause-no_other : goal.add_below-returns-in-File-clause-no_other
add_below-returns-in-File-clause-no_other g t c =
    let X = g.S.X.BlockHash.block32 in let N = g.N.NameHash.name64 in let p = c.args.import.now.profile in
    let before = (g.S.Store.seen c.args.store.now).told in let told = (g.S.Store.seen c.add_file.new.store).told in
    let host = g.W.Host.tree c.args.host.now in let path = c.args.site.now.path in
    file-stops X N p host before told c.args.levels path c.add_file.result (subst (λ (q : List ℕ). IsFileAt host q) c.as_str.ensures c.in-File.ensures.kind)
    (subst (λ (h : HostTold). OnErr c.add_file.result (SavesFileAt X p before told h path)) c.in-File.ensures.told c.add_file.ensures.no_other)

pub add_below-returns-in_err-copy-in-Other-clause-no_other : goal.add_below-returns-in_err-copy-in-Other-clause-no_other
add_below-returns-in_err-copy-in-Other-clause-no_other g t c =
    unread g.S.X.BlockHash.block32 g.N.NameHash.name64 c.args.import.now.profile (g.W.Host.tree c.args.host.now) c.from_residual.result (g.S.Store.seen c.args.store.now).told c.args.levels c.args.site.now.path

pub add_below-returns-in_ok-copy-in-Other-clause-no_other : goal.add_below-returns-in_ok-copy-in-Other-clause-no_other
add_below-returns-in_ok-copy-in-Other-clause-no_other g t c =
    nothing-read g.S.X.BlockHash.block32 g.N.NameHash.name64 c.args.import.now.profile (g.W.Host.tree c.args.host.now) (g.S.Store.seen c.args.store.now).told c.args.levels c.args.site.now.path

pub add_below-returns-in-Absent-clause-no_other : goal.add_below-returns-in-Absent-clause-no_other
add_below-returns-in-Absent-clause-no_other g t c =
    nothing-read g.S.X.BlockHash.block32 g.N.NameHash.name64 c.args.import.now.profile (g.W.Host.tree c.args.host.now) (g.S.Store.seen c.args.store.now).told c.args.levels c.args.site.now.path

pub add_below-returns-in-Failed-clause-no_other : goal.add_below-returns-in-Failed-clause-no_other
add_below-returns-in-Failed-clause-no_other g t c =
    nothing-read g.S.X.BlockHash.block32 g.N.NameHash.name64 c.args.import.now.profile (g.W.Host.tree c.args.host.now) (g.S.Store.seen c.args.store.now).told c.args.levels c.args.site.now.path

pub add_below-returns-in-Memory-clause-no_other : goal.add_below-returns-in-Memory-clause-no_other
add_below-returns-in-Memory-clause-no_other g t c =
    nothing-read g.S.X.BlockHash.block32 g.N.NameHash.name64 c.args.import.now.profile (g.W.Host.tree c.args.host.now) (g.S.Store.seen c.args.store.now).told c.args.levels c.args.site.now.path

pub add_folder-returns-in_err-copy-clause-no_other : goal.add_folder-returns-in_err-copy-clause-no_other
add_folder-returns-in_err-copy-clause-no_other g t c =
    unread g.S.X.BlockHash.block32 g.N.NameHash.name64 c.args.import.now.profile (g.W.Host.tree c.args.host.now) c.from_residual.result (g.S.Store.seen c.args.store.now).told c.args.levels c.args.site.now.path

pub add_folder-returns-then-levels-eq0-clause-no_other : goal.add_folder-returns-then-levels-eq0-clause-no_other
add_folder-returns-then-levels-eq0-clause-no_other g t c =
    nothing-read g.S.X.BlockHash.block32 g.N.NameHash.name64 c.args.import.now.profile (g.W.Host.tree c.args.host.now) (g.S.Store.seen c.args.store.now).told c.args.levels c.args.site.now.path

pub add_folder-returns-in_err-names-clause-no_other : goal.add_folder-returns-in_err-names-clause-no_other
add_folder-returns-in_err-names-clause-no_other g t c =
    unread g.S.X.BlockHash.block32 g.N.NameHash.name64 c.args.import.now.profile (g.W.Host.tree c.args.host.now) c.from_residual-in_err-names.result (g.S.Store.seen c.args.store.now).told c.args.levels c.args.site.now.path

pub add_folder-returns-in_err-pairs-clause-no_other : goal.add_folder-returns-in_err-pairs-clause-no_other
add_folder-returns-in_err-pairs-clause-no_other g t c =
    let X = g.S.X.BlockHash.block32 in let N = g.N.NameHash.name64 in let p = c.args.import.now.profile in
    let before = (g.S.Store.seen c.args.store.now).told in let told = (g.S.Store.seen c.add_members.new.store).told in
    let host = g.W.Host.tree c.args.host.now in let path = c.args.site.now.path in let names = c.in_ok-names.names in let below = c.args.levels - 1 in
    let out = err_from_is_err_and c.from_residual-in_err-pairs.result c.from_residual-in_err-pairs.ensures.1 in
    let one : c.args.levels ≡ suc below = omega (arith, c.if-levels-eq0.false) in
    rw out.1 (saves-members X N p host before told c.args.levels below path names one c.requires.folder c.in_ok-names.ensures.names
    (subst (λ (h : HostTold). SavesReadIn X N p before told h below path names) c.in_ok-names.ensures.told c.in_err-pairs.ensures.no_other))

pub add_folder-returns-in_err-entry-clause-no_other : goal.add_folder-returns-in_err-entry-clause-no_other
add_folder-returns-in_err-entry-clause-no_other g t c =
    let X = g.S.X.BlockHash.block32 in let N = g.N.NameHash.name64 in let p = c.args.import.now.profile in
    let before = (g.S.Store.seen c.args.store.now).told in
    let host = g.W.Host.tree c.args.host.now in let names = c.in_ok-names.names in let l = c.in_ok-pairs.pairs in
    let a = (g.S.Store.seen c.add_members.new.store).told in let b = (g.S.Store.seen c.build.new.store).told in let below = c.args.levels - 1 in
    let rows = c.args.import.now.rows in let rows_now = c.add_members.new.import.rows in let site = c.args.site.now in
    let out = err_from_is_err_and c.from_residual-in_err-entry.result c.from_residual-in_err-entry.ensures.1 in
    let one : c.args.levels ≡ suc below = omega (arith, c.if-levels-eq0.false) in
    rw out.1 (saves-folder X N p host before a b c.args.levels below site names rows rows_now l one c.requires.folder c.in_ok-names.ensures.names
    (subst (λ (h : HostTold). IsOfMembers X N p before a h below site names rows rows_now l) c.in_ok-names.ensures.told c.in_ok-pairs.ensures.adds)
    (subst (λ (q : Profile). SavesAmong X (own_plan X N q none l).blocks a b) c.in_ok-pairs.ensures.profile
    (subst (λ (m : Meta). SavesAmong X (own_plan X N c.add_members.new.import.profile m l).blocks a b) c.none-bare.ensures c.build.ensures.no_other)))

pub add_member-returns-in_err-member-clause-no_other : goal.add_member-returns-in_err-member-clause-no_other
add_member-returns-in_err-member-clause-no_other g t c =
    unread g.S.X.BlockHash.block32 g.N.NameHash.name64 c.args.import.now.profile (g.W.Host.tree c.args.host.now) c.from_residual.result (g.S.Store.seen c.args.store.now).told c.args.levels (front c.args.site.now.path ++ c.args.name.now)

pub add_member-returns-in_err-name-clause-no_other : goal.add_member-returns-in_err-name-clause-no_other
add_member-returns-in_err-name-clause-no_other g t c =
    unread g.S.X.BlockHash.block32 g.N.NameHash.name64 c.args.import.now.profile (g.W.Host.tree c.args.host.now) c.from_residual-in_err-name.result (g.S.Store.seen c.args.store.now).told c.args.levels (front c.args.site.now.path ++ c.args.name.now)

pub add_member-returns-in_err-entry-clause-no_other : goal.add_member-returns-in_err-entry-clause-no_other
add_member-returns-in_err-entry-clause-no_other g t c =
    let X = g.S.X.BlockHash.block32 in let N = g.N.NameHash.name64 in let p = c.args.import.now.profile in
    let before = (g.S.Store.seen c.args.store.now).told in let told = (g.S.Store.seen c.add_at.new.store).told in let site = c.args.site.now in
    let out = err_from_is_err_and c.from_residual-in_err-entry.result c.from_residual-in_err-entry.ensures.1 in
    rw out.1 (subst (λ (path : List ℕ). SavesReadAt X N p before told (g.W.Host.tree c.args.host.now) c.args.levels path)
    (c.in_ok-member.ensures.path ∙ ap (λ (n : List ℕ). front site.path ++ n) c.as_str.ensures) c.in_err-entry.ensures.no_other)

pub add_members-returns-in_err-pair-clause-no_other : goal.add_members-returns-in_err-pair-clause-no_other
add_members-returns-in_err-pair-clause-no_other g t c =
    let X = g.S.X.BlockHash.block32 in let N = g.N.NameHash.name64 in let p = c.args.import.now.profile in
    let host = g.W.Host.tree c.args.host.now in let site = c.args.site.now in let levels = c.args.levels in
    let listed = c.as_slice-listed.result.now in let at = c.loop-at.at in let name = c.index-listed-at.result in
    let a = (g.S.Store.seen c.loop-at.store).told in let b = (g.S.Store.seen c.add_member.new.store).told in
    let out = err_from_is_err_and c.from_residual.result c.from_residual.ensures.1 in
    rw out.1 (saves-first X N p host (g.S.Store.seen c.args.store.now).told a b levels site (take at listed) (drop (at + 1) listed) c.args.names.now name c.args.import.now.rows c.loop-at.import.rows c.loop-at.pairs
    (sym c.as_slice-listed.ensures ∙ cut-at listed at name c.loop-at-test.true c.index-listed-at.is) c.loop-at.invariant.of
    (subst (λ (h : HostTold). SavesReadAt X N p a b h levels (front site.path ++ name)) c.loop-at.invariant.told
    (subst (λ (q : Profile). SavesReadAt X N q a b (g.W.Host.tree c.loop-at.host) levels (front site.path ++ name)) c.loop-at.invariant.profile c.in_err-pair.ensures.no_other)))

pub add_members-returns-in_err-push-clause-no_other : goal.add_members-returns-in_err-push-clause-no_other
add_members-returns-in_err-push-clause-no_other g t c =
    let X = g.S.X.BlockHash.block32 in let N = g.N.NameHash.name64 in let p = c.args.import.now.profile in
    let host = g.W.Host.tree c.args.host.now in let site = c.args.site.now in let levels = c.args.levels in
    let listed = c.as_slice-listed.result.now in let at = c.loop-at.at in let name = c.index-listed-at.result in let e = c.in_ok-pair.pair in
    let start = (g.S.Store.seen c.args.store.now).told in
    let a = (g.S.Store.seen c.loop-at.store).told in let b = (g.S.Store.seen c.add_member.new.store).told in
    let rows = c.args.import.now.rows in let mid = c.loop-at.import.rows in let rows_now = c.add_member.new.import.rows in
    let adds = subst (λ (h : HostTold). AddsMember X N p a b h levels site name mid rows_now (Ok e)) c.loop-at.invariant.told
    (subst (λ (q : Profile). AddsMember X N q a b (g.W.Host.tree c.loop-at.host) levels site name mid rows_now (Ok e)) c.loop-at.invariant.profile c.in_ok-pair.ensures.adds) in
    let more = members-more X N p host levels site start a b (take at listed) name rows mid rows_now c.loop-at.pairs e c.in_ok-pair.ensures.saves.good c.loop-at.invariant.of adds in
    let out = err_from_is_err_and c.from_residual-in_err-push.result c.from_residual-in_err-push.ensures.1 in
    rw out.1 (saves-front X N p host start b levels site (take at listed ++ name ∷ []) (drop (at + 1) listed) c.args.names.now rows rows_now (c.loop-at.pairs ++ e ∷ [])
    (sym c.as_slice-listed.ensures ∙ cut-at listed at name c.loop-at-test.true c.index-listed-at.is ∙ sym (append_assoc (take at listed) (name ∷ []) (drop (at + 1) listed))) more)
