use Rattle.std.proofs.Common.{◌≡◌, ◌∙◌, ◌+◌, ◌++◌, List, ℕ, drop, Err, Ok, ap, arith, refl, rules, subst, sym}
use Rattle.std.specs.Prelude.{IsTrue}
use Rattle.std.specs.FinMap.Entries.{is_sorted}
use Rattle.std.proofs.lemmas.Result.{err_from_is_err_and}
use Rattle.uf_cid.specs.declared.cid.Cid.{Cid}
use Rattle.uf_edge.specs.Host.{TakesFolder, front}
use Rattle.uf_lenient.specs.Answers.{FollowsReading}
use Rattle.uf_lenient.specs.Denoted.{denotes_within}
use Rattle.uf_lenient.specs.Reading.{shallow_of}
use Rattle.uf_lenient.specs.Steps.{IsInOrder}
use Rattle.uf_lenient.specs.declared.shapes.Shape.{Shape}
use Rattle.uf_store.proofs.Calls.{reads-reads}
use Rattle.uf_store.specs.Contents.{held_at}
use Rattle.uf_store.specs.Seen.{Seen}
use Rattle.uf_tree.specs.Names.{is_name, names_cmp}
use Rattle.uf_tree.specs.Tree.{Tree}
use Rattle.uf_host.specs.Places.{ChangesAt, Puts, places_of}
use Rattle.uf_host.proofs.Members.{PutSome, Went, at_drop, past_drop, some-all, some-kept, some-more, some-next, some-none, some-stopped, went-in, went-more, went-none, went-stopped, went-takes}
use Rattle.uf_host.proofs.Puttings.{empty-made}
use Rattle.uf_host.proofs.Written.{file-puts, folder-changes, folder-puts, folder-there, no-room, puts-stopped, says-of, shape-stops}
use Rattle.uf_host.proofs.putting.+putting.Goals as goal

pub put_members-loop-at-init : goal.put_members-loop-at-init
put_members-loop-at-init g t c = record {
  some = λ t es tells denoted. some-none (held_at t) c.args.export.now.limits c.args.room c.args.folder.now c.args.ways.now es (g.W.Host.tree c.args.host.now) denoted;
  went = went-none c.args.folder.now c.args.ways.now (g.W.Host.tree c.args.host.now) c.requires.sorted;
  shown = search rules;
  reads = refl;
  writes = refl;
}

pub put_members-returns-in_err-path-clause-puts : goal.put_members-returns-in_err-path-clause-puts
put_members-returns-in_err-path-clause-puts g t c = λ t es tells denoted.
    let out = err_from_is_err_and c.from_residual.result c.from_residual.ensures.1 in
    rw (out.1, out.2)
    (tt, some-kept (held_at t) c.args.export.now.limits c.args.room c.args.folder.now (drop c.loop-at.at c.args.ways.now) es (g.W.Host.tree c.args.host.now) (g.W.Host.tree c.loop-at.host) (c.loop-at.invariant.some t es tells denoted))

pub put_members-returns-in_err-path-clause-below : goal.put_members-returns-in_err-path-clause-below
put_members-returns-in_err-path-clause-below g t c = went-in c.args.folder.now (drop c.loop-at.at c.args.ways.now) (g.W.Host.tree c.args.host.now) (g.W.Host.tree c.loop-at.host) c.loop-at.invariant.went

pub put_members-put_tree-requires : goal.put_members-put_tree-requires
put_members-put_tree-requires g t c κs within =
    let left = drop (c.loop-at.at + 1) c.args.ways.now in
    let went = subst (λ (l : List (List ℕ × Cid)). Went c.args.folder.now l (g.W.Host.tree c.args.host.now) (g.W.Host.tree c.loop-at.host)) (at_drop c.args.ways.now c.loop-at.at c.index-ways-at.result c.loop-at-test.true c.index-ways-at.is) c.loop-at.invariant.went in
    let name : c.as_str-in-loop-at.result.now ≡ c.index-ways-at.result.0 = c.as_str-in-loop-at.ensures.value ∙ ap (λ (x : List ℕ × Cid). x.0) c.way.view_is in
    let good : IsTrue (is_name c.index-ways-at.result.0) = subst (λ (n : List ℕ). IsTrue (is_name n)) (ap (λ (x : List ℕ × Cid). x.0) c.way.view_is) c.as_str-in-loop-at.ensures.good in
    let path : c.in_ok-path.path ≡ front c.args.folder.now ++ c.index-ways-at.result.0 = c.in_ok-path.ensures ∙ ap (λ (f : List ℕ). front f ++ c.as_str-in-loop-at.result.now) c.as_str.ensures ∙ ap (λ (n : List ℕ). front c.args.folder.now ++ n) name in (
      search rules,
      (
        within.0,
        (
          within.1.0,
          (
            within.1.1.0,
            (
              within.1.1.1,
              subst (λ (p : List ℕ). TakesFolder (g.W.Host.tree c.loop-at.host) p) (sym path)
                  (went-takes c.args.folder.now c.index-ways-at.result left (g.W.Host.tree c.args.host.now) (g.W.Host.tree c.loop-at.host) c.requires.folder good went),
            ),
          ),
        ),
      ),
    )

pub put_members-returns-in_err-put_tree-clause-puts :
    goal.put_members-returns-in_err-put_tree-clause-puts
put_members-returns-in_err-put_tree-clause-puts g t c = λ t es tells denoted.
    let left = drop (c.loop-at.at + 1) c.args.ways.now in
    let limits = c.args.export.now.limits in
    let some = subst (λ (l : List (List ℕ × Cid)). PutSome (held_at t) limits c.args.room c.args.folder.now l es (g.W.Host.tree c.args.host.now) (g.W.Host.tree c.loop-at.host)) (at_drop c.args.ways.now c.loop-at.at c.index-ways-at.result c.loop-at-test.true c.index-ways-at.is) (c.loop-at.invariant.some t es tells denoted) in
    let n = some-next (held_at t) limits c.args.room c.args.folder.now c.index-ways-at.result left es (g.W.Host.tree c.args.host.now) (g.W.Host.tree c.loop-at.host) some in
    let cid = ap (λ (x : List ℕ × Cid). x.1) c.way.view_is in
    let name : c.as_str-in-loop-at.result.now ≡ c.index-ways-at.result.0 = c.as_str-in-loop-at.ensures.value ∙ ap (λ (x : List ℕ × Cid). x.0) c.way.view_is in
    let path : c.in_ok-path.path ≡ front c.args.folder.now ++ c.index-ways-at.result.0 = c.in_ok-path.ensures ∙ ap (λ (f : List ℕ). front f ++ c.as_str-in-loop-at.result.now) c.as_str.ensures ∙ ap (λ (n : List ℕ). front c.args.folder.now ++ n) name in
    let out = err_from_is_err_and c.from_residual-in_err-put_tree.result c.from_residual-in_err-put_tree.ensures.1 in
    let puts = c.in_err-put_tree.ensures.puts t n.tree (ap (λ (s : Seen). s.told) c.foresee_files.ensures ∙ c.loop-at.invariant.shown.told ∙ tells) (subst (λ (x : Cid). denotes_within (held_at t) limits c.args.room x ≡ Ok n.tree) (sym cid) n.denoted) in
    rw (out.1, out.2)
    (some-stopped (held_at t) limits c.args.room c.args.folder.now c.index-ways-at.result left es (g.W.Host.tree c.args.host.now) (g.W.Host.tree c.loop-at.host) (g.W.Host.tree c.put_tree.new.host) c.in_err-put_tree.field-0.0 n
    (subst (λ (p : List ℕ). Puts (places_of p n.tree) (g.W.Host.tree c.loop-at.host) (g.W.Host.tree c.put_tree.new.host) (Err c.in_err-put_tree.field-0.0)) path puts))

pub put_members-returns-in_err-put_tree-clause-below :
    goal.put_members-returns-in_err-put_tree-clause-below
put_members-returns-in_err-put_tree-clause-below g t c =
    let left = drop (c.loop-at.at + 1) c.args.ways.now in
    let went = subst (λ (l : List (List ℕ × Cid)). Went c.args.folder.now l (g.W.Host.tree c.args.host.now) (g.W.Host.tree c.loop-at.host)) (at_drop c.args.ways.now c.loop-at.at c.index-ways-at.result c.loop-at-test.true c.index-ways-at.is) c.loop-at.invariant.went in
    let name : c.as_str-in-loop-at.result.now ≡ c.index-ways-at.result.0 = c.as_str-in-loop-at.ensures.value ∙ ap (λ (x : List ℕ × Cid). x.0) c.way.view_is in
    let good : IsTrue (is_name c.index-ways-at.result.0) = subst (λ (n : List ℕ). IsTrue (is_name n)) (ap (λ (x : List ℕ × Cid). x.0) c.way.view_is) c.as_str-in-loop-at.ensures.good in
    let path : c.in_ok-path.path ≡ front c.args.folder.now ++ c.index-ways-at.result.0 = c.in_ok-path.ensures ∙ ap (λ (f : List ℕ). front f ++ c.as_str-in-loop-at.result.now) c.as_str.ensures ∙ ap (λ (n : List ℕ). front c.args.folder.now ++ n) name in
    went-stopped c.args.folder.now c.index-ways-at.result left (g.W.Host.tree c.args.host.now) (g.W.Host.tree c.loop-at.host) (g.W.Host.tree c.put_tree.new.host) good went
    (subst (λ (p : List ℕ). ChangesAt p (g.W.Host.tree c.loop-at.host) (g.W.Host.tree c.put_tree.new.host)) path c.put_tree.ensures.below)

pub put_members-returns-in_err-put_tree-clause-shown :
    goal.put_members-returns-in_err-put_tree-clause-shown
put_members-returns-in_err-put_tree-clause-shown g t c =
    let out = err_from_is_err_and c.from_residual-in_err-put_tree.result c.from_residual-in_err-put_tree.ensures.1 in
    rw (out.1, out.2) (reads-reads c.loop-at.invariant.shown (rw c.foresee_files.ensures at c.in_err-put_tree.ensures.shown))

pub put_members-loop-at-preserved : goal.put_members-loop-at-preserved
put_members-loop-at-preserved g t c =
    let left = drop (c.loop-at.at + 1) c.args.ways.now in
    let limits = c.args.export.now.limits in
    let drops = at_drop c.args.ways.now c.loop-at.at c.index-ways-at.result c.loop-at-test.true c.index-ways-at.is in
    let went = subst (λ (l : List (List ℕ × Cid)). Went c.args.folder.now l (g.W.Host.tree c.args.host.now) (g.W.Host.tree c.loop-at.host)) drops c.loop-at.invariant.went in
    let cid = ap (λ (x : List ℕ × Cid). x.1) c.way.view_is in
    let name : c.as_str-in-loop-at.result.now ≡ c.index-ways-at.result.0 = c.as_str-in-loop-at.ensures.value ∙ ap (λ (x : List ℕ × Cid). x.0) c.way.view_is in
    let good : IsTrue (is_name c.index-ways-at.result.0) = subst (λ (n : List ℕ). IsTrue (is_name n)) (ap (λ (x : List ℕ × Cid). x.0) c.way.view_is) c.as_str-in-loop-at.ensures.good in
    let path : c.in_ok-path.path ≡ front c.args.folder.now ++ c.index-ways-at.result.0 = c.in_ok-path.ensures ∙ ap (λ (f : List ℕ). front f ++ c.as_str-in-loop-at.result.now) c.as_str.ensures ∙ ap (λ (n : List ℕ). front c.args.folder.now ++ n) name in
    record {
      some = λ t es tells denoted.
          let some = subst (λ (l : List (List ℕ × Cid)). PutSome (held_at t) limits c.args.room c.args.folder.now l es (g.W.Host.tree c.args.host.now) (g.W.Host.tree c.loop-at.host)) drops (c.loop-at.invariant.some t es tells denoted) in
          let n = some-next (held_at t) limits c.args.room c.args.folder.now c.index-ways-at.result left es (g.W.Host.tree c.args.host.now) (g.W.Host.tree c.loop-at.host) some in
          let puts = c.in_ok-put_tree.ensures.puts t n.tree (ap (λ (s : Seen). s.told) c.foresee_files.ensures ∙ c.loop-at.invariant.shown.told ∙ tells) (subst (λ (x : Cid). denotes_within (held_at t) limits c.args.room x ≡ Ok n.tree) (sym cid) n.denoted) in
          some-more (held_at t) limits c.args.room c.args.folder.now c.index-ways-at.result left es (g.W.Host.tree c.args.host.now) (g.W.Host.tree c.loop-at.host) (g.W.Host.tree c.put_tree.new.host) n
          (subst (λ (p : List ℕ). Puts (places_of p n.tree) (g.W.Host.tree c.loop-at.host) (g.W.Host.tree c.put_tree.new.host) (Ok tt)) path puts);
      went = went-more c.args.folder.now c.index-ways-at.result left (g.W.Host.tree c.args.host.now) (g.W.Host.tree c.loop-at.host) (g.W.Host.tree c.put_tree.new.host) good went
          (subst (λ (p : List ℕ). ChangesAt p (g.W.Host.tree c.loop-at.host) (g.W.Host.tree c.put_tree.new.host)) path c.put_tree.ensures.below);
      shown = reads-reads c.loop-at.invariant.shown (rw c.foresee_files.ensures at c.in_ok-put_tree.ensures.shown);
      reads = c.put_tree.ensures.reads ∙ c.loop-at.invariant.reads;
      writes = c.in_ok-put_tree.ensures.writes.still refl ∙ c.loop-at.invariant.writes;
    }

pub put_members-returns-clause-puts : goal.put_members-returns-clause-puts
put_members-returns-clause-puts g t c = λ t es tells denoted.
    some-all (held_at t) c.args.export.now.limits c.args.room c.args.folder.now es (g.W.Host.tree c.args.host.now) (g.W.Host.tree c.loop-at.host)
    (subst (λ (l : List (List ℕ × Cid)). PutSome (held_at t) c.args.export.now.limits c.args.room c.args.folder.now l es (g.W.Host.tree c.args.host.now) (g.W.Host.tree c.loop-at.host))
    (past_drop c.args.ways.now c.loop-at.at (let past = c.loop-at-test.false in omega arith)) (c.loop-at.invariant.some t es tells denoted))

pub put_members-returns-clause-below : goal.put_members-returns-clause-below
put_members-returns-clause-below g t c = went-in c.args.folder.now (drop c.loop-at.at c.args.ways.now) (g.W.Host.tree c.args.host.now) (g.W.Host.tree c.loop-at.host) c.loop-at.invariant.went

pub put_tree-returns-then-room-eq0-clause-puts : goal.put_tree-returns-then-room-eq0-clause-puts
put_tree-returns-then-room-eq0-clause-puts g t c = λ t tree tells is.
    no-room (held_at t) c.args.export.now.limits c.args.room c.args.cid.now tree (let none = c.if-room-eq0.true in omega arith) is

pub put_tree-returns-in_err-shallow-clause-puts : goal.put_tree-returns-in_err-shallow-clause-puts
put_tree-returns-in_err-shallow-clause-puts g t c = λ t tree tells is.
    let out = err_from_is_err_and c.from_residual.result c.from_residual.ensures.1 in
    let says = says-of (g.S.Store.seen c.args.store.now).told t (λ t. FollowsReading (λ (s : Shape). s) (shallow_of (held_at t) c.args.export.now.limits c.args.cid.now) (Err c.in_err-shallow.field-0.0)) tells c.in_err-shallow.ensures.says in
    rw (out.1, out.2)
    (puts-stopped (places_of c.args.path.now tree) (g.W.Host.tree c.args.host.now) (g.W.Host.tree c.args.host.now) _
    (shape-stops (held_at t) c.args.export.now.limits c.args.room c.args.cid.now tree c.in_err-shallow.field-0.0 (let some = c.if-room-eq0.false in omega arith) is says) refl)

pub put_tree-put_members-requires : goal.put_tree-put_members-requires
put_tree-put_members-requires g t c κs within =
    let order = subst IsInOrder c.in-Folder.is c.in_ok-shallow.ensures.order in (
      omega (arith, c.if-room-eq0.false),
      (
        within.0,
        (
          within.1.0,
          (
            within.1.1.0,
            (
              within.1.1.1,
              (
                subst (λ (l : List (List ℕ × Cid)). IsTrue (is_sorted names_cmp l)) (sym c.as_slice.ensures) order,
                empty-made (g.W.Host.tree c.args.host.now) (g.W.Host.tree c.make_folder.new.host) c.args.path.now c.in_ok-make_folder-in-Folder.ensures.named (g.met.W.Host.rooted c.args.host.now) c.requires c.in_ok-make_folder-in-Folder.ensures.makes,
              ),
            ),
          ),
        ),
      ),
    )

pub put_tree-returns-in-File-clause-puts : goal.put_tree-returns-in-File-clause-puts
put_tree-returns-in-File-clause-puts g t c = λ t tree tells is.
    let says = says-of (g.S.Store.seen c.args.store.now).told t (λ t. FollowsReading (λ (s : Shape). s) (shallow_of (held_at t) c.args.export.now.limits c.args.cid.now) (Ok c.in_ok-shallow.field-0)) tells c.in_ok-shallow.ensures.says in
    file-puts (held_at t) c.args.export.now.limits c.args.room c.args.cid.now tree c.in_ok-shallow.field-0 c.in-File.field-0 c.args.path.now (g.W.Host.tree c.args.host.now) (g.W.Host.tree c.put_file.new.host) c.put_file.result (let some = c.if-room-eq0.false in omega arith) is says c.in-File.is
    (λ bytes file. c.put_file.ensures.puts t bytes (c.in_ok-shallow.ensures.told ∙ tells) file)

pub put_tree-returns-in_ok-make_folder-in-Folder-clause-puts :
    goal.put_tree-returns-in_ok-make_folder-in-Folder-clause-puts
put_tree-returns-in_ok-make_folder-in-Folder-clause-puts g t c = λ t tree tells is.
    let says = says-of (g.S.Store.seen c.args.store.now).told t (λ t. FollowsReading (λ (s : Shape). s) (shallow_of (held_at t) c.args.export.now.limits c.args.cid.now) (Ok c.in_ok-shallow.field-0)) tells c.in_ok-shallow.ensures.says in
    let f = folder-there (held_at t) c.args.export.now.limits c.args.room c.args.cid.now tree c.in_ok-shallow.field-0 c.in-Folder.field-0 c.in-Folder.ways c.as_slice.result.now (let some = c.if-room-eq0.false in omega arith) is says c.in-Folder.is c.as_slice.ensures in
    subst (λ (u : Tree). Puts (places_of c.args.path.now u) (g.W.Host.tree c.args.host.now) (g.W.Host.tree c.put_members.new.host) c.put_members.result) f.is
    (folder-puts c.args.path.now f.es (g.W.Host.tree c.args.host.now) (g.W.Host.tree c.make_folder.new.host) (g.W.Host.tree c.put_members.new.host) c.put_members.result c.in_ok-make_folder-in-Folder.ensures.makes
    (c.put_members.ensures.puts t f.es (c.in_ok-shallow.ensures.told ∙ tells) f.denoted))

pub put_tree-returns-in_ok-make_folder-in-Folder-clause-below :
    goal.put_tree-returns-in_ok-make_folder-in-Folder-clause-below
put_tree-returns-in_ok-make_folder-in-Folder-clause-below g t c =
    folder-changes c.args.path.now (g.W.Host.tree c.args.host.now) (g.W.Host.tree c.make_folder.new.host) (g.W.Host.tree c.put_members.new.host) c.in_ok-make_folder-in-Folder.ensures.makes c.put_members.ensures.below
