-- Files and directories with other metadata, over calls in a row.
use Rattle.std.proofs.Common.{◌≡◌, ℕ, ◌<◌, ◌≤◌, ◌^◌, List, [], ◌∷◌, refl, ap, sym, ◌∙◌, subst, arith, inl, inr, Bool, true, cond, Option, Some, None, Result, Ok, Err, map}
use Rattle.std.specs.List.{AllByRecursion}
use Rattle.std.specs.Prelude.{IsTrue}
use Rattle.uf_cid.specs.Blocks.{Held}
use Rattle.uf_cid.specs.declared.cid.Cid.{Cid}
use Rattle.uf_edge.specs.Counts.{Stood}
use Rattle.uf_fileread.specs.Bad.{IsBadRoot}
use Rattle.uf_fileread.specs.declared.size.FileSize.{FileSize}
use Rattle.uf_fileread.specs.Ranges.{IsFile}
use Rattle.uf_fileedit.specs.Touches.{BlamedAfter}
use Rattle.uf_store.specs.declared.store.Role.{Role}
use Rattle.uf_store.specs.declared.store.Role.TheVariants.{Directory, Shard, FileNode, Leaf}
use Rattle.uf_store.specs.declared.store.StoreFault.{StoreFault}
use Rattle.uf_store.specs.declared.store.StoreFault.TheVariants.{Failed, Damaged, Missing, BadBlock, Clash, Memory}
use Rattle.uf_store.specs.Calls.{Calm, OnlySaves}
use Rattle.uf_store.specs.Contents.{Told}
use Rattle.uf_store.specs.Keeping.{Agrees, KeepsGood, StaysAgreed}
use Rattle.uf_store.specs.Lost.{AgreesAfter, IsLossOf, ReadsOver}
use Rattle.uf_store.specs.Faults.{Shown}
use Rattle.uf_store.specs.Seen.{Seen}
use Rattle.uf_store.specs.Writing.{SavesOnly}
use Rattle.uf_store.proofs.Calls.{saves-by}
use Rattle.uf_shard.specs.Answers.{AtCollision, GivesOver, Shown as ShownDir, dir_fault}
use Rattle.uf_shard.specs.declared.fault.DirFault.{DirFault}
use Rattle.uf_shard.specs.declared.fault.DirFault.TheVariants as dir
use Rattle.uf_tree.specs.declared.meta.Meta.{Meta}
use Rattle.uf_tree.specs.declared.nodes.Entry.{Entry}
use Rattle.uf_tree.specs.declared.profile.Profile.{Profile}
use Rattle.uf_tree.specs.DirPlan.{is_sharded}
use Rattle.uf_tree.specs.FilePlan.{file_plan}
use Rattle.uf_tree.specs.Metas.{is_meta}
use Rattle.uf_tree.specs.Nodes.{Named}
use Rattle.uf_tree.specs.Roots.{dir_root, root_over}
use Rattle.uf_tree.specs.Tree.{Tree, File, Dir, Entries, entries, fold, meta_of, own_meta, pairs}
use Rattle.uf_tree.specs.TreePlan.{Refusal, blocks, collision, dir_refusal, entry, named_entries, or_else, planned, refusal, too_big}
use Rattle.uf_tree.specs.Validity.{IsHash}
use Rattle.uf_tree.proofs.TreeLaws.{meta-entries, pairs-entries}
use Rattle.uf_dir.specs.Bad as dirs
use Rattle.uf_dir.specs.Bad.{BlamesOnly}
use Rattle.uf_dir.specs.Planned.{IsPlanned, dir_entry, own_blocks}
use Rattle.uf_dir.specs.Roots.{IsNoRoot}
use Rattle.uf_plain.specs.declared.reply.Stat.{Stat}
use Rattle.uf_plain.specs.declared.rule.Refused.TheVariants as why
use Rattle.uf_plain.specs.Metas.{with_meta}
use Rattle.uf_plain.specs.Replies.{stat_of}
use Rattle.uf_plain.specs.Rules.{unless}
use Rattle.uf_plain.proofs.Kept.{tree-meta}
use Rattle.uf_plain.proofs.Plans.{Each, none-first}
use Rattle.uf_mfs.specs.declared.fault.Stop.{Stop}
use Rattle.uf_mfs.specs.declared.fault.Stop.TheVariants as stop
use Rattle.uf_mfs.specs.declared.thing.FolderRoot.{FolderRoot}
use Rattle.uf_mfs.specs.declared.thing.Thing.{Thing}
use Rattle.uf_mfs.specs.declared.thing.Thing.TheVariants.{File as FileAt, Folder as FolderAt}
use Rattle.uf_mfs.specs.Answers.{MeetsOr, stop_of}
use Rattle.uf_mfs.specs.Bad.{IsBad, IsBadInTree, IsRequired, RequiresDirectory, AtRoot}
use Rattle.uf_mfs.specs.Moving.{entry_in}
use Rattle.uf_mfs.specs.Remade.{GivesRemade, IsBadRemadeIn}
use Rattle.uf_mfs.specs.Standing.{IsAfter, IsAgreed, IsAgreedThing, IsPlanOf}
use Rattle.uf_mfs.specs.Steps.{stop_fault}
use Rattle.uf_mfs.specs.Touches.{CountsUp, unseen}
use Rattle.uf_mfs.specs.Writes.{IsFileOver}
use Rattle.uf_mfs.proofs.After.{after-kept, after-wider, loss-among, stays-some}
use Rattle.uf_mfs.proofs.Agreed.{Own, members-own}
use Rattle.uf_mfs.proofs.Files as files
use Rattle.uf_mfs.proofs.Files.{root-in, rooted}
use Rattle.uf_mfs.proofs.Hinge.{are-good}
use Rattle.uf_mfs.proofs.Holding.{agrees-among}
use Rattle.uf_mfs.proofs.Judging.{bad-below, root-bad, shown-at}
use Rattle.uf_mfs.proofs.Moving.{folder-after, members-after, own-dir, own-refusal, plan-from}
use Rattle.uf_mfs.proofs.Planning.{planned-of, root-among}
use Rattle.uf_mfs.proofs.Remade.{tree-with-meta}
use Rattle.uf_mfs.proofs.Rewriting.{over-agrees, over-file}
use Rattle.uf_mfs.proofs.Shifting.{thing-plan}

-- ---- the count of touches

pub blamed-counts : (f : StoreFault) (t0 t1 : ℕ) → BlamedAfter f t0 t1 → CountsUp (Some f) t0 t1
blamed-counts Failed t0 t1 h = record { kept = h; risen = λ x. absurd x }
blamed-counts (Damaged c) t0 t1 h = record { kept = h; risen = λ x. absurd x }
blamed-counts (Missing c) t0 t1 h = record { kept = h; risen = λ x. absurd x }
blamed-counts (BadBlock c role) t0 t1 h = record { kept = omega (arith, h); risen = λ x. h }
blamed-counts (Clash c other bytes) t0 t1 h = record { kept = h; risen = λ x. absurd x }
blamed-counts Memory t0 t1 h = record { kept = h; risen = λ x. absurd x }

module _ (X : List ℕ → List ℕ) (N : List ℕ → ℕ) (p : Profile) where
  -- ---- a file

  -- a loss that may come, whatever the tree is
  pub lost-remade : (a c : Told) (m : Meta) (t : Tree) (f : StoreFault) → IsLossOf a (blocks X N p t) f → GivesRemade X N p a c m t (Err (stop.Store f))
  lost-remade a c m t f h = by (refusal X N p (with_meta m t))
    where
      by : (o : Option Refusal) → MeetsOr (IsLossOf a (blocks X N p t)) (λ u e. IsAfter X N a c (blocks X N p t) p e u) (unless (with_meta m t) o) (Err (stop.Store f))
      by None = h
      by (Some x) = h

  -- a tree that has a plan
  made-remade : (a c : Told) (m : Meta) (t : Tree) (e : Entry) → IsAfter X N a c (blocks X N p t) p e (with_meta m t) → GivesRemade X N p a c m t (Ok e)
  made-remade a c m t e h =
      subst (λ o. MeetsOr (IsLossOf a (blocks X N p t)) (λ u e. IsAfter X N a c (blocks X N p t) p e u) (unless (with_meta m t) o) (Ok e)) (sym h.plan.planned) h

  module _ (a c : Seen) (e : Entry) (m k : Meta) (b : List ℕ) (s : IsAgreed X N a.told p e (File m b)) (stays : StaysAgreed a.told c.told (blocks X N p (File m b))) (calm : Calm a c) where
    over : IsFileOver X N p a c e m b
    over = record { plan = s.plan; stays = stays; calm = calm }

    abbrev height : ℕ
    height = (rooted X p m b s.plan.profile).0

    is_file : IsFile X p m b e.cid height
    is_file = over-file X N p a c e m b height over (rooted X p m b s.plan.profile).1.least

    pub file-made : (new : Entry) → IsTrue (is_meta k)
        → ((p : Profile) (m : Meta) (b : List ℕ) (height : ℕ) → IsFile X p m b e.cid height → e ≡ (file_plan X p m b).entry → Agrees a.told (file_plan X p m b).blocks → Stood a.faults c.faults → Stood a.clashes c.clashes
        → ReadsOver a.told (root_over X p.chunk p.width m height b ∷ []) (file_plan X p k b).entry (Ok new))
        → ((p : Profile) (m : Meta) (b : List ℕ) (height : ℕ) → IsFile X p m b e.cid height → e ≡ (file_plan X p m b).entry → StaysAgreed a.told c.told (file_plan X p m b).blocks
        → AgreesAfter a.told c.told (file_plan X p m b).blocks (file_plan X p k b).blocks)
        → GivesRemade X N p a.told c.told k (File m b) (Ok new)
    unfolding planned fold
    file-made new good value after = made-remade a.told c.told k (File m b) new (record {
      plan = record {
        profile = s.plan.profile;
        tree = tree-with-meta k (File m b) good s.plan.tree;
        planned = s.plan.planned;
        is = value p m b height is_file s.plan.is (over-agrees X N p a c e m b over) calm.faults calm.clashes;
      };
      after = after p m b height is_file s.plan.is stays;
    })

    pub file-stopped : (f : StoreFault)
        → ((p : Profile) (m : Meta) (b : List ℕ) (height : ℕ) → IsFile X p m b e.cid height → e ≡ (file_plan X p m b).entry → Agrees a.told (file_plan X p m b).blocks → Stood a.faults c.faults → Stood a.clashes c.clashes
        → ReadsOver a.told (root_over X p.chunk p.width m height b ∷ []) (file_plan X p k b).entry (Err f))
        → GivesRemade X N p a.told c.told k (File m b) (Err (stop.Store f))
    unfolding planned fold
    file-stopped f value = lost-remade a.told c.told k (File m b) f
        (loss-among a.told (files.root X N p e m b s.plan ∷ []) (blocks X N p (File m b)) f (λ P h. root-in X N p e m b s.plan P h) (value p m b height is_file s.plan.is (over-agrees X N p a c e m b over) calm.faults calm.clashes))

  -- ---- a directory

  module _ (hash : IsHash X) (fits : (name : List ℕ) → N name < 2 ^ 64) (a c : Told) (e : Entry) (k : Meta) (es : Entries) (plan : IsPlanOf X N p e (Dir es)) (stays : StaysAgreed a c (blocks X N p (Dir es))) where
    abbrev new_es : Entries
    new_es = entries k (pairs es)

    abbrev l : List Named
    l = named_entries X N p es

    same-names : named_entries X N p new_es ≡ l
    same-names = ap (λ (l : List (List ℕ × Tree)). map (λ (x : List ℕ × Tree). (x.0, entry X N p x.1)) l) (pairs-entries k (pairs es))

    each-own : Each (Own X N p) (pairs new_es)
    each-own = subst (Each (Own X N p)) (sym (pairs-entries k (pairs es))) (members-own X N p e es plan)

    -- its names are those of a directory that has a plan
    no-twins : (b : Bool) (o other : Option Refusal) → or_else (cond b o None) other ≡ None → cond b o None ≡ None
    no-twins b o other h = none-first _ _ h

    alone : dir_refusal X N p k l ≡ too_big (dir_entry X N p k l).tsize
    alone =
        let old : dir_refusal X N p (own_meta es) l ≡ None = sym (own-refusal X N p es (members-own X N p e es plan)) ∙ plan.planned in
        ap (λ o. or_else o (too_big (dir_entry X N p k l).tsize)) (no-twins (is_sharded p l) (collision N l) (too_big (dir_entry X N p (own_meta es) l).tsize) old)

    new-refusal : refusal X N p (Dir new_es) ≡ too_big (dir_entry X N p k l).tsize
    new-refusal = own-refusal X N p new_es each-own ∙ ap (λ (m : Meta). dir_refusal X N p m (named_entries X N p new_es)) (meta-entries k (pairs es)) ∙ ap (dir_refusal X N p k) same-names ∙ alone

    root-dir : (P : Held → Type 0) → AllByRecursion P (blocks X N p (Dir es)) → AllByRecursion P (dir_root X N p (own_meta es) l ∷ [])
    root-dir P h = root-among X N p (own_meta es) l P (own-dir X N p es P h)

    agrees : Agrees a (dir_root X N p (own_meta es) l ∷ [])
    agrees = agrees-among a (blocks X N p (Dir es)) (dir_root X N p (own_meta es) l ∷ []) root-dir stays.first

    pub folder-made : (new : Entry) → IsTrue (is_meta k) → KeepsGood X a c
        → ((M : List ℕ → ℕ) (m : Meta) (l : List Named) → IsPlanned X M p m e.cid l → Agrees a (dir_root X M p m l ∷ []) → GivesOver a (dir_root X M p m l ∷ []) (too_big (dir_entry X M p k l).tsize) (dir_entry X M p k l) (Ok new))
        → ((M : List ℕ → ℕ) (m : Meta) (l : List Named) → IsPlanned X M p m e.cid l → StaysAgreed a c (own_blocks X M p m l) → AgreesAfter a c (own_blocks X M p m l) (own_blocks X M p k l))
        → GivesRemade X N p a c k (Dir es) (Ok new)
    folder-made new good keeps value after =
        let is_planned = planned-of X N p e es plan hash fits in
        let given = value N (own_meta es) l is_planned agrees in
        let old = blocks X N p (Dir es) in
        let kept : AgreesAfter a c old old = after-kept X a c old (are-good X N p (Dir es)) keeps stays in
        let each : Each (λ t. AgreesAfter a c old (blocks X N p t)) (pairs new_es) =
        subst (Each (λ t. AgreesAfter a c old (blocks X N p t))) (sym (pairs-entries k (pairs es))) (members-after X N p a c old es kept) in
        let own : AgreesAfter a c old (own_blocks X N p k l) =
        after-wider a c (own_blocks X N p (own_meta es) l) old _ (own-dir X N p es) (after N (own_meta es) l is_planned (stays-some a c (own_blocks X N p (own_meta es) l) old (own-dir X N p es) stays)) in
        let own_new : AgreesAfter a c old (own_blocks X N p (own_meta new_es) (named_entries X N p new_es)) =
        subst (λ (m : Meta). AgreesAfter a c old (own_blocks X N p m (named_entries X N p new_es))) (sym (meta-entries k (pairs es)))
        (subst (λ (l : List Named). AgreesAfter a c old (own_blocks X N p k l)) (sym same-names) own) in
        let entry_is : new ≡ dir_entry X N p (own_meta new_es) (named_entries X N p new_es) =
        given.1 ∙ ap (dir_entry X N p k) (sym same-names) ∙ ap (λ (m : Meta). dir_entry X N p m (named_entries X N p new_es)) (sym (meta-entries k (pairs es))) in
        let no_refusal : dir_refusal X N p (own_meta new_es) (named_entries X N p new_es) ≡ None = sym (own-refusal X N p new_es each-own) ∙ new-refusal ∙ given.0 in
        made-remade a c k (Dir es) new (record {
          plan = plan-from X N p new new_es plan.profile (tree-with-meta k (Dir es) good plan.tree) each-own entry_is no_refusal;
          after = folder-after X N p a c old new_es each own_new;
        })

    pub folder-stopped : (f : DirFault) (s : Stop) → s ≡ stop_of f → AtCollision {A = Entry} (Err f) ⊥
        → ((M : List ℕ → ℕ) (m : Meta) (l : List Named) → IsPlanned X M p m e.cid l → Agrees a (dir_root X M p m l ∷ []) → GivesOver a (dir_root X M p m l ∷ []) (too_big (dir_entry X M p k l).tsize) (dir_entry X M p k l) (Err f))
        → GivesRemade X N p a c k (Dir es) (Err s)
    folder-stopped f s is apart value =
        subst (λ s. GivesRemade X N p a c k (Dir es) (Err s)) (sym is) (by f apart (value N (own_meta es) l (planned-of X N p e es plan hash fits) agrees))
      where
        by : (f : DirFault) → AtCollision {A = Entry} (Err f) ⊥ → GivesOver a (dir_root X N p (own_meta es) l ∷ []) (too_big (dir_entry X N p k l).tsize) (dir_entry X N p k l) (Err f)
            → GivesRemade X N p a c k (Dir es) (Err (stop_of f))
        by (dir.Collision first second) apart h = absurd apart
        by dir.TooBig apart h =
            subst (λ o. MeetsOr (IsLossOf a (blocks X N p (Dir es))) (λ u e. IsAfter X N a c (blocks X N p (Dir es)) p e u) (unless (with_meta k (Dir es)) o) (Err (stop.Refused why.TooBig))) (sym (new-refusal ∙ h)) refl
        by (dir.Store g) apart h = lost-remade a c k (Dir es) g (loss-among a (dir_root X N p (own_meta es) l ∷ []) (blocks X N p (Dir es)) g root-dir h)

  -- ---- what was found

  pub file-renewed : (a c : Told) (k : Meta) (t : Tree) (thing : Thing) (e : Entry) (size : FileSize) (r : Result Entry Stop) → thing ≡ FileAt e size → IsAgreedThing X N a p t thing
      → StaysAgreed a c (blocks X N p t)
      → ((m : Meta) (b : List ℕ) → IsAgreed X N a p e (File m b) → StaysAgreed a c (blocks X N p (File m b)) → GivesRemade X N p a c k (File m b) r) → GivesRemade X N p a c k t r
  file-renewed a c k t thing e size r is h stays gives = by t stays (subst (IsAgreedThing X N a p t) is h)
    where
      by : (t : Tree) → StaysAgreed a c (blocks X N p t) → IsAgreedThing X N a p t (FileAt e size) → GivesRemade X N p a c k t r
      by (File m b) stays h = gives m b h.0 stays
      by (Dir es) stays h = absurd h

  pub folder-renewed : (a c : Told) (k : Meta) (t : Tree) (thing : Thing) (e : Entry) (seen : Option FolderRoot) (r : Result Entry Stop) → thing ≡ FolderAt e seen → IsAgreedThing X N a p t thing
      → StaysAgreed a c (blocks X N p t)
      → ((es : Entries) → IsPlanOf X N p e (Dir es) → StaysAgreed a c (blocks X N p (Dir es)) → GivesRemade X N p a c k (Dir es) r) → GivesRemade X N p a c k t r
  folder-renewed a c k t thing e seen r is h stays gives = by t stays (subst (IsAgreedThing X N a p t) is h)
    where
      by : (t : Tree) → StaysAgreed a c (blocks X N p t) → IsAgreedThing X N a p t (FolderAt e seen) → GivesRemade X N p a c k t r
      by (File m b) stays h = absurd h
      by (Dir es) stays h = gives es h.0.plan stays

  -- ---- whose blocks are bad

  root-blamed : (role : Role) (bytes : List ℕ) → IsNoRoot (Some p) true role bytes → IsBad N (Some p) role bytes
  root-blamed Directory bytes h = h
  root-blamed (Shard level) bytes h = absurd h
  root-blamed FileNode bytes h = absurd h
  root-blamed Leaf bytes h = absurd h

  pub file-saves : (root : Cid) {fault : Option StoreFault} {a b : Seen} → OnlySaves X IsBadRoot fault a b → OnlySaves X (IsBadRemadeIn X N p root) fault a b
  file-saves root h = saves-by (IsBadRemadeIn X N p root) (λ role bytes bad. inr bad) h

  pub tree-saves : (root : Cid) {fault : Option StoreFault} {a b : Seen} → OnlySaves X (IsBadInTree X N (Some p) root) fault a b → OnlySaves X (IsBadRemadeIn X N p root) fault a b
  tree-saves root h = saves-by (IsBadRemadeIn X N p root) (λ role bytes bad. inl bad) h

  pub stat-saves : (root : Cid) {fault : Option StoreFault} {a b : Seen} → OnlySaves X dirs.IsBadRoot fault a b → OnlySaves X (IsBadRemadeIn X N p root) fault a b
  stat-saves root h = tree-saves root (saves-by (IsBadInTree X N (Some p) root) (root-bad X N (Some p) root) h)

  -- the fault of a directory's call, as that of a step
  pub folder-saves : (root : Cid) (e : Entry) (f : DirFault) (s : Stop) (a b : Seen) → s ≡ stop_of f → RequiresDirectory X root e.cid.digest → BlamesOnly e.cid (dir_fault {A = Entry} (Err f))
      → ShownDir {A = Entry} X (IsNoRoot (Some p) true) (Err f) a b → KeepsGood X a.told b.told → SavesOnly X a.told b.told
      → OnlySaves X (IsBadRemadeIn X N p root) (stop_fault {A = Entry} (Err s)) a b
  folder-saves root e f s a b is required blames shown good saves =
      subst (λ (s : Stop). OnlySaves X (IsBadRemadeIn X N p root) (stop_fault {A = Entry} (Err s)) a b) (sym is)
      (tree-saves root (saves-by (IsBadInTree X N (Some p) root) (bad-below X N (Some p) root e.cid required) (record { cause = by f blames shown; good = good; saves = saves })))
    where
      by : (f : DirFault) → BlamesOnly e.cid (dir_fault {A = Entry} (Err f)) → ShownDir {A = Entry} X (IsNoRoot (Some p) true) (Err f) a b
          → Shown X (IsBadInTree X N (Some p) e.cid) (stop_fault {A = Entry} (Err (stop_of f))) a b
      by (dir.Collision first second) blames shown = shown
      by dir.TooBig blames shown = shown
      by (dir.Store g) blames shown = shown-at X N (IsNoRoot (Some p) true) (Some p) e.cid (Some g) a b root-blamed blames shown

  -- what was found is required below itself
  pub thing-itself : (thing : Thing) → IsRequired X (entry_in thing).cid thing
  thing-itself (FileAt e size) = tt
  thing-itself (FolderAt e seen) = AtRoot refl

  -- what is made is that
  pub renew-made : (a c : Told) (m : Meta) (t : Tree) (e : Entry) → GivesRemade X N p a c m t (Ok e) → IsAfter X N a c (blocks X N p t) p e (with_meta m t)
  renew-made a c m t e h = by (refusal X N p (with_meta m t)) h
    where
      by : (o : Option Refusal) → MeetsOr (IsLossOf a (blocks X N p t)) (λ u e. IsAfter X N a c (blocks X N p t) p e u) (unless (with_meta m t) o) (Ok e) → IsAfter X N a c (blocks X N p t) p e (with_meta m t)
      by None h = h
      by (Some x) h = absurd h

  -- what is said of a file or a folder has its metadata
  pub stat-meta : (told : Told) (t : Tree) (thing : Thing) (stat : Stat) → IsAgreedThing X N told p t thing → stat ≡ stat_of X N p t → (stat.meta ≡ meta_of t) × IsTrue (is_meta stat.meta)
  stat-meta told t thing stat h is =
      let meta : stat.meta ≡ meta_of t = ap (λ (x : Stat). x.meta) is in
      (meta, subst (λ m. IsTrue (is_meta m)) (sym meta) (tree-meta t (thing-plan X N p told t thing h).tree))

-- at most one block is still to be loaded
pub unseen-one : (thing : Thing) → unseen thing ≤ 1
unseen-one (FileAt e size) = omega arith
unseen-one (FolderAt e None) = omega arith
unseen-one (FolderAt e (Some root)) = omega arith
