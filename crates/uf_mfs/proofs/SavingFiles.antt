-- What is saved where a file is written into, or the metadata of a file or a folder is changed.
use Rattle.std.proofs.Common.{◌≡◌, ℕ, ◌+◌, ◌<◌, ◌^◌, List, [], ◌∷◌, length, refl, ap, sym, ◌∙◌, subst, arith, Bool, true, false, cond, Option, Some, None, Result, Ok, Err, map}
use Rattle.std.specs.Prelude.{◌&&◌, IsTrue, nat_lt}
use Rattle.std.specs.List.{AllByRecursion}
use Rattle.uf_build.specs.declared.fault.BuildFault.{BuildFault}
use Rattle.uf_build.specs.declared.fault.BuildFault.TheVariants.{FileTooLong, Spent, Store}
use Rattle.uf_cid.specs.Blocks.{Held}
use Rattle.uf_dir.specs.Planned.{IsPlanned, own_blocks}
use Rattle.uf_fileedit.specs.Answers.{RefusesTooLong, ShownEdit}
use Rattle.uf_fileread.specs.Ranges.{IsFile}
use Rattle.uf_fileread.specs.declared.size.FileSize.{FileSize}
use Rattle.uf_store.specs.declared.store.Role.{Role}
use Rattle.uf_store.specs.Among.{SavesAmong}
use Rattle.uf_store.specs.Contents.{Told}
use Rattle.uf_store.specs.Keeping.{Agrees, StaysAgreed}
use Rattle.uf_store.specs.Seen.{Seen}
use Rattle.uf_store.proofs.Among.{SavesAmong-same}
use Rattle.uf_tree.specs.declared.meta.Meta.{Meta}
use Rattle.uf_tree.specs.declared.nodes.Entry.{Entry}
use Rattle.uf_tree.specs.declared.profile.Profile.{Profile}
use Rattle.uf_tree.specs.FilePlan.{file_plan}
use Rattle.uf_tree.specs.Laying.{cut_to, laid}
use Rattle.uf_tree.specs.Metas.{is_meta, none}
use Rattle.uf_tree.specs.Nodes.{Named}
use Rattle.uf_tree.specs.Profiles.{most_bytes}
use Rattle.uf_tree.specs.Roots.{dir_root}
use Rattle.uf_tree.specs.Tree.{Tree, File, Dir, Entries, Nothing, entries, fold, own_meta, pairs}
use Rattle.uf_tree.specs.TreePlan.{FileTooLong as TooLong, blocks, entry, named_entries, planned}
use Rattle.uf_tree.specs.Validity.{IsHash}
use Rattle.uf_tree.proofs.Laid.{laid-long, length-cut}
use Rattle.uf_tree.proofs.TreeLaws.{meta-entries, pairs-entries}
use Rattle.uf_plain.specs.declared.file.FileEdit.{FileEdit}
use Rattle.uf_plain.specs.declared.file.FileEdit.TheVariants.{Write}
use Rattle.uf_plain.specs.declared.file.WriteHow.{WriteHow}
use Rattle.uf_plain.specs.declared.meta_edit.MetaEdit.{MetaEdit}
use Rattle.uf_plain.specs.declared.rule.Refused.{Refused}
use Rattle.uf_plain.specs.Edits.{and_then}
use Rattle.uf_plain.specs.Files.{begun, fitting, kept_meta, rewritten}
use Rattle.uf_plain.specs.Metas.{remade, with_meta}
use Rattle.uf_plain.specs.Rules.{unless}
use Rattle.uf_plain.proofs.Kept.{tree-meta}
use Rattle.uf_mfs.specs.declared.thing.FolderRoot.{FolderRoot}
use Rattle.uf_mfs.specs.declared.thing.Thing.{Thing}
use Rattle.uf_mfs.specs.declared.thing.Thing.TheVariants.{File as FileAt, Folder as FolderAt}
use Rattle.uf_mfs.specs.declared.writing.Start.TheVariants.{Empty, There}
use Rattle.uf_mfs.specs.Answers.{Decides}
use Rattle.uf_mfs.specs.Remade.{member_blocks}
use Rattle.uf_mfs.specs.Saving.{AgreesThroughout, SavesMember, SavesThing, file_blocks, remade_blocks}
use Rattle.uf_mfs.specs.Standing.{IsAgreedMember, IsAgreedThing, IsPlanOf}
use Rattle.uf_mfs.specs.Writes.{IsStart, fitting_bytes}
use Rattle.uf_mfs.proofs.Files.{few, rooted}
use Rattle.uf_mfs.proofs.Holding.{agrees-among}
use Rattle.uf_mfs.proofs.Moving.{own-dir}
use Rattle.uf_mfs.proofs.Planning.{planned-of, root-among}
use Rattle.uf_mfs.proofs.Ranges.{is-file}
use Rattle.uf_mfs.proofs.Saving.{saved-more}
use Rattle.uf_mfs.proofs.Shifting.{thing-plan}

module _ (X : List ℕ → List ℕ) (N : List ℕ → ℕ) (p : Profile) where
  -- ---- a file

  -- an edit saves nothing where the new bytes are too many
  pub written-saves : (Bad : Role → List ℕ → Type 0) (a c : Seen) (m : Meta) (n : List ℕ) (r : Result Entry BuildFault) → RefusesTooLong (nat_lt (most_bytes p) (length n)) r → ShownEdit X Bad r a c
      → SavesAmong X (file_plan X p m n).blocks a.told c.told → SavesAmong X (file_blocks X N p m (fitting p n)) a.told c.told
  unfolding planned fold
  written-saves Bad a c m n r long shown saves = by (nat_lt (most_bytes p) (length n)) r long shown
    where
      by : (t : Bool) (r : Result Entry BuildFault) → RefusesTooLong t r → ShownEdit X Bad r a c → SavesAmong X (file_blocks X N p m (unless n (cond t (Some TooLong) None))) a.told c.told
      by false r long shown = saves
      by true (Ok e) long shown = absurd cc
      by true (Err FileTooLong) long shown = SavesAmong-same X [] a.told c.told (ap (λ (s : Seen). s.told) shown)
      by true (Err Spent) long shown = absurd long
      by true (Err (Store f)) long shown = absurd cc

  -- what is saved of a file that is there, as uf_fileedit speaks of it
  edited-saves : (Bad : Role → List ℕ → Type 0) (a c : Seen) (old : Entry) (m : Meta) (b n : List ℕ) (r : Result Entry BuildFault) → IsPlanOf X N p old (File m b) → AgreesThroughout a c (blocks X N p (File m b))
      → RefusesTooLong (nat_lt (most_bytes p) (length n)) r → ShownEdit X Bad r a c
      → ((height : ℕ) → IsFile X p m b old.cid height → StaysAgreed a.told c.told (file_plan X p m b).blocks → SavesAmong X (file_plan X p m n).blocks a.told c.told)
      → SavesAmong X (file_blocks X N p m (fitting p n)) a.told c.told
  unfolding planned fold
  edited-saves Bad a c old m b n r plan h long shown saves =
      let tall = rooted X p m b plan.profile in
      written-saves Bad a c m n r long shown (saves tall.0 (is-file X N p a.told [] (Nothing none) old m b tall.0 plan tall.1.least) h.stays)

  -- a piece laid over it
  pub laid-saves : (Bad : Role → List ℕ → Type 0) (a c : Seen) (old : Entry) (m : Meta) (b : List ℕ) (offset : ℕ) (x : List ℕ) (r : Result Entry BuildFault) → IsPlanOf X N p old (File m b) → AgreesThroughout a c (blocks X N p (File m b))
      → RefusesTooLong (nat_lt 0 (length x) && nat_lt (most_bytes p) (offset + length x)) r → ShownEdit X Bad r a c
      → ((m : Meta) (b : List ℕ) (height : ℕ) → IsFile X p m b old.cid height → StaysAgreed a.told c.told (file_plan X p m b).blocks → SavesAmong X (file_plan X p m (laid b offset x)).blocks a.told c.told)
      → SavesAmong X (file_blocks X N p m (fitting p (laid b offset x))) a.told c.told
  laid-saves Bad a c old m b offset x r plan h long shown saves =
      edited-saves Bad a c old m b (laid b offset x) r plan h (subst (λ t. RefusesTooLong t r) (laid-long (most_bytes p) offset b x (few X N p old m b plan)) long) shown (saves m b)

  -- and a file cut
  pub cut-saves : (Bad : Role → List ℕ → Type 0) (a c : Seen) (old : Entry) (m : Meta) (b : List ℕ) (size : ℕ) (r : Result Entry BuildFault) → IsPlanOf X N p old (File m b) → AgreesThroughout a c (blocks X N p (File m b))
      → RefusesTooLong (nat_lt (most_bytes p) size) r → ShownEdit X Bad r a c
      → ((m : Meta) (b : List ℕ) (height : ℕ) → IsFile X p m b old.cid height → StaysAgreed a.told c.told (file_plan X p m b).blocks → SavesAmong X (file_plan X p m (cut_to b size)).blocks a.told c.told)
      → SavesAmong X (file_blocks X N p m (fitting p (cut_to b size))) a.told c.told
  cut-saves Bad a c old m b size r plan h long shown saves =
      edited-saves Bad a c old m b (cut_to b size) r plan h (subst (λ n. RefusesTooLong (nat_lt (most_bytes p) n) r) (sym (length-cut b size)) long) shown (saves m b)

  -- a file that is made of no bytes
  pub created-saves : (Bad : Role → List ℕ → Type 0) (a c : Seen) (m : Meta) (offset : ℕ) (x : List ℕ) (r : Result Entry BuildFault) → RefusesTooLong (nat_lt 0 (length x) && nat_lt (most_bytes p) (offset + length x)) r → ShownEdit X Bad r a c
      → SavesAmong X (file_plan X p m (laid [] offset x)).blocks a.told c.told → SavesAmong X (file_blocks X N p m (fitting p (laid [] offset x))) a.told c.told
  created-saves Bad a c m offset x r long shown saves =
      written-saves Bad a c m (laid [] offset x) r (subst (λ t. RefusesTooLong t r) (laid-long (most_bytes p) offset [] x (omega arith)) long) shown saves

  -- ---- what is found under a name, begun with and rewritten

  pub there-saves : (told : Told) (a c : Seen) (what : FileEdit) (x : List ℕ) (led : ℕ) (o : Option Tree) (e : Entry) → Decides (λ bytes start. IsStart X N told p what o bytes start) (begun what led o) (Ok (There e))
      → AgreesThroughout a c (member_blocks X N p o)
      → ((m : Meta) (bytes : List ℕ) → IsPlanOf X N p e (File m bytes) → AgreesThroughout a c (blocks X N p (File m bytes)) → SavesAmong X (file_blocks X N p m (fitting p (rewritten what x bytes))) a.told c.told)
      → SavesAmong X (file_blocks X N p (kept_meta o) (fitting_bytes p what x led o)) a.told c.told
  there-saves told a c what x led o e start h saves = by (begun what led o) start
    where
      by : (w : Result (List ℕ) Refused) → Decides (λ bytes start. IsStart X N told p what o bytes start) w (Ok (There e))
          → SavesAmong X (file_blocks X N p (kept_meta o) (and_then (and_then w (λ bytes. Ok (rewritten what x bytes))) (fitting p))) a.told c.told
      by (Err why) k = absurd k
      by (Ok bytes) k = saves (kept_meta o) bytes k.1.plan (subst (λ (o : Option Tree). AgreesThroughout a c (member_blocks X N p o)) k.0 h)

  pub empty-saves : (told a c : Told) (m kept : Meta) (how : WriteHow) (what : FileEdit) (x : List ℕ) (led : ℕ) (o : Option Tree) → IsTrue (is_meta (kept_meta o))
      → Decides (λ bytes start. IsStart X N told p what o bytes start) (begun what led o) (Ok (Empty m how)) → (IsTrue (is_meta m) → kept ≡ m)
      → SavesAmong X (file_blocks X N p kept (fitting p (rewritten (Write how) x []))) a c → SavesAmong X (file_blocks X N p (kept_meta o) (fitting_bytes p what x led o)) a c
  empty-saves told a c m kept how what x led o fine start good saves = by (begun what led o) start
    where
      by : (w : Result (List ℕ) Refused) → Decides (λ bytes start. IsStart X N told p what o bytes start) w (Ok (Empty m how))
          → SavesAmong X (file_blocks X N p (kept_meta o) (and_then (and_then w (λ bytes. Ok (rewritten what x bytes))) (fitting p))) a c
      by (Err why) k = absurd k
      by (Ok bytes) k =
          let same : kept ≡ kept_meta o = good (subst (λ m. IsTrue (is_meta m)) (sym k.1) fine) ∙ k.1 in
          subst (λ (n : List ℕ). SavesAmong X (file_blocks X N p (kept_meta o) (fitting p (rewritten what x n))) a c) (sym k.0)
          (subst (λ (what : FileEdit). SavesAmong X (file_blocks X N p (kept_meta o) (fitting p (rewritten what x []))) a c) (sym k.2)
          (subst (λ (m : Meta). SavesAmong X (file_blocks X N p m (fitting p (rewritten (Write how) x []))) a c) same saves))

  -- the metadata of what is there is good
  pub member-good : (told : Told) (o : Option Tree) (found : Option Thing) → IsAgreedMember X N told p o found → IsTrue (is_meta (kept_meta o))
  member-good told None found h = refl
  member-good told (Some t) None h = absurd h
  member-good told (Some t) (Some thing) h = tree-meta t (thing-plan X N p told t thing h).tree

  -- ---- metadata that is changed

  -- of a file
  pub file-meta : (a c : Seen) (k : Meta) (t : Tree) (thing : Thing) (e : Entry) (size : FileSize) → thing ≡ FileAt e size → IsAgreedThing X N a.told p t thing → AgreesThroughout a c (blocks X N p t)
      → ((q : Profile) (m : Meta) (b : List ℕ) (height : ℕ) → IsFile X q m b e.cid height → Agrees a.told (file_plan X q m b).blocks → SavesAmong X (file_plan X q k b).blocks a.told c.told)
      → SavesAmong X (blocks X N p (with_meta k t)) a.told c.told
  unfolding planned fold
  file-meta a c k t thing e size is met h saves = by t h (subst (IsAgreedThing X N a.told p t) is met)
    where
      by : (t : Tree) → AgreesThroughout a c (blocks X N p t) → IsAgreedThing X N a.told p t (FileAt e size) → SavesAmong X (blocks X N p (with_meta k t)) a.told c.told
      by (File m b) h met =
          let tall = rooted X p m b met.0.plan.profile in
          saves p m b tall.0 (is-file X N p a.told [] (Nothing none) e m b tall.0 met.0.plan tall.1.least) h.stays.first
      by (Dir es) h met = absurd met

  -- of a folder
  root-new : (k : Meta) (es : Entries) (P : Held → Type 0) → AllByRecursion P (blocks X N p (Dir (entries k (pairs es)))) → AllByRecursion P (dir_root X N p k (named_entries X N p es) ∷ [])
  root-new k es P h =
      let l = pairs es in
      root-among X N p k (named_entries X N p es) P
      (subst (λ (named : List Named). AllByRecursion P (own_blocks X N p k named)) (ap (λ (l : List (List ℕ × Tree)). map (λ (x : List ℕ × Tree). (x.0, entry X N p x.1)) l) (pairs-entries k l))
      (subst (λ (m : Meta). AllByRecursion P (own_blocks X N p m (named_entries X N p (entries k l)))) (meta-entries k l) (own-dir X N p (entries k l) P h)))

  pub folder-meta : IsHash X → ((name : List ℕ) → N name < 2 ^ 64) → (a c : Seen) (k : Meta) (t : Tree) (thing : Thing) (e : Entry) (seen : Option FolderRoot) → thing ≡ FolderAt e seen → IsAgreedThing X N a.told p t thing
      → AgreesThroughout a c (blocks X N p t)
      → ((M : List ℕ → ℕ) (m : Meta) (l : List Named) → IsPlanned X M p m e.cid l → Agrees a.told (dir_root X M p m l ∷ []) → SavesAmong X (dir_root X M p k l ∷ []) a.told c.told)
      → SavesAmong X (blocks X N p (with_meta k t)) a.told c.told
  folder-meta hash fits a c k t thing e seen is met h saves = by t h (subst (IsAgreedThing X N a.told p t) is met)
    where
      by : (t : Tree) → AgreesThroughout a c (blocks X N p t) → IsAgreedThing X N a.told p t (FolderAt e seen) → SavesAmong X (blocks X N p (with_meta k t)) a.told c.told
      by (File m b) h met = absurd met
      by (Dir es) h met =
          saved-more X (dir_root X N p k (named_entries X N p es) ∷ []) (blocks X N p (Dir (entries k (pairs es)))) a.told c.told (λ P. root-new k es P)
          (saves N (own_meta es) (named_entries X N p es) (planned-of X N p e es met.0.plan hash fits)
          (agrees-among a.told (blocks X N p (Dir es)) (dir_root X N p (own_meta es) (named_entries X N p es) ∷ []) (λ P j. root-among X N p (own_meta es) (named_entries X N p es) P (own-dir X N p es P j)) h.stays.first))

  -- what was found under a name, as what was met
  pub member-saves : (a c : Seen) (what : MetaEdit) (found : Option Thing) (thing : Thing) → found ≡ Some thing → SavesThing X N a c p thing (λ t. blocks X N p (remade what t)) → SavesMember X N a c p found (remade_blocks X N p what)
  member-saves a c what found thing is saves = λ o met h. by o (subst (λ (x : Option Thing). IsAgreedMember X N a.told p o x) is met) h
    where
      by : (o : Option Tree) → IsAgreedMember X N a.told p o (Some thing) → AgreesThroughout a c (member_blocks X N p o) → SavesAmong X (remade_blocks X N p what o) a.told c.told
      by None met h = absurd met
      by (Some t) met h = saves t met h
