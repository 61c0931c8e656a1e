-- A file that an edit makes, over calls in a row.
use Rattle.std.proofs.Common.{◌≡◌, ◌∙◌, ℕ, ◌+◌, ◌<◌, ◌≤◌, List, [], ◌∷◌, ◌++◌, length, refl, ap, sym, subst, arith}
use Rattle.std.proofs.Common.{inl, inr, Bool, true, false, cond, Option, Some, None, Result, Ok, Err}
use Rattle.std.specs.Prelude.{◌&&◌, IsTrue, OnOk, nat_lt}
use Rattle.std.specs.List.{list_all}
use Rattle.std.proofs.lemmas.Bool.Decides.{nat_tests}
use Rattle.uf_build.specs.declared.fault.BuildFault.{BuildFault}
use Rattle.uf_build.specs.declared.fault.BuildFault.TheVariants.{FileTooLong, Spent, Store}
use Rattle.uf_tree.proofs.Laid.{all-cut, all-laid, laid-long, length-cut}
use Rattle.uf_tree.specs.Laying.{cut_to, laid}
use Rattle.uf_cid.specs.Blocks.{Held}
use Rattle.uf_cid.specs.Bytes.{IsBytes}
use Rattle.uf_edge.specs.Counts.{Stood}
use Rattle.uf_fileread.specs.Ranges.{IsFile}
use Rattle.uf_fileedit.specs.Answers.{EditsOver, RefusesTooLong, ShownEdit}
use Rattle.uf_fileedit.specs.Bad.{IsBadEdited}
use Rattle.uf_cid.specs.declared.cid.Cid.{Cid}
use Rattle.uf_store.specs.declared.store.Role.{Role}
use Rattle.uf_store.specs.declared.store.StoreFault.{StoreFault}
use Rattle.uf_store.specs.declared.store.StoreFault.TheVariants.{Failed, Damaged, Missing, BadBlock, Clash, Memory}
use Rattle.uf_store.specs.Calls.{OnlySaves}
use Rattle.uf_store.specs.Contents.{Told}
use Rattle.uf_store.specs.Faults.{NoneIsBad, StaysCalm}
use Rattle.uf_store.specs.Keeping.{Agrees, Holds, KeepsGood, StaysAgreed}
use Rattle.uf_store.specs.Lost.{AgreesAfter, IsLossOf}
use Rattle.uf_store.specs.Seen.{Seen}
use Rattle.uf_store.proofs.Calls.{calm-then, saves-by}
use Rattle.uf_store.proofs.Lost.{after-then}
use Rattle.uf_store.proofs.Causes.{StaysCalm-refl}
use Rattle.uf_store.proofs.Writing.{SavesOnly-refl}
use Rattle.uf_store.specs.Writing.{SavesOnly}
use Rattle.uf_tree.specs.declared.nodes.Entry.{Entry}
use Rattle.uf_tree.specs.declared.meta.Meta.{Meta}
use Rattle.uf_tree.specs.declared.profile.Profile.{Profile}
use Rattle.uf_tree.specs.FilePlan.{file_plan}
use Rattle.uf_tree.specs.FileSub.{IsFileHeight}
use Rattle.uf_tree.specs.Metas.{is_meta, none}
use Rattle.uf_tree.specs.Profiles.{is_profile, most_bytes}
use Rattle.uf_tree.specs.Tree.{Tree, File, Dir, Entries, Nothing, fold, is_tree}
use Rattle.uf_tree.specs.TreePlan.{FileTooLong as TooLong, blocks, named_entries, planned, too_long}
use Rattle.uf_dir.specs.Bounds.{crossing}
use Rattle.uf_plain.specs.declared.rule.Refused.{Refused}
use Rattle.uf_plain.specs.declared.rule.Refused.TheVariants as why
use Rattle.uf_plain.specs.declared.file.FileEdit.{FileEdit}
use Rattle.uf_plain.specs.declared.file.FileEdit.TheVariants.{Write, Truncate}
use Rattle.uf_plain.specs.declared.file.WriteHow.{WriteHow}
use Rattle.uf_plain.specs.declared.change.Change.TheVariants.{Make}
use Rattle.uf_plain.specs.Edits.{and_then, as_folder, child, with_child}
use Rattle.uf_plain.specs.Files.{as_file_or_new, begun, fitting, kept_meta, rewritten}
use Rattle.uf_plain.specs.Rules.{allowed, unless}
use Rattle.uf_plain.proofs.Edited.{child-tree}
use Rattle.uf_plain.proofs.Kept.{tree-meta}
use Rattle.uf_tree.proofs.Twins.{both_true}
use Rattle.uf_mfs.specs.declared.writing.Start.TheVariants.{Empty, There}
use Rattle.uf_mfs.specs.declared.fault.Stop.{Stop}
use Rattle.uf_mfs.specs.declared.fault.Stop.TheVariants as stop
use Rattle.uf_mfs.specs.Answers.{Decides, EditsAfter}
use Rattle.uf_mfs.specs.Standing.{IsAfter, IsPlanOf, TellsHeld}
use Rattle.uf_mfs.specs.Steps.{ChangesFolder, ChangesOver, IsFolderOver, stop_fault}
use Rattle.uf_fileedit.specs.Touches.{BlamedAfter, TouchedFirst}
use Rattle.uf_mfs.specs.Touches.{CountsUp, TouchesFolder, crossings_of, entries_at, where_done}
use Rattle.uf_mfs.specs.Bad.{IsBadInTree, RequiresDirectory}
use Rattle.uf_mfs.proofs.Judging.{bad-below}
use Rattle.uf_mfs.specs.Writes.{MakesFile, IsBadInSome, IsBadWrittenIn, IsFileOver, IsStart, IsStepOf, file_touches, fitting_bytes, member_at, rewriting_touches, with_fitting}
use Rattle.uf_mfs.proofs.After.{after-held, after-kept, after-some, loss-after, onward}
use Rattle.uf_mfs.proofs.Agreed.{child-among}
use Rattle.uf_mfs.proofs.Files.{few, rooted}
use Rattle.uf_mfs.proofs.Folders.{beside, changes-over, over-then}
use Rattle.uf_mfs.proofs.Hinge.{are-good}
use Rattle.uf_mfs.proofs.Moving.{lost-edit}
use Rattle.uf_mfs.proofs.Ranges.{file-agrees, is-file}
use Rattle.uf_mfs.proofs.Touching.{folder-leads}

-- ---- bytes

and-true : {s t : Bool} → s ≡ true → t ≡ true → s && t ≡ true
and-true {s = true} g h = h
and-true {s = false} g h = g

bytes-all : (bytes : List ℕ) → IsBytes bytes → list_all (λ b. nat_lt b 256) bytes ≡ true
bytes-all [] h = refl
bytes-all (b ∷ bytes) h = both (nat_lt b 256) (list_all (λ b. nat_lt b 256) bytes) (below b h.0) (bytes-all bytes h.1)
  where
    both : (s t : Bool) → s ≡ true → t ≡ true → s && t ≡ true
    both true t g h = h
    both false t g h = g

    below : (b : ℕ) → b < 256 → nat_lt b 256 ≡ true
    below b h = grind (arith, nat_tests)

-- which bytes an edit begins with doesn't depend on how many names led there
abbrev touches-of : Profile → (ℕ → ℕ) → FileEdit → List ℕ → Meta → Result (List ℕ) Refused → ℕ
touches-of p rows what x m w = elim w as (λ w. ℕ) [ Ok bytes ↦ rewriting_touches p rows what x m bytes | Err why ↦ 0 ]

begun-anyhow : (what : FileEdit) (led other : ℕ) (o : Option Tree) (bytes : List ℕ) → begun what led o ≡ Ok bytes
    → begun what other o ≡ Ok bytes
begun-anyhow (Write how) led other None bytes is = by how.create is
  where
    by : (create : Bool) → and_then (as_file_or_new create led None) (λ bytes. Ok (cond how.cut [] bytes)) ≡ Ok bytes
        → and_then (as_file_or_new create other None) (λ bytes. Ok (cond how.cut [] bytes)) ≡ Ok bytes
    by true is = is
    by false is = absurd cc
begun-anyhow (Write how) led other (Some (File m old)) bytes is = by how.create is
  where
    by : (create : Bool)
        → and_then (as_file_or_new create led (Some (File m old))) (λ bytes. Ok (cond how.cut [] bytes)) ≡ Ok bytes
        → and_then (as_file_or_new create other (Some (File m old))) (λ bytes. Ok (cond how.cut [] bytes)) ≡ Ok bytes
    by true is = is
    by false is = is
begun-anyhow (Write how) led other (Some (Dir es)) bytes is = by how.create is
  where
    by : (create : Bool)
        → and_then (as_file_or_new create led (Some (Dir es))) (λ bytes. Ok (cond how.cut [] bytes)) ≡ Ok bytes
        → and_then (as_file_or_new create other (Some (Dir es))) (λ bytes. Ok (cond how.cut [] bytes)) ≡ Ok bytes
    by true is = absurd cc
    by false is = absurd cc
begun-anyhow (Truncate size) led other None bytes is = absurd cc
begun-anyhow (Truncate size) led other (Some (File m old)) bytes is = is
begun-anyhow (Truncate size) led other (Some (Dir es)) bytes is = absurd cc

-- ---- the count of touches

-- what an edit of a file shows, keeps and saves, as a step does
pub stepped-saves : (hash : List ℕ → List ℕ) (Bad : Role → List ℕ → Type 0) (r : Result Entry BuildFault) (s : Result Entry Stop) (a b : Seen) → IsStepOf r s → ShownEdit hash Bad r a b → KeepsGood hash a.told b.told → SavesOnly hash a.told b.told
    → OnlySaves hash Bad (stop_fault s) a b
stepped-saves hash Bad (Ok e) s a b is h good saves = subst (λ (s : Result Entry Stop). OnlySaves hash Bad (stop_fault s) a b) (sym is) (record { cause = h; good = good; saves = saves })
stepped-saves hash Bad (Err FileTooLong) s a b is h good saves = subst (λ (s : Result Entry Stop). OnlySaves hash Bad (stop_fault s) a b) (sym is)
    (record { cause = subst (λ (c : Seen). StaysCalm a c) (sym h) (StaysCalm-refl a); good = good; saves = saves })
stepped-saves hash Bad (Err Spent) s a b is h good saves = absurd is
stepped-saves hash Bad (Err (Store f)) s a b is h good saves = subst (λ (s : Result Entry Stop). OnlySaves hash Bad (stop_fault s) a b) (sym is) (record { cause = h; good = good; saves = saves })

-- the count after an edit of a file, as that after a step
pub stepped-counts : (r : Result Entry BuildFault) (s : Result Entry Stop) (t0 t1 : ℕ) → IsStepOf r s
    → TouchedFirst r t0 t1 → CountsUp (stop_fault s) t0 t1
stepped-counts (Ok e) s t0 t1 is h = subst (λ (s : Result Entry Stop). CountsUp (stop_fault s) t0 t1) (sym is) (record { kept = h; risen = λ x. absurd x })
stepped-counts (Err FileTooLong) s t0 t1 is h = subst (λ (s : Result Entry Stop). CountsUp (stop_fault s) t0 t1) (sym is)
    (record { kept = omega (arith, h); risen = λ x. absurd x })
stepped-counts (Err Spent) s t0 t1 is h = absurd is
stepped-counts (Err (Store f)) s t0 t1 is h = subst (λ (s : Result Entry Stop). CountsUp (stop_fault s) t0 t1) (sym is) (by f h)
  where
    by : (f : StoreFault) → BlamedAfter f t0 t1 → CountsUp (Some f) t0 t1
    by Failed h = record { kept = h; risen = λ x. absurd x }
    by (Damaged c) h = record { kept = h; risen = λ x. absurd x }
    by (Missing c) h = record { kept = h; risen = λ x. absurd x }
    by (BadBlock c role) h = record { kept = omega (arith, h); risen = λ x. h }
    by (Clash c other bytes) h = record { kept = h; risen = λ x. absurd x }
    by Memory h = record { kept = h; risen = λ x. absurd x }

-- nothing is touched for a file that is too long
within : (most n bound : ℕ) (r : Result Entry BuildFault) (t0 t1 : ℕ) → RefusesTooLong (nat_lt most n) r
    → TouchedFirst r t0 t1 → t1 ≤ t0 + bound → t1 ≤ t0 + cond (nat_lt most n) 0 bound
within most n bound r t0 t1 long first short = by (nat_lt most n) r long first
  where
    by : (t : Bool) (r : Result Entry BuildFault) → RefusesTooLong t r → TouchedFirst r t0 t1
        → t1 ≤ t0 + cond t 0 bound
    by false r long first = short
    by true (Ok e) long first = absurd cc
    by true (Err FileTooLong) long first = omega (arith, first)
    by true (Err Spent) long first = absurd long
    by true (Err (Store f)) long first = absurd cc

module _ (X : List ℕ → List ℕ) (N : List ℕ → ℕ) (p : Profile) where
  is-short : (e : Entry) (m : Meta) (b : List ℕ) → IsPlanOf X N p e (File m b) → nat_lt (most_bytes p) (length b) ≡ false
  unfolding planned fold
  is-short e m b s = by (nat_lt (most_bytes p) (length b)) s.planned
    where
      by : (t : Bool) → cond t (Some TooLong) None ≡ None → t ≡ false
      by true e = absurd cc
      by false e = refl

  -- the bytes of a file that has a plan fit
  file-fits : (n : List ℕ) → nat_lt (most_bytes p) (length n) ≡ false → too_long p n ≡ None
  file-fits n is = ap (λ (t : Bool). cond t (Some TooLong) None) is

  file-long : (n : List ℕ) → nat_lt (most_bytes p) (length n) ≡ true → too_long p n ≡ Some TooLong
  file-long n is = ap (λ (t : Bool). cond t (Some TooLong) None) is

  pub file-plan-of : (e : Entry) (m : Meta) (n : List ℕ) → IsTrue (is_profile p) → IsTrue (is_tree (File m n))
      → nat_lt (most_bytes p) (length n) ≡ false → e ≡ (file_plan X p m n).entry
      → IsPlanOf X N p e (File m n)
  unfolding planned fold
  file-plan-of e m n ok tree short is = record { profile = ok; tree = tree; planned = file-fits n short; is = is }

  -- ---- what is under the file's name

  keeps-same : (a : Told) → KeepsGood X a a
  keeps-same a = record { alike = refl; stays = λ c b h good. h }

  -- a file that is there, before anything was done
  pub start-there : (a : Seen) (folder e : Entry) (what : FileEdit) (name : List ℕ) (es : Entries) (w : Result (List ℕ) Refused)
      → IsFolderOver X N p a a [] folder es
      → Decides (λ bytes start. IsStart X N a.told p what (child name es) bytes start) w (Ok (There e))
      → MakesFile X N p a a (blocks X N p (Dir es)) (kept_meta (child name es)) w (Ok e)
  start-there a folder e what name es (Err why) o h = absurd h
  start-there a folder e what name es (Ok bytes) o h = record {
    plan = h.1.plan;
    after = after-some a.told a.told _ _ _ (λ Q k. child-among X N p es name (File (kept_meta (child name es)) bytes) h.0 Q k)
        (after-kept X a.told a.told _ (are-good X N p (Dir es)) (keeps-same a.told) o.stays);
  }

  -- the metadata of a member is good, and so is that of none
  pub kept-good : (folder : Entry) (name : List ℕ) (es : Entries) → IsPlanOf X N p folder (Dir es) → IsTrue (is_meta (kept_meta (child name es)))
  kept-good folder name es s = by (child name es) refl
    where
      by : (o : Option Tree) → child name es ≡ o → IsTrue (is_meta (kept_meta o))
      by None is = refl
      by (Some t) is = tree-meta t (child-tree name t es s.tree is)

  -- ---- the file that is made of it

  -- a loss that may come, whatever the bytes are
  pub lost-file : (a c : Seen) (old : List Held) (m : Meta) (w : Result (List ℕ) Refused) (f : StoreFault)
      → IsLossOf a.told old f → MakesFile X N p a c old m w (Err (stop.Store f))
  lost-file a c old m (Ok n) f h = h
  lost-file a c old m (Err why) f h = h

  -- the answer of an edit of a file as that of a step
  pub stepped-file : (a c : Seen) (old : Entry) (m : Meta) (b n : List ℕ) (r : Result Entry BuildFault) (s : Result Entry Stop)
      → IsFileOver X N p a c old m b → IsTrue (is_tree (File m n))
      → RefusesTooLong (nat_lt (most_bytes p) (length n)) r
      → EditsOver a.told (file_plan X p m b).blocks (file_plan X p m n).entry r
      → OnOk r (AgreesAfter a.told c.told (file_plan X p m b).blocks (file_plan X p m n).blocks) → IsStepOf r s
      → MakesFile X N p a c (blocks X N p (File m b)) m (fitting p n) s
  unfolding planned fold
  stepped-file a c old m b n (Ok e) s over tree long value after is =
      subst (λ s. MakesFile X N p a c (blocks X N p (File m b)) m (fitting p n) s) (sym is)
      (subst (λ o. MakesFile X N p a c (blocks X N p (File m b)) m (unless n o) (Ok e)) (sym (file-fits n long))
      (record { plan = file-plan-of e m n over.plan.profile tree long value; after = after }))
  stepped-file a c old m b n (Err FileTooLong) s over tree long value after is =
      subst (λ s. MakesFile X N p a c (blocks X N p (File m b)) m (fitting p n) s) (sym is)
      (subst (λ o. MakesFile X N p a c (blocks X N p (File m b)) m (unless n o) (Err (stop.Refused why.FileTooLong))) (sym (file-long n long)) refl)
  stepped-file a c old m b n (Err Spent) s over tree long value after is = absurd is
  stepped-file a c old m b n (Err (Store f)) s over tree long value after is =
      subst (λ s. MakesFile X N p a c (blocks X N p (File m b)) m (fitting p n) s) (sym is) (lost-file a c _ m (fitting p n) f value)

  -- a file over which nothing failed, as uf_fileedit speaks of it
  pub over-file : (a c : Seen) (old : Entry) (m : Meta) (b : List ℕ) (height : ℕ) → IsFileOver X N p a c old m b
      → IsFileHeight p.chunk p.width m (length b) height → IsFile X p m b old.cid height
  over-file a c old m b height over tall = is-file X N p a.told [] (Nothing none) old m b height over.plan tall

  pub over-agrees : (a c : Seen) (old : Entry) (m : Meta) (b : List ℕ) → IsFileOver X N p a c old m b
      → Agrees a.told (file_plan X p m b).blocks
  over-agrees a c old m b over = file-agrees X N p a.told [] (Nothing none) old m b (record { plan = over.plan; agrees = over.stays.first })

  made-file : (a c : Seen) (old : Entry) (m : Meta) (b n : List ℕ) (r : Result Entry BuildFault) (s : Result Entry Stop)
      → IsFileOver X N p a c old m b → IsTrue (is_tree (File m n))
      → RefusesTooLong (nat_lt (most_bytes p) (length n)) r
      → ((height : ℕ) → IsFile X p m b old.cid height → old ≡ (file_plan X p m b).entry → StaysAgreed a.told c.told (file_plan X p m b).blocks → Stood a.faults c.faults → Stood a.clashes c.clashes
      → EditsOver a.told (file_plan X p m b).blocks (file_plan X p m n).entry r)
      → ((height : ℕ) → IsFile X p m b old.cid height → old ≡ (file_plan X p m b).entry → StaysAgreed a.told c.told (file_plan X p m b).blocks
      → OnOk r (AgreesAfter a.told c.told (file_plan X p m b).blocks (file_plan X p m n).blocks))
      → IsStepOf r s → MakesFile X N p a c (blocks X N p (File m b)) m (fitting p n) s
  unfolding planned fold
  made-file a c old m b n r s over tree long value after is =
      let tall = rooted X p m b over.plan.profile in
      let file = over-file a c old m b tall.0 over tall.1.least in
      stepped-file a c old m b n r s over tree long (value tall.0 file over.plan.is over.stays over.calm.faults over.calm.clashes) (after tall.0 file over.plan.is over.stays) is

  -- a piece laid over a file
  pub laid-file : (a c : Seen) (old : Entry) (m : Meta) (b : List ℕ) (offset : ℕ) (x : List ℕ) (r : Result Entry BuildFault) (s : Result Entry Stop) → IsFileOver X N p a c old m b → IsBytes x
      → RefusesTooLong (nat_lt 0 (length x) && nat_lt (most_bytes p) (offset + length x)) r
      → ((m : Meta) (b : List ℕ) (height : ℕ) → IsFile X p m b old.cid height → old ≡ (file_plan X p m b).entry → StaysAgreed a.told c.told (file_plan X p m b).blocks → Stood a.faults c.faults
      → Stood a.clashes c.clashes → EditsOver a.told (file_plan X p m b).blocks (file_plan X p m (laid b offset x)).entry r)
      → ((m : Meta) (b : List ℕ) (height : ℕ) → IsFile X p m b old.cid height → old ≡ (file_plan X p m b).entry → StaysAgreed a.told c.told (file_plan X p m b).blocks
      → OnOk r (AgreesAfter a.told c.told (file_plan X p m b).blocks (file_plan X p m (laid b offset x)).blocks))
      → IsStepOf r s → MakesFile X N p a c (blocks X N p (File m b)) m (fitting p (laid b offset x)) s
  unfolding is_tree
  laid-file a c old m b offset x r s over bytes long value after is =
      let few = few X N p old m b over.plan in
      made-file a c old m b (laid b offset x) r s over (and-true (both_true (is_meta m) _ over.plan.tree).0 (all-laid (λ b. nat_lt b 256) b offset x refl (both_true (is_meta m) _ over.plan.tree).1 (bytes-all x bytes)))
      (subst (λ t. RefusesTooLong t r) (laid-long (most_bytes p) offset b x few) long) (value m b) (after m b) is

  -- and a file cut
  pub cut-file : (a c : Seen) (old : Entry) (m : Meta) (b : List ℕ) (size : ℕ) (r : Result Entry BuildFault) (s : Result Entry Stop) → IsFileOver X N p a c old m b
      → RefusesTooLong (nat_lt (most_bytes p) size) r
      → ((m : Meta) (b : List ℕ) (height : ℕ) → IsFile X p m b old.cid height → old ≡ (file_plan X p m b).entry → StaysAgreed a.told c.told (file_plan X p m b).blocks → Stood a.faults c.faults
      → Stood a.clashes c.clashes → EditsOver a.told (file_plan X p m b).blocks (file_plan X p m (cut_to b size)).entry r)
      → ((m : Meta) (b : List ℕ) (height : ℕ) → IsFile X p m b old.cid height → old ≡ (file_plan X p m b).entry → StaysAgreed a.told c.told (file_plan X p m b).blocks
      → OnOk r (AgreesAfter a.told c.told (file_plan X p m b).blocks (file_plan X p m (cut_to b size)).blocks))
      → IsStepOf r s → MakesFile X N p a c (blocks X N p (File m b)) m (fitting p (cut_to b size)) s
  unfolding is_tree
  cut-file a c old m b size r s over long value after is =
      made-file a c old m b (cut_to b size) r s over (and-true (both_true (is_meta m) _ over.plan.tree).0 (all-cut (λ b. nat_lt b 256) b size refl (both_true (is_meta m) _ over.plan.tree).1))
      (subst (λ n. RefusesTooLong (nat_lt (most_bytes p) n) r) (sym (length-cut b size)) long) (value m b) (after m b) is

  -- how often they touch the store
  pub laid-touches : (rows : ℕ → ℕ) (a c : Seen) (old : Entry) (m : Meta) (b : List ℕ) (offset : ℕ) (x : List ℕ)
      (r : Result Entry BuildFault) (t0 t1 bound : ℕ) → IsFileOver X N p a c old m b
      → RefusesTooLong (nat_lt 0 (length x) && nat_lt (most_bytes p) (offset + length x)) r
      → TouchedFirst r t0 t1 → t1 ≤ t0 + bound
      → t1 ≤ t0 + cond (nat_lt (most_bytes p) (length (laid b offset x))) 0 bound
  laid-touches rows a c old m b offset x r t0 t1 bound over long first few_touches =
      within (most_bytes p) (length (laid b offset x)) bound r t0 t1
      (subst (λ t. RefusesTooLong t r) (laid-long (most_bytes p) offset b x (few X N p old m b over.plan)) long) first few_touches

  pub cut-touches : (b : List ℕ) (size : ℕ) (r : Result Entry BuildFault) (t0 t1 bound : ℕ)
      → RefusesTooLong (nat_lt (most_bytes p) size) r → TouchedFirst r t0 t1 → t1 ≤ t0 + bound
      → t1 ≤ t0 + cond (nat_lt (most_bytes p) (length (cut_to b size))) 0 bound
  cut-touches b size r t0 t1 bound long first few_touches =
      within (most_bytes p) (length (cut_to b size)) bound r t0 t1
      (subst (λ n. RefusesTooLong (nat_lt (most_bytes p) n) r) (sym (length-cut b size)) long) first few_touches

  -- nothing was called
  pub no-saves : (a : Seen) → OnlySaves X NoneIsBad None a a
  no-saves a = record { cause = StaysCalm-refl a; good = keeps-same a.told; saves = SavesOnly-refl X a.told }

  -- what is said from a later moment is said from an earlier one
  pub later-file : (a b c : Seen) (old mid : List Held) (m : Meta) (w : Result (List ℕ) Refused) (r : Result Entry Stop)
      → AgreesAfter a.told b.told old mid
      → MakesFile X N p b c mid m w r → MakesFile X N p a c old m w r
  later-file a b c old mid m (Ok n) (Ok e) first h = record { plan = h.plan; after = after-then a.told b.told c.told old mid _ first h.after }
  later-file a b c old mid m (Err why) (Ok e) first h = h
  later-file a b c old mid m (Ok n) (Err (stop.Refused given)) first h = h
  later-file a b c old mid m (Err why) (Err (stop.Refused given)) first h = h
  later-file a b c old mid m (Ok n) (Err (stop.Store f)) first h = loss-after a.told b.told old mid f first h
  later-file a b c old mid m (Err why) (Err (stop.Store f)) first h = loss-after a.told b.told old mid f first h

  -- ---- what is found under a name, begun with and rewritten

  -- what isn't begun with isn't made
  pub new-refused : (a b : Seen) (old : List Held) (m : Meta) (what : FileEdit) (x : List ℕ) (led : ℕ) (o : Option Tree) (refused : Refused)
      → Decides (λ bytes start. IsStart X N a.told p what o bytes start) (begun what led o) (Err refused)
      → MakesFile X N p a b old m (fitting_bytes p what x led o) (Err (stop.Refused refused))
  new-refused a b old m what x led o refused h = by (begun what led o) h
    where
      by : (w : Result (List ℕ) Refused) → Decides (λ bytes start. IsStart X N a.told p what o bytes start) w (Err refused)
          → MakesFile X N p a b old m (and_then (and_then w (λ bytes. Ok (rewritten what x bytes))) (fitting p)) (Err (stop.Refused refused))
      by (Ok bytes) h = absurd h
      by (Err why) h = h

  -- a file of a telling store holds all its blocks, where those are held
  tells : (told : Told) (k : List Held) (m : Meta) (n : List ℕ) → Agrees told k → Holds told (file_plan X p m n).blocks
      → TellsHeld told (blocks X N p (File m n))
  unfolding planned fold
  tells None k m n agrees held = absurd agrees
  tells (Some t) k m n agrees held = held

  -- with no blocks none is lost
  none-lost : (told : Told) (k l : List Held) (f : StoreFault) → Agrees told k → IsLossOf told [] f → IsLossOf told l f
  none-lost told k l Failed agrees h = h
  none-lost told k l (Damaged c) agrees h = h
  none-lost None k l (Missing c) agrees h = absurd agrees
  none-lost (Some t) k l (Missing c) agrees h = absurd h
  none-lost told k l (BadBlock c role) agrees h = h
  none-lost told k l (Clash c other bytes) agrees h = h
  none-lost told k l Memory agrees h = h

  -- a store that agrees with some blocks tells
  none-agrees : (told : Told) (k : List Held) → Agrees told k → Agrees told []
  none-agrees None k h = h
  none-agrees (Some t) k h = tt

  -- a file that is made of no bytes
  created : (a c : Seen) (folder : Entry) (es : Entries) (m : Meta) (n : List ℕ) (r : Result Entry BuildFault) (s : Result Entry Stop)
      → IsFolderOver X N p a c [] folder es → IsTrue (is_tree (File m n))
      → RefusesTooLong (nat_lt (most_bytes p) (length n)) r
      → EditsOver a.told [] (file_plan X p m n).entry r → OnOk r (Holds c.told (file_plan X p m n).blocks) → IsStepOf r s
      → MakesFile X N p a c (blocks X N p (Dir es)) m (fitting p n) s
  unfolding planned fold
  created a c folder es m n (Ok e) s over tree long value held is =
      subst (λ s. MakesFile X N p a c (blocks X N p (Dir es)) m (fitting p n) s) (sym is)
      (subst (λ o. MakesFile X N p a c (blocks X N p (Dir es)) m (unless n o) (Ok e)) (sym (file-fits n long))
      (record { plan = file-plan-of e m n over.plan.profile tree long value; after = after-held a.told c.told (blocks X N p (Dir es)) _ (tells c.told (blocks X N p (Dir es)) m n over.stays.last held) }))
  created a c folder es m n (Err FileTooLong) s over tree long value held is =
      subst (λ s. MakesFile X N p a c (blocks X N p (Dir es)) m (fitting p n) s) (sym is)
      (subst (λ o. MakesFile X N p a c (blocks X N p (Dir es)) m (unless n o) (Err (stop.Refused why.FileTooLong))) (sym (file-long n long)) refl)
  created a c folder es m n (Err Spent) s over tree long value held is = absurd is
  created a c folder es m n (Err (Store f)) s over tree long value held is =
      subst (λ s. MakesFile X N p a c (blocks X N p (Dir es)) m (fitting p n) s) (sym is)
      (lost-file a c (blocks X N p (Dir es)) m (fitting p n) f (none-lost a.told (blocks X N p (Dir es)) (blocks X N p (Dir es)) f over.stays.first value))

  pub created-file : (a c : Seen) (folder : Entry) (es : Entries) (m : Meta) (offset : ℕ) (x : List ℕ) (r : Result Entry BuildFault) (s : Result Entry Stop)
      → IsFolderOver X N p a c [] folder es → IsTrue (is_meta m) → IsBytes x
      → RefusesTooLong (nat_lt 0 (length x) && nat_lt (most_bytes p) (offset + length x)) r
      → (StaysAgreed a.told c.told [] → Stood a.faults c.faults → Stood a.clashes c.clashes → EditsOver a.told [] (file_plan X p m (laid [] offset x)).entry r)
      → (StaysAgreed a.told c.told [] → OnOk r (Holds c.told (file_plan X p m (laid [] offset x)).blocks))
      → IsStepOf r s → MakesFile X N p a c (blocks X N p (Dir es)) m (fitting p (laid [] offset x)) s
  unfolding is_tree
  created-file a c folder es m offset x r s over fine bytes long value held is =
      let told : StaysAgreed a.told c.told [] = record { first = none-agrees a.told (blocks X N p (Dir es)) over.stays.first; last = none-agrees c.told (blocks X N p (Dir es)) over.stays.last } in
      created a c folder es m (laid [] offset x) r s over (and-true fine (all-laid (λ b. nat_lt b 256) [] offset x refl refl (bytes-all x bytes)))
      (subst (λ t. RefusesTooLong t r) (laid-long (most_bytes p) offset [] x (omega arith)) long) (value told over.calm.faults over.calm.clashes) (held told) is

  pub created-touches : (m : Meta) (offset : ℕ) (x : List ℕ) (r : Result Entry BuildFault) (t0 t1 bound : ℕ)
      → RefusesTooLong (nat_lt 0 (length x) && nat_lt (most_bytes p) (offset + length x)) r
      → TouchedFirst r t0 t1 → t1 ≤ t0 + bound
      → t1 ≤ t0 + cond (nat_lt (most_bytes p) (length (laid [] offset x))) 0 bound
  created-touches m offset x r t0 t1 bound long first touches =
      within (most_bytes p) (length (laid [] offset x)) bound r t0 t1
      (subst (λ t. RefusesTooLong t r) (laid-long (most_bytes p) offset [] x (omega arith)) long) first touches

  -- such a file, of what was found under a name
  pub new-created : (a c : Seen) (old : List Held) (m kept : Meta) (how : WriteHow) (what : FileEdit) (x : List ℕ) (led : ℕ) (o : Option Tree) (r : Result Entry Stop) → IsTrue (is_meta (kept_meta o))
      → Decides (λ bytes start. IsStart X N a.told p what o bytes start) (begun what led o) (Ok (Empty m how)) → (IsTrue (is_meta m) → kept ≡ m)
      → MakesFile X N p a c old kept (fitting p (rewritten (Write how) x [])) r
      → MakesFile X N p a c old (kept_meta o) (fitting_bytes p what x led o) r
  new-created a c old m kept how what x led o r fine start good made = by (begun what led o) start
    where
      by : (w : Result (List ℕ) Refused) → Decides (λ bytes start. IsStart X N a.told p what o bytes start) w (Ok (Empty m how))
          → MakesFile X N p a c old (kept_meta o) (and_then (and_then w (λ bytes. Ok (rewritten what x bytes))) (fitting p)) r
      by (Err why) h = absurd h
      by (Ok bytes) h =
          let same : kept ≡ kept_meta o = good (subst (λ m. IsTrue (is_meta m)) (sym h.1) fine) ∙ h.1 in
          subst (λ n. MakesFile X N p a c old (kept_meta o) (fitting p (rewritten what x n)) r) (sym h.0)
          (subst (λ what. MakesFile X N p a c old (kept_meta o) (fitting p (rewritten what x [])) r) (sym h.2)
          (subst (λ m. MakesFile X N p a c old m (fitting p (rewritten (Write how) x [])) r) same made))

  pub new-created-touches : (told : Told) (m kept : Meta) (how : WriteHow) (what : FileEdit) (x : List ℕ) (rows : ℕ → ℕ) (led : ℕ) (o : Option Tree) (t0 t1 : ℕ) → IsTrue (is_meta (kept_meta o))
      → Decides (λ bytes start. IsStart X N told p what o bytes start) (begun what led o) (Ok (Empty m how)) → (IsTrue (is_meta m) → kept ≡ m)
      → t1 ≤ t0 + rewriting_touches p rows (Write how) x kept [] → t1 ≤ t0 + file_touches p rows what x o
  new-created-touches told m kept how what x rows led o t0 t1 fine start good few = by (begun what led o) refl start
    where
      by : (w : Result (List ℕ) Refused) → begun what led o ≡ w → Decides (λ bytes start. IsStart X N told p what o bytes start) w (Ok (Empty m how))
          → t1 ≤ t0 + file_touches p rows what x o
      by (Err why) is h = absurd h
      by (Ok bytes) is h =
          let same : kept ≡ kept_meta o = good (subst (λ m. IsTrue (is_meta m)) (sym h.1) fine) ∙ h.1 in
          let one : t1 ≤ t0 + rewriting_touches p rows what x (kept_meta o) bytes = subst (λ n. t1 ≤ t0 + rewriting_touches p rows what x (kept_meta o) n) (sym h.0)
          (subst (λ what. t1 ≤ t0 + rewriting_touches p rows what x (kept_meta o) []) (sym h.2)
          (subst (λ m. t1 ≤ t0 + rewriting_touches p rows (Write how) x m []) same few)) in
          subst (λ (w : Result (List ℕ) Refused). t1 ≤ t0 + touches-of p rows what x (kept_meta o) w) (sym (begun-anyhow what led 0 o bytes is)) one

  module _ {Bad Other : Role → List ℕ → Type 0} {fault : Option StoreFault} {a b c : Seen} (before : OnlySaves X Bad None a b) (after : OnlySaves X Other fault b c) where
    -- the file that is begun with, before it is rewritten
    begun-over : (folder old : Entry) (es : Entries) (m : Meta) (bytes : List ℕ) → IsFolderOver X N p a c [] folder es
        → IsAfter X N a.told b.told (blocks X N p (Dir es)) p old (File m bytes)
        → IsFileOver X N p b c old m bytes
    begun-over folder old es m bytes o h = record {
      plan = h.plan;
      stays = onward X a.told b.told c.told _ _ h.after (are-good X N p (File m bytes)) after.good o.stays;
      calm = calm-then before o.calm;
    }

    pub new-made : (folder old : Entry) (what : FileEdit) (x : List ℕ) (led : ℕ) (name : List ℕ) (es : Entries) (r : Result Entry Stop) → IsFolderOver X N p a c [] folder es
        → MakesFile X N p a b (blocks X N p (Dir es)) (kept_meta (child name es)) (begun what led (child name es)) (Ok old)
        → ((m : Meta) (bytes : List ℕ) → IsFileOver X N p b c old m bytes → MakesFile X N p b c (blocks X N p (File m bytes)) m (fitting p (rewritten what x bytes)) r)
        → MakesFile X N p a c (blocks X N p (Dir es)) (kept_meta (child name es)) (fitting_bytes p what x led (child name es)) r
    new-made folder old what x led name es r o start makes = by (begun what led (child name es)) start
      where
        by : (w : Result (List ℕ) Refused) → MakesFile X N p a b (blocks X N p (Dir es)) (kept_meta (child name es)) w (Ok old)
            → MakesFile X N p a c (blocks X N p (Dir es)) (kept_meta (child name es)) (and_then (and_then w (λ bytes. Ok (rewritten what x bytes))) (fitting p)) r
        by (Err why) h = absurd h
        by (Ok bytes) h = later-file a b c _ _ (kept_meta (child name es)) (fitting p (rewritten what x bytes)) r h.after (makes (kept_meta (child name es)) bytes (begun-over folder old es (kept_meta (child name es)) bytes o h))

    pub new-touches : (folder old : Entry) (what : FileEdit) (x : List ℕ) (rows : ℕ → ℕ) (led : ℕ) (name : List ℕ) (es : Entries) (t0 t1 t2 : ℕ) → IsFolderOver X N p a c [] folder es
        → MakesFile X N p a b (blocks X N p (Dir es)) (kept_meta (child name es)) (begun what led (child name es)) (Ok old) → t1 ≤ t0
        → ((m : Meta) (bytes : List ℕ) → IsFileOver X N p b c old m bytes → t2 ≤ t1 + rewriting_touches p rows what x m bytes)
        → t2 ≤ t0 + file_touches p rows what x (child name es)
    new-touches folder old what x rows led name es t0 t1 t2 o start first takes = by (begun what led (child name es)) refl start
      where
        by : (w : Result (List ℕ) Refused) → begun what led (child name es) ≡ w
            → MakesFile X N p a b (blocks X N p (Dir es)) (kept_meta (child name es)) w (Ok old)
            → t2 ≤ t0 + file_touches p rows what x (child name es)
        by (Err why) is h = absurd h
        by (Ok bytes) is h =
            let r = takes (kept_meta (child name es)) bytes (begun-over folder old es (kept_meta (child name es)) bytes o h) in
            subst (λ (w : Result (List ℕ) Refused). t2 ≤ t0 + touches-of p rows what x (kept_meta (child name es)) w) (sym (begun-anyhow what led 0 (child name es) bytes is)) (omega (arith, first, r))

  -- ---- the file put into its folder

  -- a file that isn't made stops the edit
  pub member-stopped : (a b : Seen) (what : FileEdit) (x : List ℕ) (led : ℕ) (name : List ℕ) (es : Entries) (s : Stop)
      → MakesFile X N p a b (blocks X N p (Dir es)) (kept_meta (child name es)) (fitting_bytes p what x led (child name es)) (Err s)
      → EditsAfter X N a.told b.told (blocks X N p (Dir es)) p (allowed X N p (with_fitting p what x led name es)) (Err s)
  member-stopped a b what x led name es s h = by (fitting_bytes p what x led (child name es)) s h
    where
      old : List Held
      old = blocks X N p (Dir es)

      put : List ℕ → Entries
      put n = with_child name (File (kept_meta (child name es)) n) es

      by : (w : Result (List ℕ) Refused) (s : Stop) → MakesFile X N p a b old (kept_meta (child name es)) w (Err s)
          → EditsAfter X N a.told b.told old p (allowed X N p (and_then w (λ n. Ok (put n)))) (Err s)
      by (Ok n) (stop.Refused given) h = absurd h
      by (Ok n) (stop.Store f) h = lost-edit X N p a.told b.told old (allowed X N p (Ok (put n))) f h
      by (Err why) (stop.Refused given) h = h
      by (Err why) (stop.Store f) h = h

  -- the bytes that it has else
  record Makes (a b : Seen) (what : FileEdit) (x : List ℕ) (led : ℕ) (name : List ℕ) (es : Entries) (new : Entry) : Type 0 where
    bytes : List ℕ
    puts : with_fitting p what x led name es ≡ Ok (with_child name (File (kept_meta (child name es)) bytes) es)
    is : IsAfter X N a.told b.told (blocks X N p (Dir es)) p new (File (kept_meta (child name es)) bytes)

  makes : (a b : Seen) (what : FileEdit) (x : List ℕ) (led : ℕ) (name : List ℕ) (es : Entries) (new : Entry)
      → MakesFile X N p a b (blocks X N p (Dir es)) (kept_meta (child name es)) (fitting_bytes p what x led (child name es)) (Ok new)
      → Makes a b what x led name es new
  makes a b what x led name es new h = by (fitting_bytes p what x led (child name es)) refl h
    where
      by : (w : Result (List ℕ) Refused) → fitting_bytes p what x led (child name es) ≡ w
          → MakesFile X N p a b (blocks X N p (Dir es)) (kept_meta (child name es)) w (Ok new) → Makes a b what x led name es new
      by (Ok n) is h = record {
        bytes = n;
        puts = ap (λ (w : Result (List ℕ) Refused). and_then w (λ bytes. Ok (with_child name (File (kept_meta (child name es)) bytes) es))) is;
        is = h;
      }
      by (Err why) is h = absurd h

  module _ {Bad Other : Role → List ℕ → Type 0} {fault : Option StoreFault} {a b c : Seen} (before : OnlySaves X Bad None a b) (after : OnlySaves X Other fault b c)
      (folder new : Entry) (what : FileEdit) (x : List ℕ) (led : ℕ) (name : List ℕ) (es : Entries) (o : IsFolderOver X N p a c [] folder es)
      (made : MakesFile X N p a b (blocks X N p (Dir es)) (kept_meta (child name es)) (fitting_bytes p what x led (child name es)) (Ok new)) where
    m : Makes a b what x led name es new
    m = makes a b what x led name es new made

    abbrev file : Tree
    file = File (kept_meta (child name es)) m.bytes

    came : AgreesAfter a.told b.told (blocks X N p (Dir es)) (blocks X N p file ++ blocks X N p (Dir es))
    came = beside X N p before after [] (blocks X N p file) folder es tt o m.is.after

    beside-it : IsFolderOver X N p b c (blocks X N p file) folder es
    beside-it = over-then X N p before after [] (blocks X N p file) folder folder es es (are-good X N p file) o.plan o came

    pub member-put : (r : Result (Option Entry) Stop)
        → ((t : Tree) → IsPlanOf X N p new t → ChangesFolder X N p b c (blocks X N p t) folder (λ es. Ok (with_child name t es)) r)
        → ChangesOver X N p a c [] es (with_fitting p what x led name es) r
    member-put r puts = subst (λ (w : Result Entries Refused). ChangesOver X N p a c [] es w r) (sym m.puts)
        (changes-over X N p before after [] (blocks X N p file) folder es (Ok (with_child name file es)) r o came (puts file m.is.plan es beside-it))

    pub member-touches : (n t0 t1 t2 : ℕ) → t1 ≤ t0 + n
        → ((t : Tree) → IsPlanOf X N p new t → TouchesFolder X N p b c (blocks X N p t) folder (λ es. 17 + crossing X N p (named_entries X N p es) (named_entries X N p (with_child name t es))) t1 t2)
        → t2 ≤ t0 + (19 + crossings_of X N p (name ∷ []) es (with_fitting p what x led name es) + where_done (with_fitting p what x led name es) n)
    member-touches n t0 t1 t2 first takes =
        let r = takes file m.is.plan es beside-it in
        subst (λ (w : Result Entries Refused). t2 ≤ t0 + (19 + crossings_of X N p (name ∷ []) es w + where_done w n)) (sym m.puts) (omega (arith, first, r))

  -- a file that is refused takes no touch
  pub file-done : (rows : ℕ → ℕ) (what : FileEdit) (x : List ℕ) (led : ℕ) (name : List ℕ) (es : Entries)
      → file_touches p rows what x (child name es) ≤ where_done (with_fitting p what x led name es) (file_touches p rows what x (child name es))
  file-done rows what x led name es = by (begun what led (child name es)) refl
    where
      done : (w : Result (List ℕ) Refused) → Result Entries Refused
      done w = and_then w (λ bytes. Ok (with_child name (File (kept_meta (child name es)) bytes) es))

      Within : Result (List ℕ) Refused → Result Entries Refused → Type 0
      Within w next = touches-of p rows what x (kept_meta (child name es)) w ≤ where_done next (touches-of p rows what x (kept_meta (child name es)) w)

      none : (why : Refused) → begun what led (child name es) ≡ Err why → (w : Result (List ℕ) Refused) → begun what 0 (child name es) ≡ w → Within w (Err why)
      none why is (Err other) at_first = omega arith
      none why is (Ok bytes) at_first = absurd (let no : Err why ≡ Ok bytes = sym is ∙ begun-anyhow what 0 led (child name es) bytes at_first in cc)

      some : (bytes : List ℕ) (touches : ℕ) (long : Bool) → cond long 0 touches ≤ where_done (done (unless bytes (cond long (Some TooLong) None))) (cond long 0 touches)
      some bytes touches true = omega arith
      some bytes touches false = omega arith

      by : (w : Result (List ℕ) Refused) → begun what led (child name es) ≡ w
          → Within (begun what 0 (child name es)) (done (and_then (and_then w (λ bytes. Ok (rewritten what x bytes))) (fitting p)))
      by (Err why) is = none why is (begun what 0 (child name es)) refl
      by (Ok bytes) is =
          subst (λ (w : Result (List ℕ) Refused). Within w (done (fitting p (rewritten what x bytes)))) (sym (begun-anyhow what led 0 (child name es) bytes is))
          (some (rewritten what x bytes) _ (nat_lt (most_bytes p) (length (rewritten what x bytes))))

  -- ---- whose blocks are bad

  pub way-written : {fault : Option StoreFault} {a b : Seen} (told : Told) (root : Cid) → OnlySaves X (IsBadInTree X N (Some p) root) fault a b
      → OnlySaves X (IsBadWrittenIn X N p told root) fault a b
  way-written told root h = saves-by (IsBadWrittenIn X N p told root) (λ role bytes bad. inl bad) h

  pub in-written : {fault : Option StoreFault} {a b : Seen} (told : Told) (root : Cid)
      → OnlySaves X (IsBadInSome X p told) fault a b → OnlySaves X (IsBadWrittenIn X N p told root) fault a b
  in-written told root h = saves-by (IsBadWrittenIn X N p told root) (λ role bytes bad. inr bad) h

  -- below a directory that is required
  pub written-below : {fault : Option StoreFault} {a b : Seen} (told : Told) (root below : Cid) → RequiresDirectory X root below.digest
      → OnlySaves X (IsBadWrittenIn X N p told below) fault a b → OnlySaves X (IsBadWrittenIn X N p told root) fault a b
  written-below told root below r h = saves-by (IsBadWrittenIn X N p told root) by h
    where
      by : (role : Role) (bytes : List ℕ) → IsBadWrittenIn X N p told below role bytes → IsBadWrittenIn X N p told root role bytes
      by role bytes (inl bad) = inl (bad-below X N (Some p) root below r role bytes bad)
      by role bytes (inr bad) = inr bad

  pub in-some : {fault : Option StoreFault} {a b : Seen} (told : Told) (root : Cid)
      → OnlySaves X (IsBadEdited X p told root) fault a b → OnlySaves X (IsBadInSome X p told) fault a b
  in-some told root h = saves-by (IsBadInSome X p told) (λ role bytes bad. (root, bad)) h

  -- ---- along the path

  pub file-leads : (rows : ℕ → ℕ) (what : FileEdit) (x : List ℕ) (led : ℕ) (name next : List ℕ) (more : List (List ℕ)) (es below : Entries) → as_folder led (child name es) ≡ Ok below
      → (entries_at name es ≡ below) × (file_touches p rows what x (member_at (next ∷ more) below) ≤ file_touches p rows what x (member_at (name ∷ next ∷ more) es))
  file-leads rows what x led name next more es below is =
      let there = (folder-leads X N p Make led name next more (λ fs. Ok fs) es below is).0 in
      (there, subst (λ (y : Entries). file_touches p rows what x (member_at (next ∷ more) below) ≤ file_touches p rows what x (member_at (next ∷ more) y)) (sym there) (omega arith))
