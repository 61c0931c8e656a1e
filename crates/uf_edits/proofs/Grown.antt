-- The steps of the generator, over a store that never failed.
use Rattle.std.proofs.Common.{◌≡◌, ℕ, suc, ◌+◌, ◌<◌, ◌≤◌, refl, ap, sym, ◌∙◌, subst, arith, zero, List, Result, Ok, Err, None, Some, ◌⊎◌, inl, inr}
use Rattle.std.proofs.Math.Nat.{eq-or-lt_of_le}
use Rattle.uf_edge.specs.Counts.{Stood}
use Rattle.uf_gen.specs.Fresh.{left_tree}
use Rattle.uf_gen.proofs.Steps.{grown-left}
use Rattle.uf_gen.specs.Grown.{after_change, after_make, after_step, after_write, changed_files, file_path, made_files, making, stepped, writing_at}
use Rattle.uf_gen.specs.Rules.{first_bytes, late_offset, late_piece}
use Rattle.uf_mfs.specs.Moving.{Gives}
use Rattle.uf_mfs.specs.Answers.{ShownOpening}
use Rattle.uf_mfs.specs.Standing.{Commits, FindsHead, Idle, Inits, LeavesHead, OnlySynced, Same, SavesThen, StandsAt, Written}
use Rattle.uf_mfs.specs.declared.fault.MfsFault.{MfsFault}
use Rattle.uf_mfs.specs.declared.fault.MfsFault.TheVariants as fault
use Rattle.uf_mfs.specs.declared.mfs.Mfs.{Mfs}
use Rattle.uf_path.specs.declared.path.Path.{Path}
use Rattle.uf_plain.specs.Edits.{removed}
use Rattle.uf_plain.specs.Moves.{then_go, told_of}
use Rattle.uf_plain.specs.declared.ready.Ready.TheVariants as ready
use Rattle.uf_plain.specs.declared.rule.Rule.{Rule}
use Rattle.std.specs.Prelude.{Bool, IfSome, true, false, ◌%◌, ◌==◌, if◌then◌else◌}
use Rattle.uf_cid.specs.declared.cid.Cid.{Cid}
use Rattle.uf_car.proofs.Clashing.{none-good}
use Rattle.uf_store.specs.Calls.{Calm}
use Rattle.uf_store.specs.Contents.{Contents, Told, held_at, with_sync, with_text}
use Rattle.uf_shard.specs.Answers.{Gives as GivesEntry, dir_fault}
use Rattle.uf_shard.specs.declared.fault.DirFault.{DirFault}
use Rattle.uf_shard.specs.declared.fault.DirFault.TheVariants as dir
use Rattle.uf_store.specs.Faults.{NoneIsBad, Shown, Shows, ShowsClash, StaysCalm}
use Rattle.uf_store.specs.InMemory.{new_seen, no_contents}
use Rattle.uf_store.specs.Writing.{IsSave, SavesOnly, Wrote}
use Rattle.uf_store.specs.declared.store.Write.{Write}
use Rattle.uf_store.proofs.Writing.{Wrote-came}
use Rattle.uf_store.specs.Seen.{Seen}
use Rattle.uf_store.specs.declared.store.Note.TheVariants.{Head}
use Rattle.uf_store.specs.declared.store.Role.{Role}
use Rattle.uf_store.specs.declared.store.StoreFault.{StoreFault}
use Rattle.uf_store.specs.declared.store.StoreFault.TheVariants as store
use Rattle.uf_tree.specs.Heads.{head_text}
use Rattle.uf_tree.specs.Tree.{Dir, Entries}
use Rattle.uf_tree.specs.TreePlan.{entry, refusal as refusal-of}
use Rattle.uf_tree.specs.declared.nodes.Entry.{Entry}
use Rattle.uf_tree.specs.declared.profile.Profile.{Profile}
use Rattle.uf_command.specs.Statuses.{own_refusal}
use Rattle.uf_command.specs.declared.types.Edit.{Edit}
use Rattle.uf_command.specs.declared.types.Edit.TheVariants.{Rm, Write as Writes}
use Rattle.uf_command.specs.declared.types.Refusal.{Refusal}
use Rattle.uf_gen.specs.declared.step.Step.{Step}
use Rattle.uf_gen.specs.declared.step.Step.TheVariants.{Make, Change}
use Rattle.uf_edits.specs.Edits.{IsTreeFault, edited_by, EditsInMemory}
use Rattle.uf_edits.specs.Generated.{Grows, GrowsRoot, IsGenerated, IsOfStore, IsShownClash, RefusesFresh, RefusesOwn, StandsCalm, StandsFor, TellsDigests, TwoGenerated, generated_lines, growth_told, small_profile, step_edit}

stood : (before now : ℕ) → before ≡ 0 → now ≡ before → Stood before now
stood before now none same = omega arith

-- ---- what is held has its CID's digest

module _ (X : List ℕ → List ℕ) where
  digest-of : (cid : Cid) (held : List ℕ) (told : Told) → TellsDigests X told → IfSome told (λ t. held_at t cid ≡ Some held) → X held ≡ cid.digest
  digest-of cid held None d is = absurd (let e = d.tells in cc)
  digest-of cid held (Some t) d is =
      let e : t ≡ d.contents = (let same = d.tells in cc) in
      d.digests cid held (subst (λ (x : Contents). held_at x cid ≡ Some held) e is)

  digests-kept : (IsOne : Write → Type 0) (a b : Told) → Wrote X IsOne a b → TellsDigests X a → TellsDigests X b
  digests-kept IsOne None b h d = absurd (let e = d.tells in cc)
  digests-kept IsOne (Some t) None h d = absurd h
  digests-kept IsOne (Some t) (Some u) h d = record { contents = u; tells = refl; digests = λ cid bytes is. by cid bytes (Wrote-came X IsOne t u h cid bytes is) }
    where
      by : (cid : Cid) (bytes : List ℕ) → (held_at t cid ≡ Some bytes) ⊎ (X bytes ≡ cid.digest) → X bytes ≡ cid.digest
      by cid bytes (inl there) = digest-of cid bytes (Some t) d there
      by cid bytes (inr digest) = digest

  new-digests : (seen : Seen) → seen ≡ new_seen → TellsDigests X seen.told
  new-digests seen e = subst (λ (s : Seen). TellsDigests X s.told) (sym e) (record { contents = no_contents; tells = refl; digests = none-good X })

  committed-digests : (p : Profile) (root : Cid) (a b : Told) → Commits p root a b → TellsDigests X a → TellsDigests X b
  committed-digests p root a b (Idle head same) d = subst (TellsDigests X) (sym same) d
  committed-digests p root None b (Written head same) d = absurd (let e = d.tells in cc)
  committed-digests p root (Some t) b (Written head same) d =
      subst (TellsDigests X) (sym same) (record { contents = with_text Head (head_text p root) (with_sync t); tells = refl; digests = λ cid bytes is. digest-of cid bytes (Some t) d is })

  left-digests : (a b : Told) → LeavesHead a b → TellsDigests X a → TellsDigests X b
  left-digests a b (Same same) d = subst (TellsDigests X) (sym same) d
  left-digests None b (OnlySynced same) d = absurd (let e = d.tells in cc)
  left-digests (Some t) b (OnlySynced same) d =
      subst (TellsDigests X) (sym same) (record { contents = with_sync t; tells = refl; digests = λ cid bytes is. digest-of cid bytes (Some t) d is })

  -- so a clash is of two blocks of one digest, which the CID has
  two-generated : (cid : Cid) (held bytes : List ℕ) (before now : Seen) → TellsDigests X now.told → ShowsClash X cid held bytes before now → TwoGenerated X cid held bytes
  two-generated cid held bytes before now d h = record { clash = h.clash; digest = digest-of cid held now.told d h.is_held }

module _ (X : List ℕ → List ℕ) (N : List ℕ → ℕ) where
  calm : (es : Entries) (before now : Seen) (tree : Mfs) → StandsCalm X N es before tree → StaysCalm before now → Calm before now
  calm es before now tree s c = record { faults = stood _ _ s.faults c.faults; clashes = stood _ _ s.clashes c.clashes }

  shown-clash : (Bad : Role → List ℕ → Type 0) (f : StoreFault) (before now : Seen) → TellsDigests X now.told → Shows X Bad f before now → IsShownClash X f
  shown-clash Bad store.Failed before now d h = tt
  shown-clash Bad (store.Damaged c) before now d h = tt
  shown-clash Bad (store.Missing c) before now d h = tt
  shown-clash Bad (store.BadBlock c role) before now d h = tt
  shown-clash Bad (store.Clash c held bytes) before now d h = two-generated X c held bytes before now d h
  shown-clash Bad store.Memory before now d h = tt

  given-ok : (r : Result Entries Rule) (done : Unit {0}) (before now : Seen) (next : Mfs) → StaysCalm before now
      → before.faults ≡ 0 → before.clashes ≡ 0 → TellsDigests X now.told
      → Gives (λ fs done. StandsAt X N now.told next small_profile fs) r (Ok done) → StandsFor X N r now next
  given-ok (Ok fs) done before now next c a b d h = record { stands = h; faults = c.faults ∙ a; clashes = c.clashes ∙ b; digests = d }
  given-ok (Err rule) done before now next c a b d h = h

  given-rule : (r : Result Entries Rule) (now : Seen) (next : Mfs) (rule : Rule)
      → Gives {B = Unit {0}} (λ fs done. StandsAt X N now.told next small_profile fs) r (Err (fault.Rule rule)) → r ≡ Err rule
  given-rule (Ok fs) now next rule h = absurd h
  given-rule (Err other) now next rule h = ap Err (sym h)

  step-grows : (tree next : Mfs) (edit : Edit) (path : Path) (done : Result Unit MfsFault) (before now : Seen) (was is : ℕ)
      → EditsInMemory X N tree next edit path done before now was is
      → (es : Entries) → StandsCalm X N es before tree
      → Grows X N (edited_by X N edit path.names small_profile es) now next done
  step-grows tree next edit path (Ok done) before now was is h es s =
      given-ok _ done before now next h.cause s.faults s.clashes (digests-kept X IsSave before.told now.told h.saves s.digests) (h.answers small_profile es s.stands (calm es before now tree s h.cause))
  step-grows tree next edit path (Err (fault.Rule rule)) before now was is h es s =
      given-rule _ now next rule (h.answers small_profile es s.stands (calm es before now tree s h.cause))
  step-grows tree next edit path (Err (fault.Ready why)) before now was is h es s = h.cause
  step-grows tree next edit path (Err fault.Sink) before now was is h es s = h.cause
  step-grows tree next edit path (Err (fault.Store f)) before now was is h es s =
      shown-clash _ f before now (digests-kept X IsSave before.told now.told h.saves s.digests) h.cause

  pub edit-grows : (tree next : Mfs) (edit : Edit) (path : Path) (names : List (List ℕ)) (done : Result Unit MfsFault)
      (before now : Seen) (was is : ℕ) → path.names ≡ names → EditsInMemory X N tree next edit path done before now was is
      → (made : Result Entries Rule) → StandsFor X N made before tree
      → Grows X N (then_go made (edited_by X N edit names small_profile)) now next done
  edit-grows tree next edit path names done before now was is e h (Ok es) s =
      subst (λ (names : List (List ℕ)). Grows X N (edited_by X N edit names small_profile es) now next done) e
      (step-grows tree next edit path done before now was is h es s)
  edit-grows tree next edit path names done before now was is e h (Err rule) s = absurd s

  -- a step that was refused refuses all that follow
  refused-on : (rule : Rule) (go : Entries → Result Entries Rule) (made : Result Entries Rule) → made ≡ Err rule → then_go made go ≡ Err rule
  refused-on rule go made e = ap (λ r. then_go r go) e

  made-refused : (seed n i : ℕ) (rule : Rule) → i ≤ n → made_files X N small_profile seed i ≡ Err rule
      → made_files X N small_profile seed n ≡ Err rule
  unfolding made_files
  made-refused seed zero i rule le e = ap (made_files X N small_profile seed) {x = 0} {y = i} (omega arith) ∙ e
  made-refused seed (suc n) i rule le e = by (made-refused seed n i rule) (eq-or-lt_of_le le)
    where
      by : (i ≤ n → made_files X N small_profile seed i ≡ Err rule → made_files X N small_profile seed n ≡ Err rule)
          → (i ≡ suc n) ⊎ (i < suc n) → made_files X N small_profile seed (suc n) ≡ Err rule
      by rec (inl same) = ap (made_files X N small_profile seed) (sym same) ∙ e
      by rec (inr less) = refused-on rule (after_make X N small_profile seed n) _ (rec (omega arith) e)

  changed-refused : (seed m n i : ℕ) (rule : Rule) → i ≤ n → changed_files X N small_profile seed m i ≡ Err rule
      → changed_files X N small_profile seed m n ≡ Err rule
  unfolding changed_files
  changed-refused seed m zero i rule le e = ap (changed_files X N small_profile seed m) {x = 0} {y = i} (omega arith) ∙ e
  changed-refused seed m (suc n) i rule le e = by (changed-refused seed m n i rule) (eq-or-lt_of_le le)
    where
      by : (i ≤ n → changed_files X N small_profile seed m i ≡ Err rule → changed_files X N small_profile seed m n ≡ Err rule)
          → (i ≡ suc n) ⊎ (i < suc n) → changed_files X N small_profile seed m (suc n) ≡ Err rule
      by rec (inl same) = ap (changed_files X N small_profile seed m) (sym same) ∙ e
      by rec (inr less) = refused-on rule (after_change X N small_profile seed n) _ (rec (omega arith) e)

  one-more-made : (seed i : ℕ) → made_files X N small_profile seed (i + 1)
      ≡ then_go (made_files X N small_profile seed i) (after_make X N small_profile seed i)
  unfolding made_files
  one-more-made seed i = ap (made_files X N small_profile seed) {x = i + 1} {y = suc i} (omega arith)

  one-more-changed : (seed n i : ℕ) → changed_files X N small_profile seed n (i + 1)
      ≡ then_go (changed_files X N small_profile seed n i) (after_change X N small_profile seed i)
  unfolding changed_files
  one-more-changed seed n i = ap (changed_files X N small_profile seed n) {x = i + 1} {y = suc i} (omega arith)

  -- what refuses a step refuses all of them
  made-stops : (seed n i : ℕ) (now : Seen) (tree : Mfs) (f : MfsFault) → i + 1 ≤ n
      → Grows X N (made_files X N small_profile seed (i + 1)) now tree (Err f)
      → Grows X N (made_files X N small_profile seed n) now tree (Err f)
  made-stops seed n i now tree (fault.Rule rule) le h = made-refused seed n (i + 1) rule le h
  made-stops seed n i now tree (fault.Ready why) le h = h
  made-stops seed n i now tree fault.Sink le h = h
  made-stops seed n i now tree (fault.Store f) le h = h

  changed-stops : (seed m n i : ℕ) (now : Seen) (tree : Mfs) (f : MfsFault) → i + 1 ≤ n
      → Grows X N (changed_files X N small_profile seed m (i + 1)) now tree (Err f)
      → Grows X N (changed_files X N small_profile seed m n) now tree (Err f)
  changed-stops seed m n i now tree (fault.Rule rule) le h = changed-refused seed m n (i + 1) rule le h
  changed-stops seed m n i now tree (fault.Ready why) le h = h
  changed-stops seed m n i now tree fault.Sink le h = h
  changed-stops seed m n i now tree (fault.Store f) le h = h

  zero-changed : (seed n : ℕ) → changed_files X N small_profile seed n 0 ≡ made_files X N small_profile seed n
  unfolding changed_files
  zero-changed seed n = refl

  -- a new store is made ready
  pub begun : (seed : ℕ) (before now : Seen) (mfs : Mfs) → before ≡ new_seen → StaysCalm before now
      → SavesThen X (Commits mfs.profile mfs.root.cid) before.told now.told
      → IfSome before.told (λ t. Stood before.faults now.faults → Stood before.clashes now.clashes
      → Inits X N now.told small_profile t.notes.head (Ok mfs))
      → StandsFor X N (made_files X N small_profile seed 0) now mfs
  unfolding made_files
  begun seed before now mfs e c writes answer =
      let faults : before.faults ≡ 0 = ap (λ (s : Seen). s.faults) e in
      let clashes : before.clashes ≡ 0 = ap (λ (s : Seen). s.clashes) e in
      let inits : Inits X N now.told small_profile None (Ok mfs) =
      subst (λ (told : Told). IfSome told (λ t. Stood before.faults now.faults → Stood before.clashes now.clashes
      → Inits X N now.told small_profile t.notes.head (Ok mfs))) (ap (λ (s : Seen). s.told) e) answer (stood _ _ faults c.faults) (stood _ _ clashes c.clashes) in
      record {
        stands = inits.0;
        faults = c.faults ∙ faults;
        clashes = c.clashes ∙ clashes;
        digests = committed-digests X mfs.profile mfs.root.cid writes.between now.told writes.last (digests-kept X IsSave before.told writes.between writes.saves (new-digests X before e));
      }

  -- or it isn't
  pub unready : (seed n : ℕ) (before now : Seen) (f : MfsFault) → before ≡ new_seen → ShownOpening X NoneIsBad {A = Mfs} (Err f) before now
      → SavesThen X LeavesHead before.told now.told → FindsHead before.told (Err f) → GrowsRoot X N n seed (Err f)
  unready seed n before now (fault.Rule rule) e shown leaves finds = absurd shown
  unready seed n before now (fault.Ready ready.NoHead) e shown leaves finds = absurd finds
  unready seed n before now (fault.Ready ready.HeadThere) e shown leaves finds =
      let there = subst (λ (told : Told). FindsHead told (Err (fault.Ready ready.HeadThere))) (ap (λ (s : Seen). s.told) e) finds in
      absurd (let none = there.1 in cc)
  unready seed n before now (fault.Ready ready.BadHead) e shown leaves finds = absurd finds
  unready seed n before now fault.Sink e shown leaves finds = absurd shown
  unready seed n before now (fault.Store f) e shown leaves finds =
      shown-clash NoneIsBad f before now (left-digests X leaves.between now.told leaves.last (digests-kept X IsSave before.told leaves.between leaves.saves (new-digests X before e))) shown

  -- a step to one more file
  pub one-more : (step : Step) (n seed i : ℕ) → stepped X N small_profile seed step n (i + 1) ≡ then_go (stepped X N small_profile seed step n i) (after_step X N small_profile seed step i)
  one-more Make n seed i = one-more-made seed i
  one-more Change n seed i = one-more-changed seed n i

  pub step-stops : (step : Step) (n seed i : ℕ) (now : Seen) (tree : Mfs) (f : MfsFault) → i + 1 ≤ n
      → Grows X N (stepped X N small_profile seed step n (i + 1)) now tree (Err f) → Grows X N (stepped X N small_profile seed step n n) now tree (Err f)
  step-stops Make n seed i now tree f le h = made-stops seed n i now tree f le h
  step-stops Change n seed i now tree f le h = changed-stops seed n n i now tree f le h

  go-same : (f g : Entries → Result Entries Rule) → ((es : Entries) → f es ≡ g es) → (made : Result Entries Rule) → then_go made f ≡ then_go made g
  go-same f g same (Ok es) = same es
  go-same f g same (Err rule) = refl

  -- the edit of a step
  change-is : (a b : Bool) (seed i : ℕ) (edit : Edit)
      → (if a then Some (Rm false) else (if b then Some (Writes (writing_at (late_offset seed i)) late_piece) else None)) ≡ Some edit
      → (es : Entries) → edited_by X N edit (file_path i) small_profile es
      ≡ (if a then told_of (file_path i) (removed false (file_path i) es) else (if b then after_write X N small_profile seed (writing_at (late_offset seed i)) late_piece i es else Ok es))
  change-is true b seed i edit e es = (let is : Rm false ≡ edit = cc in ap (λ (edit : Edit). edited_by X N edit (file_path i) small_profile es) (sym is))
  change-is false true seed i edit e es =
      (let is : Writes (writing_at (late_offset seed i)) late_piece ≡ edit = cc in ap (λ (edit : Edit). edited_by X N edit (file_path i) small_profile es) (sym is))
  change-is false false seed i edit e es = absurd cc

  edit-is : (step : Step) (seed i : ℕ) (edit : Edit) → step_edit step seed i ≡ Some edit → (es : Entries) → edited_by X N edit (file_path i) small_profile es ≡ after_step X N small_profile seed step i es
  edit-is Make seed i edit e es =
      (let is : Writes making (first_bytes seed i) ≡ edit = cc in ap (λ (edit : Edit). edited_by X N edit (file_path i) small_profile es) (sym is))
  edit-is Change seed i edit e es = change-is (i % 3 == 0) (i % 3 == 1) seed i edit e es

  no-change : (a b : Bool) (seed i : ℕ)
      → (if a then Some (Rm false) else (if b then Some (Writes (writing_at (late_offset seed i)) late_piece) else None)) ≡ None
      → (es : Entries) → (if a then told_of (file_path i) (removed false (file_path i) es) else (if b then after_write X N small_profile seed (writing_at (late_offset seed i)) late_piece i es else Ok es)) ≡ Ok es
  no-change true b seed i e es = absurd cc
  no-change false true seed i e es = absurd cc
  no-change false false seed i e es = refl

  no-edit : (step : Step) (seed i : ℕ) → step_edit step seed i ≡ None → (es : Entries) → after_step X N small_profile seed step i es ≡ Ok es
  no-edit Make seed i e es = absurd cc
  no-edit Change seed i e es = no-change (i % 3 == 0) (i % 3 == 1) seed i e es

  pub step-edits : (step : Step) (seed i : ℕ) (edit : Edit) (now : Seen) (tree : Mfs) (done : Result Unit MfsFault) (made : Result Entries Rule) → Some edit ≡ step_edit step seed i
      → Grows X N (then_go made (edited_by X N edit (file_path i) small_profile)) now tree done → Grows X N (then_go made (after_step X N small_profile seed step i)) now tree done
  step-edits step seed i edit now tree done made e h =
      subst (λ (r : Result Entries Rule). Grows X N r now tree done) (go-same (edited_by X N edit (file_path i) small_profile) (after_step X N small_profile seed step i) (edit-is step seed i edit (sym e)) made) h

  pub step-stays : (step : Step) (seed i : ℕ) (now : Seen) (tree : Mfs) (made : Result Entries Rule) → None ≡ step_edit step seed i → StandsFor X N made now tree
      → StandsFor X N (then_go made (after_step X N small_profile seed step i)) now tree
  step-stays step seed i now tree (Ok es) e h = subst (λ (r : Result Entries Rule). StandsFor X N r now tree) (sym (no-edit step seed i (sym e) es)) h
  step-stays step seed i now tree (Err rule) e h = h

  pub made-changed : (seed n : ℕ) (seen : Seen) (tree : Mfs) → StandsFor X N (made_files X N small_profile seed n) seen tree
      → StandsFor X N (changed_files X N small_profile seed n 0) seen tree
  made-changed seed n seen tree h = subst (λ (r : Result Entries Rule). StandsFor X N r seen tree) (sym (zero-changed seed n)) h

  -- what refuses a step to all files refuses the tree
  pub root-refused : (step : Step) (n seed : ℕ) (now : Seen) (tree : Mfs) (f : MfsFault)
      → Grows X N (stepped X N small_profile seed step n n) now tree (Err f) → GrowsRoot X N n seed (Err f)
  root-refused Make n seed now tree (fault.Rule rule) h = changed-refused seed n n 0 rule (omega arith) (zero-changed seed n ∙ h)
  root-refused Change n seed now tree (fault.Rule rule) h = h
  root-refused step n seed now tree (fault.Ready why) h = h
  root-refused step n seed now tree fault.Sink h = h
  root-refused step n seed now tree (fault.Store f) h = h

  pub root-stands : (n seed : ℕ) (now : Seen) (tree : Mfs) → StandsFor X N (changed_files X N small_profile seed n n) now tree
      → GrowsRoot X N n seed (Ok tree.root)
  root-stands n seed now tree h = by (changed_files X N small_profile seed n n) refl h
    where
      by : (r : Result Entries Rule) → changed_files X N small_profile seed n n ≡ r → StandsFor X N r now tree → GrowsRoot X N n seed (Ok tree.root)
      by (Ok es) e h = (es, e, record { profile = h.stands.root.profile; tree = h.stands.root.tree; planned = h.stands.root.planned; is = h.stands.root.is })
      by (Err rule) e h = absurd h

  pub of-tree : (n seed : ℕ) (f : MfsFault) → GrowsRoot X N n seed (Err f) → IsTreeFault f
  of-tree n seed (fault.Rule rule) h = tt
  of-tree n seed (fault.Ready why) h = absurd h
  of-tree n seed fault.Sink h = absurd h
  of-tree n seed (fault.Store f) h = tt

  own-told : (n seed : ℕ) (f : StoreFault) → IsShownClash X f → IsGenerated X N n seed (Err (own_refusal f))
  own-told n seed store.Failed h = refl
  own-told n seed (store.Damaged c) h = refl
  own-told n seed (store.Missing c) h = refl
  own-told n seed (store.BadBlock c role) h = refl
  own-told n seed (store.Clash c held bytes) h = h
  own-told n seed store.Memory h = refl

  pub told-own : (n seed : ℕ) (f : MfsFault) (why : Refusal) → GrowsRoot X N n seed (Err f) → RefusesOwn f why
      → IsGenerated X N n seed (Err why)
  told-own n seed (fault.Rule rule) why h e = subst (λ (why : Refusal). IsGenerated X N n seed (Err why)) (sym e) (sym (ap (growth_told X N n seed) h))
  told-own n seed (fault.Ready ready) why h e = absurd h
  told-own n seed fault.Sink why h e = absurd h
  told-own n seed (fault.Store f) why h e = subst (λ (why : Refusal). IsGenerated X N n seed (Err why)) (sym e) (own-told n seed f h)

  -- what the steps make has a plan, and so has the same tree at once
  left-planned : (n seed : ℕ) (root : Entry) → n ≤ 20000 → GrowsRoot X N n seed (Ok root)
      → refusal-of X N small_profile (left_tree seed n) ≡ None
  left-planned n seed root le h =
      ap (λ (es : Entries). refusal-of X N small_profile (Dir es)) (sym (grown-left X N small_profile seed n h.0 (omega (arith, le)) h.1)) ∙ h.2.planned

  -- so nothing but the store's own fault stops the tree that is built afresh
  pub of-store : (n seed : ℕ) (root e : Entry) (f : DirFault) → n ≤ 20000 → GrowsRoot X N n seed (Ok root)
      → GivesEntry (refusal-of X N small_profile (left_tree seed n)) e (Err f) → IsOfStore f
  of-store n seed root e (dir.Collision first second) le h given = (let none = left-planned n seed root le h in absurd cc)
  of-store n seed root e dir.TooBig le h given = (let none = left-planned n seed root le h in absurd cc)
  of-store n seed root e (dir.Store f) le h given = tt

  pub told-fresh : (n seed : ℕ) (f : DirFault) (why : Refusal) (before now : Seen) → before ≡ new_seen → SavesOnly X before.told now.told
      → Shown X NoneIsBad (dir_fault {A = Entry} (Err f)) before now → RefusesFresh f why → IsGenerated X N n seed (Err why)
  told-fresh n seed (dir.Collision first second) why before now new saves h e = absurd e
  told-fresh n seed dir.TooBig why before now new saves h e = absurd e
  told-fresh n seed (dir.Store f) why before now new saves h e =
      subst (λ (why : Refusal). IsGenerated X N n seed (Err why)) (sym e)
      (own-told n seed f (shown-clash NoneIsBad f before now (digests-kept X IsSave before.told now.told saves (new-digests X before new)) h))

  -- the lines of both roots
  pub told-lines : (n seed : ℕ) (root fresh : Entry) (text : List ℕ) → GrowsRoot X N n seed (Ok root)
      → GivesEntry (refusal-of X N small_profile (left_tree seed n)) (entry X N small_profile (left_tree seed n)) (Ok fresh)
      → text ≡ generated_lines n seed root fresh.cid → IsGenerated X N n seed (Ok text)
  told-lines n seed root fresh text h given is =
      ap (λ (t : List ℕ). Ok t) (is ∙ ap (λ (r : Entry). generated_lines n seed r fresh.cid) h.2.is
      ∙ ap (λ (e : Entry). generated_lines n seed (entry X N small_profile (Dir h.0)) e.cid) given.1)
      ∙ sym (ap (growth_told X N n seed) h.1)
