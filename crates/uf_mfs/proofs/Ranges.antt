-- A file read from the tree: what a lookup meets, and the blocks that a range of it needs.
use Rattle.std.proofs.Common.{◌≡◌, ℕ, zero, suc, ◌≤◌, ◌-◌, List, [], ◌∷◌, ◌++◌, length, take, drop, refl, ap, sym, ◌∙◌, subst, arith, append-nil, Bool, true, false, cond, inl, inr, Option, Some, None, Result, Ok, Err}
use Rattle.std.specs.Prelude.{IsTrue}
use Rattle.std.specs.List.{AllByRecursion, flat_map}
use Rattle.uf_cid.specs.Blocks.{Held}
use Rattle.uf_cid.specs.Blocks.{Lookup}
use Rattle.uf_cid.specs.declared.cid.Cid.{Cid}
use Rattle.uf_edge.specs.Counts.{Stood}
use Rattle.uf_edge.specs.Streams.{Told as SinkTold, AppendsPrefix, after}
use Rattle.uf_fileread.specs.declared.fault.RangeFault.{RangeFault}
use Rattle.uf_fileread.specs.declared.fault.RangeFault.TheVariants as ranges
use Rattle.uf_fileread.specs.Bad.{IsBadInFile}
use Rattle.uf_fileread.specs.Ranges.{AppendsAtMost, IsFile, IsFirstLossOf, ShowsRange, WritesOver, blocks_met, blocks_read, meets, range_of}
use Rattle.uf_store.specs.declared.store.Role.{Role}
use Rattle.uf_store.specs.declared.store.StoreFault.{StoreFault}
use Rattle.uf_store.specs.declared.store.StoreFault.TheVariants.{Failed, Damaged, Missing, BadBlock, Clash, Memory}
use Rattle.uf_store.specs.Contents.{Told, held_at}
use Rattle.uf_store.specs.Faults.{Shown, Shows, StaysCalm}
use Rattle.uf_store.specs.Keeping.{Agrees}
use Rattle.uf_store.specs.Lost.{IsFirstLost, IsLossOf, IsLost}
use Rattle.uf_store.specs.Seen.{Seen}
use Rattle.uf_store.proofs.Causes.{Shows-after, Shows-by, Shows-rises, calm-memory}
use Rattle.uf_tree.specs.declared.nodes.Entry.{Entry}
use Rattle.uf_tree.specs.declared.meta.Meta.{Meta}
use Rattle.uf_tree.specs.declared.profile.Profile.{Profile}
use Rattle.uf_tree.specs.FilePlan.{file_plan, groups}
use Rattle.uf_tree.specs.FileSub.{IsFileHeight, IsRooted, blocks_over, span, whole_blocks}
use Rattle.uf_tree.specs.Metas.{none}
use Rattle.uf_tree.specs.Tree.{Tree, File, Dir, Entries, fold}
use Rattle.uf_tree.specs.TreePlan.{blocks, planned}
use Rattle.uf_tree.specs.Profiles.{is_profile}
use Rattle.uf_tree.proofs.Rows.{file-height-unique, file_plan-rows, plan-sub}
use Rattle.uf_tree.proofs.Told.{kept}
use Rattle.uf_plain.specs.declared.rule.Refused.{Refused}
use Rattle.uf_plain.specs.declared.rule.Refused.TheVariants as why
use Rattle.uf_plain.specs.Edits.{and_then, at}
use Rattle.uf_plain.specs.Files.{as_file, as_plain_file, file_at, plain_bytes_at, read as range_at}
use Rattle.uf_plain.specs.Needs.{needs_at, way}
use Rattle.uf_plain.specs.Rules.{rule_of}
use Rattle.uf_fileread.specs.declared.size.FileSize.{FileSize}
use Rattle.uf_mfs.specs.declared.fault.MfsFault.{MfsFault}
use Rattle.uf_mfs.specs.declared.fault.MfsFault.TheVariants as fault
use Rattle.uf_mfs.specs.declared.fault.Stop.{Stop}
use Rattle.uf_mfs.specs.declared.fault.Stop.TheVariants as stop
use Rattle.uf_mfs.specs.declared.mfs.Mfs.{Mfs}
use Rattle.uf_mfs.specs.declared.thing.FolderRoot.{FolderRoot}
use Rattle.uf_mfs.specs.declared.thing.Thing.TheVariants.{File as FileAt, Folder as FolderAt}
use Rattle.uf_mfs.specs.Answers.{Answers, AnswersOr, MeetsOr, Tells}
use Rattle.uf_mfs.specs.Bad.{IsBadInTree}
use Rattle.uf_mfs.specs.Reading.{CanRise, IsBadRead, IsHeightOf, IsRangeFault, SendsAll, ShownSending, range_needs, to_read}
use Rattle.uf_mfs.specs.Standing.{IsAgreed, IsAgreedThing, IsPlanOf, StandsAt}
use Rattle.uf_mfs.specs.Steps.{stop_fault}
use Rattle.uf_mfs.proofs.Files.{entry-is, is-file-root, rooted}
use Rattle.uf_mfs.proofs.Holding.{append, back, front, loss-back, loss-front, tells-among}
use Rattle.uf_mfs.proofs.After.{Among}
use Rattle.uf_mfs.proofs.Needed.{answers-held, needs-among}

-- ---- what a lookup meets has to be a file

-- the fault of a step may come
pub fault-of : {A B : Type 0} (May : StoreFault → Type 0) (P : A → B → Type 0) (w : Result A Refused) (f : StoreFault) → MeetsOr May P w (Err (stop.Store f)) → May f
fault-of May P (Ok a) f h = h
fault-of May P (Err why) f h = h

-- and a fault that may come, whatever the plain tree gives
pub may-meet : {A B : Type 0} (May : StoreFault → Type 0) (P : A → B → Type 0) (w : Result A Refused) (f : StoreFault) → May f → MeetsOr May P w (Err (stop.Store f))
may-meet May P (Ok a) f h = h
may-meet May P (Err why) f h = h

may-answer : {A B : Type 0} (May : StoreFault → Type 0) (P : A → B → Type 0) (names : List (List ℕ)) (w : Result A Refused) (f : StoreFault) → May f → AnswersOr May P names w (Err (fault.Store f))
may-answer May P names (Ok a) f h = h
may-answer May P names (Err why) f h = h

pub file-err : {B D : Type 0} (May : StoreFault → Type 0) (P : Tree → B → Type 0) (Q : Tree → D → Type 0) (w : Result Tree Refused) (k : ℕ) (s : Stop) → MeetsOr May P w (Err s)
    → MeetsOr May Q (and_then w (as_file k)) (Err s)
file-err May P Q w k (stop.Store f) h = may-meet May Q (and_then w (as_file k)) f (fault-of May P w f h)
file-err May P Q (Ok t) k (stop.Refused given) h = absurd h
file-err May P Q (Err why) k (stop.Refused given) h = h

-- what refuses the file refuses its bytes
bytes-err : {B D : Type 0} (May : StoreFault → Type 0) (P : Tree → B → Type 0) (Q : List ℕ → D → Type 0) (w : Result Tree Refused) (k : ℕ) (s : Stop) → MeetsOr May P (and_then w (as_file k)) (Err s)
    → MeetsOr May Q (and_then w (as_plain_file k)) (Err s)
bytes-err May P Q w k (stop.Store f) h = may-meet May Q (and_then w (as_plain_file k)) f (fault-of May P (and_then w (as_file k)) f h)
bytes-err May P Q (Ok (File m bytes)) k (stop.Refused given) h = absurd h
bytes-err May P Q (Ok (Dir es)) k (stop.Refused given) h = h
bytes-err May P Q (Err why) k (stop.Refused given) h = h

module _ (X : List ℕ → List ℕ) (N : List ℕ → ℕ) (told : Told) (p : Profile) (May : StoreFault → Type 0) where
  pub file-found : (w : Result Tree Refused) (k : ℕ) (e : Entry) (size : FileSize) → MeetsOr May (λ t x. IsAgreedThing X N told p t x) w (Ok (FileAt e size))
      → MeetsOr May (λ t e. IsAgreed X N told p e t) (and_then w (as_file k)) (Ok e)
  file-found (Ok (File m bytes)) k e size h = h.0
  file-found (Ok (Dir es)) k e size h = absurd h
  file-found (Err why) k e size h = absurd h

  pub file-folder : {D : Type 0} (Q : Tree → D → Type 0) (w : Result Tree Refused) (k : ℕ) (e : Entry) (root : Option FolderRoot) → MeetsOr May (λ t x. IsAgreedThing X N told p t x) w (Ok (FolderAt e root))
      → MeetsOr May Q (and_then w (as_file k)) (Err (stop.Refused (why.IsADirectory k)))
  file-folder Q (Ok (File m bytes)) k e root h = absurd h
  file-folder Q (Ok (Dir es)) k e root h = refl
  file-folder Q (Err why) k e root h = absurd h

-- ---- the blocks that a range needs

-- those of a part are among all of it
module _ (X : List ℕ → List ℕ) (c w : ℕ) (P : Held → Type 0) where
  met-among : (b : Bool) (l : List Held) → AllByRecursion P l → AllByRecursion P (cond b l [])
  met-among true l h = h
  met-among false l h = tt

  both-of : (l m : List Held) → AllByRecursion P (l ++ m) → AllByRecursion P l × AllByRecursion P m
  both-of [] m h = (tt, h)
  both-of (b ∷ l) m h = ((h.0, (both-of l m h.1).0), (both-of l m h.1).1)

  mets : (k : ℕ) → ((o n : ℕ) (g : List ℕ) → AllByRecursion P (blocks_over X c w k g) → AllByRecursion P (blocks_read X c w none k o n g)) → (o n : ℕ) (gs : List (List ℕ))
      → AllByRecursion P (flat_map (blocks_over X c w k) gs) → AllByRecursion P (blocks_met (λ o n g. blocks_read X c w none k o n g) o n gs)
  mets k rec o n [] h = tt
  mets k rec o n (g ∷ gs) h =
      let parts = both-of (blocks_over X c w k g) (flat_map (blocks_over X c w k) gs) h in
      append P (cond (meets o n g) (blocks_read X c w none k o n g) []) (blocks_met (λ o n g. blocks_read X c w none k o n g) (o - length g) (n - (length g - o)) gs)
      (met-among (meets o n g) (blocks_read X c w none k o n g) (rec o n g parts.0)) (mets k rec (o - length g) (n - (length g - o)) gs parts.1)

  part-among : (k offset count : ℕ) (bytes : List ℕ) → AllByRecursion P (blocks_over X c w k bytes) → AllByRecursion P (blocks_read X c w none k offset count bytes)
  unfolding blocks_over blocks_read
  part-among zero offset count bytes h = h
  part-among (suc k) offset count bytes h = (h.0, mets k (λ o n g j. part-among k o n g j) offset count (groups (span c w k) bytes) h.1)

  -- and so are those of the whole file
  pub read-among : (m : Meta) (k offset count : ℕ) (bytes : List ℕ) → AllByRecursion P (whole_blocks X c w m k bytes) → AllByRecursion P (blocks_read X c w m k offset count bytes)
  unfolding whole_blocks blocks_read
  read-among m zero offset count bytes h = h
  read-among m (suc k) offset count bytes h = (h.0, mets k (λ o n g j. part-among k o n g j) offset count (groups (span c w k) bytes) h.1)

first-lost : (look : Lookup) (c : Cid) (l : List Held) → IsFirstLost look c l → IsLost look c l
first-lost look c [] x = x
first-lost look c (b ∷ l) (inl x) = inl x
first-lost look c (b ∷ l) (inr x) = inr (first-lost look c l x.1)

first-loss : (told : Told) (l : List Held) (f : StoreFault) → IsFirstLossOf told l f → IsLossOf told l f
first-loss told l Failed h = h
first-loss told l (Damaged c) h = h
first-loss None l (Missing c) h = tt
first-loss (Some t) l (Missing c) h = first-lost (held_at t) c l h
first-loss told l (BadBlock c role) h = h
first-loss told l (Clash c held bytes) h = h
first-loss told l Memory h = tt

-- ---- what the call answers

after-none : (held : SinkTold) → held ≡ after held []
after-none None = refl
after-none (Some bytes) = ap (λ (l : List ℕ). Some l) (sym (append-nil bytes))

-- nothing was written
pub nothing-sent : (bytes : List ℕ) (held : SinkTold) → AppendsPrefix bytes held held
nothing-sent bytes held = record { count = 0; fits = search arith; appended = after-none held }

pub none-appended : (most : ℕ) (held : SinkTold) → AppendsAtMost most held held
none-appended most held = record { count = 0; few = search arith; appends = record { bytes = []; count = refl; appended = after-none held } }

-- a count that stays below its last value has stood
pub stood-calm : (a b : ℕ) → b ≡ a → CanRise a → Stood a b
stood-calm a b same room = omega (arith, same, room)

module _ (X : List ℕ → List ℕ) (N : List ℕ → ℕ) (p : Profile) (told : Told) (names : List (List ℕ)) (es : Entries) where
  abbrev pub found : Result Tree Refused
  found = at 0 names (Dir es)

  abbrev pub w : Result Tree Refused
  w = file_at names es

  -- a lookup that stopped stops the call
  pub read-stopped : {B D : Type 0} (P : Tree → B → Type 0) (Q : List ℕ → D → Type 0) (more : Tree → List Held) (offset count : ℕ) (s : Stop) (f : MfsFault) → Tells names s f
      → MeetsOr (IsLossOf told (way X N p names (Dir es))) P w (Err s) → AnswersOr (IsLossOf told (needs_at X N p more names (Dir es))) Q names (range_at offset count names es) (Err f)
  read-stopped P Q more offset count s f tells h =
      by (plain_bytes_at names es) (elim found as (λ w. List Held) [ Ok t ↦ more t | Err why ↦ [] ]) s f tells (bytes-err (IsLossOf told (way X N p names (Dir es))) P Q found (length names) s h)
    where
      by : (w : Result (List ℕ) Refused) (k : List Held) (s : Stop) (f : MfsFault) → Tells names s f → MeetsOr (IsLossOf told (way X N p names (Dir es))) Q w (Err s)
          → AnswersOr (IsLossOf told (way X N p names (Dir es) ++ k)) Q names (and_then w (λ bytes. Ok (take count (drop offset bytes)))) (Err f)
      by (Ok a) k (stop.Refused given) f tells h = absurd h
      by (Err why) k (stop.Refused given) (fault.Rule rule) tells h = tells ∙ ap (rule_of names) h
      by (Err why) k (stop.Refused given) (fault.Ready ready) tells h = absurd tells
      by (Err why) k (stop.Refused given) fault.Sink tells h = absurd tells
      by (Err why) k (stop.Refused given) (fault.Store f) tells h = subst (IsLossOf told (way X N p names (Dir es) ++ k)) (sym tells) tt
      by w k (stop.Store g) f tells h =
          let go = and_then w (λ bytes. Ok (take count (drop offset bytes))) in
          let May = IsLossOf told (way X N p names (Dir es) ++ k) in
          subst (λ f. AnswersOr May Q names go (Err f)) (sym tells)
          (may-answer May Q names go g (loss-front told (way X N p names (Dir es)) k g (fault-of (IsLossOf told (way X N p names (Dir es))) Q w g h)))

  -- a file of the height
  pub is-file : (e : Entry) (m : Meta) (bytes : List ℕ) (height : ℕ) → IsPlanOf X N p e (File m bytes) → IsFileHeight p.chunk p.width m (length bytes) height → IsFile X p m bytes e.cid height
  is-file e m bytes height s tall =
      let r = rooted X p m bytes s.profile in
      let root = is-file-root X N p e m bytes s in
      record {
        profile = s.profile;
        good = root.good;
        few = root.few;
        cid_is = ap (λ (e : Entry). e.cid) (s.is ∙ entry-is X N p e m bytes s);
        rooted = subst (IsRooted X p m bytes (file_plan X p m bytes)) (file-height-unique p.chunk p.width m (length bytes) r.0 height r.1.least tall) r.1;
      }

  pub file-agrees : (e : Entry) (m : Meta) (bytes : List ℕ) → IsAgreed X N told p e (File m bytes) → Agrees told (file_plan X p m bytes).blocks
  unfolding planned fold
  file-agrees e m bytes s = s.agrees

  -- the answer of a range of the file that was found
  pub read-done : (height offset count n : ℕ) (held held_now : SinkTold) (e : Entry)
      → MeetsOr (IsLossOf told (way X N p names (Dir es))) (λ t e. IsAgreed X N told p e t) w (Ok e) → IsHeightOf p height found
      → ((m : Meta) (bytes : List ℕ) → IsFile X p m bytes e.cid height → Agrees told (file_plan X p m bytes).blocks → WritesOver told (blocks_read X p.chunk p.width m height offset count bytes) (range_of offset count bytes) held held_now (Ok n))
      → AnswersOr (IsLossOf told (needs_at X N p (range_needs X p height offset count) names (Dir es))) (λ bytes n. SendsAll held held_now bytes n) names (range_at offset count names es) (Ok n)
  read-done height offset count n held held_now e h tall reads = by found h tall
    where
      by : (t : Result Tree Refused) → MeetsOr (IsLossOf told (way X N p names (Dir es))) (λ t e. IsAgreed X N told p e t) (and_then t (as_file (length names))) (Ok e) → IsHeightOf p height t
          → AnswersOr (IsLossOf told (needs_at X N p (range_needs X p height offset count) names (Dir es))) (λ bytes n. SendsAll held held_now bytes n) names
          (and_then (and_then t (as_plain_file (length names))) (λ bytes. Ok (take count (drop offset bytes)))) (Ok n)
      by (Err why) h tall = absurd h
      by (Ok (Dir fs)) h tall = absurd h
      by (Ok (File m bytes)) h tall = (let r = reads m bytes (is-file e m bytes height h.plan tall) (file-agrees e m bytes h) in (r.0, r.2))

  pub read-lost : (height offset count : ℕ) (held held_now : SinkTold) (e : Entry) (f : RangeFault) (given : MfsFault) → IsRangeFault f given → (f ≡ ranges.Sink → ⊥)
      → MeetsOr (IsLossOf told (way X N p names (Dir es))) (λ t e. IsAgreed X N told p e t) w (Ok e) → IsHeightOf p height found
      → ((m : Meta) (bytes : List ℕ) → IsFile X p m bytes e.cid height → Agrees told (file_plan X p m bytes).blocks → WritesOver told (blocks_read X p.chunk p.width m height offset count bytes) (range_of offset count bytes) held held_now (Err f))
      → AnswersOr (IsLossOf told (needs_at X N p (range_needs X p height offset count) names (Dir es))) (λ bytes n. SendsAll held held_now bytes n) names (range_at offset count names es) (Err given)
  read-lost height offset count held held_now e ranges.Sink given is calm h tall reads = absurd (calm refl)
  read-lost height offset count held held_now e (ranges.Store f) given is calm h tall reads =
      let May = IsLossOf told (needs_at X N p (range_needs X p height offset count) names (Dir es)) in
      subst (λ given. AnswersOr May (λ bytes n. SendsAll held held_now bytes n) names (range_at offset count names es) (Err given)) (sym is) (by found h tall)
    where
      by : (t : Result Tree Refused) → MeetsOr (IsLossOf told (way X N p names (Dir es))) (λ t e. IsAgreed X N told p e t) (and_then t (as_file (length names))) (Ok e)
          → IsHeightOf p height t
          → AnswersOr (IsLossOf told (way X N p names (Dir es) ++ elim t as (λ t. List Held) [ Ok t ↦ range_needs X p height offset count t | Err why ↦ [] ])) (λ bytes n. SendsAll held held_now bytes n) names
          (and_then (and_then t (as_plain_file (length names))) (λ bytes. Ok (take count (drop offset bytes)))) (Err (fault.Store f))
      by (Err why) h tall = absurd h
      by (Ok (Dir fs)) h tall = absurd h
      by (Ok (File m bytes)) h tall = loss-back told (way X N p names (Dir es)) (blocks_read X p.chunk p.width m height offset count bytes) f
          (first-loss told (blocks_read X p.chunk p.width m height offset count bytes) f (reads m bytes (is-file e m bytes height h.plan tall) (file-agrees e m bytes h)))

  -- after a fault the sink has a front of the range
  pub read-front : (offset count : ℕ) (held held_now : SinkTold) (e : Entry)
      → MeetsOr (IsLossOf told (way X N p names (Dir es))) (λ t e. IsAgreed X N told p e t) w (Ok e)
      → ((m : Meta) (bytes : List ℕ) (height : ℕ) → IsFile X p m bytes e.cid height → Agrees told (file_plan X p m bytes).blocks → AppendsPrefix (range_of offset count bytes) held held_now)
      → AppendsPrefix (to_read (range_at offset count names es)) held held_now
  read-front offset count held held_now e h reads = by found h
    where
      by : (t : Result Tree Refused) → MeetsOr (IsLossOf told (way X N p names (Dir es))) (λ t e. IsAgreed X N told p e t) (and_then t (as_file (length names))) (Ok e)
          → AppendsPrefix (to_read (and_then (and_then t (as_plain_file (length names))) (λ bytes. Ok (take count (drop offset bytes))))) held held_now
      by (Err why) h = absurd h
      by (Ok (Dir fs)) h = absurd h
      by (Ok (File m bytes)) h =
          let tall = rooted X p m bytes h.plan.profile in
          reads m bytes tall.0 (is-file e m bytes tall.0 h.plan tall.1.least) (file-agrees e m bytes h)

  -- where all blocks of the tree are held those that are needed are
  tall-of : (t : Result Tree Refused) → IsTrue (is_profile p) → (height : ℕ) × IsHeightOf p height t
  tall-of (Ok (File m bytes)) ok = ((rooted X p m bytes ok).0, (rooted X p m bytes ok).1.least)
  tall-of (Ok (Dir fs)) ok = (0, tt)
  tall-of (Err why) ok = (0, tt)

  plan-over : (m : Meta) (bytes : List ℕ) → IsTrue (is_profile p) → (height : ℕ) → IsFileHeight p.chunk p.width m (length bytes) height → (P : Held → Type 0) → AllByRecursion P (file_plan X p m bytes).blocks
      → AllByRecursion P (whole_blocks X p.chunk p.width m height bytes)
  plan-over m bytes ok height tall P h =
      let pos = (kept p ok).some in
      let two = (kept p ok).two in
      let r = file_plan-rows X p m bytes pos two in
      subst (λ k. AllByRecursion P (whole_blocks X p.chunk p.width m k bytes)) (file-height-unique p.chunk p.width m (length bytes) r.0 height r.2 tall) (plan-sub X p m bytes pos two P r.0 r.2.fits _ r.3 h)

  file-blocks : (m : Meta) (bytes : List ℕ) (P : Held → Type 0) → AllByRecursion P (blocks X N p (File m bytes)) → AllByRecursion P (file_plan X p m bytes).blocks
  unfolding planned fold
  file-blocks m bytes P h = h

  needs-here : IsTrue (is_profile p) → (height offset count : ℕ) → IsHeightOf p height found → Among (needs_at X N p (range_needs X p height offset count) names (Dir es)) (blocks X N p (Dir es))
  needs-here ok height offset count tall P h = append P (way X N p names (Dir es)) _ (front P (way X N p names (Dir es)) _ (whole P h)) (by found (back P (way X N p names (Dir es)) _ (whole P h)) tall)
    where
      whole : Among (needs_at X N p (blocks X N p) names (Dir es)) (blocks X N p (Dir es))
      whole = needs-among X N p (blocks X N p) (λ t P h. h) names (Dir es)

      by : (t : Result Tree Refused) → AllByRecursion P (elim t as (λ t. List Held) [ Ok t ↦ blocks X N p t | Err why ↦ [] ]) → IsHeightOf p height t
          → AllByRecursion P (elim t as (λ t. List Held) [ Ok t ↦ range_needs X p height offset count t | Err why ↦ [] ])
      by (Err why) h tall = tt
      by (Ok (Dir fs)) h tall = tt
      by (Ok (File m bytes)) h tall = read-among X p.chunk p.width P m height offset count bytes (plan-over m bytes ok height tall P (file-blocks m bytes P h))

  -- a file has a height
  pub tall : IsTrue (is_profile p) → (height : ℕ) × IsHeightOf p height found
  tall ok = tall-of found ok

  pub read-held : {D : Type 0} (Q : List ℕ → D → Type 0) (mfs : Mfs) (offset count : ℕ) (r : Result D MfsFault) → StandsAt X N told mfs p es
      → ((height : ℕ) → IsHeightOf p height found → AnswersOr (IsLossOf told (needs_at X N p (range_needs X p height offset count) names (Dir es))) Q names (range_at offset count names es) r)
      → Answers Q names (range_at offset count names es) r
  read-held Q mfs offset count r s lost =
      let ok = s.root.profile in
      let h = tall ok in
      answers-held told (needs_at X N p (range_needs X p h.0 offset count) names (Dir es)) Q names (range_at offset count names es) r
      (tells-among told (blocks X N p (Dir es)) _ (needs-here ok h.0 offset count h.1) s.root.held) (lost h.0 h.1)

-- ---- what the call shows

module _ (hash : List ℕ → List ℕ) (N : List ℕ → ℕ) (told : Told) (root : Cid) where
  pub way-shows : (f : StoreFault) (a b : Seen) → Shows hash (IsBadInTree hash N None root) f a b → Shows hash (IsBadRead hash N told root) f a b
  way-shows f a b h = Shows-by hash (IsBadInTree hash N None root) (IsBadRead hash N told root) f a b (λ role bytes bad. inl bad) h

  -- a lookup that stopped
  pub stopped-shows : (names : List (List ℕ)) (s : Stop) (f : MfsFault) (a b : Seen) (n : ℕ) → Tells names s f → Shown hash (IsBadInTree hash N None root) (stop_fault {A = ℕ} (Err s)) a b
      → ShownSending {A = ℕ} hash (IsBadRead hash N told root) (Err f) a b n n
  stopped-shows names (stop.Refused why) (fault.Rule rule) a b n t h = (h, refl)
  stopped-shows names (stop.Refused why) (fault.Ready ready) a b n t h = absurd t
  stopped-shows names (stop.Refused why) fault.Sink a b n t h = absurd t
  stopped-shows names (stop.Refused why) (fault.Store f) a b n t h =
      subst (λ f. ShownSending {A = ℕ} hash (IsBadRead hash N told root) (Err (fault.Store f)) a b n n) (sym t) (calm-memory a b h, refl)
  stopped-shows names (stop.Store g) f a b n t h = subst (λ f. ShownSending {A = ℕ} hash (IsBadRead hash N told root) (Err f) a b n n) (sym t) (way-shows g a b h, refl)

  pub calm-calm : (a b c : Seen) → StaysCalm a b → StaysCalm b c → StaysCalm a c
  calm-calm a b c p q = record { finds = omega (arith, p.finds, q.finds); misses = omega (arith, p.misses, q.misses); faults = q.faults ∙ p.faults; clashes = q.clashes ∙ p.clashes }

  -- a reading after a lookup
  pub range-shows : (file : Cid) (f : RangeFault) (given : MfsFault) (a b c : Seen) (n m : ℕ) → IsRangeFault f given → StaysCalm a b → b.told ≡ a.told → told ≡ a.told
      → ShowsRange hash (IsBadInFile b.told file) (Err f) b c n m → ShownSending {A = ℕ} hash (IsBadRead hash N told root) (Err given) a c n m
  range-shows file ranges.Sink given a b c n m is calm same here h =
      subst (λ given. ShownSending {A = ℕ} hash (IsBadRead hash N told root) (Err given) a c n m) (sym is) (calm-calm a b c calm h.0, h.1)
  range-shows file (ranges.Store f) given a b c n m is calm same here h =
      subst (λ given. ShownSending {A = ℕ} hash (IsBadRead hash N told root) (Err given) a c n m) (sym is) (
        Shows-after hash (IsBadRead hash N told root) f a b c calm (Shows-by hash (IsBadInFile b.told file) (IsBadRead hash N told root) f b c
            (λ role bytes bad. inr (file, subst (λ told. IsBadInFile told file role bytes) (same ∙ sym here) bad)) h.0),
        h.1,
      )

-- a sink that failed is told as such
pub range-sink : (f : RangeFault) (given : MfsFault) → IsRangeFault f given → f ≡ ranges.Sink → given ≡ fault.Sink
range-sink ranges.Sink given is e = is
range-sink (ranges.Store f) given is e = absurd cc

pub range-rises : (hash : List ℕ → List ℕ) (Bad : Role → List ℕ → Type 0) (r : Result ℕ RangeFault) (b d : Seen) (n m : ℕ) → ShowsRange hash Bad r b d n m → b.faults ≤ d.faults
range-rises hash Bad (Ok k) b d n m h = (let same = h.0.faults in omega (arith, same))
range-rises hash Bad (Err ranges.Sink) b d n m h = (let same = h.0.faults in omega (arith, same))
range-rises hash Bad (Err (ranges.Store f)) b d n m h = (Shows-rises hash Bad f b d h.0).faults
