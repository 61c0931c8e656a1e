-- How what is held is compared with a CAR.
use Rattle.std.proofs.Common.{◌≡◌, ◌⊎◌, ℕ, List, [], ◌∷◌, ◌++◌, false, arith, refl, sym, ap, subst, ◌∙◌, inl, inr, take, drop, append-nil, Some, None, Option, Result, Ok, Err}
use Rattle.std.proofs.lemmas.List.{take-append-drop, take_all}
use Rattle.std.specs.Prelude.{Contains, IfErr, IfSome}
use Rattle.uf_car.specs.Clashing.{HasTwo, sections_clash, sections_held}
use Rattle.uf_car.specs.Importing.{ImportsCar, RefusesCar, car_fault, is_source_fault, stops, with_saves}
use Rattle.uf_car.specs.Reading.{Read, car_read}
use Rattle.uf_car.specs.declared.fault.CarFault.{CarFault}
use Rattle.uf_car.specs.declared.fault.CarFault.TheVariants as car
use Rattle.uf_car.specs.declared.fault.Imported.{Imported}
use Rattle.uf_car.proofs.Clashing.{clash-behind, clash-here, clash-none, held-of, none-good, saves_of}
use Rattle.uf_cid.specs.Blocks.{Held, IsClash, Lookup}
use Rattle.uf_cid.specs.Cid.{cid_cmp}
use Rattle.uf_cid.specs.declared.cid.Cid.{Cid}
use Rattle.std.specs.FinMap.{get-empty}
use Rattle.uf_edge.specs.Counts.{Counts}
use Rattle.uf_edge.specs.Streams as streams
use Rattle.uf_same.specs.Comparing.{IsOfLoads, Judges, MissesNone, left_fault, right_fault}
use Rattle.uf_same.specs.Verdict.{Verdict, verdict}
use Rattle.uf_same.specs.declared.answer.Compared.{Compared}
use Rattle.uf_same.specs.declared.answer.SameFault.{SameFault}
use Rattle.uf_same.specs.declared.answer.SameFault.TheVariants as same
use Rattle.uf_store.specs.Clashes.{IsSaving}
use Rattle.uf_store.specs.Contents.{Contents, Told, changed, held_at}
use Rattle.uf_store.specs.Faults.{NoneIsBad, Shown, StaysCalm}
use Rattle.uf_store.specs.InMemory.{no_contents}
use Rattle.uf_store.specs.Keeping.{HoldsOne}
use Rattle.uf_store.specs.Seen.{Seen}
use Rattle.uf_store.specs.Writing.{ReplaceNone, SavesOnly}
use Rattle.uf_store.specs.declared.store.StoreFault.{StoreFault}
use Rattle.uf_store.specs.declared.store.StoreFault.TheVariants as fault
use Rattle.uf_store.proofs.Causes.{StaysCalm-refl, calm-memory}
use Rattle.uf_command.specs.Cars.{car_refusal, most_blocks, most_car}
use Rattle.uf_command.specs.Kinds.{refusal_fault}
use Rattle.uf_command.specs.Statuses.{no_memory}
use Rattle.uf_command.specs.declared.types.Refusal.{Refusal}
use Rattle.uf_command.specs.declared.types.Refusal.TheVariants as refusal
use Rattle.uf_top.specs.Cars.{ComparesCar, ComparesStores, IsRootOf, SparesStore, TakesRoot, kept_refusal, root_alone}
use Rattle.uf_top.specs.Naming.{TellsBlocks}
use Rattle.uf_top.specs.Reply.{by_answer, by_roots, car_compared, compared_text, not_one_root, same_refusal, unless_two, verdict_told}
use Rattle.uf_top.proofs.Kept.{free-of}
use Rattle.uf_top.proofs.Refusing.{IsRefusedAs}
use Rattle.uf_top.proofs.Shows.{not-rose}

-- what is so of each text of an input
each-text : (A : List ℕ → Type 0) (left : streams.Told) → ((bytes : List ℕ) → left ≡ Some bytes → A bytes) → IfSome left A
each-text A None f = tt
each-text A (Some bytes) f = f bytes refl

text-at : (A : List ℕ → Type 0) (left : streams.Told) → IfSome left A → (bytes : List ℕ) → left ≡ Some bytes → A bytes
text-at A None h bytes is = absurd cc
text-at A (Some text) h bytes is = subst A (let e : text ≡ bytes = cc in e) h

spared : (s : Seen) → SparesStore s s
spared s = record { calm = StaysCalm-refl s; misses = refl; told = refl }

-- ---- the CAR is read into an empty store

module _ (X : List ℕ → List ℕ) (told now : Told) (empty : told ≡ Some no_contents) (saves : SavesOnly X told now) where
  -- sections that were kept replaced no other block
  free-at : (done : List Held) → now ≡ changed (with_saves done) told → ReplaceNone X no_contents.held (saves_of done)
  free-at done kept =
      free-of X done no_contents (subst (λ (t : Told). SavesOnly X t (changed (with_saves done) t)) empty (subst (SavesOnly X told) kept saves))

  now-is : (done : List Held) → now ≡ changed (with_saves done) told → now ≡ Some (with_saves done no_contents)
  now-is done kept = kept ∙ ap (changed (with_saves done)) empty

  -- where all are kept, none clashes with another
  sound-all : (sections : List Held) → now ≡ changed (with_saves sections) told → sections_clash sections ≡ None
  sound-all sections kept =
      ap sections_clash (sym (append-nil sections)) ∙ clash-behind X sections [] no_contents (none-good X) (free-at sections kept) ∙ clash-none (with_saves sections no_contents)

  -- a clash with a block of the sections that were kept
  module _ (sections : List Held) (count : ℕ) (kept : now ≡ changed (with_saves (take count sections)) told) (cid : Cid) (first second : List ℕ) (rest : List Held)
      (next : drop count sections ≡ (cid, second) ∷ rest) (held : HoldsOne now cid first) where
    abbrev done : List Held
    done = take count sections

    all-are : sections ≡ done ++ (cid, second) ∷ rest
    all-are = sym (take-append-drop count sections) ∙ ap (λ (xs : List Held). done ++ xs) next

    held-is : held_at (with_saves done no_contents) cid ≡ Some first
    held-is = subst (λ (t : Told). HoldsOne t cid first) (now-is done kept) held

    two-are : HasTwo sections cid first second
    two-are = record { front = done; rest = rest; is = all-are; earlier = by (held-of done no_contents cid first held-is) }
      where
        by : Contains done (cid, first) ⊎ (held_at no_contents cid ≡ Some first) → Contains done (cid, first)
        by (inl is) = is
        by (inr none) = absurd (let e : None ≡ Some first = sym (get-empty cid_cmp cid) ∙ none in cc)

    clash-is : IsClash X first second → sections_clash sections ≡ Some (record { cid = cid; first = first; second = second })
    clash-is clash =
        ap sections_clash all-are ∙ clash-behind X done ((cid, second) ∷ rest) no_contents (none-good X) (free-at done kept)
        ∙ clash-here (cid, second) rest (with_saves done no_contents) first held-is clash.differ

module _ (X : List ℕ → List ℕ) (a b : Seen) (l : streams.Told) (i j : ℕ) (saves : SavesOnly X a.told b.told) where
  abbrev Reads : Result Imported CarFault → Type 0
  Reads r = (bytes : List ℕ) → l ≡ Some bytes → ImportsCar (car_read X most_car bytes) r a.told b.told

  abbrev Taken : Result Cid Refusal → Type 0
  Taken done = TakesRoot X done a.told b.told l i j

  -- a fault of the CAR
  ruled : (f : CarFault) (number place : ℕ) → stops f ≡ false → car_refusal f ≡ refusal.Car number place → Reads (Err f) → Counts false i j → Taken (Err (refusal.Car number place))
  ruled f number place other is reads counts = record {
    root = λ bytes given empty stood. inr (λ held cid. told held cid (car_read X most_car bytes) empty (reads bytes given));
    kinds = refl;
    counts = counts;
    fault = tt;
    sections = λ empty seen. tt;
  }
    where
      told : (held : Lookup) (cid : Cid) (r : Read (List Cid)) → a.told ≡ Some no_contents → RefusesCar r f a.told b.told → car_compared held cid r ≡ Err (refusal.Car number place)
      told held cid r empty refuses =
          let all : take refuses.kept.count r.sections ≡ r.sections = take_all refuses.kept.count r.sections (let e = refuses.kept.all other in omega (arith, e)) in
          let kept : b.told ≡ changed (with_saves r.sections) a.told = refuses.kept.kept ∙ ap (λ (xs : List Held). changed (with_saves xs) a.told) all in
          ap (λ t. unless_two t (by_answer held (sections_held r.sections) cid r.answer)) (sound-all X a.told b.told empty saves r.sections kept)
          ∙ ap (by_answer held (sections_held r.sections) cid) (refuses.said other) ∙ ap (λ (w : Refusal). Err w) is

  -- the store found no memory
  wanted : (bool : Counts false i j) → Taken (Err no_memory)
  wanted counts = record {
    root = λ bytes given empty stood. inl refl;
    kinds = refl;
    counts = counts;
    fault = refl;
    sections = λ empty seen. tt;
  }

  -- two sections clash
  clashed : (cid : Cid) (first second : List ℕ) → Reads (Err (car.Store (fault.Clash cid first second))) → IsClash X first second → Counts false i j → Taken (Err (refusal.OwnClash cid first second))
  clashed cid first second reads clash counts = record {
    root = λ bytes given empty stood. inr (λ held under. told held under (car_read X most_car bytes) empty (reads bytes given));
    kinds = refl;
    counts = counts;
    fault = tt;
    sections = λ empty seen. record {
      two = each-text (λ bytes. HasTwo (car_read X most_car bytes).sections cid first second) l (λ bytes given. two empty (car_read X most_car bytes) (reads bytes given));
      clash = clash;
      spares = spared seen;
    };
  }
    where
      told : (held : Lookup) (under : Cid) (r : Read (List Cid)) → a.told ≡ Some no_contents → RefusesCar r (car.Store (fault.Clash cid first second)) a.told b.told
          → car_compared held under r ≡ Err (refusal.OwnClash cid first second)
      told held under r empty refuses =
          let next = refuses.kept.next in
          ap (λ t. unless_two t (by_answer held (sections_held r.sections) under r.answer)) (clash-is X a.told b.told empty saves r.sections refuses.kept.count refuses.kept.kept cid first second next.0 next.1 next.2 clash)

      two : a.told ≡ Some no_contents → (r : Read (List Cid)) → RefusesCar r (car.Store (fault.Clash cid first second)) a.told b.told → HasTwo r.sections cid first second
      two empty r refuses =
          let next = refuses.kept.next in
          two-are X a.told b.told empty saves r.sections refuses.kept.count refuses.kept.kept cid first second next.0 next.1 next.2

  pub root-refused : (f : CarFault) → Reads (Err f) → Shown X NoneIsBad (car_fault {A = Imported} (Err f)) a b → IfSome (car_fault {A = Imported} (Err f)) IsSaving → Counts (is_source_fault {A = Imported} (Err f)) i j
      → Taken (Err (kept_refusal f))
  root-refused (car.Truncated place) reads cause saving counts = ruled (car.Truncated place) 1 place refl refl reads counts
  root-refused car.Header reads cause saving counts = ruled car.Header 2 0 refl refl reads counts
  root-refused (car.Version v) reads cause saving counts = ruled (car.Version v) 3 0 refl refl reads counts
  root-refused (car.BadCid place) reads cause saving counts = ruled (car.BadCid place) 4 place refl refl reads counts
  root-refused (car.WrongDigest place cid) reads cause saving counts = ruled (car.WrongDigest place cid) 5 place refl refl reads counts
  root-refused (car.TooBigBlock place size) reads cause saving counts = ruled (car.TooBigBlock place size) 6 place refl refl reads counts
  root-refused (car.TooManyRoots count) reads cause saving counts = ruled (car.TooManyRoots count) 7 0 refl refl reads counts
  root-refused (car.BadLength place) reads cause saving counts = ruled (car.BadLength place) 8 place refl refl reads counts
  root-refused car.TooLong reads cause saving counts = ruled car.TooLong 9 0 refl refl reads counts
  root-refused car.Read reads cause saving counts = record {
    root = λ bytes given empty stood. absurd (not-rose i j (counts.rose refl) stood);
    kinds = refl;
    counts = counts;
    fault = tt;
    sections = λ empty seen. tt;
  }
  root-refused (car.Store fault.Failed) reads cause saving counts = wanted counts
  root-refused (car.Store (fault.Damaged c)) reads cause saving counts = absurd saving
  root-refused (car.Store (fault.Missing c)) reads cause saving counts = absurd saving
  root-refused (car.Store (fault.BadBlock c role)) reads cause saving counts = absurd saving
  root-refused (car.Store (fault.Clash c first second)) reads cause saving counts = clashed c first second reads cause.clash counts
  root-refused (car.Store fault.Memory) reads cause saving counts = wanted counts

  -- all sections are kept, and the roots are these
  module _ (imported : Imported) (reads : Reads (Ok imported)) (counts : Counts false i j) where
    by-roots-of : (r : Read (List Cid)) → a.told ≡ Some no_contents → ImportsCar r (Ok imported) a.told b.told → (held : Lookup) (cid : Cid) → car_compared held cid r ≡ by_roots held (sections_held r.sections) cid imported.roots
    by-roots-of r empty keeps held cid =
        ap (λ t. unless_two t (by_answer held (sections_held r.sections) cid r.answer)) (sound-all X a.told b.told empty saves r.sections keeps.kept)
        ∙ ap (by_answer held (sections_held r.sections) cid) keeps.said

    one-root : (root : Cid) → imported.roots ≡ root ∷ [] → Taken (Ok root)
    one-root root is = record {
      root = λ bytes given empty. found (car_read X most_car bytes) empty (reads bytes given);
      kinds = tt;
      counts = counts;
      fault = tt;
      sections = λ empty seen. tt;
    }
      where
        found : (r : Read (List Cid)) → a.told ≡ Some no_contents → ImportsCar r (Ok imported) a.told b.told → IsRootOf r root b.told
        found r empty keeps = record {
          sound = sound-all X a.told b.told empty saves r.sections keeps.kept;
          is = keeps.said ∙ ap (λ (xs : List Cid). Ok xs) is;
          kept = now-is X a.told b.told empty saves r.sections keeps.kept;
        }

    other-roots : ((held sections : Lookup) (cid : Cid) → by_roots held sections cid imported.roots ≡ Err not_one_root) → Taken (Err not_one_root)
    other-roots none = record {
      root = λ bytes given empty stood. inr (λ held cid. by-roots-of (car_read X most_car bytes) empty (reads bytes given) held cid ∙ none held (sections_held (car_read X most_car bytes).sections) cid);
      kinds = refl;
      counts = counts;
      fault = tt;
      sections = λ empty seen. tt;
    }

    -- there is one root, or the CAR is refused
    pub roots-judged : (r : Result Cid Refusal) → r ≡ root_alone imported.roots → Taken r
    roots-judged r is = subst (λ (r : Result Cid Refusal). Taken r) (sym is) (by imported.roots refl)
      where
        by : (roots : List Cid) → imported.roots ≡ roots → Taken (root_alone roots)
        by [] e = other-roots (λ held sections cid. ap (by_roots held sections cid) e)
        by (root ∷ []) e = one-root root e
        by (first ∷ second ∷ roots) e = other-roots (λ held sections cid. ap (by_roots held sections cid) e)

  -- the same of what a call answered and of what was made of its fault
  abbrev IsKept : CarFault → Refusal → Type 0
  IsKept f why = why ≡ kept_refusal f

  pub root-unread : (answer : Result Imported CarFault) (why : Refusal) → IsRefusedAs IsKept answer (Err why) → Reads answer → Shown X NoneIsBad (car_fault answer) a b → IfSome (car_fault answer) IsSaving → Counts (is_source_fault answer) i j
      → Taken (Err why)
  root-unread (Ok imported) why is reads cause saving counts = absurd cc
  root-unread (Err f) why is reads cause saving counts = subst (λ (why : Refusal). Taken (Err why)) (sym is) (root-refused f reads cause saving counts)

  pub root-read : (answer : Result Imported CarFault) (imported : Imported) → IsRefusedAs IsKept answer (Ok imported) → Reads answer → Counts (is_source_fault answer) i j
      → (r : Result Cid Refusal) → r ≡ root_alone imported.roots → Taken r
  root-read (Err f) imported is reads counts r alone = absurd is
  root-read (Ok found) imported is reads counts r alone = let same : imported ≡ found = cc in roots-judged found reads counts r (alone ∙ ap (λ (x : Imported). root_alone x.roots) same)

-- ---- two stores are compared

module _ (X : List ℕ → List ℕ) (cid root : Cid) (a b : Seen) (r s : Seen) (told : b.told ≡ a.told) (right : s.told ≡ r.told) where
  abbrev Judged : Result Compared SameFault → Type 0
  Judged answer = (t u : Contents) → a.told ≡ Some t → r.told ≡ Some u → Judges (verdict (held_at t) (held_at u) most_blocks cid root) answer

  abbrev Done : Result (List ℕ) Refusal → Type 0
  Done done = ComparesStores X cid root done a b r.told

  -- the verdict, by what is held
  judged : (A : Verdict → Type 0) → ((t u : Contents) → a.told ≡ Some t → r.told ≡ Some u → A (verdict (held_at t) (held_at u) most_blocks cid root))
      → (held : Lookup) (u : Contents) → TellsBlocks a.told held → r.told ≡ Some u → A (verdict held (held_at u) most_blocks cid root)
  judged A says held u tells given = by a.told refl tells
    where
      by : (t : Told) → a.told ≡ t → TellsBlocks t held → A (verdict held (held_at u) most_blocks cid root)
      by None is tells = absurd tells
      by (Some t) is tells = subst (λ (h : Lookup). A (verdict h (held_at u) most_blocks cid root)) (sym tells) (says t u is given)

  -- a fault that the verdict has
  faulty : (f : SameFault) → ((t u : Contents) → a.told ≡ Some t → r.told ≡ Some u → verdict (held_at t) (held_at u) most_blocks cid root ≡ Err f)
      → (held : Lookup) (u : Contents) → TellsBlocks a.told held → r.told ≡ Some u → Err (same_refusal f) ≡ verdict_told (verdict held (held_at u) most_blocks cid root)
  faulty f says held u tells given = sym (ap verdict_told (judged (λ v. v ≡ Err f) says held u tells given))

  -- there was no memory
  unshown : StaysCalm a b → Done (Err no_memory)
  unshown calm = record {
    verdict_is = λ held u tells given quiet. inl refl;
    kinds = refl;
    unread = refl;
    cause = calm-memory a b calm;
    told = told;
    sections = λ left u given kept. tt;
  }

  compared-as : (found : Compared) (text : List ℕ) → Judged (Ok found) → text ≡ compared_text found → StaysCalm a b → Done (Ok text)
  compared-as found text says is calm = record {
    verdict_is = λ held u tells given quiet. inr (ap (λ (t : List ℕ). Ok t) is ∙ sym (ap verdict_told (judged (λ v. v ≡ Ok found) says held u tells given)));
    kinds = tt;
    unread = refl;
    cause = calm;
    told = told;
    sections = λ left u given kept. tt;
  }

  not-compared : (f : SameFault) → Judged (Err f) → IsOfLoads f → Shown X NoneIsBad (left_fault {A = Compared} (Err f)) a b → Shown X NoneIsBad (right_fault {A = Compared} (Err f)) r s → MissesNone (left_fault {A = Compared} (Err f)) a b
      → Done (Err (same_refusal f))
  not-compared (same.NotDagPb c why) says loads left other misses = record {
    verdict_is = λ held u tells given quiet. inr (faulty (same.NotDagPb c why) says held u tells given);
    kinds = refl;
    unread = refl;
    cause = left;
    told = told;
    sections = λ l u given kept. tt;
  }
  not-compared same.TooMany says loads left other misses = record {
    verdict_is = λ held u tells given quiet. inr (faulty same.TooMany says held u tells given);
    kinds = refl;
    unread = refl;
    cause = left;
    told = told;
    sections = λ l u given kept. tt;
  }
  not-compared same.Memory says loads left other misses = unshown left
  not-compared (same.Left fault.Failed) says loads left other misses = record {
    verdict_is = λ held u tells given quiet. absurd (not-rose a.faults b.faults left.rose quiet.faults);
    kinds = refl;
    unread = refl;
    cause = left;
    told = told;
    sections = λ l u given kept. tt;
  }
  not-compared (same.Left (fault.Damaged c)) says loads left other misses = record {
    verdict_is = λ held u tells given quiet. absurd (not-rose a.faults b.faults left.rose quiet.faults);
    kinds = refl;
    unread = refl;
    cause = left;
    told = told;
    sections = λ l u given kept. tt;
  }
  not-compared (same.Left (fault.Missing c)) says loads left other misses = record {
    verdict_is = λ held u tells given quiet. inr (faulty (same.Left (fault.Missing c)) says held u tells given);
    kinds = refl;
    unread = refl;
    cause = left;
    told = told;
    sections = λ l u given kept. tt;
  }
  not-compared (same.Left (fault.BadBlock c role)) says loads left other misses = absurd loads
  not-compared (same.Left (fault.Clash c first second)) says loads left other misses = absurd loads
  not-compared (same.Left fault.Memory) says loads left other misses = record {
    verdict_is = λ held u tells given quiet. inl refl;
    kinds = refl;
    unread = refl;
    cause = left;
    told = told;
    sections = λ l u given kept. tt;
  }
  not-compared (same.Right fault.Failed) says loads left other misses = unshown left
  not-compared (same.Right (fault.Damaged c)) says loads left other misses = unshown left
  not-compared (same.Right (fault.Missing c)) says loads left other misses = record {
    verdict_is = λ held u tells given quiet. inr (faulty (same.Right (fault.Missing c)) says held u tells given);
    kinds = refl;
    unread = refl;
    cause = left;
    told = told;
    sections = λ l u given kept. (
      refl,
      record {
        lacks = each-text (λ bytes. sections_held (car_read X most_car bytes).sections c ≡ None) l (λ bytes is. lacks u given (with_saves (car_read X most_car bytes).sections no_contents) (text-at (λ bytes. u ≡ with_saves (car_read X most_car bytes).sections no_contents) l kept bytes is));
        spares = record { calm = left; misses = misses; told = told };
      },
    );
  }
    where
      lacks : (u : Contents) → r.told ≡ Some u → (kept : Contents) → u ≡ kept → held_at kept c ≡ None
      lacks u given kept is = subst (λ (t : Contents). held_at t c ≡ None) is (subst (λ (t : Told). IfSome t (λ x. held_at x c ≡ None)) (right ∙ given) other.not_held)
  not-compared (same.Right (fault.BadBlock c role)) says loads left other misses = absurd loads
  not-compared (same.Right (fault.Clash c first second)) says loads left other misses = absurd loads
  not-compared (same.Right fault.Memory) says loads left other misses = unshown left

  -- by what the comparison answers
  abbrev IsSame : SameFault → Refusal → Type 0
  IsSame f why = why ≡ same_refusal f

  pub compared-unshown : (answer : Result Compared SameFault) (given : Compared) → IsRefusedAs IsSame answer (Ok given) → Shown X NoneIsBad (left_fault answer) a b → Done (Err no_memory)
  compared-unshown (Err f) given is left = absurd is
  compared-unshown (Ok found) given is calm = unshown calm

  pub compared-shown : (answer : Result Compared SameFault) (given : Compared) → IsRefusedAs IsSame answer (Ok given) → (text : List ℕ) → Judged answer → text ≡ compared_text given → Shown X NoneIsBad (left_fault answer) a b → Done (Ok text)
  compared-shown (Err f) given is text says told_is left = absurd is
  compared-shown (Ok found) given is text says told_is calm = let same : given ≡ found = cc in compared-as found text says (told_is ∙ ap compared_text same) calm

  pub uncompared : (answer : Result Compared SameFault) (why : Refusal) → IsRefusedAs IsSame answer (Err why) → Judged answer → IfErr answer IsOfLoads → Shown X NoneIsBad (left_fault answer) a b → Shown X NoneIsBad (right_fault answer) r s
      → MissesNone (left_fault answer) a b → Done (Err why)
  uncompared (Ok found) why is says loads left other misses = absurd cc
  uncompared (Err f) why is says loads left other misses = subst (λ (why : Refusal). Done (Err why)) (sym is) (not-compared f says loads left other misses)

-- ---- both in turn

module _ (X : List ℕ → List ℕ) (cid : Cid) (a b : Seen) (l : streams.Told) (i j : ℕ) where
  -- a fault that is want of memory shows nothing more
  wants-none : (o : Option StoreFault) → IfSome o (λ f. f ≡ fault.Memory) → Shown X NoneIsBad o a a
  wants-none None h = StaysCalm-refl a
  wants-none (Some f) h = subst (λ (o : StoreFault). Shown X NoneIsBad (Some o) a a) (sym h) (calm-memory a a (StaysCalm-refl a))

  module _ (s t : Told) (empty : s ≡ Some no_contents) where
    pub unrooted : (why : Refusal) → TakesRoot X (Err why) s t l i j → ComparesCar X cid (Err why) a a l i j
    unrooted why k = record {
      says = λ held bytes tells given stood calm. by (car_read X most_car bytes) (k.root bytes given empty stood) held;
      kinds = k.kinds;
      counts = k.counts;
      cause = wants-none (refusal_fault {A = List ℕ} (Err why)) k.fault;
      told = refl;
      sections = k.sections empty a;
    }
      where
        by : (r : Read (List Cid)) → (why ≡ no_memory) ⊎ ((held : Lookup) (under : Cid) → car_compared held under r ≡ Err why) → (held : Lookup)
            → (◌≡◌ {A = Result (List ℕ) Refusal} (Err why) (Err no_memory)) ⊎ (Err why ≡ car_compared held cid r)
        by r (inl is) held = inl (ap (λ (w : Refusal). Err w) is)
        by r (inr is) held = inr (sym (is held cid))

    pub rooted : (root : Cid) (done : Result (List ℕ) Refusal) (u : Contents) → t ≡ Some u → TakesRoot X (Ok root) s t l i j → ComparesStores X cid root done a b t → ComparesCar X cid done a b l i j
    rooted root done u given k c = record {
      says = λ held bytes tells is stood calm. by (car_read X most_car bytes) (k.root bytes is empty) held (c.verdict_is held u tells given calm);
      kinds = c.kinds;
      counts = subst (λ x. Counts x i j) (sym c.unread) k.counts;
      cause = c.cause;
      told = c.told;
      sections = c.sections l u given (each-text (λ bytes. u ≡ with_saves (car_read X most_car bytes).sections no_contents) l (λ bytes is. kept-is (car_read X most_car bytes) (k.root bytes is empty)));
    }
      where
        kept-is : (r : Read (List Cid)) → IsRootOf r root t → u ≡ with_saves r.sections no_contents
        kept-is r is = (let e : Some u ≡ Some (with_saves r.sections no_contents) = sym given ∙ is.kept in cc)

        by : (r : Read (List Cid)) → IsRootOf r root t → (held : Lookup) → (done ≡ Err no_memory) ⊎ (done ≡ verdict_told (verdict held (held_at u) most_blocks cid root)) → (done ≡ Err no_memory) ⊎ (done ≡ car_compared held cid r)
        by r is held (inl wants) = inl wants
        by r is held (inr e) = inr (e ∙ ap (λ (x : Contents). verdict_told (verdict held (held_at x) most_blocks cid root)) (kept-is r is)
            ∙ sym (ap (λ t. unless_two t (by_answer held (sections_held r.sections) cid r.answer)) is.sound ∙ ap (by_answer held (sections_held r.sections) cid) is.is))
