-- Moves and copies: what a lookup of the source, a target or a spot, and an edit give together.
use Rattle.std.proofs.Common.{◌≡◌, ℕ, ◌+◌, ◌-◌, ◌*◌, ◌≤◌, List, [], ◌∷◌, ◌++◌, length, take, refl, ap, arith, sym, ◌∙◌, subst, true, false, Bool, Option, Some, None, Result, Ok, Err}
use Rattle.std.specs.Prelude.{◌||◌, get_or}
use Rattle.uf_cid.specs.Blocks.{Held}
use Rattle.uf_edge.specs.Counts.{Stood}
use Rattle.uf_path.specs.declared.path.Path.{Path}
use Rattle.uf_store.specs.declared.store.Role.{Role}
use Rattle.uf_store.specs.declared.store.StoreFault.{StoreFault}
use Rattle.uf_store.specs.Calls.{OnlyReads}
use Rattle.uf_store.specs.Faults.{Rises}
use Rattle.uf_store.proofs.Causes.{Shows-rises, calm-rises}
use Rattle.uf_store.specs.Contents.{Told}
use Rattle.uf_store.specs.Keeping.{KeepsGood, StaysAgreed}
use Rattle.uf_store.specs.Lost.{AgreesAfter, IsLossOf}
use Rattle.uf_store.specs.Seen.{Seen}
use Rattle.uf_store.proofs.Calls.{calm-then, reads-saves, shown-rises, stood-back, stood-front}
use Rattle.uf_tree.specs.declared.nodes.Entry.{Entry}
use Rattle.uf_tree.specs.declared.profile.Profile.{Profile}
use Rattle.uf_tree.specs.Tree.{Tree, Dir, Entries}
use Rattle.uf_tree.specs.TreePlan.{blocks}
use Rattle.uf_plain.specs.declared.rule.Refused.{Refused}
use Rattle.uf_plain.specs.declared.rule.Rule.{Rule}
use Rattle.uf_plain.specs.declared.spot.Spot.{Spot}
use Rattle.uf_plain.specs.Edits.{and_then, at, child, is_folder_at}
use Rattle.uf_plain.specs.declared.spot.Lie.TheVariants.{Itself}
use Rattle.uf_plain.specs.Needs.{way}
use Rattle.uf_plain.specs.Moves.{allowed_move, as_vacant, carried, copied, folder_at, landing, lie_of, moved_to, name_of, placed_at, put_at_spot, spot_in, spot_names, spotted, target, then_go, told_of}
use Rattle.uf_plain.specs.Rules.{allowed}
use Rattle.uf_mfs.specs.declared.fault.MfsFault.{MfsFault}
use Rattle.uf_mfs.specs.declared.fault.MfsFault.TheVariants as fault
use Rattle.uf_mfs.specs.declared.mfs.Mfs.{Mfs}
use Rattle.uf_mfs.specs.declared.fault.Stop.{Stop}
use Rattle.uf_mfs.specs.declared.fault.Stop.TheVariants as stop
use Rattle.uf_mfs.specs.Answers.{AnswersOr, MeetsOr, MovesAfter, ShownInTree, Tells}
use Rattle.uf_mfs.specs.Moving.{Gives, GivesOr, GivesOver, IsFound, IsOntoItself, MovesBy, MovesRoot, copy_bound, entry_in, found_crossings, move_bound, put_crossings}
use Rattle.uf_mfs.specs.declared.target.MoveTarget.{MoveTarget}
use Rattle.uf_mfs.specs.declared.thing.Thing.{Thing}
use Rattle.uf_mfs.specs.Standing.{IsAfter, IsAgreed, IsAgreedThing, IsPlanOf, StandsAfter, StandsAt, StandsOver, TellsHeld}
use Rattle.uf_mfs.specs.Steps.{IsFolderOver}
use Rattle.uf_mfs.proofs.After.{Among, after-wider, loss-among, stays-some}
use Rattle.uf_mfs.proofs.Agreed.{plan-of}
use Rattle.uf_mfs.proofs.Hinge.{are-good}
use Rattle.uf_mfs.proofs.Holding.{append, loss-fault, tells-after, tells-agrees, tells-kept}
use Rattle.uf_mfs.proofs.Needed.{at-among, way-among}
use Rattle.uf_mfs.proofs.Shifting.{allowed-stop, thing-plan, told-allowed}
use Rattle.uf_mfs.proofs.Spots.{front-last, gives-stop, meets-among, tells-gives}

both-among : (k l m : List Held) → Among k m → Among l m → Among (k ++ l) m
both-among k l m p q P h = append P k l (p P h) (q P h)

-- ---- values

-- what has a value is that
pub meets-value : {A B : Type 0} (May : StoreFault → Type 0) (P : A → B → Type 0) (w : Result A Refused) (b : B) → MeetsOr May P w (Ok b) → (a : A) × (w ≡ Ok a) × P a b
meets-value May P (Ok a) b h = (a, refl, h)
meets-value May P (Err why) b h = absurd h

pub gives-value : {A B : Type 0} (May : StoreFault → Type 0) (P : A → B → Type 0) (w : Result A Rule) (b : B) → GivesOr May P w (Ok b) → (a : A) × (w ≡ Ok a) × P a b
gives-value May P (Ok a) b h = (a, refl, h)
gives-value May P (Err rule) b h = absurd h

-- an answer with a path is one of a rule
pub answers-gives : {A B : Type 0} (May : StoreFault → Type 0) (P : A → B → Type 0) (names : List (List ℕ)) (w : Result A Refused) (r : Result B MfsFault) → AnswersOr May P names w r → GivesOr May P (told_of names w) r
answers-gives May P names (Ok a) (Ok b) h = h
answers-gives May P names (Err why) (Ok b) h = h
answers-gives May P names (Ok a) (Err (fault.Rule rule)) h = h
answers-gives May P names (Err why) (Err (fault.Rule rule)) h = h
answers-gives May P names (Ok a) (Err (fault.Ready ready)) h = h
answers-gives May P names (Err why) (Err (fault.Ready ready)) h = h
answers-gives May P names (Ok a) (Err fault.Sink) h = h
answers-gives May P names (Err why) (Err fault.Sink) h = h
answers-gives May P names (Ok a) (Err (fault.Store f)) h = h
answers-gives May P names (Err why) (Err (fault.Store f)) h = h

-- what may come more, and what is known less
pub gives-more : {A B : Type 0} (May Other : StoreFault → Type 0) (P Q : A → B → Type 0) (w : Result A Rule) (r : Result B MfsFault) → ((f : StoreFault) → May f → Other f) → ((a : A) (b : B) → P a b → Q a b)
    → GivesOr May P w r → GivesOr Other Q w r
gives-more May Other P Q (Ok a) (Ok b) more other h = other a b h
gives-more May Other P Q (Err rule) (Ok b) more other h = h
gives-more May Other P Q (Ok a) (Err (fault.Rule rule)) more other h = h
gives-more May Other P Q (Err rule) (Err (fault.Rule given)) more other h = h
gives-more May Other P Q (Ok a) (Err (fault.Ready ready)) more other h = h
gives-more May Other P Q (Err rule) (Err (fault.Ready ready)) more other h = h
gives-more May Other P Q (Ok a) (Err fault.Sink) more other h = h
gives-more May Other P Q (Err rule) (Err fault.Sink) more other h = h
gives-more May Other P Q (Ok a) (Err (fault.Store f)) more other h = more f h
gives-more May Other P Q (Err rule) (Err (fault.Store f)) more other h = more f h

-- ---- the plain tree's moves and copies

-- a source that isn't the root
pub carried-some : (source : List (List ℕ)) (dest : Path) (es : Entries) → 1 ≤ length source
    → carried source dest es ≡ then_go (told_of source (at 0 source (Dir es))) (λ t. then_go (target dest (name_of source) es) (λ found. moved_to source t found es))
carried-some [] dest es some = absurd (omega (arith, some))
carried-some (name ∷ names) dest es some = refl

-- where something lands, by its length
pub landed-length : (dest : Path) (b : Bool) (name : Option (List ℕ)) (es : Entries) (found : Spot × Entries) → told_of dest.names (landing b dest.names name es) ≡ Ok found → length (spot_names found.0) ≤ length dest.names + 1
landed-length dest b name es found is = by b is
  where
    one : (folder : List (List ℕ)) (n : List ℕ) → length (folder ++ n ∷ []) ≡ length folder + 1
    one [] n = refl
    one (x ∷ folder) n = let rest = one folder n in omega (arith, rest)

    in-folder : (folder : List (List ℕ)) (o : Option (List ℕ)) (w : Result Entries Refused) → length folder ≤ length dest.names → told_of dest.names (and_then w (spot_in folder o)) ≡ Ok found
        → length (spot_names found.0) ≤ length dest.names + 1
    in-folder folder None (Ok fs) le is = absurd cc
    in-folder folder o (Err why) le is = absurd cc
    in-folder folder (Some n) (Ok fs) le is =
        let same : (record { folder = folder; name = n }, fs) ≡ found = cc in
        let many = one folder n in let long : length (spot_names found.0) ≡ length (folder ++ n ∷ []) = ap (λ (x : Spot × Entries). length (spot_names x.0)) (sym same) in
        omega (arith, le, many, long)

    shorter : (n : ℕ) (xs : List (List ℕ)) → length (take n xs) ≤ length xs
    shorter ℕ.zero [] = omega arith
    shorter (ℕ.suc n) [] = omega arith
    shorter ℕ.zero (x ∷ xs) = omega arith
    shorter (ℕ.suc n) (x ∷ xs) = let rest = shorter n xs in omega (arith, rest)

    by : (b : Bool) → told_of dest.names (landing b dest.names name es) ≡ Ok found → length (spot_names found.0) ≤ length dest.names + 1
    by true is = in-folder dest.names name (folder_at dest.names es) (omega arith) is
    by false is = in-folder (take (length dest.names - 1) dest.names) (name_of dest.names) (folder_at (take (length dest.names - 1) dest.names) es) (shorter (length dest.names - 1) dest.names) is

-- where a target goes, by its length
pub target-length : (dest : Path) (name : List ℕ) (es : Entries) (found : Spot × Entries) → target dest (Some name) es ≡ Ok found → length (spot_names found.0) ≤ length dest.names + 1
target-length dest name es found is = landed-length dest (dest.into || is_folder_at (at 0 dest.names (Dir es))) (Some name) es found is

-- no count rose in the first of two calls that read alone where none rose over both
pub looked-stood : (hash : List ℕ → List ℕ) (Bad Other : Role → List ℕ → Type 0) {fault : Option StoreFault} {a b c : Seen} → OnlyReads hash Bad None a b → OnlyReads hash Other fault b c → Stood a.faults c.faults → Stood a.faults b.faults
looked-stood hash Bad Other {fault} {a} {b} {c} first second stood = stood-front a.faults b.faults c.faults first.cause.faults (shown-rises hash Other fault b c second.cause).faults stood

module _ (X : List ℕ → List ℕ) (N : List ℕ → ℕ) where
  -- ---- over all blocks held

  held-moves : (a b : Told) (old : List Held) (p : Profile) (is : Mfs) (w : Result Entries Rule) (r : Result Unit MfsFault) → TellsHeld a old
      → GivesOr (IsLossOf a old) (λ fs done. StandsAfter X N a b old is p fs) w r → Gives (λ fs done. StandsAt X N b is p fs) w r
  held-moves a b old p is w r held h = gives-more (IsLossOf a old) _ _ _ w r (λ f lost. loss-fault a old f held lost) (λ fs done h. record {
    profile_is = h.profile_is;
    root = record { profile = h.root.plan.profile; tree = h.root.plan.tree; planned = h.root.plan.planned; is = h.root.plan.is; held = tells-after a b old _ held h.root.after };
  }) h

  -- a move of a tree whose blocks are held
  pub moves-by-held : (before now : Seen) (was is : Mfs) (next : Profile → Entries → Result Entries Rule) (r : Result Unit MfsFault) → KeepsGood X before.told now.told
      → MovesBy X N before now was is next r → (p : Profile) (es : Entries) → StandsAt X N before.told was p es → Stood before.faults now.faults → Stood before.clashes now.clashes
      → Gives (λ fs done. StandsAt X N now.told is p fs) (next p es) r
  moves-by-held before now was is next r keeps moves p es s faults clashes =
      let held = s.root.held in
      held-moves before.told now.told (blocks X N p (Dir es)) p is (next p es) r held (moves p es s.profile_is (record {
        plan = plan-of X N p before.told was.root (Dir es) s.root;
        stays = record { first = tells-agrees before.told _ held; last = tells-agrees now.told _ (tells-kept X before.told now.told _ (are-good X N p (Dir es)) keeps held) };
        calm = record { faults = faults; clashes = clashes };
      }))

  -- ---- what is put is in the tree

  module _ (p : Profile) {Bad : Role → List ℕ → Type 0} {a b : Seen} (reads : OnlyReads X Bad None a b) where
    -- the tree beside something that it has at these names, after calls that read alone
    pub over-beside : (c : Seen) (names : List (List ℕ)) (root : Entry) (es : Entries) (t : Tree) → at 0 names (Dir es) ≡ Ok t → IsFolderOver X N p a c [] root es → IsFolderOver X N p b c (blocks X N p t) root es
    over-beside c names root es t there o = record {
      plan = o.plan;
      stays = subst (λ told. StaysAgreed told c.told (blocks X N p t ++ blocks X N p (Dir es))) (sym reads.told)
          (stays-some a.told c.told _ _ (both-among _ _ _ (λ P k. at-among X N p 0 names (Dir es) t there P k) (λ P k. k)) o.stays);
      calm = calm-then (reads-saves reads) o.calm;
    }

    -- what came of it came of the tree
    pub stands-beside : (c : Told) (names : List (List ℕ)) (es fs : Entries) (t : Tree) (is : Mfs) → at 0 names (Dir es) ≡ Ok t → StandsAfter X N b.told c (blocks X N p t ++ blocks X N p (Dir es)) is p fs
        → StandsAfter X N a.told c (blocks X N p (Dir es)) is p fs
    stands-beside c names es fs t is there h = record {
      profile_is = h.profile_is;
      root = record {
        plan = h.root.plan;
        after = subst (λ told. AgreesAfter told c (blocks X N p (Dir es)) (blocks X N p (Dir fs))) reads.told
            (after-wider b.told c _ _ _ (both-among _ _ _ (λ P k. at-among X N p 0 names (Dir es) t there P k) (λ P k. k)) h.root.after);
      };
    }

    pub loss-beside : (names : List (List ℕ)) (es : Entries) (t : Tree) (f : StoreFault) → at 0 names (Dir es) ≡ Ok t → IsLossOf b.told (blocks X N p t ++ blocks X N p (Dir es)) f → IsLossOf a.told (blocks X N p (Dir es)) f
    loss-beside names es t f there h = subst (λ told. IsLossOf told (blocks X N p (Dir es)) f) reads.told
        (loss-among b.told _ _ f (both-among _ _ _ (λ P k. at-among X N p 0 names (Dir es) t there P k) (λ P k. k)) h)

-- ---- a move, and its parts

module _ (X : List ℕ → List ℕ) (N : List ℕ → ℕ) (p : Profile) where
  -- a source that isn't found, and a target that isn't
  pub source-stop : {B C : Type 0} (told : Told) (source : List (List ℕ)) (dest : Path) (es : Entries) (P : Tree → B → Type 0) (Q : Entries → C → Type 0) (s : Stop) (f : MfsFault) → 1 ≤ length source → Tells source s f
      → MeetsOr (IsLossOf told (way X N p source (Dir es))) P (at 0 source (Dir es)) (Err s) → GivesOver X N told p es Q (allowed_move X N p (carried source dest es)) (Err f)
  source-stop told source dest es P Q s f some t h =
      let May = IsLossOf told (blocks X N p (Dir es)) in let Any = λ (a : Tree) (b : Unit {0}). Unit {0} in let Moved = λ (a : Entries) (b : Unit {0}). Unit {0} in
      allowed-stop X N p May Moved Q (carried source dest es) f
      (subst (λ w. GivesOr May Moved w (Err f)) (sym (carried-some source dest es some))
      (gives-stop May Any Moved (told_of source (at 0 source (Dir es))) (λ t. then_go (target dest (name_of source) es) (λ found. moved_to source t found es)) f
      (tells-gives May Any Any source (at 0 source (Dir es)) s f tt t
      (by (at 0 source (Dir es)) s (meets-among told _ _ P (at 0 source (Dir es)) (Err s) (λ R k. way-among X N p source (Dir es) R k) h)))))
    where
      by : (w : Result Tree Refused) (s : Stop) → MeetsOr (IsLossOf told (blocks X N p (Dir es))) P w (Err s) → MeetsOr (IsLossOf told (blocks X N p (Dir es))) (λ (a : Tree) (b : Unit {0}). Unit {0}) w (Err s)
      by (Ok t) (stop.Refused why) h = h
      by (Ok t) (stop.Store f) h = h
      by (Err why) (stop.Refused given) h = h
      by (Err why) (stop.Store f) h = h

  pub target-stops : {B C : Type 0} (told : Told) (source : List (List ℕ)) (dest : Path) (es : Entries) (t : Tree) (P : Spot × Entries → B → Type 0) (Q : Entries → C → Type 0) (f : MfsFault) → 1 ≤ length source → at 0 source (Dir es) ≡ Ok t
      → GivesOver X N told p es P (target dest (name_of source) es) (Err f) → GivesOver X N told p es Q (allowed_move X N p (carried source dest es)) (Err f)
  target-stops told source dest es t P Q f some there h =
      let May = IsLossOf told (blocks X N p (Dir es)) in let Moved = λ (a : Entries) (b : Unit {0}). Unit {0} in
      allowed-stop X N p May Moved Q (carried source dest es) f
      (subst (λ w. GivesOr May Moved w (Err f)) (sym (carried-some source dest es some ∙ ap (λ w. then_go (told_of source w) (λ t. then_go (target dest (name_of source) es) (λ found. moved_to source t found es))) there))
      (gives-stop May P Moved (target dest (name_of source) es) (λ found. moved_to source t found es) f h))

  -- a source and a target that were found
  pub carried-on : (source : List (List ℕ)) (dest : Path) (es : Entries) (t : Tree) (found : Spot × Entries) → 1 ≤ length source → at 0 source (Dir es) ≡ Ok t → target dest (name_of source) es ≡ Ok found
      → carried source dest es ≡ moved_to source t found es
  carried-on source dest es t found some there at-found =
      carried-some source dest es some ∙ ap (λ w. then_go (told_of source w) (λ t. then_go (target dest (name_of source) es) (λ found. moved_to source t found es))) there
      ∙ ap (λ w. then_go w (λ found. moved_to source t found es)) at-found

  -- how often the store is touched
  pub move-touches : (source : List (List ℕ)) (dest : Path) (es : Entries) (t : Tree) (found : Spot × Entries) (t0 t1 t2 t3 k : ℕ) → at 0 source (Dir es) ≡ Ok t → target dest (name_of source) es ≡ Ok found
      → t1 ≤ t0 + 11 * length source → t2 ≤ t1 + 11 * (length dest.names + 1) → k ≤ length dest.names + 1 → t3 ≤ t2 + (40 * (length source + k) + found_crossings X N p source found t es)
      → t3 ≤ t0 + move_bound X N p source dest es
  move-touches source dest es t found t0 t1 t2 t3 k there at-found first second long third =
      let outer = ap (λ (w : Result Tree Refused). elim w as (λ w. ℕ) [
        | Ok t ↦ elim (target dest (name_of source) es) as (λ w. ℕ) [ Ok found ↦ found_crossings X N p source found t es | Err rule ↦ 0 ]
        | Err why ↦ 0
      ]) there in
      let inner = ap (λ (w : Result (Spot × Entries) Rule). elim w as (λ w. ℕ) [ Ok found ↦ found_crossings X N p source found t es | Err rule ↦ 0 ]) at-found in
      omega (arith, outer, inner, first, second, long, third)

  -- where the target is the source
  pub onto-itself : (source : List (List ℕ)) (dest : Path) (es : Entries) (found : Spot × Entries) (names : List (List ℕ)) → target dest (name_of source) es ≡ Ok found → names ≡ spot_names found.0 → IsOntoItself source dest es
      → lie_of source names ≡ Itself
  onto-itself source dest es found names at-found same h =
      ap (lie_of source) same ∙ subst (λ (w : Result (Spot × Entries) Rule). elim w as (λ w. Type 0) [ Ok found ↦ lie_of source (spot_names found.0) ≡ Itself | Err rule ↦ ⊥ ]) at-found h

-- a source and a target that were found, one after the other
pub record MoveFound (X : List ℕ → List ℕ) (N : List ℕ → ℕ) (p : Profile) (told : Told) (source : List (List ℕ)) (dest : Path) (es : Entries) (thing : Thing) (given : MoveTarget) : Type 0 where
  pub t : Tree
  pub there : at 0 source (Dir es) ≡ Ok t
  pub is_thing : IsAgreedThing X N told p t thing
  pub found : Spot × Entries
  pub at_found : target dest (name_of source) es ≡ Ok found
  pub is_found : IsFound X N told p found given

pub move-found : (X : List ℕ → List ℕ) (N : List ℕ → ℕ) (p : Profile) (source : List (List ℕ)) (dest : Path) (es : Entries) (root : Entry) (thing : Thing) (given : MoveTarget) (last : List ℕ) {Bad Other : Role → List ℕ → Type 0} {a b d : Seen}
    → OnlyReads X Bad None a b → OnlyReads X Other None b d → 1 ≤ length source → last ≡ get_or source (length source - 1) last → IsAgreed X N a.told p root (Dir es) → Stood a.faults d.faults
    → (IsAgreed X N a.told p root (Dir es) → Stood a.faults b.faults → MeetsOr (IsLossOf a.told (way X N p source (Dir es))) (λ t x. IsAgreedThing X N a.told p t x) (at 0 source (Dir es)) (Ok thing))
    → (IsAgreed X N b.told p root (Dir es) → Stood b.faults d.faults → GivesOver X N b.told p es (IsFound X N b.told p) (target dest (Some last) es) (Ok given))
    → MoveFound X N p d.told source dest es thing given
move-found X N p source dest es root thing given last {Bad} {Other} {a} {b} {d} looked targeted some is s stood looks finds =
    let met = meets-value (IsLossOf a.told (way X N p source (Dir es))) (λ t x. IsAgreedThing X N a.told p t x) (at 0 source (Dir es)) thing (looks s (looked-stood X Bad Other looked targeted stood)) in
    let given-at = gives-value (IsLossOf b.told (blocks X N p (Dir es))) (IsFound X N b.told p) (target dest (Some last) es) given
    (finds (subst (λ told. IsAgreed X N told p root (Dir es)) (sym looked.told) s) (stood-back a.faults b.faults d.faults looked.cause.faults stood)) in
    record {
      t = met.0;
      there = met.1;
      is_thing = subst (λ told. IsAgreedThing X N told p met.0 thing) (sym (targeted.told ∙ looked.told)) met.2;
      found = given-at.0;
      at_found = subst (λ n. target dest n es ≡ Ok given-at.0) (sym (front-last source last some is).1) given-at.1;
      is_found = subst (λ told. IsFound X N told p given-at.0 given) (sym targeted.told) given-at.2;
    }

module _ (X : List ℕ → List ℕ) (N : List ℕ → ℕ) (before now : Seen) where
  -- what a move of the root gives, the tree in memory has
  pub root-moves : (was : Mfs) (root : Entry) (next : Profile → Entries → Result Entries Rule) → MovesRoot X N before now was next (Ok root)
      → MovesBy X N before now was (record { profile = was.profile; root = root }) next (Ok (tt {0}))
  root-moves was root next moves = λ p es same o. by p es same (next p es) (moves p es same o)
    where
      by : (p : Profile) (es : Entries) → was.profile ≡ p → (w : Result Entries Rule)
          → GivesOver X N {A = Entries} {B = Entry} before.told p es (λ fs e. IsAfter X N before.told now.told (blocks X N p (Dir es)) p e (Dir fs)) w (Ok root)
          → GivesOver X N {A = Entries} {B = Unit {0}} before.told p es (λ fs done. StandsAfter X N before.told now.told (blocks X N p (Dir es)) (record { profile = was.profile; root = root }) p fs) w (Ok (tt {0}))
      by p es same (Ok fs) h = record { profile_is = same; root = h }
      by p es same (Err rule) h = absurd h

  pub root-stops : (was is : Mfs) (f : MfsFault) (next : Profile → Entries → Result Entries Rule) → MovesRoot X N before now was next (Err f) → MovesBy X N before now was is next (Err f)
  root-stops was is f next moves = λ p es same o. by p es (next p es) f (moves p es same o)
    where
      by : (p : Profile) (es : Entries) (w : Result Entries Rule) (f : MfsFault) → GivesOver X N {A = Entries} {B = Entry} before.told p es (λ fs e. IsAfter X N before.told now.told (blocks X N p (Dir es)) p e (Dir fs)) w (Err f)
          → GivesOver X N {A = Entries} {B = Unit {0}} before.told p es (λ fs done. StandsAfter X N before.told now.told (blocks X N p (Dir es)) is p fs) w (Err f)
      by p es (Ok fs) (fault.Rule rule) h = h
      by p es (Ok fs) (fault.Ready ready) h = h
      by p es (Ok fs) fault.Sink h = h
      by p es (Ok fs) (fault.Store f) h = h
      by p es (Err rule) (fault.Rule given) h = h
      by p es (Err rule) (fault.Ready ready) h = h
      by p es (Err rule) fault.Sink h = h
      by p es (Err rule) (fault.Store f) h = h

-- ---- a copy, and its parts

module _ (X : List ℕ → List ℕ) (N : List ℕ → ℕ) (p : Profile) where
  -- a source that isn't found, and a spot that isn't
  pub copied-stop : {B C : Type 0} (told : Told) (source : List (List ℕ)) (dest : Path) (es : Entries) (P : Tree → B → Type 0) (Q : Entries → C → Type 0) (s : Stop) (f : MfsFault) → Tells source s f
      → MeetsOr (IsLossOf told (way X N p source (Dir es))) P (at 0 source (Dir es)) (Err s) → GivesOver X N told p es Q (allowed_move X N p (copied source dest es)) (Err f)
  copied-stop told source dest es P Q s f t h =
      let May = IsLossOf told (blocks X N p (Dir es)) in let Any = λ (a : Tree) (b : Unit {0}). Unit {0} in let Moved = λ (a : Entries) (b : Unit {0}). Unit {0} in
      allowed-stop X N p May Moved Q (copied source dest es) f
      (gives-stop May Any Moved (told_of source (at 0 source (Dir es))) (λ t. then_go (spotted dest (name_of source) es) (λ spot. placed_at spot t es)) f
      (tells-gives May P Any source (at 0 source (Dir es)) s f tt t (meets-among told _ _ P (at 0 source (Dir es)) (Err s) (λ R k. way-among X N p source (Dir es) R k) h)))

  pub spot-stop : {B C : Type 0} (told : Told) (source : List (List ℕ)) (dest : Path) (es : Entries) (t : Tree) (P : Spot → B → Type 0) (Q : Entries → C → Type 0) (f : MfsFault) → at 0 source (Dir es) ≡ Ok t
      → GivesOver X N told p es P (spotted dest (name_of source) es) (Err f) → GivesOver X N told p es Q (allowed_move X N p (copied source dest es)) (Err f)
  spot-stop told source dest es t P Q f there h =
      let May = IsLossOf told (blocks X N p (Dir es)) in let Moved = λ (a : Entries) (b : Unit {0}). Unit {0} in
      allowed-stop X N p May Moved Q (copied source dest es) f
      (subst (λ w. GivesOr May Moved w (Err f)) (sym (ap (λ w. then_go (told_of source w) (λ t. then_go (spotted dest (name_of source) es) (λ spot. placed_at spot t es))) there))
      (gives-stop May P Moved (spotted dest (name_of source) es) (λ spot. placed_at spot t es) f h))

  -- a source and a spot that were found
  copied-on : (source : List (List ℕ)) (dest : Path) (es : Entries) (t : Tree) (spot : Spot) → at 0 source (Dir es) ≡ Ok t → spotted dest (name_of source) es ≡ Ok spot
      → allowed_move X N p (copied source dest es) ≡ told_of (spot_names spot) (allowed X N p (put_at_spot spot t es))
  copied-on source dest es t spot there at-spot =
      ap (λ w. allowed_move X N p (then_go (told_of source w) (λ t. then_go (spotted dest (name_of source) es) (λ spot. placed_at spot t es)))) there
      ∙ ap (λ w. allowed_move X N p (then_go w (λ spot. placed_at spot t es))) at-spot ∙ told-allowed X N p (spot_names spot) (put_at_spot spot t es)

  -- what is put there, after calls that read alone
  pub copied-moves : {Bad : Role → List ℕ → Type 0} {a b : Seen} (reads : OnlyReads X Bad None a b) (c : Seen) (source : List (List ℕ)) (dest : Path) (es : Entries) (t : Tree) (spot : Spot) (was is : Mfs) (r : Result Unit MfsFault)
      → at 0 source (Dir es) ≡ Ok t → spotted dest (name_of source) es ≡ Ok spot → IsFolderOver X N p a c [] was.root es
      → (IsFolderOver X N p b c (blocks X N p t) was.root es → MovesAfter X N b.told c.told (blocks X N p t ++ blocks X N p (Dir es)) p (spot_names spot) is (allowed X N p (put_at_spot spot t es)) r)
      → GivesOver X N a.told p es (λ fs done. StandsAfter X N a.told c.told (blocks X N p (Dir es)) is p fs) (allowed_move X N p (copied source dest es)) r
  copied-moves {a = a} {b = b} reads c source dest es t spot was is r there at-spot o puts =
      subst (λ w. GivesOver X N a.told p es (λ fs done. StandsAfter X N a.told c.told (blocks X N p (Dir es)) is p fs) w r) (sym (copied-on source dest es t spot there at-spot))
      (gives-more _ _ _ _ (told_of (spot_names spot) (allowed X N p (put_at_spot spot t es))) r (λ f lost. loss-beside X N p reads source es t f there lost)
      (λ fs done h. stands-beside X N p reads c.told source es fs t is there h)
      (answers-gives (IsLossOf b.told (blocks X N p t ++ blocks X N p (Dir es))) (λ fs done. StandsAfter X N b.told c.told (blocks X N p t ++ blocks X N p (Dir es)) is p fs) (spot_names spot) (allowed X N p (put_at_spot spot t es)) r
      (puts (over-beside X N p reads c source was.root es t there o))))

  -- how often the store is touched
  pub copy-touches : (source : List (List ℕ)) (dest : Path) (es : Entries) (t : Tree) (spot : Spot) (t0 t1 t2 t3 : ℕ) → at 0 source (Dir es) ≡ Ok t → spotted dest (name_of source) es ≡ Ok spot
      → t1 ≤ t0 + 11 * length source → t2 ≤ t1 + 11 * (length dest.names + 1) → length (spot_names spot) ≤ length dest.names + 1 → t3 ≤ t2 + (40 * length (spot_names spot) + put_crossings X N p spot t es)
      → t3 ≤ t0 + copy_bound X N p source dest es
  copy-touches source dest es t spot t0 t1 t2 t3 there at-spot first second long third =
      let outer = ap (λ (w : Result Tree Refused). elim w as (λ w. ℕ) [
        | Ok t ↦ elim (spotted dest (name_of source) es) as (λ w. ℕ) [ Ok spot ↦ put_crossings X N p spot t es | Err rule ↦ 0 ]
        | Err why ↦ 0
      ]) there in
      let inner = ap (λ (w : Result Spot Rule). elim w as (λ w. ℕ) [ Ok spot ↦ put_crossings X N p spot t es | Err rule ↦ 0 ]) at-spot in
      omega (arith, outer, inner, first, second, long, third)

-- where a spot is, by its length
pub spot-length : (dest : Path) (name : Option (List ℕ)) (es : Entries) (spot : Spot) → spotted dest name es ≡ Ok spot → length (spot_names spot) ≤ length dest.names + 1
spot-length dest name es spot is = by (told_of dest.names (landing dest.into dest.names name es)) refl is
  where
    by : (w : Result (Spot × Entries) Rule) → told_of dest.names (landing dest.into dest.names name es) ≡ w
        → then_go w (λ found. told_of (spot_names found.0) (as_vacant found.0 (child found.0.name found.1))) ≡ Ok spot → length (spot_names spot) ≤ length dest.names + 1
    by (Err rule) at-found is = absurd cc
    by (Ok found) at-found is = two (child found.0.name found.1) is
      where
        two : (o : Option Tree) → told_of (spot_names found.0) (as_vacant found.0 o) ≡ Ok spot → length (spot_names spot) ≤ length dest.names + 1
        two (Some t) is = absurd cc
        two None is = subst (λ (s : Spot). length (spot_names s) ≤ length dest.names + 1) (let same : found.0 ≡ spot = cc in same) (landed-length dest dest.into name es found at-found)

-- no count falls in a call on an opened tree
pub tree-rises : (hash : List ℕ → List ℕ) (Bad : Role → List ℕ → Type 0) {A : Type 0} (r : Result A MfsFault) (a b : Seen) → ShownInTree hash Bad r a b → Rises a b
tree-rises hash Bad (Ok x) a b h = calm-rises a b h
tree-rises hash Bad (Err (fault.Rule rule)) a b h = calm-rises a b h
tree-rises hash Bad (Err (fault.Ready ready)) a b h = absurd h
tree-rises hash Bad (Err fault.Sink) a b h = absurd h
tree-rises hash Bad (Err (fault.Store f)) a b h = Shows-rises hash Bad f a b h

-- a source and a spot that were found, one after the other
pub record CopyFound (X : List ℕ → List ℕ) (N : List ℕ → ℕ) (p : Profile) (source : List (List ℕ)) (dest : Path) (es : Entries) (thing : Thing) (spot : Spot) : Type 0 where
  pub t : Tree
  pub there : at 0 source (Dir es) ≡ Ok t
  pub plan : IsPlanOf X N p (entry_in thing) t
  pub at_spot : spotted dest (name_of source) es ≡ Ok spot

pub copy-found : (X : List ℕ → List ℕ) (N : List ℕ → ℕ) (p : Profile) (source : List (List ℕ)) (dest : Path) (es : Entries) (was : Mfs) (thing : Thing) (spot : Spot) (name : Option (List ℕ)) {Bad Other : Role → List ℕ → Type 0} {a b d : Seen}
    → OnlyReads X Bad None a b → OnlyReads X Other None b d → name ≡ name_of source → was.profile ≡ p → IsAgreed X N a.told p was.root (Dir es) → Stood a.faults d.faults
    → (IsAgreed X N a.told p was.root (Dir es) → Stood a.faults b.faults → MeetsOr (IsLossOf a.told (way X N p source (Dir es))) (λ t x. IsAgreedThing X N a.told p t x) (at 0 source (Dir es)) (Ok thing))
    → (StandsOver X N b.told was p es → Stood b.faults d.faults → GivesOver X N b.told p es (λ spot given. given ≡ spot) (spotted dest name es) (Ok spot))
    → CopyFound X N p source dest es thing spot
copy-found X N p source dest es was thing spot name {Bad} {Other} {a} {b} {d} looked targeted is same s stood looks finds =
    let met = meets-value (IsLossOf a.told (way X N p source (Dir es))) (λ t x. IsAgreedThing X N a.told p t x) (at 0 source (Dir es)) thing (looks s (looked-stood X Bad Other looked targeted stood)) in
    let given = gives-value (IsLossOf b.told (blocks X N p (Dir es))) (λ spot given. given ≡ spot) (spotted dest name es) spot
    (finds (record { profile_is = same; root = subst (λ told. IsAgreed X N told p was.root (Dir es)) (sym looked.told) s }) (stood-back a.faults b.faults d.faults looked.cause.faults stood)) in
    record {
      t = met.0;
      there = met.1;
      plan = thing-plan X N p a.told met.0 thing met.2;
      at_spot = subst (λ n. spotted dest n es ≡ Ok spot) is (given.1 ∙ ap (λ (s : Spot). Ok s) (sym given.2));
    }
