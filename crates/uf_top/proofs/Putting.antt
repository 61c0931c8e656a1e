-- A tree put at a spot, step by step.
use Rattle.std.proofs.Common.{◌≡◌, ◌⊎◌, ℕ, ◌+◌, ◌≤◌, List, [], ◌∷◌, ◌++◌, Bool, true, false, refl, sym, ap, subst, ◌∙◌, inl, inr, Option, Some, None, Result, Ok, Err}
use Rattle.std.specs.Prelude.{if◌then◌else◌}
use Rattle.uf_adopt.specs.Adopting.{IsBuilt}
use Rattle.uf_cid.specs.Blocks.{Held}
use Rattle.uf_mfs.specs.Missing.{MissesOnly, PutMisses, put_names, put_needs}
use Rattle.uf_mfs.specs.Moving.{GivesOr}
use Rattle.uf_mfs.specs.Standing.{IsPlanOf, StandsAfter, TellsHeld}
use Rattle.uf_mfs.specs.Steps.{IsFolderOver, MovesTree, tree_fault}
use Rattle.uf_mfs.specs.Touches.{TouchesPut}
use Rattle.uf_mfs.specs.declared.fault.MfsFault.{MfsFault}
use Rattle.uf_mfs.specs.declared.fault.MfsFault.TheVariants as mfs
use Rattle.uf_mfs.specs.declared.mfs.Mfs.{Mfs}
use Rattle.uf_mfs.proofs.After.{after-held, loss-after}
use Rattle.uf_mfs.proofs.Carrying.{answers-gives, gives-more}
use Rattle.uf_mfs.proofs.Folders.{beside, over-first, over-then}
use Rattle.uf_mfs.proofs.Hinge.{are-good}
use Rattle.uf_mfs.proofs.Holding.{loss-back}
use Rattle.uf_mfs.proofs.Missing.{misses-since, put-needs-among, spotted-names}
use Rattle.uf_mfs.proofs.Shifting.{told-allowed}
use Rattle.uf_host.specs.Paths.{first_row, trimmed}
use Rattle.uf_path.specs.declared.path.Path.{Path}
use Rattle.uf_plain.specs.Moves.{allowed_move, placed_at, put_at_spot, spot_names, spotted, told_of}
use Rattle.uf_plain.specs.Rules.{allowed}
use Rattle.uf_plain.specs.declared.rule.Rule.{Rule}
use Rattle.uf_plain.specs.declared.spot.Spot.{Spot}
use Rattle.uf_store.specs.Calls.{Calm, OnlySaves}
use Rattle.uf_store.specs.Contents.{Told}
use Rattle.uf_store.specs.Faults.{NoneIsBad, Shown}
use Rattle.uf_store.specs.Keeping.{Agrees, Holds}
use Rattle.uf_store.specs.Lost.{AgreesAfter, IsLossOf}
use Rattle.uf_store.specs.Seen.{Seen}
use Rattle.uf_store.specs.declared.store.Role.{Role}
use Rattle.uf_store.specs.declared.store.StoreFault.{StoreFault}
use Rattle.uf_store.specs.declared.store.StoreFault.TheVariants as fault
use Rattle.uf_store.proofs.Lost.{after-then}
use Rattle.uf_tree.specs.Names.{is_name}
use Rattle.uf_tree.specs.Tree.{Dir, Entries, Tree}
use Rattle.uf_tree.specs.TreePlan.{blocks}
use Rattle.uf_tree.specs.declared.nodes.Entry.{Entry}
use Rattle.uf_tree.specs.declared.profile.Profile.{Profile}
use Rattle.uf_varint.specs.Fields.{◌>>=◌}
use Rattle.uf_command.specs.Kinds.{fault_behind}
use Rattle.uf_top.specs.Losing.{row_name}
use Rattle.uf_top.specs.Reply.{added_name, added_spot, by_rule, good_name, with_plan}
use Rattle.uf_command.specs.declared.types.HostRule.TheVariants as rules
use Rattle.uf_command.specs.declared.types.Refusal.{Refusal}
use Rattle.uf_command.specs.declared.types.Refusal.TheVariants as refusal
use Rattle.uf_top.specs.Causes.{RefusesInTree}
use Rattle.uf_top.specs.Grafts.{BuildsPlanned, FollowsOr, IsFailingRefusal, IsLostBy, IsOkFor, PutsTree, put_tree}
use Rattle.uf_top.proofs.Refusing.{IsRefusedAs, of-both}
use Rattle.uf_top.proofs.Shows.{not-rose, saving-wants}

-- ---- steps in a row

pub ok-value : {A : Type 0} (P : A → Type 0) (w : Result A Refusal) → IsOkFor P w → (a : A) × (w ≡ Ok a) × P a
ok-value P (Ok a) h = (a, refl, h)
ok-value P (Err why) h = absurd h

pub ok-for : {A : Type 0} (P : A → Type 0) (w : Result A Refusal) (a : A) → w ≡ Ok a → P a → IsOkFor P w
ok-for P w a is h = subst (IsOkFor P) (sym is) h

pub follows-then : {A B C : Type 0} (May : Refusal → Type 0) (P : B → C → Type 0) (w : Result A Refusal) (a : A) (go : A → Result B Refusal) (r : Result C Refusal) → w ≡ Ok a → FollowsOr May P (go a) r → FollowsOr May P (w >>= go) r
follows-then May P w a go r is h = subst (λ w. FollowsOr May P (w >>= go) r) (sym is) h

pub stops-then : {A B : Type 0} (May Other : Refusal → Type 0) (w : Result A Refusal) (go : A → Result B Refusal) (why : Refusal) → (May why → Other why) → May why ⊎ (w ≡ Err why) → Other why ⊎ ((w >>= go) ≡ Err why)
stops-then May Other w go why more (inl may) = inl (more may)
stops-then May Other w go why more (inr is) = inr (ap (λ w. w >>= go) is)

-- of more that may come
pub follows-more : {A B : Type 0} (May Other : Refusal → Type 0) (P : A → B → Type 0) (w : Result A Refusal) (r : Result B Refusal) → ((why : Refusal) → May why → Other why) → FollowsOr May P w r → FollowsOr Other P w r
follows-more May Other P w (Ok b) more h = h
follows-more May Other P w (Err why) more (inl may) = inl (more why may)
follows-more May Other P w (Err why) more (inr is) = inr is

-- what a call on the tree gives, as a step of a command
pub gives-ok : {A B : Type 0} (May : StoreFault → Type 0) (P : A → B → Type 0) (w : Result A Rule) (b : B) → GivesOr May P w (Ok b) → IsOkFor (λ a. P a b) (by_rule w)
gives-ok May P (Ok a) b h = h
gives-ok May P (Err rule) b h = absurd h

pub gives-stop : {A B : Type 0} (told : Told) (l : List Held) (P : A → B → Type 0) (w : Result A Rule) (f : MfsFault) (given : Refusal) → RefusesInTree f given → GivesOr (IsLossOf told l) P w (Err f) → IsLostBy told l given ⊎ (by_rule w ≡ Err given)
gives-stop told l P (Ok a) (mfs.Rule rule) given is h = absurd h
gives-stop told l P (Err why) (mfs.Rule rule) given is h = inr (ap (λ (r : Rule). Err (refusal.Rule r)) (sym h) ∙ ap (λ (r : Refusal). Err r) (sym is))
gives-stop told l P (Ok a) (mfs.Ready why) given is h = absurd is
gives-stop told l P (Err rule) (mfs.Ready why) given is h = absurd is
gives-stop told l P (Ok a) mfs.Sink given is h = absurd is
gives-stop told l P (Err rule) mfs.Sink given is h = absurd is
gives-stop told l P (Ok a) (mfs.Store f) given is h = inl (subst (IsLostBy told l) (sym is) h)
gives-stop told l P (Err rule) (mfs.Store f) given is h = inl (subst (IsLostBy told l) (sym is) h)

pub gives-refused : {A B : Type 0} (told : Told) (l : List Held) (P : A → B → Type 0) (w : Result A Rule) (r : Result B MfsFault) (given : Result B Refusal) → IsRefusedAs RefusesInTree r given
    → GivesOr (IsLossOf told l) P w r → FollowsOr (IsLostBy told l) P (by_rule w) given
gives-refused told l P w r given is =
    of-both r given (λ r given. GivesOr (IsLossOf told l) P w r → FollowsOr (IsLostBy told l) P (by_rule w) given) is (gives-ok (IsLossOf told l) P w) (gives-stop told l P w)

-- of more blocks
pub lost-behind : (told : Told) (k l : List Held) (why : Refusal) → IsLostBy told l why → IsLostBy told (k ++ l) why
lost-behind told k l (refusal.Rule r) lost = absurd lost
lost-behind told k l (refusal.Dag r) lost = absurd lost
lost-behind told k l (refusal.BadPath r) lost = absurd lost
lost-behind told k l (refusal.Host r) lost = absurd lost
lost-behind told k l (refusal.Car number place) lost = absurd lost
lost-behind told k l (refusal.CarLacks cid) lost = absurd lost
lost-behind told k l (refusal.OwnClash cid first second) lost = absurd lost
lost-behind told k l refusal.InputTooLong lost = absurd lost
lost-behind told k l refusal.Usage lost = absurd lost
lost-behind told k l refusal.BadPins lost = absurd lost
lost-behind told k l (refusal.Ready r) lost = absurd lost
lost-behind told k l refusal.Read lost = absurd lost
lost-behind told k l refusal.Write lost = absurd lost
lost-behind told k l (refusal.Store f) lost = loss-back told k l f lost

-- ---- the names of a spot

pub rule-ok : {A : Type 0} (w : Result A Rule) (a : A) → by_rule w ≡ Ok a → w ≡ Ok a
rule-ok (Ok b) a is = (let same : b ≡ a = cc in ap (λ a. Ok a) same)
rule-ok (Err rule) a is = absurd cc

-- what is added has the name of its last row, where its destination is entered
pub added-names : (dest : Path) (path name : Option (List ℕ)) → added_name dest path ≡ Ok name → put_names dest name ≡ put_names dest (row_name path)
added-names dest None name is = (let same : name ≡ None = cc in ap (put_names dest) same)
added-names dest (Some path) name is = by dest.into refl is
  where
    row : List ℕ
    row = first_row (trimmed path)

    good : (b : Bool) → (if b then Ok (Some row) else Err (refusal.Host (rules.Name path))) ≡ Ok name → put_names dest name ≡ put_names dest (Some row)
    good true is = (let same : name ≡ Some row = cc in ap (put_names dest) same)
    good false is = absurd cc

    by : (into : Bool) → dest.into ≡ into → (if into then good_name path row else Ok None) ≡ Ok name → put_names dest name ≡ put_names dest (Some row)
    by true e is = good (is_name row) is
    by false e is = (let same : name ≡ None = cc in ap (put_names dest) same) ∙ sym (ap (λ (b : Bool). if b then dest.names ++ row ∷ [] else dest.names) e)

-- and it is put at those names
pub added-spot-names : (dest : Path) (path : Option (List ℕ)) (es : Entries) (spot : Spot) → added_spot dest path es ≡ Ok spot → spot_names spot ≡ put_names dest (row_name path)
added-spot-names dest path es spot is = by (added_name dest path) refl is
  where
    by : (w : Result (Option (List ℕ)) Refusal) → added_name dest path ≡ w → (w >>= λ name. by_rule (spotted dest name es)) ≡ Ok spot → spot_names spot ≡ put_names dest (row_name path)
    by (Ok name) there is = spotted-names dest name es spot (rule-ok (spotted dest name es) spot is) ∙ added-names dest path name there
    by (Err why) there is = absurd cc

-- the store's own failure is want of memory, where it stayed calm
pub failing-lost : (hash : List ℕ → List ℕ) (told : Told) (l : List Held) (a b : Seen) (why : Refusal) → IsFailingRefusal why → Shown hash NoneIsBad (fault_behind why) a b → Calm a b → IsLostBy told l why
failing-lost hash told l a b (refusal.Rule r) h shown calm = absurd h
failing-lost hash told l a b (refusal.Dag r) h shown calm = absurd h
failing-lost hash told l a b (refusal.BadPath p) h shown calm = absurd h
failing-lost hash told l a b (refusal.Host r) h shown calm = absurd h
failing-lost hash told l a b (refusal.Car number place) h shown calm = absurd h
failing-lost hash told l a b (refusal.CarLacks cid) h shown calm = absurd h
failing-lost hash told l a b (refusal.OwnClash cid first second) h shown calm = absurd h
failing-lost hash told l a b refusal.InputTooLong h shown calm = absurd h
failing-lost hash told l a b refusal.BadPins h shown calm = absurd h
failing-lost hash told l a b refusal.Usage h shown calm = absurd h
failing-lost hash told l a b (refusal.Ready r) h shown calm = absurd h
failing-lost hash told l a b refusal.Read h shown calm = absurd h
failing-lost hash told l a b refusal.Write h shown calm = absurd h
failing-lost hash told l a b (refusal.Store f) (inr saving) shown calm = subst (IsLossOf told l) (sym (saving-wants hash NoneIsBad f a b saving shown calm.faults calm.clashes)) tt
failing-lost hash told l a b (refusal.Store fault.Failed) (inl own) shown calm = absurd (not-rose a.faults b.faults shown.rose calm.faults)
failing-lost hash told l a b (refusal.Store (fault.Damaged cid)) (inl own) shown calm = absurd (not-rose a.faults b.faults shown.rose calm.faults)
failing-lost hash told l a b (refusal.Store (fault.Missing cid)) (inl own) shown calm = absurd own
failing-lost hash told l a b (refusal.Store (fault.BadBlock cid role)) (inl own) shown calm = absurd own
failing-lost hash told l a b (refusal.Store (fault.Clash cid first second)) (inl own) shown calm = absurd own
failing-lost hash told l a b (refusal.Store fault.Memory) (inl own) shown calm = tt

-- a store that agrees with blocks tells
pub tells-of : (told : Told) (l m : List Held) → Agrees told l → Holds told m → TellsHeld told m
tells-of None l m agrees holds = absurd agrees
tells-of (Some t) l m agrees holds = holds

-- what a call gives over what it may miss
pub gives-misses : {A B : Type 0} (told : Told) (k l : List Held) (P : A → B → Type 0) (w : Result A Rule) (r : Result B MfsFault) → MissesOnly told k (tree_fault r) → GivesOr (IsLossOf told l) P w r → GivesOr (IsLossOf told k) P w r
gives-misses told k l P (Ok a) (Ok b) misses h = h
gives-misses told k l P (Err rule) (Ok b) misses h = h
gives-misses told k l P (Ok a) (Err (mfs.Rule given)) misses h = h
gives-misses told k l P (Err rule) (Err (mfs.Rule given)) misses h = h
gives-misses told k l P (Ok a) (Err (mfs.Ready why)) misses h = h
gives-misses told k l P (Err rule) (Err (mfs.Ready why)) misses h = h
gives-misses told k l P (Ok a) (Err mfs.Sink) misses h = h
gives-misses told k l P (Err rule) (Err mfs.Sink) misses h = h
gives-misses told k l P (Ok a) (Err (mfs.Store f)) misses h = misses
gives-misses told k l P (Err rule) (Err (mfs.Store f)) misses h = misses

module _ (X : List ℕ → List ℕ) (N : List ℕ → ℕ) where
  -- what a put at a spot needs
  abbrev pub needs_at_spot : Spot → Profile → Entries → List Held
  needs_at_spot spot p es = put_needs X N p (spot_names spot) (Dir es)

module _ (X : List ℕ → List ℕ) (N : List ℕ → ℕ) (was is : Mfs) where
  -- said of the profile of the tree
  puts-of : (needs : Profile → Entries → List Held) (next : Profile → Entries → Result Entries Refusal) (r : Result (Unit {0}) Refusal) (a c : Seen)
      → ((es : Entries) → IsFolderOver X N was.profile a c [] was.root es → FollowsOr (IsLostBy a.told (needs was.profile es)) (λ fs done. StandsAfter X N a.told c.told (blocks X N was.profile (Dir es)) is was.profile fs) (next was.profile es) r)
      → PutsTree X N was is needs next r a c
  puts-of needs next r a c h = λ p es same.
      subst (λ q. IsFolderOver X N q a c [] was.root es → FollowsOr (IsLostBy a.told (needs q es)) (λ fs done. StandsAfter X N a.told c.told (blocks X N q (Dir es)) is q fs) (next q es) r) same (h es)

  -- the tree isn't built
  pub not-built : (needs : Profile → Entries → List Held) (spot : Spot) (t : Tree) (a b : Seen) (why : Refusal) → BuildsPlanned X N was.profile b.told t (Err why) → Shown X NoneIsBad (fault_behind why) a b → PutsTree X N was is needs (put_tree X N spot t) (Err why) a b
  not-built needs spot t a b why builds shown = puts-of needs (put_tree X N spot t) (Err why) a b (λ es over.
      stops-then IsFailingRefusal (IsLostBy a.told (needs was.profile es)) (by_rule (with_plan X N was.profile t)) (λ planned. by_rule (allowed_move X N was.profile (placed_at spot planned es))) why
      (λ failing. failing-lost X a.told (needs was.profile es) a b why failing shown over.calm) builds)

  module _ {Bad : Role → List ℕ → Type 0} {fault : Option StoreFault} {a b c : Seen} (first : OnlySaves X NoneIsBad None a b) (second : OnlySaves X Bad fault b c) (ok : (e : Entry) (t : Tree) → IsBuilt X N was.profile b.told t e → IsPlanOf X N was.profile e t) where
    -- the old tree and what is put, after that is saved
    beside-put : (planned : Tree) (e : Entry) (es : Entries) → IsBuilt X N was.profile b.told planned e → IsFolderOver X N was.profile a c [] was.root es
        → AgreesAfter a.told b.told (blocks X N was.profile (Dir es)) (blocks X N was.profile planned ++ blocks X N was.profile (Dir es))
    beside-put planned e es built over =
        let p = was.profile in
        let old = blocks X N p (Dir es) in
        let told = (over-first X N p first second [] was.root es over).stays.last in
        let came = after-held a.told b.told old (blocks X N p planned) (tells-of b.told old (blocks X N p planned) told built.held) in
        beside X N p first second [] (blocks X N p planned) was.root es tt over came

    over-put : (planned : Tree) (e : Entry) (es : Entries) → IsBuilt X N was.profile b.told planned e → IsFolderOver X N was.profile a c [] was.root es → IsFolderOver X N was.profile b c (blocks X N was.profile planned) was.root es
    over-put planned e es built over =
        let p = was.profile in
        over-then X N p first second [] (blocks X N p planned) was.root was.root es es (are-good X N p planned) over.plan over (beside-put planned e es built over)

    -- this many touches are enough for the put
    pub put_within : (planned : Tree) (e : Entry) (es : Entries) (bound : Tree → Entries → ℕ) (t0 t1 : ℕ) → IsBuilt X N was.profile b.told planned e → TouchesPut X N was.profile b c e was.root bound t0 t1 → IsFolderOver X N was.profile a c [] was.root es
        → t1 ≤ t0 + bound planned es
    put_within planned e es bound t0 t1 built touches over = touches planned (ok e planned built) es (over-put planned e es built over)

    -- what came of the put came of both
    pub put_gives : (spot : Spot) (planned : Tree) (e : Entry) (es : Entries) (r : Result (Unit {0}) MfsFault) → IsBuilt X N was.profile b.told planned e
        → MovesTree X N b c (blocks X N was.profile planned) was is (spot_names spot) (λ p es. allowed X N p (put_at_spot spot planned es)) r → PutMisses X N was.profile b c was.root (spot_names spot) (tree_fault r) → IsFolderOver X N was.profile a c [] was.root es
        → GivesOr (IsLossOf a.told (needs_at_spot X N spot was.profile es)) (λ fs done. StandsAfter X N a.told c.told (blocks X N was.profile (Dir es)) is was.profile fs) (allowed_move X N was.profile (placed_at spot planned es)) r
    put_gives spot planned e es r built moves misses over =
        let p = was.profile in
        let old = blocks X N p (Dir es) in let mid = blocks X N p planned ++ old in
        let both = beside-put planned e es built over in
        let on = over-put planned e es built over in
        let given = answers-gives (IsLossOf b.told mid) (λ fs done. StandsAfter X N b.told c.told mid is p fs) (spot_names spot) (allowed X N p (put_at_spot spot planned es)) r (moves p es refl on) in
        let missed = misses-since X N p first second (put_needs X N p (spot_names spot)) (λ t P h. put-needs-among X N p (spot_names spot) t P h) was.root es (tree_fault r) misses over in
        gives-misses a.told (needs_at_spot X N spot p es) old (λ fs done. StandsAfter X N a.told c.told old is p fs) (allowed_move X N p (placed_at spot planned es)) r missed
        (subst (λ w. GivesOr (IsLossOf a.told old) (λ fs done. StandsAfter X N a.told c.told old is p fs) w r) (sym (told-allowed X N p (spot_names spot) (put_at_spot spot planned es)))
        (gives-more (IsLossOf b.told mid) (IsLossOf a.told old) (λ fs done. StandsAfter X N b.told c.told mid is p fs) (λ fs done. StandsAfter X N a.told c.told old is p fs) (told_of (spot_names spot) (allowed X N p (put_at_spot spot planned es))) r
        (λ f lost. loss-after a.told b.told old mid f both lost)
        (λ fs done h. record { profile_is = h.profile_is; root = record { plan = h.root.plan; after = after-then a.told b.told c.told old mid _ both h.root.after } }) given))

    -- it is put, or that is refused
    pub put-given : (spot : Spot) (t : Tree) (e : Entry) (r : Result (Unit {0}) MfsFault) (given : Result (Unit {0}) Refusal) → IsRefusedAs RefusesInTree r given → BuildsPlanned X N was.profile b.told t (Ok e)
        → ((u : Tree) → IsPlanOf X N was.profile e u → MovesTree X N b c (blocks X N was.profile u) was is (spot_names spot) (λ p es. allowed X N p (put_at_spot spot u es)) r) → PutMisses X N was.profile b c was.root (spot_names spot) (tree_fault r)
        → PutsTree X N was is (needs_at_spot X N spot) (put_tree X N spot t) given a c
    put-given spot t e r given refused builds moves misses = puts-of (needs_at_spot X N spot) (put_tree X N spot t) given a c (λ es over.
        let v = ok-value (λ planned. IsBuilt X N was.profile b.told planned e) (by_rule (with_plan X N was.profile t)) builds in
        follows-then {C = Unit {0}} (IsLostBy a.told (needs_at_spot X N spot was.profile es)) (λ fs done. StandsAfter X N a.told c.told (blocks X N was.profile (Dir es)) is was.profile fs) (by_rule (with_plan X N was.profile t)) v.0
        (λ planned. by_rule (allowed_move X N was.profile (placed_at spot planned es))) given v.1
        (gives-refused {B = Unit {0}} a.told (needs_at_spot X N spot was.profile es) (λ fs done. StandsAfter X N a.told c.told (blocks X N was.profile (Dir es)) is was.profile fs) (allowed_move X N was.profile (placed_at spot v.0 es)) r given refused
        (put_gives spot v.0 e es r v.2 (moves v.0 (ok e v.0 v.2)) misses over)))
