-- What a put along a path may miss, over calls in a row.
use Rattle.std.proofs.Common.{◌≡◌, ℕ, ◌+◌, ◌-◌, ◌≤◌, List, [], ◌∷◌, ◌++◌, length, take, arith, refl, ap, sym, ◌∙◌, subst, Bool, true, false, Option, Some, None, Result, Ok, Err}
use Rattle.std.specs.Prelude.{get_or, if◌then◌else◌, slice_get}
use Rattle.std.specs.List.{AllByRecursion}
use Rattle.std.proofs.lemmas.List.{append-nil, length-append}
use Rattle.uf_cid.specs.Blocks.{Held}
use Rattle.uf_laws.proofs.Held.{trail-among}
use Rattle.uf_store.specs.declared.store.Role.{Role}
use Rattle.uf_store.specs.declared.store.StoreFault.{StoreFault}
use Rattle.uf_store.specs.Calls.{OnlySaves}
use Rattle.uf_store.specs.Contents.{Told}
use Rattle.uf_store.specs.Keeping.{StaysAgreed}
use Rattle.uf_store.specs.Lost.{IsLossOf}
use Rattle.uf_store.specs.Seen.{Seen}
use Rattle.uf_tree.specs.declared.nodes.Entry.{Entry}
use Rattle.uf_tree.specs.declared.profile.Profile.{Profile}
use Rattle.uf_tree.specs.Tree.{Tree, File, Dir, Entries, own_meta}
use Rattle.uf_tree.specs.TreePlan.{blocks, named_entries}
use Rattle.uf_path.specs.declared.path.Path.{Path}
use Rattle.uf_plain.specs.Edits.{and_then, as_folder, at, child}
use Rattle.uf_plain.specs.Moves.{as_vacant, folder_at, landing, spot_in, spot_names, spotted, then_go, told_of}
use Rattle.uf_plain.specs.declared.spot.Spot.{Spot}
use Rattle.uf_plain.specs.Needs.{member_needs, own_needs, root_of, way}
use Rattle.uf_plain.specs.declared.rule.Refused.{Refused}
use Rattle.uf_plain.specs.declared.rule.Refused.TheVariants as why
use Rattle.uf_mfs.specs.declared.fault.MfsFault.{MfsFault}
use Rattle.uf_mfs.specs.declared.fault.MfsFault.TheVariants as faults
use Rattle.uf_mfs.specs.declared.fault.Stop.{Stop}
use Rattle.uf_mfs.specs.declared.fault.Stop.TheVariants as stop
use Rattle.uf_mfs.specs.declared.mfs.Mfs.{Mfs}
use Rattle.uf_mfs.specs.Answers.{Decides, EditsAfter, MeetsOr, Settles, Tells}
use Rattle.uf_mfs.specs.Missing.{FolderMisses, MissesOnly, put_names, put_needs, spot_needs}
use Rattle.uf_mfs.specs.Standing.{IsAgreed}
use Rattle.uf_mfs.specs.Steps.{IsFolderOver, stop_fault, tree_fault}
use Rattle.uf_mfs.proofs.After.{Among, after-kept, among-then, loss-after, loss-among, stays-some}
use Rattle.uf_mfs.proofs.Folders.{below-over, folder-there, kept-old, over-first, over-then}
use Rattle.uf_mfs.proofs.Hinge.{are-good}
use Rattle.uf_mfs.proofs.Holding.{append, back, front, wants}
use Rattle.uf_mfs.proofs.Agreed.{child-among}
use Rattle.uf_mfs.proofs.Needed.{own-needs-among, root-of-among}
use Rattle.uf_mfs.proofs.Spots.{front-last}

-- what is missing of some blocks is missing of all
pub misses-among : (told : Told) (k l : List Held) (fault : Option StoreFault) → Among k l → MissesOnly told k fault → MissesOnly told l fault
misses-among told k l None more h = tt
misses-among told k l (Some f) more h = loss-among told k l f more h

-- an edit of the root, as one of the tree in memory
pub settled-misses : (told : Told) (l : List Held) (names : List (List ℕ)) (e : Result Entry Stop) (was is : Mfs) (r : Result Unit MfsFault) → Settles names e was is r
    → MissesOnly told l (stop_fault e) → MissesOnly told l (tree_fault r)
settled-misses told l names (Ok root) was is (Ok done) s h = tt
settled-misses told l names (Ok root) was is (Err given) s h = absurd s
settled-misses told l names (Err stopped) was is (Ok done) s h = absurd s
settled-misses told l names (Err (stop.Refused why)) was is (Err (faults.Rule rule)) s h = tt
settled-misses told l names (Err (stop.Refused why)) was is (Err (faults.Ready ready)) s h = absurd s
settled-misses told l names (Err (stop.Refused why)) was is (Err faults.Sink) s h = absurd s
settled-misses told l names (Err (stop.Refused why)) was is (Err (faults.Store f)) s h = wants told l f s
settled-misses told l names (Err (stop.Store g)) was is (Err given) s h = subst (λ (f : MfsFault). MissesOnly told l (tree_fault {A = Unit {0}} (Err f))) (sym s) h

-- a call that a rule refuses misses nothing
pub rule-misses : (C : Type 0) (told : Told) (l : List Held) (names : List (List ℕ)) (given : Refused) (f : MfsFault) → Tells names (stop.Refused given) f → MissesOnly told l (tree_fault {A = C} (Err f))
rule-misses C told l names given (faults.Rule rule) t = tt
rule-misses C told l names given (faults.Ready ready) t = absurd t
rule-misses C told l names given faults.Sink t = absurd t
rule-misses C told l names given (faults.Store f) t = wants told l f t

-- a step that stops, as a call
pub told-misses : {A B : Type 0} (C : Type 0) (told : Told) (k l : List Held) (P : A → B → Type 0) (names : List (List ℕ)) (w : Result A Refused) (s : Stop) (f : MfsFault) → Among k l → Tells names s f → MeetsOr (IsLossOf told k) P w (Err s)
    → MissesOnly told l (tree_fault {A = C} (Err f))
told-misses C told k l P names w (stop.Refused given) f more t h = rule-misses C told l names given f t
told-misses C told k l P names (Ok a) (stop.Store g) f more t h = subst (λ f. MissesOnly told l (tree_fault {A = C} (Err f))) (sym t) (loss-among told k l g more h)
told-misses C told k l P names (Err given) (stop.Store g) f more t h = subst (λ f. MissesOnly told l (tree_fault {A = C} (Err f))) (sym t) (loss-among told k l g more h)

-- a list whose last member is found
last-found : {A : Type 0} (n : ℕ) (xs : List A) (x : A) → length xs ≡ n + 1 → slice_get xs n ≡ Some x → take n xs ++ x ∷ [] ≡ xs
last-found n [] x many is = absurd (omega (arith, many))
last-found ℕ.zero (y ∷ []) x many is = (let same : y ≡ x = cc in ap (λ z. z ∷ []) (sym same))
last-found ℕ.zero (y ∷ z ∷ xs) x many is = absurd (let two : length (y ∷ z ∷ xs) ≡ 1 = many in let more : length (y ∷ z ∷ xs) ≡ length xs + 2 = omega arith in omega (arith, two, more))
last-found (ℕ.suc n) (y ∷ xs) x many is = (let rest : length xs ≡ n + 1 = omega (arith, many) in ap (λ l. y ∷ l) (last-found n xs x rest is))

-- the names of a spot that a destination leads to
abbrev names-by : Bool → List (List ℕ) → Option (List ℕ) → List (List ℕ)
names-by into names None = names
names-by into names (Some name) = if into then names ++ name ∷ [] else names

landed-names : (into : Bool) (names : List (List ℕ)) (name : Option (List ℕ)) (es : Entries) (found : Spot × Entries) → landing into names name es ≡ Ok found → spot_names found.0 ≡ names-by into names name
landed-names true names name es found is = by (folder_at names es) name is
  where
    by : (w : Result Entries Refused) (name : Option (List ℕ)) → and_then w (spot_in names name) ≡ Ok found → spot_names found.0 ≡ names-by true names name
    by (Err why) name is = absurd cc
    by (Ok fs) None is = absurd cc
    by (Ok fs) (Some name) is = (let same : (record { folder = names; name = name }, fs) ≡ found = cc in ap (λ (f : Spot × Entries). spot_names f.0) (sym same))
landed-names false names name es found is = by (folder_at (take (length names - 1) names) es) (slice_get names (length names - 1)) refl is ∙ plain name
  where
    plain : (name : Option (List ℕ)) → names ≡ names-by false names name
    plain None = refl
    plain (Some name) = refl

    ended : (ns : List (List ℕ)) (last : List ℕ) → slice_get ns (length ns - 1) ≡ Some last → take (length ns - 1) ns ++ last ∷ [] ≡ ns
    ended [] last there = absurd cc
    ended (n ∷ ns) last there = last-found (length (n ∷ ns) - 1) (n ∷ ns) last (omega arith) there

    by : (w : Result Entries Refused) (o : Option (List ℕ)) → slice_get names (length names - 1) ≡ o → and_then w (spot_in (take (length names - 1) names) o) ≡ Ok found → spot_names found.0 ≡ names
    by (Err why) o there is = absurd cc
    by (Ok fs) None there is = absurd cc
    by (Ok fs) (Some last) there is =
        (let same : (record { folder = take (length names - 1) names; name = last }, fs) ≡ found = cc in ap (λ (f : Spot × Entries). spot_names f.0) (sym same)) ∙ ended names last there

pub spotted-names : (dest : Path) (name : Option (List ℕ)) (es : Entries) (spot : Spot) → spotted dest name es ≡ Ok spot → spot_names spot ≡ put_names dest name
spotted-names dest name es spot is = by (landing dest.into dest.names name es) refl is
  where
    plain : (name : Option (List ℕ)) → names-by dest.into dest.names name ≡ put_names dest name
    plain None = refl
    plain (Some name) = refl

    free : (s : Spot) (o : Option Tree) → told_of (spot_names s) (as_vacant s o) ≡ Ok spot → s ≡ spot
    free s None is = cc
    free s (Some t) is = absurd cc

    by : (w : Result (Spot × Entries) Refused) → landing dest.into dest.names name es ≡ w
        → then_go (told_of dest.names w) (λ (found : Spot × Entries). told_of (spot_names found.0) (as_vacant found.0 (child found.0.name found.1))) ≡ Ok spot → spot_names spot ≡ put_names dest name
    by (Err why) there is = absurd cc
    by (Ok found) there is =
        ap spot_names (sym (free found.0 (child found.0.name found.1) is)) ∙ landed-names dest.into dest.names name es found there ∙ plain name

-- a put has at most one name more than its destination
pub put-names-few : (dest : Path) (name : Option (List ℕ)) → length (put_names dest name) ≤ length dest.names + 1
put-names-few dest None = omega arith
put-names-few dest (Some name) = by dest.into
  where
    more : length (dest.names ++ name ∷ []) ≡ length dest.names + 1
    more = length-append dest.names (name ∷ [])

    by : (into : Bool) → length (if into then dest.names ++ name ∷ [] else dest.names) ≤ length dest.names + 1
    by true = omega (arith, more)
    by false = omega arith

-- the names of a put beside a destination
pub put-beside : (dest : Path) (last : List ℕ) (name : Option (List ℕ)) → dest.into ≡ false → 1 ≤ length dest.names → last ≡ get_or dest.names (length dest.names - 1) last → take (length dest.names - 1) dest.names ++ last ∷ [] ≡ put_names dest name
put-beside dest last None out some is = (front-last dest.names last some is).0
put-beside dest last (Some name) out some is = (front-last dest.names last some is).0 ∙ sym (ap (λ (b : Bool). if b then dest.names ++ name ∷ [] else dest.names) out)

module _ (X : List ℕ → List ℕ) (N : List ℕ → ℕ) (p : Profile) where
  -- ---- among what a put may need

  own-put : (name : List ℕ) (names : List (List ℕ)) (es : Entries) → Among (own_needs X N p (Dir es)) (put_needs X N p (name ∷ names) (Dir es))
  own-put name names es P h = front P _ _ h

  member-put : (name : List ℕ) (names : List (List ℕ)) (es : Entries) → Among (member_needs X N p name es) (put_needs X N p (name ∷ names) (Dir es))
  member-put name names es P h = append P _ _ (trail-among X N P p (own_meta es) (named_entries X N p es) name (front P _ _ h)) (by (child name es) (back P (own_needs X N p (Dir es)) _ h))
    where
      by : (o : Option Tree) → AllByRecursion P (elim o as (λ o. List Held) [ None ↦ [] | Some t ↦ root_of X N p t ++ put_needs X N p names t ])
          → AllByRecursion P (elim o as (λ o. List Held) [ None ↦ [] | Some t ↦ root_of X N p t ])
      by None h = tt
      by (Some t) h = front P (root_of X N p t) _ h

  below-put : (name : List ℕ) (names : List (List ℕ)) (es : Entries) (t : Tree) → child name es ≡ Some t → Among (put_needs X N p names t) (put_needs X N p (name ∷ names) (Dir es))
  below-put name names es t is P h =
      back P (root_of X N p t) _ (subst (λ (o : Option Tree). AllByRecursion P (elim o as (λ o. List Held) [ None ↦ [] | Some t ↦ root_of X N p t ++ put_needs X N p names t ])) is
      (back P (own_needs X N p (Dir es)) _ h))

  pub put-needs-among : (names : List (List ℕ)) (t : Tree) → Among (put_needs X N p names t) (blocks X N p t)
  put-needs-among [] t P h = tt
  put-needs-among (name ∷ names) (File m bytes) P h = tt
  put-needs-among (name ∷ names) (Dir es) P h = append P _ _ (own-needs-among X N p (Dir es) P h) (by (put-needs-among names) (child name es) refl)
    where
      by : ((t : Tree) → Among (put_needs X N p names t) (blocks X N p t)) → (o : Option Tree) → child name es ≡ o → AllByRecursion P (elim o as (λ o. List Held) [ None ↦ [] | Some t ↦ root_of X N p t ++ put_needs X N p names t ])
      by rec None is = tt
      by rec (Some t) is = (let below = child-among X N p es name t is P h in append P _ _ (root-of-among X N p t P below) (rec t P below))

  pub spot-needs-among : (names : List (List ℕ)) (t : Tree) → Among (spot_needs X N p names t) (blocks X N p t)
  spot-needs-among names t P h = append P _ _ (root-of-among X N p t P h) (put-needs-among names t P h)

  -- ---- among what a look for a spot may need

  -- the way to a folder
  pub way-spot : (folder more : List (List ℕ)) (t : Tree) → Among (way X N p folder t) (spot_needs X N p (folder ++ more) t)
  way-spot [] more t P h = front P (root_of X N p t) _ h
  way-spot (name ∷ folder) more (File m bytes) P h = front P (root_of X N p (File m bytes)) _ h
  way-spot (name ∷ folder) more (Dir es) P h =
      let rest = back P (root_of X N p (Dir es)) (put_needs X N p (name ∷ (folder ++ more)) (Dir es)) h in
      append P _ _ (trail-among X N P p (own_meta es) (named_entries X N p es) name (front P (own_needs X N p (Dir es)) _ rest)) (by (way-spot folder more) (child name es) (back P (own_needs X N p (Dir es)) _ rest))
    where
      by : ((t : Tree) → Among (way X N p folder t) (spot_needs X N p (folder ++ more) t)) → (o : Option Tree) → AllByRecursion P (elim o as (λ o. List Held) [ None ↦ [] | Some t ↦ root_of X N p t ++ put_needs X N p (folder ++ more) t ])
          → AllByRecursion P (elim o as (λ o. List Held) [ None ↦ [] | Some t ↦ way X N p folder t ])
      by rec None h = tt
      by rec (Some t) h = rec t P h

  -- what a put in a folder needs
  put-below : (led : ℕ) (folder more : List (List ℕ)) (t : Tree) (fs : Entries) → at led folder t ≡ Ok (Dir fs) → Among (put_needs X N p more (Dir fs)) (put_needs X N p (folder ++ more) t)
  put-below led [] more t fs is P h = subst (λ (t : Tree). AllByRecursion P (put_needs X N p more t)) (let same : t ≡ Dir fs = cc in same) h
  put-below led (name ∷ folder) more (File m bytes) fs is P h = absurd cc
  put-below led (name ∷ folder) more (Dir es) fs is P h = by (λ t is h. put-below (led + 1) folder more t fs is P h) (child name es) refl is
    where
      by : ((t : Tree) → at (led + 1) folder t ≡ Ok (Dir fs) → AllByRecursion P (put_needs X N p (folder ++ more) t) → AllByRecursion P (put_needs X N p more (Dir fs))) → (o : Option Tree) → child name es ≡ o
          → (elim o as (λ o. Result Tree Refused) [ None ↦ Err (why.NotFound (led + 1)) | Some t ↦ at (led + 1) folder t ]) ≡ Ok (Dir fs) → AllByRecursion P (put_needs X N p more (Dir fs))
      by rec None there is = absurd cc
      by rec (Some t) there is = rec t is (below-put name (folder ++ more) es t there P h)

  -- the folder isn't found
  pub folder-misses : {B : Type 0} (C : Type 0) (told : Told) (names folder more : List (List ℕ)) (es : Entries) (P : Entries → B → Type 0) (s : Stop) (f : MfsFault) → Tells names s f
      → MeetsOr (IsLossOf told (way X N p folder (Dir es))) P (folder_at folder es) (Err s) → MissesOnly told (spot_needs X N p (folder ++ more) (Dir es)) (tree_fault {A = C} (Err f))
  folder-misses C told names folder more es P s f t h = told-misses C told (way X N p folder (Dir es)) _ P names (folder_at folder es) s f (way-spot folder more (Dir es)) t h

  -- the same where it is entered
  pub entered-misses : {B : Type 0} (C : Type 0) (told : Told) (names : List (List ℕ)) (name : Option (List ℕ)) (es : Entries) (P : Entries → B → Type 0) (s : Stop) (f : MfsFault) → Tells names s f
      → MeetsOr (IsLossOf told (way X N p names (Dir es))) P (folder_at names es) (Err s) → MissesOnly told (spot_needs X N p (put_names (record { names = names; into = true }) name) (Dir es)) (tree_fault {A = C} (Err f))
  entered-misses C told names None es P s f t h =
      subst (λ ns. MissesOnly told (spot_needs X N p ns (Dir es)) (tree_fault {A = C} (Err f))) (append-nil names) (folder-misses C told names names [] es P s f t h)
  entered-misses C told names (Some name) es P s f t h = folder-misses C told names names (name ∷ []) es P s f t h

  -- it is found, and what is under the name looked for
  pub landed-misses : {B : Type 0} (told : Told) (folder : List (List ℕ)) (name : List ℕ) (es : Entries) (P : Entries → B → Type 0) (b : B) (fault : Option StoreFault)
      → MeetsOr (IsLossOf told (way X N p folder (Dir es))) P (folder_at folder es) (Ok b) → ((fs : Entries) → P fs b → MissesOnly told (member_needs X N p name fs) fault)
      → MissesOnly told (spot_needs X N p (folder ++ name ∷ []) (Dir es)) fault
  landed-misses told folder name es P b fault h more = by (at 0 folder (Dir es)) refl h
    where
      by : (w : Result Tree Refused) → at 0 folder (Dir es) ≡ w → MeetsOr (IsLossOf told (way X N p folder (Dir es))) P (and_then w (λ t. as_folder (length folder) (Some t))) (Ok b)
          → MissesOnly told (spot_needs X N p (folder ++ name ∷ []) (Dir es)) fault
      by (Err why) is h = absurd h
      by (Ok (File m bytes)) is h = absurd h
      by (Ok (Dir gs)) is h =
          misses-among told (member_needs X N p name gs) _ fault
          (λ P k. member-put name [] gs P (put-below 0 folder (name ∷ []) (Dir es) gs is P (back P (root_of X N p (Dir es)) _ k))) (more gs h)

  -- ---- along the path

  -- a member that isn't found
  pub member-misses : {A B : Type 0} (C : Type 0) (told : Told) (P : A → B → Type 0) (o : A) (name : List ℕ) (names : List (List ℕ)) (es : Entries) (s : Stop) → MeetsOr (IsLossOf told (member_needs X N p name es)) P (Ok o) (Err s)
      → MissesOnly told (put_needs X N p (name ∷ names) (Dir es)) (stop_fault {A = C} (Err s))
  member-misses C told P o name names es (stop.Refused why) h = tt
  member-misses C told P o name names es (stop.Store f) h = loss-among told _ _ f (member-put name names es) h

  -- in the folder itself
  pub here-misses : (told : Told) (name : List ℕ) (names : List (List ℕ)) (es : Entries) (fault : Option StoreFault) → MissesOnly told (own_needs X N p (Dir es)) fault → MissesOnly told (put_needs X N p (name ∷ names) (Dir es)) fault
  here-misses told name names es fault h = misses-among told _ _ fault (own-put name names es) h

  module _ {Bad Other : Role → List ℕ → Type 0} {fault : Option StoreFault} {a b c : Seen} (before : OnlySaves X Bad None a b) (after : OnlySaves X Other fault b c) where
    -- in the folder below
    pub below-misses : (led : ℕ) (folder e : Entry) (name : List ℕ) (names : List (List ℕ)) (f : Option StoreFault) → b.told ≡ a.told
        → ((es : Entries) → IsFolderOver X N p a b [] folder es → Decides (λ es e. IsAgreed X N a.told p e (Dir es)) (as_folder led (child name es)) (Ok e))
        → FolderMisses X N p b c e (put_needs X N p names) f → FolderMisses X N p a c folder (put_needs X N p (name ∷ names)) f
    below-misses led folder e name names f same found misses = λ es o. by es o (child name es) refl (found es (over-first X N p before after [] folder es o))
        (folder-there X N p led folder e name before found es (over-first X N p before after [] folder es o))
      where
        by : (es : Entries) → IsFolderOver X N p a c [] folder es → (m : Option Tree) → child name es ≡ m → Decides (λ es e. IsAgreed X N a.told p e (Dir es)) (as_folder led m) (Ok e)
            → EditsAfter X N a.told b.told (blocks X N p (Dir es)) p (as_folder led m) (Ok e) → MissesOnly a.told (put_needs X N p (name ∷ names) (Dir es)) f
        by es o None is h k = absurd h
        by es o (Some (File m bytes)) is h k = absurd h
        by es o (Some (Dir fs)) is h k =
            misses-among a.told _ _ f (below-put name names es (Dir fs) is) (subst (λ told. MissesOnly told (put_needs X N p names (Dir fs)) f) same
            (misses fs (over-then X N p before after [] [] folder e es fs tt k.plan o (below-over X N p before after [] folder e es fs tt o k))))

    -- what is missing after a first call was missing before it
    pub misses-since : (need : Tree → List Held) → ((t : Tree) → Among (need t) (blocks X N p t)) → (folder : Entry) (es : Entries) (f : Option StoreFault) → FolderMisses X N p b c folder need f → IsFolderOver X N p a c [] folder es → MissesOnly a.told (need (Dir es)) f
    misses-since need among folder es f misses o = by f (misses es (over-then X N p before after [] [] folder folder es es tt o.plan o (kept-old X N p before after [] folder es tt o)))
      where
        by : (f : Option StoreFault) → MissesOnly b.told (need (Dir es)) f → MissesOnly a.told (need (Dir es)) f
        by None h = tt
        by (Some g) h =
            let stays : StaysAgreed a.told b.told (need (Dir es)) = stays-some a.told b.told _ _ (among (Dir es)) (over-first X N p before after [] folder es o).stays in
            loss-after a.told b.told _ _ g (after-kept X a.told b.told _ (among (Dir es) _ (are-good X N p (Dir es))) before.good stays) h

    -- in the folder itself, after what was done below
    pub put-misses : (folder : Entry) (name : List ℕ) (names : List (List ℕ)) (f : Option StoreFault) → FolderMisses X N p b c folder (own_needs X N p) f → FolderMisses X N p a c folder (put_needs X N p (name ∷ names)) f
    put-misses folder name names f misses = λ es o.
        here-misses a.told name names es f (misses-since (own_needs X N p) (λ t P h. own-needs-among X N p t P h) folder es f misses o)
