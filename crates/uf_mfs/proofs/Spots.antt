-- Where something is put in the tree, and what a refusal that is told with its path says.
use Rattle.std.proofs.Common.{◌≡◌, ℕ, ◌+◌, ◌-◌, ◌≤◌, List, [], ◌∷◌, ◌++◌, length, take, refl, ap, arith, sym, ◌∙◌, subst, true, false, Option, Some, None, Result, Ok, Err}
use Rattle.std.specs.Prelude.{◌||◌, get_or, slice_get}
use Rattle.std.specs.List.{AllByRecursion}
use Rattle.uf_cid.specs.Blocks.{Held}
use Rattle.uf_store.specs.declared.store.StoreFault.{StoreFault}
use Rattle.uf_store.specs.declared.store.StoreFault.TheVariants.{Memory}
use Rattle.uf_store.specs.declared.store.Role.{Role}
use Rattle.uf_store.specs.Calls.{OnlyReads, OnlySaves}
use Rattle.uf_store.specs.Contents.{Told}
use Rattle.uf_store.specs.Faults.{Shows}
use Rattle.uf_store.proofs.Causes.{calm-memory}
use Rattle.uf_store.proofs.Calls.{reads-by, reads-reads, shown-rises}
use Rattle.uf_store.specs.Lost.{IsLossOf}
use Rattle.uf_store.specs.Seen.{Seen}
use Rattle.uf_tree.specs.declared.nodes.Entry.{Entry}
use Rattle.uf_tree.specs.declared.profile.Profile.{Profile}
use Rattle.uf_tree.specs.Tree.{Tree, File, Dir, Entries}
use Rattle.uf_tree.specs.TreePlan.{blocks}
use Rattle.uf_path.specs.declared.path.Path.{Path}
use Rattle.uf_plain.specs.declared.rule.Refused.{Refused}
use Rattle.uf_plain.specs.declared.rule.Refused.TheVariants.{NotADirectory, NotFound}
use Rattle.uf_plain.specs.declared.rule.Rule.{Rule}
use Rattle.uf_plain.specs.declared.spot.Spot.{Spot}
use Rattle.uf_plain.specs.Edits.{and_then, as_folder, at, child, is_folder_at}
use Rattle.uf_plain.specs.Moves.{as_vacant, folder_at, landing, spot_in, spot_names, spotted, target, then_go, told_of}
use Rattle.uf_plain.specs.Needs.{member_needs, way}
use Rattle.uf_plain.specs.Rules.{rule_of}
use Rattle.uf_mfs.specs.declared.fault.MfsFault.{MfsFault}
use Rattle.uf_mfs.specs.declared.fault.MfsFault.TheVariants as fault
use Rattle.uf_mfs.specs.declared.fault.Stop.{Stop}
use Rattle.uf_mfs.specs.declared.fault.Stop.TheVariants as stop
use Rattle.uf_mfs.specs.declared.target.MoveTarget.{MoveTarget}
use Rattle.uf_mfs.specs.declared.thing.FolderRoot.{FolderRoot}
use Rattle.uf_mfs.specs.declared.thing.Thing.{Thing}
use Rattle.uf_mfs.specs.declared.thing.Thing.TheVariants.{File as FileAt, Folder as FolderAt}
use Rattle.uf_mfs.specs.Answers.{MeetsOr, Tells}
use Rattle.uf_mfs.specs.Moving.{EditsTree, Gives, GivesOr, GivesOver, IsFound, ReadsTree, folder_there, lands, vacant_at}
use Rattle.uf_fileread.specs.declared.size.FileSize.{FileSize}
use Rattle.uf_mfs.specs.Standing.{IsAgreed, IsAgreedMember, IsAgreedThing, TellsHeld}
use Rattle.uf_mfs.specs.Steps.{stop_fault, tree_fault}
use Rattle.uf_mfs.proofs.After.{loss-among}
use Rattle.uf_mfs.proofs.Holding.{loss-fault}
use Rattle.uf_mfs.proofs.Needed.{at-among, member-among, way-among}

-- ---- answers

-- a fault that may come, whatever the plain tree gives
pub gives-fault : {A B : Type 0} (May : StoreFault → Type 0) (P : A → B → Type 0) (w : Result A Rule) (f : StoreFault) → May f → GivesOr May P w (Err (fault.Store f))
gives-fault May P (Ok a) f h = h
gives-fault May P (Err rule) f h = h

-- the fault of a step as that of a call
pub tells-gives : {A B D : Type 0} (May : StoreFault → Type 0) (P : A → B → Type 0) (Q : A → D → Type 0) (names : List (List ℕ)) (w : Result A Refused) (s : Stop) (f : MfsFault)
    → May Memory → Tells names s f → MeetsOr May P w (Err s) → GivesOr May Q (told_of names w) (Err f)
tells-gives May P Q names (Ok a) (stop.Refused why) f m t h = absurd h
tells-gives May P Q names (Err why) (stop.Refused given) (fault.Rule rule) m t h = t ∙ ap (rule_of names) h
tells-gives May P Q names (Err why) (stop.Refused given) (fault.Ready ready) m t h = absurd t
tells-gives May P Q names (Err why) (stop.Refused given) fault.Sink m t h = absurd t
tells-gives May P Q names (Err why) (stop.Refused given) (fault.Store f) m t h = subst May (sym t) m
tells-gives May P Q names (Ok a) (stop.Store g) f m t h = subst (λ f. GivesOr May Q (Ok a) (Err f)) (sym t) h
tells-gives May P Q names (Err why) (stop.Store g) f m t h = subst (λ f. GivesOr May Q (told_of names (Err why)) (Err f)) (sym t) h

-- a value is one whatever it is told with
pub meets-gives : {A B : Type 0} (May : StoreFault → Type 0) (P : A → B → Type 0) (names : List (List ℕ)) (w : Result A Refused) (b : B) → MeetsOr May P w (Ok b) → GivesOr May P (told_of names w) (Ok b)
meets-gives May P names (Ok a) b h = h
meets-gives May P names (Err why) b h = absurd h

-- a step that stops stops what would follow
pub stops-then : {A B C D : Type 0} (May : StoreFault → Type 0) (P : A → B → Type 0) (Q : C → D → Type 0) (w : Result A Refused) (go : A → Result C Refused) (s : Stop) → MeetsOr May P w (Err s) → MeetsOr May Q (and_then w go) (Err s)
stops-then May P Q (Ok a) go (stop.Refused why) h = absurd h
stops-then May P Q (Ok a) go (stop.Store f) h = by (go a)
  where
    by : (w : Result _ Refused) → MeetsOr May Q w (Err (stop.Store f))
    by (Ok c) = h
    by (Err why) = h
stops-then May P Q (Err why) go (stop.Refused given) h = h
stops-then May P Q (Err why) go (stop.Store f) h = h

-- and so does a call
pub gives-stop : {A B C D : Type 0} (May : StoreFault → Type 0) (P : A → B → Type 0) (Q : C → D → Type 0) (w : Result A Rule) (go : A → Result C Rule) (f : MfsFault) → GivesOr May P w (Err f) → GivesOr May Q (then_go w go) (Err f)
gives-stop May P Q (Ok a) go (fault.Rule rule) h = absurd h
gives-stop May P Q (Ok a) go (fault.Ready ready) h = absurd h
gives-stop May P Q (Ok a) go fault.Sink h = absurd h
gives-stop May P Q (Ok a) go (fault.Store f) h = gives-fault May Q (go a) f h
gives-stop May P Q (Err rule) go (fault.Rule given) h = h
gives-stop May P Q (Err rule) go (fault.Ready ready) h = h
gives-stop May P Q (Err rule) go fault.Sink h = h
gives-stop May P Q (Err rule) go (fault.Store f) h = h

-- what is lost of some blocks is lost of all
pub gives-among : {A B : Type 0} (told : Told) (k l : List Held) (P : A → B → Type 0) (w : Result A Rule) (r : Result B MfsFault) → ((Q : Held → Type 0) → AllByRecursion Q l → AllByRecursion Q k)
    → GivesOr (IsLossOf told k) P w r → GivesOr (IsLossOf told l) P w r
gives-among told k l P (Ok a) (Ok b) more h = h
gives-among told k l P (Err rule) (Ok b) more h = h
gives-among told k l P (Ok a) (Err (fault.Rule rule)) more h = h
gives-among told k l P (Err rule) (Err (fault.Rule given)) more h = h
gives-among told k l P (Ok a) (Err (fault.Ready ready)) more h = h
gives-among told k l P (Err rule) (Err (fault.Ready ready)) more h = h
gives-among told k l P (Ok a) (Err fault.Sink) more h = h
gives-among told k l P (Err rule) (Err fault.Sink) more h = h
gives-among told k l P (Ok a) (Err (fault.Store f)) more h = loss-among told k l f (λ Q. more Q) h
gives-among told k l P (Err rule) (Err (fault.Store f)) more h = loss-among told k l f (λ Q. more Q) h

pub meets-among : {A B : Type 0} (told : Told) (k l : List Held) (P : A → B → Type 0) (w : Result A Refused) (r : Result B Stop) → ((Q : Held → Type 0) → AllByRecursion Q l → AllByRecursion Q k)
    → MeetsOr (IsLossOf told k) P w r → MeetsOr (IsLossOf told l) P w r
meets-among told k l P (Ok a) (Ok b) more h = h
meets-among told k l P (Err why) (Ok b) more h = h
meets-among told k l P (Ok a) (Err (stop.Refused given)) more h = h
meets-among told k l P (Err why) (Err (stop.Refused given)) more h = h
meets-among told k l P (Ok a) (Err (stop.Store f)) more h = loss-among told k l f (λ Q. more Q) h
meets-among told k l P (Err why) (Err (stop.Store f)) more h = loss-among told k l f (λ Q. more Q) h

-- what has to be a folder, and is one or a file
module _ (X : List ℕ → List ℕ) (N : List ℕ → ℕ) (told : Told) (p : Profile) (May : StoreFault → Type 0) where
  pub folder-found : (w : Result Tree Refused) (n : ℕ) (e : Entry) (links : Option FolderRoot) → MeetsOr May (λ t x. IsAgreedThing X N told p t x) w (Ok (FolderAt e links))
      → MeetsOr May (λ fs e. IsAgreed X N told p e (Dir fs)) (and_then w (λ t. as_folder n (Some t))) (Ok e)
  folder-found (Err why) n e links h = absurd h
  folder-found (Ok (File m bytes)) n e links h = absurd h
  folder-found (Ok (Dir fs)) n e links h = h.0

  pub folder-file : {B : Type 0} (Q : Entries → B → Type 0) (w : Result Tree Refused) (n : ℕ) (e : Entry) (size : FileSize) → MeetsOr May (λ t x. IsAgreedThing X N told p t x) w (Ok (FileAt e size))
      → MeetsOr May Q (and_then w (λ t. as_folder n (Some t))) (Err (stop.Refused (NotADirectory n)))
  folder-file Q (Err why) n e size h = absurd h
  folder-file Q (Ok (File m bytes)) n e size h = refl
  folder-file Q (Ok (Dir fs)) n e size h = absurd h

-- ---- what a call shows

-- a fault that tells a step's is the store's where that is
pub tells-fault : (A B : Type 0) (hash : List ℕ → List ℕ) (Bad : Role → List ℕ → Type 0) (names : List (List ℕ)) (s : Stop) (f : MfsFault) (a b : Seen) → Tells names s f
    → OnlyReads hash Bad (stop_fault {A = A} (Err s)) a b → ReadsTree {A = B} hash Bad (Err f) a b
tells-fault A B hash Bad names (stop.Refused why) (fault.Rule rule) a b t h = record { reads = h; in_tree = tt }
tells-fault A B hash Bad names (stop.Refused why) (fault.Ready ready) a b t h = absurd t
tells-fault A B hash Bad names (stop.Refused why) fault.Sink a b t h = absurd t
tells-fault A B hash Bad names (stop.Refused why) (fault.Store f) a b t h = record {
  reads = record { cause = subst (λ f. Shows hash Bad f a b) (sym t) (calm-memory a b h.cause); told = h.told };
  in_tree = tt;
}
tells-fault A B hash Bad names (stop.Store g) f a b t h = subst (λ f. ReadsTree {A = B} hash Bad (Err f) a b) (sym t) (record { reads = h; in_tree = tt })

-- the same of a call that saves
pub tells-saves : (A B : Type 0) (hash : List ℕ → List ℕ) (Bad : Role → List ℕ → Type 0) (names : List (List ℕ)) (s : Stop) (f : MfsFault) (a b : Seen) → Tells names s f
    → OnlySaves hash Bad (stop_fault {A = A} (Err s)) a b → EditsTree {A = B} hash Bad (Err f) a b
tells-saves A B hash Bad names (stop.Refused why) (fault.Rule rule) a b t h = record { saves = h; in_tree = tt }
tells-saves A B hash Bad names (stop.Refused why) (fault.Ready ready) a b t h = absurd t
tells-saves A B hash Bad names (stop.Refused why) fault.Sink a b t h = absurd t
tells-saves A B hash Bad names (stop.Refused why) (fault.Store f) a b t h = record {
  saves = record { cause = subst (λ f. Shows hash Bad f a b) (sym t) (calm-memory a b h.cause); good = h.good; saves = h.saves };
  in_tree = tt;
}
tells-saves A B hash Bad names (stop.Store g) f a b t h = subst (λ f. EditsTree {A = B} hash Bad (Err f) a b) (sym t) (record { saves = h; in_tree = tt })

-- ---- lookups of folders

module _ (X : List ℕ → List ℕ) (N : List ℕ → ℕ) (p : Profile) where
  -- a member that isn't found
  pub member-gives : {A B C D : Type 0} (told : Told) (name : List ℕ) (fs : Entries) (names : List (List ℕ)) (P : A → B → Type 0) (Q : C → D → Type 0) (o : A) (w : Result C Rule) (s : Stop) (f : MfsFault)
      → Tells names s f → MeetsOr (IsLossOf told (member_needs X N p name fs)) P (Ok o) (Err s) → GivesOver X N told p fs Q w (Err f)
  member-gives told name fs names P Q o w (stop.Refused why) f t h = absurd h
  member-gives told name fs names P Q o w (stop.Store g) f t h =
      subst (λ f. GivesOver X N told p fs Q w (Err f)) (sym t) (gives-fault (IsLossOf told (blocks X N p (Dir fs))) Q w g (loss-among told _ _ g (λ P k. member-among X N p name fs P k) h))

  -- the folder at these names, and its blocks
  pub folder-among : (names : List (List ℕ)) (es fs : Entries) → folder_at names es ≡ Ok fs → (P : Held → Type 0) → AllByRecursion P (blocks X N p (Dir es)) → AllByRecursion P (blocks X N p (Dir fs))
  folder-among names es fs is P h = by (at 0 names (Dir es)) refl is
    where
      by : (w : Result Tree Refused) → at 0 names (Dir es) ≡ w → and_then w (λ t. as_folder (length names) (Some t)) ≡ Ok fs → AllByRecursion P (blocks X N p (Dir fs))
      by (Err why) there is = absurd cc
      by (Ok (File m bytes)) there is = absurd cc
      by (Ok (Dir gs)) there is = at-among X N p 0 names (Dir es) (Dir fs) (there ∙ ap (λ (es : Entries). Ok (Dir es)) (let same : gs ≡ fs = cc in same)) P h

  -- a folder that isn't found stops what looks for something in it
  pub folder-stops : {B D : Type 0} (told : Told) (names folder : List (List ℕ)) (name : List ℕ) (es : Entries) (P : Entries → B → Type 0) (Q : Spot × Entries → D → Type 0) (s : Stop) (f : MfsFault) → Tells names s f
      → MeetsOr (IsLossOf told (way X N p folder (Dir es))) P (folder_at folder es) (Err s) → GivesOver X N told p es Q (told_of names (lands folder name es)) (Err f)
  folder-stops told names folder name es P Q s f t h =
      tells-gives (IsLossOf told (blocks X N p (Dir es))) (λ (a : Spot × Entries) (b : Unit {0}). Unit {0}) Q names (lands folder name es) s f tt t
      (stops-then (IsLossOf told (blocks X N p (Dir es))) P (λ (a : Spot × Entries) (b : Unit {0}). Unit {0}) (folder_at folder es) (spot_in folder (Some name)) s
      (meets-among told _ _ P (folder_at folder es) (Err s) (λ R k. way-among X N p folder (Dir es) R k) h))

  -- and one that is found leads on
  pub folder-leads : {B D : Type 0} (told : Told) (names folder : List (List ℕ)) (name : List ℕ) (es : Entries) (P : Entries → B → Type 0) (Q : Spot × Entries → D → Type 0) (b : B) (r : Result D MfsFault)
      → MeetsOr (IsLossOf told (way X N p folder (Dir es))) P (folder_at folder es) (Ok b)
      → ((fs : Entries) → P fs b → GivesOver X N told p fs Q (Ok (record { folder = folder; name = name }, fs)) r) → GivesOver X N told p es Q (told_of names (lands folder name es)) r
  folder-leads told names folder name es P Q b r h more = by (folder_at folder es) refl h
    where
      by : (w : Result Entries Refused) → folder_at folder es ≡ w → MeetsOr (IsLossOf told (way X N p folder (Dir es))) P w (Ok b) → GivesOver X N told p es Q (told_of names (and_then w (spot_in folder (Some name)))) r
      by (Err why) is h = absurd h
      by (Ok fs) is h = gives-among told _ _ Q (Ok (record { folder = folder; name = name }, fs)) r (λ R k. folder-among folder es fs is R k) (more fs h)

-- no count of faults falls in a call that reads the tree
pub tree-rises : {hash : List ℕ → List ℕ} {Bad : Role → List ℕ → Type 0} {A : Type 0} {a b : Seen} (r : Result A MfsFault) → ReadsTree hash Bad r a b → a.faults ≤ b.faults
tree-rises {hash} {Bad} {A} {a} {b} r h = (shown-rises hash Bad (tree_fault r) a b h.reads.cause).faults

-- what a call that reads the tree shows, behind one that read it, and by another judge
pub tree-after : {hash : List ℕ → List ℕ} {Bad Other : Role → List ℕ → Type 0} {A : Type 0} {a b c : Seen} {r : Result A MfsFault} → ((role : Role) (bytes : List ℕ) → Bad role bytes → Other role bytes)
    → OnlyReads hash Other None a b → ReadsTree hash Bad r b c → ReadsTree hash Other r a c
tree-after {hash} {Bad} {Other} more first h = record { reads = reads-reads first (reads-by Other more h.reads); in_tree = h.in_tree }

-- ---- the last name of a path

-- a list of one more than n members, and the last of them
last-at : {A : Type 0} (n : ℕ) (xs : List A) (x : A) → length xs ≡ n + 1 → x ≡ get_or xs n x → (take n xs ++ x ∷ [] ≡ xs) × (slice_get xs n ≡ Some x)
last-at n [] x many is = absurd (omega (arith, many))
last-at ℕ.zero (y ∷ []) x many is = let same : x ≡ y = is in (ap (λ z. z ∷ []) same, ap Some (sym same))
last-at ℕ.zero (y ∷ z ∷ xs) x many is = absurd (let two : length (y ∷ z ∷ xs) ≡ 1 = many in let more : length (y ∷ z ∷ xs) ≡ length xs + 2 = omega arith in omega (arith, two, more))
last-at (ℕ.suc n) (y ∷ xs) x many is =
    let rest : length xs ≡ n + 1 = omega (arith, many) in
    let below = last-at n xs x rest is in
    (ap (λ l. y ∷ l) below.0, below.1)

-- a list that has a last member is those before it and that
pub front-last : {A : Type 0} (xs : List A) (x : A) → 1 ≤ length xs → x ≡ get_or xs (length xs - 1) x → (take (length xs - 1) xs ++ x ∷ [] ≡ xs) × (slice_get xs (length xs - 1) ≡ Some x)
front-last xs x some is = last-at (length xs - 1) xs x (omega (arith, some)) is

-- a lookup of more names
at-more : (led : ℕ) (a b : List (List ℕ)) (t : Tree) → at led (a ++ b) t ≡ and_then (at led a t) (λ u. at (led + length a) b u)
at-more led [] b t = ap (λ k. at k b t) (omega arith)
at-more led (n ∷ a) b (File m bytes) = refl
at-more led (n ∷ a) b (Dir es) = by (λ t. at-more (led + 1) a b t) (child n es)
  where
    by : ((t : Tree) → at (led + 1) (a ++ b) t ≡ and_then (at (led + 1) a t) (λ u. at (led + 1 + length a) b u)) → (o : Option Tree)
        → elim o as (λ o. Result Tree Refused) [ None ↦ Err (NotFound (led + 1)) | Some t ↦ at (led + 1) (a ++ b) t ]
        ≡ and_then (elim o as (λ o. Result Tree Refused) [ None ↦ Err (NotFound (led + 1)) | Some t ↦ at (led + 1) a t ]) (λ u. at (led + length (n ∷ a)) b u)
    by rec None = refl
    by rec (Some t) = rec t ∙ ap (λ k. and_then (at (led + 1) a t) (λ u. at k b u)) (let many : length (n ∷ a) ≡ length a + 1 = omega arith in omega (arith, many))

-- what is under a name, as a lookup gives it
abbrev pub found_under : ℕ → Option Tree → Result Tree Refused
found_under led None = Err (NotFound led)
found_under led (Some t) = Ok t

-- a lookup of one more name is one in the folder
at-last : (folder : List (List ℕ)) (last : List ℕ) (es : Entries) → at 0 (folder ++ last ∷ []) (Dir es) ≡ and_then (folder_at folder es) (λ fs. found_under (length folder + 1) (child last fs))
at-last folder last es = at-more 0 folder (last ∷ []) (Dir es) ∙ ap (λ k. and_then (at 0 folder (Dir es)) (λ u. at k (last ∷ []) u)) (let k : 0 + length folder ≡ length folder = omega arith in k) ∙ by (at 0 folder (Dir es))
  where
    one : (o : Option Tree) → elim o as (λ o. Result Tree Refused) [ None ↦ Err (NotFound (length folder + 1)) | Some t ↦ Ok t ] ≡ found_under (length folder + 1) o
    one None = refl
    one (Some t) = refl

    by : (w : Result Tree Refused) → and_then w (λ u. at (length folder) (last ∷ []) u) ≡ and_then (and_then w (λ t. as_folder (length folder) (Some t))) (λ fs. found_under (length folder + 1) (child last fs))
    by (Err why) = refl
    by (Ok (File m bytes)) = refl
    by (Ok (Dir fs)) = one (child last fs)

module _ (dest : Path) (last name : List ℕ) (es : Entries) (out : dest.into ≡ false) (some : 1 ≤ length dest.names) (is : last ≡ get_or dest.names (length dest.names - 1) last) where
  abbrev pub front_names : List (List ℕ)
  front_names = take (length dest.names - 1) dest.names

  looked-up : at 0 dest.names (Dir es) ≡ and_then (folder_at front_names es) (λ fs. found_under (length front_names + 1) (child last fs))
  looked-up = subst (λ ns. at 0 ns (Dir es) ≡ and_then (folder_at front_names es) (λ fs. found_under (length front_names + 1) (child last fs))) (front-last dest.names last some is).0 (at-last front_names last es)

  -- the spot beside: of the last name in its folder
  beside : landing false dest.names (Some name) es ≡ lands front_names last es
  beside = ap (λ o. and_then (folder_at front_names es) (spot_in front_names o)) (front-last dest.names last some is).1

  by-lookup : (w : Result Tree Refused) → at 0 dest.names (Dir es) ≡ w → target dest (Some name) es ≡ told_of dest.names (landing (is_folder_at w) dest.names (Some name) es)
  by-lookup w there = ap (λ b. told_of dest.names (landing (b || is_folder_at (at 0 dest.names (Dir es))) dest.names (Some name) es)) out
      ∙ ap (λ w. told_of dest.names (landing (is_folder_at w) dest.names (Some name) es)) there

  -- where no folder is at the destination, the target is its last name
  target-beside : (w : Result Tree Refused) → at 0 dest.names (Dir es) ≡ w → is_folder_at w ≡ false → target dest (Some name) es ≡ told_of dest.names (lands front_names last es)
  target-beside w there outside = by-lookup w there ∙ ap (λ b. told_of dest.names (landing b dest.names (Some name) es)) outside ∙ ap (told_of dest.names) beside

  -- a folder that isn't found
  pub target-stop : {B D : Type 0} (May : StoreFault → Type 0) (P : Spot × Entries → B → Type 0) (Q : Spot × Entries → D → Type 0) (f : MfsFault) → GivesOr May P (told_of dest.names (lands front_names last es)) (Err f)
      → GivesOr May Q (target dest (Some name) es) (Err f)
  target-stop May P Q f h = by (folder_at front_names es) refl f h
    where
      by : (w : Result Entries Refused) → folder_at front_names es ≡ w → (f : MfsFault) → GivesOr May P (told_of dest.names (and_then w (spot_in front_names (Some last)))) (Err f) → GivesOr May Q (target dest (Some name) es) (Err f)
      by w there (fault.Store f) h = gives-fault May Q (target dest (Some name) es) f (which w h)
        where
          which : (w : Result Entries Refused) → GivesOr May P (told_of dest.names (and_then w (spot_in front_names (Some last)))) (Err (fault.Store f)) → May f
          which (Ok fs) h = h
          which (Err why) h = h
      by (Ok fs) there (fault.Rule rule) h = absurd h
      by (Ok fs) there (fault.Ready ready) h = absurd h
      by (Ok fs) there fault.Sink h = absurd h
      by (Err why) there (fault.Rule rule) h =
          subst (λ w. GivesOr May Q w (Err (fault.Rule rule))) (sym (target-beside (Err why) (looked-up ∙ ap (λ w. and_then w (λ fs. found_under (length front_names + 1) (child last fs))) there) refl
          ∙ ap (λ w. told_of dest.names (and_then w (spot_in front_names (Some last)))) there)) h
      by (Err why) there (fault.Ready ready) h = absurd h
      by (Err why) there fault.Sink h = absurd h

module _ (X : List ℕ → List ℕ) (N : List ℕ → ℕ) (p : Profile) (told : Told) (dest : Path) (last name : List ℕ) (es : Entries)
    (out : dest.into ≡ false) (some : 1 ≤ length dest.names) (is : last ≡ get_or dest.names (length dest.names - 1) last) where
  -- what was found there
  which : (found : MoveTarget) → GivesOver X N told p es (IsFound X N told p) (told_of dest.names (lands (front_names dest last name es out some is) last es)) (Ok found)
      → (fs : Entries) × (folder_at (front_names dest last name es out some is) es ≡ Ok fs) × (found.names ≡ front_names dest last name es out some is ++ last ∷ []) × IsAgreedMember X N told p (child last fs) found.there
  which found h = by (folder_at (front_names dest last name es out some is) es) refl h
    where
      by : (w : Result Entries Refused) → folder_at (front_names dest last name es out some is) es ≡ w
          → GivesOver X N told p es (IsFound X N told p) (told_of dest.names (and_then w (spot_in (front_names dest last name es out some is) (Some last)))) (Ok found)
          → (fs : Entries) × (folder_at (front_names dest last name es out some is) es ≡ Ok fs) × (found.names ≡ front_names dest last name es out some is ++ last ∷ []) × IsAgreedMember X N told p (child last fs) found.there
      by (Err why) there h = absurd h
      by (Ok fs) there h = (fs, there, h.names, h.there)

  -- no folder is there: that is the target
  pub target-there : (found : MoveTarget) → None ≡ folder_there found.there
      → GivesOver X N told p es (IsFound X N told p) (told_of dest.names (lands (front_names dest last name es out some is) last es)) (Ok found)
      → GivesOver X N told p es (IsFound X N told p) (target dest (Some name) es) (Ok found)
  target-there found never h =
      let at-it = which found h in
      let there = looked-up dest last name es out some is ∙ ap (λ w. and_then w (λ fs. found_under (length (front_names dest last name es out some is) + 1) (child last fs))) at-it.1 in
      subst (λ w. GivesOver X N told p es (IsFound X N told p) w (Ok found))
      (sym (target-beside dest last name es out some is _ there (none (child last at-it.0) found.there never at-it.3))) h
    where
      none : (o : Option Tree) (m : Option Thing) → None ≡ folder_there m → IsAgreedMember X N told p o m → is_folder_at (found_under (length (front_names dest last name es out some is) + 1) o) ≡ false
      none None m same i = refl
      none (Some (File meta bytes)) m same i = refl
      none (Some (Dir gs)) None same i = absurd i
      none (Some (Dir gs)) (Some (FileAt e size)) same i = absurd i
      none (Some (Dir gs)) (Some (FolderAt e links)) same i = absurd cc

  -- a folder is there: it is entered
  pub target-in : {D : Type 0} (Q : Spot × Entries → D → Type 0) (found : MoveTarget) (e : Entry) (r : Result D MfsFault) → Some e ≡ folder_there found.there
      → GivesOver X N told p es (IsFound X N told p) (told_of dest.names (lands (front_names dest last name es out some is) last es)) (Ok found)
      → ((gs : Entries) → IsAgreed X N told p e (Dir gs) → GivesOver X N told p gs Q (Ok (record { folder = dest.names; name = name }, gs)) r)
      → GivesOver X N told p es Q (target dest (Some name) es) r
  target-in Q found e r same h more =
      let at-it = which found h in
      let under = folder-under (child last at-it.0) found.there same at-it.3 in
      let there = looked-up dest last name es out some is ∙ ap (λ w. and_then w (λ fs. found_under (length (front_names dest last name es out some is) + 1) (child last fs))) at-it.1
      ∙ ap (found_under (length (front_names dest last name es out some is) + 1)) under.1 in
      let folder = ap (λ w. and_then w (λ t. as_folder (length dest.names) (Some t))) there in
      subst (λ w. GivesOver X N told p es Q w r) (sym (by-lookup dest last name es out some is (Ok (Dir under.0)) there ∙ ap (λ w. told_of dest.names (and_then w (spot_in dest.names (Some name)))) folder))
      (gates under.0 folder (more under.0 under.2))
    where
      folder-under : (o : Option Tree) (m : Option Thing) → Some e ≡ folder_there m → IsAgreedMember X N told p o m → (gs : Entries) × (o ≡ Some (Dir gs)) × IsAgreed X N told p e (Dir gs)
      folder-under None None is i = absurd cc
      folder-under None (Some thing) is i = absurd i
      folder-under (Some t) None is i = absurd i
      folder-under (Some (File meta bytes)) (Some (FileAt f size)) is i = absurd cc
      folder-under (Some (File meta bytes)) (Some (FolderAt f links)) is i = absurd i
      folder-under (Some (Dir gs)) (Some (FileAt f size)) is i = absurd i
      folder-under (Some (Dir gs)) (Some (FolderAt f links)) is i = (gs, refl, subst (λ (e : Entry). IsAgreed X N told p e (Dir gs)) (let same : f ≡ e = cc in same) i.0)

      gates : (gs : Entries) → folder_at dest.names es ≡ Ok gs → GivesOver X N told p gs Q (Ok (record { folder = dest.names; name = name }, gs)) r → GivesOver X N told p es Q (Ok (record { folder = dest.names; name = name }, gs)) r
      gates gs is h = gives-among told _ _ Q (Ok (record { folder = dest.names; name = name }, gs)) r (λ R k. folder-among X N p dest.names es gs is R k) h

-- ---- spots

-- a folder that isn't found has no spot
pub spotted-stop : (X : List ℕ → List ℕ) (N : List ℕ → ℕ) (p : Profile) {B D : Type 0} (told : Told) (names : List (List ℕ)) (name : Option (List ℕ)) (es : Entries) (P : Entries → B → Type 0) (Q : Spot → D → Type 0) (s : Stop) (f : MfsFault)
    → Tells names s f → MeetsOr (IsLossOf told (way X N p names (Dir es))) P (folder_at names es) (Err s) → GivesOver X N told p es Q (spotted (record { names = names; into = true }) name es) (Err f)
spotted-stop X N p told names name es P Q s f t h =
    let May = IsLossOf told (blocks X N p (Dir es)) in let Any = λ (a : Spot × Entries) (b : Unit {0}). Unit {0} in
    gives-stop May Any Q (told_of names (and_then (folder_at names es) (spot_in names name))) (λ found. told_of (spot_names found.0) (as_vacant found.0 (child found.0.name found.1))) f
    (tells-gives May Any Any names (and_then (folder_at names es) (spot_in names name)) s f tt t
    (stops-then May P Any (folder_at names es) (spot_in names name) s (meets-among told _ _ P (folder_at names es) (Err s) (λ R k. way-among X N p names (Dir es) R k) h)))

-- the spot of a destination that isn't entered is its last name
pub spotted-beside : (dest : Path) (last : List ℕ) (name : Option (List ℕ)) (es : Entries) → dest.into ≡ false → 1 ≤ length dest.names → last ≡ get_or dest.names (length dest.names - 1) last
    → spotted dest name es ≡ vacant_at dest.names (take (length dest.names - 1) dest.names) last es
spotted-beside dest last name es out some is =
    let front = take (length dest.names - 1) dest.names in
    let go : Spot × Entries → Result Spot Rule = λ found. told_of (spot_names found.0) (as_vacant found.0 (child found.0.name found.1)) in
    ap (λ b. then_go (told_of dest.names (landing b dest.names name es)) go) out
    ∙ ap (λ o. then_go (told_of dest.names (and_then (folder_at front es) (spot_in front o))) go) (front-last dest.names last some is).1

-- where all blocks are held only memory can be wanting
pub gives-held : {A B : Type 0} (told : Told) (l : List Held) (P : A → B → Type 0) (w : Result A Rule) (r : Result B MfsFault) → TellsHeld told l → GivesOr (IsLossOf told l) P w r → Gives P w r
gives-held told l P (Ok a) (Ok b) held h = h
gives-held told l P (Err rule) (Ok b) held h = h
gives-held told l P (Ok a) (Err (fault.Rule rule)) held h = h
gives-held told l P (Err rule) (Err (fault.Rule given)) held h = h
gives-held told l P (Ok a) (Err (fault.Ready ready)) held h = h
gives-held told l P (Err rule) (Err (fault.Ready ready)) held h = h
gives-held told l P (Ok a) (Err fault.Sink) held h = h
gives-held told l P (Err rule) (Err fault.Sink) held h = h
gives-held told l P (Ok a) (Err (fault.Store f)) held h = loss-fault told l f held h
gives-held told l P (Err rule) (Err (fault.Store f)) held h = loss-fault told l f held h
