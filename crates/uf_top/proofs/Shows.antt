-- What the answers of calls in a row show.
use Rattle.std.proofs.Common.{◌≡◌, ◌≢◌, ◌∙◌, ℕ, ◌+◌, ◌≤◌, List, length, false, true, ap, arith, refl, sym, subst, inl, inr, Option, Some, None, Result, Ok, Err}
use Rattle.std.specs.Prelude.{IfErr, IfOk, IfSome, ⊤}
use Rattle.uf_edge.specs.Counts.{Counts, Rose, Stood}
use Rattle.uf_edge.specs.Streams as streams
use Rattle.uf_mfs.specs.Answers.{ShownInTree, ShownOpening}
use Rattle.uf_cid.specs.declared.cid.Cid.{Cid}
use Rattle.uf_fileedit.specs.Bad.{IsBadPlaced, place_at, way_size}
use Rattle.uf_fileread.specs.Bad.{IsBadAt, IsBadRoot, declared_at}
use Rattle.uf_mfs.specs.Bad.{IsBad, IsBadInHead, IsBadInTree, IsHeadTold}
use Rattle.uf_mfs.specs.Standing.{ReadsHead}
use Rattle.uf_mfs.specs.declared.mfs.Mfs.{Mfs}
use Rattle.uf_tree.specs.declared.profile.Head.{Head}
use Rattle.uf_mfs.specs.Steps.{tree_fault}
use Rattle.uf_mfs.specs.Touches.{CountsUp, IsBlaming}
use Rattle.uf_mfs.proofs.Judging.{tree-more}
use Rattle.uf_mfs.specs.declared.fault.MfsFault.{MfsFault}
use Rattle.uf_mfs.specs.declared.fault.MfsFault.TheVariants as mfs
use Rattle.uf_store.specs.Clashes.{IsSaving}
use Rattle.uf_store.specs.Contents.{Told}
use Rattle.uf_store.specs.Faults.{NoneIsBad, Shown, Shows, StaysCalm}
use Rattle.uf_store.specs.Seen.{Seen}
use Rattle.uf_store.specs.declared.store.Role.{Role}
use Rattle.uf_store.specs.declared.store.Role.TheVariants.{Directory, Shard, FileNode, Leaf}
use Rattle.uf_store.specs.declared.store.StoreFault.{StoreFault}
use Rattle.uf_store.specs.declared.store.StoreFault.TheVariants.{Failed, Damaged, Missing, BadBlock, Clash, Memory}
use Rattle.uf_store.proofs.Calls.{shown-by}
use Rattle.uf_store.proofs.Causes.{calm-memory}
use Rattle.uf_tree.specs.HeadReading.{head_reads}
use Rattle.uf_tree.specs.Roles.{FilePlace, Root}
use Rattle.uf_tree.specs.declared.profile.Profile.{Profile}
use Rattle.uf_command.specs.Kinds.{add_kinds, IsOf, fault_behind, may_meet, refusal_fault}
use Rattle.uf_command.specs.Statuses.{status_of}
use Rattle.uf_command.specs.declared.status.Status.TheVariants as status
use Rattle.uf_command.specs.declared.types.Adding.TheVariants as adding
use Rattle.uf_command.specs.declared.types.Command.{Command}
use Rattle.uf_command.specs.declared.types.Command.TheVariants.{Init, Add, WriteInput, At, Read, Cat, Get, Export, Import, Same, Adopt, Gen, Pin, Prove}
use Rattle.uf_command.specs.declared.types.Refusal.{Refusal}
use Rattle.uf_command.specs.declared.types.Refusal.TheVariants as refusal
use Rattle.uf_top.specs.Causes.{HeadSays, IsBadAs, IsBadBlock, IsBadIn, IsMade, IsProfileOf, OnlyWants, RefusesInTree, RefusesOpening}
use Rattle.uf_edits.specs.Edits.{IsBadAsked}
use Rattle.uf_plain.specs.declared.rule.Rule.{Rule}
use Rattle.uf_top.specs.Endings.{IsLongFor}
use Rattle.uf_top.specs.Intake.{ShownIn}

-- a count that stands
pub counts-still : (i : ℕ) → Counts false i i
counts-still i = record { later = omega arith; rose = λ e. absurd cc; still = λ e. refl }

-- no touch is within any bound
pub no-touch : (most : Option ℕ) (t0 : ℕ) → IfSome most (λ n. t0 ≤ t0 + n)
no-touch None t0 = tt
no-touch (Some n) t0 = omega arith

-- a command that reads no block's content
pub shown-any : (hash : List ℕ → List ℕ) (Q : Role → List ℕ → Type 0) (r : Result (List ℕ) Refusal) (a b : Seen) → ShownIn hash r a b → Shown hash Q (refusal_fault r) a b
shown-any hash Q r a b h = shown-by hash NoneIsBad Q (refusal_fault r) a b (λ role bytes bad. absurd bad) h

-- the faults of calls on the tree
module _ (A : Type 0) (hash : List ℕ → List ℕ) (P : Role → List ℕ → Type 0) where
  module _ (Q : Role → List ℕ → Type 0) (more : (role : Role) (bytes : List ℕ) → P role bytes → Q role bytes) where
    pub Shown-opening : (f : MfsFault) (w : Refusal) (a b : Seen) → RefusesOpening f w → ShownOpening hash P {A = A} (Err f) a b → Shown hash Q (fault_behind w) a b
    Shown-opening (mfs.Rule rule) w a b is h = absurd is
    Shown-opening (mfs.Ready why) w a b is h = subst (λ w. Shown hash Q (fault_behind w) a b) (sym is) h
    Shown-opening mfs.Sink w a b is h = absurd is
    Shown-opening (mfs.Store f) w a b is h = subst (λ w. Shown hash Q (fault_behind w) a b) (sym is) (shown-by hash P Q (Some f) a b more h)

    pub Shown-tree : (f : MfsFault) (w : Refusal) (a b : Seen) → RefusesInTree f w → ShownInTree hash P {A = A} (Err f) a b → Shown hash Q (fault_behind w) a b
    Shown-tree (mfs.Rule rule) w a b is h = subst (λ w. Shown hash Q (fault_behind w) a b) (sym is) h
    Shown-tree (mfs.Ready why) w a b is h = absurd is
    Shown-tree mfs.Sink w a b is h = absurd is
    Shown-tree (mfs.Store f) w a b is h = subst (λ w. Shown hash Q (fault_behind w) a b) (sym is) (shown-by hash P Q (Some f) a b more h)

-- the Head of a tree
abbrev pub head_of : Mfs → Head
head_of tree = record { profile = tree.profile; root = tree.root.cid }

-- blocks that aren't canonical where the tree is read are so in what a command shows
pub bad-of-none : (X : List ℕ → List ℕ) (N : List ℕ → ℕ) (told now : Told) (role : Role) (bytes : List ℕ) → IsBadInHead X N told role bytes → IsBadIn X N told now role bytes
bad-of-none X N told now role bytes h = inl h

pub bad-of-head : (X : List ℕ → List ℕ) (N : List ℕ → ℕ) (told now : Told) (tree : Mfs) → ReadsHead told (Ok tree) → (role : Role) (bytes : List ℕ) → IsBadAsked X N tree.profile now tree.root.cid role bytes → IsBadIn X N told now role bytes
bad-of-head X N told now tree is role bytes h = inr (inr (head_of tree, is, h))

-- ---- what isn't canonical where it lies isn't canonical in its role

head-says : (o : Option (List ℕ)) (head : Head) → (text : List ℕ) × (o ≡ Some text) × (head_reads text ≡ Ok head) → HeadSays o head.profile
head-says None head is = absurd (let k = is.1 in cc)
head-says (Some text) head is = (head.root, let same : text ≡ is.0 = (let e = is.1 in cc) in ap head_reads same ∙ is.2)

known : (told : Told) (head : Head) → IsHeadTold told head → IsProfileOf told head.profile
known None head is = tt
known (Some t) head is = head-says t.notes.head head is

module _ (N : List ℕ → ℕ) (p : Option Profile) where
  by-tree : (role : Role) (bytes : List ℕ) → IsBad N p role bytes → IsBadAs N p role bytes
  by-tree Directory bytes h = h
  by-tree (Shard level) bytes h = h
  by-tree FileNode bytes h = tt
  by-tree Leaf bytes h = tt

  by-place : (above : ℕ) (declared : Option ℕ) (role : Role) (bytes : List ℕ) → IsBadAt above declared role bytes → IsBadAs N p role bytes
  by-place above declared Directory bytes h = absurd h
  by-place above declared (Shard level) bytes h = absurd h
  by-place above declared FileNode bytes h = tt
  by-place above declared Leaf bytes h = tt

  by-edit : (q : Profile) (place : FilePlace) (declared : Option ℕ) (role : Role) (bytes : List ℕ) → IsBadPlaced q place declared role bytes → IsBadAs N p role bytes
  by-edit q place declared Directory bytes h = absurd h
  by-edit q place declared (Shard level) bytes h = absurd h
  by-edit q place declared FileNode bytes h = tt
  by-edit q place declared Leaf bytes h = tt

  by-root : (role : Role) (bytes : List ℕ) → IsBadRoot role bytes → IsBadAs N p role bytes
  by-root Directory bytes h = absurd h
  by-root (Shard level) bytes h = absurd h
  by-root FileNode bytes h = tt
  by-root Leaf bytes h = tt

by-asked : (X : List ℕ → List ℕ) (N : List ℕ → ℕ) (p : Profile) (now : Told) (root : Cid) (role : Role) (bytes : List ℕ) → IsBadAsked X N p now root role bytes → IsBadAs N (Some p) role bytes
by-asked X N p now root role bytes (inl (inl h)) = by-tree N (Some p) role bytes h.bad
by-asked X N p now root role bytes (inl (inr (file, inl h))) = by-edit N (Some p) p Root None role bytes h.bad
by-asked X N p now root role bytes (inl (inr (file, inr h))) = by-edit N (Some p) p (place_at h.whole h.way) (Some (way_size h.whole h.way)) role bytes h.bad
by-asked X N p now root role bytes (inr h) = by-root N (Some p) role bytes h

pub bad-anywhere : (X : List ℕ → List ℕ) (N : List ℕ → ℕ) (told now : Told) (role : Role) (bytes : List ℕ) → IsBadIn X N told now role bytes → IsBadBlock N told role bytes
bad-anywhere X N told now role bytes (inl h) = record { profile = None; is_known = tt; bad = by-tree N None role bytes h.bad.bad }
bad-anywhere X N told now role bytes (inr (inl (file, h))) =
    record { profile = None; is_known = tt; bad = by-place N None (0 + length h.way) (declared_at None h.way) role bytes h.bad }
bad-anywhere X N told now role bytes (inr (inr (head, is, h))) =
    record { profile = Some head.profile; is_known = known told head is; bad = by-asked X N head.profile now head.root role bytes h }

-- with no count risen, a fault that saves alone can have is want of memory
pub saving-wants : (hash : List ℕ → List ℕ) (P : Role → List ℕ → Type 0) (f : StoreFault) (a b : Seen) → IsSaving f → Shows hash P f a b → Stood a.faults b.faults → Stood a.clashes b.clashes → f ≡ Memory
saving-wants hash P Failed a b s h f c = (let rose = h.rose in absurd (omega (arith, rose, f)))
saving-wants hash P (Damaged cid) a b s h f c = absurd s
saving-wants hash P (Missing cid) a b s h f c = absurd s
saving-wants hash P (BadBlock cid role) a b s h f c = absurd s
saving-wants hash P (Clash cid held bytes) a b s h f c = (let rose = h.rose in absurd (omega (arith, rose, c)))
saving-wants hash P Memory a b s h f c = refl

pub not-rose : (before now : ℕ) → Rose before now → Stood before now → ⊥
not-rose before now r s = omega (arith, r, s)

-- only memory was wanting, and the store has stayed calm
pub wants-shown : (hash : List ℕ → List ℕ) (r : Result (List ℕ) Refusal) (a b : Seen) → OnlyWants r → StaysCalm a b → ShownIn hash r a b
wants-shown hash (Ok x) a b w h = h
wants-shown hash (Err (refusal.Rule rule)) a b w h = h
wants-shown hash (Err (refusal.Dag rule)) a b w h = h
wants-shown hash (Err (refusal.Car number place)) a b w h = h
wants-shown hash (Err (refusal.CarLacks cid)) a b w h = h
wants-shown hash (Err (refusal.OwnClash cid first second)) a b w h = h
wants-shown hash (Err (refusal.Host rule)) a b w h = h
wants-shown hash (Err (refusal.BadPath why)) a b w h = h
wants-shown hash (Err refusal.Usage) a b w h = h
wants-shown hash (Err refusal.InputTooLong) a b w h = h
wants-shown hash (Err refusal.BadPins) a b w h = h
wants-shown hash (Err (refusal.Ready why)) a b w h = h
wants-shown hash (Err refusal.Read) a b w h = h
wants-shown hash (Err refusal.Write) a b w h = h
wants-shown hash (Err (refusal.Store f)) a b w h = subst (λ f. Shows hash NoneIsBad f a b) (sym w) (calm-memory a b h)

-- what is bad on a way in a tree is so where a file of it is edited
pub bad-way : (X : List ℕ → List ℕ) (N : List ℕ → ℕ) (p : Profile) (now : Told) (root : Cid) (role : Role) (bytes : List ℕ) → IsBadInTree X N None root role bytes → IsBadAsked X N p now root role bytes
bad-way X N p now root role bytes bad = inl (inl (tree-more X N p root role bytes bad))

-- a text that was made, or want of memory, after which the store is as calm as before
pub made-shown : (M : Type 0) (hash : List ℕ → List ℕ) (P : Role → List ℕ → Type 0) (text : Result (List ℕ) M) (r : Result (List ℕ) Refusal) (a b : Seen) → IsMade text r → StaysCalm a b → Shown hash P (refusal_fault r) a b
made-shown M hash P (Ok x) r a b made h = subst (λ (r : Result (List ℕ) Refusal). Shown hash P (refusal_fault r) a b) (sym made) h
made-shown M hash P (Err m) r a b made h = subst (λ (r : Result (List ℕ) Refusal). Shown hash P (refusal_fault r) a b) (sym made) (calm-memory a b h)

-- ---- how the count of touches moved

pub opening-touched : (A : Type 0) (f : MfsFault) (w : Refusal) (t0 t1 : ℕ) → RefusesOpening f w → CountsUp (tree_fault {A = A} (Err f)) t0 t1 → CountsUp (fault_behind w) t0 t1
opening-touched A (mfs.Rule rule) w t0 t1 is h = absurd is
opening-touched A (mfs.Ready why) w t0 t1 is h = subst (λ w. CountsUp (fault_behind w) t0 t1) (sym is) h
opening-touched A mfs.Sink w t0 t1 is h = absurd is
opening-touched A (mfs.Store f) w t0 t1 is h = subst (λ w. CountsUp (fault_behind w) t0 t1) (sym is) h

pub tree-touched : (A : Type 0) (f : MfsFault) (w : Refusal) (t0 t1 : ℕ) → RefusesInTree f w → CountsUp (tree_fault {A = A} (Err f)) t0 t1 → CountsUp (fault_behind w) t0 t1
tree-touched A (mfs.Rule rule) w t0 t1 is h = subst (λ w. CountsUp (fault_behind w) t0 t1) (sym is) h
tree-touched A (mfs.Ready why) w t0 t1 is h = absurd is
tree-touched A mfs.Sink w t0 t1 is h = absurd is
tree-touched A (mfs.Store f) w t0 t1 is h = subst (λ w. CountsUp (fault_behind w) t0 t1) (sym is) h

-- a text that was made, or want of memory, touches nothing more
pub made-touched : (M : Type 0) (text : Result (List ℕ) M) (r : Result (List ℕ) Refusal) (t0 t1 : ℕ) → IsMade text r → CountsUp None t0 t1 → CountsUp (refusal_fault r) t0 t1
made-touched M (Ok x) r t0 t1 made h = subst (λ (r : Result (List ℕ) Refusal). CountsUp (refusal_fault r) t0 t1) (sym made) h
made-touched M (Err m) r t0 t1 made h = subst (λ (r : Result (List ℕ) Refusal). CountsUp (refusal_fault r) t0 t1) (sym made) (record { kept = h.kept; risen = λ blames. absurd blames })

-- `add` blames no block
pub add-blames : (r : Result (List ℕ) Refusal) → IsOf (may_meet add_kinds) r → IsBlaming (refusal_fault r) → ⊥
add-blames (Ok text) h blames = blames
add-blames (Err (refusal.Rule rule)) h blames = blames
add-blames (Err (refusal.Dag rule)) h blames = blames
add-blames (Err (refusal.Car number place)) h blames = blames
add-blames (Err (refusal.CarLacks cid)) h blames = blames
add-blames (Err (refusal.OwnClash cid first second)) h blames = blames
add-blames (Err (refusal.Host rule)) h blames = blames
add-blames (Err (refusal.BadPath why)) h blames = blames
add-blames (Err refusal.Usage) h blames = blames
add-blames (Err refusal.InputTooLong) h blames = blames
add-blames (Err refusal.BadPins) h blames = blames
add-blames (Err (refusal.Ready why)) h blames = blames
add-blames (Err refusal.Read) h blames = blames
add-blames (Err refusal.Write) h blames = blames
add-blames (Err (refusal.Store Failed)) h blames = blames
add-blames (Err (refusal.Store (Damaged cid))) h blames = blames
add-blames (Err (refusal.Store (Missing cid))) h blames = blames
add-blames (Err (refusal.Store (BadBlock cid role))) h blames = (let e : false ≡ true = h in cc)
add-blames (Err (refusal.Store (Clash cid held bytes))) h blames = blames
add-blames (Err (refusal.Store Memory)) h blames = blames

-- the status of a bad block is that of a refusal that blames one
pub blamed-block : (why : Refusal) → status_of why ≡ status.BadBlock → (cid : Cid) × (role : Role) × (why ≡ refusal.Store (BadBlock cid role))
blamed-block (refusal.Rule rule) e = absurd cc
blamed-block (refusal.Dag rule) e = absurd cc
blamed-block (refusal.Car number place) e = absurd cc
blamed-block (refusal.CarLacks cid) e = absurd cc
blamed-block (refusal.OwnClash cid first second) e = absurd cc
blamed-block (refusal.Host rule) e = absurd cc
blamed-block (refusal.BadPath path) e = absurd cc
blamed-block refusal.Usage e = absurd cc
blamed-block refusal.InputTooLong e = absurd cc
blamed-block refusal.BadPins e = absurd cc
blamed-block (refusal.Ready reason) e = absurd cc
blamed-block refusal.Read e = absurd cc
blamed-block refusal.Write e = absurd cc
blamed-block (refusal.Store Failed) e = absurd cc
blamed-block (refusal.Store (Damaged cid)) e = absurd cc
blamed-block (refusal.Store (Missing cid)) e = absurd cc
blamed-block (refusal.Store (BadBlock cid role)) e = (cid, role, refl)
blamed-block (refusal.Store (Clash cid held bytes)) e = absurd cc
blamed-block (refusal.Store Memory) e = absurd cc

pub blaming-of : (why : Refusal) → status_of why ≡ status.BadBlock → IsBlaming (fault_behind why)
blaming-of why e = let k = blamed-block why e in subst (λ w. IsBlaming (fault_behind w)) (sym k.2) tt

-- nothing is said of the rows of a command that adds nothing from the host
pub no-rows : (r : Result (List ℕ) Refusal) → IfOk r (λ text. ⊤)
no-rows (Ok text) = tt
no-rows (Err why) = tt

-- nothing is said of the length of an input where a command is refused
pub none-long : (done : Result (Unit {0}) Refusal) → IfErr done (λ why. ⊤)
none-long (Ok done) = tt
none-long (Err why) = tt

-- a refusal that no rule of the tree is, and that no input is too long
pub no-long : (command : Command) (why : Refusal) (told : Told) (l m : streams.Told) → ((rule : Rule) → why ≢ refusal.Rule rule) → why ≢ refusal.InputTooLong → IsLongFor command why told l m
no-long (Add (adding.Input only_hash)) why told l m rules longs = λ rule e. absurd (rules rule e)
no-long (WriteInput how path) why told l m rules longs = λ e. absurd (longs e)
no-long (Init p) why told l m rules longs = tt
no-long (At ask path) why told l m rules longs = tt
no-long (Read offset count path) why told l m rules longs = tt
no-long (Prove absent path) why told l m rules longs = tt
no-long (Cat path) why told l m rules longs = tt
no-long (Get path host_path) why told l m rules longs = tt
no-long (Export cid) why told l m rules longs = tt
no-long Import why told l m rules longs = tt
no-long (Same cid) why told l m rules longs = tt
no-long (Adopt source dest) why told l m rules longs = tt
no-long (Gen n seed) why told l m rules longs = tt
no-long (Pin ask) why told l m rules longs = tt
no-long (Add (adding.InputTo dest)) why told l m rules longs = tt
no-long (Add (adding.HostTo recursive path dest)) why told l m rules longs = tt
no-long (Add (adding.Host recursive only_hash path)) why told l m rules longs = tt
