-- Of which kinds the refusals of commands are.
use Rattle.std.proofs.Common.{◌≡◌, ℕ, List, true, false, refl, sym, subst, Result, Ok, Err}
use Rattle.uf_edge.specs.Counts.{Counts}
use Rattle.uf_edge.specs.Streams as streams
use Rattle.uf_mfs.specs.Opening.{IsOfMaking}
use Rattle.uf_mfs.specs.declared.fault.MfsFault.{MfsFault}
use Rattle.uf_mfs.specs.declared.fault.MfsFault.TheVariants as mfs
use Rattle.uf_store.specs.Clashes.{IsSaving}
use Rattle.uf_store.specs.Contents.{Told}
use Rattle.uf_store.specs.declared.store.StoreFault.{StoreFault}
use Rattle.uf_store.specs.declared.store.StoreFault.TheVariants.{Failed, Damaged, Missing, BadBlock, Clash, Memory}
use Rattle.uf_tree.specs.declared.profile.Profile.{Profile}
use Rattle.uf_command.specs.Kinds.{IsOf, RefusalKind, OfRule, OfDag, OfHost, OfPath, OfLongInput, OfUsage, OfReady, OfRead, OfWrite, OfFailure, OfMissing, OfBadBlock, OfClash, OfMemory, OfCar, OfSections, OfOwnClash, OfPins, init_kinds, add_kinds, tree_kinds, fault_kind, may_meet, opened_kinds, read_kind, refusal_kind}
use Rattle.uf_command.specs.declared.types.Command.{Command}
use Rattle.uf_command.specs.declared.types.Refusal.{Refusal}
use Rattle.uf_command.specs.declared.types.Refusal.TheVariants as refusal
use Rattle.uf_top.specs.Causes.{IsMade, IsProfileRead, IsReady, RefusesInTree, RefusesOpening, is_read}
use Rattle.uf_top.specs.Intake.{IsRowOf}
use Rattle.uf_top.specs.Opening.{IsUnopened}
use Rattle.uf_top.proofs.Refusing.{by-unopened}
use Rattle.uf_top.proofs.Shows.{counts-still}

-- a fault that saves alone can have is one of `add`
saving-kind : (f : StoreFault) → IsSaving f → may_meet add_kinds (fault_kind f) ≡ true
saving-kind Failed h = refl
saving-kind (Damaged cid) h = absurd h
saving-kind (Missing cid) h = absurd h
saving-kind (BadBlock cid role) h = absurd h
saving-kind (Clash cid held bytes) h = refl
saving-kind Memory h = refl

-- so is what becomes of an input
pub row-kinds : (X : List ℕ → List ℕ) (p : Profile) (held : Told) (r : Result (List ℕ) Refusal) (l m : streams.Told) → IsRowOf X p held r l m → IsOf (may_meet add_kinds) r
row-kinds X p held (Ok text) l m row = tt
row-kinds X p held (Err (refusal.Rule rule)) l m row = refl
row-kinds X p held (Err (refusal.Dag rule)) l m row = absurd row
row-kinds X p held (Err (refusal.Car number place)) l m row = absurd row
row-kinds X p held (Err (refusal.CarLacks cid)) l m row = absurd row
row-kinds X p held (Err (refusal.OwnClash cid first second)) l m row = absurd row
row-kinds X p held (Err (refusal.Host rule)) l m row = absurd row
row-kinds X p held (Err (refusal.BadPath why)) l m row = absurd row
row-kinds X p held (Err refusal.Usage) l m row = absurd row
row-kinds X p held (Err refusal.InputTooLong) l m row = absurd row
row-kinds X p held (Err refusal.BadPins) l m row = absurd row
row-kinds X p held (Err (refusal.Ready why)) l m row = refl
row-kinds X p held (Err refusal.Read) l m row = refl
row-kinds X p held (Err refusal.Write) l m row = absurd row
row-kinds X p held (Err (refusal.Store f)) l m row = saving-kind f row

-- and what is read of the Head
pub read-kinds : (why : Refusal) (told : Told) → IsProfileRead (Err why) told → may_meet add_kinds (refusal_kind why) ≡ true
read-kinds (refusal.Rule rule) told read = refl
read-kinds (refusal.Dag rule) told read = absurd read
read-kinds (refusal.Car number place) told read = absurd read
read-kinds (refusal.CarLacks cid) told read = absurd read
read-kinds (refusal.OwnClash cid first second) told read = absurd read
read-kinds (refusal.Host rule) told read = absurd read
read-kinds (refusal.BadPath why) told read = absurd read
read-kinds refusal.Usage told read = absurd read
read-kinds refusal.InputTooLong told read = absurd read
read-kinds refusal.BadPins told read = absurd read
read-kinds (refusal.Ready why) told read = refl
read-kinds refusal.Read told read = refl
read-kinds refusal.Write told read = absurd read
read-kinds (refusal.Store f) told read = saving-kind f read

-- a call that makes a store ready
store-ready : (f : StoreFault) → IsSaving f → may_meet init_kinds (fault_kind f) ≡ true
store-ready Failed h = refl
store-ready (Damaged cid) h = refl
store-ready (Missing cid) h = absurd h
store-ready (BadBlock cid role) h = absurd h
store-ready (Clash cid held bytes) h = refl
store-ready Memory h = refl

pub init-kinds : (f : MfsFault) (w : Refusal) → RefusesOpening f w → IsOfMaking f → may_meet init_kinds (refusal_kind w) ≡ true
init-kinds (mfs.Rule rule) w is h = absurd is
init-kinds (mfs.Ready why) w is h = subst (λ w. may_meet init_kinds (refusal_kind w) ≡ true) (sym is) refl
init-kinds mfs.Sink w is h = absurd is
init-kinds (mfs.Store f) w is h = subst (λ w. may_meet init_kinds (refusal_kind w) ≡ true) (sym is) (store-ready f h)

-- one that opens a tree
store-tree : (f : StoreFault) → may_meet tree_kinds (fault_kind f) ≡ true
store-tree Failed = refl
store-tree (Damaged cid) = refl
store-tree (Missing cid) = refl
store-tree (BadBlock cid role) = refl
store-tree (Clash cid held bytes) = refl
store-tree Memory = refl

pub unopened-kinds : (told : Told) (w : Refusal) → IsUnopened told w → may_meet tree_kinds (refusal_kind w) ≡ true
unopened-kinds told w = by-unopened (λ w. may_meet tree_kinds (refusal_kind w) ≡ true) told w (λ why head. refl) store-tree

-- a call on an opened tree
store-opened : (f : StoreFault) → opened_kinds (fault_kind f) ≡ true
store-opened Failed = refl
store-opened (Damaged cid) = refl
store-opened (Missing cid) = refl
store-opened (BadBlock cid role) = refl
store-opened (Clash cid held bytes) = refl
store-opened Memory = refl

pub tree-kinds : (f : MfsFault) (w : Refusal) → RefusesInTree f w → opened_kinds (refusal_kind w) ≡ true
tree-kinds (mfs.Rule rule) w is = subst (λ w. opened_kinds (refusal_kind w) ≡ true) (sym is) refl
tree-kinds (mfs.Ready why) w is = absurd is
tree-kinds mfs.Sink w is = absurd is
tree-kinds (mfs.Store f) w is = subst (λ w. opened_kinds (refusal_kind w) ≡ true) (sym is) (store-opened f)

pub made-kinds : (M : Type 0) (text : Result (List ℕ) M) (r : Result (List ℕ) Refusal) → IsMade text r → IsOf opened_kinds r
made-kinds M (Ok x) r made = subst (λ (r : Result (List ℕ) Refusal). IsOf opened_kinds r) (sym made) tt
made-kinds M (Err m) r made = subst (λ (r : Result (List ℕ) Refusal). IsOf opened_kinds r) (sym made) refl

-- what an opened tree refuses, a command at a path may refuse, and such a tree is ready
pub opened-of : (r : Result (List ℕ) Refusal) → IsOf opened_kinds r → IsOf (may_meet tree_kinds) r
opened-of (Ok x) h = tt
opened-of (Err (refusal.Rule rule)) h = refl
opened-of (Err (refusal.Dag rule)) h = h
opened-of (Err (refusal.Car number place)) h = h
opened-of (Err (refusal.CarLacks cid)) h = h
opened-of (Err (refusal.OwnClash cid first second)) h = h
opened-of (Err (refusal.Host rule)) h = h
opened-of (Err (refusal.BadPath why)) h = h
opened-of (Err refusal.Usage) h = h
opened-of (Err refusal.InputTooLong) h = h
opened-of (Err refusal.BadPins) h = h
opened-of (Err (refusal.Ready why)) h = refl
opened-of (Err refusal.Read) h = h
opened-of (Err refusal.Write) h = h
opened-of (Err (refusal.Store f)) h = store-tree f

pub opened-ready : (told : Told) (command : Command) (r : Result (List ℕ) Refusal) → IsOf opened_kinds r → IsReady told command r
opened-ready told command (Ok x) h = tt
opened-ready told command (Err (refusal.Rule rule)) h = tt
opened-ready told command (Err (refusal.Dag rule)) h = tt
opened-ready told command (Err (refusal.Car number place)) h = tt
opened-ready told command (Err (refusal.CarLacks cid)) h = tt
opened-ready told command (Err (refusal.OwnClash cid first second)) h = tt
opened-ready told command (Err (refusal.Host rule)) h = tt
opened-ready told command (Err (refusal.BadPath why)) h = tt
opened-ready told command (Err refusal.Usage) h = tt
opened-ready told command (Err refusal.InputTooLong) h = tt
opened-ready told command (Err refusal.BadPins) h = tt
opened-ready told command (Err (refusal.Ready why)) h = absurd cc
opened-ready told command (Err refusal.Read) h = tt
opened-ready told command (Err refusal.Write) h = tt
opened-ready told command (Err (refusal.Store f)) h = tt

-- only `add` reads the input
tree-reads : (k : RefusalKind) → may_meet tree_kinds k ≡ true → read_kind k ≡ false
tree-reads OfRule h = refl
tree-reads OfDag h = refl
tree-reads OfHost h = refl
tree-reads OfPath h = refl
tree-reads OfUsage h = refl
tree-reads OfLongInput h = refl
tree-reads OfReady h = refl
tree-reads OfRead h = absurd cc
tree-reads OfWrite h = refl
tree-reads OfFailure h = refl
tree-reads OfMissing h = refl
tree-reads OfBadBlock h = refl
tree-reads OfClash h = refl
tree-reads OfMemory h = refl
tree-reads OfCar h = refl
tree-reads OfSections h = refl
tree-reads OfOwnClash h = refl
tree-reads OfPins h = refl

init-reads : (k : RefusalKind) → may_meet init_kinds k ≡ true → read_kind k ≡ false
init-reads OfRule h = refl
init-reads OfDag h = refl
init-reads OfHost h = refl
init-reads OfPath h = refl
init-reads OfUsage h = refl
init-reads OfLongInput h = refl
init-reads OfReady h = refl
init-reads OfRead h = absurd cc
init-reads OfWrite h = refl
init-reads OfFailure h = refl
init-reads OfMissing h = refl
init-reads OfBadBlock h = refl
init-reads OfClash h = refl
init-reads OfMemory h = refl
init-reads OfCar h = refl
init-reads OfSections h = refl
init-reads OfOwnClash h = refl
init-reads OfPins h = refl

pub tree-counts : (r : Result (List ℕ) Refusal) (i : ℕ) → IsOf (may_meet tree_kinds) r → Counts (is_read r) i i
tree-counts (Ok text) i h = counts-still i
tree-counts (Err why) i h = subst (λ b. Counts b i i) (sym (tree-reads (refusal_kind why) h)) (counts-still i)

pub init-counts : (r : Result (List ℕ) Refusal) (i : ℕ) → IsOf (may_meet init_kinds) r → Counts (is_read r) i i
init-counts (Ok text) i h = counts-still i
init-counts (Err why) i h = subst (λ b. Counts b i i) (sym (init-reads (refusal_kind why) h)) (counts-still i)

-- reading the Head reads no input
pub head-counts : (why : Refusal) (told : Told) (i : ℕ) → IsProfileRead (Err why) told → Counts (is_read {A = List ℕ} (Err why)) i i
head-counts (refusal.Rule rule) told i read = absurd read
head-counts (refusal.Dag rule) told i read = absurd read
head-counts (refusal.Car number place) told i read = absurd read
head-counts (refusal.CarLacks cid) told i read = absurd read
head-counts (refusal.OwnClash cid first second) told i read = absurd read
head-counts (refusal.Host rule) told i read = absurd read
head-counts (refusal.BadPath why) told i read = absurd read
head-counts refusal.Usage told i read = absurd read
head-counts refusal.InputTooLong told i read = absurd read
head-counts refusal.BadPins told i read = absurd read
head-counts (refusal.Ready why) told i read = counts-still i
head-counts refusal.Read told i read = absurd read
head-counts refusal.Write told i read = absurd read
head-counts (refusal.Store Failed) told i read = counts-still i
head-counts (refusal.Store (Damaged cid)) told i read = counts-still i
head-counts (refusal.Store (Missing cid)) told i read = counts-still i
head-counts (refusal.Store (BadBlock cid role)) told i read = counts-still i
head-counts (refusal.Store (Clash cid held bytes)) told i read = counts-still i
head-counts (refusal.Store Memory) told i read = counts-still i
