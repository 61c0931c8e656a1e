-- Which answers aren't that the Head is refused.
use Rattle.std.proofs.Common.{◌≡◌, ◌≢◌, List, ℕ, Bool, true, false, sym, ◌∙◌, Result, Ok, Err}
use Rattle.uf_edge.specs.Streams as streams
use Rattle.uf_store.specs.Contents.{Told}
use Rattle.uf_store.specs.declared.store.StoreFault.{StoreFault}
use Rattle.uf_store.specs.declared.store.StoreFault.TheVariants as fault
use Rattle.uf_tree.specs.Tree.{Tree}
use Rattle.uf_tree.specs.declared.profile.Profile.{Profile}
use Rattle.uf_command.specs.Kinds.{IsOf, OfPins, OfReady, RefusalKind}
use Rattle.uf_command.specs.Statuses.{ended, fault_status, status_of}
use Rattle.uf_command.specs.declared.status.Status.TheVariants as status
use Rattle.uf_command.specs.declared.types.Refusal.{Refusal}
use Rattle.uf_command.specs.declared.types.Refusal.TheVariants as refusal
use Rattle.uf_top.specs.Causes.{TakesAll}
use Rattle.uf_top.specs.Intake.{IsRowOf}
use Rattle.uf_top.specs.Placing.{IsUngiven}

-- no fault of the store is
pub store-unready : (f : StoreFault) → fault_status f ≢ status.NotReady
store-unready fault.Failed is = cc
store-unready (fault.Damaged cid) is = cc
store-unready (fault.Missing cid) is = cc
store-unready (fault.BadBlock cid role) is = cc
store-unready (fault.Clash cid held bytes) is = cc
store-unready fault.Memory is = cc

-- no answer is that has another kind than that of a Head and that of a note of pins
pub not-unready : {A : Type 0} (kinds : RefusalKind → Bool) (done : Result A Refusal) → kinds OfReady ≡ false → kinds OfPins ≡ false → IsOf kinds done → ended done ≢ status.NotReady
not-unready kinds (Ok a) ready pins of is = cc
not-unready kinds (Err (refusal.Rule r)) ready pins of is = cc
not-unready kinds (Err (refusal.Dag r)) ready pins of is = cc
not-unready kinds (Err (refusal.Host r)) ready pins of is = cc
not-unready kinds (Err (refusal.BadPath p)) ready pins of is = cc
not-unready kinds (Err refusal.InputTooLong) ready pins of is = cc
not-unready kinds (Err refusal.Usage) ready pins of is = cc
not-unready kinds (Err refusal.BadPins) ready pins of is = (let e : false ≡ true = sym pins ∙ of in cc)
not-unready kinds (Err (refusal.Ready why)) ready pins of is = (let e : false ≡ true = sym ready ∙ of in cc)
not-unready kinds (Err refusal.Read) ready pins of is = cc
not-unready kinds (Err refusal.Write) ready pins of is = cc
not-unready kinds (Err (refusal.Store f)) ready pins of is = store-unready f is
not-unready kinds (Err (refusal.Car number place)) ready pins of is = cc
not-unready kinds (Err (refusal.CarLacks cid)) ready pins of is = cc
not-unready kinds (Err (refusal.OwnClash cid first second)) ready pins of is = cc

-- none of a reading of the input
pub taken-unready : (why : Refusal) (l k : streams.Told) → TakesAll (Err why) l k → status_of why ≢ status.NotReady
taken-unready (refusal.Rule r) l k takes is = absurd takes
taken-unready (refusal.Dag r) l k takes is = absurd takes
taken-unready (refusal.Host r) l k takes is = absurd takes
taken-unready (refusal.BadPath p) l k takes is = absurd takes
taken-unready refusal.InputTooLong l k takes is = cc
taken-unready refusal.Usage l k takes is = absurd takes
taken-unready refusal.BadPins l k takes is = absurd takes
taken-unready (refusal.Ready why) l k takes is = absurd takes
taken-unready refusal.Read l k takes is = cc
taken-unready refusal.Write l k takes is = absurd takes
taken-unready (refusal.Store f) l k takes is = store-unready f is
taken-unready (refusal.Car number place) l k takes is = absurd takes
taken-unready (refusal.CarLacks cid) l k takes is = absurd takes
taken-unready (refusal.OwnClash cid first second) l k takes is = absurd takes

-- none of an input that is read as a file
pub row-unready : (X : List ℕ → List ℕ) (p : Profile) (held : Told) (r : Result (List ℕ) Refusal) (l m : streams.Told) → IsRowOf X p held r l m → ended r ≢ status.NotReady
row-unready X p held (Ok text) l m row is = cc
row-unready X p held (Err (refusal.Rule r)) l m row is = cc
row-unready X p held (Err (refusal.Dag r)) l m row is = absurd row
row-unready X p held (Err (refusal.Host r)) l m row is = absurd row
row-unready X p held (Err (refusal.BadPath why)) l m row is = absurd row
row-unready X p held (Err refusal.InputTooLong) l m row is = absurd row
row-unready X p held (Err refusal.Usage) l m row is = absurd row
row-unready X p held (Err refusal.BadPins) l m row is = absurd row
row-unready X p held (Err (refusal.Ready why)) l m row is = absurd row
row-unready X p held (Err refusal.Read) l m row is = cc
row-unready X p held (Err refusal.Write) l m row is = absurd row
row-unready X p held (Err (refusal.Store f)) l m row is = store-unready f is
row-unready X p held (Err (refusal.Car number place)) l m row is = absurd row
row-unready X p held (Err (refusal.CarLacks cid)) l m row is = absurd row
row-unready X p held (Err (refusal.OwnClash cid first second)) l m row is = absurd row

-- and none where what is added is read
pub ungiven-unready : (Says : Result Tree Refusal → Type 0) (why : Refusal) → IsUngiven Says why → status_of why ≢ status.NotReady
ungiven-unready Says (refusal.Rule r) h is = cc
ungiven-unready Says (refusal.Dag r) h is = absurd h
ungiven-unready Says (refusal.Host r) h is = cc
ungiven-unready Says (refusal.BadPath p) h is = absurd h
ungiven-unready Says refusal.InputTooLong h is = absurd h
ungiven-unready Says refusal.Usage h is = absurd h
ungiven-unready Says refusal.BadPins h is = absurd h
ungiven-unready Says (refusal.Ready why) h is = absurd h
ungiven-unready Says refusal.Read h is = cc
ungiven-unready Says refusal.Write h is = absurd h
ungiven-unready Says (refusal.Store f) h is = store-unready f is
ungiven-unready Says (refusal.Car number place) h is = absurd h
ungiven-unready Says (refusal.CarLacks cid) h is = absurd h
ungiven-unready Says (refusal.OwnClash cid first second) h is = absurd h
