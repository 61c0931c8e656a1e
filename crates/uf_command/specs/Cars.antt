-- CARs in commands (CARv1): why one isn't read or written, as a refusal, and what is printed of one.
use Rattle.std.specs.Prelude.{ℕ, ◌^◌, List, codes}
use Rattle.std.specs.List.{flat_map}
use Rattle.std.specs.declared.result.Result.{Result}
use Rattle.std.specs.declared.result.Result.TheVariants.{Ok, Err}
use Rattle.uf_car.specs.Text.{car_text}
use Rattle.uf_car.specs.declared.fault.CarFault.{CarFault}
use Rattle.uf_car.specs.declared.fault.CarFault.TheVariants as car
use Rattle.uf_car.specs.declared.fault.ExportFault.{ExportFault}
use Rattle.uf_car.specs.declared.fault.ExportFault.TheVariants as export
use Rattle.uf_cid.specs.Blocks.{Lookup}
use Rattle.uf_cid.specs.Cid.{cid_text}
use Rattle.uf_cid.specs.declared.cid.Cid.{Cid}
use Rattle.uf_store.specs.declared.store.StoreFault.{StoreFault}
use Rattle.uf_store.specs.declared.store.StoreFault.TheVariants as store
use Rattle.uf_walk.specs.Order.{OrderFault, OverMost, Missing, NotDagPb}
use Rattle.uf_command.specs.Lines.{line}
use Rattle.uf_command.specs.Statuses.{own_refusal}
use Rattle.uf_command.specs.declared.types.DagRule.TheVariants as rule
use Rattle.uf_command.specs.declared.types.Refusal.{Refusal}
use Rattle.uf_command.specs.declared.types.Refusal.TheVariants as refusal

-- the greatest number of blocks of which a CAR is written
abbrev pub most_blocks : ℕ
most_blocks = 16777216

-- and is read up to n bytes
abbrev pub most_car : ℕ
most_car = 2 ^ 40

-- why a CAR isn't read: the number of its fault, and the byte with which the header or the section begins, or 0
abbrev pub car_refusal : CarFault → Refusal
car_refusal (car.Truncated place) = refusal.Car 1 place
car_refusal car.Header = refusal.Car 2 0
car_refusal (car.Version version) = refusal.Car 3 0
car_refusal (car.BadCid place) = refusal.Car 4 place
car_refusal (car.WrongDigest place cid) = refusal.Car 5 place
car_refusal (car.TooBigBlock place size) = refusal.Car 6 place
car_refusal (car.TooManyRoots count) = refusal.Car 7 0
car_refusal (car.BadLength place) = refusal.Car 8 place
car_refusal car.TooLong = refusal.Car 9 0
car_refusal car.Read = refusal.Read
car_refusal (car.Store fault) = refusal.Store fault

-- the fault of a store that was made for a CAR: its sections lack a block, or two of them have one CID and other
-- bytes; it fails only out of memory
abbrev pub section_refusal : StoreFault → Refusal
section_refusal (store.Missing cid) = refusal.CarLacks cid
section_refusal other = own_refusal other

-- why a CAR isn't written
abbrev pub export_refusal : ExportFault → Refusal
export_refusal export.Sink = refusal.Write
export_refusal (export.NotDagPb cid why) = refusal.Dag (rule.NotUnixfs cid why)
export_refusal export.TooMany = refusal.Dag rule.TooMany
export_refusal (export.Store fault) = refusal.Store fault

-- why there is no order below a root, as a refusal
abbrev pub order_refusal : OrderFault → Refusal
order_refusal OverMost = refusal.Dag rule.TooMany
order_refusal (Missing cid) = refusal.Store (store.Missing cid)
order_refusal (NotDagPb cid why) = refusal.Dag (rule.NotUnixfs cid why)

-- the CAR of the blocks in an order, or why there is none
abbrev pub car_of : Lookup → Cid → Result (List Cid) OrderFault → Result (List ℕ) Refusal
car_of held root (Ok list) = Ok (car_text held root list)
car_of held root (Err why) = Err (order_refusal why)

-- a root of a CAR
abbrev pub root_line : Cid → List ℕ
root_line cid = line (codes "root ") (cid_text cid)

-- the roots of a CAR, each in a line, or why it isn't read
abbrev pub roots_told : Result (List Cid) CarFault → Result (List ℕ) Refusal
roots_told (Ok roots) = Ok (flat_map root_line roots)
roots_told (Err why) = Err (car_refusal why)
