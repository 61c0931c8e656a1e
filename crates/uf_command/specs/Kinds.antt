-- The kinds of refusals, and which of them commands may answer.
use Rattle.std.specs.Prelude.{◌≡◌, ◌==◌, ℕ, Bool, true, false, List, [], ◌∷◌, ⊤}
use Rattle.std.specs.List.{list_any}
use Rattle.std.specs.declared.option.Option.{Option}
use Rattle.std.specs.declared.option.Option.TheVariants.{None, Some}
use Rattle.std.specs.declared.result.Result.{Result}
use Rattle.std.specs.declared.result.Result.TheVariants.{Ok, Err}
use Rattle.uf_store.specs.declared.store.StoreFault.{StoreFault}
use Rattle.uf_store.specs.declared.store.StoreFault.TheVariants as fault
use Rattle.uf_command.specs.declared.types.Refusal.{Refusal}
use Rattle.uf_command.specs.declared.types.Refusal.TheVariants as refusal

-- the kinds of refusals. A damaged block is a failure of the store, the sections of a CAR may lack a block, blocks may
-- clash in a store of the command's own, and the note of pins may be none that is read
pub data RefusalKind : Type 0 where
  OfRule OfDag OfHost OfPath OfLongInput OfUsage OfReady OfRead OfWrite OfFailure OfMissing OfBadBlock OfClash OfMemory
      OfCar OfSections OfOwnClash OfPins : RefusalKind

-- its place among them, by which two are compared
abbrev pub place_of : RefusalKind → ℕ
place_of OfRule = 0
place_of OfDag = 1
place_of OfHost = 2
place_of OfPath = 3
place_of OfLongInput = 4
place_of OfUsage = 5
place_of OfReady = 6
place_of OfRead = 7
place_of OfWrite = 8
place_of OfFailure = 9
place_of OfMissing = 10
place_of OfBadBlock = 11
place_of OfClash = 12
place_of OfMemory = 13
place_of OfCar = 14
place_of OfSections = 15
place_of OfOwnClash = 16
place_of OfPins = 17

-- the kind is one of these
abbrev pub is_among : RefusalKind → List RefusalKind → Bool
is_among kind kinds = list_any (λ other. place_of other == place_of kind) kinds

-- the kind of a fault of the store
abbrev pub fault_kind : StoreFault → RefusalKind
fault_kind fault.Failed = OfFailure
fault_kind (fault.Damaged cid) = OfFailure
fault_kind (fault.Missing cid) = OfMissing
fault_kind (fault.BadBlock cid role) = OfBadBlock
fault_kind (fault.Clash cid held bytes) = OfClash
fault_kind fault.Memory = OfMemory

-- the kind of a refusal
abbrev pub refusal_kind : Refusal → RefusalKind
refusal_kind (refusal.Rule rule) = OfRule
refusal_kind (refusal.Dag rule) = OfDag
refusal_kind (refusal.Host rule) = OfHost
refusal_kind (refusal.BadPath why) = OfPath
refusal_kind refusal.InputTooLong = OfLongInput
refusal_kind refusal.Usage = OfUsage
refusal_kind (refusal.Ready why) = OfReady
refusal_kind refusal.BadPins = OfPins
refusal_kind refusal.Read = OfRead
refusal_kind refusal.Write = OfWrite
refusal_kind (refusal.Store fault) = fault_kind fault
refusal_kind (refusal.Car number place) = OfCar
refusal_kind (refusal.CarLacks cid) = OfSections
refusal_kind (refusal.OwnClash cid first second) = OfOwnClash

-- the store's fault in a refusal
abbrev pub fault_behind : Refusal → Option StoreFault
fault_behind (refusal.Store fault) = Some fault
fault_behind why = None

-- the store's fault in an answer
abbrev pub refusal_fault : {A : Type 0} → Result A Refusal → Option StoreFault
refusal_fault (Ok a) = None
refusal_fault (Err why) = fault_behind why

-- the kinds that a command may answer once its words are read, before it prints, beside out of memory and a clash: of
-- `init`; `add` of the input, and of what a host has; `add --to-files` of either; `files write` of the input; the other
-- commands on the tree alone; `cat` and `dag export`; `get`; `dag import`; `dag same`; `files cp` from a DAG; `gen`;
-- `pin add`; `pin rm`; and `pin ls`
abbrev pub init_kinds : List RefusalKind
init_kinds = OfReady ∷ OfFailure ∷ []

abbrev pub add_kinds : List RefusalKind
add_kinds = OfRule ∷ OfReady ∷ OfRead ∷ OfFailure ∷ []

abbrev pub add_host_kinds : List RefusalKind
add_host_kinds = OfRule ∷ OfHost ∷ OfReady ∷ OfRead ∷ OfFailure ∷ []

abbrev pub place_kinds : List RefusalKind
place_kinds = OfRule ∷ OfReady ∷ OfRead ∷ OfFailure ∷ OfMissing ∷ OfBadBlock ∷ []

abbrev pub place_host_kinds : List RefusalKind
place_host_kinds = OfRule ∷ OfHost ∷ OfReady ∷ OfRead ∷ OfFailure ∷ OfMissing ∷ OfBadBlock ∷ []

abbrev pub write_input_kinds : List RefusalKind
write_input_kinds = OfRule ∷ OfLongInput ∷ OfReady ∷ OfRead ∷ OfFailure ∷ OfMissing ∷ OfBadBlock ∷ []

abbrev pub tree_kinds : List RefusalKind
tree_kinds = OfRule ∷ OfReady ∷ OfFailure ∷ OfMissing ∷ OfBadBlock ∷ []

abbrev pub dag_kinds : List RefusalKind
dag_kinds = OfDag ∷ OfFailure ∷ OfMissing ∷ []

abbrev pub get_kinds : List RefusalKind
get_kinds = OfDag ∷ OfHost ∷ OfRead ∷ OfFailure ∷ OfMissing ∷ []

abbrev pub import_kinds : List RefusalKind
import_kinds = OfCar ∷ OfRead ∷ OfFailure ∷ []

abbrev pub same_kinds : List RefusalKind
same_kinds = OfDag ∷ OfCar ∷ OfRead ∷ OfFailure ∷ OfMissing ∷ OfSections ∷ OfOwnClash ∷ []

abbrev pub adopt_kinds : List RefusalKind
adopt_kinds = OfRule ∷ OfDag ∷ OfReady ∷ OfFailure ∷ OfMissing ∷ OfBadBlock ∷ []

abbrev pub gen_kinds : List RefusalKind
gen_kinds = OfRule ∷ OfOwnClash ∷ []

abbrev pub pin_add_kinds : List RefusalKind
pin_add_kinds = OfDag ∷ OfPins ∷ OfFailure ∷ OfMissing ∷ []

abbrev pub pin_rm_kinds : List RefusalKind
pin_rm_kinds = OfDag ∷ OfPins ∷ OfFailure ∷ []

abbrev pub pin_ls_kinds : List RefusalKind
pin_ls_kinds = OfPins ∷ OfFailure ∷ []

-- one of these kinds, out of memory or a clash: what calls on a store may answer
abbrev pub may_meet : List RefusalKind → RefusalKind → Bool
may_meet kinds OfMemory = true
may_meet kinds OfClash = true
may_meet kinds kind = is_among kind kinds

-- the same when something was printed or written to the host: that may have failed
abbrev pub may_close : List RefusalKind → RefusalKind → Bool
may_close kinds OfWrite = true
may_close kinds kind = may_meet kinds kind

-- the same of a command whose tree is opened: that is ready
abbrev pub opened_kinds : RefusalKind → Bool
opened_kinds OfReady = false
opened_kinds kind = may_meet tree_kinds kind

-- the kinds that words may be refused by
abbrev pub word_kinds : RefusalKind → Bool
word_kinds OfPath = true
word_kinds OfUsage = true
word_kinds OfMemory = true
word_kinds kind = false

-- a failed reading alone
abbrev pub read_kind : RefusalKind → Bool
read_kind OfRead = true
read_kind kind = false

-- a failed writing alone
abbrev pub write_kind : RefusalKind → Bool
write_kind OfWrite = true
write_kind kind = false

-- the answer is a refusal of one of these kinds
abbrev pub is_of : {A : Type 0} → (RefusalKind → Bool) → Result A Refusal → Bool
is_of kinds (Ok a) = false
is_of kinds (Err why) = kinds (refusal_kind why)

-- a refusal is of one of these kinds
abbrev pub IsOf : {A : Type 0} → (RefusalKind → Bool) → Result A Refusal → Type 0
IsOf kinds (Ok a) = ⊤
IsOf kinds (Err why) = kinds (refusal_kind why) ≡ true
