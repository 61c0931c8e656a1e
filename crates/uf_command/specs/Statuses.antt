-- The statuses of commands.
use Rattle.std.specs.Prelude.{ℕ, List, [], Bool, true, false, codes}
use Rattle.std.specs.declared.result.Result.{Result}
use Rattle.std.specs.declared.result.Result.TheVariants.{Ok, Err}
use Rattle.uf_store.specs.declared.store.StoreFault.{StoreFault}
use Rattle.uf_store.specs.declared.store.StoreFault.TheVariants as fault
use Rattle.uf_command.specs.declared.status.Status.{Status}
use Rattle.uf_command.specs.declared.status.Status.TheVariants as status
use Rattle.uf_command.specs.declared.types.Refusal.{Refusal}
use Rattle.uf_command.specs.declared.types.Refusal.TheVariants as refusal

-- the exit status of the process
abbrev pub status_number : Status → ℕ
status_number status.Ok = 0
status_number status.Rule = 1
status_number status.Usage = 2
status_number status.StoreFault = 3
status_number status.Missing = 4
status_number status.BadBlock = 5
status_number status.ReadFault = 6
status_number status.WriteFault = 7
status_number status.Clash = 8
status_number status.Memory = 9
status_number status.NotReady = 10

-- the error line of a status, where it has one without details
abbrev pub plain_line : Status → List ℕ
plain_line status.Usage = codes "error: usage\n"
plain_line status.StoreFault = codes "error: store\n"
plain_line status.ReadFault = codes "error: read\n"
plain_line status.WriteFault = codes "error: write\n"
plain_line status.Memory = codes "error: memory\n"
plain_line other = []

-- the batch ends at a line with this status
abbrev pub ends_batch : Status → Bool
ends_batch status.Ok = false
ends_batch status.Rule = false
ends_batch status.Usage = false
ends_batch status.Missing = false
ends_batch status.NotReady = false
ends_batch other = true

-- what is printed after a line's command
abbrev pub mark : Status → List ℕ
mark status.Ok = codes "[0]\n"
mark status.Rule = codes "[1]\n"
mark status.Usage = codes "[2]\n"
mark status.StoreFault = codes "[3]\n"
mark status.Missing = codes "[4]\n"
mark status.BadBlock = codes "[5]\n"
mark status.ReadFault = codes "[6]\n"
mark status.WriteFault = codes "[7]\n"
mark status.Clash = codes "[8]\n"
mark status.Memory = codes "[9]\n"
mark status.NotReady = codes "[10]\n"

-- the status of a fault of the store
abbrev pub fault_status : StoreFault → Status
fault_status fault.Failed = status.StoreFault
fault_status (fault.Damaged cid) = status.StoreFault
fault_status (fault.Missing cid) = status.Missing
fault_status (fault.BadBlock cid role) = status.BadBlock
fault_status (fault.Clash cid held bytes) = status.Clash
fault_status fault.Memory = status.Memory

-- the status of a refusal
abbrev pub status_of : Refusal → Status
status_of refusal.Usage = status.Usage
status_of (refusal.Ready why) = status.NotReady
status_of refusal.BadPins = status.NotReady
status_of refusal.Read = status.ReadFault
status_of refusal.Write = status.WriteFault
status_of (refusal.Store why) = fault_status why
status_of (refusal.CarLacks cid) = status.Missing
status_of (refusal.OwnClash cid first second) = status.Clash
status_of other = status.Rule

-- how a command ends that is done or refused
abbrev pub ended : {A : Type 0} → Result A Refusal → Status
ended (Ok a) = status.Ok
ended (Err why) = status_of why

-- out of memory
abbrev pub no_memory : Refusal
no_memory = refusal.Store fault.Memory

-- the fault of a store of a command's own, which holds what it was given and doesn't fail: what is no clash is out of
-- memory
abbrev pub own_refusal : StoreFault → Refusal
own_refusal (fault.Clash cid first second) = refusal.OwnClash cid first second
own_refusal other = no_memory
