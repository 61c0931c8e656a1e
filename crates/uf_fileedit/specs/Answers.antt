-- What an edit of a file answers.
use Rattle.std.specs.Prelude.{◌≡◌, ℕ, List, Bool, true, false, ⊤}
use Rattle.std.specs.declared.result.Result.{Result}
use Rattle.std.specs.declared.result.Result.TheVariants.{Ok, Err}
use Rattle.uf_build.specs.declared.fault.BuildFault.{BuildFault}
use Rattle.uf_build.specs.declared.fault.BuildFault.TheVariants.{FileTooLong, Spent, Store}
use Rattle.uf_cid.specs.Blocks.{Held}
use Rattle.uf_store.specs.Contents.{Told}
use Rattle.uf_store.specs.Faults.{Shows, StaysCalm}
use Rattle.uf_store.specs.Lost.{IsLossOf}
use Rattle.uf_store.specs.Seen.{Seen}
use Rattle.uf_store.specs.declared.store.Role.{Role}
use Rattle.uf_tree.specs.declared.nodes.Entry.{Entry}

-- the file would be too long exactly where that is so
abbrev pub RefusesTooLong : Bool → Result Entry BuildFault → Type 0
RefusesTooLong long (Ok e) = long ≡ false
RefusesTooLong long (Err FileTooLong) = long ≡ true
RefusesTooLong long (Err Spent) = ⊥
RefusesTooLong long (Err (Store fault)) = long ≡ false

-- the answer is this entry, or one of these blocks that isn't held is missing; out of memory is free, and of a file
-- that would be too long nothing is said here
abbrev pub EditsOver : Told → List Held → Entry → Result Entry BuildFault → Type 0
EditsOver told l entry (Ok e) = e ≡ entry
EditsOver told l entry (Err FileTooLong) = ⊤
EditsOver told l entry (Err Spent) = ⊥
EditsOver told l entry (Err (Store fault)) = IsLossOf told l fault

-- no fault was passed over: after Ok the store has stayed calm, its own fault shows the cause, and before any other
-- answer it was left alone
abbrev pub ShownEdit : (List ℕ → List ℕ) → (Role → List ℕ → Type 0) → Result Entry BuildFault → Seen → Seen → Type 0
ShownEdit hash IsBadEdited (Ok e) before now = StaysCalm before now
ShownEdit hash IsBadEdited (Err FileTooLong) before now = now ≡ before
ShownEdit hash IsBadEdited (Err Spent) before now = now ≡ before
ShownEdit hash IsBadEdited (Err (Store fault)) before now = Shows hash IsBadEdited fault before now
