-- What is printed of what the host has at a path: its rows, or why it isn't added.
use Rattle.std.specs.Prelude.{ℕ, List}
use Rattle.std.specs.List.{flat_map}
use Rattle.uf_host.specs.HostTree.{rows_of}
use Rattle.uf_host.specs.Paths.{first_row, trimmed}
use Rattle.uf_host.specs.declared.fault.HostFault.{HostFault}
use Rattle.uf_host.specs.declared.fault.HostFault.TheVariants as fault
use Rattle.uf_host.specs.declared.import.AddedRow.{AddedRow}
use Rattle.uf_plain.specs.declared.rule.Rule.TheVariants as rule
use Rattle.uf_tree.specs.Tree.{Tree}
use Rattle.uf_tree.specs.declared.profile.Profile.{Profile}
use Rattle.uf_command.specs.Lines.{from_line}
use Rattle.uf_command.specs.Statuses.{no_memory}
use Rattle.uf_command.specs.declared.types.HostRule.TheVariants as host
use Rattle.uf_command.specs.declared.types.Refusal.{Refusal}
use Rattle.uf_command.specs.declared.types.Refusal.TheVariants as refusal

-- a row as it is printed
abbrev pub host_row : AddedRow → List ℕ
host_row row = from_line row.entry.cid row.path

-- the rows of a tree that the host has at a path
abbrev pub host_text : (List ℕ → List ℕ) → (List ℕ → ℕ) → Profile → List ℕ → Tree → List ℕ
host_text X N p path t = flat_map host_row (rows_of X N p (first_row (trimmed path)) t)

-- a fault at a path of the host, as a refusal. Of what is neither a file nor a folder and of a folder that is too deep
-- the path is that of the walk, and else the one that was given. A reading of a DAG has no part in it
abbrev pub host_refusal : List ℕ → HostFault → Refusal
host_refusal path fault.Absent = refusal.Host (host.Absent path)
host_refusal path fault.NeedsRecursive = refusal.Rule (rule.NeedsRecursive path)
host_refusal path (fault.Other there) = refusal.Host (host.Other there)
host_refusal path fault.Exists = refusal.Host (host.Exists path)
host_refusal path (fault.Name there) = refusal.Host (host.Name path)
host_refusal path (fault.TooDeep there) = refusal.Host (host.Deep there)
host_refusal path (fault.FileTooLong there) = refusal.Rule rule.FileTooLong
host_refusal path (fault.Collision first second) = refusal.Rule (rule.Collision first second)
host_refusal path fault.TooBig = refusal.Rule rule.TooBig
host_refusal path fault.Read = refusal.Read
host_refusal path fault.Write = refusal.Write
host_refusal path (fault.Dag why) = no_memory
host_refusal path (fault.Store why) = refusal.Store why
