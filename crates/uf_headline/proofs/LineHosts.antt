-- No line of a batch asks for a command that reads the input, writes to the host, or generates a tree.
use Rattle.std.proofs.Common.{◌≡◌, ℕ, List, [], ◌∷◌, Bool, true, false, refl, subst, inl, inr, Option, None, Some, Result, Ok, Err}
use Rattle.std.specs.Prelude.{◌⊎◌, if◌then◌else◌}
use Rattle.uf_cid.specs.declared.cid.Cid.{Cid}
use Rattle.uf_path.specs.Paths.{dag_path_reads, names_a_dag, path_reads}
use Rattle.uf_path.specs.declared.faults.PathFault.{PathFault}
use Rattle.uf_path.specs.declared.path.DagPath.{DagPath}
use Rattle.uf_path.specs.declared.path.Path.{Path}
use Rattle.uf_plain.specs.declared.file.WriteHow.{WriteHow}
use Rattle.uf_command.specs.Batches.{asked_in_batch, is_for_batch, line_asks, line_in}
use Rattle.uf_command.specs.Cids.{cid_reads}
use Rattle.uf_command.specs.Commands.{add_asked, add_to_asked, adopt_asked, asked, at_path, below_asked, both_paths, cat_asked, from_to, of_command, pin_asked, prove_asked, read_asked, write_asked}
use Rattle.uf_command.specs.Natures.{generates, reads_input, writes_host}
use Rattle.uf_command.specs.Statuses.{no_memory}
use Rattle.uf_command.specs.declared.types.Ask.{Ask}
use Rattle.uf_command.specs.declared.types.Command.{Command}
use Rattle.uf_command.specs.declared.types.Edit.{Edit}
use Rattle.uf_command.specs.declared.types.Edit.TheVariants.{Cp, Mv}
use Rattle.uf_command.specs.declared.types.Refusal.{Refusal}
use Rattle.uf_command.specs.declared.types.Refusal.TheVariants as refusal
use Rattle.uf_words.specs.Commands.{command_of}
use Rattle.uf_words.specs.Lines.{line_words}
use Rattle.uf_words.specs.declared.command.Cmd.{Cmd}
use Rattle.uf_words.specs.declared.command.Cmd.TheVariants as cmd

abbrev pub Suits : Result Command Refusal → Type 0
Suits given = (of_command reads_input false given ≡ false) × (of_command writes_host false given ≡ false) × (of_command generates false given ≡ false)

refused-suits : (why : Refusal) → Suits (Err why)
refused-suits why = (refl, refl, refl)

at-suits : (ask : Ask) (r : Result Path PathFault) → Suits (at_path ask r)
at-suits ask (Ok path) = (refl, refl, refl)
at-suits ask (Err why) = (refl, refl, refl)

to-suits : (recursive : Bool) (path : List ℕ) (r : Result Path PathFault) → Suits (add_to_asked recursive (Some path) r)
to-suits recursive path (Err why) = (refl, refl, refl)
to-suits recursive path (Ok dest) = (refl, refl, refl)

add-suits : (recursive only_hash : Bool) (to : Option (List ℕ)) (path : List ℕ) → Suits (add_asked recursive only_hash to (Some path))
add-suits recursive only_hash None path = (refl, refl, refl)
add-suits recursive only_hash (Some dest) path = to-suits recursive path (path_reads dest)

write-suits : (how : WriteHow) (piece : List ℕ) (r : Result Path PathFault) → Suits (write_asked how (Some piece) r)
write-suits how piece (Ok path) = (refl, refl, refl)
write-suits how piece (Err why) = (refl, refl, refl)

read-suits : (offset count : ℕ) (r : Result Path PathFault) → Suits (read_asked offset count r)
read-suits offset count (Ok path) = (refl, refl, refl)
read-suits offset count (Err why) = (refl, refl, refl)

prove-suits : (absent : Bool) (r : Result Path PathFault) → Suits (prove_asked absent r)
prove-suits absent (Ok path) = (refl, refl, refl)
prove-suits absent (Err why) = (refl, refl, refl)

cat-suits : (r : Result DagPath PathFault) → Suits (cat_asked r)
cat-suits (Ok path) = (refl, refl, refl)
cat-suits (Err why) = (refl, refl, refl)

below-suits : (r : Result Cid PathFault) → Suits (below_asked false r)
below-suits (Ok cid) = (refl, refl, refl)
below-suits (Err why) = (refl, refl, refl)

pin-suits : (added : Bool) (r : Result Cid PathFault) → Suits (pin_asked added r)
pin-suits added (Ok cid) = (refl, refl, refl)
pin-suits added (Err why) = (refl, refl, refl)

adopt-suits : (r : Result DagPath PathFault) (s : Result Path PathFault) → Suits (adopt_asked r s)
adopt-suits (Err why) s = (refl, refl, refl)
adopt-suits (Ok source) (Err why) = (refl, refl, refl)
adopt-suits (Ok source) (Ok dest) = (refl, refl, refl)

two-suit : (edit : Path → Edit) (r s : Result Path PathFault) → Suits (from_to edit (both_paths r s))
two-suit edit (Err why) s = (refl, refl, refl)
two-suit edit (Ok source) (Err why) = (refl, refl, refl)
two-suit edit (Ok source) (Ok dest) = (refl, refl, refl)

cp-suits : (in_dag : Bool) (d : Result DagPath PathFault) (r s : Result Path PathFault)
    → Suits (if in_dag then adopt_asked d s else from_to (λ to. Cp to) (both_paths r s))
cp-suits true d r s = adopt-suits d s
cp-suits false d r s = two-suit (λ to. Cp to) r s

cmd-suits : (c : Cmd) → is_for_batch c ≡ true → Suits (asked c)
cmd-suits (cmd.Init profile) h = (refl, refl, refl)
cmd-suits (cmd.Add recursive only_hash to_files None) h = absurd cc
cmd-suits (cmd.Add recursive only_hash to_files (Some path)) h = add-suits recursive only_hash to_files path
cmd-suits (cmd.Cat target) h = cat-suits (dag_path_reads target)
cmd-suits (cmd.Get target host_path) h = absurd cc
cmd-suits (cmd.Mkdir parents path) h = at-suits _ (path_reads path)
cmd-suits (cmd.Ls long path) h = at-suits _ (path_reads path)
cmd-suits (cmd.Stat path) h = at-suits _ (path_reads path)
cmd-suits (cmd.Read offset count path) h = read-suits offset count (path_reads path)
cmd-suits (cmd.Write offset create cut None path) h = absurd cc
cmd-suits (cmd.Write offset create cut (Some piece) path) h = write-suits (record { offset = offset; create = create; cut = cut }) piece (path_reads path)
cmd-suits (cmd.Truncate path length) h = at-suits _ (path_reads path)
cmd-suits (cmd.Cp source dest) h = cp-suits (names_a_dag source) (dag_path_reads source) (path_reads source) (path_reads dest)
cmd-suits (cmd.Mv source dest) h = two-suit (λ to. Mv to) (path_reads source) (path_reads dest)
cmd-suits (cmd.Rm recursive path) h = at-suits _ (path_reads path)
cmd-suits (cmd.Export cid) h = below-suits (cid_reads cid)
cmd-suits (cmd.Same cid) h = absurd cc
cmd-suits cmd.Import h = absurd cc
cmd-suits cmd.Batch h = absurd cc
cmd-suits (cmd.Gen n seed) h = absurd cc
cmd-suits (cmd.Chmod mode path) h = at-suits _ (path_reads path)
cmd-suits (cmd.Touch nanos seconds path) h = at-suits _ (path_reads path)
cmd-suits (cmd.Strip path) h = at-suits _ (path_reads path)
cmd-suits (cmd.PinAdd cid) h = pin-suits true (cid_reads cid)
cmd-suits (cmd.PinRm cid) h = pin-suits false (cid_reads cid)
cmd-suits cmd.PinLs h = (refl, refl, refl)
cmd-suits cmd.Gc h = refused-suits refusal.Usage
cmd-suits (cmd.Prove absent path) h = prove-suits absent (path_reads path)
cmd-suits (cmd.Check absent cid path) h = refused-suits refusal.Usage
cmd-suits (cmd.Pull cid) h = refused-suits refusal.Usage
cmd-suits cmd.Serve h = refused-suits refusal.Usage

in-batch-suits : (o : Option Cmd) → Suits (asked_in_batch o)
in-batch-suits None = (refl, refl, refl)
in-batch-suits (Some c) = by (is_for_batch c) (λ h. cmd-suits c h)
  where
    by : (b : Bool) → (b ≡ true → Suits (asked c)) → Suits (if b then asked c else Err refusal.Usage)
    by true h = h refl
    by false h = (refl, refl, refl)

line-suits : (b : Bool) (words : List (List ℕ)) (given : Result Command Refusal) → line_asks b words ≡ Some given → Suits given
line-suits false words given is = subst Suits (let e : Err refusal.Usage ≡ given = cc in e) (refused-suits refusal.Usage)
line-suits true [] given is = absurd cc
line-suits true (first ∷ words) given is = subst Suits (let e : asked_in_batch (command_of (first ∷ words)) ≡ given = cc in e) (in-batch-suits (command_of (first ∷ words)))

pub asks-suits : (line : List ℕ) (given : Result Command Refusal) → (line_in line ≡ Some given) ⊎ (given ≡ Err no_memory) → Suits given
asks-suits line given (inl is) = line-suits _ (line_words line) given is
asks-suits line given (inr memory) = subst Suits (let e : Err no_memory ≡ given = cc in e) (refused-suits no_memory)

pub asks-leaves : (line : List ℕ) (given : Result Command Refusal) → (line_in line ≡ Some given) ⊎ (given ≡ Err no_memory) → of_command writes_host false given ≡ false
asks-leaves line given asks = (asks-suits line given asks).1
