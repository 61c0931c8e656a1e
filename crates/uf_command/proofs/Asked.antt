-- Why words are refused.
use Rattle.std.proofs.Common.{ℕ, List, Bool, true, false, refl, Option, Some, None, Result, Ok, Err}
use Rattle.std.specs.Prelude.{if◌then◌else◌, ⊤}
use Rattle.uf_cid.specs.declared.cid.Cid.{Cid}
use Rattle.uf_path.specs.Paths.{dag_path_reads, names_a_dag, path_reads}
use Rattle.uf_path.specs.declared.faults.PathFault.{PathFault}
use Rattle.uf_path.specs.declared.faults.PathFault.TheVariants as path
use Rattle.uf_path.specs.declared.path.DagPath.{DagPath}
use Rattle.uf_path.specs.declared.path.Path.{Path}
use Rattle.uf_words.specs.declared.command.Cmd.{Cmd}
use Rattle.uf_words.specs.declared.command.Cmd.TheVariants as cmd
use Rattle.uf_plain.specs.declared.file.WriteHow.{WriteHow}
use Rattle.uf_command.specs.declared.types.Ask.{Ask}
use Rattle.uf_command.specs.declared.types.Edit.{Edit}
use Rattle.uf_command.specs.declared.types.Edit.TheVariants.{Cp, Mv}
use Rattle.uf_command.specs.Cids.{cid_reads}
use Rattle.uf_command.specs.Commands.{IsOfWords, add_asked, add_to_asked, adopt_asked, asked, at_path, both_paths, below_asked, cat_asked, from_to, get_asked, path_refusal, pin_asked, prove_asked, read_asked, write_asked}
use Rattle.uf_command.specs.Requests.{check_asked, pull_asked, request_of}
use Rattle.uf_command.specs.declared.requests.Request.{Request}
use Rattle.uf_command.specs.declared.requests.Request.TheVariants.{One}

at-only : (ask : Ask) (r : Result Path PathFault) → IsOfWords (at_path ask r)
at-only ask (Ok path) = tt
at-only ask (Err path.NotAbsolute) = refl
at-only ask (Err (path.BadName place)) = refl
at-only ask (Err path.TooLong) = refl
at-only ask (Err (path.BadCid why)) = refl
at-only ask (Err path.Memory) = refl

add-to-only : (recursive : Bool) (host_path : Option (List ℕ)) (r : Result Path PathFault) → IsOfWords (add_to_asked recursive host_path r)
add-to-only recursive None (Ok dest) = tt
add-to-only recursive (Some path) (Ok dest) = tt
add-to-only recursive host_path (Err path.NotAbsolute) = refl
add-to-only recursive host_path (Err (path.BadName place)) = refl
add-to-only recursive host_path (Err path.TooLong) = refl
add-to-only recursive host_path (Err (path.BadCid why)) = refl
add-to-only recursive host_path (Err path.Memory) = refl

add-only : (recursive only_hash : Bool) (to_files host_path : Option (List ℕ)) → IsOfWords (add_asked recursive only_hash to_files host_path)
add-only recursive only_hash None None = tt
add-only recursive only_hash None (Some path) = tt
add-only recursive only_hash (Some dest) host_path = add-to-only recursive host_path (path_reads dest)

read-only : (offset count : ℕ) (r : Result Path PathFault) → IsOfWords (read_asked offset count r)
read-only offset count (Ok path) = tt
read-only offset count (Err path.NotAbsolute) = refl
read-only offset count (Err (path.BadName place)) = refl
read-only offset count (Err path.TooLong) = refl
read-only offset count (Err (path.BadCid why)) = refl
read-only offset count (Err path.Memory) = refl

prove-only : (absent : Bool) (r : Result Path PathFault) → IsOfWords (prove_asked absent r)
prove-only absent (Ok path) = tt
prove-only absent (Err path.NotAbsolute) = refl
prove-only absent (Err (path.BadName place)) = refl
prove-only absent (Err path.TooLong) = refl
prove-only absent (Err (path.BadCid why)) = refl
prove-only absent (Err path.Memory) = refl

cat-only : (r : Result DagPath PathFault) → IsOfWords (cat_asked r)
cat-only (Ok path) = tt
cat-only (Err path.NotAbsolute) = refl
cat-only (Err (path.BadName place)) = refl
cat-only (Err path.TooLong) = refl
cat-only (Err (path.BadCid why)) = refl
cat-only (Err path.Memory) = refl

get-only : (host_path : List ℕ) (r : Result DagPath PathFault) → IsOfWords (get_asked r host_path)
get-only host_path (Ok path) = tt
get-only host_path (Err path.NotAbsolute) = refl
get-only host_path (Err (path.BadName place)) = refl
get-only host_path (Err path.TooLong) = refl
get-only host_path (Err (path.BadCid why)) = refl
get-only host_path (Err path.Memory) = refl

below-only : (compared : Bool) (r : Result Cid PathFault) → IsOfWords (below_asked compared r)
below-only compared (Ok cid) = tt
below-only compared (Err path.NotAbsolute) = refl
below-only compared (Err (path.BadName place)) = refl
below-only compared (Err path.TooLong) = refl
below-only compared (Err (path.BadCid why)) = refl
below-only compared (Err path.Memory) = refl

pin-only : (added : Bool) (r : Result Cid PathFault) → IsOfWords (pin_asked added r)
pin-only added (Ok cid) = tt
pin-only added (Err path.NotAbsolute) = refl
pin-only added (Err (path.BadName place)) = refl
pin-only added (Err path.TooLong) = refl
pin-only added (Err (path.BadCid why)) = refl
pin-only added (Err path.Memory) = refl

write-only : (how : WriteHow) (hex : Option (List ℕ)) (r : Result Path PathFault) → IsOfWords (write_asked how hex r)
write-only how None (Ok path) = tt
write-only how None (Err path.NotAbsolute) = refl
write-only how None (Err (path.BadName place)) = refl
write-only how None (Err path.TooLong) = refl
write-only how None (Err (path.BadCid why)) = refl
write-only how None (Err path.Memory) = refl
write-only how (Some piece) r = at-only _ r

bad-only : (edit : Path → Edit) (why : PathFault) → IsOfWords (from_to edit (Err (path_refusal why)))
bad-only edit path.NotAbsolute = refl
bad-only edit (path.BadName place) = refl
bad-only edit path.TooLong = refl
bad-only edit (path.BadCid why) = refl
bad-only edit path.Memory = refl

from-to-only : (edit : Path → Edit) (r s : Result Path PathFault) → IsOfWords (from_to edit (both_paths r s))
from-to-only edit (Ok source) (Ok dest) = tt
from-to-only edit (Ok source) (Err why) = bad-only edit why
from-to-only edit (Err why) s = bad-only edit why

adopt-bad : (why : PathFault) → IsOfWords (Err (path_refusal why))
adopt-bad path.NotAbsolute = refl
adopt-bad (path.BadName place) = refl
adopt-bad path.TooLong = refl
adopt-bad (path.BadCid why) = refl
adopt-bad path.Memory = refl

adopt-only : (r : Result DagPath PathFault) (s : Result Path PathFault) → IsOfWords (adopt_asked r s)
adopt-only (Ok source) (Ok dest) = tt
adopt-only (Ok source) (Err why) = adopt-bad why
adopt-only (Err why) s = adopt-bad why

cp-only : (in_dag : Bool) (d : Result DagPath PathFault) (r s : Result Path PathFault)
    → IsOfWords (if in_dag then adopt_asked d s else from_to (λ to. Cp to) (both_paths r s))
cp-only true d r s = adopt-only d s
cp-only false d r s = from-to-only (λ to. Cp to) r s

-- words are refused as no command, by a path, or never
pub cmd-only : (c : Cmd) → IsOfWords (asked c)
cmd-only (cmd.Init profile) = tt
cmd-only (cmd.Add recursive only_hash to_files host_path) = add-only recursive only_hash to_files host_path
cmd-only (cmd.Cat target) = cat-only (dag_path_reads target)
cmd-only (cmd.Get target host_path) = get-only host_path (dag_path_reads target)
cmd-only (cmd.Mkdir parents path) = at-only _ (path_reads path)
cmd-only (cmd.Ls long path) = at-only _ (path_reads path)
cmd-only (cmd.Stat path) = at-only _ (path_reads path)
cmd-only (cmd.Read offset count path) = read-only offset count (path_reads path)
cmd-only (cmd.Write offset create cut hex path) = write-only (record { offset = offset; create = create; cut = cut }) hex (path_reads path)
cmd-only (cmd.Truncate path length) = at-only _ (path_reads path)
cmd-only (cmd.Cp source dest) = cp-only (names_a_dag source) (dag_path_reads source) (path_reads source) (path_reads dest)
cmd-only (cmd.Mv source dest) = from-to-only (λ to. Mv to) (path_reads source) (path_reads dest)
cmd-only (cmd.Rm recursive path) = at-only _ (path_reads path)
cmd-only (cmd.Export cid) = below-only false (cid_reads cid)
cmd-only (cmd.Same cid) = below-only true (cid_reads cid)
cmd-only cmd.Import = tt
cmd-only cmd.Batch = refl
cmd-only (cmd.Gen n seed) = tt
cmd-only (cmd.Chmod mode path) = at-only _ (path_reads path)
cmd-only (cmd.Touch nanos seconds path) = at-only _ (path_reads path)
cmd-only (cmd.Strip path) = at-only _ (path_reads path)
cmd-only (cmd.PinAdd cid) = pin-only true (cid_reads cid)
cmd-only (cmd.PinRm cid) = pin-only false (cid_reads cid)
cmd-only cmd.PinLs = tt
cmd-only cmd.Gc = refl
cmd-only (cmd.Prove absent path) = prove-only absent (path_reads path)
cmd-only (cmd.Check absent cid path) = refl
cmd-only (cmd.Pull cid) = refl
cmd-only cmd.Serve = refl

-- where words ask for one command, they are refused as none, by a path, or never
abbrev pub IsOfWordsAlone : Request → Type 0
IsOfWordsAlone (One told) = IsOfWords told
IsOfWordsAlone other = ⊤

pull-only : (r : Result Cid PathFault) → IsOfWordsAlone (pull_asked r)
pull-only (Ok cid) = tt
pull-only (Err why) = adopt-bad why

check-only : (absent : Bool) (r : Result Cid PathFault) (s : Result Path PathFault) → IsOfWordsAlone (check_asked absent r s)
check-only absent (Ok cid) (Ok path) = tt
check-only absent (Ok cid) (Err why) = adopt-bad why
check-only absent (Err why) s = adopt-bad why

pub words-only : (o : Option Cmd) → IsOfWordsAlone (request_of o)
words-only None = refl
words-only (Some cmd.Batch) = tt
words-only (Some (cmd.Pull cid)) = pull-only (cid_reads cid)
words-only (Some cmd.Serve) = tt
words-only (Some cmd.Gc) = tt
words-only (Some (cmd.Check absent cid path)) = check-only absent (cid_reads cid) (path_reads path)
words-only (Some other) = cmd-only other
