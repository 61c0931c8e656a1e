-- What a command answers over a tree that the Head names and of whose blocks some may be lost.
use Rattle.std.specs.Prelude.{◌≡◌, ◌⊎◌, ℕ, List, [], ◌++◌, length, true, false}
use Rattle.std.specs.declared.option.Option.{Option}
use Rattle.std.specs.declared.option.Option.TheVariants.{None, Some}
use Rattle.std.specs.declared.result.Result.{Result}
use Rattle.std.specs.declared.result.Result.TheVariants.{Ok, Err}
use Rattle.uf_cid.specs.Blocks.{Held}
use Rattle.uf_edge.specs.Streams as streams
use Rattle.uf_light.specs.Needs.{proof_needs}
use Rattle.uf_host.specs.Paths.{first_row, trimmed}
use Rattle.uf_mfs.specs.Missing.{put_names, spot_needs}
use Rattle.uf_mfs.specs.Reading.{range_needs, rows_with}
use Rattle.uf_path.specs.declared.path.Path.{Path}
use Rattle.uf_plain.specs.Edits.{at}
use Rattle.uf_plain.specs.Needs.{needs_at, own_needs, root_of, rows_need}
use Rattle.uf_plain.specs.declared.rule.Refused.{Refused}
use Rattle.uf_store.specs.Contents.{Told}
use Rattle.uf_store.specs.Lost.{IsLossOf}
use Rattle.uf_store.specs.declared.store.StoreFault.{StoreFault}
use Rattle.uf_tree.specs.Tree.{Dir, Entries, File, Tree}
use Rattle.uf_tree.specs.TreePlan.{blocks}
use Rattle.uf_tree.specs.declared.profile.Profile.{Profile}
use Rattle.uf_command.specs.Lines.{line_of, said}
use Rattle.uf_top.specs.Around.{Around, Said}
use Rattle.uf_top.specs.Reply.{Reply}
use Rattle.uf_command.specs.Dags.{adopted_name}
use Rattle.uf_command.specs.Statuses.{ended, status_of}
use Rattle.uf_command.specs.declared.status.Status.{Status}
use Rattle.uf_command.specs.declared.types.Ask.{Ask}
use Rattle.uf_command.specs.declared.types.Ask.TheVariants.{Ls, Stat, Edit as Edits}
use Rattle.uf_command.specs.declared.types.Command.{Command}
use Rattle.uf_command.specs.declared.types.Command.TheVariants.{WriteInput, At, Read, Adopt, Add, Prove}
use Rattle.uf_command.specs.declared.types.Adding.TheVariants as adding
use Rattle.uf_command.specs.declared.types.Refusal.{Refusal}
use Rattle.uf_command.specs.declared.types.Refusal.TheVariants as refusal
use Rattle.uf_top.specs.Endings.{EndsBy, PrintsAll}
use Rattle.uf_top.specs.Naming.{NamesAfter, StandsNamed}

-- the rows of nodes of a file that was found, where one of n bytes has rows n rows without metadata
abbrev pub rows_found : (ℕ → ℕ) → Result Tree Refused → ℕ
rows_found rows (Ok (File m bytes)) = rows_with rows m (length bytes)
rows_found rows (Ok (Dir es)) = 0
rows_found rows (Err why) = 0

-- the name of what is added: that of the last row of what the host has at a path; the input has none
abbrev pub row_name : Option (List ℕ) → Option (List ℕ)
row_name None = None
row_name (Some path) = Some (first_row (trimmed path))

module _ (X : List ℕ → List ℕ) (N : List ℕ → ℕ) where
  -- the blocks that a put of something of this name where a destination leads needs: the root block, the own blocks of
  -- each directory on the names of its spot, and the root block of what each of them leads to
  abbrev pub placing_needs : Path → Option (List ℕ) → Profile → Entries → List Held
  placing_needs dest name p es = spot_needs X N p (put_names dest name) (Dir es)

  -- the blocks that what is asked at these names needs of a tree
  abbrev pub ask_needs : Ask → List (List ℕ) → Profile → Entries → List Held
  ask_needs (Ls false) names p es = needs_at X N p (own_needs X N p) names (Dir es)
  ask_needs (Ls true) names p es = needs_at X N p (rows_need X N p) names (Dir es)
  ask_needs Stat names p es = needs_at X N p (root_of X N p) names (Dir es)
  ask_needs (Edits edit) names p es = blocks X N p (Dir es)

  -- the blocks that a range of what is at these names needs
  abbrev pub part_needs : (ℕ → ℕ) → (offset count : ℕ) → List (List ℕ) → Profile → Entries → List Held
  part_needs rows offset count names p es =
      needs_at X N p (range_needs X p (rows_found rows (at 0 names (Dir es))) offset count) names (Dir es)

  -- the blocks that a command needs of the tree that the Head names: those of what is asked, and the root block. What
  -- is missing of a DAG that is copied is in the reply
  abbrev pub command_needs : (ℕ → ℕ) → Command → Profile → Entries → List Held
  command_needs rows (Add (adding.InputTo dest)) p es = placing_needs dest None p es
  command_needs rows (Add (adding.HostTo recursive path dest)) p es = placing_needs dest (row_name (Some path)) p es
  command_needs rows (WriteInput how path) p es = root_of X N p (Dir es) ++ blocks X N p (Dir es)
  command_needs rows (At ask path) p es = root_of X N p (Dir es) ++ ask_needs ask path.names p es
  command_needs rows (Read offset count path) p es =
      root_of X N p (Dir es) ++ part_needs rows offset count path.names p es
  command_needs rows (Adopt source dest) p es = placing_needs dest (Some (adopted_name source)) p es
  command_needs rows (Prove absent path) p es = root_of X N p (Dir es)
      ++ proof_needs X N p (rows_found rows (at 0 path.names (Dir es))) absent path.names (Dir es)
  command_needs rows other p es = []

  module _ (before now : Told) where
    -- in the words below, these entries are the tree that the Head names before, of which these blocks are needed
    module _ (p : Profile) (es : Entries) (needs : List Held) where
      -- one of the needed blocks is lost, or there was no memory, and the Head still names the tree
      pub record IsLossOver {A : Type 0} (ends : Result A Refusal) : Type 0 where
        pub fault : StoreFault
        pub ends_are : ends ≡ Err (refusal.Store fault)
        pub loss : IsLossOf before needs fault
        pub stands : NamesAfter X N before now (blocks X N p (Dir es)) p es

      -- the command ends as the reply says, and the Head names the reply's tree
      pub record IsReplyOver (given : Reply) (ends : Result (List ℕ) Refusal) : Type 0 where
        pub ends_are : ends ≡ given.ends
        pub stands : StandsNamed X N before now (blocks X N p (Dir es)) given.next

      -- the answer is the reply, or a needed block is lost, or out of memory
      abbrev pub AnswersOver : Reply → Result (List ℕ) Refusal → Type 0
      AnswersOver given ends = IsLossOver ends ⊎ IsReplyOver given ends

      -- the same once it is printed
      pub record IsDoneOver (given : Reply) (done : Result (Unit {0}) Refusal) (held held_now : streams.Told)
          : Type 0 where
        pub ends : EndsBy given.ends done held held_now
        pub stands : StandsNamed X N before now (blocks X N p (Dir es)) given.next

      abbrev pub DoesOver : Reply → Result (Unit {0}) Refusal → streams.Told → streams.Told → Type 0
      DoesOver given done held held_now = IsLossOver done ⊎ IsDoneOver given done held held_now

  -- the same as `errors` tells it
  module _ (p : Profile) (es : Entries) (needs : List Held) where
    -- a lost block by the status and the line
    pub record TellsLoss (given : Status) (before now : Around) : Type 0 where
      pub fault : StoreFault
      pub loss : IsLossOf before.store.told needs fault
      pub status_is : given ≡ status_of (refusal.Store fault)
      pub says : Said before.errors now.errors (line_of (refusal.Store fault))
      pub stands : NamesAfter X N before.store.told now.store.told (blocks X N p (Dir es)) p es

    -- the status, the line and what is printed are the reply's
    pub record RepliesOver (reply : Reply) (given : Status) (before now : Around) : Type 0 where
      pub status_is : given ≡ ended reply.ends
      pub says : Said before.errors now.errors (said reply.ends)
      pub printed : PrintsAll reply.ends before.held now.held
      pub stands : StandsNamed X N before.store.told now.store.told (blocks X N p (Dir es)) reply.next

    -- the answer is the reply, or a needed block is lost, or out of memory
    abbrev pub EndsOver : Reply → Status → Around → Around → Type 0
    EndsOver reply given before now = TellsLoss given before now ⊎ RepliesOver reply given before now
