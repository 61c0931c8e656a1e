-- An edit as words ask for it: the tree after it, the touches that it may need, and how it is done to a tree in memory.
use Rattle.std.specs.Prelude.{◌≡◌, ◌⊎◌, ℕ, ◌+◌, ◌*◌, List, [], length, true, ⊤}
use Rattle.std.specs.declared.result.Result.{Result}
use Rattle.uf_cid.specs.Blocks.{Held}
use Rattle.uf_cid.specs.declared.cid.Cid.{Cid}
use Rattle.uf_command.specs.Commands.{has_nothing_to_do}
use Rattle.uf_command.specs.declared.types.Edit.{Edit}
use Rattle.uf_command.specs.declared.types.Edit.TheVariants.{Mkdir, Rm, Write, Truncate, Cp, Mv, SetMeta}
use Rattle.uf_edge.specs.Counts.{Stood}
use Rattle.uf_fileread.specs.Bad.{IsBadRoot}
use Rattle.uf_mfs.specs.Answers.{ShownInTree}
use Rattle.uf_mfs.specs.Moving.{Gives, MovesBy, copy_bound, move_bound}
use Rattle.uf_mfs.specs.Reading.{AreHeights}
use Rattle.uf_mfs.specs.Saving.{SavesForEdit, moved_blocks, next_blocks, removed_blocks}
use Rattle.uf_mfs.specs.Showing.{KeepsMfs}
use Rattle.uf_mfs.specs.Standing.{StandsAt, StandsOver}
use Rattle.uf_mfs.specs.Steps.{tree_fault}
use Rattle.uf_mfs.specs.Touches.{CountsUp, TouchesFolder, touch_bound, weighing_at, where_done}
use Rattle.uf_mfs.specs.Writes.{IsBadWrittenIn, fitting_edit, writing_bound}
use Rattle.uf_mfs.specs.declared.fault.MfsFault.{MfsFault}
use Rattle.uf_mfs.specs.declared.fault.MfsFault.TheVariants as mfs
use Rattle.uf_mfs.specs.declared.mfs.Mfs.{Mfs}
use Rattle.uf_path.specs.declared.path.Path.{Path}
use Rattle.uf_plain.specs.Edits.{made, removed}
use Rattle.uf_plain.specs.Files.{truncated, written}
use Rattle.uf_plain.specs.Metas.{meta_edited}
use Rattle.uf_plain.specs.Moves.{allowed_move, carried, copied, told_of}
use Rattle.uf_plain.specs.Rules.{allowed}
use Rattle.uf_plain.specs.declared.file.FileEdit.TheVariants as file
use Rattle.uf_plain.specs.declared.rule.Rule.{Rule}
use Rattle.uf_store.specs.Calls.{Calm}
use Rattle.uf_store.specs.Contents.{Told}
use Rattle.uf_store.specs.Keeping.{KeepsGood}
use Rattle.uf_store.specs.Seen.{Seen}
use Rattle.uf_store.specs.Writing.{SavesOnly}
use Rattle.uf_store.specs.declared.store.Role.{Role}
use Rattle.uf_tree.specs.Tree.{Entries}
use Rattle.uf_tree.specs.declared.profile.Profile.{Profile}

-- the faults of calls on an opened tree: such a tree is ready, and nothing is printed there
abbrev pub IsTreeFault : MfsFault → Type 0
IsTreeFault (mfs.Rule rule) = ⊤
IsTreeFault (mfs.Ready why) = ⊥
IsTreeFault mfs.Sink = ⊥
IsTreeFault (mfs.Store fault) = ⊤

-- the block isn't canonical in the tree with this root, in a file that is edited, or as the root of a file whose
-- metadata is changed
abbrev pub IsBadAsked : (List ℕ → List ℕ) → (List ℕ → ℕ) → Profile → Told → Cid → Role → List ℕ → Type 0
IsBadAsked X N p told root role bytes = IsBadWrittenIn X N p told root role bytes ⊎ IsBadRoot role bytes

module _ (X : List ℕ → List ℕ) (N : List ℕ → ℕ) where
  -- the tree after an edit, unless a rule refuses it: an edited tree has to have a plan, and what is taken away leaves
  -- one
  abbrev pub edited_by : Edit → List (List ℕ) → Profile → Entries → Result Entries Rule
  edited_by (Mkdir parents) names p es = told_of names (allowed X N p (made parents names es))
  edited_by (Rm recursive) names p es = told_of names (removed recursive names es)
  edited_by (Write how piece) names p es = told_of names (allowed X N p (written how piece names es))
  edited_by (Truncate size) names p es = told_of names (allowed X N p (truncated size names es))
  edited_by (Cp dest) names p es = allowed_move X N p (copied names dest es)
  edited_by (Mv dest) names p es = allowed_move X N p (carried names dest es)
  edited_by (SetMeta what) names p es = told_of names (allowed X N p (meta_edited what names es))

  -- the blocks that an edit at these names may save: those of the tree that it gives, before its plan is looked at, and
  -- those that it makes in between
  abbrev pub edited_blocks : Edit → List (List ℕ) → Profile → Entries → List Held
  edited_blocks (Mkdir parents) names p es = next_blocks X N p (made parents names es)
  edited_blocks (Rm recursive) names p es = removed_blocks X N p recursive names es
  edited_blocks (Write how piece) names p es = next_blocks X N p (fitting_edit p (file.Write how) piece names es)
  edited_blocks (Truncate size) names p es = next_blocks X N p (fitting_edit p (file.Truncate size) [] names es)
  edited_blocks (Cp dest) names p es = next_blocks X N p (copied names dest es)
  edited_blocks (Mv dest) names p es = moved_blocks X N p names es (carried names dest es)
  edited_blocks (SetMeta what) names p es = next_blocks X N p (meta_edited what names es)

-- a file of n bytes has rows n rows of nodes
module _ (X : List ℕ → List ℕ) (N : List ℕ → ℕ) (rows : ℕ → ℕ) where
  -- the most touches of an edit at these names: those of the names alone where a rule refuses it before its plan is
  -- looked at
  abbrev pub touches_of_edit : Edit → List (List ℕ) → Profile → Entries → ℕ
  touches_of_edit (Mkdir parents) names p es = touch_bound X N p names es (made parents names es)
  touches_of_edit (Rm recursive) names p es =
      let next = removed recursive names es in
      touch_bound X N p names es next + where_done next (weighing_at X N p names es)
  touches_of_edit (Write how piece) names p es = writing_bound X N p rows (file.Write how) piece names es
  touches_of_edit (Truncate size) names p es = writing_bound X N p rows (file.Truncate size) [] names es
  touches_of_edit (Cp dest) names p es = copy_bound X N p names dest es
  touches_of_edit (Mv dest) names p es = move_bound X N p names dest es
  touches_of_edit (SetMeta what) names p es = 64 * (length names + 3)

module _ (X : List ℕ → List ℕ) (N : List ℕ → ℕ) where
  -- how the tree in memory was edited at a path, before that is committed
  pub record EditsInMemory (tree next : Mfs) (edit : Edit) (path : Path) (done : Result Unit MfsFault)
      (before now : Seen) (was is : ℕ) : Type 0 where
    pub answers : (p : Profile) (es : Entries) → StandsAt X N before.told tree p es → Calm before now
        → Gives (λ fs done. StandsAt X N now.told next p fs) (edited_by X N edit path.names p es) done
    pub lost : MovesBy X N before now tree next (λ p es. edited_by X N edit path.names p es) done
    pub idle : (p : Profile) (es : Entries) → StandsOver X N before.told tree p es
        → Stood before.faults now.faults → has_nothing_to_do edit path.names es ≡ true
        → (now.told ≡ before.told) × (next ≡ tree)
    pub cause : ShownInTree X (IsBadAsked X N tree.profile now.told tree.root.cid) done before now
    pub touches : (p : Profile) (rows : ℕ → ℕ) → tree.profile ≡ p → AreHeights p rows
        → TouchesFolder X N p before now [] tree.root (λ es. touches_of_edit X N rows edit path.names p es) was is
    pub touched : CountsUp (tree_fault done) was is
    pub stays : KeepsMfs tree next done
    pub good : KeepsGood X before.told now.told
    pub saves : SavesOnly X before.told now.told
    pub no_other : SavesForEdit X N before now tree (edited_blocks X N edit path.names)
