-- The generated tree as it is made on a store of its own, and what is printed of it.
use Rattle.std.specs.Prelude.{◌≡◌, ℕ, ◌%◌, ◌==◌, List, ◌++◌, length, codes, ⊤, None, Some, false, if◌then◌else◌}
use Rattle.std.specs.Fmt.{decimal}
use Rattle.std.specs.declared.option.Option.{Option}
use Rattle.std.specs.declared.result.Result.{Result}
use Rattle.std.specs.declared.result.Result.TheVariants.{Ok, Err}
use Rattle.uf_cid.specs.Blocks.{IsClash}
use Rattle.uf_cid.specs.Cid.{cid_text}
use Rattle.uf_cid.specs.declared.cid.Cid.{Cid}
use Rattle.uf_gen.specs.Fresh.{left_tree}
use Rattle.uf_gen.specs.Grown.{grown, left_files, left_size, making, writing_at}
use Rattle.uf_gen.specs.Rules.{first_bytes, late_offset, late_piece}
use Rattle.uf_gen.specs.declared.step.Step.{Step}
use Rattle.uf_gen.specs.declared.step.Step.TheVariants.{Make, Change}
use Rattle.uf_mfs.specs.Standing.{IsPlanOf, StandsAt}
use Rattle.uf_mfs.specs.declared.fault.MfsFault.{MfsFault}
use Rattle.uf_mfs.specs.declared.fault.MfsFault.TheVariants as fault
use Rattle.uf_mfs.specs.declared.mfs.Mfs.{Mfs}
use Rattle.uf_plain.specs.declared.rule.Rule.{Rule}
use Rattle.uf_shard.specs.declared.fault.DirFault.{DirFault}
use Rattle.uf_shard.specs.declared.fault.DirFault.TheVariants as dir
use Rattle.uf_store.specs.Contents.{Contents, Told, held_at}
use Rattle.uf_store.specs.Seen.{Seen}
use Rattle.uf_store.specs.declared.store.StoreFault.{StoreFault}
use Rattle.uf_store.specs.declared.store.StoreFault.TheVariants as store
use Rattle.uf_tree.specs.Tree.{Dir, Entries}
use Rattle.uf_tree.specs.TreePlan.{entry}
use Rattle.uf_tree.specs.declared.nodes.Entry.{Entry}
use Rattle.uf_tree.specs.declared.profile.Profile.{Profile}
use Rattle.uf_command.specs.Lines.{line}
use Rattle.uf_command.specs.Statuses.{own_refusal}
use Rattle.uf_command.specs.declared.types.Edit.{Edit}
use Rattle.uf_command.specs.declared.types.Edit.TheVariants.{Rm, Write}
use Rattle.uf_command.specs.declared.types.Refusal.{Refusal}
use Rattle.uf_command.specs.declared.types.Refusal.TheVariants as refusal

-- the profile of the generated tree
abbrev pub small_profile : Profile
small_profile = record { chunk = 4096; width = 174; threshold = 4096 }

-- the five lines: how many files are left, their bytes, the root's Tsize, the root, and the root built afresh
abbrev pub generated_lines : (n seed : ℕ) → Entry → Cid → List ℕ
generated_lines n seed root fresh =
    line (codes "names ") (decimal (length (left_files seed n)))
    ++ line (codes "bytes ") (decimal (left_size seed n))
    ++ line (codes "cumulative ") (decimal root.tsize)
    ++ line (codes "root ") (cid_text root.cid)
    ++ line (codes "fresh ") (cid_text fresh)

-- the edit of a step: a file is made; then each third is removed, and into the one after it a byte is written
abbrev pub step_edit : Step → (seed i : ℕ) → Option Edit
step_edit Make seed i = Some (Write making (first_bytes seed i))
step_edit Change seed i =
    if i % 3 == 0 then Some (Rm false)
    else (if i % 3 == 1 then Some (Write (writing_at (late_offset seed i)) late_piece) else None)

-- the fault of a call over a store of the generator's own, as a refusal
abbrev pub RefusesOwn : MfsFault → Refusal → Type 0
RefusesOwn (fault.Rule rule) why = why ≡ refusal.Rule rule
RefusesOwn (fault.Ready ready) why = ⊥
RefusesOwn fault.Sink why = ⊥
RefusesOwn (fault.Store f) why = why ≡ own_refusal f

-- a directory isn't built for the store's own fault
abbrev pub IsOfStore : DirFault → Type 0
IsOfStore (dir.Collision first second) = ⊥
IsOfStore dir.TooBig = ⊥
IsOfStore (dir.Store f) = ⊤

-- that fault over such a store, as a refusal
abbrev pub RefusesFresh : DirFault → Refusal → Type 0
RefusesFresh (dir.Collision first second) why = ⊥
RefusesFresh dir.TooBig why = ⊥
RefusesFresh (dir.Store f) why = why ≡ own_refusal f

module _ (X : List ℕ → List ℕ) where
  -- two different blocks have one digest, which this CID has
  pub record TwoGenerated (cid : Cid) (first second : List ℕ) : Type 0 where
    pub clash : IsClash X first second
    pub digest : X first ≡ cid.digest

  -- a clash is of two such blocks
  abbrev pub IsShownClash : StoreFault → Type 0
  IsShownClash (store.Clash cid held bytes) = TwoGenerated cid held bytes
  IsShownClash other = ⊤

  -- the store tells, and each block that it holds has its CID's digest
  pub record TellsDigests (told : Told) : Type 0 where
    pub contents : Contents
    pub tells : told ≡ Some contents
    pub digests : (cid : Cid) (bytes : List ℕ) → held_at contents cid ≡ Some bytes → X bytes ≡ cid.digest

module _ (X : List ℕ → List ℕ) (N : List ℕ → ℕ) where
  -- the tree in memory stands for these entries, over a store that never failed or met a clash
  pub record StandsCalm (es : Entries) (seen : Seen) (tree : Mfs) : Type 0 where
    pub stands : StandsAt X N seen.told tree small_profile es
    pub faults : seen.faults ≡ 0
    pub clashes : seen.clashes ≡ 0
    pub digests : TellsDigests X seen.told

  -- so it stands for what steps make, none of which a rule refused
  abbrev pub StandsFor : Result Entries Rule → Seen → Mfs → Type 0
  StandsFor (Ok es) seen tree = StandsCalm es seen tree
  StandsFor (Err rule) seen tree = ⊥

  -- steps were made: the tree in memory stands for what they make, or a rule refuses that, or the store's own fault
  -- came
  abbrev pub Grows : Result Entries Rule → Seen → Mfs → Result Unit MfsFault → Type 0
  Grows made seen tree (Ok done) = StandsFor made seen tree
  Grows made seen tree (Err (fault.Rule rule)) = made ≡ Err rule
  Grows made seen tree (Err (fault.Ready why)) = ⊥
  Grows made seen tree (Err fault.Sink) = ⊥
  Grows made seen tree (Err (fault.Store f)) = IsShownClash X f

  -- the root is that of the tree that all steps make, or a rule refuses one of them, or the store's own fault came
  abbrev pub GrowsRoot : (n seed : ℕ) → Result Entry MfsFault → Type 0
  GrowsRoot n seed (Ok root) = (es : Entries) × (grown X N small_profile seed n ≡ Ok es)
      × IsPlanOf X N small_profile root (Dir es)
  GrowsRoot n seed (Err (fault.Rule rule)) = grown X N small_profile seed n ≡ Err rule
  GrowsRoot n seed (Err (fault.Ready why)) = ⊥
  GrowsRoot n seed (Err fault.Sink) = ⊥
  GrowsRoot n seed (Err (fault.Store f)) = IsShownClash X f

  -- the lines of the tree of these entries
  abbrev pub generated_text : (n seed : ℕ) → Entries → List ℕ
  generated_text n seed es =
      generated_lines n seed (entry X N small_profile (Dir es)) (entry X N small_profile (left_tree seed n)).cid

  -- what is said of what the steps make
  abbrev pub growth_told : (n seed : ℕ) → Result Entries Rule → Result (List ℕ) Refusal
  growth_told n seed (Ok es) = Ok (generated_text n seed es)
  growth_told n seed (Err rule) = Err (refusal.Rule rule)

  -- the lines of the tree that the steps make, or the rule that refuses the first of them
  abbrev pub generated_ends : (n seed : ℕ) → Result (List ℕ) Refusal
  generated_ends n seed = growth_told n seed (grown X N small_profile seed n)

  -- so a tree is generated, unless two blocks clash in a store of its own, or there was no memory
  abbrev pub IsGenerated : (n seed : ℕ) → Result (List ℕ) Refusal → Type 0
  IsGenerated n seed (Ok text) = Ok text ≡ generated_ends n seed
  IsGenerated n seed (Err (refusal.Rule rule)) = Err (refusal.Rule rule) ≡ generated_ends n seed
  IsGenerated n seed (Err (refusal.OwnClash cid first second)) = TwoGenerated X cid first second
  IsGenerated n seed (Err (refusal.Store f)) = f ≡ store.Memory
  IsGenerated n seed (Err why) = ⊥
