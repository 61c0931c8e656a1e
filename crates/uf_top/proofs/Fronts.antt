-- What a command has added of what it read, told by another status.
use Rattle.std.proofs.Common.{◌≢◌, ℕ, List, [], ◌∷◌, Bool, true, false, arith, refl, inl, inr, Some, None}
use Rattle.uf_cid.specs.Blocks.{Held}
use Rattle.uf_edge.specs.Host.{HostTold}
use Rattle.uf_edge.specs.Streams as streams
use Rattle.uf_mfs.specs.Standing.{Same}
use Rattle.uf_command.specs.declared.status.Status.{Status}
use Rattle.uf_command.specs.declared.status.Status.TheVariants as status
use Rattle.uf_command.specs.declared.types.Command.{Command}
use Rattle.uf_command.specs.declared.types.Command.TheVariants.{Init, Add, WriteInput, At, Read, Cat, Get, Export, Import, Same as SameCar, Adopt, Gen, Pin, Prove}
use Rattle.uf_command.specs.declared.types.Adding.TheVariants as adding
use Rattle.uf_store.specs.Contents.{Told}
use Rattle.uf_store.specs.Seen.{Seen}
use Rattle.uf_store.proofs.Writing.{Wrote-refl}
use Rattle.uf_tree.specs.Metas.{none}
use Rattle.uf_tree.specs.Tree.{Dir, File, Nothing}
use Rattle.uf_tree.specs.TreePlan.{blocks}
use Rattle.uf_command.specs.Dags.{tree_at}
use Rattle.uf_top.specs.Cars.{AddsFront, KeepsFront}
use Rattle.uf_top.specs.Endings.{KeptFor}
use Rattle.uf_top.specs.Hosted.{KeepsTrees}
use Rattle.uf_top.specs.Reply.{added_spot}
use Rattle.uf_top.specs.Saving.{IsNoOther, KeepsHosted, KeepsPut, adopted_blocks, asked_blocks, put_blocks}
use Rattle.uf_top.proofs.Saved.{no-other-same, nothing-written}
use Rattle.uf_host.proofs.Stops.{reads-none}
use Rattle.uf_host.specs.Paths.{trimmed}
use Rattle.uf_host.specs.Stopping.{levels_of}
use Rattle.uf_path.specs.declared.path.Path.{Path}

-- where nothing was added, none of these were
none-added : (sections : List Held) (given : Status) (told : Told) → given ≢ status.Rule → AddsFront sections given told told
none-added sections given None other = record { count = 0; few = search arith; added = Same refl; all = λ is. absurd (other is) }
none-added sections given (Some t) other = record { count = 0; few = search arith; added = Same refl; all = λ is. absurd (other is) }

module _ (X : List ℕ → List ℕ) where
  none-kept : (given : Status) (told : Told) (left : streams.Told) → given ≢ status.Rule → KeepsFront X given told told left
  none-kept given told None other = tt
  none-kept given told (Some bytes) other = none-added _ given told other

  front-by : (s given : Status) (told now : Told) (left : streams.Told) → given ≢ status.Rule → KeepsFront X s told now left → KeepsFront X given told now left
  front-by s given told now None other k = tt
  front-by s given told now (Some bytes) other k = record { count = k.count; few = k.few; added = k.added; all = λ is. absurd (other is) }

  module _ (N : List ℕ → ℕ) where
    nothing-put : (dest : Path) (a : Seen) (left : streams.Told) → KeepsPut X N a a dest left
    nothing-put dest a None = tt
    nothing-put dest a (Some bytes) = λ p es named can. no-other-same X (put_blocks X N (added_spot dest None es) (File none bytes ∷ []) p es) a.told a.told refl

    nothing-hosted : (recursive : Bool) (path : List ℕ) (dest : Path) (a : Seen) (host : HostTold) → KeepsHosted X N a a recursive path dest host
    nothing-hosted recursive path dest a None = tt
    nothing-hosted recursive path dest a (Some h) = λ p es named can.
        ([], inr (reads-none X N p (levels_of recursive) (trimmed path) h), no-other-same X (put_blocks X N (added_spot dest (Some path) es) [] p es) a.told a.told refl)

    -- of a command that has added nothing
    pub nothing-kept : (command : Command) (given : Status) (a : Seen) (host : HostTold) (left : streams.Told) → given ≢ status.Rule → KeptFor X N command given a a host left
    nothing-kept (Init p) given a host left other = Wrote-refl X (IsNoOther (blocks X N p (Dir (Nothing none)))) a.told
    nothing-kept (Add (adding.Input true)) given a host left other = tt
    nothing-kept (Add (adding.Input false)) given a host left other = inl refl
    nothing-kept (Add (adding.Host recursive true path)) given a host left other = tt
    nothing-kept (Add (adding.Host recursive false path)) given a host left other = inl refl
    nothing-kept (Add (adding.InputTo dest)) given a host left other = nothing-put dest a left
    nothing-kept (Add (adding.HostTo recursive path dest)) given a host left other = nothing-hosted recursive path dest a host
    nothing-kept (WriteInput how path) given a host left other = nothing-written X N how path.names a a left refl
    nothing-kept (At ask path) given a host left other = λ p es named can. Wrote-refl X (IsNoOther (asked_blocks X N ask path.names p es)) a.told
    nothing-kept (Read offset count path) given a host left other = tt
    nothing-kept (Prove absent path) given a host left other = tt
    nothing-kept (Cat path) given a host left other = tt
    nothing-kept (Get path host_path) given a host left other = tt
    nothing-kept (Export cid) given a host left other = tt
    nothing-kept Import given a host left other = none-kept given a.told left other
    nothing-kept (SameCar cid) given a host left other = tt
    nothing-kept (Adopt source dest) given a host left other = λ held tells p es named can.
        Wrote-refl X (IsNoOther (adopted_blocks X N (tree_at held source) source dest p es)) a.told
    nothing-kept (Gen n seed) given a host left other = tt
    nothing-kept (Pin ask) given a host left other = tt

    trees-by : (s given : Status) (told now : Told) (host : HostTold) → (recursive : Bool) (path : List ℕ) → given ≢ status.Ok → KeepsTrees X N s told now host recursive path → KeepsTrees X N given told now host recursive path
    trees-by s given told now host recursive path other (inl same) = inl same
    trees-by s given told now host recursive path other (inr h) = inr (h.0, h.1, record { trees = h.2.trees; are = h.2.are; whole = λ is. absurd (other is); adds = h.2.adds })

    -- by another status than Ok, and than that of a rule
    pub kept-by : (command : Command) (s given : Status) (a b : Seen) (host : HostTold) (left : streams.Told) → given ≢ status.Rule → given ≢ status.Ok → KeptFor X N command s a b host left → KeptFor X N command given a b host left
    kept-by (Init p) s given a b host left other undone k = k
    kept-by (Add (adding.Input true)) s given a b host left other undone k = tt
    kept-by (Add (adding.Input false)) s given a b host left other undone k = k
    kept-by (Add (adding.Host recursive true path)) s given a b host left other undone k = tt
    kept-by (Add (adding.Host recursive false path)) s given a b host left other undone k = trees-by s given a.told b.told host recursive path undone k
    kept-by (Add (adding.InputTo dest)) s given a b host left other undone k = k
    kept-by (Add (adding.HostTo recursive path dest)) s given a b host left other undone k = k
    kept-by (WriteInput how path) s given a b host left other undone k = k
    kept-by (At ask path) s given a b host left other undone k = k
    kept-by (Read offset count path) s given a b host left other undone k = tt
    kept-by (Prove absent path) s given a b host left other undone k = tt
    kept-by (Cat path) s given a b host left other undone k = tt
    kept-by (Get path host_path) s given a b host left other undone k = tt
    kept-by (Export cid) s given a b host left other undone k = tt
    kept-by Import s given a b host left other undone k = front-by s given a.told b.told left other k
    kept-by (SameCar cid) s given a b host left other undone k = tt
    kept-by (Adopt source dest) s given a b host left other undone k = k
    kept-by (Gen n seed) s given a b host left other undone k = tt
    kept-by (Pin ask) s given a b host left other undone k = tt
