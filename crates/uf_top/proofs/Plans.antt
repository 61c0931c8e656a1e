-- What `add` has added: blocks of the plans of what it read, and no others.
use Rattle.std.proofs.Common.{◌≡◌, ◌≢◌, ℕ, List, [], ◌∷◌, Bool, refl, sym, subst, inl, inr, append-nil, Some, None, Result, Ok, Err}
use Rattle.std.specs.Prelude.{IfSome, OnErr, OnOk}
use Rattle.uf_build.specs.Intake.{SavesOfFile}
use Rattle.uf_build.specs.declared.intake_fault.IntakeFault.{IntakeFault}
use Rattle.uf_cid.specs.Blocks.{Held}
use Rattle.uf_edge.specs.Host.{HostTold}
use Rattle.uf_edge.specs.Streams as streams
use Rattle.uf_host.specs.Adding.{IsSaid, SavesFromHost}
use Rattle.uf_host.specs.HostTree.{tree_on_host}
use Rattle.uf_host.specs.Paths.{trimmed}
use Rattle.uf_host.specs.Stopping.{HasRead, levels_of}
use Rattle.uf_host.specs.declared.fault.HostFault.{HostFault}
use Rattle.uf_host.specs.declared.import.AddedRow.{AddedRow}
use Rattle.uf_host.proofs.Stops.{reads-none}
use Rattle.uf_mfs.specs.Standing.{LeavesHead, OnlySynced, Same}
use Rattle.uf_store.specs.Among.{SavesAmong}
use Rattle.uf_store.specs.Contents.{Told, changed, with_sync}
use Rattle.uf_store.proofs.Among.{SavesAmong-refl}
use Rattle.uf_tree.specs.Tree.{Tree}
use Rattle.uf_tree.specs.TreePlan.{blocks}
use Rattle.uf_tree.specs.declared.nodes.Entry.{Entry}
use Rattle.uf_tree.specs.declared.profile.Profile.{Profile}
use Rattle.uf_command.specs.declared.status.Status.{Status}
use Rattle.uf_command.specs.declared.status.Status.TheVariants as status
use Rattle.uf_command.specs.declared.types.Refusal.{Refusal}
use Rattle.uf_top.specs.HostTexts.{host_refusal}
use Rattle.uf_top.specs.Hosted.{AddsTrees, AreReadAt, IsTreeAt}
use Rattle.uf_top.specs.Intake.{AddsFile}
use Rattle.uf_top.specs.Placing.{GivesHost}
use Rattle.uf_top.specs.declared.given.Given.{Given}
use Rattle.uf_top.proofs.Added.{left_are}

-- what was saved is made durable, or stays as it was saved
pub synced-leaves : (r : Result (List ℕ) Refusal) (m b : Told) → OnOk r (b ≡ changed with_sync m) → OnErr r (LeavesHead m b) → LeavesHead m b
synced-leaves (Ok text) m b synced failed = OnlySynced synced
synced-leaves (Err why) m b synced failed = failed

-- blocks of the file of all bytes that the input had
pub file-kept : (X : List ℕ → List ℕ) (p : Profile) (a m b : Told) (l k : streams.Told) (r : Result Entry IntakeFault) → SavesOfFile X p r a m l k → LeavesHead m b → AddsFile X p a b l
file-kept X p a m b l k (Ok e) h last =
    record { bytes = h.bytes; are_left = left_are h.bytes l k h.taken h.nothing_left; adds = record { between = m; among = h.no_other; last = last } }
file-kept X p a m b l k (Err f) h last =
    record { bytes = h.bytes; are_left = left_are h.bytes l h.rest h.taken h.nothing_left; adds = record { between = m; among = h.no_other; last = last } }

module _ (X : List ℕ → List ℕ) (N : List ℕ → ℕ) where
  tree-at : (p : Profile) (host : HostTold) (recursive : Bool) (path : List ℕ) (t : Tree) → IsSaid host (λ tree. tree_on_host X N p tree recursive path) (Ok t) → IfSome host (IsTreeAt X N p recursive path (t ∷ []))
  tree-at p None recursive path t said = tt
  tree-at p (Some host) recursive path t said = (t, said, refl)

  read-whole : (p : Profile) (host : HostTold) (recursive : Bool) (path : List ℕ) (t : Tree) → IsSaid host (λ tree. tree_on_host X N p tree recursive path) (Ok t) → IfSome host (AreReadAt X N p recursive path (t ∷ []))
  read-whole p None recursive path t said = tt
  read-whole p (Some host) recursive path t said = inl (t, said, refl)

  read-part : (p : Profile) (host : HostTold) (recursive : Bool) (path : List ℕ) (trees : List Tree) → IfSome host (λ tree. HasRead X N p tree (levels_of recursive) (trimmed path) trees) → IfSome host (AreReadAt X N p recursive path trees)
  read-part p None recursive path trees h = tt
  read-part p (Some host) recursive path trees h = inr h

  read-nothing : (p : Profile) (host : HostTold) (recursive : Bool) (path : List ℕ) → IfSome host (AreReadAt X N p recursive path [])
  read-nothing p None recursive path = tt
  read-nothing p (Some host) recursive path = inr (reads-none X N p (levels_of recursive) (trimmed path) host)

  -- nothing was added
  pub none-kept : (given : Status) (p : Profile) (a : Told) (host : HostTold) (recursive : Bool) (path : List ℕ) → given ≢ status.Ok → AddsTrees X N given p a a host recursive path
  none-kept given p a host recursive path other =
      record { trees = []; are = read-nothing p host recursive path; whole = λ is. absurd (other is); adds = record { between = a; among = SavesAmong-refl X [] a; last = Same refl } }

  -- blocks of the tree that the host has, and where it was refused of what was read of it
  pub rows-kept : (p : Profile) (a m b : Told) (host : HostTold) (recursive : Bool) (path : List ℕ) (r : Result (List AddedRow) HostFault) (g : Result Given Refusal) (given : Status) → GivesHost path r g
      → ((why : Refusal) → g ≡ Err why → given ≢ status.Ok) → SavesFromHost X N p a m host recursive path r → LeavesHead m b → AddsTrees X N given p a b host recursive path
  rows-kept p a m b host recursive path (Ok rows) g given gives other h last = record {
    trees = h.0 ∷ [];
    are = read-whole p host recursive path h.0 h.2;
    whole = λ is. tree-at p host recursive path h.0 h.2;
    adds = record { between = m; among = subst (λ (l : List Held). SavesAmong X l a m) (sym (append-nil (blocks X N p h.0))) h.3; last = last };
  }
  rows-kept p a m b host recursive path (Err f) (Ok v) given gives other h last = absurd (let e : ◌≡◌ {A = Result Given Refusal} (Ok v) (Err (host_refusal path f)) = gives in cc)
  rows-kept p a m b host recursive path (Err f) (Err why) given gives other h last = record {
    trees = h.read;
    are = read-part p host recursive path h.read h.are;
    whole = λ is. absurd (other why refl is);
    adds = record { between = m; among = h.no_other; last = last };
  }
