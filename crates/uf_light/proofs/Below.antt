-- What an accepted CAR shows of its root.
use Rattle.std.proofs.Common.{◌≡◌, ℕ, List, [], ◌∷◌, Bool, true, false, Option, Some, Result, Ok, Err, subst, sym, ◌∙◌}
use Rattle.std.proofs.lemmas.List.Elements.{All-contains, All-from_recursion}
use Rattle.std.specs.Prelude.{Contains, IfOk}
use Rattle.uf_car.specs.Clashing.{sections_held}
use Rattle.uf_car.specs.Exporting.{WritesAll}
use Rattle.uf_cid.specs.Blocks.{Held}
use Rattle.uf_cid.specs.declared.cid.Cid.{Cid}
use Rattle.uf_edge.specs.Streams.{Told as SinkTold}
use Rattle.uf_store.specs.Contents.{Told}
use Rattle.uf_store.specs.Keeping.{Holds}
use Rattle.uf_store.specs.declared.store.StoreFault.{StoreFault}
use Rattle.uf_tree.specs.declared.nodes.Entry.{Entry}
use Rattle.uf_light.specs.Below.{HasDirectory, HasNames, IsAboveNames, IsDirectoryAmong, IsSeenAs, MayEnd}
use Rattle.uf_light.specs.Met.{wanted_of}
use Rattle.uf_light.specs.Sections.{sections_told}
use Rattle.uf_light.specs.Sending.{SendsAbsent}
use Rattle.uf_light.specs.declared.fault.LightFault.{LightFault}
use Rattle.uf_light.specs.declared.fault.LightFault.TheVariants as fault
use Rattle.uf_light.specs.declared.met.PathEnd.{PathEnd}
use Rattle.uf_light.specs.declared.met.PathEnd.TheVariants.{There, Nothing, Behind}
use Rattle.uf_light.specs.declared.thing.TypedEntry.{TypedEntry}
use Rattle.uf_light.specs.declared.thing.TypedEntry.TheVariants.{File as FileAt, Folder as FolderAt}
use Rattle.uf_light.proofs.Saving.{section-of}

-- ---- where a path may end

pub ends-at : (thing : TypedEntry) (names : List (List ℕ)) (met : PathEnd) → [] ≡ names → MayEnd thing names met
ends-at thing names met none = subst (λ (l : List (List ℕ)). MayEnd thing l met) none (by thing)
  where
    by : (thing : TypedEntry) → MayEnd thing [] met
    by (FolderAt e) = tt
    by (FileAt e) = tt

pub ends-below : (thing : TypedEntry) (e : Entry) (names : List (List ℕ)) (r : Result PathEnd StoreFault) → thing ≡ FolderAt e → IfOk r (MayEnd thing names)
ends-below thing e names r is = subst (λ (x : TypedEntry). IfOk r (MayEnd x names)) (sym is) (by r)
  where
    by : (r : Result PathEnd StoreFault) → IfOk r (MayEnd (FolderAt e) names)
    by (Ok met) = tt
    by (Err f) = tt

-- ---- what is written

-- nothing is to be there: then no file is
pub none-absent : (met : PathEnd) (e : Entry) → ◌≡◌ {A = Result (Option Entry) LightFault} (wanted_of true met) (Ok (Some e)) → ⊥
none-absent (There thing) e is = cc
none-absent (Nothing place) e is = cc
none-absent (Behind place) e is = cc

pub line-sent : (text : List ℕ) (r : Result ℕ LightFault) (out out_now : SinkTold) → SendsAbsent text r out out_now → IfOk r (λ n. WritesAll text n out out_now)
line-sent text (Ok n) out out_now h = h
line-sent text (Err f) out out_now h = tt

pub if-ok : {P : Type 0} (r : Result ℕ LightFault) → P → IfOk r (λ n. P)
if-ok (Ok n) h = h
if-ok (Err f) h = tt

module _ (X : List ℕ → List ℕ) (told : Told) (root : Cid) where
  -- what is written of a path with names begins at a directory
  pub follows : (absent : Bool) (thing : TypedEntry) (names : List (List ℕ)) (met : PathEnd) (o : Option Entry) → IsSeenAs X told root thing → MayEnd thing names met
      → ◌≡◌ {A = Result (Option Entry) LightFault} (wanted_of absent met) (Ok o) → HasNames X told root names
  follows absent thing [] met o seen ends is = tt
  follows absent (FolderAt e) (name ∷ names) met o seen ends is = seen
  follows absent (FileAt e) (name ∷ names) (There thing) o seen ends is = absurd ends
  follows absent (FileAt e) (name ∷ names) (Nothing place) o seen ends is = absurd ends
  follows true (FileAt e) (name ∷ names) (Behind place) o seen ends is = absurd (let no : ◌≡◌ {A = Result (Option Entry) LightFault} (Err (fault.NotADirectory place)) (Ok o) = is in cc)
  follows false (FileAt e) (name ∷ names) (Behind place) o seen ends is = absurd (let no : ◌≡◌ {A = Result (Option Entry) LightFault} (Err (fault.NotADirectory place)) (Ok o) = is in cc)

-- ---- the sections

module _ (X : List ℕ → List ℕ) (root : Cid) (sections : List Held) (all : Holds (sections_told sections) sections) where
  abbrev IsHeld : Held → Type 0
  IsHeld b = sections_held sections b.0 ≡ Some b.1

  -- a section's block is held under its CID
  held-there : (bytes : List ℕ) → Contains sections (root, bytes) → IsHeld (root, bytes)
  held-there bytes there = All-contains IsHeld sections (root, bytes) (All-from_recursion IsHeld sections all) there

  among : (d : HasDirectory X (sections_told sections) root) → IsDirectoryAmong X root sections
  among d = record {
    block = d.0;
    there = section-of sections root d.0 d.1.is_held;
    digest = d.1.digest;
    canonical = d.1.canonical;
    only = λ other there. (let e : Some other ≡ Some d.0 = sym (held-there other there) ∙ d.1.is_held in cc);
  }

  pub above-names : (names : List (List ℕ)) → HasNames X (sections_told sections) root names → IsAboveNames X root names sections
  above-names [] has = tt
  above-names (name ∷ names) has = among has
