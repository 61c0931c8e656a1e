-- Refusals by the plain tree.
use Rattle.std.proofs.Common.{◌≡◌, ℕ, List, refl, subst, Bool, true, false, Option, Some, None, Result, Ok, Err}
use Rattle.uf_cid.specs.Blocks.{Held}
use Rattle.uf_edge.specs.Streams.{Told as SinkTold}
use Rattle.uf_store.specs.Contents.{Told}
use Rattle.uf_tree.specs.declared.nodes.Entry.{Entry}
use Rattle.uf_light.specs.declared.fault.LightFault.{LightFault}
use Rattle.uf_light.specs.declared.fault.LightFault.TheVariants as fault
use Rattle.uf_light.specs.declared.met.PathEnd.{PathEnd}
use Rattle.uf_light.specs.declared.met.PathEnd.TheVariants.{There, Nothing, Behind}
use Rattle.uf_light.specs.declared.thing.TypedEntry.TheVariants.{File as FileAt, Folder as FolderAt}
use Rattle.uf_light.specs.Answers.{Accepts, is_light_sink, light_fault}
use Rattle.uf_light.specs.Met.{wanted_of}
use Rattle.uf_light.specs.Proving.{FindsLight}
use Rattle.uf_light.specs.Sending.{IsNoCar}

-- the fault is one that the plain tree gives
abbrev pub IsPlain : LightFault → Type 0
IsPlain (fault.NotFound k) = Unit {0}
IsPlain (fault.NotADirectory k) = Unit {0}
IsPlain fault.IsADirectory = Unit {0}
IsPlain fault.Exists = Unit {0}
IsPlain f = ⊥

none-here : {P : Type 0} (a : Option Entry) (f : LightFault) → ◌≡◌ {A = Result (Option Entry) LightFault} (Ok a) (Err f) → P
none-here a f e = absurd (let no : ◌≡◌ {A = Result (Option Entry) LightFault} (Ok a) (Err f) = e in cc)

raised : (g f : LightFault) → IsPlain g → ◌≡◌ {A = Result (Option Entry) LightFault} (Err g) (Err f) → IsPlain f
raised g f plain e = subst IsPlain (let same : g ≡ f = cc in same) plain

pub plain-of : (absent : Bool) (met : PathEnd) (f : LightFault) → wanted_of absent met ≡ Err f → IsPlain f
plain-of true (There thing) f e = raised fault.Exists f tt e
plain-of false (There (FileAt x)) f e = none-here (Some x) f e
plain-of false (There (FolderAt x)) f e = raised fault.IsADirectory f tt e
plain-of true (Nothing place) f e = none-here None f e
plain-of false (Nothing place) f e = raised (fault.NotFound place) f tt e
plain-of true (Behind place) f e = raised (fault.NotADirectory place) f tt e
plain-of false (Behind place) f e = raised (fault.NotADirectory place) f tt e

module _ (A : Type 0) where
  pub plain-store : (f : LightFault) → IsPlain f → light_fault {A = A} (Err f) ≡ None
  plain-store (fault.NotFound k) h = refl
  plain-store (fault.NotADirectory k) h = refl
  plain-store fault.IsADirectory h = refl
  plain-store fault.Exists h = refl
  plain-store (fault.OtherRoot c) h = refl
  plain-store (fault.Car f) h = refl
  plain-store fault.Sink h = refl
  plain-store (fault.Store f) h = absurd h

  pub plain-sink : (f : LightFault) → IsPlain f → is_light_sink {A = A} (Err f) ≡ false
  plain-sink (fault.NotFound k) h = refl
  plain-sink (fault.NotADirectory k) h = refl
  plain-sink fault.IsADirectory h = refl
  plain-sink fault.Exists h = refl
  plain-sink (fault.OtherRoot c) h = refl
  plain-sink (fault.Car f) h = refl
  plain-sink fault.Sink h = absurd h
  plain-sink (fault.Store f) h = refl

pub plain-behind : (f : LightFault) → IsPlain f → IsNoCar f
plain-behind (fault.NotFound k) h = tt
plain-behind (fault.NotADirectory k) h = tt
plain-behind fault.IsADirectory h = tt
plain-behind fault.Exists h = tt
plain-behind (fault.OtherRoot c) h = absurd h
plain-behind (fault.Car f) h = absurd h
plain-behind fault.Sink h = tt
plain-behind (fault.Store f) h = absurd h

module _ (told : Told) (said : Result (List ℕ) LightFault) (out out_now : SinkTold) where
  pub plain-accepts : (l : List Held) (f : LightFault) → IsPlain f → said ≡ Err f → Accepts told l said (Err f) out out_now
  plain-accepts l (fault.NotFound k) h is = is
  plain-accepts l (fault.NotADirectory k) h is = is
  plain-accepts l fault.IsADirectory h is = is
  plain-accepts l fault.Exists h is = is
  plain-accepts l (fault.OtherRoot c) h is = absurd h
  plain-accepts l (fault.Car f) h is = absurd h
  plain-accepts l fault.Sink h is = absurd h
  plain-accepts l (fault.Store f) h is = absurd h

  pub plain-finds : (plan blocks : List Held) (f : LightFault) → IsPlain f → said ≡ Err f → FindsLight told plan blocks said (Err f)
  plain-finds plan blocks (fault.NotFound k) h is = is
  plain-finds plan blocks (fault.NotADirectory k) h is = is
  plain-finds plan blocks fault.IsADirectory h is = is
  plain-finds plan blocks fault.Exists h is = is
  plain-finds plan blocks (fault.OtherRoot c) h is = absurd h
  plain-finds plan blocks (fault.Car f) h is = absurd h
  plain-finds plan blocks fault.Sink h is = absurd h
  plain-finds plan blocks (fault.Store f) h is = absurd h
