-- What is to be shown of what a path leads to.
use Rattle.std.proofs.Common.{◌≡◌, ℕ, ◌+◌, ◌-◌, List, [], refl, ap, arith, ◌∙◌, subst, Bool, true, false, Option, Some, None, Result, Ok, Err}
use Rattle.uf_store.specs.Contents.{Told}
use Rattle.uf_tree.specs.declared.meta.Meta.{Meta}
use Rattle.uf_tree.specs.declared.nodes.Entry.{Entry}
use Rattle.uf_tree.specs.declared.profile.Profile.{Profile}
use Rattle.uf_tree.specs.Tree.{Tree, File, Dir}
use Rattle.uf_plain.specs.declared.rule.Refused.{Refused}
use Rattle.uf_plain.specs.declared.rule.Refused.TheVariants as why
use Rattle.uf_light.specs.declared.fault.LightFault.{LightFault}
use Rattle.uf_light.specs.declared.fault.LightFault.TheVariants as fault
use Rattle.uf_light.specs.declared.met.PathEnd.{PathEnd}
use Rattle.uf_light.specs.declared.met.PathEnd.TheVariants.{There, Nothing, Behind}
use Rattle.uf_light.specs.declared.thing.TypedEntry.TheVariants.{File as FileAt, Folder as FolderAt}
use Rattle.uf_light.specs.Light.{absent_text, file_blocks, light_says}
use Rattle.uf_light.specs.Met.{wanted_of}
use Rattle.uf_light.specs.Standing.{IsAgreedAt, IsMet}

module _ (X : List ℕ → List ℕ) (N : List ℕ → ℕ) (told : Told) (p : Profile) (names : List (List ℕ)) where
  -- a file is to be shown
  pub record IsFileWanted (absent : Bool) (w : Result Tree Refused) (e : Entry) : Type 0 where
    pub meta : Meta
    pub bytes : List ℕ
    pub is : w ≡ Ok (File meta bytes)
    pub agreed : IsAgreedAt X N told p e.cid (File meta bytes)
    pub says : light_says absent names w ≡ Ok bytes

  -- or that nothing is there
  pub record IsNoneWanted (absent : Bool) (w : Result Tree Refused) : Type 0 where
    pub says : light_says absent names w ≡ Ok (absent_text names)
    pub no_file : (height : ℕ) → file_blocks X N p height w ≡ []

  abbrev pub IsWanted : Bool → Result Tree Refused → Option Entry → Type 0
  IsWanted absent w (Some e) = IsFileWanted absent w e
  IsWanted absent w None = IsNoneWanted absent w

  file-wanted : (m : Meta) (bytes : List ℕ) (e : Entry) → IsAgreedAt X N told p e.cid (File m bytes) → IsFileWanted false (Ok (File m bytes)) e
  file-wanted m bytes e h = record { meta = m; bytes = bytes; is = refl; agreed = h; says = refl }

  none-wanted : (place : ℕ) (w : Refused) → w ≡ why.NotFound (place + 1) → IsNoneWanted true (Err w)
  none-wanted place w is = record { says = ap (λ (w : Refused). light_says true names (Err w)) is; no_file = λ height. refl }

  pub wanted-ok : (absent : Bool) (w : Result Tree Refused) (met : PathEnd) (o : Option Entry) → IsMet X N told p w met → wanted_of absent met ≡ Ok o → IsWanted absent w o
  wanted-ok true w (There thing) o h is = absurd (let no : ◌≡◌ {A = Result (Option Entry) LightFault} (Err fault.Exists) (Ok o) = is in cc)
  wanted-ok false (Ok (File m bytes)) (There (FileAt e)) o h is = subst (IsWanted false (Ok (File m bytes))) (let same : Some e ≡ o = cc in same) (file-wanted m bytes e h)
  wanted-ok false (Ok (File m bytes)) (There (FolderAt e)) o h is = absurd h
  wanted-ok false (Ok (Dir es)) (There (FileAt e)) o h is = absurd h
  wanted-ok false (Ok (Dir es)) (There (FolderAt e)) o h is = absurd (let no : ◌≡◌ {A = Result (Option Entry) LightFault} (Err fault.IsADirectory) (Ok o) = is in cc)
  wanted-ok false (Err why) (There thing) o h is = absurd h
  wanted-ok true (Ok t) (Nothing place) o h is = absurd h
  wanted-ok true (Err why) (Nothing place) o h is = subst (IsWanted true (Err why)) (let same : ◌≡◌ {A = Option Entry} None o = cc in same) (none-wanted place why h)
  wanted-ok false w (Nothing place) o h is = absurd (let no : ◌≡◌ {A = Result (Option Entry) LightFault} (Err (fault.NotFound place)) (Ok o) = is in cc)
  wanted-ok true w (Behind place) o h is = absurd (let no : ◌≡◌ {A = Result (Option Entry) LightFault} (Err (fault.NotADirectory place)) (Ok o) = is in cc)
  wanted-ok false w (Behind place) o h is = absurd (let no : ◌≡◌ {A = Result (Option Entry) LightFault} (Err (fault.NotADirectory place)) (Ok o) = is in cc)

  raised : (f g : LightFault) → ◌≡◌ {A = Result (Option Entry) LightFault} (Err f) (Err g) → f ≡ g
  raised f g e = cc

  err-of : (f g : LightFault) → ◌≡◌ {A = Result (Option Entry) LightFault} (Err f) (Err g) → ◌≡◌ {A = Result (List ℕ) LightFault} (Err f) (Err g)
  err-of f g e = ap (λ (f : LightFault). Err f) (raised f g e)

  -- and where nothing is, the plain tree says why
  pub wanted-err : (absent : Bool) (w : Result Tree Refused) (met : PathEnd) (f : LightFault) → IsMet X N told p w met → wanted_of absent met ≡ Err f → light_says absent names w ≡ Err f
  wanted-err true (Ok t) (There thing) f h is = err-of fault.Exists f is
  wanted-err true (Err why) (There thing) f h is = absurd h
  wanted-err false (Ok (File m bytes)) (There (FileAt e)) f h is = absurd (let no : ◌≡◌ {A = Result (Option Entry) LightFault} (Ok (Some e)) (Err f) = is in cc)
  wanted-err false (Ok (File m bytes)) (There (FolderAt e)) f h is = absurd h
  wanted-err false (Ok (Dir es)) (There (FileAt e)) f h is = absurd h
  wanted-err false (Ok (Dir es)) (There (FolderAt e)) f h is = err-of fault.IsADirectory f is
  wanted-err false (Err why) (There thing) f h is = absurd h
  wanted-err true w (Nothing place) f h is = absurd (let no : ◌≡◌ {A = Result (Option Entry) LightFault} (Ok None) (Err f) = is in cc)
  wanted-err false (Ok t) (Nothing place) f h is = absurd h
  wanted-err false (Err why) (Nothing place) f h is =
      ap (λ (w : Refused). light_says false names (Err w)) h
      ∙ ap (λ (n : ℕ). Err (fault.NotFound n)) (let same : place + 1 - 1 ≡ place = omega arith in same) ∙ err-of (fault.NotFound place) f is
  wanted-err true (Ok t) (Behind place) f h is = absurd h
  wanted-err true (Err why) (Behind place) f h is = ap (λ (w : Refused). light_says true names (Err w)) h ∙ err-of (fault.NotADirectory place) f is
  wanted-err false (Ok t) (Behind place) f h is = absurd h
  wanted-err false (Err why) (Behind place) f h is = ap (λ (w : Refused). light_says false names (Err w)) h ∙ err-of (fault.NotADirectory place) f is
