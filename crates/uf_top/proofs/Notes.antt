-- A note that names a root is there.
use Rattle.std.proofs.Common.{◌≡◌, ℕ, List, refl, subst, Some, None, Ok}
use Rattle.std.specs.Prelude.{IsTrue}
use Rattle.std.specs.declared.option.Option.{Option}
use Rattle.uf_cid.specs.Read.{IsCid}
use Rattle.uf_cid.specs.declared.cid.Cid.{Cid}
use Rattle.uf_cid.specs.declared.cid.Codec.TheVariants.{DagPb}
use Rattle.uf_tree.specs.HeadReading.{head_reads}
use Rattle.uf_tree.specs.Profiles.{is_profile}
use Rattle.uf_tree.specs.Standing.{IsHeadNote}
use Rattle.uf_tree.specs.declared.profile.Profile.{Profile}
use Rattle.uf_tree.proofs.HeadAgain.{head_again}

-- it has a text
pub note-text : (n : Option (List ℕ)) (p : Profile) (root : Cid) → IsHeadNote n p root → (text : List ℕ) × (n ≡ Some text)
note-text None p root h = absurd h
note-text (Some text) p root h = (text, refl)

-- so no note is there that isn't
pub note-there : (n : Option (List ℕ)) (p : Profile) (root : Cid) → IsHeadNote n p root → n ≡ None → ⊥
note-there n p root h none = subst (λ (m : Option (List ℕ)). IsHeadNote m p root) none h

-- and its text is read
pub note-reads : (n : Option (List ℕ)) (p : Profile) (root : Cid) → IsTrue (is_profile p) → IsCid root → root.codec ≡ DagPb → IsHeadNote n p root
    → (text : List ℕ) × (n ≡ Some text) × (head_reads text ≡ Ok (record { profile = p; root = root }))
note-reads None p root ok is node h = absurd h
note-reads (Some text) p root ok is node h = (text, refl, head_again text p root ok is node h)
