-- The height that a file is found to have is its height.
use Rattle.std.proofs.Common.{◌≡◌, ◌⊎◌, ℕ, zero, suc, ◌+◌, ◌*◌, ◌<◌, ◌≤◌, length, Bool, true, false, arith, refl, subst, inl, inr, Result, Ok, Err}
use Rattle.std.specs.Prelude.{IsTrue, nat_le, if◌then◌else◌}
use Rattle.std.proofs.Math.Nat.{mul-le-mul_right}
use Rattle.std.proofs.lemmas.Bool.{cases_lt, leb-false, leb-true}
use Rattle.uf_light.specs.Light.{HasHeight}
use Rattle.uf_plain.specs.declared.rule.Refused.{Refused}
use Rattle.uf_tree.specs.FileSub.{IsFileHeight, lowest, span}
use Rattle.uf_tree.specs.Profiles.{is_profile}
use Rattle.uf_tree.specs.Tree.{Tree, File, Dir}
use Rattle.uf_tree.specs.declared.meta.Meta.{Meta}
use Rattle.uf_tree.specs.declared.profile.Profile.{Profile}
use Rattle.uf_tree.proofs.Told.{kept}
use Rattle.uf_top.specs.Light.{file_height, height_found, height_from}

-- more bytes fit than there are rows
room : (c w k : ℕ) → 1 ≤ c → 2 ≤ w → k + 1 ≤ span c w k
unfolding span
room c w zero some two = some
room c w (suc k) some two =
    let h = room c w k some two in let twice : 2 * span c w k ≤ w * span c w k = mul-le-mul_right (span c w k) two in omega (arith, h, twice)

module _ (c w : ℕ) (m : Meta) (n : ℕ) where
  -- no height below this one is enough
  abbrev NoneBelow : ℕ → Type 0
  NoneBelow height = (k : ℕ) → lowest m ≤ k → k < height → span c w k < n

  one-more : (height : ℕ) → NoneBelow height → span c w height < n → NoneBelow (suc height)
  one-more height none less k low below = by (cases_lt k height)
    where
      by : (k < height) ⊎ (height ≤ k) → span c w k < n
      by (inl lt) = none k low lt
      by (inr ge) = (let same : height ≡ k = omega (arith, ge, below) in subst (λ j. span c w j < n) same less)

  -- what is tried from a height on is found where it fits within the tries
  tall-from : (tries height : ℕ) → lowest m ≤ height → NoneBelow height → n ≤ span c w (height + tries) → IsFileHeight c w m n (height_from c w n tries height)
  unfolding height_from
  tall-from zero height low none fits = record { fits = subst (λ h. n ≤ span c w h) (let z : height + 0 ≡ height = omega arith in z) fits; enough = low; least = none }
  tall-from (suc tries) height low none fits =
      by (nat_le n (span c w height)) refl (λ over. tall-from tries (suc height) (let z : lowest m ≤ suc height = omega (arith, low) in z) (one-more height none over)
      (subst (λ h. n ≤ span c w h) (let z : height + suc tries ≡ suc height + tries = omega arith in z) fits))
    where
      by : (b : Bool) → nat_le n (span c w height) ≡ b → (span c w height < n → IsFileHeight c w m n (height_from c w n tries (suc height)))
          → IsFileHeight c w m n (if b then height else height_from c w n tries (suc height))
      by true is later = record { fits = leb-true n (span c w height) is; enough = low; least = none }
      by false is later = later (leb-false n (span c w height) is)

-- a file of a profile has this height
pub file-tall : (p : Profile) (m : Meta) (n : ℕ) → IsTrue (is_profile p) → IsFileHeight p.chunk p.width m n (file_height p m n)
file-tall p m n ok =
    let k = kept p ok in let enough = room p.chunk p.width (lowest m + n) k.some k.two in
    tall-from p.chunk p.width m n n (lowest m) (omega arith) (λ k low below. absurd (omega (arith, low, below))) (let z : n ≤ span p.chunk p.width (lowest m + n) = omega (arith, enough) in z)

-- and so what was found, where it is a file
pub found-tall : (p : Profile) (found : Result Tree Refused) → IsTrue (is_profile p) → HasHeight p (height_found p found) found
found-tall p (Ok (File m bytes)) ok = file-tall p m (length bytes) ok
found-tall p (Ok (Dir es)) ok = tt
found-tall p (Err why) ok = tt
