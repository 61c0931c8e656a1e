-- Files of a profile have heights.
use Rattle.std.proofs.Common.{◌≡◌, ℕ, ◌≤◌, zero, suc, [], length, arith, refl, ap, subst}
use Rattle.std.specs.Prelude.{IsTrue, replicate}
use Rattle.uf_mfs.specs.Reading.{AreHeights}
use Rattle.uf_tree.specs.FileSub.{IsHeight}
use Rattle.uf_tree.specs.Metas.{none}
use Rattle.uf_tree.specs.Profiles.{is_profile}
use Rattle.uf_tree.specs.declared.profile.Profile.{Profile}
use Rattle.uf_tree.proofs.Told.{kept}
use Rattle.uf_tree.proofs.Rows.{file_plan-rows}

zeros-long : (n : ℕ) → length {A = ℕ} (replicate n 0) ≡ n
zeros-long zero = refl
zeros-long (suc n) = ap suc (zeros-long n)

-- n bytes have one, whatever the hash
height-of : (p : Profile) → IsTrue (is_profile p) → (n : ℕ) → (h : ℕ) × IsHeight p.chunk p.width n h
height-of p ok n =
    let r = file_plan-rows (λ bytes. []) p none (replicate n 0) (kept p ok).some (kept p ok).two in
    (r.0, subst (λ n. IsHeight p.chunk p.width n r.0) (zeros-long n) (record { fits = r.2.fits; least = λ k less. let low : 0 ≤ k = omega arith in r.2.least k low less }))

pub all-heights : (p : Profile) → IsTrue (is_profile p) → (rows : ℕ → ℕ) × AreHeights p rows
all-heights p ok = (λ n. (height-of p ok n).0, λ n. (height-of p ok n).1)
