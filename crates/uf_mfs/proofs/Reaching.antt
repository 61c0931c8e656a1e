-- How often a range of a file of the tree touches the store.
use Rattle.std.proofs.Common.{◌≡◌, ℕ, zero, suc, ◌+◌, ◌*◌, ◌≤◌, max, List, length, replicate, refl, ap, subst, arith, Result, Ok, Err}
use Rattle.std.specs.Prelude.{IsTrue}
use Rattle.uf_fileread.specs.Ranges.{IsFile, blocks_read, pieces_met}
use Rattle.uf_fileread.proofs.Few.{few_are_read}
use Rattle.uf_store.specs.Contents.{Told}
use Rattle.uf_store.specs.Keeping.{Agrees}
use Rattle.uf_store.specs.Lost.{IsLossOf}
use Rattle.uf_tree.specs.declared.nodes.Entry.{Entry}
use Rattle.uf_tree.specs.declared.meta.Meta.{Meta}
use Rattle.uf_tree.specs.declared.profile.Profile.{Profile}
use Rattle.uf_tree.specs.FilePlan.{file_plan}
use Rattle.uf_tree.specs.FileSub.{IsFileHeight, IsHeight, lowest, span}
use Rattle.uf_tree.specs.Profiles.{is_profile}
use Rattle.uf_tree.specs.Tree.{Tree, File, Dir, Entries}
use Rattle.uf_tree.specs.Metas.{none}
use Rattle.uf_tree.proofs.Rows.{lowest-one}
use Rattle.uf_tree.proofs.Told.{kept}
use Rattle.uf_plain.specs.declared.rule.Refused.{Refused}
use Rattle.uf_plain.specs.Edits.{and_then, at}
use Rattle.uf_plain.specs.Files.{as_file, file_at}
use Rattle.uf_plain.specs.Needs.{way}
use Rattle.uf_mfs.specs.Answers.{MeetsOr}
use Rattle.uf_mfs.specs.Reading.{AreHeights, range_touches, rows_with}
use Rattle.uf_mfs.specs.Standing.{IsAgreed}
use Rattle.uf_mfs.specs.Touches.{read_bound}
use Rattle.uf_mfs.proofs.Files.{rooted}
use Rattle.uf_mfs.proofs.Ranges.{file-agrees, is-file}

-- the height of a file with metadata, by that of its bytes alone
with-lowest : (c w n h : ℕ) (m : Meta) → 1 ≤ w → lowest m ≤ 1 → IsHeight c w n h → IsFileHeight c w m n (max (lowest m) h)
unfolding span
with-lowest c w n h m some low tall = record {
  fits = by h (lowest m) low tall.fits;
  enough = omega arith;
  least = λ k from below. tall.least k (omega (arith, from, below));
}
  where
    wider : (s : ℕ) → s ≤ w * s
    wider s = grind (arith, some)

    by : (h l : ℕ) → l ≤ 1 → n ≤ span c w h → n ≤ span c w (max l h)
    by (suc h) l le fits = subst (λ k. n ≤ span c w k) (let same : suc h ≡ max l (suc h) = omega (arith, le) in same) fits
    by zero zero le fits = fits
    by zero (suc zero) le fits = omega (arith, fits, wider c)
    by zero (suc (suc l)) le fits = absurd (omega (arith, le))

pub heights-with : (p : Profile) (rows : ℕ → ℕ) → IsTrue (is_profile p) → AreHeights p rows → (m : Meta) (n : ℕ) → IsFileHeight p.chunk p.width m n (rows_with rows m n)
heights-with p rows ok heights m n =
    let two = (kept p ok).two in
    with-lowest p.chunk p.width n (rows n) m (omega (arith, two)) (lowest-one m) (heights n)

area : (m h : ℕ) → m * h ≤ 2 * (m + 2) * (h + 2)
area m h = grind arith

module _ (X : List ℕ → List ℕ) (N : List ℕ → ℕ) (p : Profile) (told : Told) (names : List (List ℕ)) (es : Entries) where
  pub range-reached : (rows : ℕ → ℕ) (offset count : ℕ) (e : Entry) (t0 t1 t2 : ℕ) → AreHeights p rows
      → MeetsOr (IsLossOf told (way X N p names (Dir es))) (λ t e. IsAgreed X N told p e t) (file_at names es) (Ok e) → t1 ≤ t0 + 11 * length names
      → ((m : Meta) (bytes : List ℕ) (height : ℕ) → IsFile X p m bytes e.cid height → Agrees told (file_plan X p m bytes).blocks → t2 ≤ t1 + length (blocks_read X p.chunk p.width m height offset count bytes))
      → t2 ≤ t0 + read_bound (range_touches p rows offset count) names (Dir es)
  range-reached rows offset count e t0 t1 t2 heights found first takes = by (at 0 names (Dir es)) found
    where
      by : (w : Result Tree Refused)
          → MeetsOr (IsLossOf told (way X N p names (Dir es))) (λ t e. IsAgreed X N told p e t) (and_then w (as_file (length names))) (Ok e)
          → t2 ≤ t0 + (64 * (length names + 3) + elim w as (λ w. ℕ) [ Ok found ↦ range_touches p rows offset count found | Err why ↦ 0 ])
      by (Err why) h = absurd h
      by (Ok (Dir fs)) h = absurd h
      by (Ok (File m bytes)) h =
          let height = rows_with rows m (length bytes) in
          let met = pieces_met p.chunk offset count bytes in
          let some = (kept p h.plan.profile).some in
          let two = (kept p h.plan.profile).two in
          let tall = heights-with p rows h.plan.profile heights m (length bytes) in
          let reads = takes m bytes height (is-file X N p told names es e m bytes height h.plan tall) (file-agrees X N p told names es e m bytes h) in
          let few = few_are_read X p.chunk p.width some (omega (arith, two)) m height offset count bytes in
          let room = area met height in
          omega (arith, first, reads, few, room)

zeros-long : (n : ℕ) → length {A = ℕ} (replicate n 0) ≡ n
zeros-long zero = refl
zeros-long (suc n) = ap suc (zeros-long n)

bare-height : (c w n h : ℕ) → IsFileHeight c w none n h → IsHeight c w n h
bare-height c w n h tall = record { fits = tall.fits; least = λ k below. tall.least k (let low : 0 ≤ k = omega arith in low) below }

-- each number of bytes has its height: what the bounds over rows ask for is there
pub heights-of : (p : Profile) → IsTrue (is_profile p) → (rows : ℕ → ℕ) × AreHeights p rows
heights-of p ok = (
  (λ n. (rooted (λ bytes. bytes) p none (replicate n 0) ok).0),
  (λ n. subst (λ m. IsHeight p.chunk p.width m (rooted (λ bytes. bytes) p none (replicate n 0) ok).0) (zeros-long n)
      (bare-height p.chunk p.width _ _ (rooted (λ bytes. bytes) p none (replicate n 0) ok).1.least)),
)
