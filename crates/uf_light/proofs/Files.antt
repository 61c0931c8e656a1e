-- A file with a plan, as its root block is seen.
use Rattle.std.proofs.Common.{◌≡◌, ℕ, zero, suc, ◌≤◌, ◌*◌, List, [], ◌∷◌, length, refl, ap, ◌∙◌, subst, arith, Bool, true, false, cond, Some, None}
use Rattle.std.specs.Prelude.{IfSome, IsTrue, nat_lt}
use Rattle.std.specs.List.{AllByRecursion, list_all}
use Rattle.std.proofs.lemmas.Bool.Decides.{nat_tests}
use Rattle.uf_cid.specs.Blocks.{Held}
use Rattle.uf_cid.specs.Bytes.{IsBytes}
use Rattle.uf_cid.specs.declared.cid.Cid.{Cid}
use Rattle.uf_tree.specs.declared.meta.Meta.{Meta}
use Rattle.uf_tree.specs.declared.nodes.Entry.{Entry}
use Rattle.uf_tree.specs.declared.profile.Profile.{Profile}
use Rattle.uf_tree.specs.FilePlan.{file_plan}
use Rattle.uf_tree.specs.FileSub.{IsFileHeight, IsRooted, whole_blocks}
use Rattle.uf_tree.specs.Metas.{is_meta}
use Rattle.uf_fileread.specs.Ranges.{IsFile}
use Rattle.uf_store.specs.Contents.{Told}
use Rattle.uf_store.specs.Keeping.{Agrees}
use Rattle.uf_tree.specs.Profiles.{is_profile}
use Rattle.uf_tree.specs.Roots.{IsFileRoot, root_over}
use Rattle.uf_tree.specs.Tree.{File, fold, is_tree}
use Rattle.uf_tree.specs.TreePlan.{FileTooLong, blocks, entry, planned}
use Rattle.uf_tree.proofs.Rows.{file_plan-rows, file-height-unique, plan-sub, sub-plan}
use Rattle.uf_tree.proofs.Told.{kept}
use Rattle.uf_tree.proofs.Twins.{both_true}
use Rattle.uf_plain.proofs.Kept.{tree-meta}
use Rattle.uf_light.specs.Standing.{IsTreeAt}

all-bytes : (bytes : List ℕ) → list_all (λ b. nat_lt b 256) bytes ≡ true → IsBytes bytes
all-bytes [] h = tt
all-bytes (b ∷ bytes) h =
    let parts = both_true (nat_lt b 256) (list_all (λ b. nat_lt b 256) bytes) h in
    ((let first : nat_lt b 256 ≡ true = parts.0 in grind (arith, nat_tests)), all-bytes bytes parts.1)

short : (limit n : ℕ) → (cond (nat_lt limit n) (Some FileTooLong) None) ≡ None → n ≤ limit
short limit n h = by (nat_lt limit n) refl h
  where
    by : (b : Bool) → nat_lt limit n ≡ b → cond b (Some FileTooLong) None ≡ None → n ≤ limit
    by true e h = absurd cc
    by false e h = grind (arith, nat_tests)

pub rooted : (X : List ℕ → List ℕ) (p : Profile) (m : Meta) (bytes : List ℕ) → IsTrue (is_profile p) → (height : ℕ) × IsRooted X p m bytes (file_plan X p m bytes) height
rooted X p m bytes h =
    let pos = (kept p h).some in
    let two = (kept p h).two in
    let r = file_plan-rows X p m bytes pos two in (
      r.0,
      record {
        least = r.2;
        entry = r.1;
        holds = λ held. (plan-sub X p m bytes pos two (λ b. held b.0 ≡ Some b.1) r.0 r.2.fits _ r.3, sub-plan X p m bytes pos two (λ b. held b.0 ≡ Some b.1) r.0 r.2.fits _ r.3);
        agrees = λ held. (plan-sub X p m bytes pos two (λ b. IfSome (held b.0) (λ found. found ≡ b.1)) r.0 r.2.fits _ r.3, sub-plan X p m bytes pos two (λ b. IfSome (held b.0) (λ found. found ≡ b.1)) r.0 r.2.fits _ r.3);
      },
    )

root-first : (X : List ℕ → List ℕ) (c w : ℕ) (m : Meta) (height : ℕ) (bytes : List ℕ) (P : Held → Type 0) → AllByRecursion P (whole_blocks X c w m height bytes) → P (root_over X c w m height bytes)
unfolding whole_blocks
root-first X c w m zero bytes P h = h.0
root-first X c w m (suc k) bytes P h = h.0

-- the root block of a file is one of its plan
pub root-among : (X : List ℕ → List ℕ) (p : Profile) (m : Meta) (bytes : List ℕ) (ok : IsTrue (is_profile p)) (P : Held → Type 0) → AllByRecursion P (file_plan X p m bytes).blocks
    → AllByRecursion P (root_over X p.chunk p.width m (rooted X p m bytes ok).0 bytes ∷ [])
unfolding rooted
root-among X p m bytes ok P h =
    let pos = (kept p ok).some in
    let two = (kept p ok).two in
    let r = file_plan-rows X p m bytes pos two in
    (root-first X p.chunk p.width m r.0 bytes P (plan-sub X p m bytes pos two P r.0 r.2.fits _ r.3 h), tt)

module _ (X : List ℕ → List ℕ) (N : List ℕ → ℕ) (p : Profile) (c : Cid) (m : Meta) (bytes : List ℕ) (s : IsTreeAt X N p c (File m bytes)) where
  abbrev pub root : Held
  root = root_over X p.chunk p.width m (rooted X p m bytes s.profile).0 bytes

  pub entry-is : entry X N p (File m bytes) ≡ (file_plan X p m bytes).entry
  unfolding planned fold
  entry-is = refl

  pub few : length bytes ≤ p.chunk * 4194304
  unfolding planned fold
  few = short _ _ s.planned

  tree-bytes : IsBytes bytes
  unfolding is_tree
  tree-bytes = all-bytes bytes (both_true (is_meta m) (list_all (λ b. nat_lt b 256) bytes) s.tree).1

  -- the root block is one of the tree's
  pub root-in : (P : Held → Type 0) → AllByRecursion P (blocks X N p (File m bytes)) → AllByRecursion P (root ∷ [])
  unfolding planned fold
  root-in P h = root-among X p m bytes s.profile P h

  pub is-file-root : IsFileRoot X p m bytes c root
  is-file-root = record {
    profile = s.profile;
    good = tree-meta (File m bytes) s.tree;
    are_bytes = tree-bytes;
    few = few;
    height = (rooted X p m bytes s.profile).0;
    rooted = (rooted X p m bytes s.profile).1;
    cid_is = s.is ∙ ap (λ (e : Entry). e.cid) entry-is;
    block_is = refl;
  }

  -- the file, with the height that its length has
  pub is-file : (height : ℕ) → IsFileHeight p.chunk p.width m (length bytes) height → IsFile X p m bytes c height
  is-file height tall =
      let r = rooted X p m bytes s.profile in
      record {
        profile = s.profile;
        good = tree-meta (File m bytes) s.tree;
        few = few;
        cid_is = s.is ∙ ap (λ (e : Entry). e.cid) entry-is;
        rooted = subst (IsRooted X p m bytes (file_plan X p m bytes)) (file-height-unique p.chunk p.width m (length bytes) r.0 height r.1.least tall) r.1;
      }

  pub plan-agrees : (told : Told) → Agrees told (blocks X N p (File m bytes)) → Agrees told (file_plan X p m bytes).blocks
  unfolding planned fold
  plan-agrees told h = h

  -- its blocks from the root down are those of its plan
  pub down-among : (height : ℕ) → IsFileHeight p.chunk p.width m (length bytes) height → (P : Held → Type 0) → AllByRecursion P (blocks X N p (File m bytes)) → AllByRecursion P (whole_blocks X p.chunk p.width m height bytes)
  unfolding planned fold
  down-among height tall P h =
      let pos = (kept p s.profile).some in
      let two = (kept p s.profile).two in
      let r = file_plan-rows X p m bytes pos two in
      subst (λ (k : ℕ). AllByRecursion P (whole_blocks X p.chunk p.width m k bytes)) (file-height-unique p.chunk p.width m (length bytes) r.0 height r.2 tall) (plan-sub X p m bytes pos two P r.0 r.2.fits _ r.3 h)
