-- The first parts of an old file.
use Rattle.std.proofs.Common.{◌≡◌, ℕ, ◌+◌, ◌<◌, ◌≤◌, List, take, get_or, min, ap, arith, sym, ◌∙◌, subst, Result, Ok, Err, IsTrue}
use Rattle.std.specs.Prelude.{IfErr, IfOk}
use Rattle.std.proofs.lemmas.List.{take-take}
use Rattle.uf_cid.specs.Blocks.{Held}
use Rattle.uf_store.specs.declared.store.StoreFault.{StoreFault}
use Rattle.uf_store.specs.Contents.{Told}
use Rattle.uf_store.specs.Keeping.{Agrees}
use Rattle.uf_store.specs.Lost.{IsLossOf}
use Rattle.uf_tree.specs.declared.nodes.Part.{Part}
use Rattle.uf_tree.specs.declared.profile.Profile.{Profile}
use Rattle.uf_tree.specs.FilePlan.{groups, split_from}
use Rattle.uf_tree.specs.FileSub.{blocks_over, span}
use Rattle.uf_tree.specs.Profiles.{is_profile}
use Rattle.uf_tree.specs.Validity.{IsHash}
use Rattle.uf_tree.proofs.Groups.{joined-split}
use Rattle.uf_tree.proofs.Told.{kept}
use Rattle.uf_fileedit.specs.Changes.{AreOld, IsFrontPart, IsIn, IsOldPart, blocks_of_all}
use Rattle.uf_fileedit.proofs.Bytes.{joined-front}
use Rattle.uf_fileedit.proofs.Kept.{agrees-among, in-front, loss-among}
use Rattle.uf_fileedit.proofs.Numbers.{span-rises}
use Rattle.uf_fileedit.proofs.Old.{in-suc}

module _ (X : List ℕ → List ℕ) (good : IsHash X) (p : Profile) (ok : IsTrue (is_profile p)) (told : Told) (k top height : ℕ) (up : top ≡ k + 1) (low : height < top) (root first : Part) (b : List ℕ) (is : IsOldPart X p top root b)
    (parts : List Part) (d : Part) (first_is : first ≡ get_or parts 0 d)
    (load : (b : List ℕ) → IsOldPart X p (k + 1) root b → Agrees told (blocks_over X p.chunk p.width (k + 1) b) → AreOld X p (span p.chunk p.width k) k parts (groups (span p.chunk p.width k) b))
    (agrees : Agrees told (blocks_over X p.chunk p.width top b)) where
  is_here : IsOldPart X p (k + 1) root b
  is_here = subst (λ n. IsOldPart X p n root b) up is

  abbrev front : List ℕ
  front = (split_from (span p.chunk p.width k) (span p.chunk p.width k) b).0

  are : AreOld X p (span p.chunk p.width k) k parts (groups (span p.chunk p.width k) b)
  are = load b is_here (subst (λ n. Agrees told (blocks_over X p.chunk p.width n b)) up agrees)

  first_part : IsOldPart X p k first front
  first_part = record { same = first_is ∙ ap (λ (l : List Part). get_or l 0 d) are.same; fits = are.fits.0 }

  among_first : (x : Held) → IsIn x (blocks_over X p.chunk p.width k front) → IsIn x (blocks_over X p.chunk p.width top b)
  among_first x h = subst (λ n. IsIn x (blocks_over X p.chunk p.width n b)) (sym up)
      (in-suc X good p ok k root b is_here x (in-front x (blocks_over X p.chunk p.width k front) (blocks_of_all X p k (split_from (span p.chunk p.width k) (span p.chunk p.width k) b).1) h))

  agrees_first : Agrees told (blocks_over X p.chunk p.width k front)
  agrees_first = agrees-among told (blocks_over X p.chunk p.width k front) (blocks_over X p.chunk p.width top b) among_first agrees

  front_is : take (span p.chunk p.width k) b ≡ front
  front_is = ap (take (span p.chunk p.width k)) (sym (joined-split (span p.chunk p.width k) (span p.chunk p.width k) b)) ∙ (joined-front (span p.chunk p.width k) front (split_from (span p.chunk p.width k) (span p.chunk p.width k) b).1 are.cut).0

  pub front-gives : (r : Result Part StoreFault)
      → ((g : List ℕ) → IsOldPart X p k first g → Agrees told (blocks_over X p.chunk p.width k g) → IfOk r (λ m. IsFrontPart X p k (min k height) m g))
      → IfOk r (λ m. IsFrontPart X p top (min top height) m b)
  front-gives (Ok m) rec =
      let below = rec front first_part agrees_first in
      let same : min k height ≡ min top height = omega arith in
      let wide : 1 ≤ p.width = (let two : 2 ≤ p.width = (kept p ok).two in omega arith) in
      let rises : span p.chunk p.width (min k height) ≤ span p.chunk p.width k = span-rises p.chunk p.width (min k height) k wide (omega arith) in
      subst (λ n. IsFrontPart X p top n m b) same (record {
        front = below.front;
        part_is = below.part_is;
        is_front = sym (take-take (span p.chunk p.width (min k height)) (span p.chunk p.width k) b rises) ∙ ap (take (span p.chunk p.width (min k height))) front_is ∙ below.is_front;
        among = λ x h. among_first x (below.among x h);
      })
  front-gives (Err fault) rec = tt

  pub front-lost : (r : Result Part StoreFault)
      → ((g : List ℕ) → IsOldPart X p k first g → Agrees told (blocks_over X p.chunk p.width k g) → IfErr r (IsLossOf told (blocks_over X p.chunk p.width k g)))
      → IfErr r (IsLossOf told (blocks_over X p.chunk p.width top b))
  front-lost (Ok m) rec = tt
  front-lost (Err fault) rec = loss-among told (blocks_over X p.chunk p.width k front) (blocks_over X p.chunk p.width top b) fault among_first (rec front first_part agrees_first)
