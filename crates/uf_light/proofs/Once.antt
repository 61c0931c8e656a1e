-- Blocks of which each CID stands once.
use Rattle.std.proofs.Common.{◌≡◌, ℕ, List, [], ◌∷◌, ◌++◌, Bool, true, false, fold, refl, sym, ap, ◌∙◌, Some, Option, Contains, if◌then◌else◌}
use Rattle.std.specs.List.{AllByRecursion}
use Rattle.std.proofs.lemmas.List.{map-append}
use Rattle.std.proofs.lemmas.List.Elements.{All-contains, All-from_recursion}
use Rattle.uf_cid.specs.Blocks.{Held, Lookup}
use Rattle.uf_cid.specs.Blocks as blocks
use Rattle.uf_cid.specs.declared.cid.Cid.{Cid}
use Rattle.uf_walk.specs.Order.{is_met}
use Rattle.uf_walk.proofs.Members.{among}
use Rattle.uf_car.specs.Text.{blocks_at, car_bytes, car_text, with_held}
use Rattle.uf_light.specs.FileCids.{cids_of}
use Rattle.uf_light.specs.Light.{block_once, cid_once}
use Rattle.uf_light.proofs.Holding.{append, back, front}

-- the CIDs of these blocks are those of all, each once
pub once-cids : (done l : List Held) → cids_of (fold block_once done l) ≡ fold cid_once (cids_of done) (cids_of l)
once-cids done [] = refl
once-cids done (b ∷ l) = once-cids (block_once done b) l ∙ ap (λ (k : List Cid). fold cid_once k (cids_of l)) (by (is_met (cids_of done) b.0))
  where
    by : (x : Bool) → cids_of (if x then done else done ++ b ∷ []) ≡ (if x then cids_of done else cids_of done ++ b.0 ∷ [])
    by true = refl
    by false = map-append (λ (d : Held). d.0) done (b ∷ [])

-- what holds of all holds of these
pub once-among : (P : Held → Type 0) (done l : List Held) → AllByRecursion P done → AllByRecursion P l → AllByRecursion P (fold block_once done l)
once-among P done [] h k = h
once-among P done (b ∷ l) h k = once-among P (block_once done b) l (by (is_met (cids_of done) b.0)) k.1
  where
    by : (x : Bool) → AllByRecursion P (if x then done else done ++ b ∷ [])
    by true = h
    by false = append P done (b ∷ []) h (k.0, tt)

-- those that were there first are among them
pub once-front : (P : Held → Type 0) (done l : List Held) → AllByRecursion P (fold block_once done l) → AllByRecursion P done
once-front P done [] h = h
once-front P done (b ∷ l) h = by (is_met (cids_of done) b.0) (once-front P (block_once done b) l h)
  where
    by : (x : Bool) → AllByRecursion P (if x then done else done ++ b ∷ []) → AllByRecursion P done
    by true h = h
    by false h = front P done (b ∷ []) h

both : (P Q : Held → Type 0) (l : List Held) → AllByRecursion P l → AllByRecursion Q l → AllByRecursion (λ (d : Held). P d × Q d) l
both P Q [] h k = tt
both P Q (b ∷ l) h k = ((h.0, k.0), both P Q l h.1 k.1)

-- ---- and what holds of these does of all, where it is told by what is held

module _ (held look : Lookup) where
  -- the block of a CID among these
  at-cid : (done : List Held) (c : Cid) → AllByRecursion (λ (d : Held). (held d.0 ≡ Some d.1) × (look d.0 ≡ Some d.1)) done → Contains (cids_of done) c → (bytes : List ℕ) × ((held c ≡ Some bytes) × (look c ≡ Some bytes))
  at-cid done c h there = All-contains (λ (c : Cid). (bytes : List ℕ) × ((held c ≡ Some bytes) × (look c ≡ Some bytes))) (cids_of done) c (All-from_recursion _ (cids_of done) (each-cid done h)) there
    where
      each-cid : (l : List Held) → AllByRecursion (λ (d : Held). (held d.0 ≡ Some d.1) × (look d.0 ≡ Some d.1)) l → AllByRecursion (λ (c : Cid). (bytes : List ℕ) × ((held c ≡ Some bytes) × (look c ≡ Some bytes))) (cids_of l)
      each-cid [] h = tt
      each-cid (d ∷ l) h = ((d.1, h.0), each-cid l h.1)

  -- where these are held in two places, all that are held in the first are held in the second
  pub once-back : (done l : List Held) → blocks.Holds held done → blocks.Holds held l → blocks.Holds look (fold block_once done l) → blocks.Holds look l
  once-back done [] h k e = tt
  once-back done (b ∷ l) h k e = (by (is_met (cids_of done) b.0) refl e, once-back (block_once done b) l (more (is_met (cids_of done) b.0)) k.1 e)
    where
      more : (x : Bool) → blocks.Holds held (if x then done else done ++ b ∷ [])
      more true = h
      more false = append (λ (d : Held). held d.0 ≡ Some d.1) done (b ∷ []) h (k.0, tt)

      by : (x : Bool) → is_met (cids_of done) b.0 ≡ x → blocks.Holds look (fold block_once (if x then done else done ++ b ∷ []) l) → look b.0 ≡ Some b.1
      by true is e =
          let same = at-cid done b.0 (both (λ (d : Held). held d.0 ≡ Some d.1) (λ (d : Held). look d.0 ≡ Some d.1) done h (once-front (λ (d : Held). look d.0 ≡ Some d.1) done l e)) (among (cids_of done) b.0 is) in
          let one : Some same.0 ≡ Some b.1 = sym same.1.0 ∙ k.0 in
          same.1.1 ∙ one
      by false is e = (back (λ (d : Held). look d.0 ≡ Some d.1) done (b ∷ []) (once-front (λ (d : Held). look d.0 ≡ Some d.1) (done ++ b ∷ []) l e)).0

-- a CAR of these CIDs is one of these blocks, where they are held
pub text-is : (held : Lookup) (root : Cid) (l : List Held) → blocks.Holds held l → car_text held root (cids_of l) ≡ car_bytes root l
text-is held root l h = ap (car_bytes root) (blocks-are l h)
  where
    blocks-are : (l : List Held) → blocks.Holds held l → blocks_at held (cids_of l) ≡ l
    blocks-are [] h = refl
    blocks-are (b ∷ l) h = ap (λ (o : Option (List ℕ)). with_held b.0 o (blocks_at held (cids_of l))) h.0 ∙ ap (λ (k : List Held). b ∷ k) (blocks-are l h.1)
