-- The good blocks of a map.
use Rattle.std.proofs.Common.{◌≡◌, ℕ, List, Bool, true, false, refl, sym, ap, ◌∙◌, nat_eq}
use Rattle.std.specs.Prelude.{◌↔◌, Option, Some, None, if◌then◌else◌}
use Rattle.std.specs.Cmp.Lexicographic.{pointwise, same_text, other_text}
use Rattle.uf_cid.specs.Blocks.{Lookup}
use Rattle.uf_cid.specs.declared.cid.Cid.{Cid}
use Rattle.uf_lenient.specs.Good.{HasGoodOf}
use Rattle.uf_lenient.specs.Within.{HoldsAllOf, HoldsGoodOf, good_blocks, with_digest}

module _ (hash : List ℕ → List ℕ) where
  there : (digest block : List ℕ) (o : Option (List ℕ)) → with_digest hash digest o ≡ Some block → (o ≡ Some block) × (hash block ≡ digest)
  there digest block None is = absurd (let no : None ≡ Some block = is in cc)
  there digest block (Some b) is = by (pointwise nat_eq (hash b) digest) refl is
    where
      by : (t : Bool) → pointwise nat_eq (hash b) digest ≡ t → (if t then Some b else None) ≡ Some block → (Some b ≡ Some block) × (hash block ≡ digest)
      by true same e = let one : b ≡ block = cc in (e, ap hash (sym one) ∙ same_text (hash b) digest (sym same))
      by false same e = absurd (let no : None ≡ Some block = e in cc)

  here : (digest block : List ℕ) → hash block ≡ digest → with_digest hash digest (Some block) ≡ Some block
  here digest block same = by (pointwise nat_eq (hash block) digest) refl
    where
      by : (t : Bool) → pointwise nat_eq (hash block) digest ≡ t → (if t then Some block else None) ≡ Some block
      by true e = refl
      by false e = absurd (other_text (hash block) digest (sym e) same)

  -- a block is held and good exactly where it is among the good blocks
  pub good-is : (held : Lookup) (c : Cid) (block : List ℕ) → good_blocks hash held c ≡ Some block ↔ ((held c ≡ Some block) × (hash block ≡ c.digest))
  good-is held c block = (λ is. there c.digest block (held c) is, λ both. ap (with_digest hash c.digest) both.0 ∙ here c.digest block both.1)

  -- where all good blocks are held in another map, its good blocks are these and more
  pub good-greater : (held more : Lookup) → HoldsGoodOf hash held more → HoldsAllOf (good_blocks hash held) (good_blocks hash more)
  good-greater held more all c block is =
      let both = there c.digest block (held c) is in
      ap (with_digest hash c.digest) (all c block both.0 both.1) ∙ here c.digest block both.1

  -- the good blocks of a map are a map that has them
  pub good-has : (held : Lookup) → HasGoodOf hash held (good_blocks hash held)
  good-has held = record {
    holds = λ c block is same. (good-is held c block).1 (is, same);
    misses = λ c none. ap (with_digest hash c.digest) none;
  }
