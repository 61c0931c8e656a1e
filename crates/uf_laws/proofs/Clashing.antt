-- The blocks of a list are held in one place, or two of them clash.
use Rattle.std.proofs.Common.{◌≡◌, ℕ, ◌^◌, ◌<◌, List, [], ◌∷◌, ◌++◌, refl, ap, arith, sym, ◌∙◌, ◌⊎◌, inl, inr, Bool, true, false, cond, Option, None, Some}
use Rattle.std.specs.Prelude.{Contains, IsTrue}
use Rattle.std.specs.List.{AllByRecursion}
use Rattle.std.specs.Str.{bytes_eq}
use Rattle.std.proofs.lemmas.Bool.{false≢true}
use Rattle.std.proofs.lemmas.List.Elements.{All-contains, All-contains_itself, All-from_recursion, recursion_from_All}
use Rattle.std.proofs.lemmas.Slice.Eq.{bytes_eq-Decides}
use Rattle.uf_cid.specs.Blocks.{Held, Holds}
use Rattle.uf_cid.specs.Cid.{cid_bytes, codec_byte}
use Rattle.uf_cid.specs.declared.cid.Cid.{Cid}
use Rattle.uf_cid.specs.declared.cid.Codec.{Codec}
use Rattle.uf_cid.specs.declared.cid.Codec.TheVariants.{Raw, DagPb}
use Rattle.uf_tree.specs.declared.profile.Profile.{Profile}
use Rattle.uf_tree.specs.Profiles.{is_profile}
use Rattle.uf_tree.specs.Tree.{Tree, is_tree}
use Rattle.uf_tree.specs.TreePlan.{entry, blocks, refusal}
use Rattle.uf_tree.specs.Validity.{IsHash}
use Rattle.uf_tree.proofs.Each.{both, front, back}
use Rattle.uf_laws.proofs.Held.{tree-digested}
use Rattle.uf_laws.specs.Clashes.{HasClash}
use Rattle.uf_laws.proofs.Trees.{same_tree}

abbrev same : Cid → Cid → Bool
same c d = bytes_eq (cid_bytes c) (cid_bytes d)

same_codec : (x y : Codec) → codec_byte x ≡ codec_byte y → x ≡ y
same_codec Raw Raw e = refl
same_codec Raw DagPb e = absurd (omega arith)
same_codec DagPb Raw e = absurd (omega arith)
same_codec DagPb DagPb e = refl

spelt_alike : (c d : Cid) → cid_bytes c ≡ cid_bytes d → c ≡ d
spelt_alike c d e =
    let byte : codec_byte c.codec ≡ codec_byte d.codec = cc in
    let digest : c.digest ≡ d.digest = cc in
    let codec : c.codec ≡ d.codec = same_codec c.codec d.codec byte in
    λ i. record { codec = codec i; digest = digest i }

one_cid : (c d : Cid) → same c d ≡ true → c ≡ d
one_cid c d e = spelt_alike c d ((bytes_eq-Decides (cid_bytes c) (cid_bytes d)).0 e)

same_self : (c : Cid) → same c c ≡ true
same_self c = (bytes_eq-Decides (cid_bytes c) (cid_bytes c)).1 refl

-- the first block of the list under a CID
abbrev first_of : List Held → Cid → Option (List ℕ)
first_of [] c = None
first_of (b ∷ l) c = cond (same c b.0) (Some b.1) (first_of l c)

record Found (P : Held → Type 0) (l : List Held) (c : Cid) : Type 0 where
  block : Held
  there : P block
  cid : block.0 ≡ c
  is : first_of l c ≡ Some block.1

abbrev Other : Cid → Held → Type 0
Other c b = same c b.0 ≡ false

found : (P : Held → Type 0) (l : List Held) (c : Cid) → AllByRecursion P l → Found P l c ⊎ AllByRecursion (Other c) l
found P [] c h = inr tt
found P (b ∷ l) c h = by (same c b.0) refl (found P l c h.1)
  where
    by : (t : Bool) → same c b.0 ≡ t → Found P l c ⊎ AllByRecursion (Other c) l → Found P (b ∷ l) c ⊎ AllByRecursion (Other c) (b ∷ l)
    by true e rest = inl (record { block = b; there = h.0; cid = sym (one_cid c b.0 e); is = ap (λ t. cond t (Some b.1) (first_of l c)) e })
    by false e (inl f) = inl (record { block = f.block; there = f.there; cid = f.cid; is = ap (λ t. cond t (Some b.1) (first_of l c)) e ∙ f.is })
    by false e (inr none) = inr (e, none)

module _ (X : List ℕ → List ℕ) (all : List Held) where
  -- a block of the list that is under its digest
  abbrev There : Held → Type 0
  There b = Contains all b × (b.0.digest ≡ X b.1)

  there : (l : List Held) → AllByRecursion (Contains all) l → AllByRecursion (λ (b : Held). b.0.digest ≡ X b.1) l → AllByRecursion There l
  there [] h k = tt
  there (b ∷ l) h k = ((h.0, k.0), there l h.1 k.1)

  one_or_clash : (b : Held) → There b → Found There all b.0 → HasClash X all ⊎ (first_of all b.0 ≡ Some b.1)
  one_or_clash b h f = by (bytes_eq f.block.1 b.1) refl
    where
      by : (t : Bool) → bytes_eq f.block.1 b.1 ≡ t → HasClash X all ⊎ (first_of all b.0 ≡ Some b.1)
      by true e = inr (f.is ∙ ap (λ (bytes : List ℕ). Some bytes) ((bytes_eq-Decides f.block.1 b.1).0 e))
      by false e = inl (record {
        first = f.block;
        second = b;
        first_there = f.there.0;
        second_there = h.0;
        clash = record {
          differ = λ alike. false≢true (sym e ∙ (bytes_eq-Decides f.block.1 b.1).1 alike);
          one_digest = sym f.there.1 ∙ ap (λ (c : Cid). c.digest) f.cid ∙ h.1;
        };
      })

  held_or_clash : (l : List Held) → AllByRecursion There all → AllByRecursion There l → HasClash X all ⊎ Holds (first_of all) l
  held_or_clash [] h k = inr tt
  held_or_clash (b ∷ l) h k = by (found There all b.0 h) (held_or_clash l h k.1)
    where
      by : Found There all b.0 ⊎ AllByRecursion (Other b.0) all → HasClash X all ⊎ Holds (first_of all) l → HasClash X all ⊎ Holds (first_of all) (b ∷ l)
      by (inr none) rest = absurd (false≢true (sym (All-contains (Other b.0) all b (All-from_recursion (Other b.0) all none) k.0.0) ∙ same_self b.0))
      by (inl f) (inl clash) = inl clash
      by (inl f) (inr rest) = join (one_or_clash b k.0 f)
        where
          join : HasClash X all ⊎ (first_of all b.0 ≡ Some b.1) → HasClash X all ⊎ Holds (first_of all) (b ∷ l)
          join (inl clash) = inl clash
          join (inr is) = inr (is, rest)

  pub all_held_or_clash : AllByRecursion (λ (b : Held). b.0.digest ≡ X b.1) all → HasClash X all ⊎ Holds (first_of all) all
  all_held_or_clash h =
      let good = there all (recursion_from_All (Contains all) all (All-contains_itself all)) h in
      held_or_clash all good good

-- trees of one root are one, or two of their blocks clash
pub same_tree_or_clash : (X : List ℕ → List ℕ) (N : List ℕ → ℕ) (p q : Profile) (t u : Tree) → IsHash X → ((name : List ℕ) → N name < 2 ^ 64) → IsTrue (is_profile p) → IsTrue (is_profile q)
    → IsTrue (is_tree t) → IsTrue (is_tree u) → refusal X N p t ≡ None → refusal X N q u ≡ None → (entry X N p t).cid ≡ (entry X N q u).cid
    → (t ≡ u) ⊎ HasClash X (blocks X N p t ++ blocks X N q u)
same_tree_or_clash X N p q t u good small ok oq tree other planned also e =
    by (all_held_or_clash X (blocks X N p t ++ blocks X N q u) (both (λ (b : Held). b.0.digest ≡ X b.1) (blocks X N p t) (blocks X N q u) (tree-digested X N p t) (tree-digested X N q u)))
  where
    by : HasClash X (blocks X N p t ++ blocks X N q u) ⊎ Holds (first_of (blocks X N p t ++ blocks X N q u)) (blocks X N p t ++ blocks X N q u) → (t ≡ u) ⊎ HasClash X (blocks X N p t ++ blocks X N q u)
    by (inl clash) = inr clash
    by (inr held) =
        let lookup = first_of (blocks X N p t ++ blocks X N q u) in
        inl (same_tree X N good small lookup p q t u
        (record { profile = ok; tree = tree; planned = planned; all = front (λ (b : Held). lookup b.0 ≡ Some b.1) (blocks X N p t) (blocks X N q u) held })
        (record { profile = oq; tree = other; planned = also; all = back (λ (b : Held). lookup b.0 ≡ Some b.1) (blocks X N p t) (blocks X N q u) held }) e)
