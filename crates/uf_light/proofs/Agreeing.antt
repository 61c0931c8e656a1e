-- Sections agree with the blocks of a plan, or two blocks clash.
use Rattle.std.proofs.Common.{◌≡◌, ◌⊎◌, ℕ, List, [], ◌∷◌, Bool, true, false, refl, sym, ◌∙◌, inl, inr, Some, None, Option}
use Rattle.std.proofs.lemmas.Bool.{false≢true}
use Rattle.std.proofs.lemmas.List.Elements.{All-contains, All-contains_itself, All-from_recursion, recursion_from_All}
use Rattle.std.proofs.lemmas.Slice.Eq.{bytes_eq-Decides}
use Rattle.std.specs.List.{AllByRecursion}
use Rattle.std.specs.Prelude.{Contains, IfSome}
use Rattle.std.specs.Str.{bytes_eq}
use Rattle.uf_cid.specs.Blocks.{Held, IsClash}
use Rattle.uf_cid.specs.Blocks as blocks
use Rattle.uf_car.specs.Importing.{with_saves}
use Rattle.uf_store.specs.Contents.{held_at}
use Rattle.uf_store.specs.InMemory.{no_contents}
use Rattle.uf_store.specs.Keeping.{Agrees}
use Rattle.uf_light.specs.Answers.{ClashesWithPlan}
use Rattle.uf_light.specs.Sections.{sections_told}
use Rattle.uf_light.proofs.Saving.{section-of}

module _ (X : List ℕ → List ℕ) (sections all : List Held) (digests : AllByRecursion (λ (b : Held). X b.1 ≡ b.0.digest) sections) where
  -- what is held under the CID of a block is that block, or clashes with it
  one : (b : Held) → Contains all b → b.0.digest ≡ X b.1 → (o : Option (List ℕ)) → held_at (with_saves sections no_contents) b.0 ≡ o → IfSome o (λ bytes. bytes ≡ b.1) ⊎ ClashesWithPlan X all sections
  one b there digest None is = inl tt
  one b there digest (Some bytes) is = by (bytes_eq bytes b.1) refl
    where
      section : Contains sections (b.0, bytes)
      section = section-of sections b.0 bytes is

      same : X b.1 ≡ X bytes
      same = sym digest ∙ sym (All-contains (λ (s : Held). X s.1 ≡ s.0.digest) sections (b.0, bytes) (All-from_recursion (λ (s : Held). X s.1 ≡ s.0.digest) sections digests) section)

      by : (t : Bool) → bytes_eq bytes b.1 ≡ t → (bytes ≡ b.1) ⊎ ClashesWithPlan X all sections
      by true e = inl ((bytes_eq-Decides bytes b.1).0 e)
      by false e = inr (record {
        block = b;
        section = (b.0, bytes);
        planned = there;
        there = section;
        one_cid = refl;
        clash = record { differ = λ alike. false≢true (sym e ∙ (bytes_eq-Decides bytes b.1).1 (sym alike)); one_digest = same };
      })

  each : (l : List Held) → AllByRecursion (Contains all) l → AllByRecursion (λ (b : Held). b.0.digest ≡ X b.1) l → blocks.Agrees (held_at (with_saves sections no_contents)) l ⊎ ClashesWithPlan X all sections
  each [] h k = inl tt
  each (b ∷ l) h k = by (one b h.0 k.0 (held_at (with_saves sections no_contents) b.0) refl) (each l h.1 k.1)
    where
      by : IfSome (held_at (with_saves sections no_contents) b.0) (λ bytes. bytes ≡ b.1) ⊎ ClashesWithPlan X all sections → blocks.Agrees (held_at (with_saves sections no_contents)) l ⊎ ClashesWithPlan X all sections
          → blocks.Agrees (held_at (with_saves sections no_contents)) (b ∷ l) ⊎ ClashesWithPlan X all sections
      by (inr clash) rest = inr clash
      by (inl here) (inr clash) = inr clash
      by (inl here) (inl rest) = inl (here, rest)

  -- the sections agree with the blocks of a plan, or one of each clashes with the other
  pub agree-or-clash : AllByRecursion (λ (b : Held). b.0.digest ≡ X b.1) all → Agrees (sections_told sections) all ⊎ ClashesWithPlan X all sections
  agree-or-clash planned = each all (recursion_from_All (Contains all) all (All-contains_itself all)) planned
