-- What is saved of the files that are left is among the blocks of their tree.
use Rattle.std.proofs.Common.{◌≡◌, ℕ, zero, suc, ◌+◌, ◌%◌, ◌<◌, ◌≤◌, ◌⊎◌, inl, inr, List, [], ◌∷◌, ◌++◌, refl, ap, ◌∙◌, sym, subst, arith, Bool, true, false, ◌==◌, if◌then◌else◌}
use Rattle.std.specs.Prelude.{◌≢◌}
use Rattle.std.specs.List.{flat_map}
use Rattle.std.proofs.lemmas.Bool.{cases_lt}
use Rattle.std.proofs.lemmas.Bool.Decides.{nat_tests}
use Rattle.std.proofs.lemmas.Grind.{flat_map-append}
use Rattle.std.proofs.lemmas.List.{append-nil, map-append}
use Rattle.uf_cid.specs.Blocks.{Held}
use Rattle.uf_store.specs.Among.{SavesAmong}
use Rattle.uf_store.specs.Contents.{Told}
use Rattle.uf_store.proofs.Among.{SavesAmong-more, among-left, among-right}
use Rattle.uf_dir.specs.Planned.{own_blocks}
use Rattle.uf_plain.proofs.Plans.{below_blocks, blocks-is, named, plans}
use Rattle.uf_tree.specs.FilePlan.{file_plan}
use Rattle.uf_tree.specs.Metas.{none}
use Rattle.uf_tree.specs.Nodes.{Named}
use Rattle.uf_tree.specs.Tree.{Entries, File, entries, fold, pairs}
use Rattle.uf_tree.specs.TreePlan.{Planned, blocks, planned}
use Rattle.uf_tree.specs.declared.meta.Meta.{Meta}
use Rattle.uf_tree.specs.declared.profile.Profile.{Profile}
use Rattle.uf_tree.proofs.TreeLaws.{meta-entries, pairs-entries}
use Rattle.uf_gen.specs.Fresh.{left_blocks, left_entries, left_tree}
use Rattle.uf_gen.specs.Grown.{left_file, left_files}
use Rattle.uf_gen.specs.Rules.{file_name, last_bytes}
use Rattle.uf_gen.proofs.Left.{named-entries}
use Rattle.uf_gen.proofs.Places.{Row}
use Rattle.uf_gen.proofs.Steps.{rows}

module _ (X : List ℕ → List ℕ) (p : Profile) (seed : ℕ) where
  -- a file that is left
  pub left-saves : (i : ℕ) (bytes : List ℕ) (a b : Told) → i % 3 ≢ 0 → bytes ≡ last_bytes seed i → SavesAmong X (file_plan X p none bytes).blocks a b → SavesAmong X (left_blocks X p seed i) a b
  left-saves i bytes a b left is h =
      let test : (i % 3 == 0) ≡ false = grind (arith, nat_tests) in
      subst (λ (t : Bool). SavesAmong X (if t then [] else (file_plan X p none (last_bytes seed i)).blocks) a b) (sym test)
      (subst (λ (l : List ℕ). SavesAmong X (file_plan X p none l).blocks a b) is h)

module _ (X : List ℕ → List ℕ) (N : List ℕ → ℕ) (p : Profile) (seed : ℕ) where
  blocks-left : (i : ℕ) → below_blocks X N p (left_file seed i) ≡ left_blocks X p seed i
  unfolding planned fold
  blocks-left i = by (i % 3 == 0)
    where
      by : (b : Bool) → below_blocks X N p (if b then [] else ((file_name i, File none (last_bytes seed i)) ∷ []))
          ≡ (if b then [] else (file_plan X p none (last_bytes seed i)).blocks)
      by true = refl
      by false = append-nil (file_plan X p none (last_bytes seed i)).blocks

  blocks-rows : (start n : ℕ) → below_blocks X N p (rows (left_file seed) start (suc n))
      ≡ left_blocks X p seed start ++ below_blocks X N p (rows (left_file seed) (start + 1) n)
  blocks-rows start n =
      let rest : List Row = rows (left_file seed) (start + 1) n in
      ap (flat_map (λ (m : List ℕ × Planned). m.1.plan.blocks)) (map-append (λ (e : Row). (e.0, planned X N p e.1)) (left_file seed start) rest)
      ∙ flat_map-append (λ (m : List ℕ × Planned). m.1.plan.blocks) (plans X N p (left_file seed start)) (plans X N p rest)
      ∙ ap (λ l. l ++ below_blocks X N p rest) (blocks-left start)

  -- what is saved of one of some files in turn
  file-among : (i start n : ℕ) (a b : Told) → start ≤ i → i < start + n → SavesAmong X (left_blocks X p seed i) a b
      → SavesAmong X (below_blocks X N p (rows (left_file seed) start n)) a b
  file-among i start zero a b le lt h = absurd (omega arith)
  file-among i start (suc n) a b le lt h = subst (λ (l : List Held). SavesAmong X l a b) (sym (blocks-rows start n)) (by (cases_lt start i) (λ later. file-among i (start + 1) n a b (omega arith) (omega arith) h))
    where
      here : List Held
      here = left_blocks X p seed start

      rest : List Held
      rest = below_blocks X N p (rows (left_file seed) (start + 1) n)

      by : (start < i) ⊎ (i ≤ start) → (start < i → SavesAmong X rest a b) → SavesAmong X (here ++ rest) a b
      by (inl later) among = SavesAmong-more X rest (here ++ rest) a b (among-right here rest) (among later)
      by (inr first) among =
          let same : i ≡ start = omega arith in
          SavesAmong-more X here (here ++ rest) a b (among-left here rest) (subst (λ (k : ℕ). SavesAmong X (left_blocks X p seed k) a b) same h)

  tree-blocks : (n : ℕ) → blocks X N p (left_tree seed n) ≡ below_blocks X N p (left_files seed n) ++ own_blocks X N p none (left_entries X p seed n)
  tree-blocks n =
      let es : Entries = entries none (left_files seed n) in
      blocks-is X N p es
      ∙ ap (λ (m : Meta). below_blocks X N p (pairs es) ++ own_blocks X N p m (named X N p (pairs es))) (meta-entries none (left_files seed n))
      ∙ ap (λ (l : List Named). below_blocks X N p (pairs es) ++ own_blocks X N p none l) (named-entries X N p seed n)
      ∙ ap (λ (l : List Row). below_blocks X N p l ++ own_blocks X N p none (left_entries X p seed n)) (pairs-entries none (left_files seed n))

  module _ (n : ℕ) (a b : Told) where
    -- what is saved of one of the files
    pub file-saves : (i : ℕ) → i < n → SavesAmong X (left_blocks X p seed i) a b → SavesAmong X (blocks X N p (left_tree seed n)) a b
    file-saves i lt h =
        let below : List Held = below_blocks X N p (left_files seed n) in
        let own : List Held = own_blocks X N p none (left_entries X p seed n) in
        subst (λ (l : List Held). SavesAmong X l a b) (sym (tree-blocks n))
        (SavesAmong-more X below (below ++ own) a b (among-left below own) (file-among i 0 n a b (omega arith) (omega arith) h))

    -- and of their directory
    pub directory-saves : SavesAmong X (own_blocks X N p none (left_entries X p seed n)) a b → SavesAmong X (blocks X N p (left_tree seed n)) a b
    directory-saves h =
        let below : List Held = below_blocks X N p (left_files seed n) in
        let own : List Held = own_blocks X N p none (left_entries X p seed n) in
        subst (λ (l : List Held). SavesAmong X l a b) (sym (tree-blocks n))
        (SavesAmong-more X own (below ++ own) a b (among-right below own) h)
