-- Files of one root are one file.
use Rattle.std.proofs.Common.{◌≡◌, ℕ, zero, suc, ◌+◌, ◌*◌, ◌^◌, ◌<◌, ◌≤◌, List, [], ◌∷◌, ◌++◌, length, length-append, map, refl, ap, arith, sym, ◌∙◌, Option, None, Some, Bool, true, false, cond}
use Rattle.std.specs.Prelude.{IsTrue, nat_lt}
use Rattle.std.specs.List.{AllByRecursion, flat_map}
use Rattle.std.proofs.lemmas.Bool.Decides.{nat_tests}
use Rattle.uf_cid.specs.Blocks.{Held, Lookup, Holds}
use Rattle.uf_cid.specs.Cid.{codec_byte}
use Rattle.uf_cid.specs.declared.cid.Cid.{Cid}
use Rattle.uf_dagpb.specs.declared.node.Link.{Link}
use Rattle.uf_tree.specs.declared.meta.Meta.{Meta}
use Rattle.uf_tree.specs.declared.nodes.FileNode.{FileNode}
use Rattle.uf_tree.specs.declared.nodes.Part.{Part}
use Rattle.uf_tree.specs.declared.profile.Profile.{Profile}
use Rattle.uf_tree.specs.Cutting.{joined}
use Rattle.uf_tree.specs.FilePlan.{file_plan, groups, node_over, root_node}
use Rattle.uf_tree.specs.FileSub.{span, part_over, blocks_over, whole_part, whole_blocks, IsFileHeight, lowest}
use Rattle.uf_tree.specs.Metas.{is_bare, is_meta, none}
use Rattle.uf_tree.specs.Profiles.{is_profile}
use Rattle.uf_tree.specs.TreePlan.{Refusal, FileTooLong, too_long}
use Rattle.uf_tree.specs.Validity.{IsHash, IsFileNode}
use Rattle.uf_tree.proofs.Each.{front, back}
use Rattle.uf_tree.proofs.Groups.{joined-split, width-split}
use Rattle.uf_tree.proofs.MetaNumbers.{bare-none}
use Rattle.uf_tree.proofs.Rows.{file_plan-rows, lowest-carried, plan-sub}
use Rattle.uf_tree.proofs.Sub.{span-pos}
use Rattle.uf_tree.proofs.Told.{kept}
use Rattle.uf_tree.proofs.Valid.{file_node-valid, root_node-valid}
use Rattle.uf_laws.proofs.OneBlock.{one_block, one_file_node}

module _ (X : List ℕ → List ℕ) (good : IsHash X) (held : Lookup) where
  abbrev pub part : Profile → ℕ → List ℕ → Part
  part p h b = part_over X p.chunk p.width h b

  -- the blocks of the part of this height are held
  pub record Stood (p : Profile) (h : ℕ) (b : List ℕ) : Type 0 where
    pub profile : IsTrue (is_profile p)
    pub fits : length b ≤ span p.chunk p.width h
    pub few : length b < 2 ^ 63
    pub all : Holds held (blocks_over X p.chunk p.width h b)

  -- the node at the root of a part that has nodes
  abbrev pub root_parts : Profile → ℕ → List ℕ → List Part
  root_parts p h b = map (part p h) (groups (span p.chunk p.width h) b)

  pub root_valid : (p : Profile) (h : ℕ) (b : List ℕ) → Stood p (suc h) b → IsFileNode (node_over (root_parts p h b))
  root_valid p h b s = file_node-valid X good p s.profile h b s.fits s.few

  each_stood : (p : Profile) → IsTrue (is_profile p) → (h : ℕ) (gs : List (List ℕ)) → AllByRecursion (λ g. length g ≤ span p.chunk p.width h) gs → length (joined gs) < 2 ^ 63
      → Holds held (flat_map (blocks_over X p.chunk p.width h) gs) → AllByRecursion (Stood p h) gs
  each_stood p ok h [] widths few all = tt
  each_stood p ok h (g ∷ gs) widths few all =
      let size : length (g ++ joined gs) ≡ length g + length (joined gs) = length-append g (joined gs) in
      let own = front (λ (b : Held). held b.0 ≡ Some b.1) (blocks_over X p.chunk p.width h g) (flat_map (blocks_over X p.chunk p.width h) gs) all in
      let others = back (λ (b : Held). held b.0 ≡ Some b.1) (blocks_over X p.chunk p.width h g) (flat_map (blocks_over X p.chunk p.width h) gs) all in
      (record { profile = ok; fits = widths.0; few = omega (arith, size, few); all = own }, each_stood p ok h gs widths.1 (omega (arith, size, few)) others)

  pub below_stood : (p : Profile) (h : ℕ) (b : List ℕ) → Stood p (suc h) b → AllByRecursion (Stood p h) (groups (span p.chunk p.width h) b)
  unfolding blocks_over
  below_stood p h b s =
      let cut = span p.chunk p.width h in
      let k = kept p s.profile in
      let two : 2 ≤ p.width = k.two in
      let pos : 1 ≤ cut = span-pos p.chunk p.width h k.some (omega arith) in
      let widths = width-split cut cut b pos (omega arith) in
      let whole : joined (groups cut b) ≡ b = joined-split cut cut b in
      each_stood p s.profile h (groups cut b) (widths.0, widths.1) (omega (arith, s.few, ap length whole)) s.all.1

  abbrev cids : List Link → List Cid
  cids ls = map (λ (l : Link). l.cid) ls

  -- groups whose parts have the same CIDs are the same, where one group is
  same_groups : (p q : Profile) (h k : ℕ) → ((a b : List ℕ) → Stood p h a → Stood q k b → (part p h a).entry.cid ≡ (part q k b).entry.cid → a ≡ b)
      → (gs fs : List (List ℕ)) → AllByRecursion (Stood p h) gs → AllByRecursion (Stood q k) fs
      → cids (node_over (map (part p h) gs)).parts ≡ cids (node_over (map (part q k) fs)).parts → gs ≡ fs
  same_groups p q h k one [] [] s r e = refl
  same_groups p q h k one [] (b ∷ fs) s r e = absurd cc
  same_groups p q h k one (a ∷ gs) [] s r e = absurd cc
  same_groups p q h k one (a ∷ gs) (b ∷ fs) s r e =
      let again = same_groups p q h k one gs fs s.1 r.1 in
      let first : a ≡ b = one a b s.0 r.0 (heads _ _ _ _ e) in
      let rest : gs ≡ fs = again (tails _ _ _ _ e) in
      λ i. first i ∷ rest i
    where
      heads : (c d : Cid) (x y : List Cid) → c ∷ x ≡ d ∷ y → c ≡ d
      heads c d x y e = cc

      tails : (c d : Cid) (x y : List Cid) → c ∷ x ≡ d ∷ y → x ≡ y
      tails c d x y e = cc

  leaf_or_node : ◌≡◌ {A = ℕ} 0x55 0x70 → ⊥
  leaf_or_node e = omega arith

  -- the bytes are one where the roots have one CID, of whatever profiles and heights
  pub same_bytes : (p q : Profile) (h k : ℕ) (a b : List ℕ) → Stood p h a → Stood q k b → (part p h a).entry.cid ≡ (part q k b).entry.cid → a ≡ b
  unfolding part_over blocks_over
  same_bytes p q zero zero a b s r e = one_block held (part p zero a).entry.cid (part q zero b).entry.cid a b e s.all.0 r.all.0
  same_bytes p q zero (suc k) a b s r e = absurd (leaf_or_node (ap (λ (c : Cid). codec_byte c.codec) e))
  same_bytes p q (suc h) zero a b s r e = absurd (leaf_or_node (sym (ap (λ (c : Cid). codec_byte c.codec) e)))
  same_bytes p q (suc h) (suc k) a b s r e =
      let one = same_bytes p q h k in
      let blocks = one_block held (part p (suc h) a).entry.cid (part q (suc k) b).entry.cid _ _ e s.all.0 r.all.0 in
      let nodes = one_file_node (node_over (root_parts p h a)) (node_over (root_parts q k b)) (root_valid p h a s) (root_valid q k b r) blocks in
      let groups_same = same_groups p q h k one (groups (span p.chunk p.width h) a) (groups (span q.chunk q.width k) b) (below_stood p h a s) (below_stood q k b r) (ap (λ (n : FileNode). cids n.parts) nodes) in
      sym (joined-split (span p.chunk p.width h) (span p.chunk p.width h) a) ∙ ap joined groups_same ∙ joined-split (span q.chunk q.width k) (span q.chunk q.width k) b

  abbrev pub whole : Profile → Meta → ℕ → List ℕ → Part
  whole p m h b = whole_part X p.chunk p.width m h b

  -- the blocks of a whole file of this height are held
  pub record StoodWhole (p : Profile) (m : Meta) (h : ℕ) (b : List ℕ) : Type 0 where
    pub profile : IsTrue (is_profile p)
    pub carried : IsTrue (is_meta m)
    pub height : IsFileHeight p.chunk p.width m (length b) h
    pub few : length b < 2 ^ 63
    pub all : Holds held (whole_blocks X p.chunk p.width m h b)

  pub whole_valid : (p : Profile) (m : Meta) (h : ℕ) (b : List ℕ) → StoodWhole p m (suc h) b → IsFileNode (root_node m (root_parts p h b))
  whole_valid p m h b s = root_node-valid X good p s.profile m s.carried h b s.height.fits s.few

  -- the parts under the root stand
  under_stood : (p : Profile) (m : Meta) (h : ℕ) (b : List ℕ) → StoodWhole p m (suc h) b → AllByRecursion (Stood p h) (groups (span p.chunk p.width h) b)
  unfolding whole_blocks
  under_stood p m h b s =
      let cut = span p.chunk p.width h in
      let k = kept p s.profile in
      let two : 2 ≤ p.width = k.two in
      let pos : 1 ≤ cut = span-pos p.chunk p.width h k.some (omega arith) in
      let widths = width-split cut cut b pos (omega arith) in
      let joined_is : joined (groups cut b) ≡ b = joined-split cut cut b in
      each_stood p s.profile h (groups cut b) (widths.0, widths.1) (omega (arith, s.few, ap length joined_is)) s.all.1

  -- a file of one piece alone has no metadata
  no_meta : (p : Profile) (m : Meta) (b : List ℕ) → StoodWhole p m 0 b → m ≡ none
  no_meta p m b s = by (is_bare m) refl
    where
      by : (t : Bool) → is_bare m ≡ t → m ≡ none
      by true e = bare-none m e
      by false e = let one : lowest m ≡ 1 = lowest-carried m e in let low : lowest m ≤ 0 = s.height.enough in absurd (omega arith)

  -- the metadata and the bytes are one where the roots have one CID, of whatever profiles and heights
  pub same_whole : (p q : Profile) (m n : Meta) (h k : ℕ) (a b : List ℕ) → StoodWhole p m h a → StoodWhole q n k b → (whole p m h a).entry.cid ≡ (whole q n k b).entry.cid → (m ≡ n) × (a ≡ b)
  unfolding whole_part whole_blocks
  same_whole p q m n zero zero a b s r e = (no_meta p m a s ∙ sym (no_meta q n b r), one_block held (whole p m zero a).entry.cid (whole q n zero b).entry.cid a b e s.all.0 r.all.0)
  same_whole p q m n zero (suc k) a b s r e = absurd (leaf_or_node (ap (λ (c : Cid). codec_byte c.codec) e))
  same_whole p q m n (suc h) zero a b s r e = absurd (leaf_or_node (sym (ap (λ (c : Cid). codec_byte c.codec) e)))
  same_whole p q m n (suc h) (suc k) a b s r e =
      let blocks = one_block held (whole p m (suc h) a).entry.cid (whole q n (suc k) b).entry.cid _ _ e s.all.0 r.all.0 in
      let nodes = one_file_node (root_node m (root_parts p h a)) (root_node n (root_parts q k b)) (whole_valid p m h a s) (whole_valid q n k b r) blocks in
      let groups_same = same_groups p q h k (same_bytes p q h k) (groups (span p.chunk p.width h) a) (groups (span q.chunk q.width k) b) (under_stood p m h a s) (under_stood q n k b r) (ap (λ (n : FileNode). cids n.parts) nodes) in (
        ap (λ (n : FileNode). n.meta) nodes,
        sym (joined-split (span p.chunk p.width h) (span p.chunk p.width h) a) ∙ ap joined groups_same ∙ joined-split (span q.chunk q.width k) (span q.chunk q.width k) b,
      )

  -- a file whose plan's blocks are held stands, with the height of its plan
  pub record Rooted (p : Profile) (m : Meta) (b : List ℕ) : Type 0 where
    pub height : ℕ
    pub entry : (file_plan X p m b).entry ≡ (whole p m height b).entry
    pub stood : StoodWhole p m height b

  not_long : (p : Profile) (b : List ℕ) → too_long p b ≡ None → length b ≤ p.chunk * 4194304
  not_long p b e = by (nat_lt (p.chunk * 4194304) (length b)) refl
    where
      by : (t : Bool) → nat_lt (p.chunk * 4194304) (length b) ≡ t → length b ≤ p.chunk * 4194304
      by true k = absurd (some (sym (ap (λ t. cond t (Some FileTooLong) None) k) ∙ e))
        where
          some : ◌≡◌ {A = Option Refusal} (Some FileTooLong) None → ⊥
          some e = cc
      by false k = grind (arith, nat_tests)

  pub file_rooted : (p : Profile) (m : Meta) (b : List ℕ) → IsTrue (is_profile p) → IsTrue (is_meta m) → too_long p b ≡ None → Holds held (file_plan X p m b).blocks → Rooted p m b
  file_rooted p m b ok carried fits all =
      let k = kept p ok in
      let r = file_plan-rows X p m b k.some k.two in
      let short : p.chunk ≤ 1048576 = k.short in
      let few : length b ≤ p.chunk * 4194304 = not_long p b fits in
      record {
        height = r.0;
        entry = r.1;
        stood = record {
          profile = ok;
          carried = carried;
          height = r.2;
          few = omega arith;
          all = plan-sub X p m b k.some k.two (λ (x : Held). held x.0 ≡ Some x.1) r.0 r.2.fits _ r.3 all;
        };
      }
