-- A file's plan is read as the file.
use Rattle.std.proofs.Common.{◌≡◌, ℕ, zero, suc, ◌+◌, ◌*◌, ◌^◌, ◌<◌, ◌≤◌, List, [], ◌∷◌, ◌++◌, length, length-append, map, refl, ap, arith, sym, subst, ◌∙◌, Option, None, Some, Ok, Bool, true, false, cond, append-nil}
use Rattle.std.specs.Prelude.{IsTrue, nat_lt}
use Rattle.std.specs.List.{AllByRecursion, flat_map}
use Rattle.std.proofs.lemmas.Bool.Decides.{nat_tests}
use Rattle.uf_cid.specs.Blocks.{Held, Lookup, Holds}
use Rattle.uf_tree.specs.declared.meta.Meta.{Meta}
use Rattle.uf_tree.specs.declared.nodes.Entry.{Entry}
use Rattle.uf_tree.specs.declared.nodes.Part.{Part}
use Rattle.uf_tree.specs.declared.profile.Profile.{Profile}
use Rattle.uf_tree.specs.Cutting.{joined}
use Rattle.uf_tree.specs.FilePlan.{file_plan, groups, node_over, root_node}
use Rattle.uf_tree.specs.FileSub.{span, part_over, blocks_over, lowest, whole_part, whole_blocks}
use Rattle.uf_tree.specs.Metas.{is_bare, is_meta, none}
use Rattle.uf_tree.specs.Nodes.{file_block}
use Rattle.uf_tree.specs.Profiles.{is_profile}
use Rattle.uf_tree.specs.TreePlan.{Refusal, FileTooLong, too_long}
use Rattle.uf_tree.specs.Validity.{IsHash}
use Rattle.uf_tree.proofs.Each.{front, back}
use Rattle.uf_tree.proofs.Groups.{joined-split, width-split}
use Rattle.uf_tree.proofs.MetaNumbers.{bare-none}
use Rattle.uf_tree.proofs.Rows.{file_plan-rows, lowest-carried, plan-sub}
use Rattle.uf_tree.proofs.Sub.{span-pos}
use Rattle.uf_tree.proofs.Told.{kept}
use Rattle.uf_tree.proofs.Valid.{file_node-valid, root_node-valid}
use Rattle.uf_lenient.specs.Reading.{◌>>◌, joined_parts, part_bytes}
use Rattle.uf_lenient.specs.declared.unixfs.Unixfs.TheVariants.{File}
use Rattle.uf_lenient.specs.Unixfs.{unixfs_of}
use Rattle.uf_lenient.proofs.Rereading.{file-reread}
use Rattle.uf_lenient.proofs.Within.{Gives, ReadsFile, gives-then, part-of-file}

-- a file of a single raw block has no metadata
no_root : (m : Meta) → lowest m ≤ 0 → m ≡ none
no_root m low = by (is_bare m) refl
  where
    by : (t : Bool) → is_bare m ≡ t → m ≡ none
    by true e = bare-none m e
    by false e = absurd (let one : lowest m ≡ 1 = lowest-carried m e in omega arith)

module _ (X : List ℕ → List ℕ) (good : IsHash X) (held : Lookup) where
  abbrev pub part : Profile → ℕ → List ℕ → Part
  part p h b = part_over X p.chunk p.width h b

  -- the blocks of the part of this height are held
  pub record PartHeld (p : Profile) (h : ℕ) (b : List ℕ) : Type 0 where
    pub profile : IsTrue (is_profile p)
    pub fits : length b ≤ span p.chunk p.width h
    pub few : length b < 2 ^ 63
    pub all : Holds held (blocks_over X p.chunk p.width h b)

  abbrev parts_below : Profile → ℕ → List ℕ → List Part
  parts_below p h b = map (part p h) (groups (span p.chunk p.width h) b)

  each_held : (p : Profile) → IsTrue (is_profile p) → (h : ℕ) (gs : List (List ℕ)) → AllByRecursion (λ g. length g ≤ span p.chunk p.width h) gs → length (joined gs) < 2 ^ 63
      → Holds held (flat_map (blocks_over X p.chunk p.width h) gs) → AllByRecursion (PartHeld p h) gs
  each_held p ok h [] widths few all = tt
  each_held p ok h (g ∷ gs) widths few all =
      let size : length (g ++ joined gs) ≡ length g + length (joined gs) = length-append g (joined gs) in
      let own = front (λ (b : Held). held b.0 ≡ Some b.1) (blocks_over X p.chunk p.width h g) (flat_map (blocks_over X p.chunk p.width h) gs) all in
      let others = back (λ (b : Held). held b.0 ≡ Some b.1) (blocks_over X p.chunk p.width h g) (flat_map (blocks_over X p.chunk p.width h) gs) all in
      (record { profile = ok; fits = widths.0; few = omega (arith, size, few); all = own }, each_held p ok h gs widths.1 (omega (arith, size, few)) others)

  pub groups_held : (p : Profile) (h : ℕ) (b : List ℕ) → IsTrue (is_profile p) → length b < 2 ^ 63 → Holds held (flat_map (blocks_over X p.chunk p.width h) (groups (span p.chunk p.width h) b))
      → AllByRecursion (PartHeld p h) (groups (span p.chunk p.width h) b)
  groups_held p h b ok few all =
      let cut = span p.chunk p.width h in
      let k = kept p ok in
      let two : 2 ≤ p.width = k.two in
      let pos : 1 ≤ cut = span-pos p.chunk p.width h k.some (omega arith) in
      let widths = width-split cut cut b pos (omega arith) in
      let whole : joined (groups cut b) ≡ b = joined-split cut cut b in
      each_held p ok h (groups cut b) (widths.0, widths.1) (omega (arith, few, ap length whole)) all

  pub below_held : (p : Profile) (h : ℕ) (b : List ℕ) → PartHeld p (suc h) b → AllByRecursion (PartHeld p h) (groups (span p.chunk p.width h) b)
  unfolding blocks_over
  below_held p h b s = groups_held p h b s.profile s.few s.all.1

  -- parts that stand one behind the other are read as their bytes
  parts_read : (f : List ℕ → Part) (gs : List (List ℕ)) → AllByRecursion (λ g. ReadsFile held (f g).entry.cid none g) gs → (left n : ℕ) → Gives (joined gs) (joined_parts (part_bytes held left) (node_over (map f gs)).parts n)
  parts_read f [] each left n = refl
  parts_read f (g ∷ gs) each left n =
      gives-then g (g ++ joined gs) (part_bytes held left (f g).entry.cid n) (λ bytes m. joined_parts (part_bytes held left) (node_over (map f gs)).parts m >> λ more k. Ok (bytes ++ more, k))
      (part-of-file held (f g).entry.cid none g each.0 left n)
      (λ m. gives-then (joined gs) (g ++ joined gs) (joined_parts (part_bytes held left) (node_over (map f gs)).parts m) (λ more k. Ok (g ++ more, k)) (parts_read f gs each.1 left m) (λ k. refl))

  each_read : (p : Profile) (h : ℕ) → ((b : List ℕ) → PartHeld p h b → ReadsFile held (part p h b).entry.cid none b) → (gs : List (List ℕ)) → AllByRecursion (PartHeld p h) gs → AllByRecursion (λ g. ReadsFile held (part p h g).entry.cid none g) gs
  each_read p h one [] each = tt
  each_read p h one (g ∷ gs) each = (one g each.0, each_read p h one gs each.1)

  -- a part whose blocks are held is read as the file of its bytes
  pub part-read : (p : Profile) (h : ℕ) (b : List ℕ) → PartHeld p h b → ReadsFile held (part p h b).entry.cid none b
  unfolding part_over blocks_over unixfs_of
  part-read p zero b s = record { block = b; bytes = b; links = []; is_held = s.all.0; says = refl; below = λ left n. append-nil b }
  part-read p (suc h) b s =
      let one = part-read p h in
      let cut = span p.chunk p.width h in
      let parts = (node_over (parts_below p h b)).parts in
      let each = each_read p h one (groups cut b) (below_held p h b s) in
      record {
        block = file_block (node_over (parts_below p h b));
        bytes = [];
        links = parts;
        is_held = s.all.0;
        says = file-reread (X (file_block (node_over (parts_below p h b)))) (node_over (parts_below p h b)) (file_node-valid X good p s.profile h b s.fits s.few);
        below = λ left n. gives-then (joined (groups cut b)) b (joined_parts (part_bytes held left) parts n) (λ more j. Ok ([] ++ more, j)) (parts_read (part p h) (groups cut b) each left n) (λ j. joined-split cut cut b);
      }

  not_long : (p : Profile) (b : List ℕ) → too_long p b ≡ None → length b ≤ p.chunk * 4194304
  not_long p b e = by (nat_lt (p.chunk * 4194304) (length b)) refl
    where
      by : (t : Bool) → nat_lt (p.chunk * 4194304) (length b) ≡ t → length b ≤ p.chunk * 4194304
      by true k = absurd (some (sym (ap (λ t. cond t (Some FileTooLong) None) k) ∙ e))
        where
          some : ◌≡◌ {A = Option Refusal} (Some FileTooLong) None → ⊥
          some e = cc
      by false k = grind (arith, nat_tests)

  abbrev pub whole : Profile → Meta → ℕ → List ℕ → Part
  whole p m h b = whole_part X p.chunk p.width m h b

  -- the blocks of a whole file of this height are held
  pub record WholeHeld (p : Profile) (m : Meta) (h : ℕ) (b : List ℕ) : Type 0 where
    pub profile : IsTrue (is_profile p)
    pub meta : IsTrue (is_meta m)
    pub fits : length b ≤ span p.chunk p.width h
    pub enough : lowest m ≤ h
    pub few : length b < 2 ^ 63
    pub all : Holds held (whole_blocks X p.chunk p.width m h b)

  pub below_root : (p : Profile) (m : Meta) (h : ℕ) (b : List ℕ) → WholeHeld p m (suc h) b → AllByRecursion (PartHeld p h) (groups (span p.chunk p.width h) b)
  unfolding whole_blocks blocks_over
  below_root p m h b s = groups_held p h b s.profile s.few s.all.1

  -- a whole file whose blocks are held is read as the file of its metadata and its bytes
  whole_read : (p : Profile) (m : Meta) (h : ℕ) (b : List ℕ) → WholeHeld p m h b → ReadsFile held (whole p m h b).entry.cid m b
  unfolding whole_part whole_blocks part_over blocks_over unixfs_of
  whole_read p m zero b s = record {
    block = b;
    bytes = b;
    links = [];
    is_held = s.all.0;
    says = ap (λ (x : Meta). Ok (File x b [])) (sym (no_root m s.enough));
    below = λ left n. append-nil b;
  }
  whole_read p m (suc h) b s =
      let cut = span p.chunk p.width h in
      let node = root_node m (parts_below p h b) in
      let each = each_read p h (part-read p h) (groups cut b) (below_root p m h b s) in
      record {
        block = file_block node;
        bytes = [];
        links = node.parts;
        is_held = s.all.0;
        says = file-reread (X (file_block node)) node (root_node-valid X good p s.profile m s.meta h b s.fits s.few);
        below = λ left n. gives-then (joined (groups cut b)) b (joined_parts (part_bytes held left) node.parts n) (λ more j. Ok ([] ++ more, j)) (parts_read (part p h) (groups cut b) each left n) (λ j. joined-split cut cut b);
      }

  -- the whole file of a file's height, where the blocks of the file's plan are held
  pub file-held : (p : Profile) (m : Meta) (b : List ℕ) (ok : IsTrue (is_profile p)) → IsTrue (is_meta m) → too_long p b ≡ None → Holds held (file_plan X p m b).blocks
      → let k = kept p ok in WholeHeld p m (file_plan-rows X p m b k.some k.two).0 b
  file-held p m b ok carried fits all =
      let k = kept p ok in
      let r = file_plan-rows X p m b k.some k.two in
      let short : p.chunk ≤ 1048576 = k.short in
      let few : length b ≤ p.chunk * 4194304 = not_long p b fits in
      record {
        profile = ok;
        meta = carried;
        fits = r.2.fits;
        enough = r.2.enough;
        few = omega arith;
        all = plan-sub X p m b k.some k.two (λ (x : Held). held x.0 ≡ Some x.1) r.0 r.2.fits _ r.3 all;
      }

  -- a file whose plan's blocks are held
  pub file-read : (p : Profile) (m : Meta) (b : List ℕ) → IsTrue (is_profile p) → IsTrue (is_meta m) → too_long p b ≡ None → Holds held (file_plan X p m b).blocks
      → ReadsFile held (file_plan X p m b).entry.cid m b
  file-read p m b ok carried fits all =
      let k = kept p ok in
      let r = file_plan-rows X p m b k.some k.two in
      subst (λ c. ReadsFile held c m b) (sym (ap (λ (e : Entry). e.cid) r.1)) (whole_read p m r.0 b (file-held p m b ok carried fits all))
