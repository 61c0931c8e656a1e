-- Readings that give a value unless a limit ends them, one behind the other.
use Rattle.std.proofs.Common.{◌≡◌, ℕ, zero, suc, pred, List, ◌++◌, refl, sym, ap, subst, Result, Ok, Err}
use Rattle.std.specs.Prelude.{Some, None}
use Rattle.std.specs.declared.option.Option.{Option}
use Rattle.uf_cid.specs.Blocks.{Lookup}
use Rattle.uf_cid.specs.declared.cid.Cid.{Cid}
use Rattle.uf_dagpb.specs.declared.node.Link.{Link}
use Rattle.uf_store.specs.declared.store.StoreFault.TheVariants.{Missing}
use Rattle.uf_tree.specs.declared.meta.Meta.{Meta}
use Rattle.uf_tree.specs.Tree.{File as FileTree}
use Rattle.uf_lenient.specs.declared.fault.DagFault.{DagFault}
use Rattle.uf_lenient.specs.declared.fault.DagFault.TheVariants.{Store}
use Rattle.uf_lenient.specs.declared.gathered.Gathered.TheVariants.{File as IsFile}
use Rattle.uf_lenient.specs.declared.unixfs.Unixfs.{Unixfs}
use Rattle.uf_lenient.specs.declared.unixfs.Unixfs.TheVariants.{File}
use Rattle.uf_lenient.specs.Reading.{◌>>◌, Visits, completed, gathered, gathers, joined_parts, loads, part_bytes, unvisited, tree_within, visit_of}
use Rattle.uf_lenient.specs.Unixfs.{as_part, unixfs_of}
use Rattle.uf_lenient.specs.Within.{IsLimit}

-- the answer is this, or a limit ended the reading
abbrev pub Gives : {A : Type 0} → A → Visits A → Type 0
Gives a (Ok x) = x.0 ≡ a
Gives a (Err e) = IsLimit e

-- what holds behind one answer holds behind the reading that gives it, where it holds of limits
pub gives-on : {A B : Type 0} (P : Visits B → Type 0) → ((e : DagFault) → IsLimit e → P (Err e)) → (a : A) (r : Visits A) (f : A → ℕ → Visits B) → Gives a r → ((n : ℕ) → P (f a n)) → P (r >> f)
gives-on P limits a (Ok x) f is next = subst (λ v. P (f v x.1)) (sym is) (next x.1)
gives-on P limits a (Err e) f is next = limits e is

pub gives-then : {A B : Type 0} (a : A) (b : B) (r : Visits A) (f : A → ℕ → Visits B) → Gives a r → ((n : ℕ) → Gives b (f a n)) → Gives b (r >> f)
gives-then a b r f is next = gives-on (Gives b) (λ e h. h) a r f is next

module _ (held : Lookup) where
  load_gives : (c : Cid) (bytes : List ℕ) → held c ≡ Some bytes → (left n : ℕ) → Gives bytes (loads held left c n)
  load_gives c bytes is zero n = tt
  load_gives c bytes is (suc left) zero = tt
  load_gives c bytes is (suc left) (suc n) = subst (λ (o : Option (List ℕ)). Gives bytes (elim o [ None ↦ Err (Store (Missing c)) | Some b ↦ Ok (b, n) ])) (sym is) refl

  -- a block that is held is visited as what it is
  pub visit-gives : (c : Cid) (bytes : List ℕ) (u : Unixfs) → held c ≡ Some bytes → unixfs_of c bytes ≡ Ok u → (left n : ℕ) → Gives u (visit_of held left c n)
  visit-gives c bytes u is says left n =
      gives-then bytes u (loads held left c n) (λ b m. unvisited m (unixfs_of c b)) (load_gives c bytes is left n) (λ m. subst (λ (r : Result Unixfs DagFault). Gives u (unvisited m r)) (sym says) refl)

  -- what is held under a CID is read as the file of this metadata and these bytes
  pub record ReadsFile (c : Cid) (meta : Meta) (b : List ℕ) : Type 0 where
    pub block : List ℕ
    pub bytes : List ℕ
    pub links : List Link
    pub is_held : held c ≡ Some block
    pub says : unixfs_of c block ≡ Ok (File meta bytes links)
    pub below : (left n : ℕ) → Gives b (joined_parts (part_bytes held left) links n >> λ more j. Ok (bytes ++ more, j))

  pub part-of-file : (c : Cid) (meta : Meta) (b : List ℕ) → ReadsFile c meta b → (left n : ℕ) → Gives b (part_bytes held left c n)
  unfolding part_bytes
  part-of-file c meta b r zero n = tt
  part-of-file c meta b r (suc left) n =
      gives-then (File meta r.bytes r.links) b (visit_of held (suc left) c n) (λ u m. unvisited m (as_part c u) >> λ own k. joined_parts (part_bytes held left) own.1 k >> λ more j. Ok (own.0 ++ more, j))
      (visit-gives c r.block (File meta r.bytes r.links) r.is_held r.says (suc left) n) (λ m. r.below left m)

  as_tree : (meta : Meta) (own b : List ℕ) (s : Visits (List ℕ)) → Gives b (s >> λ more j. Ok (own ++ more, j)) → Gives (FileTree meta b) (s >> λ more m. Ok (FileTree meta (own ++ more), m))
  as_tree meta own b (Ok x) is = ap (FileTree meta) is
  as_tree meta own b (Err e) is = is

  pub tree-of-file : (c : Cid) (meta : Meta) (b : List ℕ) → ReadsFile c meta b → (room left n : ℕ) → Gives (FileTree meta b) (tree_within held room left c n)
  unfolding tree_within gathered
  tree-of-file c meta b r zero left n = tt
  tree-of-file c meta b r (suc room) left n =
      gives-then (IsFile meta r.bytes r.links) (FileTree meta b) (gathered held left c n) (λ g m. completed held (tree_within held room) (pred left) g m)
      (gives-then (File meta r.bytes r.links) (IsFile meta r.bytes r.links) (visit_of held left c n) (λ u m. gathers held (pred left) c u m) (visit-gives c r.block (File meta r.bytes r.links) r.is_held r.says left n) (λ m. refl))
      (λ m. as_tree meta r.bytes b (joined_parts (part_bytes held (pred left)) r.links m) (r.below (pred left) m))
