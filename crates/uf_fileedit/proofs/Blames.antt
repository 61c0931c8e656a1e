-- What a call that changes a file shows of a bad block.
use Rattle.std.proofs.Common.{◌≡◌, ◌≢◌, ℕ, zero, suc, ◌+◌, ◌-◌, ◌<◌, ◌≤◌, List, [], ◌∷◌, length, get_or, refl, ap, arith, sym, ◌∙◌, subst, add-one, true, false, Option, None, Some, ◌⊎◌, inl, inr, Result, Ok, Err, IsTrue}
use Rattle.std.specs.Prelude.{IfOk, IfSome, slice_get}
use Rattle.std.specs.List.{Contains}
use Rattle.uf_cid.specs.declared.bytes.StrictFault.TheVariants.{NotCanonical, Memory as StrictMemory}
use Rattle.uf_cid.specs.declared.cid.Cid.{Cid}
use Rattle.uf_cid.specs.declared.cid.Codec.{Codec}
use Rattle.uf_cid.specs.declared.cid.Codec.TheVariants.{Raw, DagPb}
use Rattle.uf_fileread.specs.Parts.{parts_block}
use Rattle.uf_fileread.specs.declared.node_parts.NodeParts.{NodeParts}
use Rattle.uf_fileread.specs.Ranges.{IsFile}
use Rattle.uf_store.specs.Contents.{Told}
use Rattle.uf_store.specs.Faults.{Answers, Shows, ShowsBadBlock, StaysCalm}
use Rattle.uf_store.specs.Keeping.{HoldsOne, KeepsGood}
use Rattle.uf_store.specs.Seen.{Finds, Seen}
use Rattle.uf_store.specs.declared.store.Role.{Role}
use Rattle.uf_store.specs.declared.store.Role.TheVariants.{FileNode as FileRole, Leaf}
use Rattle.uf_store.specs.declared.store.StoreFault.{StoreFault}
use Rattle.uf_store.specs.declared.store.StoreFault.TheVariants.{Failed, Damaged, Missing, BadBlock, Clash, Memory}
use Rattle.uf_store.proofs.Causes.{Shows-after, Shows-by, StaysCalm-trans, calm-memory}
use Rattle.uf_store.proofs.Keeping.{KeepsGood-same}
use Rattle.uf_tree.specs.declared.meta.Meta.{Meta}
use Rattle.uf_tree.specs.declared.nodes.Part.{Part}
use Rattle.uf_tree.specs.declared.profile.Profile.{Profile}
use Rattle.uf_tree.specs.FileSub.{IsHeight}
use Rattle.uf_tree.specs.Profiles.{is_profile}
use Rattle.uf_tree.specs.Roles.{Below, IsCanonicalFileNode, Root}
use Rattle.uf_tree.proofs.Canonical.{few_rows}
use Rattle.uf_tree.proofs.Told.{kept}
use Rattle.uf_fileedit.specs.Bad.{IsBadEdited, IsBadPlaced, IsUnder, place_at, way_size}
use Rattle.uf_fileedit.specs.Planned.{IsLaidOut, IsPlannedNode, bytes_over, is_of_height, leaf_alone, role_at}
use Rattle.uf_fileedit.specs.Roots.{IsRootIn, SaysRoot}
use Rattle.uf_fileedit.specs.Ways.{IsBadAmongOld, IsBadOld, StandBelow, StandUnderRoot, Stands}
use Rattle.uf_fileedit.proofs.Ways.{canonical-laid, child-stands, node-bad, node_place, one_total, root-stands-at, some_bytes, under-kept}

-- a block that was found is under its CID
found-under : (hash : List ℕ → List ℕ) (cid : Cid) (before now : Seen) → Finds hash cid before now → IsUnder hash now.told cid now.lent
found-under hash cid before now found = record { digest = found.digest; is_held = subst (λ (t : Told). HoldsOne t cid now.lent) (sym found.same_told) found.is_held }

shows-bad : (hash : List ℕ → List ℕ) (Bad : Role → List ℕ → Type 0) (cid : Cid) (role : Role) (before now : Seen) → Finds hash cid before now → StaysCalm before now → Bad role now.lent → ShowsBadBlock hash Bad cid role before now
shows-bad hash Bad cid role before now found calm bad = record {
  rose = found.counted.finds.rose refl;
  digest = found.digest;
  is_held = subst (λ (t : Told). HoldsOne t cid now.lent) (sym found.same_told) found.is_held;
  bad = bad;
  calm = calm;
}

-- ---- the root

root-first : (hash : List ℕ → List ℕ) (p : Profile) (cid : Cid) (role : Role) (before now : Seen) → role ≡ role_at cid.codec → Finds hash cid before now → StaysCalm before now → IsBadPlaced p Root None (role_at cid.codec) now.lent
    → ShowsBadBlock hash (IsBadEdited hash p now.told cid) cid role before now
root-first hash p cid role before now is found calm bad =
    shows-bad hash (IsBadEdited hash p now.told cid) cid role before now found calm (inl (record {
      role_is = is;
      is_under = found-under hash cid before now found;
      bad = subst (λ (r : Role). IsBadPlaced p Root None r now.lent) (sym is) bad;
    }))

-- a block that isn't a file's root at all
pub root-unread : (hash : List ℕ → List ℕ) (p : Profile) (cid : Cid) (lent : List ℕ) (before now : Seen) (fault : StoreFault) → Finds hash cid before now → StaysCalm before now → lent ≡ now.lent → SaysRoot cid lent (Err fault)
    → Shows hash (IsBadEdited hash p now.told cid) fault before now
root-unread hash p cid lent before now Failed found calm same says = absurd says
root-unread hash p cid lent before now (Damaged c) found calm same says = absurd says
root-unread hash p cid lent before now (Missing c) found calm same says = absurd says
root-unread hash p cid lent before now (BadBlock c role) found calm same says =
    subst (λ (d : Cid). ShowsBadBlock hash (IsBadEdited hash p now.told cid) d role before now) (sym says.same)
    (root-first hash p cid role before now (says.role_is ∙ ap role_at (sym says.codec)) found calm
    (subst (λ (r : Role). IsBadPlaced p Root None r now.lent) (ap role_at (sym says.codec)) (λ canonical. says.none canonical.node canonical.valid (same ∙ canonical.is))))
root-unread hash p cid lent before now (Clash c x y) found calm same says = absurd says
root-unread hash p cid lent before now Memory found calm same says = calm-memory before now calm

bad_root : (p : Profile) → IsTrue (is_profile p) → (codec : Codec) (cid : Cid) (lent : List ℕ) (root : NodeParts) → cid.codec ≡ codec → IsRootIn codec cid lent root → (IsLaidOut p codec root → ⊥) → IsBadPlaced p Root None (role_at codec) lent
bad_root p ok Raw cid lent root is says refuses = λ canonical. refuses (record {
  single = λ few. ap (λ (n : NodeParts). leaf_alone n.parts) says ∙ ap (is_of_height 0) is;
  many = λ more. absurd (
      let total : bytes_over root.parts ≡ length lent = ap (λ (n : NodeParts). bytes_over n.parts) says ∙ one_total p ok (record { entry = record { cid = cid; tsize = length lent }; size = length lent }) in
      let short : length lent ≤ p.chunk = canonical.short in
      omega arith);
})
bad_root p ok DagPb cid lent root is says refuses = λ canonical. refuses (canonical-laid p ok lent root says.0 says.1 canonical)

-- a root that isn't laid out
pub root-bad : (hash : List ℕ → List ℕ) (p : Profile) → IsTrue (is_profile p) → (cid : Cid) (role : Role) (lent : List ℕ) (root : NodeParts) (before now : Seen) → role ≡ role_at cid.codec → Finds hash cid before now → StaysCalm before now → lent ≡ now.lent
    → IsRootIn cid.codec cid lent root → (IsLaidOut p cid.codec root → ⊥) → ShowsBadBlock hash (IsBadEdited hash p now.told cid) cid role before now
root-bad hash p ok cid role lent root before now is found calm same says refuses =
    root-first hash p cid role before now is found calm (subst (IsBadPlaced p Root None (role_at cid.codec)) same (bad_root p ok cid.codec cid lent root refl says refuses))

pub root-stands : (hash : List ℕ → List ℕ) (p : Profile) → IsTrue (is_profile p) → (cid : Cid) (lent : List ℕ) (root : NodeParts) (before now : Seen) → Finds hash cid before now → lent ≡ now.lent → IsRootIn cid.codec cid lent root → IsLaidOut p cid.codec root
    → StandUnderRoot hash p before.told cid root
root-stands hash p ok cid lent root before now found same says laid = λ later rows keeps high m among.
    root-stands-at hash p ok later cid root lent
    (under-kept hash before.told later cid lent keeps (subst (IsUnder hash before.told cid) (sym same) (subst (λ (t : Told). IsUnder hash t cid now.lent) found.same_told (found-under hash cid before now found))))
    rows high m among cid.codec refl says laid

-- ---- nodes and leaves below it

node_role : (k : ℕ) (c : Codec) → is_of_height (suc k) c ≡ true → FileRole ≡ role_at c
node_role k Raw h = absurd (let no : false ≡ true = h in cc)
node_role k DagPb h = refl

leaf_role : (c : Codec) → is_of_height zero c ≡ true → Leaf ≡ role_at c
leaf_role Raw h = refl
leaf_role DagPb h = absurd (let no : false ≡ true = h in cc)

node_blamed : (hash : List ℕ → List ℕ) (p : Profile) (ok : IsTrue (is_profile p)) (told : Told) (root : Cid) (rows k : ℕ) (part : Part) (bytes : List ℕ) → IsUnder hash told part.entry.cid bytes
    → ((parts : NodeParts) → IsPlannedNode p rows k part.size parts → bytes ≢ parts_block parts) → Stands hash p told root rows (suc k) part → IsBadEdited hash p told root FileRole bytes
node_blamed hash p ok told root rows k part bytes is_under refuses stands =
    let place = node_place hash p ok told root rows k part stands in
    inr (record {
      whole = stands.whole;
      says = stands.says;
      way = stands.way;
      is_way = stands.is_way;
      role_is = node_role k part.entry.cid.codec stands.codec ∙ ap (λ (c : Cid). role_at c.codec) stands.cid_is;
      is_under = subst (λ (c : Cid). IsUnder hash told c bytes) stands.cid_is is_under;
      bad = bad_at stands.whole stands.way place.count place.below stands.size_is place.high;
    })
  where
    bad_at : (whole : ℕ) (way : List Part) → length way + suc k ≡ rows → 1 ≤ length way → part.size ≡ way_size whole way → IsHeight p.chunk p.width whole rows → IsCanonicalFileNode (Some p) (place_at whole way) bytes → ⊥
    bad_at whole [] count below size high canonical = absurd (omega arith)
    bad_at whole (x ∷ way) count below size high canonical =
        node-bad p ok rows (length way) k whole part.size bytes refuses count (some_bytes hash p ok told root rows k part stands) high
        (subst (λ n. IsCanonicalFileNode (Some p) (Below (suc (length way)) n whole) bytes) (sym size) canonical)

leaf_blamed : (hash : List ℕ → List ℕ) (p : Profile) (told : Told) (root : Cid) (rows : ℕ) (part : Part) (bytes : List ℕ) → IsUnder hash told part.entry.cid bytes → length bytes ≢ part.size
    → Stands hash p told root rows zero part → IsBadEdited hash p told root Leaf bytes
leaf_blamed hash p told root rows part bytes is_under differs stands = inr (record {
  whole = stands.whole;
  says = stands.says;
  way = stands.way;
  is_way = stands.is_way;
  role_is = leaf_role part.entry.cid.codec stands.codec ∙ ap (λ (c : Cid). role_at c.codec) stands.cid_is;
  is_under = subst (λ (c : Cid). IsUnder hash told c bytes) stands.cid_is is_under;
  bad = λ canonical. differs (canonical.size ∙ sym stands.size_is);
})

at_node : (hash : List ℕ → List ℕ) (p : Profile) (told : Told) (root : Cid) (rows k : ℕ) (part : Part) → Stands hash p told root rows (k + 1) part → Stands hash p told root rows (suc k) part
at_node hash p told root rows k part h = subst (λ n. Stands hash p told root rows n part) (add-one k) h

pub load-bad : (hash : List ℕ → List ℕ) (p : Profile) (ok : IsTrue (is_profile p)) (rows k : ℕ) (part : Part) (lent : List ℕ) (before now : Seen) → Finds hash part.entry.cid before now → StaysCalm before now → lent ≡ now.lent
    → (NotCanonical ≡ StrictMemory) ⊎ ((parts : NodeParts) → IsPlannedNode p rows k part.size parts → lent ≢ parts_block parts)
    → ShowsBadBlock hash (IsBadOld hash p now.told rows (k + 1) (Some part)) part.entry.cid FileRole before now
load-bad hash p ok rows k part lent before now found calm same refuses =
    shows-bad hash (IsBadOld hash p now.told rows (k + 1) (Some part)) part.entry.cid FileRole before now found calm
    (λ root stands. node_blamed hash p ok now.told root rows k part now.lent (found-under hash part.entry.cid before now found)
    (subst (λ (l : List ℕ). (parts : NodeParts) → IsPlannedNode p rows k part.size parts → l ≢ parts_block parts) same (by refuses)) (at_node hash p now.told root rows k part stands))
  where
    differ : NotCanonical ≡ StrictMemory → ⊥
    differ e = cc

    by : (NotCanonical ≡ StrictMemory) ⊎ ((parts : NodeParts) → IsPlannedNode p rows k part.size parts → lent ≢ parts_block parts) → (parts : NodeParts) → IsPlannedNode p rows k part.size parts → lent ≢ parts_block parts
    by (inl e) = absurd (differ e)
    by (inr h) = h

pub leaf-bad : (hash : List ℕ → List ℕ) (p : Profile) (rows : ℕ) (part : Part) (lent : List ℕ) (before now : Seen) → Finds hash part.entry.cid before now → StaysCalm before now → lent ≡ now.lent → length lent ≢ part.size
    → ShowsBadBlock hash (IsBadOld hash p now.told rows 0 (Some part)) part.entry.cid Leaf before now
leaf-bad hash p rows part lent before now found calm same differs =
    shows-bad hash (IsBadOld hash p now.told rows 0 (Some part)) part.entry.cid Leaf before now found calm
    (λ root stands. leaf_blamed hash p now.told root rows part now.lent (found-under hash part.entry.cid before now found) (λ e. differs (ap length same ∙ e)) stands)

-- ---- which parts stand

pub load-stands : (hash : List ℕ → List ℕ) (p : Profile) (ok : IsTrue (is_profile p)) (rows k : ℕ) (part : Part) (parts : NodeParts) (lent : List ℕ) (before now : Seen) → Finds hash part.entry.cid before now → lent ≡ now.lent
    → IsPlannedNode p rows k part.size parts × (lent ≡ parts_block parts) → StandBelow hash p before.told rows (k + 1) (Some part) k parts.parts
load-stands hash p ok rows k part parts lent before now found same read = λ later root keeps stands m among.
    child-stands hash p ok later root rows k part (at_node hash p later root rows k part stands) parts m
    (under-kept hash before.told later part.entry.cid (parts_block parts) keeps
    (subst (IsUnder hash before.told part.entry.cid) (sym same ∙ read.1) (subst (λ (t : Told). IsUnder hash t part.entry.cid now.lent) found.same_told (found-under hash part.entry.cid before now found)))) read.0 among

contains_one : (m x : Part) → Contains (m ∷ []) x → m ≡ x
contains_one m x (zero, low, e) = e
contains_one m x (suc i, low, e) = absurd (omega arith)

pub one-stands : (hash : List ℕ → List ℕ) (p : Profile) (before : Told) (rows k j : ℕ) (old : Option Part) (part : Part) (parts : List Part) → old ≡ Some part → parts ≡ part ∷ [] → k ≡ j → StandBelow hash p before rows k old j parts
one-stands hash p before rows k j old part parts some one same = λ later root keeps stands m among.
    let here : Stands hash p later root rows k part = subst (λ (o : Option Part). IfSome o (Stands hash p later root rows k)) some stands in
    subst (Stands hash p later root rows j) (contains_one part m (subst (λ (l : List Part). Contains l m) one among)) (subst (λ n. Stands hash p later root rows n part) same here)

pub none-stands : (hash : List ℕ → List ℕ) (p : Profile) (before : Told) (rows k j : ℕ) (old : Option Part) (parts : List Part) → parts ≡ [] → StandBelow hash p before rows k old j parts
none-stands hash p before rows k j old parts none = λ later root keeps stands m among.
    absurd (let low : among.0 < length parts = among.1 in let e : length parts ≡ 0 = ap length none in omega arith)

-- read at other heights that are the same
pub stands-at : (hash : List ℕ → List ℕ) (p : Profile) (before : Told) (rows k k' j j' : ℕ) (old old' : Option Part) (r : Result (List Part) StoreFault) → k ≡ k' → j ≡ j' → old' ≡ old
    → IfOk r (StandBelow hash p before rows k old j) → IfOk r (StandBelow hash p before rows k' old' j')
stands-at hash p before rows k k' j j' old old' r e f some h =
    subst (λ n. IfOk r (StandBelow hash p before rows n old' j')) e (subst (λ n. IfOk r (StandBelow hash p before rows k old' n)) f (subst (λ (o : Option Part). IfOk r (StandBelow hash p before rows k o j)) (sym some) h))

pub old-at : {A : Type 0} (hash : List ℕ → List ℕ) (p : Profile) (told : Told) (rows k j : ℕ) (old old' : Option Part) (r : Result A StoreFault) (before now : Seen) → k ≡ j → old' ≡ old
    → Answers hash (IsBadOld hash p told rows k old) r before now → Answers hash (IsBadOld hash p told rows j old') r before now
old-at hash p told rows k j old old' r before now e some h =
    subst (λ n. Answers hash (IsBadOld hash p told rows n old') r before now) e (subst (λ (o : Option Part). Answers hash (IsBadOld hash p told rows k o) r before now) (sym some) h)

-- ---- what is bad below an old part is bad in its file

pub below-shows : (hash : List ℕ → List ℕ) (p : Profile) (rows k j : ℕ) (old : Option Part) (parts slice : List Part) (fault : StoreFault) (a b c : Seen) → slice ≡ parts → StandBelow hash p a.told rows k old j parts → b.told ≡ a.told → KeepsGood hash b.told c.told → StaysCalm a b
    → Shows hash (IsBadAmongOld hash p c.told rows j slice) fault b c → Shows hash (IsBadOld hash p c.told rows k old) fault a c
below-shows hash p rows k j old parts slice fault a b c sliced stand same keeps calm h =
    Shows-after hash (IsBadOld hash p c.told rows k old) fault a b c calm
    (Shows-by hash (IsBadAmongOld hash p c.told rows j slice) (IsBadOld hash p c.told rows k old) fault b c
    (λ role bytes bad root stands. bad root (λ m among. stand c.told root (subst (λ (t : Told). KeepsGood hash t c.told) same keeps) stands m (subst (λ (l : List Part). Contains l m) sliced among))) h)

at_all : (P : Part → Type 0) (l : List Part) → ((m : Part) → Contains l m → P m) → (i : ℕ) → IfSome (slice_get l i) P
at_all P [] all i = tt
at_all P (m ∷ l) all zero = all m (0, (let e : 0 < length (m ∷ l) = omega arith in e), refl)
at_all P (m ∷ l) all (suc i) = at_all P l (λ x c. all x (suc c.0, (let low : c.0 < length l = c.1 in let e : suc c.0 < length (m ∷ l) = omega arith in e), c.2)) i

pub turn-shows : (hash : List ℕ → List ℕ) (p : Profile) (rows j i : ℕ) (olds : List Part) (old : Option Part) (fault : StoreFault) (a b c : Seen) → old ≡ slice_get olds i → StaysCalm a b
    → Shows hash (IsBadOld hash p c.told rows j old) fault b c → Shows hash (IsBadAmongOld hash p c.told rows j olds) fault a c
turn-shows hash p rows j i olds old fault a b c at calm h =
    Shows-after hash (IsBadAmongOld hash p c.told rows j olds) fault a b c calm
    (Shows-by hash (IsBadOld hash p c.told rows j old) (IsBadAmongOld hash p c.told rows j olds) fault b c
    (λ role bytes bad root all. bad root (subst (λ (o : Option Part). IfSome o (Stands hash p c.told root rows j)) (sym at) (at_all (Stands hash p c.told root rows j) olds all i))) h)

-- ---- the first part of a lesser height

module _ (hash : List ℕ → List ℕ) (p : Profile) (rows k top : ℕ) (root first d : Part) (parts : List Part) (a b : Seen) (up : top ≡ k + 1) (first_is : first ≡ get_or parts 0 d) (some : 1 ≤ length parts)
    (stand : StandBelow hash p a.told rows (k + 1) (Some root) k parts) (same : b.told ≡ a.told) where
  first_in : Contains parts first
  first_in = by parts some first_is
    where
      by : (l : List Part) → 1 ≤ length l → first ≡ get_or l 0 d → Contains l first
      by [] few is = absurd (omega arith)
      by (m ∷ l) few is = (0, few, sym is)

  first_stands : (later : Told) (cid : Cid) → KeepsGood hash a.told later → Stands hash p later cid rows top root → Stands hash p later cid rows k first
  first_stands later cid keeps stands = stand later cid keeps (subst (λ n. Stands hash p later cid rows n root) up stands) first first_in

  pub front-stands : (j j' : ℕ) (r : Result Part StoreFault) → j ≡ j' → IfOk r (λ m. StandBelow hash p b.told rows k (Some first) j (m ∷ [])) → IfOk r (λ m. StandBelow hash p a.told rows top (Some root) j' (m ∷ []))
  front-stands j j' (Ok m) e h = λ later cid keeps stands x among.
      subst (λ n. Stands hash p later cid rows n x) e (h later cid (subst (λ (t : Told). KeepsGood hash t later) (sym same) keeps) (first_stands later cid keeps stands) x among)
  front-stands j j' (Err fault) e h = tt

  pub front-shows : {A : Type 0} (r : Result A StoreFault) (c : Seen) → c.told ≡ b.told → StaysCalm a b → Answers hash (IsBadOld hash p c.told rows k (Some first)) r b c → Answers hash (IsBadOld hash p c.told rows top (Some root)) r a c
  front-shows (Ok m) c kept calm h = StaysCalm-trans a b c calm h
  front-shows (Err fault) c kept calm h =
      Shows-after hash (IsBadOld hash p c.told rows top (Some root)) fault a b c calm
      (Shows-by hash (IsBadOld hash p c.told rows k (Some first)) (IsBadOld hash p c.told rows top (Some root)) fault b c
      (λ role bytes bad cid stands. bad cid (first_stands c.told cid (KeepsGood-same hash a.told c.told (kept ∙ same)) stands)) h)

-- ---- a whole edit

-- what is bad among the parts below a root is bad in its file
pub edit-blamed : (hash : List ℕ → List ℕ) (p : Profile) (cid : Cid) (root : NodeParts) (olds : List Part) (rows j : ℕ) (fault : StoreFault) (a b c : Seen) → StandUnderRoot hash p a.told cid root → b.told ≡ a.told → StaysCalm a b
    → KeepsGood hash b.told c.told → IsHeight p.chunk p.width (bytes_over root.parts) rows → j ≡ rows - 1 → olds ≡ root.parts → Shows hash (IsBadAmongOld hash p c.told rows j olds) fault b c → Shows hash (IsBadEdited hash p c.told cid) fault a c
edit-blamed hash p cid root olds rows j fault a b c stand same calm keeps high here is h =
    Shows-after hash (IsBadEdited hash p c.told cid) fault a b c calm
    (Shows-by hash (IsBadAmongOld hash p c.told rows j olds) (IsBadEdited hash p c.told cid) fault b c
    (λ role bytes bad. bad cid (λ m among. subst (λ n. Stands hash p c.told cid rows n m) (sym here)
    (stand c.told rows (subst (λ (t : Told). KeepsGood hash t c.told) same keeps) high m (subst (λ (l : List Part). Contains l m) is among)))) h)

-- what no part stands under is bad nowhere
pub none-among : (hash : List ℕ → List ℕ) (p : Profile) (rows j k : ℕ) (none olds : List Part) (fault : StoreFault) (a b c : Seen) → none ≡ [] → StaysCalm a b → Shows hash (IsBadAmongOld hash p c.told rows j none) fault b c
    → Shows hash (IsBadAmongOld hash p c.told rows k olds) fault a c
none-among hash p rows j k none olds fault a b c is calm h =
    Shows-after hash (IsBadAmongOld hash p c.told rows k olds) fault a b c calm
    (Shows-by hash (IsBadAmongOld hash p c.told rows j none) (IsBadAmongOld hash p c.told rows k olds) fault b c
    (λ role bytes bad root all. bad root (λ m among. absurd (let low : among.0 < length none = among.1 in let e : length none ≡ 0 = ap length is in omega arith))) h)

-- the same list of parts, read at another height
pub among-same : (hash : List ℕ → List ℕ) (p : Profile) (rows j k : ℕ) (slice olds : List Part) (fault : StoreFault) (a b c : Seen) → slice ≡ olds → j ≡ k → StaysCalm a b → Shows hash (IsBadAmongOld hash p c.told rows j slice) fault b c
    → Shows hash (IsBadAmongOld hash p c.told rows k olds) fault a c
among-same hash p rows j k slice olds fault a b c is same calm h =
    Shows-after hash (IsBadAmongOld hash p c.told rows k olds) fault a b c calm
    (subst (λ n. Shows hash (IsBadAmongOld hash p c.told rows n olds) fault b c) same (subst (λ (l : List Part). Shows hash (IsBadAmongOld hash p c.told rows j l) fault b c) is h))

-- a file of a plan has few rows of nodes
pub file-rows : (X : List ℕ → List ℕ) (p : Profile) (m : Meta) (b : List ℕ) (cid : Cid) (height : ℕ) → IsFile X p m b cid height → (size top : ℕ) → size ≡ length b → IsHeight p.chunk p.width size top → top ≤ 22
file-rows X p m b cid height is size top size_is high = few_rows p.chunk p.width size top (kept p is.profile).two (omega (arith, is.few, size_is)) high
