-- What is seen of an entry and of a name.
use Rattle.std.proofs.Common.{◌≡◌, ℕ, ◌<◌, ◌^◌, List, [], ◌∷◌, length, refl, ap, sym, ◌∙◌, subst, true, false, cond, Option, Some, None, Result, Ok, Err}
use Rattle.std.specs.Option.{option_map}
use Rattle.std.specs.FinMap.Entries.{find}
use Rattle.uf_cid.specs.Blocks.{Held}
use Rattle.uf_cid.specs.declared.cid.Cid.{Cid}
use Rattle.uf_cid.specs.declared.cid.Codec.{Codec}
use Rattle.uf_cid.specs.declared.cid.Codec.TheVariants.{Raw, DagPb}
use Rattle.uf_store.specs.declared.store.StoreFault.{StoreFault}
use Rattle.uf_store.specs.Contents.{Told}
use Rattle.uf_store.specs.Keeping.{Agrees}
use Rattle.uf_store.specs.Lost.{FindsOver, IsLossOf, ReadsOver}
use Rattle.uf_tree.specs.declared.meta.Meta.{Meta}
use Rattle.uf_tree.specs.declared.nodes.Entry.{Entry}
use Rattle.uf_tree.specs.declared.profile.Profile.{Profile}
use Rattle.uf_tree.specs.DirPlan.{basic_dir, is_sharded, own_plan, trail}
use Rattle.uf_tree.specs.Names.{names_cmp}
use Rattle.uf_tree.specs.Nodes.{Named}
use Rattle.uf_tree.specs.Roots.{IsFileRoot, dir_root}
use Rattle.uf_tree.specs.ShardPlan.{shard}
use Rattle.uf_tree.specs.Tree.{Tree, File, Dir, Entries, own_meta}
use Rattle.uf_tree.specs.TreePlan.{blocks, entry, named_entries}
use Rattle.uf_tree.specs.Validity.{IsHash}
use Rattle.uf_fileread.proofs.Rooted as rooted
use Rattle.uf_shard.specs.Trails.{traced}
use Rattle.uf_shard.specs.declared.traced.Traced.{Traced}
use Rattle.uf_dir.specs.Planned.{IsPlanned, root_links}
use Rattle.uf_dir.specs.declared.kind.EntryKind.{EntryKind}
use Rattle.uf_dir.specs.declared.kind.EntryKind.TheVariants as kinds
use Rattle.uf_fileread.specs.Sizes.{links_of}
use Rattle.uf_fileread.specs.declared.size.FileSize.{FileSize}
use Rattle.uf_tree.specs.Metas.{none}
use Rattle.uf_plain.specs.Needs.{member_needs, root_of}
use Rattle.uf_plain.specs.Edits.{child}
use Rattle.uf_plain.proofs.Plans.{entry-is, find-child}
use Rattle.uf_laws.proofs.Held.{trail-among}
use Rattle.uf_light.specs.declared.thing.TypedEntry.{TypedEntry}
use Rattle.uf_light.specs.declared.thing.TypedEntry.TheVariants.{File as FileAt, Folder as FolderAt}
use Rattle.uf_light.specs.Standing.{IsAgreedAt, IsAgreedMember, IsAgreedThing, IsTreeAt}
use Rattle.uf_light.proofs.Agreed.{child-agreed, own-among}
use Rattle.uf_light.proofs.Files as files
use Rattle.uf_light.proofs.Holding.{agrees-among, finds-loss, finds-reads, loss-back}
use Rattle.uf_light.proofs.Planning.{planned-of, root-among}
use Rattle.uf_light.proofs.Rooting.{dir-cid, root-loss}

module _ (X : List ℕ → List ℕ) (N : List ℕ → ℕ) where
  shard-codec : (left : ℕ) (meta : Meta) (l : List Named) → (shard X N left meta l).entry.cid.codec ≡ DagPb
  unfolding shard
  shard-codec ℕ.zero meta l = refl
  shard-codec (ℕ.suc left) meta l = refl

  own-codec : (p : Profile) (meta : Meta) (l : List Named) → (own_plan X N p meta l).entry.cid.codec ≡ DagPb
  own-codec p meta l = elim (is_sharded p l) as (λ b. (cond b (shard X N 7 meta l) (basic_dir X N meta l)).entry.cid.codec ≡ DagPb) [ true ↦ shard-codec 7 meta l | false ↦ refl ]

  -- a folder's CID is a node's
  dir-codec : (p : Profile) (c : Cid) (es : Entries) → IsTreeAt X N p c (Dir es) → c.codec ≡ DagPb
  dir-codec p c es s = ap (λ (d : Cid). d.codec) (s.is ∙ ap (λ (e : Entry). e.cid) (entry-is X N p es)) ∙ own-codec p (own_meta es) (named_entries X N p es)

  module _ (hash : IsHash X) (fits : (name : List ℕ) → N name < 2 ^ 64) (told : Told) (p : Profile) where
    trail-agrees : (c : Cid) (es : Entries) (name : List ℕ) → IsAgreedAt X N told p c (Dir es) → Agrees told (trail X N p (own_meta es) (named_entries X N p es) name)
    trail-agrees c es name s = agrees-among told _ _ (λ P h. trail-among X N P p (own_meta es) (named_entries X N p es) name (own-among X N p es P h)) s.agrees

    -- what the directory layer says of a name
    pub find-says : (c : Cid) (es : Entries) (name : List ℕ) (r : Result (Option Entry) StoreFault) → IsAgreedAt X N told p c (Dir es)
        → ((q : Profile) (m : Meta) (l : List Named) → IsPlanned X N q m c l → Agrees told (trail X N q m l name) → FindsOver told (trail X N q m l name) (find names_cmp name l) r)
        → ReadsOver told (trail X N p (own_meta es) (named_entries X N p es) name) (option_map (entry X N p) (child name es)) r
    find-says c es name r s finds =
        let l = named_entries X N p es in
        subst (λ v. ReadsOver told (trail X N p (own_meta es) l name) v r) (find-child X N p es name)
        (finds-reads told _ _ r (finds p (own_meta es) l (planned-of X N p c es s.plan hash fits) (trail-agrees c es name s)))

    -- and of it and the blocks that decide it
    pub trace-says : (c : Cid) (es : Entries) (name : List ℕ) (r : Result Traced StoreFault) → IsAgreedAt X N told p c (Dir es)
        → ((q : Profile) (m : Meta) (l : List Named) → IsPlanned X N q m c l → Agrees told (trail X N q m l name) → FindsOver told (trail X N q m l name) (traced (find names_cmp name l) (trail X N q m l name)) r)
        → FindsOver told (trail X N p (own_meta es) (named_entries X N p es) name) (traced (option_map (entry X N p) (child name es)) (trail X N p (own_meta es) (named_entries X N p es) name)) r
    trace-says c es name r s finds =
        let l = named_entries X N p es in
        subst (λ v. FindsOver told (trail X N p (own_meta es) l name) (traced v (trail X N p (own_meta es) l name)) r) (find-child X N p es name)
        (finds p (own_meta es) l (planned-of X N p c es s.plan hash fits) (trail-agrees c es name s))

    -- and of the blocks that decide it
    pub trail-says : {A : Type 0} (c : Cid) (es : Entries) (name : List ℕ) (v : List Held → A) (r : Result A StoreFault) → IsAgreedAt X N told p c (Dir es)
        → ((q : Profile) (m : Meta) (l : List Named) → IsPlanned X N q m c l → Agrees told (trail X N q m l name) → FindsOver told (trail X N q m l name) (v (trail X N q m l name)) r)
        → FindsOver told (trail X N p (own_meta es) (named_entries X N p es) name) (v (trail X N p (own_meta es) (named_entries X N p es) name)) r
    trail-says c es name v r s finds = finds p (own_meta es) (named_entries X N p es) (planned-of X N p c es s.plan hash fits) (trail-agrees c es name s)

    -- ---- what an entry is

    abbrev pub thing_by : Entry → EntryKind → TypedEntry
    thing_by e (kinds.Folder links meta) = FolderAt e
    thing_by e (kinds.File size) = FileAt e

    abbrev pub IsKindOf : Entry → Tree → Result EntryKind StoreFault → Type 0
    IsKindOf e t (Ok kind) = IsAgreedThing X N told p t (thing_by e kind)
    IsKindOf e t (Err f) = IsLossOf told (root_of X N p t) f

    raw-kind : (e : Entry) (t : Tree) (size : FileSize) → IsAgreedAt X N told p e.cid t → e.cid.codec ≡ Raw → IsKindOf e t (Ok (kinds.File size))
    raw-kind e (File m bytes) size s raw = s
    raw-kind e (Dir es) size s raw = absurd (let clash : Raw ≡ DagPb = sym raw ∙ dir-codec p e.cid es s.plan in cc)

    file-kind : (e : Entry) (m : Meta) (bytes : List ℕ) (size : FileSize) (s : IsAgreedAt X N told p e.cid (File m bytes)) (r : Result EntryKind StoreFault) → FindsOver told (files.root X N p e.cid m bytes s.plan ∷ []) (kinds.File size) r
        → IsKindOf e (File m bytes) r
    file-kind e m bytes size s (Ok k) h = subst (λ (k : EntryKind). IsAgreedThing X N told p (File m bytes) (thing_by e k)) (sym h.0) s
    file-kind e m bytes size s (Err f) h =
        root-loss X N hash told p e.cid (File m bytes) (files.root X N p e.cid m bytes s.plan) f s.plan
        (sym (rooted.root_cid X hash p m bytes e.cid (files.root X N p e.cid m bytes s.plan) (files.is-file-root X N p e.cid m bytes s.plan)) ∙ s.plan.is)
        (finds-loss {A = EntryKind} told (files.root X N p e.cid m bytes s.plan ∷ []) (kinds.File size) f h)

    folder-kind : (e : Entry) (es : Entries) (links : ℕ) (meta : Meta) (s : IsAgreedAt X N told p e.cid (Dir es)) (r : Result EntryKind StoreFault)
        → FindsOver told (dir_root X N p (own_meta es) (named_entries X N p es) ∷ []) (kinds.Folder links meta) r → IsKindOf e (Dir es) r
    folder-kind e es links meta s (Ok k) h = subst (λ (k : EntryKind). IsAgreedThing X N told p (Dir es) (thing_by e k)) (sym h.0) s
    folder-kind e es links meta s (Err f) h =
        root-loss X N hash told p e.cid (Dir es) (dir_root X N p (own_meta es) (named_entries X N p es)) f s.plan (dir-cid X N hash p (own_meta es) (named_entries X N p es) ∙ ap (λ (e : Entry). e.cid) (sym (entry-is X N p es)))
        (finds-loss {A = EntryKind} told (dir_root X N p (own_meta es) (named_entries X N p es) ∷ []) (kinds.Folder links meta) f h)

    -- what the directory layer says of an entry
    pub kind-says : (e : Entry) (t : Tree) (r : Result EntryKind StoreFault) → IsAgreedAt X N told p e.cid t → (e.cid.codec ≡ Raw → r ≡ Ok (kinds.File (record { length = e.tsize; links = 0; meta = none })))
        → ((M : List ℕ → ℕ) (q : Profile) (m : Meta) (l : List Named) → IsPlanned X M q m e.cid l → Agrees told (dir_root X M q m l ∷ []) → FindsOver told (dir_root X M q m l ∷ []) (kinds.Folder (root_links X M q l) m) r)
        → ((q : Profile) (m : Meta) (bytes : List ℕ) (root : Held) (is : IsFileRoot X q m bytes e.cid root) → e.cid.codec ≡ DagPb → Agrees told (root ∷ [])
        → FindsOver told (root ∷ []) (kinds.File (record { length = length bytes; links = links_of q is.height bytes; meta = m })) r)
        → IsKindOf e t r
    kind-says e t r s raw folder file = by e.cid.codec refl t s
      where
        by : (c : Codec) → e.cid.codec ≡ c → (t : Tree) → IsAgreedAt X N told p e.cid t → IsKindOf e t r
        by Raw is t s = subst (IsKindOf e t) (sym (raw is)) (raw-kind e t (record { length = e.tsize; links = 0; meta = none }) s is)
        by DagPb is (File m bytes) s =
            file-kind e m bytes (record { length = length bytes; links = links_of p (files.is-file-root X N p e.cid m bytes s.plan).height bytes; meta = m }) s r (file p m bytes (files.root X N p e.cid m bytes s.plan) (files.is-file-root X N p e.cid m bytes s.plan) is
            (agrees-among told (blocks X N p (File m bytes)) (files.root X N p e.cid m bytes s.plan ∷ []) (files.root-in X N p e.cid m bytes s.plan) s.agrees))
        by DagPb is (Dir es) s =
            folder-kind e es (root_links X N p (named_entries X N p es)) (own_meta es) s r (folder N p (own_meta es) (named_entries X N p es) (planned-of X N p e.cid es s.plan hash fits)
            (agrees-among told (blocks X N p (Dir es)) (dir_root X N p (own_meta es) (named_entries X N p es) ∷ []) (λ P h. root-among X N p (own_meta es) (named_entries X N p es) P (own-among X N p es P h)) s.agrees))

  -- ---- a name

  some-child : (p : Profile) (o : Option Tree) (e : Entry) → Some e ≡ option_map (entry X N p) o → (t : Tree) × ((o ≡ Some t) × (e ≡ entry X N p t))
  some-child p None e h = absurd cc
  some-child p (Some t) e h = (t, (refl, cc))

  -- nothing is under it
  pub member-none : (told : Told) (p : Profile) (o : Option Tree) → None ≡ option_map (entry X N p) o → IsAgreedMember X N told p o None
  member-none told p None h = tt
  member-none told p (Some t) h = absurd cc

  -- the entry that was found is the member's
  found-entry : (a b : Told) (p : Profile) (folder : Cid) (es : Entries) (name : List ℕ) (t : Tree) (e : Entry) → b ≡ a → IsAgreedAt X N a p folder (Dir es) → child name es ≡ Some t → e ≡ entry X N p t → IsAgreedAt X N b p e.cid t
  found-entry a b p folder es name t e same s h is =
      subst (λ a. IsAgreedAt X N a p e.cid t) (sym same) (subst (λ (e : Entry). IsAgreedAt X N a p e.cid t) (sym is) (child-agreed X N p a folder es name t s h))

  pub member-err : (a b : Told) (p : Profile) (folder : Cid) (es : Entries) (name : List ℕ) (e : Entry) (f : StoreFault) → b ≡ a → IsAgreedAt X N a p folder (Dir es) → Some e ≡ option_map (entry X N p) (child name es)
      → ((t : Tree) → IsAgreedAt X N b p e.cid t → IsLossOf b (root_of X N p t) f) → IsLossOf a (member_needs X N p name es) f
  member-err a b p folder es name e f same i h thing =
      let m = some-child p (child name es) e h in
      loss-back a (trail X N p (own_meta es) (named_entries X N p es) name) _ f
      (subst (λ (o : Option Tree). IsLossOf a (elim o as (λ o. List Held) [ None ↦ [] | Some t ↦ root_of X N p t ]) f) (sym m.1.0)
      (subst (λ a. IsLossOf a (root_of X N p m.0) f) same (thing m.0 (found-entry a b p folder es name m.0 e same i m.1.0 m.1.1))))

  pub member-some : (a b : Told) (p : Profile) (folder : Cid) (es : Entries) (name : List ℕ) (e : Entry) (x : TypedEntry) → b ≡ a → IsAgreedAt X N a p folder (Dir es) → Some e ≡ option_map (entry X N p) (child name es)
      → ((t : Tree) → IsAgreedAt X N b p e.cid t → IsAgreedThing X N b p t x) → IsAgreedMember X N a p (child name es) (Some x)
  member-some a b p folder es name e x same i h thing =
      let m = some-child p (child name es) e h in
      subst (λ o. IsAgreedMember X N a p o (Some x)) (sym m.1.0) (subst (λ a. IsAgreedThing X N a p m.0 x) same (thing m.0 (found-entry a b p folder es name m.0 e same i m.1.0 m.1.1)))

  -- what is seen as a folder is one
  pub folder-tree : (told : Told) (p : Profile) (t : Tree) (e : Entry) → IsAgreedThing X N told p t (FolderAt e) → (es : Entries) × (t ≡ Dir es) × IsAgreedAt X N told p e.cid (Dir es)
  folder-tree told p (File m bytes) e h = absurd h
  folder-tree told p (Dir es) e h = (es, refl, h)

  -- and what is seen as a file
  pub file-tree : (told : Told) (p : Profile) (t : Tree) (e : Entry) → IsAgreedThing X N told p t (FileAt e) → (m : Meta) × (bytes : List ℕ) × (t ≡ File m bytes) × IsAgreedAt X N told p e.cid (File m bytes)
  file-tree told p (File m bytes) e h = (m, bytes, refl, h)
  file-tree told p (Dir es) e h = absurd h

  -- what is seen under a name is there, and where nothing is seen nothing is
  pub member-tree : (told : Told) (p : Profile) (o : Option Tree) (x : TypedEntry) → IsAgreedMember X N told p o (Some x) → (t : Tree) × (o ≡ Some t) × IsAgreedThing X N told p t x
  member-tree told p None x h = absurd h
  member-tree told p (Some t) x h = (t, refl, h)

  pub member-nothing : (told : Told) (p : Profile) (o : Option Tree) → IsAgreedMember X N told p o None → o ≡ None
  member-nothing told p None h = refl
  member-nothing told p (Some t) h = absurd h
