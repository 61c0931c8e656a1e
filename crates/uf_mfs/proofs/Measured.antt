-- An entry by one load: what it is, and what its root block says of it.
use Rattle.std.proofs.Common.{◌≡◌, ℕ, zero, suc, ◌<◌, ◌^◌, List, [], ◌∷◌, length, sum, refl, ap, sym, ◌∙◌, subst, arith, false, true, Some, None, Result, Ok, Err}
use Rattle.std.specs.Prelude.{IsTrue}
use Rattle.uf_cid.specs.Blocks.{Held}
use Rattle.uf_cid.specs.declared.cid.Cid.{Cid}
use Rattle.uf_cid.specs.declared.cid.Codec.{Codec}
use Rattle.uf_cid.specs.declared.cid.Codec.TheVariants.{Raw, DagPb}
use Rattle.uf_dagpb.specs.Reading.{node_reads}
use Rattle.uf_dagpb.proofs.Again.{node_again}
use Rattle.uf_store.specs.declared.store.StoreFault.{StoreFault}
use Rattle.uf_store.specs.Contents.{Contents, Told, held_at}
use Rattle.uf_store.specs.Keeping.{Agrees, Holds}
use Rattle.uf_store.specs.Lost.{FindsOver, IsLossOf}
use Rattle.uf_tree.specs.declared.nodes.Entry.{Entry}
use Rattle.uf_tree.specs.declared.nodes.FileNode.{FileNode}
use Rattle.uf_tree.specs.declared.meta.Meta.{Meta}
use Rattle.uf_tree.specs.declared.profile.Profile.{Profile}
use Rattle.uf_tree.specs.Codecs.{file_dag}
use Rattle.uf_tree.specs.FileSub.{IsFileHeight}
use Rattle.uf_tree.specs.Metas.{is_meta, none}
use Rattle.uf_tree.specs.Nodes.{Named, file_block}
use Rattle.uf_tree.specs.Profiles.{is_profile}
use Rattle.uf_tree.specs.Roles.{IsCanonicalFileNode, Root}
use Rattle.uf_tree.specs.Roots.{IsFileRoot, dir_root, root_over}
use Rattle.uf_tree.specs.Tree.{Tree, File, Dir, Entries, own_meta}
use Rattle.uf_tree.specs.TreePlan.{blocks, named_entries}
use Rattle.uf_tree.specs.Validity.{IsFileNode, IsHash}
use Rattle.uf_tree.proofs.Canonical.{root-canonical}
use Rattle.uf_tree.proofs.Files.{file_dag-node}
use Rattle.uf_tree.proofs.Sizes.{file_length}
use Rattle.uf_tree.proofs.Told.{kept}
use Rattle.uf_fileread.specs.declared.size.FileSize.{FileSize}
use Rattle.uf_fileread.specs.Sizes.{IsNodeOf, IsSizeOf, links_of}
use Rattle.uf_fileread.proofs.Rooted as rooted
use Rattle.uf_dir.specs.declared.kind.EntryKind.{EntryKind}
use Rattle.uf_dir.specs.declared.kind.EntryKind.TheVariants as kinds
use Rattle.uf_dir.specs.Planned.{IsPlanned, root_links}
use Rattle.uf_plain.specs.Replies.{children, stat_of}
use Rattle.uf_mfs.specs.declared.thing.FolderRoot.{FolderRoot}
use Rattle.uf_mfs.specs.declared.thing.Thing.TheVariants.{File as FileAt, Folder as FolderAt}
use Rattle.uf_plain.specs.Needs.{root_of}
use Rattle.uf_mfs.specs.Standing.{IsAgreed, IsAgreedThing}
use Rattle.uf_mfs.proofs.Files as files
use Rattle.uf_mfs.proofs.Holding.{agrees-among, finds-reads}
use Rattle.uf_plain.proofs.Plans.{entry-is}
use Rattle.uf_mfs.proofs.Agreed.{own-among}
use Rattle.uf_mfs.proofs.Children.{links-of-folder}
use Rattle.uf_mfs.proofs.Planning.{planned-of, root-among}
use Rattle.uf_mfs.proofs.Rooting.{children-node, children-raw, dir-cid, root-loss}
use Rattle.uf_mfs.proofs.Seeing.{root-codec}

node-read : (node : FileNode) → IsFileNode node → node_reads (file_block node) ≡ Ok (file_dag node)
unfolding file_block
node-read node valid = node_again (file_dag node) (file_dag-node node valid).links (let few = file_length node valid in omega (arith, few))

module _ (X : List ℕ → List ℕ) (N : List ℕ → ℕ) (hash : IsHash X) (p : Profile) where
  canonical : (m : Meta) (bytes : List ℕ) (height : ℕ) → IsTrue (is_meta m) → IsTrue (is_profile p) → IsFileHeight p.chunk p.width m (length bytes) height → length bytes < 2 ^ 63
      → (root_over X p.chunk p.width m height bytes).0.codec ≡ DagPb → IsCanonicalFileNode (Some p) Root (root_over X p.chunk p.width m height bytes).1
  canonical m bytes zero good ok fit small node = (let clash : Raw ≡ DagPb = node in absurd cc)
  canonical m bytes (suc k) good ok fit small node = root-canonical X hash p ok m good k bytes fit small

  links-at : (u : Contents) (e : Entry) (m : Meta) (bytes : List ℕ) (s : IsAgreed X N (Some u) p e (File m bytes)) → e.cid.codec ≡ DagPb → held_at u (files.root X N p e m bytes s.plan).0 ≡ Some (files.root X N p e m bytes s.plan).1
      → links_of p (files.is-file-root X N p e m bytes s.plan).height bytes ≡ children X N p (File m bytes)
  links-at u e m bytes s dag there =
      let i = files.is-file-root X N p e m bytes s.plan in
      let root : Held = files.root X N p e m bytes s.plan in
      let cid : e.cid ≡ root.0 = rooted.root_cid X hash p m bytes e.cid root i in
      let small : length bytes < 2 ^ 63 = (let few = i.few in let short = (kept p s.plan.profile).short in omega (arith, few, short)) in
      let b : IsCanonicalFileNode (Some p) Root root.1 = canonical m bytes (files.rooted X p m bytes s.plan.profile).0 i.good s.plan.profile (files.rooted X p m bytes s.plan.profile).1.least small (ap (λ (c : Cid). c.codec) (sym cid) ∙ dag) in
      let size : FileSize = record { length = sum b.node.sizes; links = length b.node.parts; meta = b.node.meta } in
      let says : IsNodeOf root.1 size = record { node = b.node; valid = b.valid; is = b.is; length_is = refl; links_are = refl; meta_is = refl } in
      let held : held_at u e.cid ≡ Some root.1 = ap (held_at u) cid ∙ there in
      let found = rooted.found X hash p m bytes e.cid root i (Some u) root.1 (Ok size) (agrees-among (Some u) (blocks X N p (File m bytes)) (root ∷ []) (files.root-in X N p e m bytes s.plan) s.agrees) held
      (subst (λ (c : Codec). IsSizeOf c root.1 size) (sym dag) says) in
      ap (λ (z : FileSize). z.links) (sym found.0) ∙ children-node X N hash (Some u) p e (File m bytes) root.1 (file_dag b.node) s dag held (ap node_reads b.is ∙ node-read b.node b.valid)

  -- the root block of a file's plan has as many links as the file's node
  links-are : (told : Told) (e : Entry) (m : Meta) (bytes : List ℕ) (s : IsAgreed X N told p e (File m bytes)) → e.cid.codec ≡ DagPb → Holds told (files.root X N p e m bytes s.plan ∷ [])
      → links_of p (files.is-file-root X N p e m bytes s.plan).height bytes ≡ children X N p (File m bytes)
  links-are None e m bytes s dag held = absurd s.agrees
  links-are (Some u) e m bytes s dag held = links-at u e m bytes s dag held.0

  -- what an entry is, or that its root block is lost
  abbrev pub IsKind : Told → Entry → Tree → Result EntryKind StoreFault → Type 0
  IsKind told e t (Ok (kinds.Folder links meta)) = IsAgreedThing X N told p t (FolderAt e (Some (record { links = links; meta = meta })))
  IsKind told e t (Ok (kinds.File size)) = IsAgreedThing X N told p t (FileAt e size)
  IsKind told e t (Err fault) = IsLossOf told (root_of X N p t) fault

  raw-kind : (told : Told) (e : Entry) (t : Tree) → IsAgreed X N told p e t → e.cid.codec ≡ Raw → IsKind told e t (Ok (kinds.File (record { length = e.tsize; links = 0; meta = none })))
  raw-kind told e (File m bytes) s raw =
      let long = files.raw-size X N p e m bytes s.plan raw in
      let few = children-raw X N hash p e (File m bytes) s.plan raw in
      let bare = files.raw-bare X N p e m bytes s.plan raw in
      (s, λ i. record { length = long i; links = few i; meta = (sym bare) i })
  raw-kind told e (Dir es) s raw = absurd (let clash : Raw ≡ DagPb = sym raw ∙ root-codec X N p e es s.plan in cc)

  file-kind : (told : Told) (e : Entry) (m : Meta) (bytes : List ℕ) (s : IsAgreed X N told p e (File m bytes)) → e.cid.codec ≡ DagPb → (r : Result EntryKind StoreFault)
      → FindsOver told (files.root X N p e m bytes s.plan ∷ []) (kinds.File (record { length = length bytes; links = links_of p (files.is-file-root X N p e m bytes s.plan).height bytes; meta = m })) r → IsKind told e (File m bytes) r
  file-kind told e m bytes s dag (Ok k) h =
      let links = links-are told e m bytes s dag h.1 in
      subst (λ (k : EntryKind). IsKind told e (File m bytes) (Ok k)) (sym h.0) (s, λ i. record { length = length bytes; links = links i; meta = m })
  file-kind told e m bytes s dag (Err f) h =
      root-loss X N hash told p e (File m bytes) (files.root X N p e m bytes s.plan) f s.plan (sym (rooted.root_cid X hash p m bytes e.cid (files.root X N p e m bytes s.plan) (files.is-file-root X N p e m bytes s.plan)) ∙ ap (λ (e : Entry). e.cid) s.plan.is)
      (finds-reads {A = EntryKind} told (files.root X N p e m bytes s.plan ∷ []) (kinds.File (record { length = length bytes; links = links_of p (files.is-file-root X N p e m bytes s.plan).height bytes; meta = m })) (Err f) h)

  dir-kind : (told : Told) (e : Entry) (es : Entries) → IsAgreed X N told p e (Dir es) → (r : Result EntryKind StoreFault) → FindsOver told (dir_root X N p (own_meta es) (named_entries X N p es) ∷ []) (kinds.Folder (root_links X N p (named_entries X N p es)) (own_meta es)) r → IsKind told e (Dir es) r
  dir-kind told e es s (Ok k) h = subst (λ (k : EntryKind). IsKind told e (Dir es) (Ok k)) (sym h.0) (s, (let links = links-of-folder X N hash p told e es s h.1 in λ i. record { links = links i; meta = own_meta es }))
  dir-kind told e es s (Err f) h =
      root-loss X N hash told p e (Dir es) (dir_root X N p (own_meta es) (named_entries X N p es)) f s.plan (dir-cid X N hash p (own_meta es) (named_entries X N p es) ∙ ap (λ (e : Entry). e.cid) (sym (entry-is X N p es))) (finds-reads {A = EntryKind} told (dir_root X N p (own_meta es) (named_entries X N p es) ∷ []) (kinds.Folder (root_links X N p (named_entries X N p es)) (own_meta es)) (Err f) h)

  -- what is said of a file and of a folder by its kind
  pub file-stat-is : (told : Told) (e : Entry) (t : Tree) (size : FileSize) → IsKind told e t (Ok (kinds.File size))
      → record { cid = e.cid; size = size.length; cumulative = e.tsize; children = size.links; is_folder = false; meta = size.meta } ≡ stat_of X N p t
  file-stat-is told e (File m bytes) size h =
      let entry = h.0.plan.is in let same = h.1 in
      λ i. record { cid = (entry i).cid; size = (same i).length; cumulative = (entry i).tsize; children = (same i).links; is_folder = false; meta = (same i).meta }
  file-stat-is told e (Dir es) size h = absurd h

  pub folder-stat-is : (told : Told) (e : Entry) (t : Tree) (root : FolderRoot) → IsKind told e t (Ok (kinds.Folder root.links root.meta))
      → record { cid = e.cid; size = 0; cumulative = e.tsize; children = root.links; is_folder = true; meta = root.meta } ≡ stat_of X N p t
  folder-stat-is told e (File m bytes) root h = absurd h
  folder-stat-is told e (Dir es) root h =
      let entry = h.0.plan.is in let same = h.1 in
      λ i. record { cid = (entry i).cid; size = 0; cumulative = (entry i).tsize; children = (same i).links; is_folder = true; meta = (same i).meta }

  -- what the directory layer says of an entry
  pub kind-says : ((name : List ℕ) → N name < 2 ^ 64) → (told : Told) (e : Entry) (t : Tree) (r : Result EntryKind StoreFault) → IsAgreed X N told p e t
      → (e.cid.codec ≡ Raw → r ≡ Ok (kinds.File (record { length = e.tsize; links = 0; meta = none })))
      → ((M : List ℕ → ℕ) (p : Profile) (meta : Meta) (l : List Named) → IsPlanned X M p meta e.cid l → Agrees told (dir_root X M p meta l ∷ []) → FindsOver told (dir_root X M p meta l ∷ []) (kinds.Folder (root_links X M p l) meta) r)
      → ((p : Profile) (m : Meta) (bytes : List ℕ) (root : Held) (is : IsFileRoot X p m bytes e.cid root) → e.cid.codec ≡ DagPb → Agrees told (root ∷ [])
      → FindsOver told (root ∷ []) (kinds.File (record { length = length bytes; links = links_of p is.height bytes; meta = m })) r)
      → IsKind told e t r
  kind-says fits told e t r s raw folder file = by e.cid.codec refl t s
    where
      by : (c : Codec) → e.cid.codec ≡ c → (t : Tree) → IsAgreed X N told p e t → IsKind told e t r
      by Raw is t s = subst (IsKind told e t) (sym (raw is)) (raw-kind told e t s is)
      by DagPb is (File m bytes) s =
          file-kind told e m bytes s is r (file p m bytes (files.root X N p e m bytes s.plan) (files.is-file-root X N p e m bytes s.plan) is (agrees-among told (blocks X N p (File m bytes)) (files.root X N p e m bytes s.plan ∷ []) (files.root-in X N p e m bytes s.plan) s.agrees))
      by DagPb is (Dir es) s =
          dir-kind told e es s r (folder N p (own_meta es) _ (planned-of X N p e es s.plan hash fits) (agrees-among told (blocks X N p (Dir es)) (dir_root X N p (own_meta es) (named_entries X N p es) ∷ []) (λ P h. root-among X N p (own_meta es) (named_entries X N p es) P (own-among X N p es P h)) s.agrees))
