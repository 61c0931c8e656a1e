-- What a store stands for, from one moment to the next and by its Head.
use Rattle.std.proofs.Common.{◌≡◌, ℕ, ◌<◌, ◌^◌, List, [], ◌∷◌, true, false, cond, refl, sym, ap, subst, ◌∙◌, Option, Some, None, Result, Ok, Err}
use Rattle.std.specs.Prelude.{IfSome}
use Rattle.std.specs.List.{AllByRecursion}
use Rattle.uf_cid.specs.Blocks.{Held}
use Rattle.uf_cid.specs.declared.cid.Cid.{Cid}
use Rattle.uf_cid.specs.declared.cid.Codec.TheVariants.{DagPb}
use Rattle.uf_store.specs.Contents.{Contents, Told, changed, held_at, with_sync}
use Rattle.uf_store.specs.Keeping.{AreGood, Holds, KeepsGood}
use Rattle.uf_store.proofs.Keeping.{Holds-kept, KeepsGood-refl}
use Rattle.uf_tree.specs.DirPlan.{basic_dir, is_sharded, own_plan}
use Rattle.uf_tree.specs.HeadReading.{head_reads}
use Rattle.uf_tree.specs.Nodes.{Named}
use Rattle.uf_tree.specs.ShardPlan.{shard}
use Rattle.uf_tree.specs.Standing.{IsHeadNote, Standing, NoHead, BadHead, Stands, IsBadHead}
use Rattle.uf_tree.specs.Tree.{Dir, Entries, Tree, own_meta}
use Rattle.uf_tree.specs.TreePlan.{blocks, entry, named_entries}
use Rattle.uf_tree.specs.Validity.{IsHash}
use Rattle.uf_tree.specs.declared.head_fault.HeadFault.{HeadFault}
use Rattle.uf_tree.specs.declared.meta.Meta.{Meta}
use Rattle.uf_tree.specs.declared.nodes.Entry.{Entry}
use Rattle.uf_tree.specs.declared.profile.Head.{Head}
use Rattle.uf_tree.specs.declared.profile.Profile.{Profile}
use Rattle.uf_tree.proofs.HeadIs.{head_is}
use Rattle.uf_tree.proofs.TreeLaws.{entry-dir}
use Rattle.uf_tree.proofs.Valid.{entry-valid}
use Rattle.uf_laws.proofs.Held.{tree-digested}
use Rattle.uf_laws.proofs.Heads.{one_standing}
use Rattle.uf_mfs.specs.Standing.{LeavesHead, NamesOver, Same, OnlySynced, TellsAs, TellsHeld, head_in}
use Rattle.uf_top.specs.Causes.{HeadSays, IsProfileOf, IsUnread}
use Rattle.uf_top.proofs.Notes.{note-reads, note-there}

flip : (X : List ℕ → List ℕ) (l : List Held) → AllByRecursion (λ (b : Held). b.0.digest ≡ X b.1) l → AreGood X l
flip X [] h = tt
flip X (b ∷ l) h = (sym h.0, flip X l h.1)

-- at most a sync was written

sync-good : (X : List ℕ → List ℕ) (a : Told) → KeepsGood X a (changed with_sync a)
sync-good X None = KeepsGood-refl X None
sync-good X (Some t) = record { alike = refl; stays = λ c b is d. is }

pub leaves-good : (X : List ℕ → List ℕ) (a b : Told) → LeavesHead a b → KeepsGood X a b
leaves-good X a b (Same e) = subst (KeepsGood X a) (sym e) (KeepsGood-refl X a)
leaves-good X a b (OnlySynced e) = subst (KeepsGood X a) (sym e) (sync-good X a)

sync-holds : (a : Told) (l : List Held) → Holds a l → Holds (changed with_sync a) l
sync-holds None l h = tt
sync-holds (Some t) l h = h

pub leaves-holds : (a b : Told) (l : List Held) → LeavesHead a b → Holds a l → Holds b l
leaves-holds a b l (Same e) h = subst (λ t. Holds t l) (sym e) h
leaves-holds a b l (OnlySynced e) h = subst (λ t. Holds t l) (sym e) (sync-holds a l h)

module _ (X : List ℕ → List ℕ) (N : List ℕ → ℕ) where
  -- the blocks of a tree have the digests of their CIDs
  pub tree-good : (p : Profile) (t : Tree) → AreGood X (blocks X N p t)
  tree-good p t = flip X (blocks X N p t) (tree-digested X N p t)

  -- what stands stays where the Head is as before and good blocks are kept
  pub stands-kept : (a b : Told) (s : Standing) → KeepsGood X a b → head_in b ≡ head_in a → TellsAs X N a s → TellsAs X N b s
  stands-kept None b s k h t = absurd t
  stands-kept (Some a) None s k h t = absurd (let e : false ≡ true = k.alike in cc)
  stands-kept (Some a) (Some b) NoHead k h t = h ∙ t
  stands-kept (Some a) (Some b) BadHead k h t = subst IsBadHead (sym h) t
  stands-kept (Some a) (Some b) (Stands p es) k h t = record {
    profile = t.profile;
    tree = t.tree;
    planned = t.planned;
    head_is = subst (λ n. IsHeadNote n p (entry X N p (Dir es)).cid) (sym h) t.head_is;
    blocks_held = Holds-kept X (Some a) (Some b) (blocks X N p (Dir es)) (flip X _ (tree-digested X N p (Dir es))) k t.blocks_held;
  }

  pub stands-same : (a b : Told) (s : Standing) → b ≡ a → TellsAs X N a s → TellsAs X N b s
  stands-same a b s e t = subst (λ a. TellsAs X N a s) (sym e) t

  pub tells-none : (a : Told) (s : Standing) → TellsAs X N a s → TellsHeld a []
  tells-none None s t = t
  tells-none (Some a) s t = tt

  pub tells-held : (a : Told) (s : Standing) (l : List Held) → TellsAs X N a s → Holds a l → TellsHeld a l
  tells-held None s l t h = absurd t
  tells-held (Some a) s l t h = h

  -- ---- what the Head says of what stands

  shard-codec : (left : ℕ) (m : Meta) (l : List Named) → (shard X N left m l).entry.cid.codec ≡ DagPb
  unfolding shard
  shard-codec ℕ.zero m l = refl
  shard-codec (ℕ.suc left) m l = refl

  own-codec : (p : Profile) (m : Meta) (l : List Named) → (own_plan X N p m l).entry.cid.codec ≡ DagPb
  own-codec p m l = elim (is_sharded p l) as (λ b. (cond b (shard X N 7 m l) (basic_dir X N m l)).entry.cid.codec ≡ DagPb) [ true ↦ shard-codec 7 m l | false ↦ refl ]

  dir-codec : (p : Profile) (es : Entries) → (entry X N p (Dir es)).cid.codec ≡ DagPb
  dir-codec p es = ap (λ (e : Entry). e.cid.codec) (entry-dir X N p es) ∙ own-codec p (own_meta es) (named_entries X N p es)

  -- the Head of a tree is read
  pub stands-reads : (good : IsHash X) (t : Contents) (p : Profile) (es : Entries) → TellsAs X N (Some t) (Stands p es)
      → (text : List ℕ) × (t.notes.head ≡ Some text) × (head_reads text ≡ Ok (record { profile = p; root = (entry X N p (Dir es)).cid }))
  stands-reads good t p es s = note-reads t.notes.head p (entry X N p (Dir es)).cid s.profile (entry-valid X good N p s.profile (Dir es)).cid (dir-codec p es) s.head_is

  profile_in : Profile → Result Head HeadFault → Profile
  profile_in p (Ok head) = head.profile
  profile_in p (Err why) = p

  says : (head : Option (List ℕ)) (text : List ℕ) (p q : Profile) (root : Cid) → head ≡ Some text → head_reads text ≡ Ok (record { profile = p; root = root }) → HeadSays head q → p ≡ q
  unfolding profile_in
  says None text p q root e r h = absurd h
  says (Some given) text p q root e r h = (let same : given ≡ text = cc in ap (profile_in p) (sym (ap head_reads same ∙ r) ∙ h.1))

  unread : (head : Option (List ℕ)) (text : List ℕ) (p : Profile) (root : Cid) → head ≡ Some text → head_reads text ≡ Ok (record { profile = p; root = root }) → IsUnread head → ⊥
  unread None text p root e r h = h
  unread (Some given) text p root e r h = (let same : given ≡ text = cc in let k : Ok (record { profile = p; root = root }) ≡ Err h.0 = sym (ap head_reads same ∙ r) ∙ h.1 in absurd cc)

  bad-says : (head : Option (List ℕ)) (p : Profile) → IsBadHead head → HeadSays head p → ⊥
  bad-says None p b h = b
  bad-says (Some text) p b h = (let is = head_is text _ h.1 in b p h.0 is.profile is.root is.node is.text)

  not-bad : (head : Option (List ℕ)) → IsBadHead head → head ≡ None → ⊥
  not-bad None b e = b
  not-bad (Some text) b e = absurd cc

  not-none : (head : Option (List ℕ)) (p : Profile) → head ≡ None → HeadSays head p → ⊥
  not-none None p e h = h
  not-none (Some text) p e h = absurd cc

  none-read : (head : Option (List ℕ)) → head ≡ None → IsUnread head → ⊥
  none-read None e h = h
  none-read (Some text) e h = absurd cc

  -- there is no Head
  pub standing-none : (told : Told) (s : Standing) → TellsAs X N told s → IfSome told (λ t. t.notes.head ≡ None) → s ≡ NoHead
  standing-none None s t h = absurd t
  standing-none (Some c) NoHead t h = refl
  standing-none (Some c) BadHead t h = absurd (not-bad c.notes.head t h)
  standing-none (Some c) (Stands p es) t h = absurd (note-there c.notes.head p (entry X N p (Dir es)).cid t.head_is h)

  -- the Head isn't read
  pub standing-bad : IsHash X → (told : Told) (s : Standing) → TellsAs X N told s → IfSome told (λ t. IsUnread t.notes.head) → s ≡ BadHead
  standing-bad good None s t h = absurd t
  standing-bad good (Some c) NoHead t h = absurd (none-read c.notes.head t h)
  standing-bad good (Some c) BadHead t h = refl
  standing-bad good (Some c) (Stands p es) t h = (let r = stands-reads good c p es t in absurd (unread c.notes.head r.0 p _ r.1 r.2 h))

  -- the Head says a profile
  pub standing-says : IsHash X → (told : Told) (s : Standing) (p : Profile) → TellsAs X N told s → IsProfileOf told p → (es : Entries) × (s ≡ Stands p es)
  standing-says good None s p t h = absurd t
  standing-says good (Some c) NoHead p t h = absurd (not-none c.notes.head p t h)
  standing-says good (Some c) BadHead p t h = absurd (bad-says c.notes.head p t h)
  standing-says good (Some c) (Stands q es) p t h = (let r = stands-reads good c q es t in (es, ap (λ (x : Profile). Stands x es) (says c.notes.head r.0 q p _ r.1 r.2 h)))

  -- ---- what the Head says of a tree of whose blocks some may be lost

  names-reads : IsHash X → (t : Contents) (p : Profile) (es : Entries) → NamesOver X N (Some t) p es
      → (text : List ℕ) × (t.notes.head ≡ Some text) × (head_reads text ≡ Ok (record { profile = p; root = (entry X N p (Dir es)).cid }))
  names-reads good t p es names =
      let ok = names.root.plan.profile in
      note-reads t.notes.head p (entry X N p (Dir es)).cid ok (entry-valid X good N p ok (Dir es)).cid (dir-codec p es) names.head

  -- no profile but its own
  pub names-says : IsHash X → (told : Told) (p q : Profile) (es : Entries) → NamesOver X N told p es → IsProfileOf told q → p ≡ q
  names-says good None p q es names h = absurd names.root.agrees
  names-says good (Some t) p q es names h = (let r = names-reads good t p es names in says t.notes.head r.0 p q _ r.1 r.2 h)

  -- it is there, and read
  pub names-read : IsHash X → (told : Told) (p : Profile) (es : Entries) → NamesOver X N told p es → IfSome told (λ t. IsUnread t.notes.head) → ⊥
  names-read good None p es names h = names.root.agrees
  names-read good (Some t) p es names h = (let r = names-reads good t p es names in unread t.notes.head r.0 p _ r.1 r.2 h)

  pub names-there : (told : Told) (p : Profile) (es : Entries) → NamesOver X N told p es → IfSome told (λ t. t.notes.head ≡ None) → ⊥
  names-there None p es names h = names.root.agrees
  names-there (Some t) p es names h = note-there t.notes.head p (entry X N p (Dir es)).cid names.head h

-- what is told stands for one tree at most
pub stands-one : (X : List ℕ → List ℕ) (N : List ℕ → ℕ) → IsHash X → ((name : List ℕ) → N name < 2 ^ 64) → (told : Told) (s r : Standing) → TellsAs X N told s → TellsAs X N told r → s ≡ r
stands-one X N hash fits None s r h k = absurd h
stands-one X N hash fits (Some t) s r h k = one_standing X N hash fits (held_at t) t.notes.head s r h k
