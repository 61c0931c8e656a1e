-- What is adopted of what a CID denotes.
use Rattle.std.proofs.Common.{◌≡◌, inl, inr, ℕ, ◌+◌, List, [], ◌∷◌, refl, subst, sym, Result, Ok, Err}
use Rattle.std.specs.Prelude.{Some, None}
use Rattle.uf_cid.specs.Blocks.{Lookup}
use Rattle.uf_cid.specs.declared.cid.Cid.{Cid}
use Rattle.uf_store.specs.Contents.{Contents, Told, held_at}
use Rattle.uf_tree.specs.Tree.{Dir, Entries, File, Nothing, Tree, With}
use Rattle.uf_tree.specs.declared.nodes.Entry.{Entry}
use Rattle.uf_tree.specs.declared.profile.Profile.{Profile}
use Rattle.uf_lenient.specs.Answers.{IsFault}
use Rattle.uf_lenient.specs.Reading.{denotes}
use Rattle.uf_lenient.specs.Good.{ByGoodBlocks}
use Rattle.uf_lenient.specs.Within.{AnswersSame, HoldsAllOf, good_blocks}
use Rattle.uf_lenient.specs.declared.fault.DagFault.{DagFault}
use Rattle.uf_lenient.specs.declared.fault.DagFault.TheVariants as dag
use Rattle.uf_lenient.specs.declared.shapes.Limits.{Limits}
use Rattle.uf_lenient.proofs.Good.{good-has, good-is}
use Rattle.uf_lenient.proofs.Greater.{shape-stays, tree-stays}
use Rattle.uf_lenient.specs.Steps.{Surveys}
use Rattle.uf_lenient.specs.declared.shapes.Shape.{Shape}
use Rattle.uf_lenient.specs.declared.shapes.Shape.TheVariants.{Folder as FolderShape}
use Rattle.uf_lenient.specs.Reading.{shallow_of}
use Rattle.uf_adopt.specs.Adopting.{Adopts, BuildsTree, IsFirstAmong, IsFirstTooLong}
use Rattle.uf_store.specs.Writing.{SavesOnly}
use Rattle.uf_store.specs.declared.store.StoreFault.TheVariants as stores
use Rattle.uf_lenient.specs.Denoted.{denotes_within}
use Rattle.uf_adopt.specs.Faults.{SavesNone, of_reading}
use Rattle.uf_adopt.specs.Feeding.{HoldsGoodMap}
use Rattle.uf_adopt.specs.declared.fault.AdoptFault.{AdoptFault}
use Rattle.uf_adopt.specs.declared.fault.AdoptFault.TheVariants.{Dag, FileTooLong, Collision, TooBig, Store}

-- the good blocks of what is held are held
pub good-map : (hash : List ℕ → List ℕ) (t : Contents) → HoldsGoodMap hash (good_blocks hash (held_at t)) (Some t)
good-map hash t = λ c block is. (good-is hash (held_at t) c block).0 is

module _ (X : List ℕ → List ℕ) (N : List ℕ → ℕ) (p : Profile) (held : Lookup) (limits : Limits) (told : Told) (c : Cid) where
  -- the reading has a fault
  pub not-denoted : (fault : DagFault) → IsFault (denotes held limits c) fault → Adopts X N p held limits told c (Err (of_reading fault))
  not-denoted (dag.Store fault) (inl own) = inl (inl own)
  not-denoted (dag.Store fault) (inr said) = inr said
  not-denoted other (inl own) = absurd own
  not-denoted other (inr said) = said

  -- there is a tree
  pub is-denoted : (t : Tree) (r : Result Entry AdoptFault) → denotes held limits c ≡ Ok t → BuildsTree X N p held limits told c t r → Adopts X N p held limits told c r
  is-denoted t (Ok e) is h = record { tree = t; denoted = is; builds = h }
  is-denoted t (Err (FileTooLong node)) is h = record { tree = t; denoted = is; builds = h }
  is-denoted t (Err (Collision x y)) is h = record { tree = t; denoted = is; builds = h }
  is-denoted t (Err TooBig) is h = record { tree = t; denoted = is; builds = h }
  is-denoted t (Err (Store fault)) is h = inl h
  is-denoted t (Err (Dag fault)) is h = absurd h

-- a reading writes nothing, whatever its fault
pub reading-unsaved : (fault : DagFault) (before now : Told) → now ≡ before → SavesNone {A = Entry} (Err (of_reading fault)) before now
reading-unsaved (dag.Store (stores.Missing cid)) before now same = same
reading-unsaved (dag.Store stores.Failed) before now same = tt
reading-unsaved (dag.Store (stores.Damaged cid)) before now same = tt
reading-unsaved (dag.Store (stores.BadBlock cid role)) before now same = tt
reading-unsaved (dag.Store (stores.Clash cid held bytes)) before now same = tt
reading-unsaved (dag.Store stores.Memory) before now same = tt
reading-unsaved (dag.NotUnixfs cid why) before now same = same
reading-unsaved (dag.DuplicateName cid name) before now same = same
reading-unsaved (dag.BadName cid) before now same = same
reading-unsaved (dag.Unsupported cid) before now same = same
reading-unsaved (dag.TooDeep cid) before now same = same
reading-unsaved dag.TooMany before now same = same
reading-unsaved (dag.NotFound place) before now same = same
reading-unsaved (dag.NotADirectory place) before now same = same

-- where nothing is told, nothing is told afterwards
untold-unsaved : (r : Result Entry AdoptFault) (now : Told) → now ≡ None → SavesNone r None now
untold-unsaved (Ok a) now same = tt
untold-unsaved (Err (Dag fault)) now same = same
untold-unsaved (Err (FileTooLong node)) now same = tt
untold-unsaved (Err (Collision x y)) now same = tt
untold-unsaved (Err TooBig) now same = tt
untold-unsaved (Err (Store (stores.Missing cid))) now same = same
untold-unsaved (Err (Store stores.Failed)) now same = tt
untold-unsaved (Err (Store (stores.Damaged cid))) now same = tt
untold-unsaved (Err (Store (stores.BadBlock cid role))) now same = tt
untold-unsaved (Err (Store (stores.Clash cid held bytes))) now same = tt
untold-unsaved (Err (Store stores.Memory)) now same = tt

module _ (X : List ℕ → List ℕ) (N : List ℕ → ℕ) (p : Profile) (limits : Limits) where
  -- what is there to be built is never refused for its reading
  built-unsaved : (held : Lookup) (before now : Told) (c : Cid) (t : Tree) (r : Result Entry AdoptFault) → BuildsTree X N p held limits now c t r → SavesNone r before now
  built-unsaved held before now c t (Ok e) h = tt
  built-unsaved held before now c t (Err (Dag fault)) h = absurd h
  built-unsaved held before now c t (Err (FileTooLong node)) h = tt
  built-unsaved held before now c t (Err (Collision x y)) h = tt
  built-unsaved held before now c t (Err TooBig) h = tt
  built-unsaved held before now c t (Err (Store (stores.Missing cid))) (inl h) = absurd h
  built-unsaved held before now c t (Err (Store (stores.Missing cid))) (inr h) = absurd h
  built-unsaved held before now c t (Err (Store stores.Failed)) h = tt
  built-unsaved held before now c t (Err (Store (stores.Damaged cid))) h = tt
  built-unsaved held before now c t (Err (Store (stores.BadBlock cid role))) h = tt
  built-unsaved held before now c t (Err (Store (stores.Clash cid block bytes))) h = tt
  built-unsaved held before now c t (Err (Store stores.Memory)) h = tt

  pub surveyed-unsaved : (told read now : Told) (c : Cid) (shape : Shape) (r : Result Entry AdoptFault) → read ≡ told
      → ByGoodBlocks X told (λ held. Surveys held limits c (Ok shape))
      → ((held : Lookup) (t : Tree) → HoldsGoodMap X held read → denotes held limits c ≡ Ok t
      → BuildsTree X N p held limits now c t r) → SavesOnly X read now → SavesNone r told now
  surveyed-unsaved None read now c shape r told_same says builds saves = untold-unsaved r now (by now (subst (λ (t : Told). SavesOnly X t now) told_same saves))
    where
      by : (now : Told) → SavesOnly X None now → now ≡ None
      by None saves = refl
      by (Some t) saves = absurd saves
  surveyed-unsaved (Some t) read now c shape r told_same says builds saves =
      let own = good_blocks X (held_at t) in
      let said = says own (good-has X (held_at t)) in
      built-unsaved own (Some t) now c said.tree r (builds own said.tree (subst (HoldsGoodMap X own) (sym told_same) (good-map X t)) said.denoted)

  pub says-fault : (told now : Told) (c : Cid) (fault : DagFault)
      → ByGoodBlocks X told (λ held. Surveys held limits c (Err fault))
      → ByGoodBlocks X told (λ held. Adopts X N p held limits now c (Err (of_reading fault)))
  says-fault None now c fault says = tt
  says-fault (Some t) now c fault says = λ good has. not-denoted X N p good limits now c fault (says good has)

  -- a CID denotes so much with so much room
  pub with-room : (held : Lookup) (c : Cid) (t : Tree) (room : ℕ) → room ≡ limits.depth + 1 → denotes held limits c ≡ Ok t → denotes_within held limits room c ≡ Ok t
  with-room held c t room is denoted = subst (λ n. denotes_within held limits n c ≡ Ok t) (sym is) denoted

  -- ---- what is built of a map is built of each greater one

  module _ (held more : Lookup) (all : HoldsAllOf held more) where
    shape_there : (c : Cid) (shape : Shape) → shallow_of held limits c ≡ Ok shape → shallow_of more limits c ≡ Ok shape
    shape_there c shape is = subst (λ r. AnswersSame more r (shallow_of more limits c)) is (shape-stays held more all limits c)

    mutual
      unfolding IsFirstTooLong

      long_there : (t : Tree) (c node : Cid) → IsFirstTooLong X N p held limits t c node
          → IsFirstTooLong X N p more limits t c node
      long_there (File m bytes) c node h = h
      long_there (Dir es) c node h = (h.0, h.1, shape_there c (FolderShape h.0 h.1) h.2, among_there es h.1 node h.3)

      among_there : (es : Entries) (ways : List (List ℕ × Cid)) (node : Cid)
          → IsFirstAmong X N p held limits es ways node → IsFirstAmong X N p more limits es ways node
      among_there (Nothing m) ways node h = absurd h
      among_there (With name t es) [] node h = absurd h
      among_there (With name t es) (w ∷ ways) node (inl h) = inl (long_there t w.1 node h)
      among_there (With name t es) (w ∷ ways) node (inr h) = inr (h.0, among_there es ways node h.1)

    builds_there : (now : Told) (c : Cid) (t : Tree) (r : Result Entry AdoptFault)
        → BuildsTree X N p held limits now c t r → BuildsTree X N p more limits now c t r
    builds_there now c t (Ok e) h = h
    builds_there now c t (Err (FileTooLong node)) h = (h.0, long_there t c node h.1)
    builds_there now c t (Err (Collision x y)) h = h
    builds_there now c t (Err TooBig) h = h
    builds_there now c t (Err (Store fault)) h = h
    builds_there now c t (Err (Dag fault)) h = absurd h

    adopts_there : (now : Told) (c : Cid) (t : Tree) (r : Result Entry AdoptFault) → denotes held limits c ≡ Ok t
        → BuildsTree X N p held limits now c t r → Adopts X N p more limits now c r
    adopts_there now c t r denoted builds =
        is-denoted X N p more limits now c t r
        (subst (λ r. AnswersSame more r (denotes more limits c)) denoted (tree-stays held more all limits c))
        (builds_there now c t r builds)

  pub says-denoted : (told read now : Told) (c : Cid) (shape : Shape) (r : Result Entry AdoptFault) → read ≡ told
      → ByGoodBlocks X told (λ held. Surveys held limits c (Ok shape))
      → ((held : Lookup) (t : Tree) → HoldsGoodMap X held read → denotes held limits c ≡ Ok t
      → BuildsTree X N p held limits now c t r) → ByGoodBlocks X told (λ held. Adopts X N p held limits now c r)
  says-denoted None read now c shape r told_same says builds = tt
  says-denoted (Some t) read now c shape r told_same says builds = λ good has.
      let own = good_blocks X (held_at t) in
      let said = says own (good-has X (held_at t)) in
      let all : HoldsAllOf own good = λ c block is. let both = (good-is X (held_at t) c block).0 is in has.holds c block both.0 both.1 in
      adopts_there own good all now c said.tree r said.denoted
      (builds own said.tree (subst (HoldsGoodMap X own) (sym told_same) (good-map X t)) said.denoted)
