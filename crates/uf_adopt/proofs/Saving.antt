-- What is saved of what a CID denotes is among the blocks of its plan.
use Rattle.std.proofs.Common.{◌≡◌, ℕ, ◌-◌, ◌≤◌, List, [], ◌∷◌, ◌++◌, sym, subst, ◌∙◌, Result, Ok, Err}
use Rattle.std.specs.Prelude.{IfSome, Some, None}
use Rattle.uf_cid.specs.Blocks.{Held, Lookup}
use Rattle.uf_cid.specs.declared.cid.Cid.{Cid}
use Rattle.uf_store.specs.Among.{SavesAmong}
use Rattle.uf_store.specs.Contents.{Told, held_at}
use Rattle.uf_store.proofs.Among.{SavesAmong-more, SavesAmong-same, among-left, among-right}
use Rattle.uf_build.specs.Building.{Building, HasFed, SavesForFront}
use Rattle.uf_build.proofs.Among.{front-more}
use Rattle.uf_dir.specs.Planned.{own_blocks}
use Rattle.uf_tree.specs.FilePlan.{file_plan}
use Rattle.uf_tree.specs.Nodes.{Named}
use Rattle.uf_tree.specs.Tree.{Dir, Entries, File, Tree, fold, own_meta}
use Rattle.uf_tree.specs.TreePlan.{blocks as blocks_of, members, planned}
use Rattle.uf_tree.specs.declared.meta.Meta.{Meta}
use Rattle.uf_tree.specs.declared.profile.Profile.{Profile}
use Rattle.uf_lenient.specs.Answers.{FollowsReading}
use Rattle.uf_lenient.specs.Denoted.{DenotesBy, denotes_within}
use Rattle.uf_lenient.specs.Good.{ByGoodBlocks}
use Rattle.uf_lenient.specs.Reading.{denotes, file_of, shallow_of}
use Rattle.uf_lenient.specs.Steps.{IsNextPiece, Rest, Surveys}
use Rattle.uf_lenient.specs.Streams.{IsFileFront}
use Rattle.uf_lenient.specs.Visited.{VisitsNext, pieces_of}
use Rattle.uf_lenient.specs.Within.{AnswersSame, HoldsAllOf, good_blocks}
use Rattle.uf_lenient.specs.declared.fault.DagFault.{DagFault}
use Rattle.uf_lenient.specs.declared.shapes.Limits.{Limits}
use Rattle.uf_lenient.specs.declared.shapes.Shape.{Shape}
use Rattle.uf_lenient.specs.declared.shapes.Shape.TheVariants.{File as FileShape}
use Rattle.uf_lenient.proofs.Good.{good-has, good-is}
use Rattle.uf_lenient.proofs.Greater.{tree-stays}
use Rattle.uf_lenient.proofs.Visited.{pieces-front}
use Rattle.uf_adopt.specs.Adopting.{SavesOfTree, each_blocks, planned_each}
use Rattle.uf_adopt.specs.Feeding.{GaveFront, HoldsGoodMap}
use Rattle.uf_adopt.proofs.Built.{Next}
use Rattle.uf_adopt.proofs.Denoted.{good-map}
use Rattle.uf_adopt.proofs.Fed.{gave_more, pieces_then}
use Rattle.uf_adopt.proofs.Going.{shape_read, step_at}

-- what is saved of one piece more is for the whole file
module _ (hash : List ℕ → List ℕ) (held : Lookup) (limits : Limits) (c : Cid) (bytes : List ℕ) (is : file_of held limits c ≡ Ok bytes) where
  front_saves : (p : Profile) (front : List ℕ) (a b : Told) → IsFileFront front (Ok bytes) → SavesForFront hash p front a b → SavesForFront hash p bytes a b
  front_saves p front a b more saves = subst (λ (l : List ℕ). SavesForFront hash p l a b) (sym more.1) (front-more hash p front more.0 a b saves)

  pub piece-saves : (told next_told now_told : Told) (now next : Rest) (b : Building) (piece : List ℕ) → HoldsGoodMap hash held told → GaveFront hash held limits c told now b
      → IfSome told (λ t. IsNextPiece (held_at t) now next (Ok (Some piece))) → IfSome told (λ t. VisitsNext (held_at t) now next)
      → ((front : List ℕ) → HasFed hash front b → SavesForFront hash b.profile (front ++ piece) next_told now_told) → SavesForFront hash b.profile bytes next_told now_told
  piece-saves None next_told now_told now next b piece good g says visits saves = absurd good
  piece-saves (Some t) next_told now_told now next b piece good g says visits saves =
      front_saves b.profile (pieces_of g.calls ++ piece) next_told now_told
      (subst (IsFileFront (pieces_of g.calls ++ piece)) is
      (subst (λ (l : List ℕ). IsFileFront l (file_of held limits c)) (pieces_then hash g.calls (held_at t, piece))
      (pieces-front held limits c (g.calls ++ (held_at t, piece) ∷ []) next (gave_more hash held limits c bytes is t good g.calls now next piece g.gave says visits))))
      (saves (pieces_of g.calls) g.front.fed)

module _ (X : List ℕ → List ℕ) (N : List ℕ → ℕ) (p : Profile) where
  -- what is saved of the tree that the next way leads to
  pub next-saves : (held : Lookup) (limits : Limits) (room : ℕ) (ways : List (List ℕ × Cid)) (es : Entries) (told : Told) (w : List ℕ × Cid) (left : List (List ℕ × Cid)) (l : List Named) (n : Next X N p held limits room ways es told w left l)
      (a b : Told) → SavesAmong X (blocks_of X N p n.tree) a b → SavesAmong X (each_blocks X N p es) a b
  next-saves held limits room ways es told w left l n a b h =
      let here : List Held = blocks_of X N p n.tree in
      let rest : List Held = here ++ each_blocks X N p n.others in
      subst (λ (k : List Held). SavesAmong X k a b) (sym n.blocks)
      (SavesAmong-more X rest (n.front ++ rest) a b (among-right n.front rest)
      (SavesAmong-more X here rest a b (among-left here (each_blocks X N p n.others)) h))

  module _ (es : Entries) (a b : Told) where
    -- what is saved of a directory's members
    pub members-saves : SavesAmong X (each_blocks X N p es) a b → SavesAmong X (blocks_of X N p (Dir es)) a b
    unfolding planned fold
    members-saves h =
        let own : List Held = own_blocks X N p (own_meta es) (members X N p (planned_each X N p es)) in
        SavesAmong-more X (each_blocks X N p es) (each_blocks X N p es ++ own) a b (among-left (each_blocks X N p es) own) h

    -- and of the directory itself
    pub own-saves : (meta : Meta) (l : List Named) → own_meta es ≡ meta → l ≡ members X N p (planned_each X N p es) → SavesAmong X (own_blocks X N p meta l) a b → SavesAmong X (blocks_of X N p (Dir es)) a b
    unfolding planned fold
    own-saves meta l its are h =
        let own : List Held = own_blocks X N p (own_meta es) (members X N p (planned_each X N p es)) in
        SavesAmong-more X own (each_blocks X N p es ++ own) a b (among-right (each_blocks X N p es) own)
        (subst (λ (m : Meta). SavesAmong X (own_blocks X N p m (members X N p (planned_each X N p es))) a b) (sym its)
        (subst (λ (k : List Named). SavesAmong X (own_blocks X N p meta k) a b) are h))

  -- of a CID that denotes a file
  pub file-saves : (held : Lookup) (limits : Limits) (told : Told) (room : ℕ) (c : Cid) (t : Tree) (shape : Shape) (meta : Meta) (a b : Told) → 1 ≤ room → HoldsGoodMap X held told → denotes_within held limits room c ≡ Ok t
      → IfSome told (λ t. FollowsReading (λ s. s) (shallow_of (held_at t) limits c) (Ok shape)) → shape ≡ FileShape meta
      → ((bytes : List ℕ) → file_of held limits c ≡ Ok bytes → SavesAmong X (file_plan X p meta bytes).blocks a b) → SavesAmong X (blocks_of X N p t) a b
  unfolding planned fold
  file-saves held limits told room c t shape meta a b some good is says same saves =
      let s = step_at X N p held limits room c t some is in
      by t (subst (DenotesBy held limits (room - 1) c t) (sym (shape_read X N p held limits told c s.shape shape good s.shaped says) ∙ same) s.by)
    where
      by : (u : Tree) → DenotesBy held limits (room - 1) c u (FileShape meta) → SavesAmong X (blocks_of X N p u) a b
      by (File m bytes) d = subst (λ (n : Meta). SavesAmong X (file_plan X p n bytes).blocks a b) (sym d.0) (saves bytes d.1)
      by (Dir es) d = absurd d

  -- ---- a whole adoption

  -- nothing is saved
  pub none-saved : (said : Result Tree DagFault) (before now : Told) → now ≡ before → SavesOfTree X N p said before now
  none-saved (Ok t) before now same = SavesAmong-same X (blocks_of X N p t) before now same
  none-saved (Err fault) before now same = same

  pub survey-saves : (limits : Limits) (c : Cid) (told now : Told) → now ≡ told → ByGoodBlocks X told (λ held. SavesOfTree X N p (denotes held limits c) told now)
  survey-saves limits c None now same = tt
  survey-saves limits c (Some t) now same = λ good has. none-saved (denotes good limits c) (Some t) now same

  -- what a CID denotes by a good map it denotes by each greater one
  pub denoted-saves : (limits : Limits) (c : Cid) (shape : Shape) (told read now : Told) → read ≡ told → ByGoodBlocks X told (λ held. Surveys held limits c (Ok shape))
      → ((held : Lookup) (t : Tree) → HoldsGoodMap X held read → denotes held limits c ≡ Ok t → SavesAmong X (blocks_of X N p t) read now)
      → ByGoodBlocks X told (λ held. SavesOfTree X N p (denotes held limits c) told now)
  denoted-saves limits c shape None read now same says saves = tt
  denoted-saves limits c shape (Some t) read now same says saves = λ good has.
      let own = good_blocks X (held_at t) in
      let said = says own (good-has X (held_at t)) in
      let all : HoldsAllOf own good = λ c block is. let both = (good-is X (held_at t) c block).0 is in has.holds c block both.0 both.1 in
      let there : denotes good limits c ≡ Ok said.tree = subst (λ r. AnswersSame good r (denotes good limits c)) said.denoted (tree-stays own good all limits c) in
      subst (λ (r : Result Tree DagFault). SavesOfTree X N p r (Some t) now) (sym there)
      (subst (λ (u : Told). SavesAmong X (blocks_of X N p said.tree) u now) same
      (saves own said.tree (subst (HoldsGoodMap X own) (sym same) (good-map X t)) said.denoted))
