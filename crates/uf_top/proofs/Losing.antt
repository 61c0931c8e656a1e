-- From calls on a tree of whose blocks some may be lost to what a command answers.
use Rattle.std.proofs.Common.{◌≡◌, ℕ, List, [], ◌++◌, true, false, refl, sym, ap, subst, ◌∙◌, inl, inr, Some, None, Result, Ok, Err}
use Rattle.std.specs.Prelude.{IfOk, IfSome}
use Rattle.uf_cid.specs.Blocks.{Held}
use Rattle.uf_mfs.specs.Answers as tree
use Rattle.uf_mfs.specs.Moving.{GivesOr}
use Rattle.uf_mfs.specs.Standing.{Commits, Idle, Written, Inits, IsPlanOf, LeavesHead, NamesOver, OnlySynced, Same, StandsAfter, TellsAs, head_in}
use Rattle.uf_mfs.specs.declared.fault.MfsFault.{MfsFault}
use Rattle.uf_mfs.specs.declared.fault.MfsFault.TheVariants as mfs
use Rattle.uf_mfs.specs.declared.mfs.Mfs.{Mfs}
use Rattle.uf_mfs.proofs.After.{after-kept}
use Rattle.uf_mfs.proofs.Hinge.{are-good}
use Rattle.uf_mfs.proofs.Holding.{loss-back, loss-front, tells-agrees}
use Rattle.uf_plain.specs.Needs.{root_of}
use Rattle.uf_plain.specs.declared.ready.Ready.TheVariants as ready
use Rattle.uf_plain.specs.declared.rule.Refused.{Refused}
use Rattle.uf_plain.specs.declared.rule.Rule.{Rule}
use Rattle.uf_store.specs.Contents.{Told}
use Rattle.uf_store.specs.Keeping.{Agrees, KeepsGood}
use Rattle.uf_store.specs.Lost.{AgreesAfter, IsLossOf}
use Rattle.uf_store.specs.declared.store.StoreFault.TheVariants.{Memory}
use Rattle.uf_store.proofs.Keeping.{Holds-kept, KeepsGood-same}
use Rattle.uf_cid.specs.declared.cid.Cid.{Cid}
use Rattle.uf_tree.specs.Standing.{IsHeadNote, Stands}
use Rattle.uf_tree.specs.Tree.{Tree, Dir, Entries}
use Rattle.uf_tree.specs.TreePlan.{blocks, entry}
use Rattle.uf_tree.specs.declared.nodes.Entry.{Entry}
use Rattle.uf_tree.specs.declared.profile.Profile.{Profile}
use Rattle.uf_top.specs.Reply.{Reply, init_reply, looked, moved, refused}
use Rattle.uf_command.specs.Statuses.{no_memory}
use Rattle.uf_command.specs.declared.types.Refusal.{Refusal}
use Rattle.uf_command.specs.declared.types.Refusal.TheVariants as refusal
use Rattle.uf_top.specs.Causes.{IsMade, RefusesInTree, RefusesOpening}
use Rattle.uf_top.specs.Losing.{AnswersOver}
use Rattle.uf_top.specs.Naming.{NamesAfter, StaysNamed}
use Rattle.uf_top.specs.Opening.{OpensNamed}
use Rattle.uf_top.proofs.Notes.{note-text}

-- ---- what a commit leaves of what is held

-- it holds what was held before
pub commits-agrees : (m b : Told) (q : Profile) (root : Cid) (l : List Held) → Commits q root m b → Agrees b l → Agrees m l
commits-agrees m b q root l (Idle head same) h = subst (λ u. Agrees u l) same h
commits-agrees None b q root l (Written head same) h = subst (λ u. Agrees u l) same h
commits-agrees (Some t) b q root l (Written head same) h = subst (λ u. Agrees u l) same h

-- so does one that is refused
pub leaves-agrees : (m b : Told) (l : List Held) → LeavesHead m b → Agrees b l → Agrees m l
leaves-agrees m b l (Same same) h = subst (λ u. Agrees u l) same h
leaves-agrees None b l (OnlySynced same) h = subst (λ u. Agrees u l) same h
leaves-agrees (Some t) b l (OnlySynced same) h = subst (λ u. Agrees u l) same h

commits-after : (a m b : Told) (q : Profile) (root : Cid) (old l : List Held) → Commits q root m b → AgreesAfter a m old l → AgreesAfter a b old l
commits-after a m b q root old l (Idle head same) h = subst (λ u. AgreesAfter a u old l) (sym same) h
commits-after a None b q root old l (Written head same) h = absurd h
commits-after a (Some t) b q root old l (Written head same) h = subst (λ u. AgreesAfter a u old l) (sym same) h

-- and the Head names its root
commits-head : (a m b : Told) (q : Profile) (root : Cid) (old l : List Held) → Commits q root m b → AgreesAfter a m old l → IsHeadNote (head_in b) q root
commits-head a m b q root old l (Idle head same) h = subst (λ u. IsHeadNote (head_in u) q root) (sym same) head
commits-head a None b q root old l (Written head same) h = absurd h
commits-head a (Some t) b q root old l (Written head same) h = subst (λ u. IsHeadNote (head_in u) q root) (sym same) (inl refl)

module _ (X : List ℕ → List ℕ) (N : List ℕ → ℕ) where
  -- what was named stays so where the Head is as before and good blocks are kept
  pub names-kept : (a b : Told) (p : Profile) (es : Entries) → KeepsGood X a b → head_in b ≡ head_in a → StaysNamed X N a b p es → NamesAfter X N a b (blocks X N p (Dir es)) p es
  names-kept a b p es good head named = record {
    head = subst (λ n. IsHeadNote n p (entry X N p (Dir es)).cid) (sym head) named.names.head;
    root = record {
      plan = named.names.root.plan;
      after = after-kept X a b (blocks X N p (Dir es)) (are-good X N p (Dir es)) good (record { first = named.names.root.agrees; last = named.last });
    };
  }

  pub names-same : (a b : Told) (p : Profile) (es : Entries) → b ≡ a → StaysNamed X N a b p es → NamesAfter X N a b (blocks X N p (Dir es)) p es
  names-same a b p es same named = names-kept a b p es (KeepsGood-same X a b same) (ap head_in same) named

  -- what stands is named
  pub names-of : (told : Told) (p : Profile) (es : Entries) → TellsAs X N told (Stands p es) → NamesOver X N told p es
  names-of None p es stands = absurd stands
  names-of (Some t) p es stands = record {
    head = stands.head_is;
    root = record {
      plan = record { profile = stands.profile; tree = stands.tree; planned = stands.planned; is = refl };
      agrees = tells-agrees (Some t) (blocks X N p (Dir es)) stands.blocks_held;
    };
  }

  pub named-of : (a b : Told) (p : Profile) (es : Entries) → TellsAs X N a (Stands p es) → KeepsGood X a b → StaysNamed X N a b p es
  named-of None b p es stands keeps = absurd stands
  named-of (Some t) None p es stands keeps = absurd (let e : false ≡ true = keeps.alike in cc)
  named-of (Some t) (Some u) p es stands keeps = record {
    names = names-of (Some t) p es stands;
    last = tells-agrees (Some u) (blocks X N p (Dir es)) (Holds-kept X (Some t) (Some u) (blocks X N p (Dir es)) (are-good X N p (Dir es)) keeps stands.blocks_held);
  }

  -- a call over what was named before it, from a moment at which the same was told
  pub named-from : (a m b : Told) (p : Profile) (es : Entries) → m ≡ a → StaysNamed X N a b p es → StaysNamed X N m b p es
  named-from a m b p es same named = subst (λ t. StaysNamed X N t b p es) (sym same) named

  -- an edit that is committed later is over blocks with which the store agrees before and after it
  pub named-between : (a m b : Told) (q : Profile) (root : Cid) (p : Profile) (es : Entries) → Commits q root m b → StaysNamed X N a b p es → StaysNamed X N a m p es
  named-between a m b q root p es commits named = record { names = named.names; last = commits-agrees m b q root (blocks X N p (Dir es)) commits named.last }

  -- so it is where the commit is refused
  pub named-before : (a m b : Told) (p : Profile) (es : Entries) → LeavesHead m b → StaysNamed X N a b p es → StaysNamed X N a m p es
  named-before a m b p es leaves named = record { names = named.names; last = leaves-agrees m b (blocks X N p (Dir es)) leaves named.last }

  module _ (a b : Told) (p : Profile) (es : Entries) (needs : List Held) where
    pub lost-wants : (given : Reply) (why : Refusal) → why ≡ no_memory → NamesAfter X N a b (blocks X N p (Dir es)) p es → AnswersOver X N a b p es needs given (Err why)
    lost-wants given why is stands = inl (record { fault = Memory; ends_are = ap (λ (w : Refusal). Err w) is; loss = tt; stands = stands })

    -- of more blocks
    pub over-more : (more : List Held) (given : Reply) (r : Result (List ℕ) Refusal) → AnswersOver X N a b p es needs given r → AnswersOver X N a b p es (more ++ needs) given r
    over-more more given r (inl x) = inl (record { fault = x.fault; ends_are = x.ends_are; loss = loss-back a more needs x.fault x.loss; stands = x.stands })
    over-more more given r (inr x) = inr (record { ends_are = x.ends_are; stands = x.stands })

    -- the root block is lost
    pub opening-over : (given : Reply) (w : Refusal) → OpensNamed X N a p es (Err w) → NamesAfter X N a b (blocks X N p (Dir es)) p es → AnswersOver X N a b p es (root_of X N p (Dir es) ++ needs) given (Err w)
    opening-over given w h stands = inl (record { fault = h.0; ends_are = ap (λ (w : Refusal). Err w) h.2; loss = loss-front a (root_of X N p (Dir es)) needs h.0 h.1; stands = stands })

    -- what a rule of the tree refuses is refused by the reply
    pub fault-over : (A B : Type 0) (P : A → B → Type 0) (names : List (List ℕ)) (found : Result A Refused) (reply : Result A Refused → Reply) (f : MfsFault) (w : Refusal)
        → ((why : Refused) → reply (Err why) ≡ refused (Stands p es) names why) → RefusesInTree f w → tree.AnswersOr (IsLossOf a needs) P names found (Err f)
        → NamesAfter X N a b (blocks X N p (Dir es)) p es → AnswersOver X N a b p es needs (reply found) (Err w)
    fault-over A B P names (Ok x) reply (mfs.Rule rule) w refuses is h stands = absurd h
    fault-over A B P names (Err why) reply (mfs.Rule rule) w refuses is h stands =
        subst (λ r. AnswersOver X N a b p es needs r (Err w)) (sym (refuses why))
        (inr (record { ends_are = ap (λ (w : Refusal). Err w) (is ∙ ap refusal.Rule h); stands = stands }))
    fault-over A B P names (Ok x) reply (mfs.Ready why) w refuses is h stands = absurd h
    fault-over A B P names (Err x) reply (mfs.Ready why) w refuses is h stands = absurd h
    fault-over A B P names (Ok x) reply mfs.Sink w refuses is h stands = absurd h
    fault-over A B P names (Err x) reply mfs.Sink w refuses is h stands = absurd h
    fault-over A B P names (Ok x) reply (mfs.Store f) w refuses is h stands = inl (record { fault = f; ends_are = ap (λ (w : Refusal). Err w) is; loss = h; stands = stands })
    fault-over A B P names (Err x) reply (mfs.Store f) w refuses is h stands = inl (record { fault = f; ends_are = ap (λ (w : Refusal). Err w) is; loss = h; stands = stands })

    -- an edit that a rule refuses is refused by the reply
    pub edit-over : (P : Entries → Unit {0} → Type 0) (edited : Result Entries Rule) (f : MfsFault) (w : Refusal)
        → RefusesInTree f w → GivesOr {B = Unit {0}} (IsLossOf a needs) P edited (Err f)
        → NamesAfter X N a b (blocks X N p (Dir es)) p es → AnswersOver X N a b p es needs (moved X N p es edited) (Err w)
    edit-over P (Ok x) (mfs.Rule rule) w is h stands = absurd h
    edit-over P (Err given) (mfs.Rule rule) w is h stands =
        inr (record { ends_are = ap (λ (w : Refusal). Err w) (is ∙ ap refusal.Rule h); stands = stands })
    edit-over P (Ok x) (mfs.Ready why) w is h stands = absurd h
    edit-over P (Err x) (mfs.Ready why) w is h stands = absurd h
    edit-over P (Ok x) mfs.Sink w is h stands = absurd h
    edit-over P (Err x) mfs.Sink w is h stands = absurd h
    edit-over P (Ok x) (mfs.Store f) w is h stands = inl (record { fault = f; ends_are = ap (λ (w : Refusal). Err w) is; loss = h; stands = stands })
    edit-over P (Err x) (mfs.Store f) w is h stands = inl (record { fault = f; ends_are = ap (λ (w : Refusal). Err w) is; loss = h; stands = stands })

    -- what a lookup gives is printed
    pub look-over : (B M : Type 0) (P : Tree → B → Type 0) (names : List (List ℕ)) (say : Tree → List ℕ) (w : Result Tree Refused) (found : B) (text : Result (List ℕ) M) (r : Result (List ℕ) Refusal)
        → tree.AnswersOr (IsLossOf a needs) P names w (Ok found) → ((t : Tree) → P t found → IfOk text (λ x. x ≡ say t)) → IsMade text r
        → NamesAfter X N a b (blocks X N p (Dir es)) p es → AnswersOver X N a b p es needs (looked (Stands p es) names say w) r
    look-over B M P names say (Err why) found text r h says made stands = absurd h
    look-over B M P names say (Ok t) found (Ok x) r h says made stands =
        subst (λ r. AnswersOver X N a b p es needs (looked (Stands p es) names say (Ok t)) r) (sym made)
        (inr (record { ends_are = ap (λ (x : List ℕ). Ok x) (says t h); stands = stands }))
    look-over B M P names say (Ok t) found (Err m) r h says made stands =
        subst (λ r. AnswersOver X N a b p es needs (looked (Stands p es) names say (Ok t)) r) (sym made) (lost-wants (looked (Stands p es) names say (Ok t)) no_memory refl stands)

    -- ---- an edited tree is committed

    pub became : (m : Told) (new : Mfs) (next : Entries) → Commits new.profile new.root.cid m b → StandsAfter X N a m (blocks X N p (Dir es)) new p next
        → NamesAfter X N a b (blocks X N p (Dir es)) p next
    became m new next commits h =
        let old = blocks X N p (Dir es) in
        let names = commits-head a m b new.profile new.root.cid old (blocks X N p (Dir next)) commits h.root.after in
        let plan : IsPlanOf X N p (entry X N p (Dir next)) (Dir next) = record { profile = h.root.plan.profile; tree = h.root.plan.tree; planned = h.root.plan.planned; is = refl } in
        record {
          head = subst (λ (e : Entry). IsHeadNote (head_in b) p e.cid) h.root.plan.is (subst (λ (q : Profile). IsHeadNote (head_in b) q new.root.cid) h.profile_is names);
          root = record { plan = plan; after = commits-after a m b new.profile new.root.cid old (blocks X N p (Dir next)) commits h.root.after };
        }

    pub move-over : (m : Told) (w : Result Entries Rule) (new : Mfs) (text : List ℕ)
        → GivesOr {B = Unit {0}} (IsLossOf a (blocks X N p (Dir es))) (λ fs done. StandsAfter X N a m (blocks X N p (Dir es)) new p fs) w (Ok tt) → text ≡ [] → Commits new.profile new.root.cid m b
        → AnswersOver X N a b p es needs (moved X N p es w) (Ok text)
    move-over m (Err why) new text h nothing commits = absurd h
    move-over m (Ok next) new text h nothing commits =
        inr (record { ends_are = ap (λ (x : List ℕ). Ok x) nothing; stands = became m new next commits h })

  -- ---- `init`

  unready-over : (a b : Told) (p q : Profile) (es : Entries) (f : MfsFault) (w : Refusal) (text : List ℕ) → RefusesOpening f w → Inits X N b p (Some text) (Err f)
      → NamesAfter X N a b (blocks X N q (Dir es)) q es → AnswersOver X N a b q es [] (init_reply X N p (Stands q es)) (Err w)
  unready-over a b p q es (mfs.Rule rule) w text is h stands = absurd h
  unready-over a b p q es (mfs.Ready given) w text is h stands =
      let same : given ≡ ready.HeadThere = cc in
      inr (record { ends_are = ap (λ (w : Refusal). Err w) (is ∙ ap refusal.Ready same); stands = stands })
  unready-over a b p q es mfs.Sink w text is h stands = absurd h
  unready-over a b p q es (mfs.Store f) w text is h stands = lost-wants a b q es [] (init_reply X N p (Stands q es)) w (is ∙ ap refusal.Store h) stands

  -- the store isn't made ready, since a Head is there
  pub inits-over : (F G : Type 0) (a b : Told) (p q : Profile) (es : Entries) (f : MfsFault) (w : Refusal) → RefusesOpening f w → F → G → NamesOver X N a q es
      → IfSome a (λ t. F → G → Inits X N b p t.notes.head (Err f)) → NamesAfter X N a b (blocks X N q (Dir es)) q es → AnswersOver X N a b q es [] (init_reply X N p (Stands q es)) (Err w)
  inits-over F G None b p q es f w is x y names h stands = absurd names.root.agrees
  inits-over F G (Some t) b p q es f w is x y names h stands =
      let note = note-text t.notes.head q (entry X N q (Dir es)).cid names.head in
      unready-over (Some t) b p q es f w note.0 is (subst (λ head. Inits X N b p head (Err f)) note.1 (h x y)) stands

  pub not-inited : (F G : Type 0) (a b : Told) (p q : Profile) (es : Entries) (m : Mfs) → F → G → NamesOver X N a q es → IfSome a (λ t. F → G → Inits X N b p t.notes.head (Ok m)) → ⊥
  not-inited F G None b p q es m x y names h = names.root.agrees
  not-inited F G (Some t) b p q es m x y names h = subst (λ head. Inits X N b p head (Ok m)) (note-text t.notes.head q (entry X N q (Dir es)).cid names.head).1 (h x y)
