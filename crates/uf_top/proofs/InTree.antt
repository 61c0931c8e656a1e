-- From calls on the tree to replies.
use Rattle.std.proofs.Common.{◌≡◌, ℕ, List, [], ◌∷◌, false, refl, sym, ap, subst, ◌∙◌, inl, inr, Option, Some, None, Result, Ok, Err}
use Rattle.std.specs.Prelude.{IfOk, IfSome}
use Rattle.uf_mfs.specs.Answers as tree
use Rattle.uf_mfs.specs.Moving.{Gives}
use Rattle.uf_mfs.specs.Standing.{FindsHead, Inits, IsUnready as IsTreeUnready, IsWanting, ReadsHead, StandsAt, TellsAs, head_in}
use Rattle.uf_mfs.specs.declared.mfs.Mfs.{Mfs}
use Rattle.uf_mfs.specs.declared.fault.MfsFault.{MfsFault}
use Rattle.uf_mfs.specs.declared.fault.MfsFault.TheVariants as mfs
use Rattle.uf_plain.specs.declared.ready.Ready.{Ready}
use Rattle.uf_plain.specs.declared.ready.Ready.TheVariants as ready
use Rattle.uf_plain.specs.declared.rule.Refused.{Refused}
use Rattle.uf_plain.specs.declared.rule.Rule.{Rule}
use Rattle.uf_store.specs.Contents.{Contents, Told}
use Rattle.uf_tree.specs.HeadReading.{head_reads}
use Rattle.uf_tree.specs.Standing.{Standing, NoHead, BadHead, Stands, IsBadHead}
use Rattle.uf_tree.specs.Tree.{Dir, Tree, Entries}
use Rattle.uf_tree.specs.TreePlan.{entry}
use Rattle.uf_tree.specs.declared.head_fault.HeadFault.{HeadFault}
use Rattle.uf_tree.specs.declared.profile.Profile.{Profile}
use Rattle.uf_top.specs.Causes.{HeadStays, IsMade, IsReady, IsReason, IsReasonInTree, IsUnread, RefusesInTree, RefusesOpening}
use Rattle.uf_top.specs.Answering.{Answers}
use Rattle.uf_top.specs.Opening.{IsUnopened, IsUnready, OpensStanding}
use Rattle.uf_top.specs.Reply.{Reply, in_tree, init_reply, looked, moved, not_ready, refused}
use Rattle.uf_command.specs.Statuses.{no_memory}
use Rattle.uf_command.specs.declared.types.Command.TheVariants.{Init}
use Rattle.uf_command.specs.declared.types.Refusal.{Refusal}
use Rattle.uf_command.specs.declared.types.Refusal.TheVariants as refusal
use Rattle.uf_top.proofs.Notes.{note-text}
use Rattle.uf_top.proofs.Standings.{tells-none}

-- want of memory, as a refusal
pub opening-wants : (f : MfsFault) (w : Refusal) → RefusesOpening f w → IsWanting f → w ≡ no_memory
opening-wants (mfs.Rule rule) w is h = absurd h
opening-wants (mfs.Ready why) w is h = absurd h
opening-wants mfs.Sink w is h = absurd h
opening-wants (mfs.Store f) w is h = is ∙ ap refusal.Store h

pub tree-wants : (f : MfsFault) (w : Refusal) → RefusesInTree f w → IsWanting f → w ≡ no_memory
tree-wants (mfs.Rule rule) w is h = absurd h
tree-wants (mfs.Ready why) w is h = absurd h
tree-wants mfs.Sink w is h = absurd h
tree-wants (mfs.Store f) w is h = is ∙ ap refusal.Store h

-- so of a store that isn't ready
pub unready-by : (why : Ready) (f : MfsFault) (w : Refusal) → RefusesOpening f w → IsTreeUnready (mfs.Ready why) f → IsUnready {A = Mfs} why (Err w)
unready-by why (mfs.Rule rule) w is h = absurd h
unready-by why (mfs.Ready given) w is h = let same : given ≡ why = cc in inr (is ∙ ap refusal.Ready same)
unready-by why mfs.Sink w is h = absurd h
unready-by why (mfs.Store f) w is h = inl (is ∙ ap refusal.Store h)

bad-there : (head : Option (List ℕ)) → IsBadHead head → (text : List ℕ) × (head ≡ Some text)
bad-there None b = absurd b
bad-there (Some text) b = (text, refl)

module _ (X : List ℕ → List ℕ) (N : List ℕ → ℕ) where
  pub wants : (s : Standing) (reply : Reply) (why : Refusal) (told : Told) → why ≡ no_memory → TellsAs X N told s → Answers X N s reply (Err why) told
  wants s reply why told is stands = inl (record { ends_are = ap (λ (w : Refusal). Err w) is; stands = stands })

  -- the store isn't ready, or memory is wanting
  unready : (s : Standing) (why : Ready) (w : Refusal) (told : Told) → IsUnready {A = Mfs} why (Err w) → TellsAs X N told s → Answers X N s (not_ready s why) (Err w) told
  unready s why w told (inl wanting) stands = wants s (not_ready s why) w told wanting stands
  unready s why w told (inr is) stands = inr (record { ends_are = ap (λ (w : Refusal). Err w) is; stands = stands; held = tells-none X N told s stands })

  -- the tree isn't opened
  pub not-opened : (s : Standing) (say : Profile → Entries → Reply) (w : Refusal) (told : Told) → OpensStanding X N told s (Err w) → TellsAs X N told s → Answers X N s (in_tree say s) (Err w) told
  not-opened NoHead say w told h stands = unready NoHead ready.NoHead w told h stands
  not-opened BadHead say w told h stands = unready BadHead ready.BadHead w told h stands
  not-opened (Stands p es) say w told h stands = wants (Stands p es) (say p es) w told h stands

  -- the tree is opened
  pub opened : (s : Standing) (say : Profile → Entries → Reply) (m : Mfs) (mid now : Told) (r : Result (List ℕ) Refusal) → OpensStanding X N mid s (Ok m) → TellsAs X N mid s
      → ((p : Profile) (es : Entries) → StandsAt X N mid m p es → TellsAs X N mid (Stands p es) → Answers X N (Stands p es) (say p es) r now)
      → Answers X N s (in_tree say s) r now
  opened NoHead say m mid now r h stands go = absurd h
  opened BadHead say m mid now r h stands go = absurd h
  opened (Stands p es) say m mid now r h stands go = go p es h stands

  -- the store isn't made ready
  init-err : (s : Standing) (p : Profile) (a : Contents) (f : MfsFault) (w : Refusal) (b : Told) → RefusesOpening f w → TellsAs X N (Some a) s → Inits X N b p a.notes.head (Err f) → TellsAs X N b s → Answers X N s (init_reply X N p s) (Err w) b
  init-err NoHead p a f w b is stands h now = wants NoHead (init_reply X N p NoHead) w b (opening-wants f w is (subst (λ head. Inits X N b p head (Err f)) stands h)) now
  init-err BadHead p a f w b is stands h now = (let t = bad-there a.notes.head stands in unready BadHead ready.HeadThere w b (unready-by ready.HeadThere f w is (subst (λ head. Inits X N b p head (Err f)) t.1 h)) now)
  init-err (Stands q es) p a f w b is stands h now = (let t = note-text a.notes.head q (entry X N q (Dir es)).cid stands.head_is in unready (Stands q es) ready.HeadThere w b (unready-by ready.HeadThere f w is (subst (λ head. Inits X N b p head (Err f)) t.1 h)) now)

  pub inits-err : (A B : Type 0) (s : Standing) (p : Profile) (a : Told) (f : MfsFault) (w : Refusal) (b : Told) → RefusesOpening f w → A → B → TellsAs X N a s → IfSome a (λ t. A → B → Inits X N b p t.notes.head (Err f)) → TellsAs X N b s
      → Answers X N s (init_reply X N p s) (Err w) b
  inits-err A B s p None f w b is x y stands h now = absurd stands
  inits-err A B s p (Some a) f w b is x y stands h now = init-err s p a f w b is stands (h x y) now

  -- the store is made ready
  init-ok : (s : Standing) (p : Profile) (a : Contents) (m : Mfs) (b : Told) → TellsAs X N (Some a) s → Inits X N b p a.notes.head (Ok m) → Answers X N s (init_reply X N p s) (Ok []) b
  init-ok NoHead p a m b stands h = (let i = subst (λ head. Inits X N b p head (Ok m)) stands h in inr (record { ends_are = refl; stands = i.1; held = i.0.root.held }))
  init-ok BadHead p a m b stands h = (let t = bad-there a.notes.head stands in absurd (subst (λ head. Inits X N b p head (Ok m)) t.1 h))
  init-ok (Stands q es) p a m b stands h = (let t = note-text a.notes.head q (entry X N q (Dir es)).cid stands.head_is in absurd (subst (λ head. Inits X N b p head (Ok m)) t.1 h))

  pub inits-ok : (A B : Type 0) (s : Standing) (p : Profile) (a : Told) (m : Mfs) (text : List ℕ) (b : Told) → A → B → text ≡ [] → TellsAs X N a s → IfSome a (λ t. A → B → Inits X N b p t.notes.head (Ok m))
      → Answers X N s (init_reply X N p s) (Ok text) b
  inits-ok A B s p None m text b x y nothing stands h = absurd stands
  inits-ok A B s p (Some a) m text b x y nothing stands h = subst (λ text. Answers X N s (init_reply X N p s) (Ok text) b) (sym nothing) (init-ok s p a m b stands (h x y))

  -- ---- on an opened tree

  -- what a rule of the tree refuses is refused by the reply
  pub fault-answers : (A B : Type 0) (P : A → B → Type 0) (s : Standing) (names : List (List ℕ)) (found : Result A Refused) (reply : Result A Refused → Reply) (f : MfsFault) (w : Refusal) (told : Told)
      → ((why : Refused) → reply (Err why) ≡ refused s names why) → RefusesInTree f w → tree.Answers P names found (Err f) → TellsAs X N told s → Answers X N s (reply found) (Err w) told
  fault-answers A B P s names (Ok x) reply (mfs.Rule rule) w told refuses is h stands = absurd h
  fault-answers A B P s names (Err why) reply (mfs.Rule rule) w told refuses is h stands =
      subst (λ r. Answers X N s r (Err w) told) (sym (refuses why))
      (inr (record { ends_are = ap (λ (w : Refusal). Err w) (is ∙ ap refusal.Rule h); stands = stands; held = tells-none X N told s stands }))
  fault-answers A B P s names (Ok x) reply (mfs.Ready why) w told refuses is h stands = absurd h
  fault-answers A B P s names (Err x) reply (mfs.Ready why) w told refuses is h stands = absurd h
  fault-answers A B P s names (Ok x) reply mfs.Sink w told refuses is h stands = absurd h
  fault-answers A B P s names (Err x) reply mfs.Sink w told refuses is h stands = absurd h
  fault-answers A B P s names (Ok x) reply (mfs.Store f) w told refuses is h stands = wants s (reply (Ok x)) w told (is ∙ ap refusal.Store h) stands
  fault-answers A B P s names (Err x) reply (mfs.Store f) w told refuses is h stands = wants s (reply (Err x)) w told (is ∙ ap refusal.Store h) stands

  -- what a lookup gives is printed
  pub look-answers : (B M : Type 0) (P : Tree → B → Type 0) (s : Standing) (names : List (List ℕ)) (say : Tree → List ℕ) (w : Result Tree Refused) (b : B) (text : Result (List ℕ) M) (r : Result (List ℕ) Refusal) (told : Told)
      → tree.Answers P names w (Ok b) → ((t : Tree) → P t b → IfOk text (λ x. x ≡ say t)) → IsMade text r → TellsAs X N told s → Answers X N s (looked s names say w) r told
  look-answers B M P s names say (Err why) b text r told h says made stands = absurd h
  look-answers B M P s names say (Ok t) b (Ok x) r told h says made stands =
      subst (λ r. Answers X N s (looked s names say (Ok t)) r told) (sym made)
      (inr (record { ends_are = ap (λ (x : List ℕ). Ok x) (says t h); stands = stands; held = tells-none X N told s stands }))
  look-answers B M P s names say (Ok t) b (Err m) r told h says made stands =
      subst (λ r. Answers X N s (looked s names say (Ok t)) r told) (sym made) (wants s (looked s names say (Ok t)) no_memory told refl stands)

  -- an edit that a rule refuses is refused by the reply
  pub edit-answers : (P : Entries → Unit {0} → Type 0) (p : Profile) (es : Entries) (edited : Result Entries Rule) (f : MfsFault) (w : Refusal) (told : Told)
      → RefusesInTree f w → Gives {B = Unit {0}} P edited (Err f) → TellsAs X N told (Stands p es) → Answers X N (Stands p es) (moved X N p es edited) (Err w) told
  edit-answers P p es (Ok x) (mfs.Rule rule) w told is h stands = absurd h
  edit-answers P p es (Err given) (mfs.Rule rule) w told is h stands =
      inr (record { ends_are = ap (λ (w : Refusal). Err w) (is ∙ ap refusal.Rule h); stands = stands; held = tells-none X N told (Stands p es) stands })
  edit-answers P p es (Ok x) (mfs.Ready why) w told is h stands = absurd h
  edit-answers P p es (Err x) (mfs.Ready why) w told is h stands = absurd h
  edit-answers P p es (Ok x) mfs.Sink w told is h stands = absurd h
  edit-answers P p es (Err x) mfs.Sink w told is h stands = absurd h
  edit-answers P p es (Ok x) (mfs.Store f) w told is h stands = wants (Stands p es) (moved X N p es (Ok x)) w told (is ∙ ap refusal.Store h) stands
  edit-answers P p es (Err x) (mfs.Store f) w told is h stands = wants (Stands p es) (moved X N p es (Err x)) w told (is ∙ ap refusal.Store h) stands

  -- an edited tree is committed, and nothing is printed
  pub move-answers : (p : Profile) (es : Entries) (w : Result Entries Rule) (m last : Mfs) (mid now : Told) (text : List ℕ)
      → Gives {B = Unit {0}} (λ fs done. StandsAt X N mid m p fs) w (Ok tt) → text ≡ []
      → ((next : Entries) → StandsAt X N mid m p next → StandsAt X N now last p next × TellsAs X N now (Stands p next))
      → Answers X N (Stands p es) (moved X N p es w) (Ok text) now
  move-answers p es (Err why) m last mid now text h nothing commits = absurd h
  move-answers p es (Ok next) m last mid now text h nothing commits =
      let c = commits next h in
      inr (record { ends_are = ap (λ (x : List ℕ). Ok x) nothing; stands = c.1; held = c.0.root.held })

-- ---- over every store

unread-of : (head : Option (List ℕ)) (text : List ℕ) (why : HeadFault) → head ≡ Some text → head_reads text ≡ Err why → IsUnread head
unread-of None text why is unread = absurd cc
unread-of (Some given) text why is unread = (why, (let same : given ≡ text = cc in ap head_reads same ∙ unread))

opening-reason : (told : Told) (why : Ready) → ReadsHead told (Err (mfs.Ready why)) → IsReasonInTree why told
opening-reason told ready.NoHead h = h
opening-reason told ready.HeadThere h = h
opening-reason None ready.BadHead h = tt
opening-reason (Some t) ready.BadHead h = unread-of t.notes.head h.0 h.1 h.2 h.3

pub unopened-by : (told : Told) (f : MfsFault) (w : Refusal) → RefusesOpening f w → ReadsHead told (Err f) → IsUnopened told w
unopened-by told (mfs.Rule rule) w is h = absurd is
unopened-by told (mfs.Ready why) w is h = inl (why, opening-reason told why h, is)
unopened-by told mfs.Sink w is h = absurd is
unopened-by told (mfs.Store f) w is h = inr (f, is)

init-reason : (told : Told) (p : Profile) (why : Ready) → FindsHead told (Err (mfs.Ready why)) → IsReason (Init p) why told
init-reason told p ready.NoHead h = h
init-reason told p ready.HeadThere h = h
init-reason told p ready.BadHead h = h

pub init-ready : (told : Told) (p : Profile) (f : MfsFault) (w : Refusal) → RefusesOpening f w → FindsHead told (Err f) → IsReady {A = List ℕ} told (Init p) (Err w)
init-ready told p (mfs.Rule rule) w is h = absurd is
init-ready told p (mfs.Ready why) w is h = subst (λ w. IsReady {A = List ℕ} told (Init p) (Err w)) (sym is) (init-reason told p why h)
init-ready told p mfs.Sink w is h = absurd is
init-ready told p (mfs.Store f) w is h = subst (λ w. IsReady {A = List ℕ} told (Init p) (Err w)) (sym is) tt

-- the Head stays where a fault refuses
pub stays-same : (r : Result (List ℕ) Refusal) (a b : Told) → head_in b ≡ head_in a → HeadStays r false a b
stays-same (Ok []) a b h = tt
stays-same (Ok (x ∷ text)) a b h = h
stays-same (Err why) a b h = h

pub stays-nothing : (text : List ℕ) (a b : Told) → text ≡ [] → HeadStays (Ok text) false a b
stays-nothing text a b nothing = subst (λ text. HeadStays (Ok text) false a b) (sym nothing) tt
