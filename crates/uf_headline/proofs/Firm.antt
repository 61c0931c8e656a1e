-- What a stop leaves after each of the writes of a command.
use Rattle.std.proofs.Common.{◌≡◌, ◌⊎◌, ℕ, List, [], ◌∷◌, ◌++◌, refl, sym, ap, subst, ◌∙◌, inl, inr, append_assoc, append-nil, Some}
use Rattle.std.specs.Prelude.{fold}
use Rattle.std.specs.FinMap.{empty, get, insert}
use Rattle.std.specs.List.{AllByRecursion}
use Rattle.uf_cid.specs.Blocks.{Held}
use Rattle.uf_cid.specs.Blocks as blocks
use Rattle.uf_store.specs.Contents.{Contents, HeldMap, Notes, held_after, no_notes, notes_after, with_sync, with_text}
use Rattle.uf_store.specs.Stops.{IsPart, IsPlain, firm, firm_after, held_by, notes_by, written}
use Rattle.uf_store.specs.Writing.{Appends, IsAny, IsSave, ReplaceNone}
use Rattle.uf_store.specs.declared.store.Note.{Note}
use Rattle.uf_store.specs.declared.store.Note.TheVariants.{Head, Pins}
use Rattle.uf_store.specs.declared.store.Write.{Write}
use Rattle.uf_store.specs.declared.store.Write.TheVariants.{Saved, Synced, Noted}
use Rattle.uf_store.proofs.Keeping.{Holds-kept}
use Rattle.uf_store.proofs.Plain.{stays_plain}
use Rattle.uf_store.proofs.Writing.{WritesOnly-noted, WritesOnly-synced, Wrote-good, fold-append, saves-notes}
use Rattle.uf_tree.specs.Standing.{IsHeadNote}
use Rattle.uf_tree.specs.Tree.{Dir, Entries}
use Rattle.uf_tree.specs.TreePlan.{blocks as blocks_of, entry}
use Rattle.uf_tree.specs.declared.profile.Profile.{Profile}
use Rattle.uf_mfs.proofs.Hinge.{are-good}
use Rattle.uf_top.specs.Outcomes.{EachOutcome, EachStop, IsSafeFor, LeavesTree}
use Rattle.uf_top.proofs.Notes.{note-text}

-- ---- lists of writes

rest_is : (u d : Write) (k l : List Write) → u ∷ k ≡ d ∷ l → k ≡ l
rest_is u d k l e = cc

first_is : (u d : Write) (k l : List Write) → u ∷ k ≡ d ∷ l → u ≡ d
first_is u d k l e = cc

behind : (front k l : List Write) → front ++ k ≡ front ++ l → k ≡ l
behind [] k l e = e
behind (u ∷ front) k l e = behind front k l (rest_is u u (front ++ k) (front ++ l) e)

-- what was written in some place is what was added behind it
pub added-is : (front added done rest ws : List Write) → ws ≡ front ++ added → ws ≡ front ++ done ++ rest → added ≡ done ++ rest
added-is front added done rest ws is cut = behind front added (done ++ rest) (sym is ∙ cut ∙ append_assoc front done rest)

-- a front of two lists ends in the first or in the second
pub cut : (xs ys done rest : List Write) → xs ++ ys ≡ done ++ rest → ((more : List Write) × (xs ≡ done ++ more)) ⊎ ((past : List Write) × (done ≡ xs ++ past) × (ys ≡ past ++ rest))
cut [] ys done rest e = inr (done, refl, e)
cut (x ∷ xs) ys [] rest e = inl (x ∷ xs, refl)
cut (x ∷ xs) ys (d ∷ done) rest e =
    by (cut xs ys done rest (rest_is x d (xs ++ ys) (done ++ rest) e)) (first_is x d (xs ++ ys) (done ++ rest) e)
  where
    by : ((more : List Write) × (xs ≡ done ++ more)) ⊎ ((past : List Write) × (done ≡ xs ++ past) × (ys ≡ past ++ rest)) → x ≡ d
        → ((more : List Write) × (x ∷ xs ≡ (d ∷ done) ++ more)) ⊎ ((past : List Write) × (d ∷ done ≡ (x ∷ xs) ++ past) × (ys ≡ past ++ rest))
    by (inl m) same = inl (m.0, (let e : xs ≡ done ++ m.0 = m.1 in let f : x ∷ xs ≡ d ∷ (done ++ m.0) = cc in f))
    by (inr m) same = inr (m.0, (let e : done ≡ xs ++ m.0 = m.1 in let f : d ∷ done ≡ x ∷ (xs ++ m.0) = cc in f), m.2)

pub each-front : (IsOne : Write → Type 0) (done more : List Write) → AllByRecursion IsOne (done ++ more) → AllByRecursion IsOne done
each-front IsOne [] more h = tt
each-front IsOne (w ∷ done) more h = (h.0, each-front IsOne done more h.1)

pub replace-front : (hash : List ℕ → List ℕ) (m : HeldMap) (done more : List Write) → ReplaceNone hash m (done ++ more) → ReplaceNone hash m done
replace-front hash m [] more h = tt
replace-front hash m (Saved cid bytes ∷ done) more h = (h.0, h.1, replace-front hash (insert m cid bytes) done more h.2)
replace-front hash m (Synced ∷ done) more h = replace-front hash m done more h
replace-front hash m (Noted which text ∷ done) more h = replace-front hash m done more h

-- ---- what is held and firm after lists of writes

all-held : (s : HeldMap × HeldMap) (ws : List Write) → (fold firm_after s ws).0 ≡ fold held_after s.0 ws
all-held s [] = refl
all-held s (Saved cid bytes ∷ ws) = all-held (insert s.0 cid bytes, s.1) ws
all-held s (Synced ∷ ws) = all-held (s.0, s.0) ws
all-held s (Noted which text ∷ ws) = all-held s ws

saves-firm : (s : HeldMap × HeldMap) (us : List Write) → AllByRecursion IsSave us → (fold firm_after s us).1 ≡ s.1
saves-firm s [] h = refl
saves-firm s (Saved cid bytes ∷ us) h = saves-firm (insert s.0 cid bytes, s.1) us h.1
saves-firm s (Synced ∷ us) h = absurd h.0
saves-firm s (Noted which text ∷ us) h = absurd h.0

-- after a sync all that is held is firm
pub synced-firm : (ws : List Write) → firm (ws ++ Synced ∷ []) ≡ held_by ws
synced-firm ws = ap (λ (s : HeldMap × HeldMap). s.1) (fold-append firm_after (empty, empty) ws (Synced ∷ [])) ∙ all-held (empty, empty) ws

pub noted-firm : (ws : List Write) (which : Note) (text : List ℕ) → firm (ws ++ Noted which text ∷ []) ≡ firm ws
noted-firm ws which text = ap (λ (s : HeldMap × HeldMap). s.1) (fold-append firm_after (empty, empty) ws (Noted which text ∷ []))

saved-firm : (ws us : List Write) → AllByRecursion IsSave us → firm (ws ++ us) ≡ firm ws
saved-firm ws us h = ap (λ (s : HeldMap × HeldMap). s.1) (fold-append firm_after (empty, empty) ws us) ∙ saves-firm (fold firm_after (empty, empty) ws) us h

-- saves put behind writes
pub saves-append : (hash : List ℕ → List ℕ) (ws us : List Write) → AllByRecursion IsSave us → ReplaceNone hash (held_by ws) us → Appends hash IsSave (written ws) (written (ws ++ us))
saves-append hash ws us each none = record {
  added = us;
  each = each;
  writes = refl;
  held = fold-append held_after empty ws us;
  notes = fold-append notes_after no_notes ws us;
  replace_none = none;
}

pub holds-part : (m n : HeldMap) (l : List Held) → IsPart m n → blocks.Holds (λ cid. get m cid) l → blocks.Holds (λ cid. get n cid) l
holds-part m n [] part h = tt
holds-part m n (b ∷ l) part h = (part b.0 b.1 h.0, holds-part m n l part h.1)

-- ---- stops one after another

module _ (IsSo : HeldMap → Notes → Type 0) where
  -- nothing was written
  pub stops-none : (a b : Contents) → b ≡ a → EachOutcome IsSo a.writes → EachStop IsSo a b
  stops-none a b same now = λ done rest e. subst (EachOutcome IsSo) (by done rest (added-is a.writes [] done rest b.writes (ap (λ (t : Contents). t.writes) same ∙ sym (append-nil a.writes)) e)) now
    where
      by : (done rest : List Write) → [] ≡ done ++ rest → a.writes ≡ a.writes ++ done
      by [] rest e = sym (append-nil a.writes)
      by (d ∷ done) rest e = absurd cc

  -- one write
  pub stops-one : (a b : Contents) (w : Write) → b.writes ≡ a.writes ++ w ∷ [] → EachOutcome IsSo a.writes → EachOutcome IsSo b.writes → EachStop IsSo a b
  stops-one a b w is first last = λ done rest e. by done rest (added-is a.writes (w ∷ []) done rest b.writes is e)
    where
      by : (done rest : List Write) → w ∷ [] ≡ done ++ rest → EachOutcome IsSo (a.writes ++ done)
      by [] rest e = subst (EachOutcome IsSo) (sym (append-nil a.writes)) first
      by (d ∷ []) rest e = subst (EachOutcome IsSo) (is ∙ ap (λ (u : Write). a.writes ++ u ∷ []) (first_is w d [] rest e)) last
      by (d ∷ f ∷ done) rest e = absurd (let k : [] ≡ f ∷ (done ++ rest) = rest_is w d [] (f ∷ (done ++ rest)) e in cc)

  -- writes, and then others
  pub stops-then : (a m b : Contents) (xs ys : List Write) → m.writes ≡ a.writes ++ xs → b.writes ≡ m.writes ++ ys → EachStop IsSo a m → EachStop IsSo m b → EachStop IsSo a b
  stops-then a m b xs ys first then early late = λ done rest e.
      by done rest (cut xs ys done rest (added-is a.writes (xs ++ ys) done rest b.writes (then ∙ ap (λ (l : List Write). l ++ ys) first ∙ append_assoc a.writes xs ys) e))
    where
      by : (done rest : List Write) → ((more : List Write) × (xs ≡ done ++ more)) ⊎ ((past : List Write) × (done ≡ xs ++ past) × (ys ≡ past ++ rest)) → EachOutcome IsSo (a.writes ++ done)
      by done rest (inl m0) = early done m0.0 (first ∙ ap (λ (l : List Write). a.writes ++ l) m0.1 ∙ sym (append_assoc a.writes done m0.0))
      by done rest (inr m0) =
          subst (EachOutcome IsSo) (ap (λ (l : List Write). l ++ m0.0) first ∙ append_assoc a.writes xs m0.0 ∙ ap (λ (l : List Write). a.writes ++ l) (sym m0.1))
          (late m0.0 rest (then ∙ ap (λ (l : List Write). m.writes ++ l) m0.2 ∙ sym (append_assoc m.writes m0.0 rest)))

  -- saves alone, where it is so after each front of them
  pub stops-saves : (hash : List ℕ → List ℕ) (a m : Contents) → IsPlain a → Appends hash IsSave a m
      → ((us : List Write) → AllByRecursion IsSave us → ReplaceNone hash (held_by a.writes) us → EachOutcome IsSo (a.writes ++ us)) → EachStop IsSo a m
  stops-saves hash a m plain saves each = λ done rest e.
      let is = added-is a.writes saves.added done rest m.writes saves.writes e in
      each done (each-front IsSave done rest (subst (AllByRecursion IsSave) is saves.each))
      (replace-front hash (held_by a.writes) done rest (subst (ReplaceNone hash (held_by a.writes)) is (subst (λ (h : HeldMap). ReplaceNone hash h saves.added) plain.held saves.replace_none)))

-- ---- plain contents stay so

pub plain-saves : (hash : List ℕ → List ℕ) (a m : Contents) → IsPlain a → Appends hash IsSave a m → IsPlain m
plain-saves hash a m plain saves = stays_plain hash IsSave (Some a) (Some m) plain saves

pub plain-synced : (hash : List ℕ → List ℕ) (m : Contents) → IsPlain m → IsPlain (with_sync m)
plain-synced hash m plain = stays_plain hash IsAny (Some m) (Some (with_sync m)) plain (WritesOnly-synced hash (Some m) (Some (with_sync m)) refl)

pub plain-noted : (hash : List ℕ → List ℕ) (m : Contents) (text : List ℕ) → IsPlain m → IsPlain (with_text Head text m)
plain-noted hash m text plain = stays_plain hash IsAny (Some m) (Some (with_text Head text m)) plain (WritesOnly-noted hash Head text (Some m) (Some (with_text Head text m)) refl)

pub plain-pinned : (hash : List ℕ → List ℕ) (m : Contents) (text : List ℕ) → IsPlain m → IsPlain (with_text Pins text m)
plain-pinned hash m text plain = stays_plain hash IsAny (Some m) (Some (with_text Pins text m)) plain (WritesOnly-noted hash Pins text (Some m) (Some (with_text Pins text m)) refl)

-- ---- trees that no stop takes away

module _ (X : List ℕ → List ℕ) (N : List ℕ → ℕ) (p : Profile) (es : Entries) where
  -- these writes stand for the tree, and all its blocks are firm
  pub record IsFirm (ws : List Write) : Type 0 where
    pub stands : LeavesTree X N p es (held_by ws) (notes_by ws)
    pub firm_too : blocks.Holds (λ cid. get (firm ws) cid) (blocks_of X N p (Dir es))

  pub firm-leaves : (ws : List Write) → IsFirm ws → EachOutcome (LeavesTree X N p es) ws
  firm-leaves ws f = λ held notes left. record {
    profile = f.stands.profile;
    tree = f.stands.tree;
    planned = f.stands.planned;
    head_is = subst (λ (n : Notes). IsHeadNote n.head p (entry X N p (Dir es)).cid) (sym left.notes_are) f.stands.head_is;
    blocks_held = holds-part (firm ws) held (blocks_of X N p (Dir es)) left.firm_stays f.firm_too;
  }

  -- saves leave it so
  pub firm-saved : (ws us : List Write) → AllByRecursion IsSave us → ReplaceNone X (held_by ws) us → IsFirm ws → IsFirm (ws ++ us)
  firm-saved ws us each none f =
      let l = blocks_of X N p (Dir es) in
      let saves = saves-append X ws us each none in
      record {
        stands = record {
          profile = f.stands.profile;
          tree = f.stands.tree;
          planned = f.stands.planned;
          head_is = subst (λ (n : Notes). IsHeadNote n.head p (entry X N p (Dir es)).cid) (sym (saves-notes X (written ws) (written (ws ++ us)) saves)) f.stands.head_is;
          blocks_held = Holds-kept X (Some (written ws)) (Some (written (ws ++ us))) l (are-good X N p (Dir es)) (Wrote-good X IsSave (Some (written ws)) (Some (written (ws ++ us))) saves) f.stands.blocks_held;
        };
        firm_too = subst (λ (m : HeldMap). blocks.Holds (λ cid. get m cid) l) (sym (saved-firm ws us each)) f.firm_too;
      }

  -- contents that stand for the tree, once all that is held is firm
  pub firm-of : (t : Contents) → IsPlain t → firm t.writes ≡ held_by t.writes → LeavesTree X N p es t.held t.notes → IsFirm t.writes
  firm-of t plain all stands =
      let l = blocks_of X N p (Dir es) in
      let now = subst (λ (n : Notes). LeavesTree X N p es (held_by t.writes) n) plain.notes (subst (λ (m : HeldMap). LeavesTree X N p es m t.notes) plain.held stands) in
      record { stands = now; firm_too = subst (λ (m : HeldMap). blocks.Holds (λ cid. get m cid) l) (sym all) now.blocks_held }

  pub safe-firm : (t : Contents) → IsSafeFor X N t p es → IsFirm t.writes
  safe-firm t h = record {
    stands = subst (λ (n : Notes). LeavesTree X N p es (held_by t.writes) n) h.safe.plain.notes (subst (λ (m : HeldMap). LeavesTree X N p es m t.notes) h.safe.plain.held h.stands);
    firm_too = h.safe.firm_too;
  }

  pub firm-stands : (t : Contents) → IsPlain t → IsFirm t.writes → LeavesTree X N p es t.held t.notes
  firm-stands t plain f = subst (λ (n : Notes). LeavesTree X N p es t.held n) (sym plain.notes) (subst (λ (m : HeldMap). LeavesTree X N p es m (notes_by t.writes)) (sym plain.held) f.stands)

  pub firm-safe : (t : Contents) → IsPlain t → IsFirm t.writes → IsSafeFor X N t p es
  firm-safe t plain f =
      let now = firm-stands t plain f in
      let note = note-text t.notes.head p (entry X N p (Dir es)).cid now.head_is in
      record { stands = now; text = note.0; safe = record { plain = plain; head_is = note.1; held = now.blocks_held; firm_too = f.firm_too } }

  -- a sync leaves it so
  pub firm-synced : (m : Contents) → IsPlain m → IsFirm m.writes → IsFirm (with_sync m).writes
  firm-synced m plain f = firm-of (with_sync m) (plain-synced X m plain) (synced-firm m.writes ∙ sym plain.held ∙ (plain-synced X m plain).held) (firm-stands m plain f)

  -- so does a note of pins
  pub firm-pinned : (m : Contents) (text : List ℕ) → IsPlain m → IsFirm m.writes → IsFirm (with_text Pins text m).writes
  firm-pinned m text plain f =
      let n = with_text Pins text m in
      let plain_n = plain-pinned X m text plain in
      record {
        stands = subst (λ (k : Notes). LeavesTree X N p es (held_by n.writes) k) plain_n.notes (subst (λ (h : HeldMap). LeavesTree X N p es h n.notes) plain_n.held (firm-stands m plain f));
        firm_too = subst (λ (h : HeldMap). blocks.Holds (λ cid. get h cid) (blocks_of X N p (Dir es))) (sym (noted-firm m.writes Pins text)) f.firm_too;
      }
