-- Stores that stand: no block is missing or bad, and what changes nothing writes nothing.
use Rattle.std.proofs.Common.{◌≡◌, ◌≢◌, ℕ, List, Bool, true, false, refl, sym, ap, subst, ◌∙◌, inl, inr, Result, Ok, Err}
use Rattle.uf_plain.specs.Edits.{at}
use Rattle.uf_mfs.specs.Standing.{NamesOver, StandsOver, head_in}
use Rattle.uf_mfs.specs.declared.mfs.Mfs.{Mfs}
use Rattle.uf_plain.specs.declared.rule.Refused.{Refused}
use Rattle.uf_plain.specs.declared.rule.Rule.{Rule}
use Rattle.uf_store.specs.declared.store.StoreFault.TheVariants as fault
use Rattle.uf_store.specs.Contents.{Told}
use Rattle.uf_tree.specs.Standing.{IsHeadNote, Standing, NoHead, BadHead, Stands}
use Rattle.uf_tree.specs.Tree.{Dir, Entries}
use Rattle.uf_tree.specs.TreePlan.{entry}
use Rattle.uf_tree.specs.declared.nodes.Entry.{Entry}
use Rattle.uf_tree.specs.declared.profile.Profile.{Profile}
use Rattle.uf_command.specs.declared.status.Status.TheVariants as status
use Rattle.uf_command.specs.declared.types.Ask.{Ask}
use Rattle.uf_command.specs.declared.types.Ask.TheVariants.{Ls, Stat, Edit as Edits}
use Rattle.uf_command.specs.declared.types.Refusal.{Refusal}
use Rattle.uf_command.specs.declared.types.Refusal.TheVariants as refusal
use Rattle.uf_command.specs.Kinds.{IsOf, RefusalKind, OfMissing, OfBadBlock, OfSections, init_kinds, add_kinds, may_meet, refusal_kind, word_kinds}
use Rattle.uf_command.specs.Commands.{IsOfWords}
use Rattle.uf_top.specs.Endings.{FindsAll}
use Rattle.uf_top.specs.Answering.{Answers}
use Rattle.uf_top.specs.Opening.{OpensStanding}
use Rattle.uf_top.specs.Reply.{Reply, in_tree, looked, moved, tree_reply}
use Rattle.uf_edits.specs.Edits.{edited_by}
use Rattle.uf_command.specs.Statuses.{ended}

-- ---- no block is missing or bad

-- how a command ends that finds all
abbrev pub Finds : Result (List ℕ) Refusal → Type 0
Finds ends = FindsAll (ended ends)

done-finds : FindsAll status.Ok
done-finds = (λ e. cc, λ e. cc)

rule-finds : FindsAll status.Rule
rule-finds = (λ e. cc, λ e. cc)

unready-finds : FindsAll status.NotReady
unready-finds = (λ e. cc, λ e. cc)

memory-finds : FindsAll status.Memory
memory-finds = (λ e. cc, λ e. cc)

-- by what kind of refusal it ended
pub kind-finds : (why : Refusal) → refusal_kind why ≢ OfMissing → refusal_kind why ≢ OfBadBlock → refusal_kind why ≢ OfSections → Finds (Err why)
kind-finds (refusal.Rule rule) missing bad sections = rule-finds
kind-finds (refusal.Dag rule) missing bad sections = rule-finds
kind-finds (refusal.Car number place) missing bad sections = rule-finds
kind-finds (refusal.CarLacks cid) missing bad sections = absurd (sections refl)
kind-finds (refusal.OwnClash cid first second) missing bad sections = (λ e. cc, λ e. cc)
kind-finds (refusal.Host rule) missing bad sections = rule-finds
kind-finds (refusal.BadPath why) missing bad sections = rule-finds
kind-finds refusal.Usage missing bad sections = (λ e. cc, λ e. cc)
kind-finds refusal.InputTooLong missing bad sections = (λ e. cc, λ e. cc)
kind-finds refusal.BadPins missing bad sections = (λ e. cc, λ e. cc)
kind-finds (refusal.Ready why) missing bad sections = unready-finds
kind-finds refusal.Read missing bad sections = (λ e. cc, λ e. cc)
kind-finds refusal.Write missing bad sections = (λ e. cc, λ e. cc)
kind-finds (refusal.Store fault.Failed) missing bad sections = (λ e. cc, λ e. cc)
kind-finds (refusal.Store (fault.Damaged cid)) missing bad sections = (λ e. cc, λ e. cc)
kind-finds (refusal.Store (fault.Missing cid)) missing bad sections = absurd (missing refl)
kind-finds (refusal.Store (fault.BadBlock cid role)) missing bad sections = absurd (bad refl)
kind-finds (refusal.Store (fault.Clash cid held bytes)) missing bad sections = (λ e. cc, λ e. cc)
kind-finds (refusal.Store fault.Memory) missing bad sections = memory-finds

-- of these kinds it is of none
pub of-none : (kinds : RefusalKind → Bool) (k none : RefusalKind) → kinds k ≡ true → kinds none ≡ false → k ≢ none
of-none kinds k none h not = λ e. (let t : true ≡ false = sym h ∙ ap kinds e ∙ not in cc)

-- words that are refused
pub words-whole : (why : Refusal) → IsOfWords (Err why) → Finds (Err why)
words-whole why h = kind-finds why (of-none word_kinds (refusal_kind why) OfMissing h refl) (of-none word_kinds (refusal_kind why) OfBadBlock h refl) (of-none word_kinds (refusal_kind why) OfSections h refl)

-- `add` looks for no block
pub add-whole : (r : Result (List ℕ) Refusal) → IsOf (may_meet add_kinds) r → Finds r
add-whole (Ok text) h = done-finds
add-whole (Err why) h = kind-finds why (of-none (may_meet add_kinds) (refusal_kind why) OfMissing h refl) (of-none (may_meet add_kinds) (refusal_kind why) OfBadBlock h refl) (of-none (may_meet add_kinds) (refusal_kind why) OfSections h refl)

-- nor does `init`
pub init-looks : (r : Result (List ℕ) Refusal) → IsOf (may_meet init_kinds) r → Finds r
init-looks (Ok text) h = done-finds
init-looks (Err why) h = kind-finds why (of-none (may_meet init_kinds) (refusal_kind why) OfMissing h refl) (of-none (may_meet init_kinds) (refusal_kind why) OfBadBlock h refl) (of-none (may_meet init_kinds) (refusal_kind why) OfSections h refl)

module _ (X : List ℕ → List ℕ) (N : List ℕ → ℕ) where
  answered : (s : Standing) (given : Reply) (r : Result (List ℕ) Refusal) (now : Told) → Answers X N s given r now → Finds given.ends → Finds r
  answered s given r now (inl w) h = subst Finds (sym w.ends_are) memory-finds
  answered s given r now (inr w) h = subst Finds (sym w.ends_are) h

  looked-finds : {A : Type 0} (s : Standing) (names : List (List ℕ)) (say : A → List ℕ) (w : Result A Refused) → Finds (looked s names say w).ends
  looked-finds s names say (Ok t) = done-finds
  looked-finds s names say (Err why) = rule-finds

  moved-finds : (p : Profile) (es : Entries) (w : Result Entries Rule) → Finds (moved X N p es w).ends
  moved-finds p es (Ok next) = done-finds
  moved-finds p es (Err rule) = rule-finds

  tree-finds : (ask : Ask) (names : List (List ℕ)) (p : Profile) (es : Entries) → Finds (tree_reply X N ask names p es).ends
  tree-finds (Ls long) names p es = looked-finds (Stands p es) names _ (at 0 names (Dir es))
  tree-finds Stat names p es = looked-finds (Stands p es) names _ (at 0 names (Dir es))
  tree-finds (Edits edit) names p es = moved-finds p es (edited_by X N edit names p es)

  in-tree-finds : (ask : Ask) (names : List (List ℕ)) (s : Standing) → Finds (in_tree (tree_reply X N ask names) s).ends
  in-tree-finds ask names NoHead = unready-finds
  in-tree-finds ask names BadHead = unready-finds
  in-tree-finds ask names (Stands p es) = tree-finds ask names p es

  pub at-whole : (s : Standing) (ask : Ask) (names : List (List ℕ)) (r : Result (List ℕ) Refusal) (now : Told) → Answers X N s (in_tree (tree_reply X N ask names) s) r now → Finds r
  at-whole s ask names r now h = answered s (in_tree (tree_reply X N ask names) s) r now h (in-tree-finds ask names s)

  -- a tree that isn't opened
  pub unopened-whole : (s : Standing) (why : Refusal) (now : Told) → OpensStanding X N now s (Err why) → Finds (Err why)
  unopened-whole NoHead why now (inl e) = subst (λ w. Finds (Err w)) (sym e) memory-finds
  unopened-whole NoHead why now (inr e) = subst (λ w. Finds (Err w)) (sym e) unready-finds
  unopened-whole BadHead why now (inl e) = subst (λ w. Finds (Err w)) (sym e) memory-finds
  unopened-whole BadHead why now (inr e) = subst (λ w. Finds (Err w)) (sym e) unready-finds
  unopened-whole (Stands p es) why now e = subst (λ w. Finds (Err w)) (sym e) memory-finds

  -- ---- what changes nothing writes nothing

  -- the Head of a store that names a tree is that of the tree that is opened of it
  names-head : (told : Told) (mfs : Mfs) (p : Profile) (es : Entries) → StandsOver X N told mfs p es → NamesOver X N told p es → IsHeadNote (head_in told) mfs.profile mfs.root.cid
  names-head told mfs p es opened names =
      subst (λ (e : Entry). IsHeadNote (head_in told) mfs.profile e.cid) (sym opened.root.plan.is)
      (subst (λ (q : Profile). IsHeadNote (head_in told) q (entry X N p (Dir es)).cid) (sym opened.profile_is) names.head)

  -- so it is where neither has changed
  pub idle-head : (told mid : Told) (mfs new : Mfs) (p : Profile) (es : Entries) → StandsOver X N told mfs p es → NamesOver X N told p es → mid ≡ told → new ≡ mfs → IsHeadNote (head_in mid) new.profile new.root.cid
  idle-head told mid mfs new p es opened names same unchanged =
      subst (λ (m : Mfs). IsHeadNote (head_in mid) m.profile m.root.cid) (sym unchanged)
      (subst (λ (t : Told). IsHeadNote (head_in t) mfs.profile mfs.root.cid) (sym same) (names-head told mfs p es opened names))
