-- What an edit of the tree in memory answers, over all blocks held and over some lost.
use Rattle.std.proofs.Common.{◌≡◌, ℕ, ◌++◌, List, [], refl, ap, sym, ◌∙◌, subst, Result, Ok, Err}
use Rattle.std.specs.Prelude.{IfOk, OnErr}
use Rattle.uf_edge.specs.Counts.{Stood}
use Rattle.uf_cid.specs.Blocks.{Held}
use Rattle.uf_store.specs.Contents.{Told}
use Rattle.uf_store.specs.Keeping.{KeepsGood}
use Rattle.uf_store.specs.Seen.{Seen}
use Rattle.uf_tree.specs.declared.nodes.Entry.{Entry}
use Rattle.uf_tree.specs.declared.profile.Profile.{Profile}
use Rattle.uf_tree.specs.Tree.{Dir, Entries, Tree}
use Rattle.uf_tree.specs.TreePlan.{blocks}
use Rattle.uf_plain.specs.declared.rule.Refused.{Refused}
use Rattle.uf_plain.specs.Rules.{allowed, rule_of}
use Rattle.uf_mfs.specs.declared.fault.MfsFault.{MfsFault}
use Rattle.uf_mfs.specs.declared.fault.MfsFault.TheVariants as fault
use Rattle.uf_mfs.specs.declared.fault.Stop.{Stop}
use Rattle.uf_mfs.specs.declared.fault.Stop.TheVariants as stop
use Rattle.uf_mfs.specs.declared.mfs.Mfs.{Mfs}
use Rattle.uf_mfs.specs.Answers.{EditsAfter, MovesAfter, MovesTo, Settles}
use Rattle.uf_mfs.specs.Standing.{IsEntry, IsPlanOf, StandsAfter, StandsAt, TellsHeld}
use Rattle.uf_mfs.specs.Steps.{GivesFolder, IsFolderOver, MovesTree}
use Rattle.uf_mfs.proofs.Agreed.{plan-of}
use Rattle.uf_mfs.proofs.Hinge.{are-good}
use Rattle.uf_mfs.proofs.Holding.{append, loss-fault, tells-after, tells-agrees, tells-append, tells-kept, wants}

-- an edit that leaves the root leaves the tree in memory
pub settled-same : (names : List (List ℕ)) (e : Result Entry Stop) (was is : Mfs) (r : Result Unit MfsFault) → Settles names e was is r → OnErr r (is ≡ was) → IfOk e (λ root. root ≡ was.root) → is ≡ was
settled-same names (Ok root) was is (Ok done) s refused h = s ∙ ap (λ (root : Entry). record { profile = was.profile; root = root }) h
settled-same names (Ok root) was is (Err given) s refused h = absurd s
settled-same names (Err stopped) was is (Ok done) s refused h = absurd s
settled-same names (Err stopped) was is (Err given) s refused h = refused

module _ (X : List ℕ → List ℕ) (N : List ℕ → ℕ) where
  -- an edit of the root is one of the tree in memory
  module _ (p : Profile) (a b : Told) (old : List Held) (names : List (List ℕ)) (was is : Mfs) (same : was.profile ≡ p) where
    by-root : (w : Result Entries Refused) (e : Result Entry Stop) (r : Result Unit MfsFault) → Settles names e was is r → EditsAfter X N a b old p w e → MovesAfter X N a b old p names is w r
    by-root (Ok es) (Ok root) (Ok done) s h = subst (λ (mfs : Mfs). StandsAfter X N a b old mfs p es) (sym s) (record { profile_is = same; root = h })
    by-root (Err why) (Ok root) (Ok done) s h = absurd h
    by-root w (Ok root) (Err given) s h = absurd s
    by-root w (Err stopped) (Ok done) s h = absurd s
    by-root (Ok es) (Err (stop.Refused given)) (Err f) s h = absurd h
    by-root (Err why) (Err (stop.Refused given)) (Err (fault.Rule rule)) s h = s ∙ ap (rule_of names) h
    by-root (Err why) (Err (stop.Refused given)) (Err (fault.Ready ready)) s h = absurd s
    by-root (Err why) (Err (stop.Refused given)) (Err fault.Sink) s h = absurd s
    by-root (Err why) (Err (stop.Refused given)) (Err (fault.Store f)) s h = wants a old f s
    by-root (Ok es) (Err (stop.Store g)) (Err f) s h = subst (λ f. MovesAfter X N a b old p names is (Ok es) (Err f)) (sym s) h
    by-root (Err why) (Err (stop.Store g)) (Err f) s h = subst (λ f. MovesAfter X N a b old p names is (Err why) (Err f)) (sym s) h

  pub moves-tree : (before now : Seen) (names : List (List ℕ)) (was is : Mfs) (next : Profile → Entries → Result Entries Refused) (e : Result Entry Stop) (r : Result Unit MfsFault) → Settles names e was is r
      → GivesFolder X N was.profile before now [] was.root (next was.profile) e → MovesTree X N before now [] was is names next r
  moves-tree before now names was is next e r s gives = λ p es same o. by p same es o
    where
      by : (p : Profile) → was.profile ≡ p → (es : Entries) → IsFolderOver X N p before now [] was.root es → MovesAfter X N before.told now.told (blocks X N p (Dir es)) p names is (next p es) r
      by p same es o =
          let own : IsFolderOver X N was.profile before now [] was.root es = subst (λ (q : Profile). IsFolderOver X N q before now [] was.root es) (sym same) o in
          subst (λ (q : Profile). MovesAfter X N before.told now.told (blocks X N q (Dir es)) q names is (next q es) r) same
          (by-root was.profile before.told now.told (blocks X N was.profile (Dir es)) names was is refl (next was.profile es) e r s (gives es own))

  -- where all blocks are held only memory can be wanting, and all new ones are held
  held-moves : (a b : Told) (old : List Held) (p : Profile) (names : List (List ℕ)) (is : Mfs) (w : Result Entries Refused) (r : Result Unit MfsFault) → TellsHeld a old
      → MovesAfter X N a b old p names is w r → MovesTo X N b p names is w r
  held-moves a b old p names is (Ok es) (Ok done) held h = record {
    profile_is = h.profile_is;
    root = record { profile = h.root.plan.profile; tree = h.root.plan.tree; planned = h.root.plan.planned; is = h.root.plan.is; held = tells-after a b old _ held h.root.after };
  }
  held-moves a b old p names is (Err why) (Ok done) held h = h
  held-moves a b old p names is (Ok es) (Err (fault.Rule rule)) held h = h
  held-moves a b old p names is (Err why) (Err (fault.Rule rule)) held h = h
  held-moves a b old p names is (Ok es) (Err (fault.Ready ready)) held h = h
  held-moves a b old p names is (Err why) (Err (fault.Ready ready)) held h = h
  held-moves a b old p names is (Ok es) (Err fault.Sink) held h = h
  held-moves a b old p names is (Err why) (Err fault.Sink) held h = h
  held-moves a b old p names is (Ok es) (Err (fault.Store f)) held h = loss-fault a old f held h
  held-moves a b old p names is (Err why) (Err (fault.Store f)) held h = loss-fault a old f held h

  pub moves-held : (before now : Seen) (names : List (List ℕ)) (was is : Mfs) (next : Profile → Entries → Result Entries Refused) (r : Result Unit MfsFault) → KeepsGood X before.told now.told
      → MovesTree X N before now [] was is names next r → (p : Profile) (es : Entries) → StandsAt X N before.told was p es → Stood before.faults now.faults → Stood before.clashes now.clashes
      → MovesTo X N now.told p names is (next p es) r
  moves-held before now names was is next r keeps moves p es s faults clashes =
      let held = s.root.held in
      held-moves before.told now.told (blocks X N p (Dir es)) p names is (next p es) r held (moves p es s.profile_is (record {
        plan = plan-of X N p before.told was.root (Dir es) s.root;
        stays = record { first = tells-agrees before.told _ held; last = tells-agrees now.told _ (tells-kept X before.told now.told _ (are-good X N p (Dir es)) keeps held) };
        calm = record { faults = faults; clashes = clashes };
      }))

  -- of an edit that brings the blocks of another tree, which are held too
  pub moves-held-with : (before now : Seen) (names : List (List ℕ)) (was is : Mfs) (e : Entry) (t : Tree) (next : Entries → Result Entries Refused) (step : Result Entry Stop) (r : Result Unit MfsFault) → KeepsGood X before.told now.told
      → Settles names step was is r
      → (IsPlanOf X N was.profile e t → GivesFolder X N was.profile before now (blocks X N was.profile t) was.root (λ es. allowed X N was.profile (next es)) step)
      → (p : Profile) (es : Entries) → IsEntry X N before.told p e t → StandsAt X N before.told was p es → Stood before.faults now.faults → Stood before.clashes now.clashes
      → MovesTo X N now.told p names is (allowed X N p (next es)) r
  moves-held-with before now names was is e t next step r keeps settles edits p es i s faults clashes = by p s.profile_is i s.root
    where
      own : IsEntry X N before.told was.profile e t → IsEntry X N before.told was.profile was.root (Dir es) → MovesTo X N now.told was.profile names is (allowed X N was.profile (next es)) r
      own i s =
          let held : TellsHeld before.told (blocks X N was.profile t ++ blocks X N was.profile (Dir es)) = tells-append before.told (blocks X N was.profile t) (blocks X N was.profile (Dir es)) i.held s.held in
          let good = append _ (blocks X N was.profile t) (blocks X N was.profile (Dir es)) (are-good X N was.profile t) (are-good X N was.profile (Dir es)) in
          let old = blocks X N was.profile t ++ blocks X N was.profile (Dir es) in
          held-moves before.told now.told old was.profile names is (allowed X N was.profile (next es)) r held
          (by-root was.profile before.told now.told old names was is refl (allowed X N was.profile (next es)) step r settles (edits (plan-of X N was.profile before.told e t i) es (record {
            plan = plan-of X N was.profile before.told was.root (Dir es) s;
            stays = record { first = tells-agrees before.told _ held; last = tells-agrees now.told _ (tells-kept X before.told now.told _ good keeps held) };
            calm = record { faults = faults; clashes = clashes };
          })))

      by : (p : Profile) → was.profile ≡ p → IsEntry X N before.told p e t → IsEntry X N before.told p was.root (Dir es) → MovesTo X N now.told p names is (allowed X N p (next es)) r
      by p same i root = subst (λ (q : Profile). MovesTo X N now.told q names is (allowed X N q (next es)) r) same
          (own (subst (λ (q : Profile). IsEntry X N before.told q e t) (sym same) i) (subst (λ (q : Profile). IsEntry X N before.told q was.root (Dir es)) (sym same) root))
