-- What a pull leaves of a tree that no stop takes away.
use Rattle.std.proofs.Common.{◌≡◌, ℕ, List, [], ◌∷◌, ◌++◌, refl, sym, subst, append_assoc, append-nil, Some}
use Rattle.std.specs.FinMap.{empty}
use Rattle.std.specs.List.{AllByRecursion}
use Rattle.uf_cid.specs.declared.cid.Cid.{Cid}
use Rattle.uf_command.specs.declared.status.Status.{Status}
use Rattle.uf_pull.specs.Pulling.{IsSaveOrSync}
use Rattle.uf_store.specs.Contents.{Contents, HeldMap, Told, held_after}
use Rattle.uf_store.specs.Stops.{held_by, written}
use Rattle.uf_store.specs.Writing.{Appends, ReplaceNone, Wrote}
use Rattle.uf_store.specs.declared.store.Write.{Write}
use Rattle.uf_store.specs.declared.store.Write.TheVariants.{Saved, Synced, Noted}
use Rattle.uf_store.proofs.Plain.{stays_plain}
use Rattle.uf_store.proofs.Writing.{fold-append}
use Rattle.uf_tree.specs.Tree.{Entries}
use Rattle.uf_tree.specs.declared.profile.Profile.{Profile}
use Rattle.uf_top.specs.Around.{Around}
use Rattle.uf_top.specs.Outcomes.{EachStop, IsSafeFor, LeavesTree}
use Rattle.uf_top.specs.Talking.{RunsPull}
use Rattle.uf_headline.proofs.Firm.{IsFirm, added-is, each-front, firm-leaves, firm-safe, firm-saved, firm-synced, replace-front, safe-firm}

-- a list of writes that replace none: its first one, and the others behind that
first-none : (X : List ℕ → List ℕ) (m : HeldMap) (u : Write) (us : List Write) → ReplaceNone X m (u ∷ us) → ReplaceNone X m (u ∷ [])
first-none X m (Saved cid bytes) us none = (none.0, none.1, tt)
first-none X m Synced us none = tt
first-none X m (Noted which text) us none = tt

others-none : (X : List ℕ → List ℕ) (m : HeldMap) (u : Write) (us : List Write) → ReplaceNone X m (u ∷ us) → ReplaceNone X (held_after m u) us
others-none X m (Saved cid bytes) us none = none.2
others-none X m Synced us none = none
others-none X m (Noted which text) us none = none

module _ (X : List ℕ → List ℕ) (N : List ℕ → ℕ) (p : Profile) (es : Entries) where
  -- a save or a sync leaves all firm
  one-firm : (ws : List Write) (u : Write) → IsSaveOrSync u → ReplaceNone X (held_by ws) (u ∷ []) → IsFirm X N p es ws → IsFirm X N p es (ws ++ u ∷ [])
  one-firm ws (Saved cid bytes) is none f = firm-saved X N p es ws (Saved cid bytes ∷ []) (tt, tt) none f
  one-firm ws Synced is none f = firm-synced X N p es (written ws) (record { held = refl; notes = refl }) f
  one-firm ws (Noted which text) is none f = absurd is

  pulled-firm : (ws us : List Write) → AllByRecursion IsSaveOrSync us → ReplaceNone X (held_by ws) us → IsFirm X N p es ws → IsFirm X N p es (ws ++ us)
  pulled-firm ws [] each none f = subst (IsFirm X N p es) (sym (append-nil ws)) f
  pulled-firm ws (u ∷ us) each none f =
      subst (IsFirm X N p es) (append_assoc ws (u ∷ []) us)
      (pulled-firm (ws ++ u ∷ []) us each.1
      (subst (λ (m : HeldMap). ReplaceNone X m us) (sym (fold-append held_after empty ws (u ∷ []))) (others-none X (held_by ws) u us none))
      (one-firm ws u each.0 (first-none X (held_by ws) u us none) f))

  module _ (a b : Contents) (safe : IsSafeFor X N a p es) (saves : Appends X IsSaveOrSync a b) where
    none-replaced : ReplaceNone X (held_by a.writes) saves.added
    none-replaced = subst (λ (h : HeldMap). ReplaceNone X h saves.added) safe.safe.plain.held saves.replace_none

    pulled-safe : IsSafeFor X N b p es
    pulled-safe =
        firm-safe X N p es b (stays_plain X IsSaveOrSync (Some a) (Some b) safe.safe.plain saves)
        (subst (IsFirm X N p es) (sym saves.writes) (pulled-firm a.writes saves.added saves.each none-replaced (safe-firm X N p es a safe)))

    pulled-stops : EachStop (LeavesTree X N p es) a b
    pulled-stops = λ done rest e.
        let is = added-is a.writes saves.added done rest b.writes saves.writes e in
        firm-leaves X N p es (a.writes ++ done)
        (pulled-firm a.writes done (each-front IsSaveOrSync done rest (subst (AllByRecursion IsSaveOrSync) is saves.each))
        (replace-front X (held_by a.writes) done rest (subst (ReplaceNone X (held_by a.writes)) is none-replaced)) (safe-firm X N p es a safe))

  module _ (cid : Cid) (given : Status) (before now : Around) (runs : RunsPull X N cid given before now) (a b : Contents) (was : before.store.told ≡ Some a) (is : now.store.told ≡ Some b) where
    wrote : Appends X IsSaveOrSync a b
    wrote = subst (λ (x : Told). Wrote X IsSaveOrSync x (Some b)) was (subst (λ (x : Told). Wrote X IsSaveOrSync before.store.told x) is runs.saves)

    pub pull-safe : IsSafeFor X N a p es → IsSafeFor X N b p es
    pull-safe safe = pulled-safe a b safe wrote

    pub pull-stops : IsSafeFor X N a p es → EachStop (LeavesTree X N p es) a b
    pull-stops safe = pulled-stops a b safe wrote
