-- The root after a folder was made in an empty tree.
use Rattle.std.proofs.Common.{◌≡◌, ℕ, ◌<◌, ◌-◌, ◌^◌, List, None, Some, Ok, Err, false, arith, ap, refl, subst, sym, ◌∙◌, IfSome}
use Rattle.std.specs.declared.result.Result.{Result}
use Rattle.uf_cid.specs.declared.cid.Cid.{Cid}
use Rattle.uf_edge.specs.Counts.{Stood}
use Rattle.uf_mfs.specs.Answers.{Answers, MovesTo}
use Rattle.uf_mfs.specs.Standing.{Inits, StandsAt}
use Rattle.uf_mfs.specs.declared.mfs.Mfs.{Mfs}
use Rattle.uf_plain.specs.Edits.{made}
use Rattle.uf_plain.specs.Rules.{allowed}
use Rattle.uf_plain.specs.declared.rule.Refused.{Refused}
use Rattle.uf_store.specs.Contents.{Contents, Told}
use Rattle.uf_store.specs.Faults.{StaysCalm}
use Rattle.uf_store.specs.Seen.{Seen}
use Rattle.uf_tree.specs.Profiles.{usual}
use Rattle.uf_tree.specs.Metas.{none}
use Rattle.uf_tree.specs.Tree.{Dir, Entries, Nothing}
use Rattle.uf_tree.specs.TreePlan.{entry}
use Rattle.uf_tree.specs.declared.nodes.Entry.{Entry}
use Rattle.uf_tree.specs.declared.profile.Profile.{Profile}
use Rattle.uf_uses.specs.Folder.{IsRootWith}

-- a count that stands as it was, and could have risen, didn't rise
stood-same : (a b : ℕ) → b ≡ a → a < 2 ^ 64 - 1 → Stood a b
stood-same a b same h = omega (arith, same, h)

module _ (X : List ℕ → List ℕ) (N : List ℕ → ℕ) (names : List (List ℕ)) where
  -- a folder that was made is allowed, and the root is that of the tree with it
  made-root : (told : Told) (mfs : Mfs) (w : Result Entries Refused) (done : Unit {0}) → Answers (λ es done. StandsAt X N told mfs usual es) names w (Ok done) → (es : Entries) × (w ≡ Ok es) × (mfs.root.cid ≡ (entry X N usual (Dir es)).cid)
  made-root told mfs (Ok es) done stands = (es, refl, ap (λ (e : Entry). e.cid) stands.root.is)
  made-root told mfs (Err why) done stands = absurd stands

  -- the same of a store that was made ready before
  pub root-over : (p : Profile) (told : Told) (before ready now : Seen) (first last : Mfs) (done : Unit {0}) (cid : Cid)
      → p ≡ usual → IfSome told (λ t. Stood before.faults ready.faults → Stood before.clashes ready.clashes → Inits X N ready.told p t.notes.head (Ok first))
      → StaysCalm before ready → StaysCalm ready now
      → ((p : Profile) (es : Entries) → StandsAt X N ready.told first p es → Stood ready.faults now.faults → Stood ready.clashes now.clashes → MovesTo X N now.told p names last (allowed X N p (made false names es)) (Ok done))
      → cid ≡ last.root.cid
      → IfSome told (λ t. t.notes.head ≡ None → before.faults < 2 ^ 64 - 1 → before.clashes < 2 ^ 64 - 1 → IsRootWith X N names cid)
  root-over p None before ready now first last done cid same inits calm still moves is = tt
  root-over p (Some t) before ready now first last done cid same inits calm still moves is = λ unset faults clashes.
      let ready-is = inits (stood-same before.faults ready.faults calm.faults faults) (stood-same before.clashes ready.clashes calm.clashes clashes) in
      let stands = subst (λ head. Inits X N ready.told usual head (Ok first)) unset (subst (λ q. Inits X N ready.told q t.notes.head (Ok first)) same ready-is) in
      let can = subst (λ n. n < 2 ^ 64 - 1) (sym calm.faults) faults in
      let may = subst (λ n. n < 2 ^ 64 - 1) (sym calm.clashes) clashes in
      let moved = moves usual (Nothing none) stands.0 (stood-same ready.faults now.faults still.faults can) (stood-same ready.clashes now.clashes still.clashes may) in
      let root = made-root now.told last (allowed X N usual (made false names (Nothing none))) done moved in
      (root.0, root.1, is ∙ root.2)
