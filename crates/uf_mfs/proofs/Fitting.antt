-- An edit along a path whose file is too long is refused as the tree that it would make.
use Rattle.std.proofs.Common.{◌≡◌, ◌⊎◌, ℕ, ◌+◌, ◌*◌, ◌≤◌, length, arith, List, [], ◌∷◌, refl, ap, sym, ◌∙◌, subst, inl, inr}
use Rattle.std.proofs.Common.{Option, Some, None, Result, Ok, Err}
use Rattle.uf_cid.specs.Blocks.{Held}
use Rattle.uf_store.specs.Contents.{Told}
use Rattle.uf_tree.specs.declared.nodes.Entry.{Entry}
use Rattle.uf_tree.specs.declared.profile.Profile.{Profile}
use Rattle.uf_store.specs.Seen.{Seen}
use Rattle.uf_tree.specs.Metas.{none}
use Rattle.uf_tree.specs.Tree.{Tree, File, Dir, Entries, Nothing, fold, pairs}
use Rattle.uf_tree.specs.TreePlan.{Refusal, blocks, entry, planned, refusal, too_long}
use Rattle.uf_plain.specs.declared.file.FileEdit.{FileEdit}
use Rattle.uf_plain.specs.declared.rule.Refused.{Refused}
use Rattle.uf_plain.specs.Edits.{and_then, as_folder, child, edited, with_child, with_folder}
use Rattle.uf_plain.specs.Files.{file_edited, fitting, kept_meta, new_bytes, with_bytes}
use Rattle.uf_plain.specs.Rules.{allowed, refused_by, unless}
use Rattle.uf_plain.proofs.Plans.{each-find}
use Rattle.uf_mfs.specs.declared.fault.Stop.{Stop}
use Rattle.uf_mfs.specs.Answers.{EditsAfter}
use Rattle.uf_mfs.specs.Standing.{IsPlanOf}
use Rattle.uf_mfs.specs.declared.editing.Act.TheVariants.{Rewrite}
use Rattle.uf_mfs.specs.Acts.{acted_at}
use Rattle.uf_mfs.specs.Steps.{EditsFolder}
use Rattle.uf_mfs.specs.Touches.{TouchesFolder, crossings_of, where_done}
use Rattle.uf_mfs.specs.Writes.{file_touches, fitting_edit, member_at, with_fitting, writing_bound}
use Rattle.uf_mfs.proofs.Agreed.{Own, members-own}
use Rattle.uf_mfs.proofs.Moving.{refused-above}

module _ (X : List ℕ → List ℕ) (N : List ℕ → ℕ) (p : Profile) where
  -- the folder that an edit made has no plan for this reason, and the other edit is refused for it
  record Denies (loose tight : Result Entries Refused) : Type 0 where
    new : Entries
    reason : Refusal
    makes : loose ≡ Ok new
    refuses : tight ≡ Err (refused_by reason)
    is : refusal X N p (Dir new) ≡ Some reason

  -- one edit is the other, but that it is refused sooner
  abbrev Tight : Result Entries Refused → Result Entries Refused → Type 0
  Tight loose tight = (tight ≡ loose) ⊎ Denies loose tight

  tight-allowed : (loose tight : Result Entries Refused) → Tight loose tight → allowed X N p tight ≡ allowed X N p loose
  tight-allowed loose tight (inl same) = ap (allowed X N p) same
  tight-allowed loose tight (inr d) =
      ap (allowed X N p) d.refuses ∙ sym (ap (allowed X N p) d.makes ∙ ap (unless d.new) d.is)

  tight-folder : (folder : Entry) (name : List ℕ) (es : Entries) (loose tight : Result Entries Refused)
      → IsPlanOf X N p folder (Dir es) → Tight loose tight → Tight (with_folder name es loose) (with_folder name es tight)
  tight-folder folder name es loose tight plan (inl same) = inl (ap (with_folder name es) same)
  tight-folder folder name es loose tight plan (inr d) = inr (record {
    new = with_child name (Dir d.new) es;
    reason = d.reason;
    makes = ap (with_folder name es) d.makes;
    refuses = ap (with_folder name es) d.refuses;
    is = refused-above X N p folder es name (Dir d.new) d.reason plan d.is;
  })

  module _ (what : FileEdit) (x : List ℕ) where
    tight-here : (folder : Entry) (led : ℕ) (name : List ℕ) (es : Entries) → IsPlanOf X N p folder (Dir es)
        → Tight (with_bytes what x led name es) (with_fitting p what x led name es)
    unfolding planned fold
    tight-here folder led name es plan = by (new_bytes what x led (child name es))
      where
        put : List ℕ → Entries
        put n = with_child name (File (kept_meta (child name es)) n) es

        long : (n : List ℕ) (o : Option Refusal) → too_long p n ≡ o
            → Tight (Ok (put n)) (and_then (unless n o) (λ n. Ok (put n)))
        long n None is = inl refl
        long n (Some y) is = inr (record {
          new = put n;
          reason = y;
          makes = refl;
          refuses = refl;
          is = refused-above X N p folder es name (File (kept_meta (child name es)) n) y plan is;
        })

        by : (w : Result (List ℕ) Refused)
            → Tight (and_then w (λ n. Ok (put n))) (and_then (and_then w (fitting p)) (λ n. Ok (put n)))
        by (Ok n) = long n (too_long p n) refl
        by (Err why) = inl refl

    tight-path : (folder : Entry) (led : ℕ) (name : List ℕ) (names : List (List ℕ)) (es : Entries)
        → IsPlanOf X N p folder (Dir es)
        → Tight (edited (with_bytes what x) led name names es) (edited (with_fitting p what x) led name names es)
    tight-path folder led name [] es plan = tight-here folder (led + 1) name es plan
    tight-path folder led name (next ∷ names) es plan =
        by (λ fs below. tight-path (entry X N p (Dir fs)) (led + 1) next names fs below) (child name es) refl
      where
        loose : Entries → Result Entries Refused
        loose fs = edited (with_bytes what x) (led + 1) next names fs

        tight : Entries → Result Entries Refused
        tight fs = edited (with_fitting p what x) (led + 1) next names fs

        by : ((fs : Entries) → IsPlanOf X N p (entry X N p (Dir fs)) (Dir fs) → Tight (loose fs) (tight fs))
            → (o : Option Tree) → child name es ≡ o
            → Tight (with_folder name es (and_then (as_folder (led + 1) o) loose))
            (with_folder name es (and_then (as_folder (led + 1) o) tight))
        by rec None is = inl refl
        by rec (Some (File m bytes)) is = inl refl
        by rec (Some (Dir fs)) is = tight-folder folder name es (loose fs) (tight fs) plan
            (rec fs (each-find (Own X N p) name (Dir fs) (pairs es) (members-own X N p folder es plan) is))

    -- what is answered of the edit that is refused sooner is answered of the other
    pub loosened : (a b : Told) (old : List Held) (folder : Entry) (led : ℕ) (name : List ℕ) (names : List (List ℕ))
        (es : Entries) (r : Result Entry Stop) → IsPlanOf X N p folder (Dir es)
        → EditsAfter X N a b old p (allowed X N p (edited (with_fitting p what x) led name names es)) r
        → EditsAfter X N a b old p (allowed X N p (edited (with_bytes what x) led name names es)) r
    loosened a b old folder led name names es r plan h =
        subst (λ (w : Result Entries Refused). EditsAfter X N a b old p w r)
        (tight-allowed _ _ (tight-path folder led name names es plan)) h

  -- ---- the tree at some names

  pub rewrites-at : (what : FileEdit) (x : List ℕ) (names : List (List ℕ)) (es : Entries) → acted_at p (Rewrite what) x (Dir (Nothing none)) names es ≡ fitting_edit p what x names es
  rewrites-at what x [] es = refl
  rewrites-at what x (name ∷ names) es = refl

  pub rewritten-edits : (a b : Seen) (root : Entry) (what : FileEdit) (x : List ℕ) (names : List (List ℕ)) (r : Result Entry Stop) → EditsFolder X N p a b [] root (acted_at p (Rewrite what) x (Dir (Nothing none)) names) r
      → EditsFolder X N p a b [] root (file_edited what x 0 names) r
  rewritten-edits a b root what x [] r h = h
  rewritten-edits a b root what x (name ∷ names) r h = λ es o. loosened what x a.told b.told (blocks X N p (Dir es)) root 0 name names es r o.plan (h es o)

pub rewritten-touches : (X : List ℕ → List ℕ) (N : List ℕ → ℕ) (own p : Profile) {a b : Seen} (root : Entry) (what : FileEdit) (x : List ℕ) (rows : ℕ → ℕ) (names path : List (List ℕ)) (t0 t1 : ℕ) → own ≡ p → names ≡ path
    → TouchesFolder X N own a b [] root (λ es. 40 * length names + crossings_of X N own names es (acted_at own (Rewrite what) x (Dir (Nothing none)) names es) + where_done (acted_at own (Rewrite what) x (Dir (Nothing none)) names es) (file_touches own rows what x (member_at names es))) t0 t1
    → TouchesFolder X N p a b [] root (writing_bound X N p rows what x path) t0 t1
rewritten-touches X N own p {a} {b} root what x rows names path t0 t1 same named h =
    subst (λ (q : Profile). TouchesFolder X N q a b [] root (writing_bound X N q rows what x path) t0 t1) same
    (subst (λ (ns : List (List ℕ)). TouchesFolder X N own a b [] root (writing_bound X N own rows what x ns) t0 t1) named
    (λ es o. (let r = h es o in
    subst (λ (w : Result Entries Refused). t1 ≤ t0 + (64 * (length names + 3) + crossings_of X N own names es w + where_done w (file_touches own rows what x (member_at names es)))) (rewrites-at X N own what x names es) (omega (arith, r)))))
