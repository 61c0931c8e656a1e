-- What is saved by an edit of a name, by what it does.
use Rattle.std.proofs.Common.{◌≡◌, ℕ, ◌+◌, List, [], ◌∷◌, ◌++◌, ◌∙◌, Bool, ap, refl, subst, sym, Option, Some, None, Result, Ok, Err}
use Rattle.std.specs.List.{AllByRecursion}
use Rattle.uf_cid.specs.Blocks.{Held}
use Rattle.uf_store.specs.Among.{SavesAmong}
use Rattle.uf_store.specs.Calls.{OnlySaves}
use Rattle.uf_store.specs.declared.store.Role.{Role}
use Rattle.uf_store.specs.declared.store.StoreFault.{StoreFault}
use Rattle.uf_store.specs.Seen.{Seen}
use Rattle.uf_tree.specs.declared.nodes.Entry.{Entry}
use Rattle.uf_tree.specs.declared.profile.Profile.{Profile}
use Rattle.uf_tree.specs.Tree.{Tree, File, Dir, Entries, meta_of}
use Rattle.uf_tree.specs.TreePlan.{blocks}
use Rattle.uf_plain.specs.declared.change.Change.{Change}
use Rattle.uf_plain.specs.declared.change.Change.TheVariants.{Make, Put, Remove}
use Rattle.uf_plain.specs.declared.file.FileEdit.{FileEdit}
use Rattle.uf_plain.specs.declared.meta_edit.MetaEdit.{MetaEdit}
use Rattle.uf_plain.specs.declared.rule.Refused.{Refused}
use Rattle.uf_plain.specs.Edits.{and_then, as_folder, change, child, done, may_be, with_child, without_child}
use Rattle.uf_plain.specs.Files.{kept_meta}
use Rattle.uf_plain.specs.declared.rule.Refused.TheVariants as why
use Rattle.uf_plain.specs.Metas.{as_there, meta_after, remade, with_remade}
use Rattle.uf_mfs.specs.declared.editing.Act.{Act}
use Rattle.uf_mfs.specs.declared.editing.Act.TheVariants.{Change as Changed, Remake, Rewrite}
use Rattle.uf_mfs.specs.declared.thing.Thing.{Thing}
use Rattle.uf_mfs.specs.Acts.{IsActMeant, act_brought, acted, acted_at, may_act}
use Rattle.uf_mfs.specs.Answers.{Decides}
use Rattle.uf_mfs.specs.Remade.{ChangesMember, member_blocks}
use Rattle.uf_mfs.specs.declared.mfs.Mfs.{Mfs}
use Rattle.uf_mfs.specs.declared.fault.Stop.{Stop}
use Rattle.uf_mfs.specs.declared.fault.Stop.TheVariants as stop
use Rattle.uf_mfs.specs.Saving.{AgreesThroughout, SavesFolder, SavesForEdit, SavesPut, act_blocks, between_blocks, file_blocks, next_blocks, remade_blocks, saved_for, taken_blocks}
use Rattle.uf_mfs.specs.Standing.{IsAgreedMember, IsPlanOf}
use Rattle.uf_mfs.specs.Touches.{entries_at}
use Rattle.uf_mfs.specs.Writes.{MakesFile, fitting_bytes, fitting_edit, with_fitting}
use Rattle.uf_mfs.proofs.After.{Among, after-wider, back-among, front-among}
use Rattle.uf_mfs.proofs.Saving.{below-among, none-among, put-then, saved-more}
use Rattle.uf_mfs.proofs.Touching.{folder-leads}
use Rattle.uf_mfs.proofs.MetaEdits.{member-stays}
use Rattle.uf_mfs.proofs.Renewing.{renew-made}
use Rattle.uf_mfs.proofs.Agreed.{child-among}

module _ (X : List ℕ → List ℕ) (N : List ℕ → ℕ) (p : Profile) where
  -- what an edit makes in between below a folder it makes in between along the names
  pub act-between : (what : Act) (led : ℕ) (name next : List ℕ) (more : List (List ℕ)) (es below : Entries) → as_folder led (child name es) ≡ Ok below
      → Among (between_blocks X N p what (next ∷ more) below) (between_blocks X N p what (name ∷ next ∷ more) es)
  act-between (Changed Make) led name next more es below is = none-among []
  act-between (Changed (Put e)) led name next more es below is = none-among []
  act-between (Changed (Remove recursive)) led name next more es below is =
      let under : entries_at name es ≡ below = (folder-leads X N p Make led name next more (λ (fs : Entries). Ok fs) es below is).0 in
      λ P h. subst (λ (fs : Entries). AllByRecursion P (taken_blocks X N p (next ∷ more) fs)) under h
  act-between (Rewrite what) led name next more es below is = none-among []
  act-between (Remake what) led name next more es below is = none-among []

  -- the blocks of what is given are among those that may be saved for it
  pub saved-between : (between : List Held) (w : Result Entries Refused) → Among (next_blocks X N p w) (saved_for X N p between w)
  saved-between between (Ok fs) = back-among between (blocks X N p (Dir fs))
  saved-between between (Err why) = none-among []

  -- ---- a change

  -- what is accepted is done
  pub change-done : (what : Change) (t : Tree) (led : ℕ) (name : List ℕ) (es : Entries) → Decides (λ (a b : Unit {0}). Unit {0}) (may_be what led (child name es)) (Ok tt) → change what t led name es ≡ Ok (done what t name es)
  change-done what t led name es h = by (may_be what led (child name es)) h
    where
      by : (w : Result (Unit {0}) Refused) → Decides (λ (a b : Unit {0}). Unit {0}) w (Ok tt) → and_then w (λ may. Ok (done what t name es)) ≡ Ok (done what t name es)
      by (Ok may) h = refl
      by (Err why) h = absurd h

  -- ---- a file that is rewritten

  pub file-among : (what : FileEdit) (piece : List ℕ) (led : ℕ) (name : List ℕ) (es : Entries)
      → Among (file_blocks X N p (kept_meta (child name es)) (fitting_bytes p what piece led (child name es))) (next_blocks X N p (with_fitting p what piece led name es))
  file-among what piece led name es = by (fitting_bytes p what piece led (child name es))
    where
      by : (w : Result (List ℕ) Refused) → Among (file_blocks X N p (kept_meta (child name es)) w) (next_blocks X N p (and_then w (λ bytes. Ok (with_child name (File (kept_meta (child name es)) bytes) es))))
      by (Ok bytes) = below-among X N p name (File (kept_meta (child name es)) bytes) es
      by (Err why) = none-among []

  -- ---- metadata that is changed

  pub remade-among : (what : MetaEdit) (led : ℕ) (name : List ℕ) (es : Entries) → Among (remade_blocks X N p what (child name es)) (next_blocks X N p (with_remade what led name es))
  remade-among what led name es = by (child name es)
    where
      by : (o : Option Tree) → Among (remade_blocks X N p what o) (next_blocks X N p (and_then (as_there led o) (λ t. Ok (with_child name (remade what t) es))))
      by None = none-among []
      by (Some t) = below-among X N p name (remade what t) es

  -- what is found under a name, throughout
  pub member-throughout : (a b : Seen) (name : List ℕ) (es : Entries) → AgreesThroughout a b (blocks X N p (Dir es)) → AgreesThroughout a b (member_blocks X N p (child name es))
  member-throughout a b name es h = record { stays = member-stays X N p a.told b.told name es h.stays; can = h.can }

  module _ {Bad Other : Role → List ℕ → Type 0} {fault : Option StoreFault} {a b c : Seen} (before : OnlySaves X Bad None a b) (after : OnlySaves X Other fault b c)
      (folder new : Entry) (name : List ℕ) (es : Entries) (plan : IsPlanOf X N p folder (Dir es)) (h : AgreesThroughout a c (blocks X N p (Dir es)))
      (puts : SavesPut X N b c p new folder (λ t es. blocks X N p (Dir (with_child name t es)))) where
    -- what a file that was made is put into saves
    pub file-put : (what : FileEdit) (piece : List ℕ) (led : ℕ) → MakesFile X N p a b (blocks X N p (Dir es)) (kept_meta (child name es)) (fitting_bytes p what piece led (child name es)) (Ok new)
        → SavesAmong X (next_blocks X N p (with_fitting p what piece led name es)) b.told c.told
    file-put what piece led makes = by (fitting_bytes p what piece led (child name es)) makes
      where
        by : (w : Result (List ℕ) Refused) → MakesFile X N p a b (blocks X N p (Dir es)) (kept_meta (child name es)) w (Ok new)
            → SavesAmong X (next_blocks X N p (and_then w (λ bytes. Ok (with_child name (File (kept_meta (child name es)) bytes) es)))) b.told c.told
        by (Err why) k = absurd k
        by (Ok bytes) k = put-then X N p before after [] folder new name (File (kept_meta (child name es)) bytes) es tt plan h k.plan k.after puts

    -- the same of what has other metadata
    pub remade-put : (what : MetaEdit) (led : ℕ) → ChangesMember X N p a.told b.told what led (child name es) (Ok (Some new)) → SavesAmong X (next_blocks X N p (with_remade what led name es)) b.told c.told
    remade-put what led changes = by (child name es) refl changes
      where
        by : (o : Option Tree) → child name es ≡ o → ChangesMember X N p a.told b.told what led o (Ok (Some new))
            → SavesAmong X (next_blocks X N p (and_then (as_there led o) (λ t. Ok (with_child name (remade what t) es)))) b.told c.told
        by None is k = absurd (let e : ◌≡◌ {A = Result (Option Entry) Stop} (Ok (Some new)) (Err (stop.Refused (why.NotFound led))) = k in cc)
        by (Some t) is k =
            let made = renew-made X N p a.told b.told (meta_after what (meta_of t)) t new k in
            put-then X N p before after [] folder new name (remade what t) es tt plan h made.plan (after-wider a.told b.told _ _ _ (λ P k. child-among X N p es name t is P k) made.after) puts

  -- ---- the tree at some names

  pub writes-at : (what : FileEdit) (piece : List ℕ) (t : Tree) (names : List (List ℕ)) (es : Entries) → acted_at p (Rewrite what) piece t names es ≡ fitting_edit p what piece names es
  writes-at what piece t [] es = refl
  writes-at what piece t (name ∷ names) es = refl

-- no other block is saved by an edit of this name than its own, by what it does
module _ (X : List ℕ → List ℕ) (N : List ℕ → ℕ) (p : Profile) (a d : Seen) (folder : Entry) (name piece : List ℕ) (led : ℕ) (found : Option Thing) where
  abbrev pub NoOtherHere : Act → Type 0
  NoOtherHere what = (t : Tree) (es : Entries) → IsActMeant X N p what t → IsAgreedMember X N a.told p (child name es) found → IsPlanOf X N p folder (Dir es)
      → AgreesThroughout a d (act_brought X N p what t ++ blocks X N p (Dir es)) → SavesAmong X (act_blocks X N p what (name ∷ []) es (acted p what piece t (led + 1) name es)) a.told d.told

  -- so it is of a removal
  pub taken-here : (what : Act) (given : Change) {recursive : Bool} → what ≡ Changed given → given ≡ Remove recursive
      → ((es : Entries) → IsAgreedMember X N a.told p (child name es) found → Decides (λ (a b : Unit {0}). Unit {0}) (may_act what (led + 1) (child name es)) (Ok tt))
      → SavesFolder X N a d p [] folder (taken_blocks X N p (name ∷ [])) → NoOtherHere what
  taken-here what given {recursive} is one may saves = subst NoOtherHere (sym same) (λ t es meant member plan h.
      let may_be_taken = subst (λ (act : Act). Decides (λ (a b : Unit {0}). Unit {0}) (may_act act (led + 1) (child name es)) (Ok tt)) same (may es member) in
      subst (λ (w : Result Entries Refused). SavesAmong X (act_blocks X N p (Changed (Remove recursive)) (name ∷ []) es w) a.told d.told) (sym (change-done X N p (Remove recursive) t (led + 1) name es may_be_taken))
      (saved-more X _ _ a.told d.told (front-among (taken_blocks X N p (name ∷ []) es) (blocks X N p (Dir (without_child name es)))) (saves es plan h)))
    where
      same : what ≡ Changed (Remove recursive)
      same = is ∙ ap (λ (x : Change). Changed x) one

-- of the tree in memory that is of this profile
pub for-edit : (X : List ℕ → List ℕ) (N : List ℕ → ℕ) (a b : Seen) (mfs : Mfs) (may_save : Profile → Entries → List Held) → SavesFolder X N a b mfs.profile [] mfs.root (may_save mfs.profile) → SavesForEdit X N a b mfs may_save
for-edit X N a b mfs may_save saves = λ p es s h.
    subst (λ (q : Profile). IsPlanOf X N q mfs.root (Dir es) → AgreesThroughout a b (blocks X N q (Dir es)) → SavesAmong X (may_save q es) a.told b.told) s.profile_is (saves es) s.root.plan h
