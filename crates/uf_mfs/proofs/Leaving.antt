-- An edit that leaves the bytes of a file that is there leaves its folder.
use Rattle.std.proofs.Common.{◌≡◌, ℕ, List, [], ◌∷◌, refl, ap, ◌∙◌, Bool, true, false, cond, Option, Some, None, Result, Ok}
use Rattle.std.specs.Prelude.{IsTrue, not}
use Rattle.uf_store.specs.Contents.{Told}
use Rattle.uf_tree.specs.declared.meta.Meta.{Meta}
use Rattle.uf_tree.specs.declared.profile.Profile.{Profile}
use Rattle.uf_tree.specs.Tree.{Tree, File, Dir, Entries, fold, is_tree}
use Rattle.uf_tree.specs.TreePlan.{Refusal, planned}
use Rattle.uf_plain.specs.declared.file.FileEdit.{FileEdit}
use Rattle.uf_plain.specs.declared.file.FileEdit.TheVariants.{Write, Truncate}
use Rattle.uf_plain.specs.declared.rule.Refused.{Refused}
use Rattle.uf_plain.specs.Edits.{and_then, child, with_child}
use Rattle.uf_plain.specs.Files.{as_file_or_new, fitting, kept_meta, new_bytes, rewritten}
use Rattle.uf_plain.specs.Rules.{unless}
use Rattle.uf_plain.proofs.Edited.{with-same}
use Rattle.uf_mfs.specs.declared.thing.Thing.{Thing}
use Rattle.uf_mfs.specs.declared.thing.Thing.TheVariants.{File as FileAt, Folder as FolderAt}
use Rattle.uf_mfs.specs.Standing.{IsAgreedMember}
use Rattle.uf_mfs.specs.Writes.{fitting_bytes, leaves_bytes, leaves_found, with_fitting}

-- the file has the bytes that it had
left-bytes : (what : FileEdit) (x : List ℕ) (led : ℕ) (m : Meta) (old : List ℕ) → leaves_bytes what x ≡ true
    → new_bytes what x led (Some (File m old)) ≡ Ok old
left-bytes (Write how) [] led m old leaves = by how.create how.cut leaves
  where
    by : (create cut : Bool) → not cut ≡ true
        → and_then (and_then (as_file_or_new create led (Some (File m old))) (λ bytes. Ok (cond cut [] bytes))) (λ bytes. Ok (rewritten (Write how) [] bytes)) ≡ Ok old
    by true true h = absurd cc
    by false true h = absurd cc
    by true false h = refl
    by false false h = refl
left-bytes (Write how) (z ∷ x) led m old leaves = absurd cc
left-bytes (Truncate size) x led m old leaves = absurd cc

module _ (X : List ℕ → List ℕ) (N : List ℕ → ℕ) (p : Profile) where
  -- so its folder stays as it is
  pub left-file : (told : Told) (what : FileEdit) (x : List ℕ) (led : ℕ) (name : List ℕ) (es : Entries) (found : Option Thing) → IsTrue (is_tree (Dir es))
      → IsAgreedMember X N told p (child name es) found → leaves_found what x found ≡ true → with_fitting p what x led name es ≡ Ok es
  unfolding planned fold
  left-file told what x led name es found tree member leaves = by (child name es) found refl member leaves
    where
      by : (o : Option Tree) (found : Option Thing) → child name es ≡ o → IsAgreedMember X N told p o found → leaves_found what x found ≡ true
          → and_then (fitting_bytes p what x led o) (λ bytes. Ok (with_child name (File (kept_meta o) bytes) es)) ≡ Ok es
      by None None is h leaves = absurd cc
      by None (Some thing) is h leaves = absurd h
      by (Some t) None is h leaves = absurd h
      by (Some (File m bytes)) (Some (FileAt e size)) is h leaves =
          ap (λ (w : Result (List ℕ) Refused). and_then (and_then w (fitting p)) (λ bytes. Ok (with_child name (File m bytes) es))) (left-bytes what x led m bytes leaves)
          ∙ ap (λ (o : Option Refusal). and_then (unless bytes o) (λ bytes. Ok (with_child name (File m bytes) es))) h.0.plan.planned
          ∙ ap (λ (es : Entries). Ok es) (with-same name (File m bytes) es tree is)
      by (Some (File m bytes)) (Some (FolderAt e root)) is h leaves = absurd h
      by (Some (Dir fs)) (Some (FileAt e size)) is h leaves = absurd h
      by (Some (Dir fs)) (Some (FolderAt e root)) is h leaves = absurd cc
