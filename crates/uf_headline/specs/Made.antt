-- What an edit makes of the plain tree, where it is done. No rule refuses it then, so no refusal is spoken of.
use Rattle.std.specs.Prelude.{ℕ, List, [], ◌∷◌, ◌++◌, Bool, true, false, ◌||◌, if◌then◌else◌}
use Rattle.std.specs.declared.option.Option.{Option}
use Rattle.std.specs.declared.option.Option.TheVariants.{None, Some}
use Rattle.std.specs.declared.result.Result.{Result}
use Rattle.std.specs.declared.result.Result.TheVariants.{Ok, Err}
use Rattle.uf_tree.specs.Laying.{cut_to, laid}
use Rattle.uf_plain.specs.Edits.{at, child, is_folder_at, with_child, without_child}
use Rattle.uf_plain.specs.Files.{kept_meta}
use Rattle.uf_plain.specs.Metas.{meta_after, with_meta}
use Rattle.uf_plain.specs.Moves.{name_of}
use Rattle.uf_plain.specs.declared.meta_edit.MetaEdit.{MetaEdit}
use Rattle.uf_command.specs.declared.types.Edit.{Edit}
use Rattle.uf_command.specs.declared.types.Edit.TheVariants.{Mkdir, Rm, Write, Truncate, Cp, Mv, SetMeta}
use Rattle.uf_tree.specs.Metas.{none}
use Rattle.uf_tree.specs.Tree.{Tree, File, Dir, Entries, Nothing, entries, meta_of, own_meta, pairs}

-- the entries of the folder that is there: none, and no metadata, where there is no folder
abbrev pub folder_of : Option Tree → Entries
folder_of (Some (Dir es)) = es
folder_of other = Nothing none

-- the bytes of the file that is there: none where there is no file
abbrev pub bytes_of : Option Tree → List ℕ
bytes_of (Some (File m bytes)) = bytes
bytes_of other = []

-- a change of the folder that all names but the last lead to, and so of each folder on the way
abbrev pub changed_at : (List ℕ → Entries → Entries) → List (List ℕ) → Entries → Entries
changed_at change [] es = es
changed_at change (name ∷ []) es = change name es
changed_at change (name ∷ next ∷ names) es =
    with_child name (Dir (changed_at change (next ∷ names) (folder_of (child name es)))) es

-- the last of these names gets what is made of what was under it
abbrev pub remade : (Option Tree → Tree) → List (List ℕ) → Entries → Entries
remade make names es = changed_at (λ name es. with_child name (make (child name es)) es) names es

-- what is there with its metadata changed
abbrev pub meta_changed : MetaEdit → Option Tree → Tree
meta_changed what (Some t) = with_meta (meta_after what (meta_of t)) t
meta_changed what None = Dir (Nothing none)

-- the metadata of what is at these names is changed: the root's own where there are none
abbrev pub with_meta_at : MetaEdit → List (List ℕ) → Entries → Entries
with_meta_at what [] es = entries (meta_after what (own_meta es)) (pairs es)
with_meta_at what (name ∷ names) es = remade (meta_changed what) (name ∷ names) es

-- the tree that was found is put there
abbrev pub put_there : {E : Type 0} → Result Tree E → List (List ℕ) → Entries → Entries
put_there (Ok t) names es = remade (λ o. t) names es
put_there (Err why) names es = es

-- where a destination leads: into it, under this name, or to it
abbrev pub lands : Bool → List (List ℕ) → Option (List ℕ) → List (List ℕ)
lands true dest (Some name) = dest ++ name ∷ []
lands true dest None = dest
lands false dest name = dest

-- the entries after an edit at these names. A file that is written keeps its metadata, and a new one has none. A move
-- takes its source away first, and enters a folder that is there
abbrev pub after_edit : Edit → List (List ℕ) → Entries → Entries
after_edit (Mkdir parents) names es = remade (λ o. Dir (folder_of o)) names es
after_edit (Rm recursive) names es = changed_at without_child names es
after_edit (Write how piece) names es =
    remade (λ o. File (kept_meta o) (laid (if how.cut then [] else bytes_of o) how.offset piece)) names es
after_edit (Truncate size) names es = remade (λ o. File (kept_meta o) (cut_to (bytes_of o) size)) names es
after_edit (Cp dest) names es = put_there (at 0 names (Dir es)) (lands dest.into dest.names (name_of names)) es
after_edit (Mv dest) names es =
    let into = dest.into || is_folder_at (at 0 dest.names (Dir es)) in
    put_there (at 0 names (Dir es)) (lands into dest.names (name_of names)) (changed_at without_child names es)
after_edit (SetMeta what) names es = with_meta_at what names es
