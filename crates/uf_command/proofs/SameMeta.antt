-- Where the metadata is what a change would make of it, the change leaves what is there.
use Rattle.std.proofs.Common.{◌≡◌, ◌∙◌, Bool, true, false, refl, ap, Option, Some, None, Result, Ok, Err}
use Rattle.std.specs.Prelude.{◌&&◌, nat_eq}
use Rattle.std.specs.Option.{option_eq}
use Rattle.std.proofs.lemmas.Bool.{eqb-true}
use Rattle.std.proofs.lemmas.Bool.Decides.{Decides-int_eq}
use Rattle.uf_message.specs.declared.message.Mtime.{Mtime}
use Rattle.uf_tree.specs.Tree.{Tree, File, Dir, meta_of}
use Rattle.uf_tree.specs.declared.meta.Meta.{Meta}
use Rattle.uf_tree.proofs.TreeLaws.{entries-pairs}
use Rattle.uf_plain.specs.Metas.{meta_after, remade, with_meta}
use Rattle.uf_plain.specs.declared.meta_edit.MetaEdit.{MetaEdit}
use Rattle.uf_plain.specs.declared.rule.Refused.{Refused}
use Rattle.uf_command.specs.Commands.{has_meta_of, is_same_meta, is_same_mtime}

both-true : (a b : Bool) → (a && b) ≡ true → (a ≡ true) × (b ≡ true)
both-true true true h = (refl, refl)
both-true true false h = absurd cc
both-true false true h = absurd cc
both-true false false h = absurd cc

-- two options are one, where a test of what they have is
same-options : {A : Type 0} (test : A → A → Bool) → ((a b : A) → test a b ≡ true → a ≡ b) → (o u : Option A) → option_eq test o u ≡ true → o ≡ u
same-options test same None None is = refl
same-options test same None (Some b) is = absurd cc
same-options test same (Some a) None is = absurd cc
same-options test same (Some a) (Some b) is = ap Some (same a b is)

same-mtimes : (s t : Mtime) → is_same_mtime s t ≡ true → s ≡ t
same-mtimes s t is =
    let b = both-true _ _ is in
    let seconds = (Decides-int_eq s.seconds t.seconds).0 b.0 in
    let nanos = same-options nat_eq eqb-true s.nanos t.nanos b.1 in
    ap (λ x. record { seconds = x; nanos = s.nanos }) seconds ∙ ap (λ n. record { seconds = t.seconds; nanos = n }) nanos

pub same-metas : (m n : Meta) → is_same_meta m n ≡ true → m ≡ n
same-metas m n is =
    let b = both-true _ _ is in
    let mode = same-options nat_eq eqb-true m.mode n.mode b.0 in
    let mtime = same-options is_same_mtime same-mtimes m.mtime n.mtime b.1 in
    ap (λ x. record { mode = x; mtime = m.mtime }) mode ∙ ap (λ t. record { mode = n.mode; mtime = t }) mtime

-- what has its own metadata is as it was
with-own : (t : Tree) → with_meta (meta_of t) t ≡ t
with-own (File m bytes) = refl
with-own (Dir es) = ap Dir (entries-pairs es)

-- a change of metadata to what it is finds something, and leaves it
pub meta-there : (what : MetaEdit) (found : Result Tree Refused) → has_meta_of what found ≡ true
    → (t : Tree) × (found ≡ Ok t) × (remade what t ≡ t)
meta-there what (Ok t) is = (t, refl, ap (λ m. with_meta m t) (same-metas (meta_after what (meta_of t)) (meta_of t) is) ∙ with-own t)
meta-there what (Err why) is = absurd cc
