-- What `add -n` prints of a tree afresh, and `files stat` of a path.
use Rattle.std.proofs.Common.{◌≡◌, ◌∙◌, ℕ, List, [], ◌∷◌, ◌++◌, Bool, true, sym, ap, subst, append_assoc, append-nil, Ok}
use Rattle.std.specs.Prelude.{codes}
use Rattle.std.specs.Fmt.{decimal}
use Rattle.std.specs.List.{flat_map}
use Rattle.std.proofs.lemmas.Grind.{flat_map-append}
use Rattle.uf_cid.specs.Cid.{cid_text}
use Rattle.uf_edge.specs.Streams.{after}
use Rattle.uf_host.specs.HostTree.{row_with, rows_in, rows_of, tree_on_host}
use Rattle.uf_host.specs.Paths.{first_row, trimmed}
use Rattle.uf_mfs.specs.Standing.{TellsAs}
use Rattle.uf_path.specs.declared.path.Path.{Path}
use Rattle.uf_plain.specs.Edits.{at}
use Rattle.uf_plain.specs.Replies.{stat_of}
use Rattle.uf_plain.specs.declared.reply.Stat.{Stat}
use Rattle.uf_command.specs.Lines.{from_line, line, mode_line, mtime_line, stat_text, type_word}
use Rattle.uf_store.specs.Contents.{Told}
use Rattle.uf_top.specs.Endings.{PrintsAll}
use Rattle.uf_top.specs.HostTexts.{host_row, host_text}
use Rattle.uf_top.specs.Reply.{World, from_reply, hosted, looked, reply_to, world_of}
use Rattle.uf_tree.specs.Profiles.{usual}
use Rattle.uf_tree.specs.Standing.{Standing, NoHead, BadHead, Stands}
use Rattle.uf_tree.specs.Tree.{Tree, File, Dir, Entries}
use Rattle.uf_tree.specs.TreePlan.{entry}
use Rattle.uf_tree.specs.declared.profile.Profile.{Profile}
use Rattle.uf_headline.specs.History.{AddsAfresh, PrintsFirst, PrintsLast, StatsAt, Step, TakesProfile}
use Rattle.uf_headline.proofs.Histories.{replied}

-- the first line of a text, and what is behind it
five : (a b c d e : List ℕ) → a ++ b ++ c ++ d ++ e ≡ a ++ (b ++ c ++ d ++ e)
five a b c d e = ap (λ l. l ++ d ++ e) (append_assoc a b c) ∙ ap (λ l. l ++ e) (append_assoc a (b ++ c) d) ∙ append_assoc a (b ++ c ++ d) e

seven : (a b c d e f g : List ℕ) → a ++ b ++ c ++ d ++ e ++ f ++ g ≡ a ++ (b ++ c ++ d ++ e ++ f ++ g)
seven a b c d e f g = ap (λ l. l ++ f ++ g) (five a b c d e) ∙ ap (λ l. l ++ g) (append_assoc a (b ++ c ++ d ++ e) f) ∙ append_assoc a (b ++ c ++ d ++ e ++ f) g

first-line : (cid rest : List ℕ) → line cid [] ++ rest ≡ cid ++ 10 ∷ rest
first-line cid rest = append_assoc (cid ++ []) (10 ∷ []) rest ∙ ap (λ l. l ++ 10 ∷ rest) (append-nil cid)

-- a text whose last row is that of the whole file or folder
rows-last : (X : List ℕ → List ℕ) (N : List ℕ → ℕ) (p : Profile) (name : List ℕ) (t : Tree)
    → (front : List ℕ) × (flat_map host_row (rows_of X N p name t) ≡ front ++ from_line (entry X N p t).cid name)
unfolding rows_of
rows-last X N p name (File m bytes) = ([], append-nil (from_line (entry X N p (File m bytes)).cid name))
rows-last X N p name (Dir es) = (
  flat_map host_row (rows_in X N p name es),
  flat_map-append host_row (rows_in X N p name es) (row_with X N p name (Dir es) ∷ [])
      ∙ ap (λ l. flat_map host_row (rows_in X N p name es) ++ l) (append-nil (from_line (entry X N p (Dir es)).cid name)),
)

module _ (X : List ℕ → List ℕ) (N : List ℕ → ℕ) where
  -- what is printed of it, whatever stands
  added-ends : (w : World) (recursive : Bool) (path : List ℕ) (p : Profile) (t : Tree) → (s : Standing) → TakesProfile s p → tree_on_host X N p w.host recursive path ≡ Ok t
      → (from_reply X N recursive true path w.host s).ends ≡ Ok (host_text X N p path t)
  added-ends w recursive path p t NoHead is there = ap (λ r. (hosted X N NoHead (λ t. []) path usual r).ends) (subst (λ q. tree_on_host X N q w.host recursive path ≡ Ok t) is there) ∙ ap (λ q. Ok (host_text X N q path t)) (sym is)
  added-ends w recursive path p t BadHead is there = absurd is
  added-ends w recursive path p t (Stands q fs) is there = ap (λ r. (hosted X N (Stands q fs) (λ t. []) path q r).ends) (subst (λ q. tree_on_host X N q w.host recursive path ≡ Ok t) is there) ∙ ap (λ q. Ok (host_text X N q path t)) (sym is)

  pub afresh-prints : (step : Step) (s : Standing) (path : List ℕ) (p : Profile) (t : Tree) → AddsAfresh X N step s path p t → PrintsLast step path (entry X N p t).cid
  afresh-prints step s path p t a = (last.0, printed ∙ ap (after step.before.held) last.1)
    where
      name : List ℕ
      name = first_row (trimmed path)

      last : (front : List ℕ) × (flat_map host_row (rows_of X N p name t) ≡ front ++ from_line (entry X N p t).cid name)
      last = rows-last X N p name t

      w : World
      w = world_of s step.held step.outside

      ends : (reply_to X N step.asked w).ends ≡ Ok (host_text X N p path t)
      ends = ap (λ x. (reply_to X N x w).ends) a.asked ∙ added-ends w a.recursive path p t s a.profile a.there

      printed : step.now.held ≡ after step.before.held (host_text X N p path t)
      printed = subst (λ r. PrintsAll r step.before.held step.now.held) ends (replied X N step a.done s a.stood).printed

  -- ---- what is said of a path

  pub stat-prints : (step : Step) (told : Told) (path : Path) (p : Profile) (es : Entries) (t : Tree) → TellsAs X N told (Stands p es) → at 0 path.names (Dir es) ≡ Ok t → StatsAt X N told step path → PrintsFirst step (entry X N p t).cid
  stat-prints step told path p es t stands there s = (rest, printed ∙ ap (after step.before.held) said)
    where
      stat : Stat
      stat = stat_of X N p t

      rest : List ℕ
      rest = line (codes "Size: ") (decimal stat.size) ++ line (codes "CumulativeSize: ") (decimal stat.cumulative) ++ line (codes "ChildBlocks: ") (decimal stat.children) ++ line (codes "Type: ") (type_word stat.is_folder) ++ mode_line stat.meta.mode ++ mtime_line stat.meta.mtime

      said : stat_text stat ≡ cid_text stat.cid ++ 10 ∷ rest
      said = seven (line (cid_text stat.cid) []) (line (codes "Size: ") (decimal stat.size)) (line (codes "CumulativeSize: ") (decimal stat.cumulative)) (line (codes "ChildBlocks: ") (decimal stat.children)) (line (codes "Type: ") (type_word stat.is_folder)) (mode_line stat.meta.mode) (mtime_line stat.meta.mtime)
          ∙ first-line (cid_text stat.cid) rest

      w : World
      w = world_of (Stands p es) step.held step.outside

      ends : (reply_to X N step.asked w).ends ≡ Ok (stat_text stat)
      ends = ap (λ x. (reply_to X N x w).ends) s.asked ∙ ap (λ r. (looked (Stands p es) path.names (λ t. stat_text (stat_of X N p t)) r).ends) there

      printed : step.now.held ≡ after step.before.held (stat_text stat)
      printed = subst (λ r. PrintsAll r step.before.held step.now.held) ends
          (replied X N step s.done (Stands p es) (subst (λ x. TellsAs X N x (Stands p es)) (sym s.over) stands)).printed
