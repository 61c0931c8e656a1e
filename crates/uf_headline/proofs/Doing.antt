-- What a history makes of the plain tree: a step that was done what its command makes, and any other step nothing.
use Rattle.std.proofs.Common.{◌≡◌, ◌∙◌, ℕ, List, [], ◌∷◌, Bool, true, false, cond, refl, sym, ap, subst, Option, None, Some, Result, Ok, Err}
use Rattle.std.specs.Prelude.{length, nat_le, ⊤}
use Rattle.uf_cid.specs.Blocks.{Lookup}
use Rattle.uf_edge.specs.Host.{HostTree}
use Rattle.uf_host.specs.HostTree.{tree_on_host}
use Rattle.uf_host.specs.Paths.{first_row, trimmed}
use Rattle.uf_host.specs.declared.fault.HostFault.{HostFault}
use Rattle.uf_lenient.specs.declared.fault.DagFault.{DagFault}
use Rattle.uf_mfs.specs.Standing.{TellsAs, head_in}
use Rattle.uf_path.specs.declared.path.DagPath.{DagPath}
use Rattle.uf_path.specs.declared.path.Path.{Path}
use Rattle.uf_plain.specs.Moves.{allowed_move, placed_at, spot_names, spotted, told_of}
use Rattle.uf_plain.specs.Rules.{unless}
use Rattle.uf_plain.specs.declared.file.WriteHow.{WriteHow}
use Rattle.uf_plain.specs.declared.rule.Rule.{Rule}
use Rattle.uf_plain.specs.declared.rule.Rule.TheVariants.{FileTooLong}
use Rattle.uf_plain.specs.declared.spot.Spot.{Spot}
use Rattle.uf_command.specs.Dags.{adopted_name, by_dag, tree_at}
use Rattle.uf_command.specs.Statuses.{ended, status_of}
use Rattle.uf_command.specs.declared.status.Status.{Status}
use Rattle.uf_command.specs.declared.status.Status.TheVariants as status
use Rattle.uf_command.specs.declared.types.Ask.{Ask}
use Rattle.uf_command.specs.declared.types.Ask.TheVariants.{Ls, Stat, Edit as Edits}
use Rattle.uf_command.specs.declared.types.Command.{Command}
use Rattle.uf_command.specs.declared.types.Command.TheVariants.{Init, Add, WriteInput, At, Read, Cat, Get, Export, Import, Same, Adopt, Gen, Pin, Prove}
use Rattle.uf_command.specs.declared.types.Adding.TheVariants as adding
use Rattle.uf_command.specs.declared.types.Edit.TheVariants.{Write}
use Rattle.uf_command.specs.declared.types.HostRule.TheVariants as rules
use Rattle.uf_command.specs.declared.types.Refusal.{Refusal}
use Rattle.uf_command.specs.declared.types.Refusal.TheVariants as refusal
use Rattle.uf_store.specs.Contents.{Told}
use Rattle.uf_store.specs.declared.store.StoreFault.TheVariants as fault
use Rattle.uf_top.specs.HostTexts.{host_text}
use Rattle.uf_top.specs.Reply.{Outside, added_name, added_spot, adopted, by_rule, good_name, grafted, grown, host_tree, input_reply, input_row, input_tree, most_input, moved, placed, reply_to, settled, unchanged, with_plan, world_of}
use Rattle.uf_edits.specs.Edits.{edited_by}
use Rattle.uf_tree.specs.Metas.{none}
use Rattle.uf_tree.specs.Names.{is_name}
use Rattle.uf_tree.specs.Profiles.{most_bytes}
use Rattle.uf_tree.specs.Standing.{IsHeadNote, Standing, NoHead, BadHead, Stands}
use Rattle.uf_tree.specs.Tree.{Tree, File, Dir, Entries, is_tree}
use Rattle.uf_tree.specs.TreePlan.{entry, refusal as refusal_of}
use Rattle.uf_tree.specs.TreePlan as plan
use Rattle.uf_tree.specs.declared.profile.Profile.{Profile}
use Rattle.uf_varint.specs.Fields.{◌>>=◌}
use Rattle.uf_headline.specs.History.{History, IsDone, Makes, Step, entries_after, left_by, standing_after, told_after, told_before}
use Rattle.uf_headline.specs.Made.{after_edit, lands, put_there, remade}
use Rattle.uf_headline.specs.OnHost.{tree_on}
use Rattle.uf_headline.proofs.Histories.{bad-next, command-next, next-stands, none-next, replied}
use Rattle.uf_headline.proofs.Made.{IsOnly, edit-only, put-only, spotted-lands}
use Rattle.uf_headline.proofs.OnHost.{on-host}

-- ---- replies

-- what was before, or what is new where the command was done
abbrev pub if_done : Status → Standing → Standing → Standing
if_done status.Ok before made = made
if_done other before made = before

-- what a reply leaves: this where it is done, and what stood where it refuses
abbrev Leaves : Result (List ℕ) Refusal → Standing → Standing → Standing → Type 0
Leaves (Ok text) next old new = next ≡ new
Leaves (Err why) next old new = next ≡ old

same-leaves : (ends : Result (List ℕ) Refusal) (next s : Standing) → next ≡ s → Leaves ends next s s
same-leaves (Ok text) next s e = e
same-leaves (Err why) next s e = e

-- a refusal isn't done
pub not-done : (why : Refusal) (s t : Standing) → if_done (status_of why) s t ≡ s
not-done (refusal.Rule rule) s t = refl
not-done (refusal.Dag rule) s t = refl
not-done (refusal.Host rule) s t = refl
not-done (refusal.BadPath why) s t = refl
not-done refusal.InputTooLong s t = refl
not-done refusal.BadPins s t = refl
not-done refusal.Usage s t = refl
not-done (refusal.Ready why) s t = refl
not-done refusal.Read s t = refl
not-done refusal.Write s t = refl
not-done (refusal.Store fault.Failed) s t = refl
not-done (refusal.Store (fault.Damaged cid)) s t = refl
not-done (refusal.Store (fault.Missing cid)) s t = refl
not-done (refusal.Store (fault.BadBlock cid role)) s t = refl
not-done (refusal.Store (fault.Clash cid held bytes)) s t = refl
not-done (refusal.Store fault.Memory) s t = refl
not-done (refusal.Car number place) s t = refl
not-done (refusal.CarLacks cid) s t = refl
not-done (refusal.OwnClash cid first second) s t = refl

leaves-is : (given : Status) (ends : Result (List ℕ) Refusal) (next s t : Standing) → given ≡ ended ends → Leaves ends next s t → next ≡ if_done given s t
leaves-is given (Ok text) next s t e h = h ∙ sym (ap (λ g. if_done g s t) e)
leaves-is given (Err why) next s t e h = h ∙ sym (ap (λ g. if_done g s t) e ∙ not-done why s t)

-- what stands after a command that was done
abbrev pub made_by : Result Command Refusal → Outside → Lookup → Standing → Standing
made_by asked o held s = left_by tree_at status.Ok asked o held s

-- and after a step
abbrev pub after_step : Step → Standing → Standing
after_step step s = left_by tree_at step.given step.asked step.outside step.held s

pub left-is : (given : Status) (asked : Result Command Refusal) (o : Outside) (held : Lookup) (s : Standing) → if_done given s (made_by asked o held s) ≡ left_by tree_at given asked o held s
left-is status.Ok asked o held s = refl
left-is status.Rule asked o held s = refl
left-is status.Usage asked o held s = refl
left-is status.StoreFault asked o held s = refl
left-is status.Missing asked o held s = refl
left-is status.BadBlock asked o held s = refl
left-is status.ReadFault asked o held s = refl
left-is status.WriteFault asked o held s = refl
left-is status.Clash asked o held s = refl
left-is status.Memory asked o held s = refl
left-is status.NotReady asked o held s = refl

module _ (X : List ℕ → List ℕ) (N : List ℕ → ℕ) where
  moved-leaves : (p : Profile) (es new : Entries) (r : Result Entries Rule) → IsOnly new r → Leaves (moved X N p es r).ends (moved X N p es r).next (Stands p es) (Stands p new)
  moved-leaves p es new (Ok next) h = ap (Stands p) (h next refl)
  moved-leaves p es new (Err rule) h = refl

  grown-leaves : (p : Profile) (es new : Entries) (r : Result Entries Refusal) → IsOnly new r → Leaves (grown X N p es r).ends (grown X N p es r).next (Stands p es) (Stands p new)
  grown-leaves p es new (Ok next) h = ap (Stands p) (h next refl)
  grown-leaves p es new (Err why) h = refl

  settled-leaves : (say : Tree → List ℕ) (p : Profile) (es new : Entries) (r : Result (Tree × Entries) Refusal) → ((put : Tree × Entries) → r ≡ Ok put → put.1 ≡ new)
      → Leaves (settled X N say p es r).ends (settled X N say p es r).next (Stands p es) (Stands p new)
  settled-leaves say p es new (Ok put) h = ap (Stands p) (h put refl)
  settled-leaves say p es new (Err why) h = refl

  input-leaves : (how : WriteHow) (names : List (List ℕ)) (bytes : List ℕ) (p : Profile) (es : Entries) → is_tree (Dir es) ≡ true
      → Leaves (input_reply X N how names bytes p es).ends (input_reply X N how names bytes p es).next (Stands p es) (Stands p (after_edit (Write how bytes) names es))
  input-leaves how names bytes p es tree = elim (nat_le (length bytes) most_input) as (λ b. (let r = cond b (moved X N p es (edited_by X N (Write how bytes) names p es)) (unchanged (Stands p es) (Err refusal.InputTooLong)) in
      Leaves r.ends r.next (Stands p es) (Stands p (after_edit (Write how bytes) names es))))
      [ true ↦ moved-leaves p es (after_edit (Write how bytes) names es) (edited_by X N (Write how bytes) names p es) (edit-only X N (Write how bytes) names p es tree) | false ↦ refl ]

  -- ---- what is put where a destination leads

  pair-of : (x y : Tree × Entries) → ◌≡◌ {A = Result (Tree × Entries) Refusal} (Ok x) (Ok y) → x ≡ y
  pair-of x y e = cc

  -- the entries of a pair that came of a rule's answer
  pair-last : (r : Result Entries Rule) (t : Tree) (put : Tree × Entries) → (by_rule r >>= λ next. Ok (t, next)) ≡ Ok put → r ≡ Ok put.1
  pair-last (Ok next) t put e = ap (λ (x : Tree × Entries). Ok x.1) (pair-of (t, next) put e)
  pair-last (Err rule) t put e = absurd cc

  rule-same : {A : Type 0} (r : Result A Rule) (a : A) → by_rule r ≡ Ok a → r ≡ Ok a
  rule-same (Ok b) a e = (let same : b ≡ a = cc in ap Ok same)
  rule-same (Err rule) a e = cc

  dag-same : {A : Type 0} (source : DagPath) (r : Result A DagFault) (a : A) → by_dag source r ≡ Ok a → r ≡ Ok a
  dag-same source (Ok b) a e = (let same : b ≡ a = cc in ap Ok same)
  dag-same source (Err why) a e = cc

  -- a value that came of two steps
  first-of : {A B : Type 0} (r : Result A Refusal) (go : A → Result B Refusal) (b : B) → (r >>= go) ≡ Ok b → (a : A) × (r ≡ Ok a) × (go a ≡ Ok b)
  first-of (Ok a) go b e = (a, refl, e)
  first-of (Err why) go b e = absurd cc

  placed-is : (spot : Result Spot Refusal) (given : Result Tree Refusal) (p : Profile) (es : Entries) (put : Tree × Entries) → placed X N spot given p es ≡ Ok put
      → (at : Spot) × (spot ≡ Ok at) × (t : Tree) × (given ≡ Ok t) × (allowed_move X N p (placed_at at t es) ≡ Ok put.1)
  placed-is spot given p es put e =
      let at = first-of spot (λ spot. given >>= λ t. by_rule (allowed_move X N p (placed_at spot t es)) >>= λ next. Ok (t, next)) put e in
      let t = first-of given (λ t. by_rule (allowed_move X N p (placed_at at.0 t es)) >>= λ next. Ok (t, next)) put at.2 in
      (at.0, at.1, t.0, t.1, pair-last (allowed_move X N p (placed_at at.0 t.0 es)) t.0 put t.2)

  named-spot : (dest : Path) (name : Option (List ℕ)) (es : Entries) (given : Result (Option (List ℕ)) Refusal) (spot : Spot) → ((some : Option (List ℕ)) → given ≡ Ok some → lands dest.into dest.names some ≡ lands dest.into dest.names name)
      → (given >>= λ name. by_rule (spotted dest name es)) ≡ Ok spot → spot_names spot ≡ lands dest.into dest.names name
  named-spot dest name es given spot h e =
      let some = first-of given (λ name. by_rule (spotted dest name es)) spot e in
      spotted-lands dest some.0 es spot (rule-same (spotted dest some.0 es) spot some.2) ∙ h some.0 some.1

  -- the input
  file-same : (b : Bool) (bytes : List ℕ) (t : Tree) → ◌≡◌ {A = Result Tree Refusal} (cond b (Ok (File none bytes)) (Err (refusal.Rule FileTooLong))) (Ok t) → t ≡ File none bytes
  file-same true bytes t e = cc
  file-same false bytes t e = cc

  lands-none : (into : Bool) (names : List (List ℕ)) → lands into names None ≡ names
  lands-none true names = refl
  lands-none false names = refl

  no-name : (into : Bool) (names : List (List ℕ)) (some : Option (List ℕ)) → ◌≡◌ {A = Result (Option (List ℕ)) Refusal} (Ok None) (Ok some) → lands into names some ≡ lands into names None
  no-name into names None e = refl
  no-name into names (Some name) e = cc

  add-to-leaves : (dest : Path) (bytes : List ℕ) (p : Profile) (es : Entries)
      → (let r = settled X N (input_row X N p) p es (placed X N (added_spot dest None es) (input_tree p bytes) p es) in Leaves r.ends r.next (Stands p es) (Stands p (remade (λ o. File none bytes) dest.names es)))
  add-to-leaves dest bytes p es = settled-leaves (input_row X N p) p es (remade (λ o. File none bytes) dest.names es) (placed X N (added_spot dest None es) (input_tree p bytes) p es) (λ put e.
      (let d = placed-is (added_spot dest None es) (input_tree p bytes) p es put e in
      let names : spot_names d.0 ≡ dest.names = named-spot dest None es (Ok None) d.0 (no-name dest.into dest.names) d.1 ∙ lands-none dest.into dest.names in
      put-only X N d.0 dest.names d.2 p es names put.1 d.4
      ∙ ap (λ t. remade (λ o. t) dest.names es) (file-same (nat_le (length bytes) (most_bytes p)) bytes d.2 d.3)))

  -- what the host has
  row-name : (into : Bool) (names : List (List ℕ)) (path row : List ℕ) (some : Option (List ℕ)) → ◌≡◌ {A = Result (Option (List ℕ)) Refusal} (cond into (good_name path row) (Ok None)) (Ok some)
      → lands into names some ≡ lands into names (Some row)
  row-name false names path row some e = refl
  row-name true names path row some e = by (is_name row) e
    where
      by : (b : Bool) → ◌≡◌ {A = Result (Option (List ℕ)) Refusal} (cond b (Ok (Some row)) (Err (refusal.Host (rules.Name path)))) (Ok some) → lands true names some ≡ lands true names (Some row)
      by true e = (let same : Some row ≡ some = cc in ap (lands true names) (sym same))
      by false e = cc

  host-same : (path : List ℕ) (r : Result Tree HostFault) (t : Tree) → host_tree path r ≡ Ok t → r ≡ Ok t
  host-same path (Ok u) t e = (let same : u ≡ t = cc in ap Ok same)
  host-same path (Err fault) t e = cc

  there-is : {E : Type 0} (r : Result Tree E) (t : Tree) (to : List (List ℕ)) (es : Entries) → r ≡ Ok t → remade (λ o. t) to es ≡ put_there r to es
  there-is r t to es e = sym (ap (λ x. put_there x to es) e)

  from-to-leaves : (recursive : Bool) (path : List ℕ) (dest : Path) (host : HostTree) (p : Profile) (es : Entries)
      → (let r = settled X N (host_text X N p path) p es (placed X N (added_spot dest (Some path) es) (host_tree path (tree_on_host X N p host recursive path)) p es) in
      Leaves r.ends r.next (Stands p es) (Stands p (remade (λ o. tree_on host path) (lands dest.into dest.names (Some (first_row (trimmed path)))) es)))
  from-to-leaves recursive path dest host p es = settled-leaves (host_text X N p path) p es (remade (λ o. tree_on host path) to es) (placed X N (added_spot dest (Some path) es) (host_tree path there) p es) (λ put e.
      (let d = placed-is (added_spot dest (Some path) es) (host_tree path there) p es put e in
      let names : spot_names d.0 ≡ to = named-spot dest (Some row) es (added_name dest (Some path)) d.0 (row-name dest.into dest.names path row) d.1 in
      put-only X N d.0 to d.2 p es names put.1 d.4
      ∙ ap (λ t. remade (λ o. t) to es) (sym (on-host X N p host recursive path d.2 (host-same path there d.2 d.3)))))
    where
      row : List ℕ
      row = first_row (trimmed path)

      to : List (List ℕ)
      to = lands dest.into dest.names (Some row)

      there : Result Tree HostFault
      there = tree_on_host X N p host recursive path

  -- a DAG
  planned-same : (p : Profile) (t u : Tree) → by_rule (with_plan X N p t) ≡ Ok u → u ≡ t
  planned-same p t u e = by (refusal_of X N p t) (rule-same (with_plan X N p t) u e)
    where
      by : (o : Option plan.Refusal) → told_of [] (unless t o) ≡ Ok u → u ≡ t
      by None e = cc
      by (Some why) e = cc

  graft-only : (name : List ℕ) (t : Tree) (dest : Path) (p : Profile) (es : Entries) → IsOnly (remade (λ o. t) (lands dest.into dest.names (Some name)) es) (grafted X N name t dest p es)
  graft-only name t dest p es = λ made e.
      (let at = first-of (by_rule (spotted dest (Some name) es)) (λ spot. by_rule (with_plan X N p t) >>= λ planned. by_rule (allowed_move X N p (placed_at spot planned es))) made e in
      let u = first-of (by_rule (with_plan X N p t)) (λ planned. by_rule (allowed_move X N p (placed_at at.0 planned es))) made at.2 in
      let names : spot_names at.0 ≡ to = spotted-lands dest (Some name) es at.0 (rule-same (spotted dest (Some name) es) at.0 at.1) in
      put-only X N at.0 to u.0 p es names made (rule-same (allowed_move X N p (placed_at at.0 u.0 es)) made u.2)
      ∙ ap (λ x. remade (λ o. x) to es) (planned-same p t u.0 u.1))
    where
      to : List (List ℕ)
      to = lands dest.into dest.names (Some name)

  adopted-only : (held : Lookup) (source : DagPath) (dest : Path) (p : Profile) (es : Entries) → IsOnly (put_there (tree_at held source) (lands dest.into dest.names (Some (adopted_name source))) es) (adopted X N held source dest p es)
  adopted-only held source dest p es = λ made e.
      (let t = first-of (by_dag source (tree_at held source)) (λ t. grafted X N (adopted_name source) t dest p es) made e in
      graft-only (adopted_name source) t.0 dest p es made t.2 ∙ there-is (tree_at held source) t.0 to es (dag-same source (tree_at held source) t.0 t.1))
    where
      to : List (List ℕ)
      to = lands dest.into dest.names (Some (adopted_name source))

  -- ---- a command

  ask-leaves : (ask : Ask) (path : Path) (o : Outside) (held : Lookup) (p : Profile) (es : Entries) → is_tree (Dir es) ≡ true
      → (let r = reply_to X N (Ok (At ask path)) (world_of (Stands p es) held o) in Leaves r.ends r.next (Stands p es) (Stands p (entries_after tree_at (At ask path) o held es)))
  ask-leaves (Ls long) path o held p es tree = (let r = reply_to X N (Ok (At (Ls long) path)) (world_of (Stands p es) held o) in same-leaves r.ends r.next (Stands p es) (command-next X N (At (Ls long) path) o held p es))
  ask-leaves Stat path o held p es tree = (let r = reply_to X N (Ok (At Stat path)) (world_of (Stands p es) held o) in same-leaves r.ends r.next (Stands p es) (command-next X N (At Stat path) o held p es))
  ask-leaves (Edits edit) path o held p es tree = moved-leaves p es (after_edit edit path.names es) (edited_by X N edit path.names p es) (edit-only X N edit path.names p es tree)

  abbrev LeavesIn : Standing → Command → Outside → Lookup → Type 0
  LeavesIn s command o held = (let r = reply_to X N (Ok command) (world_of s held o) in Leaves r.ends r.next s (made_by (Ok command) o held s))

  -- a command that changes nothing in the tree
  same-in : (s : Standing) (command : Command) (o : Outside) (held : Lookup) → (reply_to X N (Ok command) (world_of s held o)).next ≡ s → made_by (Ok command) o held s ≡ s → LeavesIn s command o held
  same-in s command o held next same = (let r = reply_to X N (Ok command) (world_of s held o) in subst (Leaves r.ends r.next s) (sym same) (same-leaves r.ends r.next s next))

  tree-leaves : (command : Command) (o : Outside) (held : Lookup) (p : Profile) (es : Entries) → is_tree (Dir es) ≡ true → LeavesIn (Stands p es) command o held
  tree-leaves (Init q) o held p es tree = refl
  tree-leaves (Add (adding.Input only_hash)) o held p es tree = same-in (Stands p es) (Add (adding.Input only_hash)) o held (command-next X N (Add (adding.Input only_hash)) o held p es) refl
  tree-leaves (Add (adding.Host recursive only_hash path)) o held p es tree = same-in (Stands p es) (Add (adding.Host recursive only_hash path)) o held (command-next X N (Add (adding.Host recursive only_hash path)) o held p es) refl
  tree-leaves (Add (adding.InputTo dest)) o held p es tree = add-to-leaves dest o.input p es
  tree-leaves (Add (adding.HostTo recursive path dest)) o held p es tree = from-to-leaves recursive path dest o.host p es
  tree-leaves (WriteInput how path) o held p es tree = input-leaves how path.names o.input p es tree
  tree-leaves (At ask path) o held p es tree = ask-leaves ask path o held p es tree
  tree-leaves (Read offset count path) o held p es tree = same-in (Stands p es) (Read offset count path) o held (command-next X N (Read offset count path) o held p es) refl
  tree-leaves (Prove absent path) o held p es tree = same-in (Stands p es) (Prove absent path) o held refl refl
  tree-leaves (Cat path) o held p es tree = same-in (Stands p es) (Cat path) o held refl refl
  tree-leaves (Get path host_path) o held p es tree = same-in (Stands p es) (Get path host_path) o held refl refl
  tree-leaves (Export cid) o held p es tree = same-in (Stands p es) (Export cid) o held refl refl
  tree-leaves Import o held p es tree = same-in (Stands p es) Import o held refl refl
  tree-leaves (Same cid) o held p es tree = same-in (Stands p es) (Same cid) o held refl refl
  tree-leaves (Adopt source dest) o held p es tree =
      grown-leaves p es (put_there (tree_at held source) (lands dest.into dest.names (Some (adopted_name source))) es) (adopted X N held source dest p es) (adopted-only held source dest p es)
  tree-leaves (Gen n seed) o held p es tree = same-in (Stands p es) (Gen n seed) o held refl refl
  tree-leaves (Pin ask) o held p es tree = same-in (Stands p es) (Pin ask) o held refl refl

  none-leaves : (command : Command) (o : Outside) (held : Lookup) → LeavesIn NoHead command o held
  none-leaves (Init q) o held = refl
  none-leaves (Add (adding.Input only_hash)) o held = same-in NoHead (Add (adding.Input only_hash)) o held (none-next X N (Add (adding.Input only_hash)) o held) refl
  none-leaves (Add (adding.Host recursive only_hash path)) o held = same-in NoHead (Add (adding.Host recursive only_hash path)) o held (none-next X N (Add (adding.Host recursive only_hash path)) o held) refl
  none-leaves (Add (adding.InputTo dest)) o held = refl
  none-leaves (Add (adding.HostTo recursive path dest)) o held = refl
  none-leaves (WriteInput how path) o held = refl
  none-leaves (At ask path) o held = refl
  none-leaves (Read offset count path) o held = refl
  none-leaves (Prove absent path) o held = refl
  none-leaves (Cat path) o held = same-in NoHead (Cat path) o held refl refl
  none-leaves (Get path host_path) o held = same-in NoHead (Get path host_path) o held refl refl
  none-leaves (Export cid) o held = same-in NoHead (Export cid) o held refl refl
  none-leaves Import o held = same-in NoHead Import o held refl refl
  none-leaves (Same cid) o held = same-in NoHead (Same cid) o held refl refl
  none-leaves (Adopt source dest) o held = refl
  none-leaves (Gen n seed) o held = same-in NoHead (Gen n seed) o held refl refl
  none-leaves (Pin ask) o held = same-in NoHead (Pin ask) o held refl refl

  bad-leaves : (command : Command) (o : Outside) (held : Lookup) → LeavesIn BadHead command o held
  bad-leaves (Init q) o held = refl
  bad-leaves (Add (adding.Input only_hash)) o held = same-in BadHead (Add (adding.Input only_hash)) o held (bad-next X N (Add (adding.Input only_hash)) o held) refl
  bad-leaves (Add (adding.Host recursive only_hash path)) o held = same-in BadHead (Add (adding.Host recursive only_hash path)) o held (bad-next X N (Add (adding.Host recursive only_hash path)) o held) refl
  bad-leaves (Add (adding.InputTo dest)) o held = refl
  bad-leaves (Add (adding.HostTo recursive path dest)) o held = refl
  bad-leaves (WriteInput how path) o held = refl
  bad-leaves (At ask path) o held = refl
  bad-leaves (Read offset count path) o held = refl
  bad-leaves (Prove absent path) o held = refl
  bad-leaves (Cat path) o held = same-in BadHead (Cat path) o held refl refl
  bad-leaves (Get path host_path) o held = same-in BadHead (Get path host_path) o held refl refl
  bad-leaves (Export cid) o held = same-in BadHead (Export cid) o held refl refl
  bad-leaves Import o held = same-in BadHead Import o held refl refl
  bad-leaves (Same cid) o held = same-in BadHead (Same cid) o held refl refl
  bad-leaves (Adopt source dest) o held = refl
  bad-leaves (Gen n seed) o held = same-in BadHead (Gen n seed) o held refl refl
  bad-leaves (Pin ask) o held = same-in BadHead (Pin ask) o held refl refl

  -- what stands is a tree, where one stands
  abbrev IsGood : Standing → Type 0
  IsGood NoHead = ⊤
  IsGood BadHead = ⊤
  IsGood (Stands p es) = is_tree (Dir es) ≡ true

  good-of : (told : Told) (s : Standing) → TellsAs X N told s → IsGood s
  good-of None s t = absurd t
  good-of (Some c) NoHead t = tt
  good-of (Some c) BadHead t = tt
  good-of (Some c) (Stands p es) t = t.tree

  pub asked-leaves : (asked : Result Command Refusal) (o : Outside) (held : Lookup) (s : Standing) → IsGood s → (let r = reply_to X N asked (world_of s held o) in Leaves r.ends r.next s (made_by asked o held s))
  asked-leaves (Err why) o held NoHead good = refl
  asked-leaves (Err why) o held BadHead good = refl
  asked-leaves (Err why) o held (Stands p es) good = refl
  asked-leaves (Ok command) o held NoHead good = none-leaves command o held
  asked-leaves (Ok command) o held BadHead good = bad-leaves command o held
  asked-leaves (Ok command) o held (Stands p es) good = tree-leaves command o held p es good

  -- ---- a history

  -- the reply leaves what the status says
  pub next-is : (step : Step) (d : IsDone X N step) (s : Standing) (t : TellsAs X N (told_before step) s) → (reply_to X N step.asked (world_of s step.held step.outside)).next ≡ after_step step s
  next-is step d s t =
      let r = reply_to X N step.asked (world_of s step.held step.outside) in
      leaves-is step.given r.ends r.next s (made_by step.asked step.outside step.held s) (replied X N step d s t).status_is (asked-leaves step.asked step.outside step.held s (good-of (told_before step) s t))
      ∙ left-is step.given step.asked step.outside step.held s

  pub step-stands : (step : Step) (d : IsDone X N step) (s : Standing) (t : TellsAs X N (told_before step) s) → TellsAs X N (told_after step) (after_step step s)
  step-stands step d s t = subst (TellsAs X N (told_after step)) (next-is step d s t) (next-stands X N step d s t)

  pub history-stands : (steps : List Step) (a b : Told) (s : Standing) → TellsAs X N a s → History X N steps a b → TellsAs X N b (standing_after tree_at steps s)
  history-stands [] a b s t h = h.stands s t
  history-stands (step ∷ steps) a b s t h =
      history-stands steps (told_after step) b (after_step step s) (step-stands step h.1 s (h.0.stands s t)) h.2

  -- what a history that makes it leaves
  pub makes-stands : (steps : List Step) (a b : Told) (s last : Standing) → Makes X N steps a b s last → TellsAs X N b last
  makes-stands steps a b s last m = subst (TellsAs X N b) m.made (history-stands steps a b s m.stood m.done)

  pub tells-head : (a : Told) (p : Profile) (es : Entries) → TellsAs X N a (Stands p es) → IsHeadNote (head_in a) p (entry X N p (Dir es)).cid
  tells-head None p es t = absurd t
  tells-head (Some c) p es t = t.head_is

  pub makes-head : (steps : List Step) (a b : Told) (s : Standing) (p : Profile) (es : Entries) → Makes X N steps a b s (Stands p es) → IsHeadNote (head_in b) p (entry X N p (Dir es)).cid
  makes-head steps a b s p es m = tells-head b p es (makes-stands steps a b s (Stands p es) m)
