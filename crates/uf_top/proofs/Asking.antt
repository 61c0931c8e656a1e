-- How it is done what is asked of an opened tree.
use Rattle.std.proofs.Common.{◌≡◌, ℕ, ◌+◌, ◌≤◌, List, [], arith, true, false, refl, sym, ap, subst, ◌∙◌, None, Result, Ok, Err}
use Rattle.std.specs.Prelude.{IfErr, IfOk, OnErr, OnOk}
use Rattle.uf_edge.specs.Counts.{Stood}
use Rattle.uf_mfs.specs.Answers as tree
use Rattle.uf_mfs.specs.Answers.{ShownInTree}
use Rattle.uf_mfs.specs.Bad.{IsBadInTree}
use Rattle.uf_mfs.specs.Saving.{SavesForEdit}
use Rattle.uf_mfs.specs.Standing.{Commits, IsWanting, LeavesHead, NamesOver, Same, StandsAfter, StandsAt, StandsOver, TellsAs, head_in}
use Rattle.uf_mfs.specs.Steps.{IsFolderOver, tree_fault}
use Rattle.uf_mfs.specs.Touches.{CountsUp}
use Rattle.uf_mfs.specs.declared.fault.MfsFault.{MfsFault}
use Rattle.uf_mfs.specs.declared.mfs.Mfs.{Mfs}
use Rattle.uf_mfs.proofs.Counting.{counts-then}
use Rattle.uf_mfs.proofs.Starting.{leaves-head, saves-head}
use Rattle.uf_path.specs.declared.path.Path.{Path}
use Rattle.uf_plain.specs.Edits.{at}
use Rattle.uf_store.specs.Calls.{Calm}
use Rattle.uf_store.specs.Faults.{NoneIsBad, StaysCalm}
use Rattle.uf_store.specs.Lost.{IsLossOf}
use Rattle.uf_store.specs.Keeping.{KeepsGood}
use Rattle.uf_store.specs.Seen.{Seen}
use Rattle.uf_store.proofs.Calls.{shown-after, shown-rises, stood-back, stood-front}
use Rattle.uf_store.proofs.Causes.{StaysCalm-trans, calm-rises}
use Rattle.uf_store.proofs.Keeping.{KeepsGood-trans}
use Rattle.uf_tree.specs.Standing.{IsHeadNote, Stands}
use Rattle.uf_tree.specs.Tree.{Tree, Dir, Entries}
use Rattle.uf_tree.specs.TreePlan.{blocks}
use Rattle.uf_tree.specs.declared.profile.Profile.{Profile}
use Rattle.uf_command.specs.Commands.{is_idle}
use Rattle.uf_command.specs.Natures.{NoWrites, ask_writes}
use Rattle.uf_command.specs.Kinds.{fault_behind}
use Rattle.uf_top.specs.Reply.{looked, tree_reply}
use Rattle.uf_edits.specs.Edits.{edited_blocks, edited_by, IsBadAsked, EditsInMemory}
use Rattle.uf_command.specs.declared.types.Ask.{Ask}
use Rattle.uf_command.specs.declared.types.Ask.TheVariants.{Ls, Stat, Edit as Edits}
use Rattle.uf_command.specs.declared.types.Command.TheVariants.{At}
use Rattle.uf_command.specs.declared.types.Edit.{Edit}
use Rattle.uf_command.specs.declared.types.Refusal.{Refusal}
use Rattle.uf_top.specs.Answering.{Answers}
use Rattle.uf_top.specs.Around.{CountsCanRise}
use Rattle.uf_top.specs.Bounds.{ask_touches}
use Rattle.uf_top.specs.Causes.{IsAskText, IsMade, RefusesInTree}
use Rattle.uf_top.specs.Losing.{AnswersOver, ask_needs}
use Rattle.uf_top.specs.Naming.{StaysNamed}
use Rattle.uf_top.specs.Saving.{SavesNoOther, asked_blocks}
use Rattle.uf_top.specs.Shapes.{WritesInTree, is_ok}
use Rattle.uf_top.specs.Working.{WorksAt}
use Rattle.uf_top.proofs.Finding.{idle-head}
use Rattle.uf_top.proofs.InTree.{edit-answers, fault-answers, look-answers, move-answers, stays-nothing, stays-same, tree-wants, wants}
use Rattle.uf_top.proofs.Classed.{made-kinds, tree-kinds}
use Rattle.uf_top.proofs.Losing.{edit-over, fault-over, look-over, lost-wants, move-over, named-before, named-between, names-kept, names-same}
use Rattle.uf_top.proofs.Refusing.{IsRefusedAs}
use Rattle.uf_top.proofs.Saved.{no-other-among, no-other-commits, no-other-leaves, no-other-same, no-other-trans, throughout}
use Rattle.uf_top.proofs.Shows.{Shown-tree, bad-way, made-shown, made-touched, no-rows, tree-touched}
use Rattle.uf_top.proofs.Standings.{stands-kept, stands-same}

-- what is asked without a write has a text of which nothing more is said
looked-text : (ask : Ask) → ask_writes ask ≡ NoWrites → (r : Result (List ℕ) Refusal) → IfOk r (IsAskText ask)
looked-text (Ls long) looks r = no-rows r
looked-text Stat looks r = no-rows r
looked-text (Edits edit) looks r = absurd cc

module _ (X : List ℕ → List ℕ) (N : List ℕ → ℕ) (mfs : Mfs) (path : Path) where
  module _ (a b : Seen) (ask : Ask) (say : Profile → Tree → List ℕ) (looks : ask_writes ask ≡ NoWrites)
      (reply_is : (p : Profile) (es : Entries) → tree_reply X N ask path.names p es ≡ looked (Stands p es) path.names (say p) (at 0 path.names (Dir es))) where
    -- a lookup that gives nothing
    pub not-looked : (t0 t1 : ℕ) → ((p : Profile) (es : Entries) (rows : ℕ → ℕ) → StandsOver X N a.told mfs p es → Stood a.faults b.faults → t1 ≤ t0 + ask_touches X N rows ask path.names p es) → (B : Type 0) (r : Result B MfsFault) → CountsUp (tree_fault r) t0 t1
        → (P : Profile → Tree → B → Type 0) (w : Refusal) → IsRefusedAs RefusesInTree r (Err w)
        → ((p : Profile) (es : Entries) → StandsAt X N a.told mfs p es → Stood a.faults b.faults → tree.Answers {B = B} (P p) path.names (at 0 path.names (Dir es)) r)
        → ((p : Profile) (es : Entries) → StandsOver X N a.told mfs p es → Stood a.faults b.faults → tree.AnswersOr {B = B} (IsLossOf a.told (ask_needs X N ask path.names p es)) (P p) path.names (at 0 path.names (Dir es)) r)
        → ShownInTree X (IsBadInTree X N None mfs.root.cid) r a b → b.told ≡ a.told → WorksAt X N mfs ask path (Err w) a b t0 t1
    not-looked t0 t1 few B (Ok found) up P w is answer lost cause told = absurd cc
    not-looked t0 t1 few B (Err f) up P w is answer lost cause told = record {
      answers = λ p es at_tree stands calm. subst (λ r. Answers X N (Stands p es) r (Err w) b.told) (sym (reply_is p es))
          (fault-answers X N Tree B (P p) (Stands p es) path.names (at 0 path.names (Dir es)) (looked (Stands p es) path.names (say p)) f w b.told
          (λ why. refl) is (answer p es at_tree calm.faults) (stands-same X N a.told b.told (Stands p es) told stands));
      lost = λ p es over named calm. subst (λ r. AnswersOver X N a.told b.told p es (ask_needs X N ask path.names p es) r (Err w)) (sym (reply_is p es))
          (fault-over X N a.told b.told p es (ask_needs X N ask path.names p es) Tree B (P p) path.names (at 0 path.names (Dir es)) (looked (Stands p es) path.names (say p)) f w
          (λ why. refl) is (lost p es over calm.faults) (names-same X N a.told b.told p es told named));
      text = tt;
      kinds = tree-kinds f w is;
      cause = Shown-tree B X (IsBadInTree X N None mfs.root.cid) (IsBadAsked X N mfs.profile b.told mfs.root.cid) (bad-way X N mfs.profile b.told mfs.root.cid) f w a b is cause;
      touches = λ p es rows over named heights calm. few p es rows over calm.faults;
      touched = tree-touched B f w t0 t1 is up;
      head = ap head_in told;
      kept = λ p es over named can. no-other-same X (asked_blocks X N ask path.names p es) a.told b.told told;
      writes = subst (λ s. WritesInTree X mfs.profile s false a.told b.told) (sym looks) told;
      idle = λ p es at_tree stands faults same. told;
    }

    -- what it gives is said
    pub is-looked : (t0 t1 : ℕ) → ((p : Profile) (es : Entries) (rows : ℕ → ℕ) → StandsOver X N a.told mfs p es → Stood a.faults b.faults → t1 ≤ t0 + ask_touches X N rows ask path.names p es) → (B M : Type 0) (given : Result B MfsFault) → CountsUp (tree_fault given) t0 t1 → (P : Profile → Tree → B → Type 0) (found : B) → IsRefusedAs RefusesInTree given (Ok found) → (text : Result (List ℕ) M) (r : Result (List ℕ) Refusal)
        → ((p : Profile) (es : Entries) → StandsAt X N a.told mfs p es → Stood a.faults b.faults → tree.Answers {B = B} (P p) path.names (at 0 path.names (Dir es)) given)
        → ((p : Profile) (es : Entries) → StandsOver X N a.told mfs p es → Stood a.faults b.faults → tree.AnswersOr {B = B} (IsLossOf a.told (ask_needs X N ask path.names p es)) (P p) path.names (at 0 path.names (Dir es)) given)
        → ((p : Profile) (t : Tree) → mfs.profile ≡ p → P p t found → IfOk text (λ x. x ≡ say p t)) → IsMade text r → ShownInTree X (IsBadInTree X N None mfs.root.cid) given a b → b.told ≡ a.told → WorksAt X N mfs ask path r a b t0 t1
    is-looked t0 t1 few B M (Err f) up P found is text r answer lost says made calm told = absurd is
    is-looked t0 t1 few B M (Ok it) up P found is text r answer lost says made calm told = let same : it ≡ found = cc in record {
      answers = λ p es at_tree stands calm. subst (λ given. Answers X N (Stands p es) given r b.told) (sym (reply_is p es))
          (look-answers X N B M (P p) (Stands p es) path.names (say p) (at 0 path.names (Dir es)) it text r b.told
          (answer p es at_tree calm.faults) (λ t h. says p t at_tree.profile_is (subst (P p t) same h)) made (stands-same X N a.told b.told (Stands p es) told stands));
      lost = λ p es over named calm2. subst (λ given. AnswersOver X N a.told b.told p es (ask_needs X N ask path.names p es) given r) (sym (reply_is p es))
          (look-over X N a.told b.told p es (ask_needs X N ask path.names p es) B M (P p) path.names (say p) (at 0 path.names (Dir es)) it text r
          (lost p es over calm2.faults) (λ t h. says p t over.profile_is (subst (P p t) same h)) made (names-same X N a.told b.told p es told named));
      text = looked-text ask looks r;
      kinds = made-kinds M text r made;
      cause = made-shown M X (IsBadAsked X N mfs.profile b.told mfs.root.cid) text r a b made calm;
      touches = λ p es rows over named heights calm2. few p es rows over calm2.faults;
      touched = made-touched M text r t0 t1 made up;
      head = stays-same r a.told b.told (ap head_in told);
      kept = λ p es over named can. no-other-same X (asked_blocks X N ask path.names p es) a.told b.told told;
      writes = subst (λ s. WritesInTree X mfs.profile s (is_ok r) a.told b.told) (sym looks) told;
      idle = λ p es at_tree stands faults same. told;
    }

  -- ---- an edit, and then its commit

  module _ (edit : Edit) (new : Mfs) (a m : Seen) (t0 t1 : ℕ) where
    folder-over : (p : Profile) (es : Entries) → StandsOver X N a.told mfs p es → StaysNamed X N a.told m.told p es → Calm a m → IsFolderOver X N p a m [] mfs.root es
    folder-over p es over named calm = record { plan = over.root.plan; stays = record { first = over.root.agrees; last = named.last }; calm = calm }

    -- what the edit saves, where a failure or a clash would show
    edit-saves : (p : Profile) (es : Entries) → StandsOver X N a.told mfs p es → StaysNamed X N a.told m.told p es → CountsCanRise a → SavesForEdit X N a m mfs (edited_blocks X N edit path.names)
        → SavesNoOther X (edited_blocks X N edit path.names p es) a.told m.told
    edit-saves p es over named can saves =
        no-other-among X (edited_blocks X N edit path.names p es) a.told m.told (saves p es over (throughout a m (blocks X N p (Dir es)) over.root.agrees named.last can))

    -- the edit is refused
    pub edit-refused : (r : Result (Unit {0}) MfsFault) (w : Refusal) → IsRefusedAs RefusesInTree r (Err w) → EditsInMemory X N mfs new edit path r a m t0 t1 → WorksAt X N mfs (Edits edit) path (Err w) a m t0 t1
    edit-refused (Ok done) w is e = absurd cc
    edit-refused (Err f) w is e = record {
      answers = λ p es at_tree stands calm.
          edit-answers X N (λ fs done. StandsAt X N m.told new p fs) p es (edited_by X N edit path.names p es) f w m.told
          is (e.answers p es at_tree calm) (stands-kept X N a.told m.told (Stands p es) e.good (saves-head X a.told m.told e.saves) stands);
      lost = λ p es over named calm.
          edit-over X N a.told m.told p es (blocks X N p (Dir es)) (λ fs done. StandsAfter X N a.told m.told (blocks X N p (Dir es)) new p fs) (edited_by X N edit path.names p es)
          f w is (e.lost p es over.profile_is (folder-over p es over named calm)) (names-kept X N a.told m.told p es e.good (saves-head X a.told m.told e.saves) named);
      text = tt;
      kinds = tree-kinds f w is;
      cause = Shown-tree (Unit {0}) X (IsBadAsked X N mfs.profile m.told mfs.root.cid) (IsBadAsked X N mfs.profile m.told mfs.root.cid) (λ role bytes h. h) f w a m is e.cause;
      touches = λ p es rows over named heights calm. e.touches p rows over.profile_is heights es (folder-over p es over named calm);
      touched = tree-touched (Unit {0}) f w t0 t1 is e.touched;
      head = saves-head X a.told m.told e.saves;
      writes = record { between = m.told; saves = e.saves; last = Same refl };
      kept = λ p es over named can. edit-saves p es over named can e.no_other;
      idle = λ p es at_tree stands faults same. (e.idle p es at_tree faults same).0;
    }

    module _ (e : EditsInMemory X N mfs new edit path (Ok tt) a m t0 t1) (b : Seen) (kept : KeepsGood X m.told b.told)
        (idle : IsHeadNote (head_in m.told) new.profile new.root.cid → b.told ≡ m.told) (t2 : ℕ) (still : t2 ≡ t1) where
      calm : StaysCalm a m
      calm = e.cause

      both-good : KeepsGood X a.told b.told
      both-good = KeepsGood-trans X a.told m.told b.told e.good kept

      -- where no count rose over both calls, none rose in the edit
      first-calm : m.faults ≤ b.faults → m.clashes ≤ b.clashes → Calm a b → Calm a m
      first-calm faults clashes both = record {
        faults = stood-front a.faults m.faults b.faults calm.faults faults both.faults;
        clashes = stood-front a.clashes m.clashes b.clashes calm.clashes clashes both.clashes;
      }

      -- over both calls nothing is done where nothing is to be done
      both-idle : m.faults ≤ b.faults → (p : Profile) (es : Entries) → StandsOver X N a.told mfs p es → NamesOver X N a.told p es → Stood a.faults b.faults
          → is_idle [] es (At (Edits edit) path) ≡ true → b.told ≡ a.told
      both-idle later p es at_tree names faults same =
          let same_tree = e.idle p es at_tree (stood-front a.faults m.faults b.faults calm.faults later faults) same in
          idle (idle-head X N a.told m.told mfs new p es at_tree names same_tree.0 same_tree.1) ∙ same_tree.0

      -- the commit is refused
      pub commit-refused : (r : Result (Unit {0}) MfsFault) (w : Refusal) → IsRefusedAs RefusesInTree r (Err w) → CountsUp (tree_fault r) t1 t2 → (Stood m.faults b.faults → IfErr r IsWanting) → OnErr r (LeavesHead m.told b.told)
          → ShownInTree X NoneIsBad r m b → WorksAt X N mfs (Edits edit) path (Err w) a b t0 t2
      commit-refused (Ok done) w is later_up wanting leaves cause = absurd cc
      commit-refused (Err f) w is later_up wanting leaves cause =
          let shown = Shown-tree (Unit {0}) X NoneIsBad (IsBadAsked X N mfs.profile b.told mfs.root.cid) (λ role bytes bad. absurd bad) f w m b is cause in
          let rises = shown-rises X (IsBadAsked X N mfs.profile b.told mfs.root.cid) (fault_behind w) m b shown in
          let head = leaves-head m.told b.told leaves ∙ saves-head X a.told m.told e.saves in
          record {
            answers = λ p es at_tree stands calm2.
                wants X N (Stands p es) (tree_reply X N (Edits edit) path.names p es) w b.told
                (tree-wants f w is (wanting (stood-back a.faults m.faults b.faults calm.faults calm2.faults)))
                (stands-kept X N a.told b.told (Stands p es) both-good head stands);
            lost = λ p es over named calm2.
                lost-wants X N a.told b.told p es (blocks X N p (Dir es)) (tree_reply X N (Edits edit) path.names p es) w
                (tree-wants f w is (wanting (stood-back a.faults m.faults b.faults calm.faults calm2.faults)))
                (names-kept X N a.told b.told p es both-good head named);
            text = tt;
            kinds = tree-kinds f w is;
            cause = shown-after X (IsBadAsked X N mfs.profile b.told mfs.root.cid) (fault_behind w) a m b calm shown;
            touches = λ p es rows over named heights calm2.
                let x = e.touches p rows over.profile_is heights es (folder-over p es over (named-before X N a.told m.told b.told p es leaves named) (first-calm rises.faults rises.clashes calm2)) in
                omega (arith, x, still);
            touched = tree-touched (Unit {0}) f w t0 t2 is (counts-then e.touched later_up);
            head = head;
            writes = record { between = m.told; saves = e.saves; last = leaves };
            kept = λ p es over named can.
                no-other-trans X (edited_blocks X N edit path.names p es) a.told m.told b.told
                (edit-saves p es over (named-before X N a.told m.told b.told p es leaves named) can e.no_other)
                (no-other-leaves X (edited_blocks X N edit path.names p es) m.told b.told leaves);
            idle = both-idle rises.faults;
          }

      -- the tree is committed, and nothing is printed
      pub is-committed : (r : Result (Unit {0}) MfsFault) → IsRefusedAs RefusesInTree r (Ok tt) → (text : List ℕ) → text ≡ [] → OnOk r (Commits new.profile new.root.cid m.told b.told) → (last : Mfs)
          → OnOk r ((p : Profile) (es : Entries) → StandsAt X N m.told new p es → StandsAt X N b.told last p es × TellsAs X N b.told (Stands p es))
          → ShownInTree X NoneIsBad r m b → WorksAt X N mfs (Edits edit) path (Ok text) a b t0 t2
      is-committed (Err f) is text nothing commits last stands_now later = absurd is
      is-committed (Ok done) is text nothing commits last stands_now later = record {
        answers = λ p es at_tree stands calm2.
            let rises = calm-rises m b later in
            move-answers X N p es (edited_by X N edit path.names p es) new last m.told b.told text
            (e.answers p es at_tree (first-calm rises.faults rises.clashes calm2))
            nothing (λ next at_next. stands_now p next at_next);
        lost = λ p es over named calm2.
            let rises = calm-rises m b later in
            let first = first-calm rises.faults rises.clashes calm2 in
            move-over X N a.told b.told p es (blocks X N p (Dir es)) m.told (edited_by X N edit path.names p es) new text
            (e.lost p es over.profile_is (folder-over p es over (named-between X N a.told m.told b.told new.profile new.root.cid p es commits named) first)) nothing commits;
        text = nothing;
        kinds = tt;
        cause = StaysCalm-trans a m b calm later;
        touches = λ p es rows over named heights calm2.
            let rises = calm-rises m b later in
            let x = e.touches p rows over.profile_is heights es (folder-over p es over (named-between X N a.told m.told b.told new.profile new.root.cid p es commits named) (first-calm rises.faults rises.clashes calm2)) in
            omega (arith, x, still);
        touched = record { kept = (let x = e.touched.kept in omega (arith, x, still)); risen = λ blames. absurd blames };
        head = stays-nothing text a.told b.told nothing;
        writes = (new.root.cid, record { between = m.told; saves = e.saves; last = subst (λ p. Commits p new.root.cid m.told b.told) e.stays.2 commits });
        kept = λ p es over named can.
            no-other-trans X (edited_blocks X N edit path.names p es) a.told m.told b.told
            (edit-saves p es over (named-between X N a.told m.told b.told new.profile new.root.cid p es commits named) can e.no_other)
            (no-other-commits X (edited_blocks X N edit path.names p es) new.profile new.root.cid m.told b.told commits);
        idle = both-idle (calm-rises m b later).faults;
      }
