-- What `add --to-files` saves: blocks of what it adds, and of the tree that it gives.
use Rattle.std.proofs.Common.{◌≡◌, ℕ, List, [], ◌∷◌, ◌++◌, Bool, refl, sym, ap, subst, ◌∙◌, append-nil, inr, Option, Some, None, Result, Ok}
use Rattle.std.specs.List.{flat_map}
use Rattle.uf_cid.specs.Blocks.{Held}
use Rattle.uf_edge.specs.Host.{HostTold, HostTree}
use Rattle.uf_edge.specs.Streams as streams
use Rattle.uf_host.specs.Adding.{HasHeldPlan}
use Rattle.uf_host.specs.HostTree.{tree_on_host}
use Rattle.uf_host.specs.Paths.{trimmed}
use Rattle.uf_host.specs.Stopping.{levels_of}
use Rattle.uf_host.proofs.Stops.{reads-none}
use Rattle.uf_mfs.specs.Saving.{SavesForPut, next_blocks}
use Rattle.uf_mfs.specs.Standing.{IsMfs, NamesOver, StandsOver}
use Rattle.uf_path.specs.declared.path.Path.{Path}
use Rattle.uf_plain.specs.Moves.{put_at_spot, told_of}
use Rattle.uf_plain.specs.declared.spot.Spot.{Spot}
use Rattle.uf_command.specs.declared.status.Status.{Status}
use Rattle.uf_command.specs.declared.status.Status.TheVariants as status
use Rattle.uf_command.specs.declared.types.Refusal.{Refusal}
use Rattle.uf_store.specs.Calls.{OnlySaves}
use Rattle.uf_store.specs.Contents.{Told}
use Rattle.uf_store.specs.Faults.{NoneIsBad, StaysCalm}
use Rattle.uf_store.specs.Keeping.{KeepsGood}
use Rattle.uf_store.specs.Seen.{Seen}
use Rattle.uf_store.specs.Writing.{IsAny, SavesOnly, WritesOnly}
use Rattle.uf_store.proofs.Writing.{agrees-between, saves-write}
use Rattle.uf_tree.specs.FilePlan.{file_plan}
use Rattle.uf_tree.specs.Metas.{none}
use Rattle.uf_tree.specs.Tree.{Dir, Entries, File, Tree, fold}
use Rattle.uf_tree.specs.TreePlan.{Refusal as NoPlan, blocks, entry, planned, refusal as refusal_of}
use Rattle.uf_tree.specs.declared.profile.Profile.{Profile}
use Rattle.uf_top.specs.Around.{CountsCanRise}
use Rattle.uf_top.specs.Causes.{AddsAmong}
use Rattle.uf_top.specs.Hosted.{AddsTrees, AreReadAt, IsTreeAt}
use Rattle.uf_top.specs.Intake.{AddsFile}
use Rattle.uf_adopt.specs.Adopting.{IsBuilt}
use Rattle.uf_mfs.specs.declared.mfs.Mfs.{Mfs}
use Rattle.uf_plain.specs.Rules.{unless}
use Rattle.uf_store.specs.Among.{SavesAmong}
use Rattle.uf_tree.specs.declared.nodes.Entry.{Entry}
use Rattle.uf_top.specs.Grafts.{BuildsPlanned, SavesAtSpot}
use Rattle.uf_top.specs.Naming.{StaysNamed}
use Rattle.uf_top.proofs.Settled.{placed-saves}
use Rattle.uf_top.specs.Placing.{FindsSpot, IsFoundAt, IsGiven, PutsGiven, SaysHost, SaysInput}
use Rattle.uf_top.specs.Reply.{added_spot, by_rule, with_plan}
use Rattle.uf_top.specs.Saving.{KeepsHosted, KeepsPut, SavesNoOther, put_blocks}
use Rattle.uf_top.specs.declared.given.Given.{Given}
use Rattle.uf_top.specs.declared.given.OpenSpot.{OpenSpot}
use Rattle.uf_top.proofs.Placed.{file-of, host-ok}
use Rattle.uf_top.proofs.Putting.{ok-value}
use Rattle.uf_top.proofs.Saved.{can-rise-later, in-tree-wrote, no-other-after, no-other-among, no-other-before, no-other-leaves, no-other-same, no-other-trans, still-stood}

module _ (X : List ℕ → List ℕ) (N : List ℕ → ℕ) where
  file-blocks : (p : Profile) (bytes : List ℕ) → (file_plan X p none bytes).blocks ≡ blocks X N p (File none bytes)
  unfolding planned fold
  file-blocks p bytes = refl

  added-among : (l : List Held) (a b : Told) → AddsAmong X l a b → SavesNoOther X l a b
  added-among l a b h = no-other-trans X l a h.between b (no-other-among X l a h.between h.among) (no-other-leaves X l h.between b h.last)

  -- of one tree that is put at a spot
  abbrev one-put : Spot → Tree → Profile → Entries → List Held
  one-put spot t p es = flat_map (blocks X N p) (t ∷ []) ++ flat_map (λ t. next_blocks X N p (put_at_spot spot t es)) (t ∷ [])

  tree-first : (spot : Spot) (t : Tree) (p : Profile) (es : Entries) (a b : Told) → SavesNoOther X (blocks X N p t) a b → SavesNoOther X (one-put spot t p es) a b
  tree-first spot t p es a b h =
      no-other-before X (blocks X N p t ++ []) (next_blocks X N p (put_at_spot spot t es) ++ []) a b (no-other-before X (blocks X N p t) [] a b h)

  next-then : (spot : Spot) (t : Tree) (p : Profile) (es : Entries) (a b : Told) → SavesNoOther X (next_blocks X N p (put_at_spot spot t es)) a b → SavesNoOther X (one-put spot t p es) a b
  next-then spot t p es a b h =
      no-other-after X (blocks X N p t ++ []) (next_blocks X N p (put_at_spot spot t es) ++ []) a b (no-other-before X (next_blocks X N p (put_at_spot spot t es)) [] a b h)

  -- the spot isn't found, and nothing is saved
  module _ (dest : Path) (a b : Seen) (same : b.told ≡ a.told) where
    pub none-put : (left : streams.Told) → KeepsPut X N a b dest left
    none-put None = tt
    none-put (Some bytes) = λ p es named can. no-other-same X (put_blocks X N (added_spot dest None es) (File none bytes ∷ []) p es) a.told b.told same

    pub none-hosted : (recursive : Bool) (path : List ℕ) (host : HostTold) → KeepsHosted X N a b recursive path dest host
    none-hosted recursive path None = tt
    none-hosted recursive path (Some h) = λ p es named can.
        ([], inr (reads-none X N p (levels_of recursive) (trimmed path) h), no-other-same X (put_blocks X N (added_spot dest (Some path) es) [] p es) a.told b.told same)

  module _ (dest : Path) (path : Option (List ℕ)) (a m : Seen) (t0 t1 : ℕ) (found : OpenSpot) (f : FindsSpot X N dest path (Ok found) a m t0 t1) where
    -- the spot is found over the tree
    spot-there : (p : Profile) (es : Entries) → NamesOver X N a.told p es → CountsCanRise a → (Ok found.spot ≡ added_spot dest path es) × StandsOver X N a.told found.tree p es
    spot-there p es names can =
        let calm : StaysCalm a m = f.reads.cause in
        let v = ok-value (λ spot. IsFoundAt X N a.told p es spot found) (added_spot dest path es) (f.lost p es names (still-stood a.faults m.faults can.faults calm.faults)) in
        (ap (λ (s : Spot). Ok s) v.2.spot_is ∙ sym v.1, v.2.stands)

    -- and it still stands after more was saved, where the store agrees with its blocks later
    module _ (b : Seen) (saves : SavesOnly X m.told b.told) (d : Told) (later : WritesOnly X b.told d) where
      stands-still : (p : Profile) (es : Entries) → StaysNamed X N a.told d p es → CountsCanRise a → StandsOver X N b.told found.tree p es
      stands-still p es named can =
          let there = (spot-there p es named.names can).1 in
          record {
            profile_is = there.profile_is;
            root = record {
              plan = there.root.plan;
              agrees = agrees-between X IsAny a.told b.told d (blocks X N p (Dir es)) (saves-write X a.told b.told (subst (λ t. SavesOnly X t b.told) f.reads.told saves)) later
                  (record { first = there.root.agrees; last = named.last });
            };
          }

    -- ---- what was added so far

    abbrev q : Profile
    q = found.tree.profile

    -- blocks of the file of an input that has these bytes
    file-part : (b : Told) (p : Profile) (bytes : List ℕ) → q ≡ p → AddsFile X q m.told b (Some bytes) → SavesNoOther X (blocks X N p (File none bytes)) a.told b
    file-part b p bytes same h =
        subst (λ (u : Told). SavesNoOther X (blocks X N p (File none bytes)) u b) f.reads.told
        (subst (λ (l : List Held). SavesNoOther X l m.told b) (file-blocks p bytes)
        (subst (λ (p : Profile). SavesNoOther X (file_plan X p none bytes).blocks m.told b) same
        (subst (λ (bs : List ℕ). SavesNoOther X (file_plan X q none bs).blocks m.told b) (sym h.are_left) (added-among (file_plan X q none h.bytes).blocks m.told b h.adds))))

    -- blocks of what was read of the host
    trees-part : (b : Told) (p : Profile) (given : Status) (host : HostTold) (recursive : Bool) (path : List ℕ) → q ≡ p → (h : AddsTrees X N given q m.told b host recursive path) → SavesNoOther X (flat_map (blocks X N p) h.trees) a.told b
    trees-part b p given host recursive path same h =
        subst (λ (u : Told). SavesNoOther X (flat_map (blocks X N p) h.trees) u b) f.reads.told
        (subst (λ (p : Profile). SavesNoOther X (flat_map (blocks X N p) h.trees) m.told b) same (added-among (flat_map (blocks X N q) h.trees) m.told b h.adds))

    -- ---- and once it is put

    put-one : (Says : Result Tree Refusal → Type 0) (say : Tree → List ℕ) (b d : Seen) (t2 : ℕ) (given : Given) (gives : IsGiven X N q b.told Says say given) → OnlySaves X NoneIsBad None m b
        → (done : Result (List ℕ) Refusal) → PutsGiven X N found given done b d t1 t2 → (p : Profile) (es : Entries) → StaysNamed X N a.told d.told p es → CountsCanRise a
        → SavesNoOther X (blocks X N p gives.tree) a.told b.told → SavesNoOther X (one-put found.spot gives.tree p es) a.told d.told
    put-one Says say b d t2 given gives saves done put p es named can first =
        let same = (spot-there p es named.names can).1.profile_is in
        let still = stands-still b saves.saves d.told (in-tree-wrote X q done b.told d.told put.writes) p es named can in
        let can_b = can-rise-later m b saves.cause (can-rise-later a m f.reads.cause can) in
        let plan = subst (λ (p : Profile). HasHeldPlan X N p b.told gives.tree) same gives.plan in
        let entry_is = subst (λ (p : Profile). given.entry ≡ entry X N p gives.tree) same gives.entry_is in
        no-other-trans X (one-put found.spot gives.tree p es) a.told b.told d.told (tree-first found.spot gives.tree p es a.told b.told first)
        (next-then found.spot gives.tree p es b.told d.told (put.no_other gives.tree p es same plan entry_is still named.last can_b))

  -- ---- the input

  module _ (dest : Path) (a m : Seen) (t0 t1 : ℕ) (found : OpenSpot) (f : FindsSpot X N dest None (Ok found) a m t0 t1) where
    pub file-saved : (b : Seen) (left : streams.Told) → AddsFile X found.tree.profile m.told b.told left → KeepsPut X N a b dest left
    file-saved b None h = tt
    file-saved b (Some bytes) h = λ p es named can.
        let s = spot-there dest None a m t0 t1 found f p es named.names can in
        subst (λ w. SavesNoOther X (put_blocks X N w (File none bytes ∷ []) p es) a.told b.told) s.0
        (tree-first found.spot (File none bytes) p es a.told b.told (file-part dest None a m t0 t1 found f b.told p bytes s.1.profile_is h))

    pub file-put : (say : Tree → List ℕ) (b d : Seen) (t2 : ℕ) (left : streams.Told) (given : Given) → IsGiven X N found.tree.profile b.told (SaysInput found.tree.profile left) say given → OnlySaves X NoneIsBad None m b
        → AddsFile X found.tree.profile m.told b.told left → (done : Result (List ℕ) Refusal) → PutsGiven X N found given done b d t1 t2 → KeepsPut X N a d dest left
    file-put say b d t2 None given gives saves h done put = tt
    file-put say b d t2 (Some bytes) given gives saves h done put = λ p es named can.
        let s = spot-there dest None a m t0 t1 found f p es named.names can in
        let tree_is : gives.tree ≡ File none bytes = file-of found.tree.profile gives.said.bytes gives.tree gives.said.is ∙ ap (λ (bs : List ℕ). File none bs) (sym gives.said.are_left) in
        let first = subst (λ (t : Tree). SavesNoOther X (blocks X N p t) a.told b.told) (sym tree_is) (file-part dest None a m t0 t1 found f b.told p bytes s.1.profile_is h) in
        subst (λ w. SavesNoOther X (put_blocks X N w (File none bytes ∷ []) p es) a.told d.told) s.0
        (subst (λ (t : Tree). SavesNoOther X (one-put found.spot t p es) a.told d.told) tree_is
        (put-one dest None a m t0 t1 found f (SaysInput found.tree.profile (Some bytes)) say b d t2 given gives saves done put p es named can first))

  -- ---- the host

  module _ (dest : Path) (path : List ℕ) (a m : Seen) (t0 t1 : ℕ) (found : OpenSpot) (f : FindsSpot X N dest (Some path) (Ok found) a m t0 t1) (recursive : Bool) where
    pub trees-saved : (given : Status) (b : Seen) (host : HostTold) → AddsTrees X N given found.tree.profile m.told b.told host recursive path → KeepsHosted X N a b recursive path dest host
    trees-saved given b None h = tt
    trees-saved given b (Some tree) h = λ p es named can.
        let s = spot-there dest (Some path) a m t0 t1 found f p es named.names can in (
          h.trees,
          subst (λ (p : Profile). AreReadAt X N p recursive path h.trees tree) s.1.profile_is h.are,
          subst (λ w. SavesNoOther X (put_blocks X N w h.trees p es) a.told b.told) s.0
              (no-other-before X (flat_map (blocks X N p) h.trees) (flat_map (λ t. next_blocks X N p (put_at_spot found.spot t es)) h.trees) a.told b.told
              (trees-part dest (Some path) a m t0 t1 found f b.told p given (Some tree) recursive path s.1.profile_is h)),
        )

    -- what the host has is what is given
    one-tree : (host : HostTree) (trees : List Tree) (t : Tree) → IsTreeAt X N found.tree.profile recursive path trees host → SaysHost X N found.tree.profile (Some host) recursive path (Ok t) → trees ≡ t ∷ []
    one-tree host trees t (u, there, are) said =
        let same : Ok u ≡ Ok t = sym there ∙ host-ok path (tree_on_host X N found.tree.profile host recursive path) t said in
        are ∙ (let e : u ≡ t = cc in ap (λ (t : Tree). t ∷ []) e)

    pub trees-put : (say : Tree → List ℕ) (b d : Seen) (t2 : ℕ) (host : HostTold) (given : Given) → IsGiven X N found.tree.profile b.told (SaysHost X N found.tree.profile host recursive path) say given → OnlySaves X NoneIsBad None m b
        → AddsTrees X N status.Ok found.tree.profile m.told b.told host recursive path → (done : Result (List ℕ) Refusal) → PutsGiven X N found given done b d t1 t2 → KeepsHosted X N a d recursive path dest host
    trees-put say b d t2 None given gives saves h done put = tt
    trees-put say b d t2 (Some host) given gives saves h done put = λ p es named can.
        let s = spot-there dest (Some path) a m t0 t1 found f p es named.names can in
        let trees_are = one-tree host h.trees gives.tree (h.whole refl) gives.said in
        let first = subst (λ (l : List Tree). SavesNoOther X (flat_map (blocks X N p) l) a.told b.told) trees_are (trees-part dest (Some path) a m t0 t1 found f b.told p status.Ok (Some host) recursive path s.1.profile_is h) in (
          gives.tree ∷ [],
          subst (λ (p : Profile). AreReadAt X N p recursive path (gives.tree ∷ []) host) s.1.profile_is (subst (λ (l : List Tree). AreReadAt X N found.tree.profile recursive path l host) trees_are h.are),
          subst (λ w. SavesNoOther X (put_blocks X N w (gives.tree ∷ []) p es) a.told d.told) s.0
              (put-one dest (Some path) a m t0 t1 found f (SaysHost X N found.tree.profile (Some host) recursive path) say b d t2 given gives saves done put p es named can
              (subst (λ (l : List Held). SavesNoOther X l a.told b.told) (append-nil (blocks X N p gives.tree)) first)),
        )

-- ---- what is at a path in a DAG

-- a tree that has a plan is that tree
planned-is : (t u : Tree) (why : Option NoPlan) → by_rule (told_of [] (unless t why)) ≡ Ok u → u ≡ t
planned-is t u None is = (let same : t ≡ u = cc in sym same)
planned-is t u (Some why) is = absurd cc

module _ (X : List ℕ → List ℕ) (N : List ℕ → ℕ) where
  module _ (tree : Mfs) (spot : Spot) (t : Tree) where
    first-saved : (a : Told) (b : Told) → SavesAmong X (blocks X N tree.profile t) a b → (p : Profile) (es : Entries) → tree.profile ≡ p → SavesNoOther X (one-put X N spot t p es) a b
    first-saved a b saves p es same =
        tree-first X N spot t p es a b (subst (λ (p : Profile). SavesNoOther X (blocks X N p t) a b) same (no-other-among X (blocks X N tree.profile t) a b saves))

    -- it isn't built
    pub unbuilt-saved : (a b : Seen) → SavesAmong X (blocks X N tree.profile t) a.told b.told → (p : Profile) (es : Entries) → StandsOver X N a.told tree p es → SavesNoOther X (put_blocks X N (Ok spot) (t ∷ []) p es) a.told b.told
    unbuilt-saved a b saves p es over = first-saved a.told b.told saves p es over.profile_is

  -- it is built, and put at its spot
  pub built-saved : (tree new : Mfs) (spot : Spot) (t : Tree) (e : Entry) (a b d : Seen) → IsMfs tree → OnlySaves X NoneIsBad None a b → SavesAmong X (blocks X N tree.profile t) a.told b.told → BuildsPlanned X N tree.profile b.told t (Ok e)
      → KeepsGood X b.told d.told → SavesOnly X b.told d.told → SavesForPut X N b d tree e spot → SavesAtSpot X N tree spot t a d
  built-saved tree new spot t e a b d mfs first among builds good saves puts = λ p es over last can.
      let q = tree.profile in
      let v = ok-value (λ planned. IsBuilt X N q b.told planned e) (by_rule (with_plan X N q t)) builds in
      let tree_is = planned-is t v.0 (refusal_of X N q t) v.1 in
      let built = subst (λ (u : Tree). IsBuilt X N q b.told u e) tree_is v.2 in
      let still : StandsOver X N b.told tree p es = record {
        profile_is = over.profile_is;
        root = record {
          plan = over.root.plan;
          agrees = agrees-between X IsAny a.told b.told d.told (blocks X N p (Dir es)) (saves-write X a.told b.told first.saves) (saves-write X b.told d.told saves) (record { first = over.root.agrees; last = last });
        };
      } in
      let plan = subst (λ (p : Profile). HasHeldPlan X N p b.told t) over.profile_is (record { tree = built.tree; whole = built.planned; held = built.held }) in
      let is = subst (λ (p : Profile). e ≡ entry X N p t) over.profile_is built.is in
      no-other-trans X (one-put X N spot t p es) a.told b.told d.told (first-saved tree spot t a.told b.told among p es over.profile_is)
      (next-then X N spot t p es b.told d.told
      (placed-saves X N tree new spot (record { entry = e; text = [] }) b d mfs 0 0 good puts t p es over.profile_is plan is still last (can-rise-later a b first.cause can)))
