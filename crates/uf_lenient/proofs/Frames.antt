-- Shards read one after the other.
use Rattle.std.proofs.Common.{◌≡◌, inl, inr, ℕ, zero, suc, pred, ◌-◌, ◌≤◌, List, [], ◌∷◌, drop, length, refl, sym, ap, ◌∙◌, arith, Result, Ok, Err}
use Rattle.std.specs.Prelude.{Option, Some, None}
use Rattle.uf_varint.specs.Fields.{◌>>=◌}
use Rattle.uf_cid.specs.Blocks.{Lookup}
use Rattle.uf_cid.specs.declared.cid.Cid.{Cid}
use Rattle.uf_dagpb.specs.declared.node.Link.{Link}
use Rattle.uf_tree.specs.declared.meta.Meta.{Meta}
use Rattle.uf_lenient.specs.declared.due.Frame.{Frame}
use Rattle.uf_lenient.specs.declared.fault.DagFault.{DagFault}
use Rattle.uf_lenient.specs.declared.fault.DagFault.TheVariants.{NotUnixfs}
use Rattle.uf_lenient.specs.declared.gathered.Gathered.{Gathered}
use Rattle.uf_lenient.specs.declared.gathered.Gathered.TheVariants.{Folder as IsFolder}
use Rattle.uf_lenient.specs.Answers.{IsFault, FollowsReading}
use Rattle.uf_lenient.specs.Pending.{frame_ways, frames_ways, own_shard}
use Rattle.uf_lenient.specs.Reading.{◌>>◌, Visits, Ways, behind_slot, gathered, gathers, meet, meet_all, shard_ways, slot_ways, unvisited, sub_ways, visit_of}
use Rattle.uf_lenient.specs.Steps.{gathered_folder, gathered_folder_behind}
use Rattle.uf_lenient.specs.Unixfs.{as_shard}
use Rattle.uf_lenient.specs.declared.unixfs.Unixfs.{Unixfs}
use Rattle.uf_lenient.proofs.Ends.{behind-behind, less-one}
use Rattle.uf_lenient.proofs.Saying.{fault-then, fault-behind, fault-is, fault-still}

-- ---- one link of a directory

pub meet-next : (by : Cid) (left : ℕ) (l : Link) (ls : List Link) (met more : Ways) → meet by left l.name l.cid met ≡ Ok more → meet_all by left (l ∷ ls) met ≡ meet_all by left ls more
meet-next by left l ls met more is = ap (λ r. r >>= λ m. meet_all by left ls m) is

pub meet-fault : (by : Cid) (left : ℕ) (l : Link) (ls : List Link) (met : Ways) (fault : DagFault) → IsFault (meet by left l.name l.cid met) fault → IsFault (meet_all by left (l ∷ ls) met) fault
meet-fault by left l ls met fault is = fault-then (meet by left l.name l.cid met) (λ m. meet_all by left ls m) fault is

module _ (deeper : Cid → Ways → ℕ → Visits Ways) (by : Cid) (left : ℕ) (l : Link) (ls : List Link) (met : Ways) (n : ℕ) where
  at_slot : (o : Option (List ℕ)) → behind_slot l.name ≡ o → shard_ways deeper by left (l ∷ ls) met n ≡ (slot_ways deeper by left l met n o >> λ more m. shard_ways deeper by left ls more m)
  at_slot o is = ap (λ x. slot_ways deeper by left l met n x >> λ more m. shard_ways deeper by left ls more m) is

  pub slot-none : behind_slot l.name ≡ None → shard_ways deeper by left (l ∷ ls) met n ≡ Err (NotUnixfs by 21)
  slot-none is = at_slot None is

  pub slot-deeper : behind_slot l.name ≡ Some [] → shard_ways deeper by left (l ∷ ls) met n ≡ (deeper l.cid met n >> λ more m. shard_ways deeper by left ls more m)
  slot-deeper is = at_slot (Some []) is

  entry : (name : List ℕ) → 1 ≤ length name → slot_ways deeper by left l met n (Some name) ≡ unvisited n (meet by left name l.cid met)
  entry [] some = absurd (omega arith)
  entry (x ∷ xs) some = refl

  pub slot-entry : (name : List ℕ) (more : Ways) → 1 ≤ length name → behind_slot l.name ≡ Some name → meet by left name l.cid met ≡ Ok more → shard_ways deeper by left (l ∷ ls) met n ≡ shard_ways deeper by left ls more n
  slot-entry name more some is met_is = at_slot (Some name) is ∙ ap (λ r. r >> λ more m. shard_ways deeper by left ls more m) (entry name some ∙ ap (unvisited n) met_is)

  pub slot-fault : (name : List ℕ) (fault : DagFault) → 1 ≤ length name → behind_slot l.name ≡ Some name → IsFault (meet by left name l.cid met) fault → IsFault (shard_ways deeper by left (l ∷ ls) met n) fault
  slot-fault name fault some is fails =
      fault-is (slot_ways deeper by left l met n (Some name) >> λ more m. shard_ways deeper by left ls more m) (shard_ways deeper by left (l ∷ ls) met n) fault (at_slot (Some name) is)
      (fault-behind (slot_ways deeper by left l met n (Some name)) (λ more m. shard_ways deeper by left ls more m) fault
      (fault-is (unvisited n (meet by left name l.cid met)) (slot_ways deeper by left l met n (Some name)) fault (entry name some) (fault-still n (meet by left name l.cid met) fault fails)))

module _ (held : Lookup) where
  -- a shard is visited, and then its links are read
  sub_step : (left : ℕ) (c : Cid) (met : Ways) (n : ℕ) → sub_ways held left c met n ≡ (own_shard held left c n >> λ links k. shard_ways (sub_ways held (pred left)) c (pred left) links met k)
  unfolding sub_ways
  sub_step zero c met n = refl
  sub_step (suc left) c met n = sym (behind-behind (visit_of held (suc left) c n) (λ u m. unvisited m (as_shard c u)) (λ links k. shard_ways (sub_ways held left) c left links met k))

  pub frame-done : (f : Frame) (fs : List Frame) (met more : Ways) (n : ℕ) → frame_ways held f met n ≡ Ok (more, n) → frames_ways held (f ∷ fs) met n ≡ frames_ways held fs more n
  frame-done f fs met more n is = ap (λ r. r >> λ m k. frames_ways held fs m k) is

  pub frame-fault : (f : Frame) (fs : List Frame) (met : Ways) (n : ℕ) (fault : DagFault) → IsFault (frame_ways held f met n) fault → IsFault (frames_ways held (f ∷ fs) met n) fault
  frame-fault f fs met n fault is = fault-behind (frame_ways held f met n) (λ m k. frames_ways held fs m k) fault is

  -- the links from a place on of a shard, behind those of a shard below
  below_first : (f : Frame) (fs : List Frame) (met more : Ways) (n at : ℕ) (c : Cid)
      → frame_ways held f met n ≡ (sub_ways held f.left c more n >> λ all m. shard_ways (sub_ways held f.left) f.by f.left (drop at f.links) all m)
      → frames_ways held (f ∷ fs) met n ≡ (own_shard held f.left c n >> λ links k. shard_ways (sub_ways held (pred f.left)) c (pred f.left) links more k >> λ all m. frames_ways held (record { by = f.by; left = f.left; links = f.links; at = at } ∷ fs) all m)
  below_first f fs met more n at c is =
      let rest = λ (all : Ways) (m : ℕ). shard_ways (sub_ways held f.left) f.by f.left (drop at f.links) all m in
      let sub = λ (links : List Link) (k : ℕ). shard_ways (sub_ways held (pred f.left)) c (pred f.left) links more k in
      let later = λ (all : Ways) (m : ℕ). frames_ways held fs all m in
      ap (λ r. r >> later) (is ∙ ap (λ r. r >> rest) (sub_step f.left c more n) ∙ behind-behind (own_shard held f.left c n) sub rest)
      ∙ behind-behind (own_shard held f.left c n) (λ links k. sub links k >> rest) later
      ∙ swap (own_shard held f.left c n) sub rest later
    where
      swap : (r : Visits (List Link)) (sub : List Link → ℕ → Visits Ways) (rest later : Ways → ℕ → Visits Ways) → (r >> λ links k. (sub links k >> rest) >> later) ≡ (r >> λ links k. sub links k >> λ all m. rest all m >> later)
      swap (Ok x) sub rest later = behind-behind (sub x.0 x.1) rest later
      swap (Err e) sub rest later = refl

  pub frame-below : (f : Frame) (fs now : List Frame) (met more : Ways) (n at : ℕ) (c : Cid) (links : List Link) (m : ℕ)
      → frame_ways held f met n ≡ (sub_ways held f.left c more n >> λ all k. shard_ways (sub_ways held f.left) f.by f.left (drop at f.links) all k)
      → own_shard held f.left c n ≡ Ok (links, m)
      → now ≡ record { by = c; left = f.left - 1; links = links; at = 0 } ∷ record { by = f.by; left = f.left; links = f.links; at = at } ∷ fs
      → frames_ways held (f ∷ fs) met n ≡ frames_ways held now more m
  frame-below f fs now met more n at c links m is own put =
      below_first f fs met more n at c is
      ∙ ap (λ r. r >> λ ls k. shard_ways (sub_ways held (pred f.left)) c (pred f.left) ls more k >> λ all j. frames_ways held (record { by = f.by; left = f.left; links = f.links; at = at } ∷ fs) all j) own
      ∙ ap (λ l. shard_ways (sub_ways held l) c l links more m >> λ all j. frames_ways held (record { by = f.by; left = f.left; links = f.links; at = at } ∷ fs) all j) (sym (less-one f.left))
      ∙ ap (λ fs. frames_ways held fs more m) (sym put)

  pub below-fault : (f : Frame) (fs : List Frame) (met more : Ways) (n at : ℕ) (c : Cid) (fault : DagFault)
      → frame_ways held f met n ≡ (sub_ways held f.left c more n >> λ all k. shard_ways (sub_ways held f.left) f.by f.left (drop at f.links) all k)
      → IsFault (own_shard held f.left c n) fault → IsFault (frames_ways held (f ∷ fs) met n) fault
  below-fault f fs met more n at c fault is fails =
      fault-is _ (frames_ways held (f ∷ fs) met n) fault (below_first f fs met more n at c is)
      (fault-behind (own_shard held f.left c n) (λ links k. shard_ways (sub_ways held (pred f.left)) c (pred f.left) links more k >> λ all m. frames_ways held (record { by = f.by; left = f.left; links = f.links; at = at } ∷ fs) all m) fault fails)

  -- ---- what is gathered of a visited block

  pub gathered-is : (left : ℕ) (c : Cid) (n : ℕ) (u : Unixfs) (m : ℕ) → visit_of held left c n ≡ Ok (u, m) → gathered held left c n ≡ gathers held (left - 1) c u m
  unfolding gathered
  gathered-is left c n u m is = ap (λ r. r >> λ x k. gathers held (pred left) c x k) is ∙ ap (λ l. gathers held l c u m) (sym (less-one left))

  pub gathered-says : (left : ℕ) (c : Cid) (n : ℕ) (x u : Unixfs) (m k : ℕ) (result : Result Gathered DagFault) → x ≡ u → visit_of held left c n ≡ Ok (x, m) → FollowsReading (λ g. (g, k)) (gathers held (left - 1) c u m) result → FollowsReading (λ g. (g, k)) (gathered held left c n) result
  gathered-says left c n x u m k (Ok g) same is says = gathered-is left c n u m (is ∙ ap (λ v. Ok (v, m)) same) ∙ says
  gathered-says left c n x u m k (Err fault) same is says = fault-is (gathers held (left - 1) c u m) (gathered held left c n) fault (gathered-is left c n u m (is ∙ ap (λ v. Ok (v, m)) same)) says

  one_frame : (f : Frame) (met : Ways) (n : ℕ) → frames_ways held (f ∷ []) met n ≡ frame_ways held f met n
  one_frame f met n = by (frame_ways held f met n)
    where
      by : (r : Visits Ways) → (r >> λ m k. Ok (m, k)) ≡ r
      by (Ok x) = refl
      by (Err e) = refl

  -- the ways of a shard tree are those of its first shard
  pub first-frame : (frames : List Frame) (meta : Meta) (f : Frame) (start : Ways) (n : ℕ) (met : Ways) (m : ℕ)
      → frames ≡ f ∷ [] → start ≡ [] → frames_ways held frames start n ≡ Ok (met, m)
      → gathered_folder_behind meta (frame_ways held f [] n) ≡ Ok (IsFolder meta met, m)
  first-frame frames meta f start n met m one none is =
      ap (gathered_folder_behind meta) (sym (one_frame f [] n) ∙ ap (λ fs. frames_ways held fs [] n) (sym one)
      ∙ ap (λ ways. frames_ways held frames ways n) (sym none) ∙ is)

  pub first-fault : (frames : List Frame) (meta : Meta) (f : Frame) (start : Ways) (n : ℕ) (fault : DagFault)
      → frames ≡ f ∷ [] → start ≡ [] → IsFault (frames_ways held frames start n) fault
      → IsFault (gathered_folder_behind meta (frame_ways held f [] n)) fault
  first-fault frames meta f start n fault one none fails =
      fault-behind (frame_ways held f [] n) (λ all k. Ok (IsFolder meta all, k)) fault
      (fault-is (frames_ways held frames start n) _ fault (sym (one_frame f [] n) ∙ ap (λ fs. frames_ways held fs [] n) (sym one)
      ∙ ap (λ ways. frames_ways held frames ways n) (sym none)) fails)

-- a directory in one block, behind a visit
pub folder_still : (meta : Meta) (n : ℕ) (r : Result Ways DagFault) (result : Result Gathered DagFault) → FollowsReading (λ g. g) (gathered_folder meta r) result → FollowsReading (λ g. (g, n)) (unvisited n r >> λ ways m. Ok (IsFolder meta ways, m)) result
folder_still meta n r (Ok g) says = by r ∙ ap (unvisited n) says
  where
    by : (r : Result Ways DagFault) → (unvisited n r >> λ ways m. Ok (IsFolder meta ways, m)) ≡ unvisited n (gathered_folder meta r)
    by (Ok ways) = refl
    by (Err e) = refl
folder_still meta n r (Err fault) (inl own) = inl own
folder_still meta n r (Err fault) (inr says) = inr (by r ∙ ap (unvisited n) says)
  where
    by : (r : Result Ways DagFault) → (unvisited n r >> λ ways m. Ok (IsFolder meta ways, m)) ≡ unvisited n (gathered_folder meta r)
    by (Ok ways) = refl
    by (Err e) = refl
