-- What is shown of a path.
use Rattle.std.proofs.Common.{◌≡◌, ℕ, ◌*◌, ◌-◌, ◌^◌, ◌≤◌, List, [], length, ap, arith, sym, ◌∙◌, subst, Bool, true, false, Result, Ok, Err}
use Rattle.std.proofs.lemmas.List.{take_all}
use Rattle.uf_cid.specs.Blocks.{Held}
use Rattle.uf_cid.specs.declared.cid.Cid.{Cid}
use Rattle.uf_edge.specs.Streams.{Told as SinkTold, after}
use Rattle.uf_fileread.specs.Bad.{IsBadInFile}
use Rattle.uf_fileread.specs.declared.fault.RangeFault.{RangeFault}
use Rattle.uf_fileread.specs.declared.fault.RangeFault.TheVariants as range
use Rattle.uf_fileread.specs.Ranges.{IsFile, ShowsRange, WritesOver, blocks_read, range_of}
use Rattle.uf_store.specs.Calls.{OnlyReads}
use Rattle.uf_store.specs.Contents.{Told}
use Rattle.uf_store.specs.Lost.{IsLossOf}
use Rattle.uf_store.specs.Seen.{Seen}
use Rattle.uf_store.specs.declared.store.Role.{Role}
use Rattle.uf_store.specs.declared.store.StoreFault.{StoreFault}
use Rattle.uf_store.specs.declared.store.StoreFault.TheVariants as store
use Rattle.uf_store.proofs.Causes.{Shows-by}
use Rattle.uf_tree.specs.declared.meta.Meta.{Meta}
use Rattle.uf_tree.specs.declared.nodes.Entry.{Entry}
use Rattle.uf_tree.specs.declared.profile.Profile.{Profile}
use Rattle.uf_tree.specs.FileSub.{IsFileHeight}
use Rattle.uf_tree.specs.Tree.{Tree, File}
use Rattle.uf_tree.proofs.Told.{kept}
use Rattle.uf_plain.specs.declared.rule.Refused.{Refused}
use Rattle.uf_plain.specs.Edits.{at}
use Rattle.uf_plain.specs.Needs.{needs_at, way}
use Rattle.uf_light.specs.declared.fault.LightFault.{LightFault}
use Rattle.uf_light.specs.declared.fault.LightFault.TheVariants as fault
use Rattle.uf_light.specs.Answers.{Accepts, CountsSink, file_needs, is_light_sink, light_fault, of_range}
use Rattle.uf_light.specs.FileCids.{IsBadInSome}
use Rattle.uf_light.specs.Light.{HasHeight, absent_text, light_says}
use Rattle.uf_light.specs.Sending.{IsNoCar, SendsAbsent, SendsFile}
use Rattle.uf_light.proofs.Wanting.{IsFileWanted, IsNoneWanted}
use Rattle.uf_light.proofs.Holding.{first-loss, loss-back, loss-front}

-- ---- a file that is read whole

pub whole-range : (X : List ℕ → List ℕ) (p : Profile) (m : Meta) (bytes : List ℕ) (c : Cid) (height : ℕ) → IsFile X p m bytes c height → range_of 0 (2 ^ 64 - 1) bytes ≡ bytes
whole-range X p m bytes c height is = take_all (2 ^ 64 - 1) bytes (small p.chunk (length bytes) is.few (kept p is.profile).short)
  where
    small : (c n : ℕ) → n ≤ c * 4194304 → c ≤ 1048576 → n ≤ 2 ^ 64 - 1
    small c n a b = omega arith

module _ (told : Told) (l : List Held) (bytes part : List ℕ) (out out_now : SinkTold) where
  pub sent-whole : (n : ℕ) → part ≡ bytes → WritesOver told l part out out_now (Ok n) → SendsFile told l bytes (Ok n) out out_now
  sent-whole n same h = record { written = h.2 ∙ ap (after out) same; count = h.0 ∙ ap length same }

  pub sent-lost : (f : RangeFault) (other other_now : SinkTold) → WritesOver told l part other other_now (Err f) → SendsFile told l bytes (Err (of_range f)) out out_now
  sent-lost range.Sink other other_now h = tt
  sent-lost (range.Store f) other other_now h = first-loss told l f h

pub whole-sent : (X : List ℕ → List ℕ) (p : Profile) (m : Meta) (bytes : List ℕ) (c : Cid) (height n : ℕ) (told : Told) (l : List Held) (out out_now : SinkTold) → IsFile X p m bytes c height
    → WritesOver told l (range_of 0 (2 ^ 64 - 1) bytes) out out_now (Ok n) → SendsFile told l bytes (Ok n) out out_now
whole-sent X p m bytes c height n told l out out_now is h = sent-whole told l bytes (range_of 0 (2 ^ 64 - 1) bytes) out out_now n (whole-range X p m bytes c height is) h

-- the same of a store that tells the same
module _ (X : List ℕ → List ℕ) (p : Profile) (m : Meta) (bytes : List ℕ) (c : Cid) (height : ℕ) (told mid : Told) (same : mid ≡ told) (l : List Held) (out out_now : SinkTold) where
  pub whole-after : (n : ℕ) → IsFile X p m bytes c height → WritesOver mid l (range_of 0 (2 ^ 64 - 1) bytes) out out_now (Ok n) → SendsFile told l bytes (Ok n) out out_now
  whole-after n is h = whole-sent X p m bytes c height n told l out out_now is (subst (λ (t : Told). WritesOver t l (range_of 0 (2 ^ 64 - 1) bytes) out out_now (Ok n)) same h)

  pub lost-after : (f : RangeFault) → WritesOver mid l (range_of 0 (2 ^ 64 - 1) bytes) out out_now (Err f) → SendsFile told l bytes (Err (of_range f)) out out_now
  lost-after f h = sent-lost told l bytes (range_of 0 (2 ^ 64 - 1) bytes) out out_now f out out_now (subst (λ (t : Told). WritesOver t l (range_of 0 (2 ^ 64 - 1) bytes) out out_now (Err f)) same h)

-- what a reading of a range shows
pub range-reads : (hash : List ℕ → List ℕ) (told : Told) (c : Cid) (f : RangeFault) (a b : Seen) (n m : ℕ) → b.told ≡ a.told → ShowsRange hash (IsBadInFile told c) (Err f) a b n m
    → OnlyReads hash (IsBadInSome told) (light_fault {A = ℕ} (Err (of_range f))) a b
range-reads hash told c range.Sink a b n m same h = record { cause = h.0; told = same }
range-reads hash told c (range.Store f) a b n m same h =
    record { cause = Shows-by hash (IsBadInFile told c) (IsBadInSome told) f a b (λ role bytes bad. (c, bad)) h.0; told = same }

pub range-counts : (hash : List ℕ → List ℕ) (Bad : Role → List ℕ → Type 0) (f : RangeFault) (a b : Seen) (n m : ℕ) → ShowsRange hash Bad (Err f) a b n m → CountsSink (is_light_sink {A = ℕ} (Err (of_range f))) n m
range-counts hash Bad range.Sink a b n m h = record { rose = λ yes. h.1; still = λ no. absurd (let e : true ≡ false = no in cc) }
range-counts hash Bad (range.Store f) a b n m h = record { rose = λ no. absurd (let e : false ≡ true = no in cc); still = λ yes. h.1 }

pub range-form : (f : RangeFault) → IsNoCar (of_range f)
range-form range.Sink = tt
range-form (range.Store f) = tt

-- ---- what is at a path

module _ (X : List ℕ → List ℕ) (N : List ℕ → ℕ) (told : Told) (p : Profile) (names : List (List ℕ)) (t : Tree) (absent : Bool) (height : ℕ) (out out_now : SinkTold) where
  abbrev w : Result Tree Refused
  w = at 0 names t

  abbrev needs : List Held
  needs = needs_at X N p (file_needs X p height) names t

  -- a block of the way is lost
  pub show-lost : (f : StoreFault) → IsLossOf told (way X N p names t) f → IsLossOf told needs f
  show-lost f h = loss-front told (way X N p names t) _ f h

  -- the height of the file that is there
  pub height-of : (m : Meta) (bytes : List ℕ) → w ≡ Ok (File m bytes) → HasHeight p height w → IsFileHeight p.chunk p.width m (length bytes) height
  height-of m bytes is tall = subst (HasHeight p height) is tall

  -- a file was sent
  pub show-file : (e : Entry) (r : Result ℕ LightFault) (f : IsFileWanted X N told p names absent w e) → SendsFile told (blocks_read X p.chunk p.width f.meta height 0 (2 ^ 64 - 1) f.bytes) f.bytes r out out_now
      → Accepts told needs (light_says absent names w) r out out_now
  show-file e (Ok n) f h = record { bytes = f.bytes; is = f.says; count = h.count; written = h.written }
  show-file e (Err fault.Sink) f h = tt
  show-file e (Err (fault.Store g)) f h =
      loss-back told (way X N p names t) _ g
      (subst (λ (w : Result Tree Refused). IsLossOf told (elim w as (λ w. List Held) [ Ok found ↦ file_needs X p height found | Err why ↦ [] ]) g) (sym f.is) h)
  show-file e (Err (fault.NotFound k)) f h = absurd h
  show-file e (Err (fault.NotADirectory k)) f h = absurd h
  show-file e (Err fault.IsADirectory) f h = absurd h
  show-file e (Err fault.Exists) f h = absurd h
  show-file e (Err (fault.OtherRoot c)) f h = absurd h
  show-file e (Err (fault.Car g)) f h = absurd h

  -- or that nothing is there
  pub show-none : (r : Result ℕ LightFault) → IsNoneWanted X N told p names absent w → SendsAbsent (absent_text names) r out out_now → Accepts told needs (light_says absent names w) r out out_now
  show-none (Ok n) f h = record { bytes = absent_text names; is = f.says; count = h.count; written = h.written }
  show-none (Err fault.Sink) f h = tt
  show-none (Err (fault.Store g)) f h = subst (IsLossOf told needs) (let is : fault.Store g ≡ fault.Store store.Memory = h.0 in let same : store.Memory ≡ g = cc in same) tt
  show-none (Err (fault.NotFound k)) f h = absurd (let no : fault.NotFound k ≡ fault.Store store.Memory = h.0 in cc)
  show-none (Err (fault.NotADirectory k)) f h = absurd (let no : fault.NotADirectory k ≡ fault.Store store.Memory = h.0 in cc)
  show-none (Err fault.IsADirectory) f h = absurd (let no : fault.IsADirectory ≡ fault.Store store.Memory = h.0 in cc)
  show-none (Err fault.Exists) f h = absurd (let no : fault.Exists ≡ fault.Store store.Memory = h.0 in cc)
  show-none (Err (fault.OtherRoot c)) f h = absurd (let no : fault.OtherRoot c ≡ fault.Store store.Memory = h.0 in cc)
  show-none (Err (fault.Car g)) f h = absurd (let no : fault.Car g ≡ fault.Store store.Memory = h.0 in cc)
