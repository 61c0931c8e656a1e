-- What a source gives and a builder is fed, one reading after another.
use Rattle.std.proofs.Common.{◌≡◌, ℕ, ◌<◌, Bool, true, false, List, [], ◌++◌, length, refl, sym, ap, subst, ◌∙◌, arith, append-nil, append_assoc}
use Rattle.std.specs.Prelude.{Some, None}
use Rattle.std.specs.declared.result.Result.{Result}
use Rattle.std.specs.declared.result.Result.TheVariants.{Ok, Err}
use Rattle.uf_tree.specs.Profiles.{most_bytes}
use Rattle.uf_edge.specs.Streams.{Told, before}
use Rattle.uf_edge.proofs.Appending.{before-before}
use Rattle.uf_build.specs.Building.{Building, HasFed, HoldsFed, SavesForFront}
use Rattle.uf_build.proofs.Among.{front-more, front-same, front-trans, front-whole}
use Rattle.uf_store.specs.Clashes.{IsSaving}
use Rattle.uf_store.specs.Contents as store
use Rattle.uf_store.specs.declared.store.StoreFault.{StoreFault}
use Rattle.uf_store.specs.declared.store.StoreFault.TheVariants as stops
use Rattle.uf_store.specs.Keeping.{Holds}
use Rattle.uf_store.specs.Among.{SavesAmong}
use Rattle.uf_store.proofs.Among.{SavesAmong-trans}
use Rattle.uf_tree.specs.FilePlan.{file_plan}
use Rattle.uf_tree.specs.Metas.{none}
use Rattle.uf_tree.specs.declared.nodes.Entry.{Entry}
use Rattle.uf_tree.specs.declared.profile.Profile.{Profile}
use Rattle.uf_build.specs.Faults.{IsStoppedBy}
use Rattle.uf_build.specs.FeedingAll.{FeedsFrom, FeedsNext, FeedsPart, FeedsLast, FeedsRest, IsClosed, IsFedBy, PassesLimit, SavesBehind, StopsFeeding}
use Rattle.uf_build.specs.Intake.{IsFileOf, SavesPart, SavesWhole}
use Rattle.uf_build.specs.declared.intake_fault.IntakeFault.{IntakeFault}
use Rattle.uf_build.specs.declared.intake_fault.IntakeFault.TheVariants as faults

before-nil : (t : Told) → before [] t ≡ t
before-nil None = refl
before-nil (Some rest) = refl

-- another reason for which too many bytes were given
pub stopped-more : (A B : Type 0) (fault : IntakeFault) → (A → B) → IsStoppedBy A fault → IsStoppedBy B fault
stopped-more A B faults.Read more h = h
stopped-more A B faults.FileTooLong more h = more h
stopped-more A B (faults.Store fault) more h = h

module _ (hash : List ℕ → List ℕ) (p : Profile) where
  -- nothing was read yet
  pub FeedsPart-refl : (t : store.Told) (b : Building) (l : Told) → b.is_spent ≡ false → FeedsPart hash p t t b b l l
  FeedsPart-refl t b l ready = record {
    bytes = [];
    feeds = record {
      taken = sym (before-nil l);
      fed = λ front fed. subst (λ (xs : List ℕ). IsFedBy hash p t xs b) (sym (append-nil front)) fed;
      ready = ready;
      no_other = λ front fed. front-same hash p (front ++ []) t;
    };
  }

  -- what is saved of some bytes, and of those behind them
  saves_after : (xs ys : List ℕ) (t u v : store.Told) (a b : Building) (front : List ℕ) → IsFedBy hash p t front a
      → ((front : List ℕ) → IsFedBy hash p t front a → IsFedBy hash p u (front ++ xs) b)
      → ((front : List ℕ) → IsFedBy hash p t front a → SavesForFront hash p (front ++ xs) t u)
      → ((front : List ℕ) → IsFedBy hash p u front b → SavesForFront hash p (front ++ ys) u v)
      → SavesForFront hash p (front ++ (xs ++ ys)) t v
  saves_after xs ys t u v a b front fed feeds first then =
      subst (λ (zs : List ℕ). SavesForFront hash p zs t v) (append_assoc front xs ys)
      (front-trans hash p ((front ++ xs) ++ ys) t u v (front-more hash p (front ++ xs) ys t u (first front fed)) (then (front ++ xs) (feeds front fed)))

  -- what a builder by this profile saves
  pub fed-saves : (bytes : List ℕ) (t u : store.Told) (b : Building) → ((front : List ℕ) → HasFed hash front b → SavesForFront hash b.profile (front ++ bytes) t u)
      → (front : List ℕ) → IsFedBy hash p t front b → SavesForFront hash p (front ++ bytes) t u
  fed-saves bytes t u b saves front fed = subst (λ (q : Profile). SavesForFront hash q (front ++ bytes) t u) fed.profile (saves front fed.fed)

  -- nothing is saved where nothing was read
  pub saves-nothing : (t : store.Told) (b : Building) (l : Told) → SavesBehind hash p t t b l
  saves-nothing t b l = record { bytes = []; rest = l; taken = sym (before-nil l); no_other = λ front fed. front-same hash p (front ++ []) t }

  -- nor where there was no memory
  pub no-memory : (fault : StoreFault) (t : store.Told) (b : Building) (l m : Told) → fault ≡ stops.Memory → StopsFeeding hash p (faults.Store fault) t t b l m
  no-memory fault t b l m is = record { cause = subst IsSaving (sym is) tt; saves = saves-nothing t b l }

  from_after : (xs ys : List ℕ) (t u v : store.Told) (a b c : Building) (l m n : Told) → FeedsFrom hash p xs t u a b l m → FeedsFrom hash p ys u v b c m n → FeedsFrom hash p (xs ++ ys) t v a c l n
  from_after xs ys t u v a b c l m n f g = record {
    taken = f.taken ∙ ap (before xs) g.taken ∙ before-before n xs ys;
    fed = λ front fed. subst (λ (zs : List ℕ). IsFedBy hash p v zs c) (append_assoc front xs ys) (g.fed (front ++ xs) (f.fed front fed));
    ready = g.ready;
    no_other = λ front fed. saves_after xs ys t u v a b front fed f.fed f.no_other g.no_other;
  }

  pub FeedsPart-after : (t u v : store.Told) (a b c : Building) (l m n : Told) → FeedsPart hash p t u a b l m → FeedsPart hash p u v b c m n → FeedsPart hash p t v a c l n
  FeedsPart-after t u v a b c l m n f g = record { bytes = f.bytes ++ g.bytes; feeds = from_after f.bytes g.bytes t u v a b c l m n f.feeds g.feeds }

  pub FeedsLast-after : (t u v : store.Told) (a b c : Building) (l m n : Told) → FeedsPart hash p t u a b l m → FeedsLast hash p u v b c m n → FeedsLast hash p t v a c l n
  FeedsLast-after t u v a b c l m n f g = record {
    bytes = f.bytes ++ g.bytes;
    feeds = from_after f.bytes g.bytes t u v a b c l m n f.feeds g.feeds;
    nothing_left = g.nothing_left;
  }

  limit_after : (t u : store.Told) (a b : Building) (l m n : Told) → FeedsPart hash p t u a b l m → PassesLimit hash p u b m n → PassesLimit hash p t a l n
  limit_after t u a b l m n f g = record {
    bytes = f.bytes ++ g.bytes;
    taken = f.feeds.taken ∙ ap (before f.bytes) g.taken ∙ before-before n f.bytes g.bytes;
    many = λ front fed.
        subst (λ (zs : List ℕ). most_bytes p < length zs) (append_assoc front f.bytes g.bytes) (g.many (front ++ f.bytes) (f.feeds.fed front fed));
  }

  -- a stop behind what was fed before is one from the start
  pub stopped-after : (fault : IntakeFault) (t u v : store.Told) (a b : Building) (l m n : Told) → FeedsPart hash p t u a b l m
      → StopsFeeding hash p fault u v b m n → StopsFeeding hash p fault t v a l n
  stopped-after fault t u v a b l m n f g = record {
    cause = stopped-more _ _ fault (limit_after t u a b l m n f) g.cause;
    saves = record {
      bytes = f.bytes ++ g.saves.bytes;
      rest = g.saves.rest;
      taken = f.feeds.taken ∙ ap (before f.bytes) g.saves.taken ∙ before-before g.saves.rest f.bytes g.saves.bytes;
      no_other = λ front fed. saves_after f.bytes g.saves.bytes t u v a b front fed f.feeds.fed f.feeds.no_other g.saves.no_other;
    };
  }

  -- the readings go on behind what was fed before
  pub FeedsRest-after : (answer : Result (Unit {0}) IntakeFault) (t u v : store.Told) (a b c : Building) (l m n : Told) → FeedsPart hash p t u a b l m → FeedsRest hash p answer u v b c m n → FeedsRest hash p answer t v a c l n
  FeedsRest-after (Ok done) t u v a b c l m n f g = FeedsLast-after t u v a b c l m n f g
  FeedsRest-after (Err fault) t u v a b c l m n f g = stopped-after fault t u v a b l m n f g

  pub part_of : (more : Bool) (t u : store.Told) (b c : Building) (m n : Told) → more ≡ true → FeedsNext hash p (Ok more) t u b c m n → FeedsPart hash p t u b c m n
  part_of true t u b c m n e g = g
  part_of false t u b c m n e g = absurd cc

  pub last_of : (more : Bool) (t u : store.Told) (b c : Building) (m n : Told) → more ≡ false → FeedsNext hash p (Ok more) t u b c m n → FeedsLast hash p t u b c m n
  last_of false t u b c m n e g = g
  last_of true t u b c m n e g = absurd cc

  -- ---- the whole file

  pub new-fed : (t : store.Told) (b : Building) → HasFed hash [] b → HoldsFed hash [] t b → b.fed ≡ 0 → b.profile ≡ p → IsFedBy hash p t [] b
  new-fed t b fed held count profile = record { fed = fed; held = held; count = count; few = omega arith; profile = profile; are_bytes = tt }

  -- the file of all that was fed
  pub file-of : (entry : Entry) (t u v : store.Told) (a b : Building) (l m : Told) → FeedsLast hash p t u a b l m → IsFedBy hash p t [] a → IsClosed hash entry u v b → IsFileOf hash p v (Ok entry) l m
  file-of entry t u v a b l m fed new closed =
      let whole = fed.feeds.fed [] new in
      let entry_is = closed.entry_is fed.bytes whole.fed in
      let held = closed.held fed.bytes whole.held in
      record {
        bytes = fed.bytes;
        taken = fed.feeds.taken;
        nothing_left = fed.nothing_left;
        few = whole.few;
        is = subst (λ (p : Profile). entry ≡ (file_plan hash p none fed.bytes).entry) whole.profile entry_is;
        held = subst (λ (p : Profile). Holds v (file_plan hash p none fed.bytes).blocks) whole.profile held;
        are_bytes = whole.are_bytes;
      }

  -- no file of a source that has too much
  pub no-file : (fault : IntakeFault) (t v : store.Told) (a : Building) (l m : Told) → IsFedBy hash p t [] a → StopsFeeding hash p fault t v a l m → IsFileOf hash p v (Err fault) l m
  no-file fault t v a l m new h = stopped-more _ _ fault (λ (x : PassesLimit hash p t a l m). record { bytes = x.bytes; taken = x.taken; many = x.many [] new }) h.cause

  -- ---- what is saved of it

  -- what the feeding and the end of a builder save are blocks of one plan
  whole-saves : (t u v : store.Told) (a b : Building) (l m : Told) (fed : FeedsLast hash p t u a b l m) → IsFedBy hash p t [] a
      → ((bytes : List ℕ) → HasFed hash bytes b → SavesAmong hash (file_plan hash b.profile none bytes).blocks u v) → SavesAmong hash (file_plan hash p none fed.bytes).blocks t v
  whole-saves t u v a b l m fed new ends =
      let whole = fed.feeds.fed [] new in
      SavesAmong-trans hash (file_plan hash p none fed.bytes).blocks t u v (front-whole hash p none fed.bytes t u (fed.feeds.no_other [] new))
      (subst (λ (q : Profile). SavesAmong hash (file_plan hash q none fed.bytes).blocks u v) whole.profile (ends fed.bytes whole.fed))

  pub saves-whole : (entry : Entry) (t u v : store.Told) (a b : Building) (l m : Told) → FeedsLast hash p t u a b l m → IsFedBy hash p t [] a → IsClosed hash entry u v b
      → ((bytes : List ℕ) → HasFed hash bytes b → SavesAmong hash (file_plan hash b.profile none bytes).blocks u v) → SavesWhole hash p entry t v l m
  saves-whole entry t u v a b l m fed new closed ends =
      let whole = fed.feeds.fed [] new in
      record {
        bytes = fed.bytes;
        taken = fed.feeds.taken;
        nothing_left = fed.nothing_left;
        is = subst (λ (p : Profile). entry ≡ (file_plan hash p none fed.bytes).entry) whole.profile (closed.entry_is fed.bytes whole.fed);
        no_other = whole-saves t u v a b l m fed new ends;
      }

  -- no file, where its end was not saved
  pub saves-unclosed : (t u v : store.Told) (a b : Building) (l m : Told) → FeedsLast hash p t u a b l m → IsFedBy hash p t [] a
      → ((bytes : List ℕ) → HasFed hash bytes b → SavesAmong hash (file_plan hash b.profile none bytes).blocks u v) → SavesPart hash p t v l
  saves-unclosed t u v a b l m fed new ends =
      record { bytes = fed.bytes; rest = m; taken = fed.feeds.taken; nothing_left = fed.nothing_left; no_other = whole-saves t u v a b l m fed new ends }

  -- or where the readings stopped
  pub saves-stopped : (fault : IntakeFault) (t v : store.Told) (a : Building) (l m : Told) → IsFedBy hash p t [] a → StopsFeeding hash p fault t v a l m → SavesPart hash p t v l
  saves-stopped fault t v a l m new h = by h.saves.rest h.saves.taken
    where
      bytes : List ℕ
      bytes = h.saves.bytes

      among : SavesForFront hash p bytes t v
      among = h.saves.no_other [] new

      by : (rest : Told) → l ≡ before bytes rest → SavesPart hash p t v l
      by None taken = record { bytes = bytes; rest = None; taken = taken; nothing_left = tt; no_other = front-whole hash p none bytes t v among }
      by (Some more) taken = record {
        bytes = bytes ++ more;
        rest = Some [];
        taken = taken ∙ ap Some (sym (append-nil (bytes ++ more)));
        nothing_left = refl;
        no_other = among none more;
      }
