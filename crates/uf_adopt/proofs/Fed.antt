-- The pieces of a file that a builder is fed.
use Rattle.std.proofs.Common.{◌≡◌, inl, inr, ℕ, ◌+◌, ◌<◌, ◌≤◌, List, [], ◌∷◌, ◌++◌, length, refl, sym, ap, subst, ◌∙◌, arith, true, false, append-nil, append_assoc, length-append, Result, Ok, Err}
use Rattle.std.specs.Prelude.{IfSome, Some, None}
use Rattle.std.specs.List.{AllByRecursion}
use Rattle.uf_cid.specs.Blocks.{Lookup}
use Rattle.uf_cid.specs.Bytes.{IsBytes, IsBytes-append}
use Rattle.uf_cid.specs.declared.cid.Cid.{Cid}
use Rattle.uf_store.specs.Contents.{Contents, Told, held_at}
use Rattle.uf_store.specs.Keeping.{Holds, KeepsGood}
use Rattle.uf_store.specs.Seen.{Seen}
use Rattle.uf_store.specs.Calls.{OnlySaves}
use Rattle.uf_store.specs.Faults.{NoneIsBad}
use Rattle.uf_tree.specs.FilePlan.{file_plan}
use Rattle.uf_tree.specs.Profiles.{most_bytes}
use Rattle.uf_tree.specs.declared.meta.Meta.{Meta}
use Rattle.uf_tree.specs.declared.nodes.Entry.{Entry}
use Rattle.uf_tree.specs.declared.profile.Profile.{Profile}
use Rattle.uf_build.specs.Building.{Building, HasFed, HoldsFed}
use Rattle.uf_lenient.specs.Answers.{IsFault, IsOwn, store_fault_of}
use Rattle.uf_lenient.specs.Reading.{file_of}
use Rattle.uf_lenient.specs.Steps.{IsNextPiece, Rest, start_of}
use Rattle.uf_lenient.specs.Streams.{IsFileFront}
use Rattle.uf_lenient.specs.Visited.{AgreeUnder, GaveOfFile, GavePiece, GavePieces, VisitsNext, file_visits, pieces_of}
use Rattle.uf_lenient.specs.Within.{HoldsAllOf}
use Rattle.uf_lenient.specs.declared.fault.DagFault.{DagFault}
use Rattle.uf_lenient.specs.declared.fault.DagFault.TheVariants as dag
use Rattle.uf_lenient.specs.declared.shapes.Limits.{Limits}
use Rattle.uf_lenient.proofs.Visited.{greater-agrees, pieces-front, pieces-next}
use Rattle.uf_adopt.specs.Faults.{OnlyAdopts, of_reading}
use Rattle.uf_adopt.specs.Feeding.{AdoptsFile, FeedsAll, FeedsOne, GaveFront, HasFront, HoldsGoodMap}
use Rattle.uf_adopt.specs.declared.fault.AdoptFault.{AdoptFault}
use Rattle.uf_adopt.specs.declared.fault.AdoptFault.TheVariants.{Dag, FileTooLong, Collision, TooBig, Store}

-- ---- what is held

module _ (hash : List ℕ → List ℕ) (held : Lookup) where
  -- calls that keep good blocks keep all of a good map
  pub map-kept : (a b : Told) → KeepsGood hash a b → HoldsGoodMap hash held a → HoldsGoodMap hash held b
  map-kept None b k h = absurd h
  map-kept (Some t) None k h = absurd (let no : false ≡ true = k.alike in cc)
  map-kept (Some t) (Some u) k h = λ c block is. let both = h c block is in (k.stays c block both.0 both.1, both.1)

  pub map-all : (t : Contents) → HoldsGoodMap hash held (Some t) → HoldsAllOf held (held_at t)
  map-all t h = λ c block is. (h c block is).0

-- ---- faults of readings

-- what a reading that has a value may fail with is the store's own
pub own-fault : {A : Type 0} (said : Result A DagFault) (a : A) (fault : DagFault) → said ≡ Ok a → IsFault said fault → IsOwn fault
own-fault said a fault is (inl own) = own
own-fault said a fault is (inr e) = absurd (let no : Ok a ≡ Err fault = sym is ∙ e in cc)

pub reading-adopts : {A : Type 0} (hash : List ℕ → List ℕ) (fault : DagFault) (a b : Seen) → OnlySaves hash NoneIsBad (store_fault_of fault) a b → OnlyAdopts {A = A} hash (Err (of_reading fault)) a b
reading-adopts hash (dag.Store fault) a b h = record { saves = h; apart = tt }
reading-adopts hash other a b h = record { saves = h; apart = tt }

module _ (hash : List ℕ → List ℕ) where
  -- ---- one piece

  pub feeds-one : (c : Cid) (piece : List ℕ) (told now : Told) (b b_now : Building) → b.fed + length piece ≤ most_bytes b.profile → b_now.is_spent ≡ false → b_now.fed ≡ b.fed + length piece → b_now.profile ≡ b.profile → IsBytes piece
      → ((bytes : List ℕ) → HasFed hash bytes b → HasFed hash (bytes ++ piece) b_now) → ((bytes : List ℕ) → HoldsFed hash bytes told b → HoldsFed hash (bytes ++ piece) now b_now)
      → FeedsOne hash c piece told now b b_now (Ok tt)
  feeds-one c piece told now b b_now few spent fed profile are more held = λ front h.
      let count : b_now.fed ≡ length (front ++ piece) = fed ∙ ap (λ n. n + length piece) h.count ∙ sym (length-append front piece) in
      let small : b_now.fed ≤ most_bytes b.profile = subst (λ n. n ≤ most_bytes b.profile) (sym fed) few in
      record {
        fed = more front h.fed;
        held = held front h.held;
        count = count;
        few = subst (λ (p : Profile). length (front ++ piece) ≤ most_bytes p) (sym profile) (subst (λ n. n ≤ most_bytes b.profile) count small);
        are_bytes = IsBytes-append front piece h.are_bytes are;
        not_spent = spent;
      }

  pub feeds-long : (c : Cid) (piece : List ℕ) (told now : Told) (b b_now : Building) → most_bytes b.profile < b.fed + length piece → FeedsOne hash c piece told now b b_now (Err (FileTooLong c))
  feeds-long c piece told now b b_now many = (refl, λ front h. subst (λ n. most_bytes b.profile < n) (ap (λ n. n + length piece) h.count ∙ sym (length-append front piece)) many)

  -- ---- pieces in a row

  gave_then : (calls : List (Lookup × List ℕ)) (x : Lookup × List ℕ) (before now next : Rest) → GavePieces calls before now → GavePiece x.0 now next x.1 → GavePieces (calls ++ x ∷ []) before next
  gave_then [] x before now next same one = (next, subst (λ r. GavePiece x.0 r next x.1) same one, refl)
  gave_then (y ∷ calls) x before now next gave one = (gave.0, gave.1, gave_then calls x gave.0 now next gave.2 one)

  all_then : {A : Type 0} (P : A → Type 0) (l : List A) (x : A) → AllByRecursion P l → P x → AllByRecursion P (l ++ x ∷ [])
  all_then P [] x h p = (p, tt)
  all_then P (y ∷ l) x h p = (h.0, all_then P l x h.1 p)

  pub pieces_then : (calls : List (Lookup × List ℕ)) (x : Lookup × List ℕ) → pieces_of (calls ++ x ∷ []) ≡ pieces_of calls ++ x.1
  pieces_then [] x = append-nil x.1
  pieces_then (y ∷ calls) x = ap (λ l. y.1 ++ l) (pieces_then calls x) ∙ sym (append_assoc y.1 (pieces_of calls) x.1)

  module _ (held : Lookup) (limits : Limits) (c : Cid) (bytes : List ℕ) (is : file_of held limits c ≡ Ok bytes) where
    -- before the first call
    pub gave-none : (told : Told) (now : Rest) (b : Building) → now ≡ start_of limits c → HasFront hash told [] b → GaveFront hash held limits c told now b
    gave-none told now b same front = record { calls = []; gave = record { given = same; agree = tt }; front = front }

    pub gave_more : (t : Contents) → HoldsGoodMap hash held (Some t) → (calls : List (Lookup × List ℕ)) (now next : Rest) (piece : List ℕ) → GaveOfFile held limits c calls now → IsNextPiece (held_at t) now next (Ok (Some piece)) → VisitsNext (held_at t) now next → GaveOfFile held limits c (calls ++ (held_at t, piece) ∷ []) next
    gave_more t good calls now next piece gave says visits = record {
      given = gave_then calls (held_at t, piece) (start_of limits c) now next gave.given (record { gives = says; visits = visits });
      agree = all_then (λ (x : Lookup × List ℕ). AgreeUnder held x.0 (file_visits held limits c)) calls (held_at t, piece) gave.agree (greater-agrees held (held_at t) (map-all hash held t good) limits c bytes is);
    }

    -- one piece more was given and fed
    pub gave-more : (told next_told now_told : Told) (now next : Rest) (b b_now : Building) (piece : List ℕ) → HoldsGoodMap hash held told → next_told ≡ told → GaveFront hash held limits c told now b
        → IfSome told (λ t. IsNextPiece (held_at t) now next (Ok (Some piece))) → IfSome told (λ t. VisitsNext (held_at t) now next) → FeedsOne hash c piece next_told now_told b b_now (Ok tt) → GaveFront hash held limits c now_told next b_now
    gave-more None next_told now_told now next b b_now piece good same g says visits feeds = absurd good
    gave-more (Some t) next_told now_told now next b b_now piece good same g says visits feeds = record {
      calls = g.calls ++ (held_at t, piece) ∷ [];
      gave = gave_more t good g.calls now next piece g.gave says visits;
      front = subst (λ l. HasFront hash now_told l b_now) (sym (pieces_then g.calls (held_at t, piece))) (feeds (pieces_of g.calls) (subst (λ u. HasFront hash u (pieces_of g.calls) b) (sym same) g.front));
    }

    longer : (front : List ℕ) (most : ℕ) → IsFileFront front (file_of held limits c) → most < length front → most < length bytes
    longer front most h many = by (subst (IsFileFront front) is h)
      where
        by : IsFileFront front (Ok bytes) → most < length bytes
        by r = let size = ap length r.1 ∙ length-append front r.0 in omega (arith, size, many)

    fails : (b b_now : Building) (now_told : Told) (why : AdoptFault) (piece : List ℕ) (next_told : Told) → b_now.profile ≡ b.profile → ((node : Cid) → ((front : List ℕ) → HasFront hash next_told front b → most_bytes b.profile < length (front ++ piece)) → most_bytes b.profile < length bytes)
        → FeedsOne hash c piece next_told now_told b b_now (Err why) → FeedsAll hash c bytes now_told b_now (Err why)
    fails b b_now now_told (FileTooLong node) piece next_told profile long h = (h.0, subst (λ (p : Profile). most_bytes p < length bytes) (sym profile) (long node h.1))
    fails b b_now now_told (Store fault) piece next_told profile long h = inr h
    fails b b_now now_told (Dag fault) piece next_told profile long h = absurd h
    fails b b_now now_told (Collision x y) piece next_told profile long h = absurd h
    fails b b_now now_told TooBig piece next_told profile long h = absurd h

    -- a piece more was given, and wasn't fed
    pub gave-long : (told next_told now_told : Told) (now next : Rest) (b b_now : Building) (piece : List ℕ) (why : AdoptFault) → HoldsGoodMap hash held told → next_told ≡ told → b_now.profile ≡ b.profile → GaveFront hash held limits c told now b
        → IfSome told (λ t. IsNextPiece (held_at t) now next (Ok (Some piece))) → IfSome told (λ t. VisitsNext (held_at t) now next) → FeedsOne hash c piece next_told now_told b b_now (Err why) → FeedsAll hash c bytes now_told b_now (Err why)
    gave-long None next_told now_told now next b b_now piece why good same profile g says visits feeds = absurd good
    gave-long (Some t) next_told now_told now next b b_now piece why good same profile g says visits feeds =
        fails b b_now now_told why piece next_told profile
        (λ node many. longer (pieces_of g.calls ++ piece) (most_bytes b.profile)
        (subst (λ l. IsFileFront l (file_of held limits c)) (pieces_then g.calls (held_at t, piece)) (pieces-front held limits c (g.calls ++ (held_at t, piece) ∷ []) next (gave_more t good g.calls now next piece g.gave says visits)))
        (many (pieces_of g.calls) (subst (λ u. HasFront hash u (pieces_of g.calls) b) (sym same) g.front)))
        feeds

    -- nothing more is given
    pub gave-all : (told next_told : Told) (now next : Rest) (b : Building) → HoldsGoodMap hash held told → next_told ≡ told → GaveFront hash held limits c told now b → IfSome told (λ t. IsNextPiece (held_at t) now next (Ok None)) → FeedsAll hash c bytes next_told b (Ok tt)
    gave-all None next_told now next b good same g says = absurd good
    gave-all (Some t) next_told now next b good same g says =
        let e = pieces-next held limits c (held_at t) g.calls now next (Ok None) g.gave (greater-agrees held (held_at t) (map-all hash held t good) limits c bytes is) says in
        let one : pieces_of g.calls ≡ bytes = (let f : Ok (pieces_of g.calls) ≡ Ok bytes = sym e ∙ is in cc) in
        subst (λ l. HasFront hash next_told l b) one (subst (λ u. HasFront hash u (pieces_of g.calls) b) (sym same) g.front)

    own_feeds : (now : Told) (b : Building) (fault : DagFault) → IsOwn fault → FeedsAll hash c bytes now b (Err (of_reading fault))
    own_feeds now b (dag.Store fault) own = inl own
    own_feeds now b other own = absurd own

    -- the next piece can't be given
    pub gave-fault : (told next_told : Told) (now next : Rest) (b : Building) (fault : DagFault) → HoldsGoodMap hash held told → GaveFront hash held limits c told now b → IfSome told (λ t. IsNextPiece (held_at t) now next (Err fault)) → FeedsAll hash c bytes next_told b (Err (of_reading fault))
    gave-fault None next_told now next b fault good g says = absurd good
    gave-fault (Some t) next_told now next b fault good g says =
        own_feeds next_told b fault (own-fault (file_of held limits c) bytes fault is (pieces-next held limits c (held_at t) g.calls now next (Err fault) g.gave (greater-agrees held (held_at t) (map-all hash held t good) limits c bytes is) says))

  -- ---- the whole file

  -- a new builder was fed nothing
  pub new-front : (told : Told) (b : Building) → HasFed hash [] b → HoldsFed hash [] told b → b.fed ≡ 0 → b.is_spent ≡ false → HasFront hash told [] b
  new-front told b fed held count spent = record { fed = fed; held = held; count = count; few = omega arith; are_bytes = tt; not_spent = spent }

  pub closes : (m : Meta) (c : Cid) (bytes : List ℕ) (told now : Told) (b : Building) (e : Entry) → HasFront hash told bytes b → ((l : List ℕ) → HasFed hash l b → e ≡ (file_plan hash b.profile m l).entry) → ((l : List ℕ) → HoldsFed hash l told b → Holds now (file_plan hash b.profile m l).blocks) → AdoptsFile hash b.profile m c bytes now (Ok e)
  closes m c bytes told now b e h entry held = record { few = h.few; are_bytes = h.are_bytes; is = entry bytes h.fed; held = held bytes h.held }

  -- why not all was fed is why there is no file
  pub no-file : (m : Meta) (c : Cid) (p : Profile) (bytes : List ℕ) (now : Told) (b : Building) (why : AdoptFault) → b.profile ≡ p → FeedsAll hash c bytes now b (Err why) → AdoptsFile hash p m c bytes now (Err why)
  no-file m c p bytes now b (FileTooLong node) same h = (h.0, subst (λ (q : Profile). most_bytes q < length bytes) same h.1)
  no-file m c p bytes now b (Store fault) same h = h
  no-file m c p bytes now b (Dag fault) same h = absurd h
  no-file m c p bytes now b (Collision x y) same h = absurd h
  no-file m c p bytes now b TooBig same h = absurd h
