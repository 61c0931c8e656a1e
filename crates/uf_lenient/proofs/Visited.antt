-- What a file's reading visits decides what it reads, and calls over maps that agree there give one file.
use Rattle.std.proofs.Common.{◌≡◌, inl, inr, ℕ, zero, suc, pred, ◌+◌, ◌-◌, List, [], ◌∷◌, ◌++◌, drop, take, map, refl, sym, ap, subst, ◌∙◌, arith, Result, Ok, Err, append_assoc, append-nil}
use Rattle.std.specs.Prelude.{Option, Some, None, slice_get}
use Rattle.std.specs.List.{AllByRecursion}
use Rattle.uf_cid.specs.Blocks.{Lookup}
use Rattle.uf_cid.specs.declared.cid.Cid.{Cid}
use Rattle.uf_dagpb.specs.declared.node.Link.{Link}
use Rattle.uf_store.specs.declared.store.StoreFault.TheVariants.{Missing}
use Rattle.uf_lenient.specs.declared.due.Due.{Due}
use Rattle.uf_lenient.specs.declared.due.Visited.{Visited}
use Rattle.uf_lenient.specs.declared.fault.DagFault.{DagFault}
use Rattle.uf_lenient.specs.declared.fault.DagFault.TheVariants.{Store, TooDeep, TooMany}
use Rattle.uf_lenient.specs.declared.shapes.Limits.{Limits}
use Rattle.uf_lenient.specs.declared.unixfs.Unixfs.{Unixfs}
use Rattle.uf_lenient.specs.Pending.{as_due, own_part, parts_due}
use Rattle.uf_lenient.specs.Reading.{◌>>◌, Visits, answered, file_of, file_under, unvisited}
use Rattle.uf_lenient.specs.Steps.{IsNextPiece, Rest, prefixed, start_of, to_come}
use Rattle.uf_lenient.specs.Streams.{IsFileFront}
use Rattle.uf_lenient.specs.Unixfs.{unixfs_of}
use Rattle.uf_lenient.specs.Visited.{AgreeUnder, EndsPieces, GaveOfFile, GavePiece, GavePieces, VisitsNext, file_visits, pieces_of, visited_below, visited_by, visited_first, visited_from}
use Rattle.uf_lenient.specs.Within.{HoldsAllOf}
use Rattle.uf_lenient.proofs.Coming.{come, comes-err, first-is}

abbrev due : Visited → ℕ → Cid → Due
due v left c = record { cid = c; left = left; visited = v }

-- ---- a node that was read

abbrev node_from : Option (List ℕ) → Cid → ℕ → Visits Unixfs
node_from o c n = elim o [ None ↦ Err (Store (Missing c)) | Some bytes ↦ Ok (bytes, n) ] >> λ bytes m. unvisited m (unixfs_of c bytes)

visits_kept : {A B : Type 0} (n : ℕ) (r : Result A DagFault) (f : A → Result B DagFault) (x : B × ℕ) → (unvisited n r >> λ a m. unvisited m (f a)) ≡ Ok x → x.1 ≡ n
visits_kept {A} {B} n (Ok a) f x is = one (f a) is
  where
    one : (s : Result B DagFault) → unvisited n s ≡ Ok x → x.1 ≡ n
    one (Ok b) e = cc
    one (Err fault) e = absurd (let no : Err fault ≡ Ok x = e in cc)
visits_kept n (Err fault) f x is = absurd (let no : Err fault ≡ Ok x = is in cc)

module _ (held : Lookup) where
  -- the block was held, a depth was left for it, and one visit was made
  record WasRead (left : ℕ) (c : Cid) (n m : ℕ) : Type 0 where
    depth : left ≡ suc (pred left)
    visit : n ≡ suc m
    block : (bytes : List ℕ) × (held c ≡ Some bytes)

  was_read : (v : Visited) (left : ℕ) (c : Cid) (n : ℕ) (x : (List ℕ × List Link) × ℕ) → own_part held (due v left c) n ≡ Ok x → WasRead left c n x.1
  was_read v zero c n x is = absurd (let no : Err (TooDeep c) ≡ Ok x = is in cc)
  was_read v (suc left) c zero x is = absurd (let no : Err TooMany ≡ Ok x = is in cc)
  was_read v (suc left) c (suc n) x is = by (held c) refl is
    where
      by : (o : Option (List ℕ)) → held c ≡ o → (node_from o c n >> λ u m. unvisited m (as_due held (due v (suc left) c) u)) ≡ Ok x → WasRead (suc left) c (suc n) x.1
      by None here e = absurd (let no : Err (Store (Missing c)) ≡ Ok x = e in cc)
      by (Some bytes) here e = record {
        depth = refl;
        visit = ap suc (sym (visits_kept n (unixfs_of c bytes) (λ u. as_due held (due v (suc left) c) u) x e));
        block = (bytes, here);
      }

  -- what a call visits comes first among what is still to be visited
  visits_first : (d : Due) (ds : List Due) (left n m : ℕ) (own : List ℕ × List Link) → d.left ≡ suc left → n ≡ suc m → own_part held d n ≡ Ok (own, m) → visited_from held n (d ∷ ds) ≡ d.cid ∷ visited_from held m (parts_due (d.left - 1) own.1 ++ ds)
  visits_first d ds left n m own depth visit is =
      ap (λ k. visited_from held k (d ∷ ds)) visit
      ∙ ap (λ l. visited_first l d.cid (visited_below (visited_from held m) d.left ds (own_part held d (suc m)))) depth
      ∙ ap (λ r. d.cid ∷ visited_below (visited_from held m) d.left ds r) (ap (λ k. own_part held d k) (sym visit) ∙ is)

  pub visits-next : (old now : Rest) (d : Due) (n : ℕ) (bytes : List ℕ) (links : List Link) (m : ℕ) → n ≡ old.1 → slice_get old.0 0 ≡ Some d → own_part held d n ≡ Ok ((bytes, links), m) → now.0 ≡ parts_due (d.left - 1) links ++ drop 1 old.0 → now.1 ≡ m
      → VisitsNext held old now
  visits-next old now d n bytes links m same top is put visits =
      let one = was_read d.visited d.left d.cid n ((bytes, links), m) is in
      ap (λ (l : List Due). visited_from held old.1 l) (first-is old.0 d top)
      ∙ ap (λ k. visited_from held k (d ∷ drop 1 old.0)) (sym same)
      ∙ visits_first d (drop 1 old.0) (pred d.left) n m (bytes, links) one.depth one.visit is
      ∙ ap (λ (l : List Due). d.cid ∷ visited_from held m l) (sym put)
      ∙ ap (λ k. d.cid ∷ visited_from held k now.0) (sym visits)
      ∙ ap (λ (l : List Due). take 1 (map (λ (x : Due). x.cid) l) ++ visited_by held now) (sym (first-is old.0 d top))

-- ---- two maps that agree where visits are made

module _ (held other : Lookup) where
  record ComeAlike (rest : Rest) : Type 0 where
    come : to_come held rest ≡ to_come other rest
    visits : visited_by other rest ≡ visited_by held rest

  both_stop : (d : Due) (ds : List Due) (n : ℕ) (e : DagFault) → own_part held d n ≡ Err e → own_part other d n ≡ Err e → to_come held (d ∷ ds, n) ≡ to_come other (d ∷ ds, n)
  both_stop d ds n e is also = comes-err held d ds n e is ∙ sym (comes-err other d ds n e also)

  none_left : (v : Visited) (left : ℕ) (c : Cid) (ds : List Due) → ComeAlike (due v left c ∷ ds, zero)
  none_left v zero c ds = record { come = both_stop (due v zero c) ds zero (TooDeep c) refl refl; visits = refl }
  none_left v (suc left) c ds = record { come = both_stop (due v (suc left) c) ds zero TooMany refl refl; visits = refl }

  same_own : (v : Visited) (left : ℕ) (c : Cid) (n : ℕ) → held c ≡ other c → own_part held (due v (suc left) c) (suc n) ≡ own_part other (due v (suc left) c) (suc n)
  same_own v left c n same = ap (λ (o : Option (List ℕ)). node_from o c n >> λ u m. unvisited m (as_due held (due v (suc left) c) u)) same

  one_alike : (n : ℕ) → ((ds : List Due) → AgreeUnder held other (visited_from held n ds) → ComeAlike (ds, n)) → (v : Visited) (left : ℕ) (c : Cid) (ds : List Due)
      → AgreeUnder held other (visited_from held (suc n) (due v left c ∷ ds)) → ComeAlike (due v left c ∷ ds, suc n)
  one_alike n below v zero c ds agree = record { come = both_stop (due v zero c) ds (suc n) (TooDeep c) refl refl; visits = refl }
  one_alike n below v (suc left) c ds agree = by (own_part held d (suc n)) refl agree.1
    where
      d : Due
      d = due v (suc left) c

      same : own_part other d (suc n) ≡ own_part held d (suc n)
      same = sym (same_own v left c n agree.0)

      by : (r : Visits (List ℕ × List Link)) → own_part held d (suc n) ≡ r → AgreeUnder held other (visited_below (visited_from held n) (suc left) ds r) → ComeAlike (d ∷ ds, suc n)
      by (Err e) is rest = record {
        come = both_stop d ds (suc n) e is (same ∙ is);
        visits = ap (λ r. c ∷ visited_below (visited_from other n) (suc left) ds r) (same ∙ is) ∙ sym (ap (λ r. c ∷ visited_below (visited_from held n) (suc left) ds r) is);
      }
      by (Ok x) is rest =
          let more : List Due = parts_due (suc left - 1) x.0.1 ++ ds in
          let one = was_read held v (suc left) c (suc n) x is in
          let left_over : x.1 ≡ n = omega (arith, one.visit) in
          let next = below more rest in
          record {
            come = come held d ds (suc n) x.0.0 x.0.1 x.1 is
                ∙ ap (λ k. prefixed x.0.0 (to_come held (more, k))) left_over
                ∙ ap (prefixed x.0.0) next.come
                ∙ ap (λ k. prefixed x.0.0 (to_come other (more, k))) (sym left_over)
                ∙ sym (come other d ds (suc n) x.0.0 x.0.1 x.1 (same ∙ is));
            visits = ap (λ r. c ∷ visited_below (visited_from other n) (suc left) ds r) (same ∙ is)
                ∙ ap (λ (l : List Cid). c ∷ l) next.visits
                ∙ sym (ap (λ r. c ∷ visited_below (visited_from held n) (suc left) ds r) is);
          }

  come_alike : (n : ℕ) (ds : List Due) → AgreeUnder held other (visited_from held n ds) → ComeAlike (ds, n)
  come_alike zero [] agree = record { come = refl; visits = refl }
  come_alike (suc n) [] agree = record { come = refl; visits = refl }
  come_alike zero (d ∷ ds) agree = none_left d.visited d.left d.cid ds
  come_alike (suc n) (d ∷ ds) agree = one_alike n (come_alike n) d.visited d.left d.cid ds agree

  rest_alike : (rest : Rest) → AgreeUnder held other (visited_by held rest) → ComeAlike rest
  rest_alike rest agree = come_alike rest.1 rest.0 agree

-- ---- calls, each over a map of its own

agree-sym : (left right : Lookup) (cids : List Cid) → AgreeUnder left right cids → AgreeUnder right left cids
agree-sym left right [] agree = tt
agree-sym left right (c ∷ cids) agree = (sym agree.0, agree-sym left right cids agree.1)

agree_behind : (left right : Lookup) (xs ys : List Cid) → AgreeUnder left right (xs ++ ys) → AgreeUnder left right ys
agree_behind left right [] ys agree = agree
agree_behind left right (x ∷ xs) ys agree = agree_behind left right xs ys agree.1

prefixed_nothing : (r : Result (List ℕ) DagFault) → prefixed [] r ≡ r
prefixed_nothing (Ok bytes) = refl
prefixed_nothing (Err e) = refl

prefixed_twice : (a b : List ℕ) (r : Result (List ℕ) DagFault) → prefixed a (prefixed b r) ≡ prefixed (a ++ b) r
prefixed_twice a b (Ok bytes) = ap (λ (l : List ℕ). Ok l) (sym (append_assoc a b bytes))
prefixed_twice a b (Err e) = refl

-- what is to come before the first call is the file
file_comes : (held : Lookup) (limits : Limits) (c : Cid) → to_come held (start_of limits c) ≡ file_of held limits c
file_comes held limits c = by (file_under held (limits.depth + 1) c limits.visits)
  where
    by : (r : Visits (List ℕ)) → answered (λ (l : List ℕ). l) (r >> λ bytes m. Ok (bytes ++ [], m)) ≡ answered (λ (l : List ℕ). l) r
    by (Ok x) = ap (λ (l : List ℕ). Ok l) (append-nil x.0)
    by (Err e) = refl

module _ (held : Lookup) where
  -- after some calls: what was to come is what they gave and what is to come, and nothing else is visited now
  record HasGiven (calls : List (Lookup × List ℕ)) (before now : Rest) : Type 0 where
    comes : to_come held before ≡ prefixed (pieces_of calls) (to_come held now)
    within : (other : Lookup) → AgreeUnder held other (visited_by held before) → AgreeUnder held other (visited_by held now)

  nothing_given : (before now : Rest) → now ≡ before → HasGiven [] before now
  nothing_given before now is = record {
    comes = ap (to_come held) (sym is) ∙ sym (prefixed_nothing (to_come held now));
    within = λ other agree. subst (λ (r : Rest). AgreeUnder held other (visited_by held r)) (sym is) agree;
  }

  one_given : (mine : Lookup) (piece : List ℕ) (before next : Rest) → GavePiece mine before next piece → AgreeUnder held mine (visited_by held before) → HasGiven ((mine, piece) ∷ []) before next
  one_given mine piece before next gave agree =
      let first = rest_alike held mine before agree in
      let visits : visited_by held before ≡ take 1 (map (λ (x : Due). x.cid) before.0) ++ visited_by mine next = sym first.visits ∙ gave.visits in
      let behind = λ (other : Lookup) (all : AgreeUnder held other (visited_by held before)). agree_behind held other (take 1 (map (λ (x : Due). x.cid) before.0)) (visited_by mine next) (subst (AgreeUnder held other) visits all) in
      let second = rest_alike mine held next (agree-sym held mine (visited_by mine next) (behind mine agree)) in
      record {
        comes = first.come ∙ gave.gives ∙ ap (prefixed piece) second.come ∙ ap (λ (l : List ℕ). prefixed l (to_come held next)) (sym (append-nil piece));
        within = λ other all. subst (AgreeUnder held other) (sym second.visits) (behind other all);
      }

  still_agree : (before next : Rest) (calls : List (Lookup × List ℕ)) → ((other : Lookup) → AgreeUnder held other (visited_by held before) → AgreeUnder held other (visited_by held next))
      → AllByRecursion (λ (x : Lookup × List ℕ). AgreeUnder held x.0 (visited_by held before)) calls → AllByRecursion (λ (x : Lookup × List ℕ). AgreeUnder held x.0 (visited_by held next)) calls
  still_agree before next [] within agree = tt
  still_agree before next (x ∷ xs) within agree = (within x.0 agree.0, still_agree before next xs within agree.1)

  all_given : (calls : List (Lookup × List ℕ)) (before now : Rest) → GavePieces calls before now → AllByRecursion (λ (x : Lookup × List ℕ). AgreeUnder held x.0 (visited_by held before)) calls → HasGiven calls before now
  all_given [] before now given agree = nothing_given before now given
  all_given (x ∷ xs) before now given agree =
      let next : Rest = given.0 in
      let one = one_given x.0 x.1 before next given.1 agree.0 in
      let more = all_given xs next now given.2 (still_agree before next xs one.within agree.1) in
      record {
        comes = one.comes ∙ ap (λ (l : List ℕ). prefixed l (to_come held next)) (append-nil x.1) ∙ ap (prefixed x.1) more.comes ∙ prefixed_twice x.1 (pieces_of xs) (to_come held now);
        within = λ other all. more.within other (one.within other all);
      }

  module _ (limits : Limits) (c : Cid) where
    file_is : (calls : List (Lookup × List ℕ)) (now : Rest) → GaveOfFile held limits c calls now → HasGiven calls (start_of limits c) now
    file_is calls now gave = all_given calls (start_of limits c) now gave.given gave.agree

    pub pieces-front : (calls : List (Lookup × List ℕ)) (now : Rest) → GaveOfFile held limits c calls now → IsFileFront (pieces_of calls) (file_of held limits c)
    pieces-front calls now gave = subst (IsFileFront (pieces_of calls)) (sym (file_is calls now gave).comes ∙ file_comes held limits c) (by (to_come held now))
      where
        by : (r : Result (List ℕ) DagFault) → IsFileFront (pieces_of calls) (prefixed (pieces_of calls) r)
        by (Ok more) = (more, refl)
        by (Err e) = tt

    pub pieces-next : (more : Lookup) (calls : List (Lookup × List ℕ)) (now after : Rest) (answer : Result (Option (List ℕ)) DagFault) → GaveOfFile held limits c calls now → AgreeUnder held more (file_visits held limits c)
        → IsNextPiece more now after answer → EndsPieces (file_of held limits c) (pieces_of calls) answer
    pieces-next more calls now after answer gave agree is = by answer is
      where
        whole : file_of held limits c ≡ prefixed (pieces_of calls) (to_come more now)
        whole =
            let given = file_is calls now gave in
            sym (file_comes held limits c) ∙ given.comes ∙ ap (prefixed (pieces_of calls)) (rest_alike held more now (given.within more agree)).come

        by : (r : Result (Option (List ℕ)) DagFault) → IsNextPiece more now after r → EndsPieces (file_of held limits c) (pieces_of calls) r
        by (Ok None) e = whole ∙ ap (prefixed (pieces_of calls)) e ∙ ap (λ (l : List ℕ). Ok l) (append-nil (pieces_of calls))
        by (Ok (Some piece)) e = tt
        by (Err fault) (inl own) = inl own
        by (Err fault) (inr e) = inr (whole ∙ ap (prefixed (pieces_of calls)) e)

    pub file-alike : (more : Lookup) → AgreeUnder held more (file_visits held limits c) → file_of more limits c ≡ file_of held limits c
    file-alike more agree = sym (file_comes more limits c) ∙ sym (rest_alike held more (start_of limits c) agree).come ∙ file_comes held limits c

-- ---- a greater map agrees where a file with bytes is read

module _ (held more : Lookup) (all : HoldsAllOf held more) where
  later_whole : (bytes own : List ℕ) (r : Result (List ℕ) DagFault) → prefixed own r ≡ Ok bytes → (later : List ℕ) × (r ≡ Ok later)
  later_whole bytes own (Ok later) is = (later, refl)
  later_whole bytes own (Err e) is = absurd (let no : Err e ≡ Ok bytes = is in cc)

  one_greater : (n : ℕ) → ((ds : List Due) (bytes : List ℕ) → to_come held (ds, n) ≡ Ok bytes → AgreeUnder held more (visited_from held n ds)) → (v : Visited) (left : ℕ) (c : Cid) (ds : List Due) (bytes : List ℕ)
      → to_come held (due v left c ∷ ds, suc n) ≡ Ok bytes → AgreeUnder held more (visited_from held (suc n) (due v left c ∷ ds))
  one_greater n below v zero c ds bytes is = tt
  one_greater n below v (suc left) c ds bytes is = by (own_part held d (suc n)) refl
    where
      d : Due
      d = due v (suc left) c

      by : (r : Visits (List ℕ × List Link)) → own_part held d (suc n) ≡ r → AgreeUnder held more (visited_first (suc left) c (visited_below (visited_from held n) (suc left) ds r))
      by (Err e) here = absurd (let no : Err e ≡ Ok bytes = sym (comes-err held d ds (suc n) e here) ∙ is in cc)
      by (Ok x) here =
          let one = was_read held v (suc left) c (suc n) x here in
          let left_over : x.1 ≡ n = omega (arith, one.visit) in
          let rest : List Due = parts_due (suc left - 1) x.0.1 ++ ds in
          let later = later_whole bytes x.0.0 (to_come held (rest, n)) (ap (λ k. prefixed x.0.0 (to_come held (rest, k))) (sym left_over) ∙ sym (come held d ds (suc n) x.0.0 x.0.1 x.1 here) ∙ is) in
          (one.block.1 ∙ sym (all c one.block.0 one.block.1), below rest later.0 later.1)

  greater_from : (n : ℕ) (ds : List Due) (bytes : List ℕ) → to_come held (ds, n) ≡ Ok bytes → AgreeUnder held more (visited_from held n ds)
  greater_from zero ds bytes is = tt
  greater_from (suc n) [] bytes is = tt
  greater_from (suc n) (d ∷ ds) bytes is = one_greater n (greater_from n) d.visited d.left d.cid ds bytes is

  pub greater-agrees : (limits : Limits) (c : Cid) (bytes : List ℕ) → file_of held limits c ≡ Ok bytes → AgreeUnder held more (file_visits held limits c)
  greater-agrees limits c bytes is = greater_from limits.visits (start_of limits c).0 bytes (file_comes held limits c ∙ is)
