-- A file put on a host, piece by piece.
use Rattle.std.proofs.Common.{◌≡◌, inl, inr, ℕ, List, [], ◌∷◌, ◌++◌, length, take, drop, refl, sym, ap, subst, ◌∙◌, append-nil, append_assoc, Result, Ok, Err, ◌⊎◌}
use Rattle.std.specs.Prelude.{IfSome, None, Some}
use Rattle.std.specs.FinMap.{insert}
use Rattle.std.proofs.Math.Seq.{take-append_seam}
use Rattle.std.proofs.lemmas.List.{take-append-drop}
use Rattle.uf_edge.specs.Host.{HostTold, TakesFile, TakesFolder, host_changed, with_piece}
use Rattle.uf_edge.specs.declared.host.Place.TheVariants.{File}
use Rattle.uf_lenient.specs.Answers.{IsFault}
use Rattle.uf_lenient.specs.Steps.{IsNextPiece, Rest, prefixed, to_come}
use Rattle.uf_store.specs.Contents.{Contents, Told, held_at}
use Rattle.uf_lenient.specs.declared.fault.DagFault.{DagFault}
use Rattle.uf_host.specs.Faults.{fault_of_reading}
use Rattle.uf_host.specs.Places.{AppendsPiece, ChangesAt, IsBelow, PutsFile, PutsFirst, StopsWriting, with_places}
use Rattle.uf_host.specs.declared.fault.HostFault.{HostFault}
use Rattle.uf_host.proofs.Puttings.{changes-none, changes-one, made-first, made-more, part-none, takes-file, takes-made}
use Rattle.uf_host.proofs.Written.{host-stops, own-stops, says-of}

-- ---- what is to come of a file

-- what was to come is these bytes, and what is to come now
pub came-more : (sent piece : List ℕ) (start mid now : Result (List ℕ) DagFault) → start ≡ prefixed sent mid → mid ≡ prefixed piece now → start ≡ prefixed (sent ++ piece) now
came-more sent piece start mid now first second = first ∙ ap (prefixed sent) second ∙ by now
  where
    by : (now : Result (List ℕ) DagFault) → prefixed sent (prefixed piece now) ≡ prefixed (sent ++ piece) now
    by (Ok more) = ap Ok (sym (append_assoc sent piece more))
    by (Err fault) = refl

-- the bytes that came are the first of all
came-front : (sent bytes : List ℕ) (now : Result (List ℕ) DagFault) → prefixed sent now ≡ Ok bytes → (rest : List ℕ) × (bytes ≡ sent ++ rest)
came-front sent bytes (Ok more) is = (more, let same : sent ++ more ≡ bytes = cc in sym same)
came-front sent bytes (Err fault) is = absurd (let no : Err fault ≡ Ok bytes = is in cc)

came-all : (sent bytes : List ℕ) (now : Result (List ℕ) DagFault) → prefixed sent now ≡ Ok bytes → now ≡ Ok [] → sent ≡ bytes
came-all sent bytes now is none = let same : Ok (sent ++ []) ≡ Ok bytes = sym (ap (prefixed sent) none) ∙ is in sym (append-nil sent) ∙ (let one : sent ++ [] ≡ bytes = cc in one)

came-own : (sent bytes : List ℕ) (now : Result (List ℕ) DagFault) (fault : DagFault) → prefixed sent now ≡ Ok bytes → IsFault now fault → StopsWriting (fault_of_reading fault)
came-own sent bytes now fault is (inl own) = own-stops fault own
came-own sent bytes now fault is (inr said) = absurd (let no : Err fault ≡ Ok bytes = sym (ap (prefixed sent) said) ∙ is in cc)

-- ---- what was made of it

-- a file of these bytes was made at a path; before the first piece nothing was done
pub record HasMade (First : Type 0) (path sent : List ℕ) (told now : HostTold) : Type 0 where
  pub state : ((sent ≡ []) × (now ≡ told) × First) ⊎ (now ≡ host_changed (λ tree. insert tree path (File sent)) told)

pub made-none : (First : Type 0) (path : List ℕ) (told : HostTold) → First → HasMade First path [] told told
made-none First path told first = record { state = inl (refl, refl, first) }

made-piece : (First : Type 0) (path sent piece : List ℕ) (told mid now : HostTold) → TakesFolder told path → HasMade First path sent told mid → now ≡ host_changed (with_piece path piece) mid
    → now ≡ host_changed (λ tree. insert tree path (File (sent ++ piece))) told
made-piece First path sent piece told mid now takes h is = by h.state
  where
    by : ((sent ≡ []) × (mid ≡ told) × First) ⊎ (mid ≡ host_changed (λ tree. insert tree path (File sent)) told) → now ≡ host_changed (λ tree. insert tree path (File (sent ++ piece))) told
    by (inl none) =
        made-first path piece told now takes (is ∙ ap (host_changed (with_piece path piece)) none.1)
        ∙ ap (λ (l : List ℕ). host_changed (λ tree. insert tree path (File (l ++ piece))) told) (sym none.0)
    by (inr made) = made-more path sent piece told mid now made is

pub made-next : (First Next : Type 0) (path sent piece : List ℕ) (told mid now : HostTold) → TakesFolder told path → HasMade First path sent told mid → now ≡ host_changed (with_piece path piece) mid → HasMade Next path (sent ++ piece) told now
made-next First Next path sent piece told mid now takes h is = record { state = inr (made-piece First path sent piece told mid now takes h is) }

pub made-takes : (First : Type 0) (path sent : List ℕ) (told now : HostTold) → TakesFolder told path → HasMade First path sent told now → TakesFile now path
made-takes First path sent told now takes h = by h.state
  where
    by : ((sent ≡ []) × (now ≡ told) × First) ⊎ (now ≡ host_changed (λ tree. insert tree path (File sent)) told) → TakesFile now path
    by (inl none) = subst (λ t. TakesFile t path) (sym none.1) (takes-file told path takes)
    by (inr made) = takes-made path sent told now takes made

pub made-changes : (First : Type 0) (path sent : List ℕ) (told now : HostTold) → HasMade First path sent told now → ChangesAt path told now
made-changes First path sent told now h = by h.state
  where
    by : ((sent ≡ []) × (now ≡ told) × First) ⊎ (now ≡ host_changed (λ tree. insert tree path (File sent)) told) → ChangesAt path told now
    by (inl none) = changes-none (IsBelow path) told now none.1
    by (inr made) = changes-one (IsBelow path) path (File sent) told now (inl refl) made

-- a piece was put there, or a part of it, or nothing
stopped-made : (First : Type 0) (path sent piece : List ℕ) (told mid now : HostTold) (why : HostFault) → TakesFolder told path → HasMade First path sent told mid → AppendsPiece path piece mid now (Err why) → (count : ℕ) × HasMade First path (sent ++ take count piece) told now
stopped-made First path sent piece told mid now why takes h (stops, inl same) = (0, record { state = by h.state })
  where
    by : ((sent ≡ []) × (mid ≡ told) × First) ⊎ (mid ≡ host_changed (λ tree. insert tree path (File sent)) told) → ((sent ++ [] ≡ []) × (now ≡ told) × First) ⊎ (now ≡ host_changed (λ tree. insert tree path (File (sent ++ []))) told)
    by (inl none) = inl (append-nil sent ∙ none.0, same ∙ none.1, none.2)
    by (inr made) = inr (same ∙ made ∙ ap (λ (l : List ℕ). host_changed (λ tree. insert tree path (File l)) told) (sym (append-nil sent)))
stopped-made First path sent piece told mid now why takes h (stops, inr part) = (part.count, made-next First First path sent (take part.count piece) told mid now takes h part.part)

pub stopped-changes : (First : Type 0) (path sent piece : List ℕ) (told mid now : HostTold) (why : HostFault) → TakesFolder told path → HasMade First path sent told mid → AppendsPiece path piece mid now (Err why) → ChangesAt path told now
stopped-changes First path sent piece told mid now why takes h appends =
    let s = stopped-made First path sent piece told mid now why takes h appends in made-changes First path (sent ++ take s.0 piece) told now s.1

-- ---- the whole file

-- a front of the file stands there
front-stands : (First : Type 0) (path sent bytes : List ℕ) (told now : HostTold) → (rest : List ℕ) × (bytes ≡ sent ++ rest) → HasMade First path sent told now → PutsFirst ((path, File bytes) ∷ []) told now
front-stands First path sent bytes told now front h = by h.state
  where
    made_one : (told : HostTold) → now ≡ host_changed (λ tree. insert tree path (File sent)) told → now ≡ host_changed (with_places ((path, File sent) ∷ [])) told
    made_one None is = is
    made_one (Some tree) is = is

    by : ((sent ≡ []) × (now ≡ told) × First) ⊎ (now ≡ host_changed (λ tree. insert tree path (File sent)) told) → PutsFirst ((path, File bytes) ∷ []) told now
    by (inl none) = part-none ((path, File bytes) ∷ []) told now none.1
    by (inr made) = record {
      part = (path, File sent) ∷ [];
      first = inr (refl, refl, (length sent, sym (take-append_seam sent front.0) ∙ ap (take (length sent)) (sym front.1)));
      are_put = made_one told made;
    }

pub file-all : (First : Type 0) (path sent bytes : List ℕ) (told now : HostTold) (mid : Result (List ℕ) DagFault) → prefixed sent mid ≡ Ok bytes → mid ≡ Ok [] → (First → ⊥) → HasMade First path sent told now
    → PutsFile path bytes told now (Ok tt)
file-all First path sent bytes told now mid is none begun h = by h.state
  where
    one : (told : HostTold) → now ≡ host_changed (λ tree. insert tree path (File sent)) told → now ≡ host_changed (with_places ((path, File bytes) ∷ [])) told
    one None made = made
    one (Some tree) made = made ∙ ap (λ (l : List ℕ). Some (insert tree path (File l))) (came-all sent bytes mid is none)

    by : ((sent ≡ []) × (now ≡ told) × First) ⊎ (now ≡ host_changed (λ tree. insert tree path (File sent)) told) → now ≡ host_changed (with_places ((path, File bytes) ∷ [])) told
    by (inl nothing) = absurd (begun nothing.2)
    by (inr made) = one told made

-- the next piece can't be read
pub file-fault : (First : Type 0) (path sent bytes : List ℕ) (told now : HostTold) (mid : Result (List ℕ) DagFault) (fault : DagFault) → prefixed sent mid ≡ Ok bytes → IsFault mid fault → HasMade First path sent told now → PutsFile path bytes told now (Err (fault_of_reading fault))
file-fault First path sent bytes told now mid fault is says h = (came-own sent bytes mid fault is says, front-stands First path sent bytes told now (came-front sent bytes mid is) h)

-- a piece was read, and can't be put there
pub file-stopped : (First : Type 0) (path sent piece bytes : List ℕ) (told mid now : HostTold) (why : HostFault) (next : Result (List ℕ) DagFault) → TakesFolder told path → prefixed (sent ++ piece) next ≡ Ok bytes → HasMade First path sent told mid → AppendsPiece path piece mid now (Err why)
    → PutsFile path bytes told now (Err why)
file-stopped First path sent piece bytes told mid now why next takes is h appends =
    let s = stopped-made First path sent piece told mid now why takes h appends in
    let front = came-front (sent ++ piece) bytes next is in (
      host-stops why appends.0,
      front-stands First path (sent ++ take s.0 piece) bytes told now (
        drop s.0 piece ++ front.0,
        front.1 ∙ ap (λ (l : List ℕ). (sent ++ l) ++ front.0) (sym (take-append-drop s.0 piece)) ∙ ap (λ (l : List ℕ). l ++ front.0) (sym (append_assoc sent (take s.0 piece) (drop s.0 piece)))
            ∙ append_assoc (sent ++ take s.0 piece) (drop s.0 piece) front.0,
      )
          s.1,
    )

-- ---- so far

-- what of a file was put so far, by what was to come of it and what is to come now
pub record PutSoFar (told : Told) (path : List ℕ) (start rest : Rest) (host host_now : HostTold) : Type 0 where
  pub sent : List ℕ
  pub made : HasMade (rest ≡ start) path sent host host_now
  pub came : IfSome told (λ t. to_come (held_at t) start ≡ prefixed sent (to_come (held_at t) rest))

pub so-far-none : (told : Told) (path : List ℕ) (start : Rest) (host : HostTold) → PutSoFar told path start start host host
so-far-none told path start host = record { sent = []; made = made-none (start ≡ start) path host refl; came = by told }
  where
    none : (r : Result (List ℕ) DagFault) → r ≡ prefixed [] r
    none (Ok more) = refl
    none (Err fault) = refl

    by : (told : Told) → IfSome told (λ t. to_come (held_at t) start ≡ prefixed [] (to_come (held_at t) start))
    by None = tt
    by (Some t) = none (to_come (held_at t) start)

pub so-far-more : (told : Told) (path piece : List ℕ) (start rest next : Rest) (host mid now : HostTold) → TakesFolder host path → PutSoFar told path start rest host mid → IfSome told (λ t. IsNextPiece (held_at t) rest next (Ok (Some piece)))
    → now ≡ host_changed (with_piece path piece) mid → PutSoFar told path start next host now
so-far-more told path piece start rest next host mid now takes h says appends = record {
  sent = h.sent ++ piece;
  made = made-next (rest ≡ start) (next ≡ start) path h.sent piece host mid now takes h.made appends;
  came = by told h.came says;
}
  where
    by : (told : Told) → IfSome told (λ t. to_come (held_at t) start ≡ prefixed h.sent (to_come (held_at t) rest)) → IfSome told (λ t. IsNextPiece (held_at t) rest next (Ok (Some piece)))
        → IfSome told (λ t. to_come (held_at t) start ≡ prefixed (h.sent ++ piece) (to_come (held_at t) next))
    by None came says = tt
    by (Some t) came says = came-more h.sent piece (to_come (held_at t) start) (to_come (held_at t) rest) (to_come (held_at t) next) came says

module _ (told : Told) (path : List ℕ) (start rest : Rest) (host mid : HostTold) (h : PutSoFar told path start rest host mid) (t : Contents) (bytes : List ℕ) (tells : told ≡ Some t) (is : to_come (held_at t) start ≡ Ok bytes) where
  came-so : prefixed h.sent (to_come (held_at t) rest) ≡ Ok bytes
  came-so = sym (says-of told t (λ t. to_come (held_at t) start ≡ prefixed h.sent (to_come (held_at t) rest)) tells h.came) ∙ is

  pub so-far-all : (next : Rest) → (rest ≡ start → ⊥) → IfSome told (λ t. IsNextPiece (held_at t) rest next (Ok None)) → PutsFile path bytes host mid (Ok tt)
  so-far-all next begun says =
      file-all (rest ≡ start) path h.sent bytes host mid (to_come (held_at t) rest) came-so (says-of told t (λ t. IsNextPiece (held_at t) rest next (Ok None)) tells says) begun h.made

  pub so-far-fault : (next : Rest) (fault : DagFault) → IfSome told (λ t. IsNextPiece (held_at t) rest next (Err fault)) → PutsFile path bytes host mid (Err (fault_of_reading fault))
  so-far-fault next fault says =
      file-fault (rest ≡ start) path h.sent bytes host mid (to_come (held_at t) rest) fault came-so (says-of told t (λ t. IsNextPiece (held_at t) rest next (Err fault)) tells says) h.made

  pub so-far-stopped : (piece : List ℕ) (next : Rest) (now : HostTold) (why : HostFault) → TakesFolder host path → IfSome told (λ t. IsNextPiece (held_at t) rest next (Ok (Some piece))) → AppendsPiece path piece mid now (Err why) → PutsFile path bytes host now (Err why)
  so-far-stopped piece next now why takes says appends =
      file-stopped (rest ≡ start) path h.sent piece bytes host mid now why (to_come (held_at t) next) takes
      (sym (came-more h.sent piece (to_come (held_at t) start) (to_come (held_at t) rest) (to_come (held_at t) next) (says-of told t (λ t. to_come (held_at t) start ≡ prefixed h.sent (to_come (held_at t) rest)) tells h.came)
      (says-of told t (λ t. IsNextPiece (held_at t) rest next (Ok (Some piece))) tells says)) ∙ is)
      h.made appends
