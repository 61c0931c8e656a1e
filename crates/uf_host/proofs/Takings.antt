-- What a builder takes of a host's file, one reading after another.
use Rattle.std.proofs.Common.{◌≡◌, ℕ, ◌+◌, ◌<◌, ◌≤◌, List, [], ◌++◌, length, take, drop, false, refl, ap, sym, ◌∙◌, subst, arith, length-append, length-drop, length-take, length-take-le, take-add, take-append-drop, take_all, append-nil}
use Rattle.std.specs.Prelude.{Some, None}
use Rattle.std.specs.declared.result.Result.TheVariants.{Ok}
use Rattle.uf_build.specs.Answers.{IsFeedAnswer}
use Rattle.uf_build.specs.Building.{Building, HasFed, HoldsFed, SavesForFront}
use Rattle.uf_build.proofs.Among.{front-more as saves-more, front-same, front-trans, front-whole}
use Rattle.uf_cid.specs.Bytes.{IsBytes, IsBytes-append}
use Rattle.uf_edge.specs.Host.{HostTold, IsFileAt, ReadsAt}
use Rattle.uf_edge.specs.declared.host.Fetched.TheVariants as fetched
use Rattle.uf_edge.specs.declared.host.Place.TheVariants as place
use Rattle.uf_store.specs.Among.{SavesAmong}
use Rattle.uf_store.proofs.Among.{SavesAmong-trans}
use Rattle.uf_store.specs.Contents.{Told}
use Rattle.uf_store.specs.Keeping.{Holds}
use Rattle.uf_tree.specs.Metas.{none}
use Rattle.uf_tree.specs.FilePlan.{file_plan}
use Rattle.uf_tree.specs.Profiles.{most_bytes}
use Rattle.uf_tree.specs.declared.nodes.Entry.{Entry}
use Rattle.uf_tree.specs.declared.profile.Profile.{Profile}
use Rattle.uf_host.specs.Faults.{IsSaidOr}
use Rattle.uf_host.specs.Reading.{ClosesHostFile, FedFront, IsAddedFile, IsLongFile, IsTooMuch, OfFileAt, SavesFileAt, StopsNext, TakesAll, TakesNext, TookBytes}
use Rattle.uf_host.specs.declared.fault.HostFault.{HostFault}
use Rattle.uf_host.specs.declared.fault.HostFault.TheVariants as faults
use Rattle.uf_host.proofs.Saids.{said-more, told-both, told-more}

-- a front of a list and what comes next is a longer front
front-more : (front piece whole : List ℕ) → front ≡ take (length front) whole → piece ≡ take (length piece) (drop (length front) whole)
    → front ++ piece ≡ take (length (front ++ piece)) whole
front-more front piece whole is next =
    ap (λ xs. xs ++ piece) is ∙ ap (λ ys. take (length front) whole ++ ys) next
    ∙ sym (take-add (length front) (length piece) whole) ∙ ap (λ n. take n whole) (sym (length-append front piece))

-- where a piece is there, the list reaches as far
reach : (a : ℕ) (whole piece : List ℕ) → 0 < length piece → piece ≡ take (length piece) (drop a whole) → a + length piece ≤ length whole
reach a whole piece some is =
    let size : length piece ≡ length (take (length piece) (drop a whole)) = ap length is in
    grind (arith, size, length-take (length piece) (drop a whole), length-drop a whole, some)

-- of the bytes of a file
pub file-more : (host : HostTold) (path : List ℕ) (P Q : List ℕ → Type 0) → ((whole : List ℕ) → P whole → Q whole) → OfFileAt host path P → OfFileAt host path Q
file-more host path P Q more h = told-more host _ _ (λ tree h bytes there. more bytes (h bytes there)) h

pub file-both : (host : HostTold) (path : List ℕ) (P Q R : List ℕ → Type 0) → ((whole : List ℕ) → P whole → Q whole → R whole)
    → OfFileAt host path P → OfFileAt host path Q → OfFileAt host path R
file-both host path P Q R more h k = told-both host _ _ _ (λ tree h k bytes there. more bytes (h bytes there) (k bytes there)) h k

module _ (X : List ℕ → List ℕ) (p : Profile) where
  pub new-taken : (told : Told) (b : Building) → HasFed X [] b → HoldsFed X [] told b → b.fed ≡ 0 → b.profile ≡ p → b.is_spent ≡ false → TookBytes X p told [] b
  new-taken told b fed held count profile ready = record { fed = fed; held = held; count = count; few = omega arith; profile = profile; ready = ready; are_bytes = tt }

  -- a builder that was given a piece has taken it
  pub taken-more : (told told_now : Told) (bytes piece : List ℕ) (b now : Building) → TookBytes X p told bytes b
      → IsFeedAnswer b (length piece) now (Ok tt) → now.profile ≡ b.profile → HasFed X (bytes ++ piece) now
      → HoldsFed X (bytes ++ piece) told_now now → IsBytes piece → TookBytes X p told_now (bytes ++ piece) now
  taken-more told told_now bytes piece b now taken answer profile fed held are_bytes =
      let both = length-append bytes piece in
      let count = taken.count in
      let fits : b.fed + length piece ≤ most_bytes p = subst (λ (q : Profile). b.fed + length piece ≤ most_bytes q) taken.profile answer.1 in
      record {
        fed = fed;
        held = held;
        count = answer.3 ∙ ap (λ n. n + length piece) count ∙ sym both;
        few = omega (arith, both, count, fits);
        profile = profile ∙ taken.profile;
        ready = answer.2;
        are_bytes = IsBytes-append bytes piece taken.are_bytes are_bytes;
      }

  pub too-much : (told : Told) (path bytes piece : List ℕ) (b : Building) → TookBytes X p told bytes b → most_bytes b.profile < b.fed + length piece
      → IsTooMuch p path bytes piece (faults.FileTooLong path)
  too-much told path bytes piece b taken many = record {
    is = refl;
    many = subst (λ n. most_bytes p < n + length piece) taken.count (subst (λ (q : Profile). most_bytes q < b.fed + length piece) taken.profile many);
  }

  -- a piece that was read and taken
  pub next-taken : (before told : Told) (host : HostTold) (path bytes buffer piece : List ℕ) (offset count : ℕ) (b : Building) → offset ≡ length bytes
      → piece ≡ take count buffer → ReadsAt (fetched.Got count) offset buffer host path → TookBytes X p told (bytes ++ piece) b → SavesForFront X p (bytes ++ piece) before told
      → TakesNext X p before told host path bytes b count
  next-taken before told host path bytes buffer piece offset count b at is reads taken saves = record {
    piece = piece;
    size = ap length is ∙ length-take-le count buffer reads.fits;
    taken = taken;
    is = file-more host path (λ whole. take count buffer ≡ take count (drop offset whole)) (λ whole. piece ≡ take count (drop (length bytes) whole))
        (λ whole h. is ∙ h ∙ ap (λ n. take count (drop n whole)) at) reads.bytes;
    ends = λ none. absurd (let some = reads.some in omega (arith, none, some));
    no_other = saves;
  }

  -- a piece that was read, and whatever came of it
  pub next-stops : (before told : Told) (host : HostTold) (path bytes buffer piece : List ℕ) (offset count : ℕ) → offset ≡ length bytes
      → piece ≡ take count buffer → ReadsAt (fetched.Got count) offset buffer host path → SavesForFront X p (bytes ++ piece) before told
      → StopsNext X p before told host path bytes
  next-stops before told host path bytes buffer piece offset count at is reads saves =
      let size : length piece ≡ count = ap length is ∙ length-take-le count buffer reads.fits in
      record {
        piece = piece;
        is = file-more host path (λ whole. take count buffer ≡ take count (drop offset whole)) (λ whole. piece ≡ take (length piece) (drop (length bytes) whole))
            (λ whole h. is ∙ h ∙ ap (λ n. take n (drop offset whole)) (sym size) ∙ ap (λ n. take (length piece) (drop n whole)) at) reads.bytes;
        no_other = saves;
      }

  -- nothing was read
  pub next-none : (told : Told) (host : HostTold) (path bytes : List ℕ) → StopsNext X p told told host path bytes
  next-none told host path bytes = record { piece = []; is = by host; no_other = front-same X p (bytes ++ []) told }
    where
      by : (h : HostTold) → OfFileAt h path (λ whole. [] ≡ take 0 (drop (length bytes) whole))
      by None = tt
      by (Some tree) = λ whole there. refl

  -- what a builder by this profile saves of a piece
  pub piece-saves : (before told told_now : Told) (bytes piece : List ℕ) (b : Building) → TookBytes X p told bytes b → ((l : List ℕ) → HasFed X l b → SavesForFront X b.profile (l ++ piece) before told_now)
      → SavesForFront X p (bytes ++ piece) before told_now
  piece-saves before told told_now bytes piece b taken saves = subst (λ (q : Profile). SavesForFront X q (bytes ++ piece) before told_now) taken.profile (saves bytes taken.fed)

  -- a piece that was read and is too much
  pub next-long : (host : HostTold) (path bytes buffer piece : List ℕ) (offset count : ℕ) (fault : HostFault) → offset ≡ length bytes
      → piece ≡ take count buffer → ReadsAt (fetched.Got count) offset buffer host path
      → IsSaidOr (IsTooMuch p path bytes piece) fault → IsSaidOr (IsLongFile p host path) fault
  next-long host path bytes buffer piece offset count fault at is reads said =
      said-more (IsTooMuch p path bytes piece) (IsLongFile p host path) fault (λ much. record {
        is = much.is;
        many = file-more host path (λ whole. take count buffer ≡ take count (drop offset whole)) (λ whole. most_bytes p < length whole)
            (λ whole h.
            let size : length piece ≡ count = ap length is ∙ length-take-le count buffer reads.fits in
            let some : 0 < length piece = subst (λ n. 0 < n) (sym size) reads.some in
            let next : piece ≡ take (length piece) (drop (length bytes) whole) = is ∙ h ∙ ap (λ n. take n (drop offset whole)) (sym size) ∙ ap (λ n. take (length piece) (drop n whole)) at in
            let far = reach (length bytes) whole piece some next in
            omega (arith, far, much.many)) reads.bytes;
      }) said

  -- the end was read
  pub next-end : (told : Told) (host : HostTold) (path bytes buffer : List ℕ) (offset : ℕ) (b : Building) → offset ≡ length bytes
      → ReadsAt fetched.End offset buffer host path → TookBytes X p told bytes b → TakesNext X p told told host path bytes b 0
  next-end told host path bytes buffer offset b at reads taken = record {
    piece = [];
    size = refl;
    taken = subst (λ (xs : List ℕ). TookBytes X p told xs b) (sym (append-nil bytes)) taken;
    is = file-more host path (λ whole. length whole ≤ offset) (λ whole. [] ≡ take 0 (drop (length bytes) whole)) (λ whole h. refl) reads;
    ends = λ none. file-more host path (λ whole. length whole ≤ offset) (λ whole. length whole ≤ length bytes) (λ whole h. subst (λ n. length whole ≤ n) at h) reads;
    no_other = front-same X p (bytes ++ []) told;
  }

  pub new-front : (told : Told) (host : HostTold) (path : List ℕ) (b : Building) → TookBytes X p told [] b → FedFront X p told told host path b 0
  new-front told host path b taken = record { bytes = []; taken = taken; size = refl; is = by host; no_other = front-same X p [] told }
    where
      by : (h : HostTold) → OfFileAt h path (λ whole. [] ≡ take 0 whole)
      by None = tt
      by (Some tree) = λ whole there. refl

  pub front-next : (start told told_now : Told) (host : HostTold) (path : List ℕ) (b now : Building) (offset count : ℕ)
      → (front : FedFront X p start told host path b offset) → TakesNext X p told told_now host path front.bytes now count
      → FedFront X p start told_now host path now (offset + count)
  front-next start told told_now host path b now offset count front next = record {
    bytes = front.bytes ++ next.piece;
    taken = next.taken;
    size = ap (λ n. n + count) front.size ∙ ap (λ n. length front.bytes + n) (sym next.size) ∙ sym (length-append front.bytes next.piece);
    is = file-both host path (λ whole. front.bytes ≡ take (length front.bytes) whole) (λ whole. next.piece ≡ take count (drop (length front.bytes) whole))
        (λ whole. front.bytes ++ next.piece ≡ take (length (front.bytes ++ next.piece)) whole)
        (λ whole is more. front-more front.bytes next.piece whole is (more ∙ ap (λ n. take n (drop (length front.bytes) whole)) (sym next.size))) front.is next.is;
    no_other = front-trans X p (front.bytes ++ next.piece) start told told_now (saves-more X p front.bytes next.piece start told front.no_other) next.no_other;
  }

  pub front-all : (start told told_now : Told) (host : HostTold) (path : List ℕ) (b now : Building) (offset count : ℕ)
      → (front : FedFront X p start told host path b offset) → count ≡ 0 → TakesNext X p told told_now host path front.bytes now count
      → TakesAll X p start told_now host path now
  unfolding front-next
  front-all start told told_now host path b now offset count front none next =
      let more = front-next start told told_now host path b now offset count front next in
      let size : length more.bytes ≡ length front.bytes = length-append front.bytes next.piece ∙ ap (λ n. length front.bytes + n) (next.size ∙ none) ∙ grind arith in
      record {
        bytes = more.bytes;
        taken = more.taken;
        is = file-both host path (λ whole. more.bytes ≡ take (length more.bytes) whole) (λ whole. length whole ≤ length front.bytes) (λ whole. whole ≡ more.bytes) (λ whole is ends. sym (is ∙ take_all (length more.bytes) whole (omega (arith, size, ends)))) more.is (next.ends none);
        no_other = more.no_other;
      }

  pub room-left : (start told : Told) (host : HostTold) (path : List ℕ) (b : Building) (offset : ℕ) → FedFront X p start told host path b offset → offset ≤ most_bytes p
  room-left start told host path b offset front = subst (λ n. n ≤ most_bytes p) (sym front.size) front.taken.few

  -- what is saved of a whole file
  all-saves : (start told told_now : Told) (host : HostTold) (path : List ℕ) (b : Building) (all : TakesAll X p start told host path b)
      → ((bytes : List ℕ) → HasFed X bytes b → SavesAmong X (file_plan X b.profile none bytes).blocks told told_now) → SavesAmong X (file_plan X p none all.bytes).blocks start told_now
  all-saves start told told_now host path b all ends =
      SavesAmong-trans X (file_plan X p none all.bytes).blocks start told told_now (front-whole X p none all.bytes start told all.no_other)
      (subst (λ (q : Profile). SavesAmong X (file_plan X q none all.bytes).blocks told told_now) all.taken.profile (ends all.bytes all.taken.fed))

  -- the file of what was taken
  pub file-added : (start told told_now : Told) (host : HostTold) (path : List ℕ) (b : Building) (e : Entry) → TakesAll X p start told host path b
      → ClosesHostFile X told told_now b e → ((bytes : List ℕ) → HasFed X bytes b → SavesAmong X (file_plan X b.profile none bytes).blocks told told_now) → IsAddedFile X p start told_now host path e
  file-added start told told_now host path b e all closes ends = record {
    bytes = all.bytes;
    are_bytes = all.taken.are_bytes;
    few = all.taken.few;
    is = all.is;
    entry_is = subst (λ (q : Profile). e ≡ (file_plan X q none all.bytes).entry) all.taken.profile (closes.entry_is all.bytes all.taken.fed);
    held = subst (λ (q : Profile). Holds told_now (file_plan X q none all.bytes).blocks) all.taken.profile (closes.held all.bytes all.taken.held);
    no_other = all-saves start told told_now host path b all ends;
  }

  -- a file whose end was not saved
  pub file-unclosed : (start told told_now : Told) (host : HostTold) (path : List ℕ) (b : Building) → TakesAll X p start told host path b
      → ((bytes : List ℕ) → HasFed X bytes b → SavesAmong X (file_plan X b.profile none bytes).blocks told told_now) → SavesFileAt X p start told_now host path
  file-unclosed start told told_now host path b all ends = record { bytes = all.bytes; is = all.is; no_other = all-saves start told told_now host path b all ends }

  -- a file whose reading stopped
  pub front-stops : (start told told_now : Told) (host : HostTold) (path : List ℕ) (b : Building) (offset : ℕ) → IsFileAt host path
      → (front : FedFront X p start told host path b offset) → StopsNext X p told told_now host path front.bytes → SavesFileAt X p start told_now host path
  front-stops start told told_now host path b offset file front next = by host file front.is next.is
    where
      read : List ℕ
      read = front.bytes ++ next.piece

      saves : SavesForFront X p read start told_now
      saves = front-trans X p read start told told_now (saves-more X p front.bytes next.piece start told front.no_other) next.no_other

      by : (h : HostTold) → IsFileAt h path → OfFileAt h path (λ whole. front.bytes ≡ take (length front.bytes) whole) → OfFileAt h path (λ whole. next.piece ≡ take (length next.piece) (drop (length front.bytes) whole))
          → SavesFileAt X p start told_now h path
      by None file is more = record { bytes = read; is = tt; no_other = front-whole X p none read start told_now saves }
      by (Some tree) file is more =
          let cut = front-more front.bytes next.piece file.bytes (is file.bytes file.there) (more file.bytes file.there) in
          let whole : read ++ drop (length read) file.bytes ≡ file.bytes = ap (λ xs. xs ++ drop (length read) file.bytes) cut ∙ take-append-drop (length read) file.bytes in
          record {
            bytes = file.bytes;
            is = λ bytes there. (let same : Some (place.File bytes) ≡ Some (place.File file.bytes) = sym there ∙ file.there in cc);
            no_other = subst (λ (l : List ℕ). SavesAmong X (file_plan X p none l).blocks start told_now) whole (saves none (drop (length read) file.bytes));
          }
