-- What is found before anything is written.
use Rattle.std.proofs.Common.{◌≡◌, ◌≤◌, arith, ℕ, List, [], ◌∷◌, refl, sym, subst, ◌∙◌, inl, inr, Some, None, Result, Ok, Err}
use Rattle.uf_cid.specs.Blocks.{Held, Lookup}
use Rattle.uf_cid.specs.Blocks as blocks
use Rattle.uf_cid.specs.declared.cid.Cid.{Cid}
use Rattle.uf_edge.specs.Streams.{Told as SinkTold}
use Rattle.uf_fileread.specs.Ranges.{ShowsRange, WritesOver}
use Rattle.uf_fileread.specs.declared.fault.RangeFault.{RangeFault}
use Rattle.uf_fileread.specs.declared.fault.RangeFault.TheVariants as range
use Rattle.uf_store.specs.Contents.{Told, held_at}
use Rattle.uf_store.specs.Keeping.{Agrees, Holds}
use Rattle.uf_store.specs.Lost.{IsFirstLost}
use Rattle.uf_store.specs.Seen.{Seen}
use Rattle.uf_store.specs.declared.store.Role.{Role}
use Rattle.uf_store.proofs.Calls.{shown-rises}
use Rattle.uf_store.specs.declared.store.StoreFault.TheVariants as store
use Rattle.uf_light.specs.declared.fault.LightFault.{LightFault}
use Rattle.uf_light.specs.declared.fault.LightFault.TheVariants as fault
use Rattle.uf_light.specs.Answers.{of_range}
use Rattle.uf_light.specs.Sending.{ComesFirst, SendsAbsent}

-- where the sink is as it was
pub first-still : (f : LightFault) (out : SinkTold) → ComesFirst (Err f) out out
first-still (fault.NotFound k) out = refl
first-still (fault.NotADirectory k) out = refl
first-still fault.IsADirectory out = refl
first-still fault.Exists out = refl
first-still (fault.OtherRoot c) out = refl
first-still (fault.Car g) out = refl
first-still fault.Sink out = tt
first-still (fault.Store store.Failed) out = refl
first-still (fault.Store (store.Damaged c)) out = refl
first-still (fault.Store (store.Missing c)) out = refl
first-still (fault.Store (store.BadBlock c role)) out = refl
first-still (fault.Store (store.Clash c a b)) out = refl
first-still (fault.Store store.Memory) out = tt

-- blocks that are all held have no first that is lost
not-first : (held : Lookup) (c : Cid) (l : List Held) → blocks.Holds held l → IsFirstLost held c l → ⊥
not-first held c [] h x = x
not-first held c (b ∷ l) h (inl x) = (let no : None ≡ Some b.1 = sym x.1 ∙ h.0 in cc)
not-first held c (b ∷ l) h (inr x) = not-first held c l h.1 x.1

-- a range that was read once is there when it is read again
pub first-again : (told : Told) (plan l : List Held) (bytes : List ℕ) (out out_now : SinkTold) (f : RangeFault) → Agrees told plan → Holds told l → WritesOver told l bytes out out_now (Err f)
    → ComesFirst (Err (of_range f)) out out_now
first-again None plan l bytes out out_now f agrees h w = absurd agrees
first-again (Some t) plan l bytes out out_now f agrees h w = by f h w
  where
    by : (f : RangeFault) → Holds (Some t) l → WritesOver (Some t) l bytes out out_now (Err f) → ComesFirst (Err (of_range f)) out out_now
    by range.Sink h w = tt
    by (range.Store store.Failed) h w = absurd w
    by (range.Store (store.Damaged c)) h w = absurd w
    by (range.Store (store.Missing c)) h w = absurd (not-first (held_at t) c l h w)
    by (range.Store (store.BadBlock c role)) h w = absurd w
    by (range.Store (store.Clash c a b)) h w = absurd w
    by (range.Store store.Memory) h w = tt

-- the line that nothing is at a path
pub first-absent : (text : List ℕ) (r : Result ℕ LightFault) (out out_now : SinkTold) → SendsAbsent text r out out_now → ComesFirst r out out_now
first-absent text (Ok n) out out_now h = tt
first-absent text (Err fault.Sink) out out_now h = tt
first-absent text (Err (fault.Store f)) out out_now h = subst (λ (g : LightFault). ComesFirst (Err g) out out_now) (sym h.0) tt
first-absent text (Err (fault.NotFound k)) out out_now h = h.1
first-absent text (Err (fault.NotADirectory k)) out out_now h = h.1
first-absent text (Err fault.IsADirectory) out out_now h = h.1
first-absent text (Err fault.Exists) out out_now h = h.1
first-absent text (Err (fault.OtherRoot c)) out out_now h = h.1
first-absent text (Err (fault.Car f)) out out_now h = h.1

-- a range that wasn't written has not lowered the count of failures
pub range-rises : (hash : List ℕ → List ℕ) (Bad : Role → List ℕ → Type 0) (a b : Seen) (n m : ℕ) (f : RangeFault) → ShowsRange hash Bad (Err f) a b n m → a.faults ≤ b.faults
range-rises hash Bad a b n m range.Sink h = let same = h.0.faults in omega (arith, same)
range-rises hash Bad a b n m (range.Store f) h = (shown-rises hash Bad (Some f) a b h.0).faults
