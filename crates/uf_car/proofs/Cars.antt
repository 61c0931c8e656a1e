-- A CAR: its header and its sections.
use Rattle.std.proofs.Common.{◌≡◌, ℕ, List, [], length, take, drop, Bool, false, sym, ap, subst, arith, Ok, Err, Result}
use Rattle.std.specs.Prelude.{nat_lt, Some}
use Rattle.uf_cid.specs.declared.cid.Cid.{Cid}
use Rattle.uf_edge.specs.Streams as streams
use Rattle.uf_store.specs.Contents.{Told}
use Rattle.uf_car.specs.declared.fault.CarFault.{CarFault}
use Rattle.uf_car.specs.declared.window.Supply.TheVariants.{Open}
use Rattle.uf_car.specs.declared.window.Window.{Window}
use Rattle.uf_car.specs.Importing.{IsOfInput, KeepsAll, RefusesCar, stops}
use Rattle.uf_car.specs.Reading.{Read, behind_header, header_at, read_over, rooted, sections_of}
use Rattle.uf_car.specs.Windows.{ahead, ahead_of, window_bytes}
use Rattle.uf_car.proofs.Sections.{saved_none}
use Rattle.uf_car.proofs.Stops.{no_clash}

-- nothing was read yet
pub at_first : (w : Window) (limit : ℕ) (told : streams.Told) (bytes : List ℕ) → window_bytes w ≡ [] → w.room ≡ limit → w.supply ≡ Open → told ≡ Some bytes
    → ahead w told ≡ Some (take limit bytes, nat_lt limit (length bytes))
at_first w limit told bytes none room supply is = λ i. ahead_of (none i) (room i) (supply i) (is i)

module _ (hash : List ℕ → List ℕ) (over : Bool) (bytes : List ℕ) where
  whole_fault : (f : CarFault) → header_at over bytes ≡ Err f → read_over hash over bytes ≡ record { sections = []; answer = Err f }
  whole_fault f e = ap (behind_header hash over bytes) e

  whole_roots : (roots : List Cid) (place : ℕ) → header_at over bytes ≡ Ok (roots, place) → read_over hash over bytes ≡ rooted roots (sections_of hash over place (drop place bytes))
  whole_roots roots place e = ap (behind_header hash over bytes) e

  -- the header was refused
  pub header_refused : (f : CarFault) (told : Told) → IsOfInput f → (stops f ≡ false → header_at over bytes ≡ Err f) → RefusesCar (read_over hash over bytes) f told told
  header_refused f told input says = record {
    said = λ plain. ap (λ (r : Read (List Cid)). r.answer) (whole_fault f (says plain));
    kept = record {
      count = 0;
      few = omega arith;
      kept = saved_none told;
      all = λ plain. sym (ap (λ (r : Read (List Cid)). length r.sections) (whole_fault f (says plain)));
      next = no_clash _ f input;
    };
  }

  module _ (roots : List Cid) (place : ℕ) (is : header_at over bytes ≡ Ok (roots, place)) (told now : Told) where
    rooted_fault : (r : Read Unit) (f : CarFault) → r.answer ≡ Err f → (rooted roots r).answer ≡ Err f
    rooted_fault r f e = ap (λ (x : Result Unit CarFault). elim x as (λ y. Result (List Cid) CarFault) [ Ok done ↦ Ok roots | Err g ↦ Err g ]) e

    rooted_done : (r : Read Unit) → r.answer ≡ Ok tt → (rooted roots r).answer ≡ Ok roots
    rooted_done r e = ap (λ (x : Result Unit CarFault). elim x as (λ y. Result (List Cid) CarFault) [ Ok done ↦ Ok roots | Err g ↦ Err g ]) e

    pub sections_refused : (f : CarFault) → RefusesCar (sections_of hash over place (drop place bytes)) f told now → RefusesCar (read_over hash over bytes) f told now
    sections_refused f r = subst (λ (x : Read (List Cid)). RefusesCar x f told now) (sym (whole_roots roots place is)) (record {
      said = λ plain. rooted_fault (sections_of hash over place (drop place bytes)) f (r.said plain);
      kept = r.kept;
    })

    pub sections_kept : (blocks : ℕ) → KeepsAll (sections_of hash over place (drop place bytes)) tt blocks told now → KeepsAll (read_over hash over bytes) roots blocks told now
    sections_kept blocks k = subst (λ (x : Read (List Cid)). KeepsAll x roots blocks told now) (sym (whole_roots roots place is)) (record {
      said = rooted_done (sections_of hash over place (drop place bytes)) k.said;
      count = k.count;
      kept = k.kept;
    })
