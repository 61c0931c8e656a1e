-- One reading behind another.
use Rattle.std.proofs.Common.{◌≡◌, ℕ, ◌+◌, ◌-◌, List, ◌++◌, length, Contains, Bool, false, refl, sym, ap, ◌∙◌, subst, arith, append_assoc, length-append, true≢false}
use Rattle.std.proofs.lemmas.List.Elements.{All-contains}
use Rattle.std.specs.Prelude.{None, Some, ◌==◌}
use Rattle.uf_edge.specs.Counts.{Counts}
use Rattle.uf_edge.specs.Streams.{Told, before as in_front}
use Rattle.uf_lines.specs.Reading.{GivesNone, TakesFew, bytes_ahead, may_read}
use Rattle.uf_lines.specs.Seeking.{Wants}
use Rattle.uf_lines.specs.declared.lines.Lines.{Lines}

in_front_twice : (xs ys : List ℕ) (told : Told) → in_front xs (in_front ys told) ≡ in_front (xs ++ ys) told
in_front_twice xs ys None = refl
in_front_twice xs ys (Some left) = ap Some (sym (append_assoc xs ys left))

pub few_then : (a b c : Lines) (left middle now : Told) → TakesFew a b left middle → TakesFew b c middle now → TakesFew a c left now
few_then a b c left middle now first second = record {
  bytes = first.bytes ++ second.bytes;
  taken = first.taken ∙ ap (in_front first.bytes) second.taken ∙ in_front_twice first.bytes second.bytes now;
  few = let size : length (first.bytes ++ second.bytes) ≡ length first.bytes + length second.bytes = length-append first.bytes second.bytes in
      let h = first.few in
      let k = second.few in
      omega (arith, size);
}

pub few_from : (a b c : Lines) (left now : Told) → bytes_ahead b ≡ bytes_ahead a → b.room ≡ a.room → TakesFew b c left now → TakesFew a c left now
few_from a b c left now bytes room few = record {
  bytes = few.bytes;
  taken = few.taken;
  few = let same : may_read b ≡ may_read a = (λ i. room i + 1 - length (bytes i)) in let h = few.few in omega (arith, same);
}

-- more was read behind what wanted more
pub few_read : (a b c d : Lines) (left middle now : Told) → TakesFew a b left middle → Wants b c → TakesFew c d middle now → TakesFew a d left now
few_read a b c d left middle now first wants second = few_then a b d left middle now first (few_from b c d middle now wants.same_bytes wants.same_room second)

pub none_read : (a b c d : Lines) (left middle now : Told) → GivesNone a b left middle → Wants b c → GivesNone c d middle now → GivesNone a d left now
none_read a b c d left middle now first wants second = record {
  same_bytes = second.same_bytes ∙ ap (λ (xs : List ℕ). in_front xs middle) wants.same_bytes ∙ first.same_bytes;
  same_room = second.same_room ∙ wants.same_room ∙ first.same_room;
}

-- what wants more has no LF
pub wants_none : (a b c : Lines) → Wants b c → bytes_ahead b ≡ bytes_ahead a → ¬ Contains (bytes_ahead a) 10
wants_none a b c wants same there =
    let C : List ℕ → Type 0 = λ xs. Contains xs 10 in
    let h : (10 == 10) ≡ false = All-contains (λ x. (x == 10) ≡ false) (bytes_ahead c) 10 wants.needs.no_feed (subst C (sym same ∙ sym wants.same_bytes) there) in
    true≢false h

-- a count that stood still
pub counts_of : (is_fault : Bool) (before now : ℕ) → is_fault ≡ false → now ≡ before → Counts is_fault before now
counts_of is_fault before now none same = record { later = omega (arith, same); rose = λ is. absurd (true≢false (sym is ∙ none)); still = λ is. same }
