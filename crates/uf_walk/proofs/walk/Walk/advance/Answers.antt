use Rattle.std.proofs.Common.{refl, sym, ap, ◌∙◌, length, map, drop, arith}
use Rattle.std.proofs.lemmas.List.{length-map}
use Rattle.uf_walk.proofs.Keys.{inserted}
use Rattle.uf_walk.proofs.Passing.{first_of, nothing, popped}
use Rattle.uf_walk.proofs.Steps.{ends_inside, full_inside, hands_inside, is_new}
use Rattle.uf_walk.proofs.walk.Walk.advance.Goals as goal

pub returns-in_default : goal.returns-in_default
returns-in_default c =
    ends_inside _ _ _ c.self.view_is c.requires refl (ap (map (λ k. k.cid)) c.in_ok-reserve.ensures.keys) refl c.pass_over.ensures (nothing _ c.in_default.ensures)

pub returns-then-len-self : goal.returns-then-len-self
returns-then-len-self c =
    full_inside _ _ _ c.in-Some.cid (drop 1 c.pass_over.new.ahead) c.self.view_is c.requires refl (ap (map (λ k. k.cid)) c.in_ok-reserve.ensures.keys) refl c.pass_over.ensures
    (first_of _ _ c.in-Some.ensures)
    (length-map _ _ ∙ sym (ap length c.in_ok-reserve.ensures.keys) ∙ sym c.len.ensures.len ∙ c.if-len-self.true)

pub returns : goal.returns
returns c =
    let next = c.in-Some.cid in
    let first = popped _ _ _ next c.in-Some.ensures c.pop_front.ensures in
    hands_inside _ _ _ next _ _ c.self.view_is c.requires refl (ap (map (λ k. k.cid)) c.in_ok-reserve.ensures.keys)
    (inserted _ _ (record { cid = next }) c.in-Ok.ensures.keys (is_new _ _ _ next c.pass_over.ensures.starts_new first))
    refl c.pass_over.ensures first
    (let same = ap length c.in_ok-reserve.ensures.keys in simp length-map (omega (arith, same, c.self.invariant, c.len.ensures.len, c.if-len-self.false)))
