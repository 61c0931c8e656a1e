use Rattle.std.proofs.Common.{◌≡◌, ◌*◌, ◌∙◌, ap, arith, refl, sym, ◌+◌, slice_index}
use Rattle.std.proofs.lemmas.List.{length-map}
use Rattle.sha2.specs.Sha256.{add_state, compress, rounds, word_at}
use Rattle.sha2.proofs.Schedule256.{IsRoundsAt_at, IsWindow_first}
use Rattle.uf_cid.specs.Lanes.{lane, part_of, words}
use Rattle.uf_cid.proofs.LaneLemmas.{word_at-part, word_in}
use Rattle.uf_cid.proofs.lanes.block.compress.Goals as goal

pub first-init : goal.first-init
unfolding rounds
first-init c = λ j lt.
    let d = c.args.bytes.now in
    let p = j * c.args.size + c.args.at in (
      IsWindow_first (part_of d c.args.size j c.args.at 64) (words j c.load.w)
          (length-map c.load.w (λ v. slice_index v j) ∙ c.load.invariant.0)
          (λ k below. word_in c.load.w j k (omega arith) ∙ c.load.invariant.1 j lt k (omega arith)
          ∙ ap (word_at d) (omega arith) ∙ sym (word_at-part d p (4 * k) (omega arith))),
      refl,
    )

pub places-preserved : goal.places-preserved
places-preserved c = λ j lt.
    let one = c.step-v.ensures j lt _ _ (c.places.invariant j lt) in
    IsRoundsAt_at _ _ _ _ (16 * c.turns.turn + (2 * c.places.pair + 1 + 1)) _ (omega arith)
    (c.step-v-in-places.ensures j lt _ _ one)

pub returns : goal.returns
unfolding compress
returns c = λ j lt.
    let done : 16 * c.turns.turn ≡ 64 = omega (arith, c.turns.auto.turn-end (omega arith)) in
    rw (
      c.add.ensures j lt,
      c.add-2.ensures j lt,
      c.add-3.ensures j lt,
      c.add-4.ensures j lt,
      c.add-5.ensures j lt,
      c.add-6.ensures j lt,
      c.add-7.ensures j lt,
      c.add-8.ensures j lt,
    ) (ap (add_state (lane j c.args.state.now)) (rw done at (c.turns.invariant j lt).1))
