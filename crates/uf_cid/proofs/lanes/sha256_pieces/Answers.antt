use Rattle.std.proofs.Common.{◌≡◌, ℕ, List, [], ◌+◌, ◌-◌, ◌*◌, inl, inr, length, take, drop, slice_index_or, ap, sym, arith, ◌∙◌}
use Rattle.std.proofs.lemmas.Bool.{cases_lt}
use Rattle.sha2.specs.Sha256.{sha256}
use Rattle.uf_cid.proofs.Messages.{pieces_at, pieces_fit}
use Rattle.uf_cid.proofs.lanes.sha256_pieces.Goals as goal

pub write_group-requires-clause-inside : goal.write_group-requires-clause-inside
write_group-requires-clause-inside c =
    pieces_fit (8 * c.groups.g) 8 (length c.args.out.now) c.args.size (length c.args.bytes.now) (omega arith) c.requires

pub groups-preserved : goal.groups-preserved
groups-preserved c =
    let size = c.args.size in
    let d = c.args.bytes.now in
    let p : ℕ = 8 * c.groups.g in
    let out : List (List ℕ) = c.write_group.new.out in (
      c.write_group.ensures.length ∙ c.groups.invariant.0,
      λ i lt. elim (cases_lt i p) [
        | inl below ↦ c.write_group.ensures.before i below ∙ c.groups.invariant.1 i below
        | inr above ↦
            let e : p + (i - p) ≡ i = omega arith in
            ap (λ k. slice_index_or out k []) (sym e) ∙ c.write_group.ensures.written (i - p) (omega arith)
            ∙ ap (λ k. sha256 (take size (drop k d))) (pieces_at p (i - p) i size e)
      ],
    )
