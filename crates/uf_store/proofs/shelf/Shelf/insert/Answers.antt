use Rattle.std.proofs.Common.{◌≡◌, true, false, sym, ◌∙◌}
use Rattle.uf_store.proofs.Holding.{from_entries-inserted, whole-put}
use Rattle.uf_store.proofs.shelf.Shelf.insert.Goals as goal
use Rattle.uf_store.proofs.shelf.Shelf.insert.Goals.{then-self, else-self}

pub returns-clause-held : goal.returns-clause-held
returns-clause-held g c = from_entries-inserted _ _ _ _ c.in_ok-insert.ensures.updates.0

pub invariant_of-self : goal.invariant_of-self
invariant_of-self g c = record {
  whole = λ known. elim c.if-self.branch [
    | then-self w ↦ whole-put g.X.BlockHash.block32 c.insert.result _ _ _ _ c.insert.ensures.updates (λ u. from_entries-inserted _ _ _ _ u.0) c.insert.ensures.err (c.requires (sym w.self-is ∙ known)) (c.args.self.now.whole w.if-self.true)
    | else-self w ↦ absurd (let no : false ≡ true = sym w.if-self.false ∙ sym w.self-is ∙ known in cc)
  ];
}
