use Rattle.std.proofs.Common.{refl, arith, ◌∙◌}
use Rattle.std.proofs.lemmas.Result.{err_from_is_err_and}
use Rattle.std.specs.Prelude.{None}
use Rattle.uf_car.proofs.Stops.{imports_on, nothing_asked}
use Rattle.uf_car.proofs.Sections.{goes_first, goes_last, goes_more, goes_wrong}
use Rattle.uf_car.proofs.importing.import_sections.Goals as goal

pub loop-hashed-init : goal.loop-hashed-init
loop-hashed-init g c = record {
  ended = c.requires.ended;
  few = c.requires.place;
  blocks = omega arith;
  reads = λ a e. goes_first g.S.X.BlockHash.block32 c.args.place a _ _ e;
  imports = nothing_asked g.S.X.BlockHash.block32 _;
  counted = refl;
}

pub returns-in_err-import_section-clause-reads : goal.returns-in_err-import_section-clause-reads
returns-in_err-import_section-clause-reads g c = λ a e.
    let out = err_from_is_err_and c.from_residual.result c.from_residual.ensures.1 in
    let on = c.loop-hashed.invariant.reads a e in
    rw (out.1, out.2) (goes_wrong g.S.X.BlockHash.block32 c.args.place a c.loop-hashed.at _ None _ _ _ _ on c.in_err-import_section.field-0.0 (c.in_err-import_section.ensures.reads (on.rest, a.1) on.is_ahead))

pub returns-in_err-import_section-clause-imports : goal.returns-in_err-import_section-clause-imports
returns-in_err-import_section-clause-imports g c =
    let out = err_from_is_err_and c.from_residual.result c.from_residual.ensures.1 in
    rw (out.1, out.2) (imports_on g.S.X.BlockHash.block32 _ _ _ _ c.loop-hashed.invariant.imports c.in_err-import_section.ensures.imports)

pub returns-in-None-clause-reads : goal.returns-in-None-clause-reads
returns-in-None-clause-reads g c = λ a e.
    let on = c.loop-hashed.invariant.reads a e in
    goes_last g.S.X.BlockHash.block32 c.args.place a c.loop-hashed.at _ _ _ _ _ _ on
    (rw c.in-None.is at (c.in_ok-import_section.ensures.reads (on.rest, a.1) on.is_ahead))

pub returns-in-None-clause-imports : goal.returns-in-None-clause-imports
returns-in-None-clause-imports g c = imports_on g.S.X.BlockHash.block32 _ _ _ _ c.loop-hashed.invariant.imports c.in_ok-import_section.ensures.imports

pub loop-hashed-preserved : goal.loop-hashed-preserved
loop-hashed-preserved g c =
    let uses = rw c.in-Some.is at c.in_ok-import_section.ensures.few in
    let some = uses.some in
    let few = uses.few in
    let before = c.loop-hashed.invariant.few in
    let blocks = c.loop-hashed.invariant.blocks in
    record {
      ended = c.in_ok-import_section.ensures.ended;
      few = omega arith;
      blocks = omega arith;
      reads = λ a e.
          let on = c.loop-hashed.invariant.reads a e in
          goes_more g.S.X.BlockHash.block32 c.args.place a c.loop-hashed.at _ _ _ _ _ _ on c.in-Some.used
          (rw c.in-Some.is at (c.in_ok-import_section.ensures.reads (on.rest, a.1) on.is_ahead));
      imports = imports_on g.S.X.BlockHash.block32 _ _ _ _ c.loop-hashed.invariant.imports c.in_ok-import_section.ensures.imports;
      counted = c.in_ok-import_section.ensures.counts.still refl ∙ c.loop-hashed.invariant.counted;
    }
