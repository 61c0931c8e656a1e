use Rattle.std.proofs.Common.{◌≤◌, ◌<◌, ◌+◌, ◌-◌, ℕ, List, [], get_or, ap, arith, refl, subst, sym, ◌∙◌, rules}
use Rattle.std.proofs.lemmas.Result.{err_from_is_err_and}
use Rattle.std.specs.Prelude.{IfErr}
use Rattle.uf_cid.specs.declared.cid.Codec.TheVariants.{Raw}
use Rattle.uf_edge.specs.Counts.{Stood}
use Rattle.uf_store.specs.Contents.{Told}
use Rattle.uf_store.specs.Keeping.{Agrees}
use Rattle.uf_store.specs.Lost.{IsLossOf}
use Rattle.uf_store.proofs.Keeping.{KeepsGood-same}
use Rattle.uf_tree.specs.FileSub.{blocks_over}
use Rattle.uf_tree.specs.declared.nodes.Part.{Part}
use Rattle.uf_fileedit.proofs.Remade.{all-below, all-of, all-stand, below-result, blamed-result, front-blamed, front-missed, front-result, lost-result, stand-result}
use Rattle.uf_fileedit.proofs.growing.front_parts.Goals as goal

abbrev nowhere : Part
nowhere = record { entry = record { cid = record { codec = Raw; digest = [] }; tsize = 0 }; size = 0 }

pub returns-then-layer-saturating_sub-clause-gives : goal.returns-then-layer-saturating_sub-clause-gives
returns-then-layer-saturating_sub-clause-gives g c = (
  (λ gs are agrees. all-of g.S.X.BlockHash.block32 c.args.layer.p (c.args.layer.top - 1) c.args.layer.height c.args.olds gs (let s = c.saturating_sub.ensures in let i = c.if-layer-saturating_sub.true in let e : (c.args.layer.top - 1) ≤ c.args.layer.height = omega arith in e) are),
  search rules,
)

pub returns-then-layer-saturating_sub-clause-stand : goal.returns-then-layer-saturating_sub-clause-stand
returns-then-layer-saturating_sub-clause-stand g c = all-stand g.S.X.BlockHash.block32 c.args.layer.p ((g.S.Store.seen c.args.store.now).told) c.args.layer.rows (c.args.layer.top - 1) c.args.layer.height c.args.olds (let s = c.saturating_sub.ensures in let i = c.if-layer-saturating_sub.true in let e : (c.args.layer.top - 1) ≤ c.args.layer.height = omega arith in e)

pub returns-then-layer-saturating_sub-clause-below : goal.returns-then-layer-saturating_sub-clause-below
returns-then-layer-saturating_sub-clause-below g c = λ whole first fits below size. all-below c.args.layer.p c.requires.profile (c.args.layer.top - 1) c.args.layer.height c.args.layer.top whole first c.args.olds (let s = c.saturating_sub.ensures in let i = c.if-layer-saturating_sub.true in let e : (c.args.layer.top - 1) ≤ c.args.layer.height = omega arith in e) refl fits below size

pub returns-clause-gives : goal.returns-clause-gives
returns-clause-gives g c = (
  (λ gs are agrees.
      front-result g.S.X.BlockHash.block32 (record { size = g.met.S.X.BlockHash.size; are_bytes = g.met.S.X.BlockHash.are_bytes }) c.args.layer.p c.requires.profile (c.args.layer.top - 1) c.args.layer.height (let s = c.saturating_sub.ensures in let i = c.if-layer-saturating_sub.false in let e : c.args.layer.height < (c.args.layer.top - 1) = omega arith in e) c.args.olds gs are _ nowhere c.requires.olds (ap (λ (l : List Part). get_or l 0 nowhere) c.as_slice.ensures) ((g.S.Store.seen c.args.store.now).told) (c.args.layer.height + 1) c.in_ok-front.front c.load_parts.result refl agrees c.in_ok-front.ensures.gives.0
      (λ b part_is agrees_b. c.load_parts.ensures.gives.0 b part_is (subst (λ (x : Told). Agrees x (blocks_over g.S.X.BlockHash.block32 c.args.layer.p.chunk c.args.layer.p.width (c.args.layer.height + 1) b)) (sym c.in_ok-front.ensures.reads.1) agrees_b))),
  (λ gs few are agrees stood.
      lost-result g.S.X.BlockHash.block32 (record { size = g.met.S.X.BlockHash.size; are_bytes = g.met.S.X.BlockHash.are_bytes }) c.args.layer.p c.requires.profile (c.args.layer.top - 1) c.args.layer.height (let s = c.saturating_sub.ensures in let i = c.if-layer-saturating_sub.false in let e : c.args.layer.height < (c.args.layer.top - 1) = omega arith in e) c.args.olds gs are _ nowhere c.requires.olds (ap (λ (l : List Part). get_or l 0 nowhere) c.as_slice.ensures) ((g.S.Store.seen c.args.store.now).told) (c.args.layer.height + 1) c.in_ok-front.front c.load_parts.result refl agrees c.in_ok-front.ensures.gives.0
      (λ b part_is agrees_b. subst (λ (x : Told). IfErr c.load_parts.result (IsLossOf x (blocks_over g.S.X.BlockHash.block32 c.args.layer.p.chunk c.args.layer.p.width (c.args.layer.height + 1) b))) c.in_ok-front.ensures.reads.1
      (c.load_parts.ensures.gives.1 b few part_is (subst (λ (x : Told). Agrees x (blocks_over g.S.X.BlockHash.block32 c.args.layer.p.chunk c.args.layer.p.width (c.args.layer.height + 1) b)) (sym c.in_ok-front.ensures.reads.1) agrees_b) (subst (λ (n : ℕ). Stood n (g.S.Store.seen c.load_parts.new.store).faults) (sym c.in_ok-front.ensures.reads.0.faults) stood)))),
)

pub returns-clause-stand : goal.returns-clause-stand
returns-clause-stand g c = stand-result g.S.X.BlockHash.block32 c.args.layer.p c.args.layer.rows (c.args.layer.top - 1) c.args.layer.height (let s = c.saturating_sub.ensures in let i = c.if-layer-saturating_sub.false in let e : c.args.layer.height < (c.args.layer.top - 1) = omega arith in e) c.args.olds _ nowhere c.requires.olds (ap (λ (l : List Part). get_or l 0 nowhere) c.as_slice.ensures) ((g.S.Store.seen c.args.store.now).told) ((g.S.Store.seen c.front_of.new.store).told) (c.args.layer.height + 1) c.in_ok-front.front c.load_parts.result refl c.in_ok-front.ensures.reads.1 c.in_ok-front.ensures.stand c.load_parts.ensures.stand

pub returns-clause-reads : goal.returns-clause-reads
returns-clause-reads g c = (
  (blamed-result g.S.X.BlockHash.block32 c.args.layer.p c.args.layer.rows (c.args.layer.top - 1) c.args.layer.height (let s = c.saturating_sub.ensures in let i = c.if-layer-saturating_sub.false in let e : c.args.layer.height < (c.args.layer.top - 1) = omega arith in e) c.args.olds _ nowhere c.requires.olds (ap (λ (l : List Part). get_or l 0 nowhere) c.as_slice.ensures) (c.args.layer.height + 1) c.in_ok-front.front c.load_parts.result (g.S.Store.seen c.args.store.now) (g.S.Store.seen c.front_of.new.store) (g.S.Store.seen c.load_parts.new.store) refl (KeepsGood-same g.S.X.BlockHash.block32 ((g.S.Store.seen c.args.store.now).told) ((g.S.Store.seen c.load_parts.new.store).told) (c.load_parts.ensures.reads.1 ∙ c.in_ok-front.ensures.reads.1)) c.in_ok-front.ensures.reads.0 c.in_ok-front.ensures.stand c.load_parts.ensures.reads.0),
  search rules,
)

pub returns-in_err-front-clause-gives : goal.returns-in_err-front-clause-gives
returns-in_err-front-clause-gives g c = (
  search rules,
  (λ gs few are agrees stood. let out = err_from_is_err_and c.from_residual.result c.from_residual.ensures.1 in rw (out.1, out.2) (front-missed g.S.X.BlockHash.block32 (record { size = g.met.S.X.BlockHash.size; are_bytes = g.met.S.X.BlockHash.are_bytes }) c.args.layer.p c.requires.profile (c.args.layer.top - 1) c.args.layer.height (let s = c.saturating_sub.ensures in let i = c.if-layer-saturating_sub.false in let e : c.args.layer.height < (c.args.layer.top - 1) = omega arith in e) c.args.olds gs are _ nowhere c.requires.olds (ap (λ (l : List Part). get_or l 0 nowhere) c.as_slice.ensures) ((g.S.Store.seen c.args.store.now).told) c.in_err-front.field-0.0 agrees (λ b part_is agrees_b. c.in_err-front.ensures.gives.1 b few part_is agrees_b stood))),
)

pub returns-in_err-front-clause-reads : goal.returns-in_err-front-clause-reads
returns-in_err-front-clause-reads g c = (
  (let out = err_from_is_err_and c.from_residual.result c.from_residual.ensures.1 in rw (out.1, out.2) (front-blamed g.S.X.BlockHash.block32 c.args.layer.p c.args.layer.rows (c.args.layer.top - 1) c.args.layer.height (let s = c.saturating_sub.ensures in let i = c.if-layer-saturating_sub.false in let e : c.args.layer.height < (c.args.layer.top - 1) = omega arith in e) c.args.olds _ nowhere c.requires.olds (ap (λ (l : List Part). get_or l 0 nowhere) c.as_slice.ensures) c.in_err-front.field-0.0 (g.S.Store.seen c.args.store.now) (g.S.Store.seen c.front_of.new.store) c.in_err-front.ensures.reads.0)),
  search rules,
)

pub returns-clause-below : goal.returns-clause-below
returns-clause-below g c = λ whole first fits below size. below-result c.args.layer.p c.requires.profile (c.args.layer.top - 1) c.args.layer.height (c.args.layer.height + 1) whole first c.in_ok-front.front _ nowhere c.args.olds c.load_parts.result (let s = c.saturating_sub.ensures in let i = c.if-layer-saturating_sub.false in let e : c.args.layer.height < (c.args.layer.top - 1) = omega arith in e) refl below size c.requires.olds (ap (λ (l : List Part). get_or l 0 nowhere) c.as_slice.ensures) c.in_ok-front.ensures.size c.load_parts.ensures.planned
