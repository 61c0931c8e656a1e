use Rattle.std.proofs.Common.{◌≡◌, ◌++◌, ap, arith, ◌∙◌, subst}
use Rattle.std.specs.Prelude.{IfSome}
use Rattle.std.proofs.lemmas.Result.{err_from_is_err_and}
use Rattle.uf_tree.specs.Validity.{IsHash}
use Rattle.uf_shard.specs.Weighed.{least_of, room_after, shards_in}
use Rattle.uf_shard.proofs.Touches.{one-touch}
use Rattle.uf_shard.proofs.Walks.{load-lost, loaded_items, root-planned}
use Rattle.uf_shard.proofs.RowWeights.{few-root, root-none, root-touches, root-value, within-root}
use Rattle.uf_shard.proofs.weighing.weight_over.Goals as goal

pub returns-in_err-items-clause-value : goal.returns-in_err-items-clause-value
returns-in_err-items-clause-value g c = λ N m l is agrees stood.
    let out = err_from_is_err_and c.from_residual.result c.from_residual.ensures.1 in
    rw (out.1, out.2) (load-lost g.S.X.BlockHash.block32 N (record { size = g.met.S.X.BlockHash.size; are_bytes = g.met.S.X.BlockHash.are_bytes }) 7 c.args.root.now m l (root-planned g.S.X.BlockHash.block32 N c.args.root.now m l is)
    _ _ c.in_err-items.field-0.0 c.in_err-items.ensures.loads c.in_err-items.ensures.reads.cause agrees stood)

pub returns-clause-value : goal.returns-clause-value
returns-clause-value g c = λ N m l is agrees stood.
    let X = g.S.X.BlockHash.block32 in
    let good : IsHash g.S.X.BlockHash.block32 = record { size = g.met.S.X.BlockHash.size; are_bytes = g.met.S.X.BlockHash.are_bytes } in
    let root = root-planned X N c.args.root.now m l is in
    let slots = c.as_slice.ensures ∙ loaded_items X N good 7 c.args.root.now m l root _ c.in_ok-items.items agrees c.in_ok-items.ensures.loads in
    root-none X N good 6 c.args.root.now m l root c.args.limit c.in_ok-behind.behind (c.in_ok-behind.ensures.room ∙ ap (λ i. room_after c.args.limit (least_of i)) slots) c.in-None.is

pub returns-in_err-items-clause-touches : goal.returns-in_err-items-clause-touches
returns-in_err-items-clause-touches g c = λ N m l is agrees.
    few-root _ _ _ c.args.limit (one-touch g.S.X.BlockHash.block32 N (record { size = g.met.S.X.BlockHash.size; are_bytes = g.met.S.X.BlockHash.are_bytes }) 7 c.args.root.now m l (root-planned g.S.X.BlockHash.block32 N c.args.root.now m l is) _ _ c.in_err-items.ensures.touches) (omega (arith, c.in_err-items.ensures.touches))

pub returns-in_err-behind-clause-touches : goal.returns-in_err-behind-clause-touches
returns-in_err-behind-clause-touches g c = λ N m l is agrees.
    few-root _ _ _ c.args.limit (one-touch g.S.X.BlockHash.block32 N (record { size = g.met.S.X.BlockHash.size; are_bytes = g.met.S.X.BlockHash.are_bytes }) 7 c.args.root.now m l (root-planned g.S.X.BlockHash.block32 N c.args.root.now m l is) _ _ c.in_ok-items.ensures.touches) (omega (arith, c.in_ok-items.ensures.touches))

pub returns-clause-touches : goal.returns-clause-touches
returns-clause-touches g c = λ N m l is agrees.
    few-root _ _ _ c.args.limit (one-touch g.S.X.BlockHash.block32 N (record { size = g.met.S.X.BlockHash.size; are_bytes = g.met.S.X.BlockHash.are_bytes }) 7 c.args.root.now m l (root-planned g.S.X.BlockHash.block32 N c.args.root.now m l is) _ _ c.in_ok-items.ensures.touches) (omega (arith, c.in_ok-items.ensures.touches))

pub are_over-requires-clause-fits : goal.are_over-requires-clause-fits
are_over-requires-clause-fits g c =
    let below = subst (λ b. IfSome b (λ rest. c.room_behind.new.below ≡ c.new-below.result ++ shards_in c.as_slice.result.now)) c.in-Some.is c.in_ok-behind.ensures.below in
    let within = within-root c.as_slice.result.now c.new-below.result c.room_behind.new.below c.in-Some.room c.args.limit c.in_ok-behind.behind c.new-below.ensures c.in-Some.is c.in_ok-behind.ensures.room below in
    omega (arith, within)

pub returns-in-Some-clause-few : goal.returns-in-Some-clause-few
returns-in-Some-clause-few g c =
    let below = subst (λ b. IfSome b (λ rest. c.room_behind.new.below ≡ c.new-below.result ++ shards_in c.as_slice.result.now)) c.in-Some.is c.in_ok-behind.ensures.below in
    let within = within-root c.as_slice.result.now c.new-below.result c.room_behind.new.below c.in-Some.room c.args.limit c.in_ok-behind.behind c.new-below.ensures c.in-Some.is c.in_ok-behind.ensures.room below in
    omega (arith, within, c.are_over.ensures.few, c.in_ok-items.ensures.touches)

pub returns-in-Some-clause-value : goal.returns-in-Some-clause-value
returns-in-Some-clause-value g c = λ N m l is agrees stood.
    let X = g.S.X.BlockHash.block32 in
    let good : IsHash g.S.X.BlockHash.block32 = record { size = g.met.S.X.BlockHash.size; are_bytes = g.met.S.X.BlockHash.are_bytes } in
    let root = root-planned X N c.args.root.now m l is in
    let slots = c.as_slice.ensures ∙ loaded_items X N good 7 c.args.root.now m l root _ c.in_ok-items.items agrees c.in_ok-items.ensures.loads in
    let below = subst (λ b. IfSome b (λ rest. c.room_behind.new.below ≡ c.new-below.result ++ shards_in c.as_slice.result.now)) c.in-Some.is c.in_ok-behind.ensures.below in
    root-value X N good 6 c.args.root.now m l root c.args.limit c.in_ok-behind.behind (c.in_ok-behind.ensures.room ∙ ap (λ i. room_after c.args.limit (least_of i)) slots)
    c.in-Some.room c.room_behind.new.below c.in-Some.is (below ∙ ap (λ b. b ++ shards_in c.as_slice.result.now) c.new-below.ensures ∙ ap (λ i. shards_in i) slots)
    (g.S.Store.seen c.args.store.now) (g.S.Store.seen c.load_items.new.store) (g.S.Store.seen c.are_over.new.store) c.are_over.result c.in_ok-items.ensures.reads.told c.in_ok-items.ensures.reads.cause.faults (c.are_over.ensures.value N) agrees stood

pub returns-in-Some-clause-touches : goal.returns-in-Some-clause-touches
returns-in-Some-clause-touches g c = λ N m l is agrees.
    let X = g.S.X.BlockHash.block32 in
    let good : IsHash g.S.X.BlockHash.block32 = record { size = g.met.S.X.BlockHash.size; are_bytes = g.met.S.X.BlockHash.are_bytes } in
    let root = root-planned X N c.args.root.now m l is in
    let slots = c.as_slice.ensures ∙ loaded_items X N good 7 c.args.root.now m l root _ c.in_ok-items.items agrees c.in_ok-items.ensures.loads in
    let below = subst (λ b. IfSome b (λ rest. c.room_behind.new.below ≡ c.new-below.result ++ shards_in c.as_slice.result.now)) c.in-Some.is c.in_ok-behind.ensures.below in
    few-root _ _ _ c.args.limit
    (root-touches X N good 6 c.args.root.now m l root c.args.limit c.in_ok-behind.behind (c.in_ok-behind.ensures.room ∙ ap (λ i. room_after c.args.limit (least_of i)) slots)
    c.in-Some.room c.room_behind.new.below c.in-Some.is (below ∙ ap (λ b. b ++ shards_in c.as_slice.result.now) c.new-below.ensures ∙ ap (λ i. shards_in i) slots)
    (g.S.Store.seen c.args.store.now).told (g.S.Store.seen c.load_items.new.store).told _ _ _ c.in_ok-items.ensures.reads.told c.in_ok-items.ensures.touches (c.are_over.ensures.touches N) agrees)
    (returns-in-Some-clause-few g c)
