use Rattle.std.specs.Prelude.{get_or, option_copied}
use Rattle.std.proofs.Common.{List, length, subst, sym, take, true, ℕ, ◌≡◌, ◌≤◌, ◌-◌}
use Rattle.uf_tree.specs.Tree.{Dir}
use Rattle.uf_tree.specs.TreePlan.{blocks}
use Rattle.uf_plain.specs.declared.spot.Spot.{Spot}
use Rattle.uf_plain.specs.Moves.{spotted}
use Rattle.uf_mfs.specs.Moving.{GivesOver, vacant_at}
use Rattle.uf_mfs.proofs.Agreed.{stands-over}
use Rattle.uf_mfs.proofs.Spots.{gives-held, spotted-beside}
use Rattle.uf_mfs.proofs.mfs.Mfs.spot.Goals as goal

pub returns-then-dest-clause-lost : goal.returns-then-dest-clause-lost
returns-then-dest-clause-lost g c = λ p es s stood.
    let X = g.S.X.BlockHash.block32 in let N = g.N.NameHash.name64 in let told = (g.S.Store.seen c.args.store.now).told in
    let dest = c.args.dest.now in let name = option_copied c.args.name in
    subst (λ b. GivesOver X N told p es (λ (spot given : Spot). given ≡ spot) (spotted (record { names = dest.names; into = b }) name es) c.spot_in.result) (sym c.if-dest.true)
    (subst (λ ns. GivesOver X N told p es (λ (spot given : Spot). given ≡ spot) (spotted (record { names = ns; into = true }) name es) c.spot_in.result) c.as_slice-names.ensures
    (c.spot_in.ensures.spots p es s.root stood))

pub returns-then-dest-clause-answer : goal.returns-then-dest-clause-answer
returns-then-dest-clause-answer g c = λ p es s stood.
    let X = g.S.X.BlockHash.block32 in let N = g.N.NameHash.name64 in let told = (g.S.Store.seen c.args.store.now).told in
    gives-held told (blocks X N p (Dir es)) (λ (spot given : Spot). given ≡ spot) (spotted c.args.dest.now (option_copied c.args.name) es) c.spot_in.result s.root.held
    (returns-then-dest-clause-lost g c p es (stands-over X N p told c.args.self.now es s) stood)

pub returns-in-len1-up-clause-lost : goal.returns-in-len1-up-clause-lost
returns-in-len1-up-clause-lost g c = λ p es s stood.
    let X = g.S.X.BlockHash.block32 in let N = g.N.NameHash.name64 in let told = (g.S.Store.seen c.args.store.now).told in
    let dest = c.args.dest.now in let name = option_copied c.args.name in let last = c.last-item.result in
    subst (λ w. GivesOver X N told p es (λ (spot given : Spot). given ≡ spot) w c.vacant.result)
    (sym (spotted-beside dest last name es c.if-dest.false (subst (λ (ns : List (List ℕ)). 1 ≤ length ns) c.as_slice-names.ensures c.in-len1-up.len_at_least)
    (subst (λ (ns : List (List ℕ)). last ≡ get_or ns (length ns - 1) last) c.as_slice-names.ensures c.last-item.is)))
    (subst (λ (ns : List (List ℕ)). GivesOver X N told p es (λ (spot given : Spot). given ≡ spot) (vacant_at ns (take (length ns - 1) ns) last es) c.vacant.result) c.as_slice-names.ensures
    (c.vacant.ensures.spots p es s.root stood))

pub returns-in-len1-up-clause-answer : goal.returns-in-len1-up-clause-answer
returns-in-len1-up-clause-answer g c = λ p es s stood.
    let X = g.S.X.BlockHash.block32 in let N = g.N.NameHash.name64 in let told = (g.S.Store.seen c.args.store.now).told in
    gives-held told (blocks X N p (Dir es)) (λ (spot given : Spot). given ≡ spot) (spotted c.args.dest.now (option_copied c.args.name) es) c.vacant.result s.root.held
    (returns-in-len1-up-clause-lost g c p es (stands-over X N p told c.args.self.now es s) stood)
