use Rattle.std.proofs.Common.{◌≡◌, ◌≢◌, ◌∙◌, ◌+◌, ℕ, List, [], Ok, subst, sym, ap}
use Rattle.std.specs.Prelude.{OnOk}
use Rattle.uf_edge.specs.Host.{HostTold, TakesFolder}
use Rattle.uf_lenient.specs.Denoted.{denotes_within}
use Rattle.uf_lenient.specs.Steps.{Surveys}
use Rattle.uf_store.specs.Contents.{held_at}
use Rattle.uf_host.specs.Getting.{Gets}
use Rattle.uf_host.specs.Places.{Puts, places_of}
use Rattle.uf_host.proofs.Gotten.{gets-of}
use Rattle.uf_host.proofs.Room.{room-takes}
use Rattle.uf_host.proofs.Written.{says-of}
use Rattle.uf_host.proofs.getting.get.Goals as goal

pub put_tree-requires : goal.put_tree-requires
put_tree-requires g c =
    subst (λ (p : List ℕ). TakesFolder (g.W.Host.tree c.find_room.new.host) p) (sym c.in_ok-path.ensures)
    (subst (λ t. TakesFolder t c.trim-path.result.now) (sym c.find_room.ensures.told) (room-takes (g.W.Host.tree c.args.host.now) c.trim-path.result.now c.in_ok-find_room.ensures.room))

pub returns-clause-gets : goal.returns-clause-gets
returns-clause-gets g c = λ t tells.
    let path : c.in_ok-path.path ≡ c.trim-path.result.now = c.in_ok-path.ensures in
    let read = says-of (g.S.Store.seen c.args.store.now).told t (λ t. Surveys (held_at t) c.args.limits.now c.args.cid.now (Ok c.in_ok-survey_nodes.field-0)) tells c.in_ok-survey_nodes.ensures.says in
    let room : c.from-room.result + 1 ≡ c.args.limits.now.depth + 1 = ap (λ (n : ℕ). n + 1) c.from-room.ensures in
    let puts = c.put_tree.ensures.puts t read.tree (c.in_ok-survey_nodes.ensures.told ∙ tells) (subst (λ (n : ℕ). denotes_within (held_at t) c.args.limits.now n c.args.cid.now ≡ Ok read.tree) (sym room) read.denoted) in
    subst (λ (p : List ℕ). Gets (held_at t) c.args.limits.now c.args.cid.now p (g.W.Host.tree c.args.host.now) (g.W.Host.tree c.put_tree.new.host) c.put_tree.result) c.trim-path.ensures
    (gets-of (held_at t) c.args.limits.now c.args.cid.now c.trim-path.result.now (g.W.Host.tree c.args.host.now) (g.W.Host.tree c.put_tree.new.host) read.tree c.put_tree.result read.denoted c.in_ok-find_room.ensures.room
    (subst (λ (p : List ℕ). OnOk c.put_tree.result (p ≢ [])) path c.put_tree.ensures.named)
    (subst (λ (h : HostTold). Puts (places_of c.trim-path.result.now read.tree) h (g.W.Host.tree c.put_tree.new.host) c.put_tree.result) c.find_room.ensures.told
    (subst (λ (p : List ℕ). Puts (places_of p read.tree) (g.W.Host.tree c.find_room.new.host) (g.W.Host.tree c.put_tree.new.host) c.put_tree.result) path puts)))
