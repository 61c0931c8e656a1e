-- How what calls of the builder show and leave composes.
use Rattle.std.proofs.Common.{ℕ, List, ◌∙◌, Option, Some, None}
use Rattle.uf_store.specs.declared.store.StoreFault.{StoreFault}
use Rattle.uf_store.specs.declared.store.StoreFault.TheVariants.{Memory}
use Rattle.uf_store.specs.Calls.{LoadsNothing}
use Rattle.uf_store.specs.Faults.{NoneIsBad}
use Rattle.uf_store.specs.Seen.{Seen}
use Rattle.uf_store.proofs.Calls.{shown-after}
use Rattle.uf_store.proofs.Causes.{calm-memory}
use Rattle.uf_store.proofs.Keeping.{KeepsGood-trans}
use Rattle.uf_store.proofs.Writing.{SavesOnly-trans}
use Rattle.uf_build.specs.Answers.{OnlyBuilds}

unread-after : (f : Option StoreFault) (a b c : Seen) → LoadsNothing None a b → LoadsNothing f b c → LoadsNothing f a c
unread-after None a b c p q = record { finds = q.finds ∙ p.finds; misses = q.misses ∙ p.misses; lent = q.lent ∙ p.lent }
unread-after (Some fault) a b c p q = record { finds = q.finds ∙ p.finds; misses = q.misses ∙ p.misses; lent = tt }

-- one call behind another
pub builds-builds : {hash : List ℕ → List ℕ} {f : Option StoreFault} {a b c : Seen} → OnlyBuilds hash None a b → OnlyBuilds hash f b c → OnlyBuilds hash f a c
builds-builds {hash} {f} {a} {b} {c} p q = record {
  cause = shown-after hash NoneIsBad f a b c p.cause q.cause;
  good = KeepsGood-trans hash a.told b.told c.told p.good q.good;
  saves = SavesOnly-trans hash a.told b.told c.told p.saves q.saves;
  saving = q.saving;
  unread = unread-after f a b c p.unread q.unread;
}

-- a call that then finds no memory
pub builds-memory : {hash : List ℕ → List ℕ} {a b : Seen} → OnlyBuilds hash None a b → OnlyBuilds hash (Some Memory) a b
builds-memory {hash} {a} {b} h = record {
  cause = calm-memory a b h.cause;
  good = h.good;
  saves = h.saves;
  saving = tt;
  unread = record { finds = h.unread.finds; misses = h.unread.misses; lent = tt };
}
