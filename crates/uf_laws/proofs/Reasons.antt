-- When a directory has a plan.
use Rattle.std.proofs.Common.{◌≡◌, ℕ, ◌^◌, ◌<◌, ◌≤◌, List, Bool, cond, Option, Some, None, refl, ap, sym, ◌∙◌, ◌⊎◌, inl, inr}
use Rattle.std.proofs.lemmas.Bool.{cases_lt, le-ltb, lt-ltb}
use Rattle.uf_tree.specs.declared.meta.Meta.{Meta}
use Rattle.uf_tree.specs.declared.profile.Profile.{Profile}
use Rattle.uf_tree.specs.DirPlan.{own_plan, basic_dir, is_sharded}
use Rattle.uf_tree.specs.Nodes.{Named, capped}
use Rattle.uf_tree.specs.ShardPlan.{twins, same_slots, same_hash}
use Rattle.uf_tree.specs.Shardable.{HasShard}
use Rattle.uf_tree.specs.TreePlan.{Refusal, Collision, TooBig, or_else, too_big, collision, dir_refusal}
use Rattle.uf_tree.proofs.Twins.{Apart, twins-Apart, twins-same, same_slots-hash, Apart-HasShard}
use Rattle.uf_laws.proofs.Blocks.{basic_size}

neither : (a b : Option Refusal) → or_else a b ≡ None → (a ≡ None) × (b ≡ None)
neither None b h = (refl, h)
neither (Some r) b h = absurd cc

not_big : (t : ℕ) → too_big t ≡ None → t ≤ 2 ^ 62
not_big t h = by (cases_lt (2 ^ 62) t)
  where
    by : (2 ^ 62 < t) ⊎ (t ≤ 2 ^ 62) → t ≤ 2 ^ 62
    by (inl big) = absurd (no (sym (ap (λ b. cond b (Some TooBig) None) (lt-ltb (2 ^ 62) t big)) ∙ h))
      where
        no : ◌≡◌ {A = Option Refusal} (Some TooBig) None → ⊥
        no e = cc
    by (inr small) = small

small : (t : ℕ) → t ≤ 2 ^ 62 → too_big t ≡ None
small t h = ap (λ b. cond b (Some TooBig) None) (le-ltb (2 ^ 62) t h)

-- two names of one hash, where the directory is sharded
abbrev pub collides : (List ℕ → ℕ) → Bool → List Named → Option Refusal
collides N b l = cond b (collision N l) None

module _ (X : List ℕ → List ℕ) (N : List ℕ → ℕ) (p : Profile) (meta : Meta) (l : List Named) where
  pub unrefused : dir_refusal X N p meta l ≡ None → (collides N (is_sharded p l) l ≡ None) × ((own_plan X N p meta l).entry.tsize ≤ 2 ^ 62)
  unrefused h =
      let parts = neither (collides N (is_sharded p l) l) (too_big (own_plan X N p meta l).entry.tsize) h in
      (parts.0, not_big (own_plan X N p meta l).entry.tsize parts.1)

  pub allowed : collides N (is_sharded p l) l ≡ None → (own_plan X N p meta l).entry.tsize ≤ 2 ^ 62 → dir_refusal X N p meta l ≡ None
  allowed h k = ap (λ o. or_else o (too_big (own_plan X N p meta l).entry.tsize)) h ∙ small (own_plan X N p meta l).entry.tsize k

-- no two names have one hash
pub no-collision : (N : List ℕ → ℕ) (l : List Named) → collision N l ≡ None → Apart (same_hash N) l
no-collision N l h = twins-Apart (same_hash N) l (by (twins (same_hash N) l) h)
  where
    by : (o : Option (List ℕ × List ℕ)) → ◌≡◌ {A = Option Refusal} (elim o [ None ↦ None | Some names ↦ Some (Collision names.0 names.1) ]) None → o ≡ None
    by None h = refl
    by (Some names) h = absurd (no h)
      where
        no : ◌≡◌ {A = Option Refusal} (Some (Collision names.0 names.1)) None → ⊥
        no e = cc

pub apart-collision : (N : List ℕ → ℕ) (l : List Named) → twins (same_hash N) l ≡ None → collision N l ≡ None
apart-collision N l h = ap {B = Option Refusal} (λ (o : Option (List ℕ × List ℕ)). elim o [ None ↦ None | Some names ↦ Some (Collision names.0 names.1) ]) h

-- so the shard at level 0 has a plan
pub has-shard : (N : List ℕ → ℕ) → ((name : List ℕ) → N name < 2 ^ 64) → (l : List Named) → twins (same_hash N) l ≡ None → HasShard N 7 l
has-shard N fits l h = Apart-HasShard N 7 l (twins-Apart (same_slots N 7) l (twins-same (same_slots N 7) (same_hash N) (same_slots-hash N fits) l ∙ h))

pub basic-tsize : (X : List ℕ → List ℕ) (N : List ℕ → ℕ) (meta : Meta) (l : List Named) → (basic_dir X N meta l).entry.tsize ≡ capped (basic_size meta l)
unfolding basic_size
basic-tsize X N meta l = refl
