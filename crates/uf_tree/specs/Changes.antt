-- Changes of one name or of one slot.
use Rattle.std.specs.Prelude.{ℕ, List, not, ◌==◌}
use Rattle.std.specs.declared.option.Option.{Option}
use Rattle.std.specs.declared.option.Option.TheVariants.{None, Some}
use Rattle.std.specs.Ordering.{nat_cmp, eq_by_cmp}
use Rattle.std.specs.FinMap.Entries.{put, where_key}
use Rattle.uf_tree.specs.Names.{names_cmp}

-- a list with a name and its value put in their place
abbrev pub with_name : {A : Type 0} → List ℕ → A → List (List ℕ × A) → List (List ℕ × A)
with_name name value l = put names_cmp name value l

-- a list without a name
abbrev pub without : {A : Type 0} → List ℕ → List (List ℕ × A) → List (List ℕ × A)
without name l = where_key names_cmp (λ other. not (eq_by_cmp names_cmp name other)) l

-- a list of slots, after what is in one slot is set
abbrev pub set_at : {A : Type 0} → ℕ → Option A → List (ℕ × A) → List (ℕ × A)
set_at s None l = where_key nat_cmp (λ k. not (k == s)) l
set_at s (Some value) l = put nat_cmp s value l
