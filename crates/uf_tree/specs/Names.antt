-- Names of the members of a directory, and their order.
use Rattle.std.specs.Prelude.{ℕ, List, [], ◌∷◌, length, Bool, false, ◌&&◌, ◌||◌, not, ◌==◌, nat_le}
use Rattle.std.specs.List.{list_any}
use Rattle.std.specs.Ordering.{nat_cmp}
use Rattle.std.specs.Str.{is_utf8}
use Rattle.std.specs.Cmp.Lexicographic.{slice_cmp}
use Rattle.std.specs.declared.cmp.Ordering.{Ordering}
use Rattle.uf_cid.specs.declared.bytes.StrictFault.{StrictFault}
use Rattle.uf_cid.specs.declared.bytes.StrictFault.TheVariants as strict
use Rattle.uf_tree.specs.declared.name.NameFault.{NameFault}
use Rattle.uf_tree.specs.declared.name.NameFault.TheVariants.{Bad, Memory}

-- names are in the order of their bytes
abbrev pub names_cmp : List ℕ → List ℕ → Ordering
names_cmp a b = slice_cmp nat_cmp a b

-- the name is `.` or `..`
abbrev pub is_dots : List ℕ → Bool
is_dots [] = false
is_dots (a ∷ []) = a == 46
is_dots (a ∷ b ∷ []) = (a == 46) && (b == 46)
is_dots (a ∷ b ∷ c ∷ rest) = false

-- a good name has 1 to 255 bytes, no `/` (47) and no NUL, and isn't `.` or `..`
abbrev pub is_good : List ℕ → Bool
is_good name = nat_le 1 (length name) && nat_le (length name) 255 && not (list_any (λ b. (b == 47) || (b == 0)) name)
    && not (is_dots name)

-- the bytes are a good name, which is text
abbrev pub is_name : List ℕ → Bool
is_name name = is_good name && is_utf8 name

-- why bytes aren't read of which a name is refused for this
abbrev pub name_refusal : NameFault → StrictFault
name_refusal Bad = strict.NotCanonical
name_refusal Memory = strict.Memory
