-- Lists of bytes in front of others.
use Rattle.std.proofs.Common.{◌≡◌, ℕ, ◌<◌, List, [], ◌∷◌, Bool, true, false, ◌&&◌, nat_lt, refl, arith}
use Rattle.std.proofs.lemmas.Bool.Decides.{nat_tests}
use Rattle.std.specs.List.{list_all}
use Rattle.uf_cid.specs.Bytes.{IsBytes}

-- numbers below 256 are bytes of a tree's file
pub bytes-all : (bytes : List ℕ) → IsBytes bytes → list_all (λ b. nat_lt b 256) bytes ≡ true
bytes-all [] h = refl
bytes-all (b ∷ bytes) h = both (nat_lt b 256) (list_all (λ b. nat_lt b 256) bytes) (below b h.0) (bytes-all bytes h.1)
  where
    both : (s t : Bool) → s ≡ true → t ≡ true → s && t ≡ true
    both true t g h = h
    both false t g h = g

    below : (b : ℕ) → b < 256 → nat_lt b 256 ≡ true
    below b h = grind (arith, nat_tests)
