-- Blocks that are saved, among others.
use Rattle.std.proofs.Common.{List, [], ◌∷◌, ◌++◌, ℕ, sym, arith, inl, inr}
use Rattle.std.specs.List.{Contains, flat_map}
use Rattle.std.proofs.lemmas.List.Elements.{Contains-append_right}
use Rattle.uf_cid.specs.Blocks.{Held}
use Rattle.uf_store.specs.Among.{SavesAmong}
use Rattle.uf_store.specs.Contents.{Told}
use Rattle.uf_store.proofs.Among.{SavesAmong-more}
use Rattle.uf_fileedit.specs.Changes.{IsIn}
use Rattle.uf_fileedit.proofs.Kept.{each-in, in-back, in-front}

in-contains : (x : Held) (l : List Held) → IsIn x l → Contains l x
in-contains x [] h = absurd h
in-contains x (y ∷ l) (inl e) = (0, omega arith, sym e)
in-contains x (y ∷ l) (inr h) = Contains-append_right (y ∷ []) l x (in-contains x l h)

-- what is saved among some blocks is saved among more
pub saves-more : (X : List ℕ → List ℕ) (few many : List Held) (a b : Told) → ((x : Held) → IsIn x few → IsIn x many) → SavesAmong X few a b → SavesAmong X many a b
saves-more X few many a b more h = SavesAmong-more X few many a b (each-in (Contains many) few (λ x k. in-contains x many (more x k))) h

-- the blocks of one group are among those of all
pub in-part : (f : List ℕ → List Held) (done : List (List ℕ)) (g : List ℕ) (more : List (List ℕ)) (x : Held) → IsIn x (f g) → IsIn x (flat_map f (done ++ g ∷ more))
in-part f [] g more x h = in-front x (f g) (flat_map f more) h
in-part f (d ∷ done) g more x h = in-back x (f d) (flat_map f (done ++ g ∷ more)) (in-part f done g more x h)
