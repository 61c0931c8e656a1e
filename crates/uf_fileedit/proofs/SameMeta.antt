-- Metadata compared.
use Rattle.std.proofs.Common.{◌≡◌, refl, ap, ◌∙◌, Bool, true, Option, None, Some}
use Rattle.std.proofs.Math.Dec.{eqb}
use Rattle.std.specs.Prelude.{◌&&◌}
use Rattle.std.specs.Bool.{Decides}
use Rattle.std.specs.Option.{option_eq}
use Rattle.std.specs.Ordering.{int_eq}
use Rattle.std.proofs.lemmas.Bool.{false≢true}
use Rattle.std.proofs.lemmas.Bool.Decides.{Decides-eqb, Decides-int_eq}
use Rattle.uf_message.specs.declared.message.Mtime.{Mtime}
use Rattle.uf_tree.specs.declared.meta.Meta.{Meta}
use Rattle.uf_tree.proofs.Twins.{both_true}

option-decides : {A : Type 0} (E : A → A → Bool) → ((x y : A) → Decides (E x y) (x ≡ y)) → (a b : Option A) → Decides (option_eq E a b) (a ≡ b)
option-decides E d None None = (λ e. refl, λ e. refl)
option-decides E d None (Some y) = (λ e. absurd (false≢true e), λ e. absurd (let no : None ≡ Some y = e in cc))
option-decides E d (Some x) None = (λ e. absurd (false≢true e), λ e. absurd (let no : Some x ≡ None = e in cc))
option-decides E d (Some x) (Some y) = (λ e. ap (λ z. Some z) ((d x y).0 e), λ e. (d x y).1 (let same : x ≡ y = cc in same))

abbrev mtime_eq : Mtime → Mtime → Bool
mtime_eq a b = int_eq a.seconds b.seconds && option_eq eqb a.nanos b.nanos

mtime-decides : (a b : Mtime) → Decides (mtime_eq a b) (a ≡ b)
mtime-decides a b = (λ e. same (both_true (int_eq a.seconds b.seconds) (option_eq eqb a.nanos b.nanos) e), λ e. ap (λ t. t && option_eq eqb a.nanos b.nanos) ((Decides-int_eq a.seconds b.seconds).1 (ap (λ (m : Mtime). m.seconds) e)) ∙ (option-decides eqb Decides-eqb a.nanos b.nanos).1 (ap (λ (m : Mtime). m.nanos) e))
  where
    same : (int_eq a.seconds b.seconds ≡ true) × (option_eq eqb a.nanos b.nanos ≡ true) → a ≡ b
    same h =
        let seconds : a.seconds ≡ b.seconds = (Decides-int_eq a.seconds b.seconds).0 h.0 in
        let nanos : a.nanos ≡ b.nanos = (option-decides eqb Decides-eqb a.nanos b.nanos).0 h.1 in
        λ i. record { seconds = seconds i; nanos = nanos i }

pub meta-decides : (a b : Meta) → Decides (option_eq eqb a.mode b.mode && option_eq mtime_eq a.mtime b.mtime) (a ≡ b)
meta-decides a b = (λ e. same (both_true (option_eq eqb a.mode b.mode) (option_eq mtime_eq a.mtime b.mtime) e), λ e. ap (λ t. t && option_eq mtime_eq a.mtime b.mtime) ((option-decides eqb Decides-eqb a.mode b.mode).1 (ap (λ (m : Meta). m.mode) e)) ∙ (option-decides mtime_eq mtime-decides a.mtime b.mtime).1 (ap (λ (m : Meta). m.mtime) e))
  where
    same : (option_eq eqb a.mode b.mode ≡ true) × (option_eq mtime_eq a.mtime b.mtime ≡ true) → a ≡ b
    same h =
        let mode : a.mode ≡ b.mode = (option-decides eqb Decides-eqb a.mode b.mode).0 h.0 in
        let mtime : a.mtime ≡ b.mtime = (option-decides mtime_eq mtime-decides a.mtime b.mtime).0 h.1 in
        λ i. record { mode = mode i; mtime = mtime i }
