-- What a line says that asks for a block.
use Rattle.std.proofs.Common.{◌≡◌, ℕ, List, Bool, true, false, cond, sym, ap, ◌∙◌}
use Rattle.std.specs.Prelude.{Option, Some, None, codes, Result, Ok, Err}
use Rattle.std.specs.Cmp.Lexicographic.{pointwise}
use Rattle.std.specs.Prelude.{nat_eq}
use Rattle.std.specs.Str.{IsUtf8, bytes_eq, is_utf8}
use Rattle.std.proofs.lemmas.Bool.{false_from_ne_true}
use Rattle.std.proofs.lemmas.Str.{is_utf8-from_IsUtf8, IsUtf8-from_is_utf8}
use Rattle.uf_cid.specs.Cid.{cid_text}
use Rattle.uf_cid.specs.Read.{cid_of_text}
use Rattle.uf_cid.specs.declared.cid.Cid.{Cid}
use Rattle.uf_cid.specs.declared.cid.CidFault.{CidFault}
use Rattle.uf_pull.specs.declared.want.PeerAsk.{PeerAsk}
use Rattle.uf_pull.specs.declared.want.PeerAsk.TheVariants.{Want, Done, Neither}
use Rattle.uf_pull.specs.Wants.{ask_of, behind_word, spelled_want, want_behind, want_of}

pub no_text : (text : List ℕ) → (IsUtf8 text → ⊥) → Neither ≡ spelled_want text
no_text text bad = sym (ap (λ (b : Bool). cond b (want_of text (cid_of_text text)) Neither) (false_from_ne_true (is_utf8 text) (λ t. bad (IsUtf8-from_is_utf8 text t))))

pub read_want : (text : List ℕ) (r : Result Cid CidFault) → IsUtf8 text → cid_of_text text ≡ r → spelled_want text ≡ want_of text r
read_want text r u e = ap (λ (b : Bool). cond b (want_of text (cid_of_text text)) Neither) (is_utf8-from_IsUtf8 text u) ∙ ap (want_of text) e

pub judged_want : (text spelled own slice : List ℕ) (c : Cid) (t : Bool) → IsUtf8 text → spelled ≡ text → Ok c ≡ cid_of_text spelled → own ≡ cid_text c → slice ≡ own → t ≡ pointwise nat_eq slice text
    → cond t (Want c) Neither ≡ spelled_want text
judged_want text spelled own slice c t u s e o l q =
    sym (read_want text (Ok c) u (sym (e ∙ ap cid_of_text s)) ∙ ap (λ (x : Bool). cond x (Want c) Neither) (ap (λ (x : List ℕ). pointwise nat_eq x text) (sym (l ∙ o)) ∙ sym q))

pub said_done : (line slice : List ℕ) (t : Bool) → slice ≡ codes "done" → t ≡ pointwise nat_eq line slice → t ≡ true → Done ≡ ask_of line
unfolding ask_of
said_done line slice t s is e =
    sym (ap (λ (b : Bool). cond b Done (want_behind (behind_word (codes "want ") line))) (ap (pointwise nat_eq line) (sym s) ∙ sym is ∙ e))

pub said_else : (line slice : List ℕ) (t : Bool) (r : Option (List ℕ)) → slice ≡ codes "done" → t ≡ pointwise nat_eq line slice → t ≡ false → r ≡ behind_word (codes "want ") line → want_behind r ≡ ask_of line
unfolding ask_of
said_else line slice t r s is e b =
    ap want_behind b ∙ sym (ap (λ (x : Bool). cond x Done (want_behind (behind_word (codes "want ") line))) (ap (pointwise nat_eq line) (sym s) ∙ sym is ∙ e))
