-- What is due, step by step, and what was answered of it.
use Rattle.std.proofs.Common.{◌≡◌, ℕ, zero, suc, ◌+◌, ◌≤◌, List, [], ◌∷◌, ◌++◌, length, take, drop, Bool, true, false, append_assoc, length-append, refl, sym, ap, subst, ◌∙◌, arith, Ok, Err, inl, inr}
use Rattle.std.specs.Prelude.{Some}
use Rattle.std.proofs.Math.Seq.{take-append-add}
use Rattle.std.proofs.lemmas.Grind.{flat_map-append}
use Rattle.std.proofs.lemmas.List.{map-append}
use Rattle.uf_cid.specs.Blocks.{Held, Lookup}
use Rattle.uf_cid.specs.declared.cid.Cid.{Cid}
use Rattle.uf_edge.proofs.Appending.{after-after}
use Rattle.uf_edge.specs.Streams.{AppendsPrefix, after}
use Rattle.uf_edge.specs.Streams as streams
use Rattle.uf_store.specs.Contents.{Contents, Told, with_save, with_sync}
use Rattle.uf_walk.specs.Order.{Missing, NotDagPb, OverMost, order}
use Rattle.uf_pull.specs.declared.fault.PullFault.{PullFault}
use Rattle.uf_pull.specs.declared.fault.PullFault.TheVariants as fault
use Rattle.uf_pull.specs.Due.{Due, answer_to, cids_of, closing, due_asked, due_behind, due_by, due_end, due_text, due_within, holding}
use Rattle.uf_pull.specs.Frames.{Frames, first_place}
use Rattle.uf_pull.specs.Pulling.{RefusesBy, StopsPull, with_all}
use Rattle.uf_pull.specs.Wants.{done_line, want_line, wants_text}
use Rattle.uf_pull.proofs.Leaving.{rest_more}
use Rattle.uf_pull.proofs.Written.{part-behind}

module _ (hash : List ℕ → List ℕ) (most : ℕ) (root : Cid) where
  pub due_missing : (n : ℕ) (held : Lookup) (more : ℕ) (fs : Frames) (c : Cid) → order held most root ≡ Err (Missing c)
      → due_within hash most root (suc n) held more fs ≡ due_asked c (λ block m behind. due_within hash most root n (holding c block held) m behind) (answer_to hash c more fs)
  unfolding due_within
  due_missing n held more fs c is =
      ap (due_by (λ d. due_asked d (λ block m behind. due_within hash most root n (holding d block held) m behind) (answer_to hash d more fs)) fs) is

  pub due_whole : (n : ℕ) (held : Lookup) (more : ℕ) (fs : Frames) (list : List Cid) → order held most root ≡ Ok list → due_within hash most root n held more fs ≡ due_end (Ok tt) (first_place fs)
  unfolding due_within
  due_whole zero held more fs list is = ap (due_by _ fs) is
  due_whole (suc n) held more fs list is = ap (due_by _ fs) is

  pub due_over : (n : ℕ) (held : Lookup) (more : ℕ) (fs : Frames) → order held most root ≡ Err OverMost → due_within hash most root n held more fs ≡ due_end (Err fault.TooMany) (first_place fs)
  unfolding due_within
  due_over zero held more fs is = ap (due_by _ fs) is
  due_over (suc n) held more fs is = ap (due_by _ fs) is

  pub due_no_node : (n : ℕ) (held : Lookup) (more : ℕ) (fs : Frames) (c : Cid) (why : ℕ) → order held most root ≡ Err (NotDagPb c why) → due_within hash most root n held more fs ≡ due_end (Err (fault.NotDagPb c why)) (first_place fs)
  unfolding due_within
  due_no_node zero held more fs c why is = ap (due_by _ fs) is
  due_no_node (suc n) held more fs c why is = ap (due_by _ fs) is

-- blocks behind others
pub with_all-append : (xs ys : List Held) (t : Contents) → with_all (xs ++ ys) t ≡ with_all ys (with_all xs t)
with_all-append [] ys t = refl
with_all-append (b ∷ xs) ys t = with_all-append xs ys (with_save b.0 b.1 t)

pub wants-append : (xs ys : List Cid) → wants_text (xs ++ ys) ≡ wants_text xs ++ wants_text ys
wants-append xs ys = flat_map-append want_line xs ys

pub cids-append : (xs ys : List Held) → cids_of (xs ++ ys) ≡ cids_of xs ++ cids_of ys
cids-append xs ys = map-append (λ (b : Held). b.0) xs ys

pub text-behind : (blocks : List Held) (d : Due) → due_text (due_behind blocks d) ≡ wants_text (cids_of blocks) ++ due_text d
text-behind blocks d =
    ap (λ (xs : List ℕ). xs ++ closing d.ends) (wants-append (cids_of blocks) d.wants)
    ∙ append_assoc (wants_text (cids_of blocks)) (wants_text d.wants) (closing d.ends)

-- what is due behind others is due behind both
pub behind-behind : (xs ys : List Held) (d : Due) → due_behind xs (due_behind ys d) ≡ due_behind (xs ++ ys) d
behind-behind xs ys d = λ i. record {
  wants = (sym (append_assoc (cids_of xs) (cids_of ys) d.wants) ∙ ap (λ (cs : List Cid). cs ++ d.wants) (sym (cids-append xs ys))) i;
  blocks = sym (append_assoc xs ys d.blocks) i;
  ends = d.ends;
  used = d.used;
}

-- it was stopped behind blocks that were asked for and kept
module _ (rest : Due) (blocks : List Held) (t : Contents) (told_now : Told) (out mid last : streams.Told) (written : mid ≡ after out (wants_text (cids_of blocks))) where
  wants_behind : after mid (wants_text rest.wants) ≡ after out (wants_text (cids_of blocks ++ rest.wants))
  wants_behind =
      ap (λ (o : streams.Told). after o (wants_text rest.wants)) written ∙ after-after out (wants_text (cids_of blocks)) (wants_text rest.wants)
      ∙ ap (after out) (sym (wants-append (cids_of blocks) rest.wants))

  stops_behind : StopsPull rest (with_all blocks t) told_now mid last → StopsPull (due_behind blocks rest) t told_now out last
  stops_behind (inl r) =
      let size : length (blocks ++ rest.blocks) ≡ length blocks + length rest.blocks = length-append blocks rest.blocks in
      let few : r.count ≤ length rest.blocks = r.few in
      inl (record {
        count = length blocks + r.count;
        few = omega (arith, size, few);
        kept = r.kept ∙ ap Some (sym (ap (λ (l : List Held). with_all l t) (take-append-add blocks rest.blocks r.count) ∙ with_all-append blocks (take r.count rest.blocks) t));
        written = subst (λ (x : List ℕ). AppendsPrefix x out last) (sym (wants-append (cids_of blocks) rest.wants)) (part-behind (wants_text (cids_of blocks)) (wants_text rest.wants) out mid last written r.written);
      })
  stops_behind (inr r) =
      inr (record {
        whole = r.whole;
        kept = r.kept ∙ ap (λ (u : Contents). Some (with_sync u)) (sym (with_all-append blocks rest.blocks t));
        written = subst (λ (o : streams.Told). AppendsPrefix done_line o last) wants_behind r.written;
      })

-- a refusal behind blocks that were asked for and kept, and behind bytes that were used
pub refuses_behind : (b : Bool) (d rest : Due) (blocks : List Held) (f : PullFault) (place mid_place count : ℕ) (bytes later : List ℕ) (t : Contents) (told_now : Told) (out mid last left_now : streams.Told)
    → d ≡ due_behind blocks rest → mid ≡ after out (wants_text (cids_of blocks)) → mid_place ≡ place + count → later ≡ drop count bytes
    → RefusesBy b rest f mid_place later (with_all blocks t) told_now mid last left_now → RefusesBy b d f place bytes t told_now out last left_now
refuses_behind true d rest blocks f place mid_place count bytes later t told_now out mid last left_now is written moved behind r =
    subst (λ (x : Due). RefusesBy true x f place bytes t told_now out last left_now) (sym is)
    (stops_behind rest blocks t told_now out mid last written r)
refuses_behind false d rest blocks f place mid_place count bytes later t told_now out mid last left_now is written moved behind r =
    subst (λ (x : Due). RefusesBy false x f place bytes t told_now out last left_now) (sym is)
    (record {
      ends = r.ends;
      kept = r.kept ∙ ap Some (sym (with_all-append blocks rest.blocks t));
      written = r.written ∙ ap (λ (o : streams.Told). after o (due_text rest)) written ∙ after-after out (wants_text (cids_of blocks)) (due_text rest) ∙ ap (after out) (sym (text-behind blocks rest));
      rest = rest_more place mid_place count rest.used bytes later left_now moved behind f r.rest;
    })
