-- A Head and what is held stand for one tree.
use Rattle.std.proofs.Common.{◌≡◌, ℕ, ◌^◌, ◌<◌, List, refl, ap, sym, ◌∙◌, subst, Ok, Result, Option, None, Some}
use Rattle.std.specs.Prelude.{IsTrue}
use Rattle.uf_cid.specs.Blocks.{Lookup}
use Rattle.uf_cid.specs.Read.{IsCid}
use Rattle.uf_cid.specs.declared.cid.Cid.{Cid}
use Rattle.uf_cid.specs.declared.cid.Codec.TheVariants.{DagPb}
use Rattle.uf_tree.specs.declared.head_fault.HeadFault.{HeadFault}
use Rattle.uf_tree.specs.declared.nodes.Entry.{Entry}
use Rattle.uf_tree.specs.declared.profile.Head.{Head}
use Rattle.uf_tree.specs.declared.profile.Profile.{Profile}
use Rattle.uf_tree.specs.Profiles.{is_profile}
use Rattle.uf_tree.specs.Standing.{Standing, IsHeadNote, NoHead, BadHead, Stands, StandsFor, StandsAs, IsBadHead}
use Rattle.uf_tree.specs.Tree.{Dir, Entries, own_meta}
use Rattle.uf_tree.specs.TreePlan.{entry, named_entries}
use Rattle.uf_tree.specs.Validity.{IsHash}
use Rattle.uf_tree.proofs.HeadAgain.{head_again}
use Rattle.uf_tree.proofs.TreeLaws.{entry-dir}
use Rattle.uf_tree.proofs.Valid.{entry-valid}
use Rattle.uf_laws.proofs.Trees.{own_codec, same_tree}

abbrev read : Profile → Cid → Result Head HeadFault
read p c = Ok (record { profile = p; root = c })

abbrev of : Profile → Cid → Head
of p c = record { profile = p; root = c }

same_heads : (p q : Profile) (c d : Cid) → read p c ≡ read q d → of p c ≡ of q d
same_heads p q c d e = cc

-- a text is that of one Head
one_head : (head : Option (List ℕ)) (p q : Profile) (c d : Cid) → IsTrue (is_profile p) → IsTrue (is_profile q) → IsCid c → IsCid d → c.codec ≡ DagPb → d.codec ≡ DagPb
    → IsHeadNote head p c → IsHeadNote head q d → of p c ≡ of q d
one_head None p q c d ok oq h k n m a b = absurd a
one_head (Some text) p q c d ok oq h k n m a b = same_heads p q c d (sym (head_again text p c ok h n a) ∙ head_again text q d oq k m b)

same_entries : (es fs : Entries) → Dir es ≡ Dir fs → es ≡ fs
same_entries es fs e = cc

module _ (X : List ℕ → List ℕ) (N : List ℕ → ℕ) (good : IsHash X) (small : (name : List ℕ) → N name < 2 ^ 64) (held : Lookup) (head : Option (List ℕ)) where
  abbrev root : Profile → Entries → Cid
  root p es = (entry X N p (Dir es)).cid

  root_node : (p : Profile) (es : Entries) → (root p es).codec ≡ DagPb
  root_node p es = ap (λ (e : Entry). e.cid.codec) (entry-dir X N p es) ∙ own_codec X N good small held p (own_meta es) (named_entries X N p es)

  root_cid : (p : Profile) (es : Entries) → IsTrue (is_profile p) → IsCid (root p es)
  root_cid p es ok = (entry-valid X good N p ok (Dir es)).cid

  pub one_tree : (p q : Profile) (es fs : Entries) → StandsFor X N held head p es → StandsFor X N held head q fs → (p ≡ q) × (es ≡ fs)
  one_tree p q es fs h k =
      let heads = one_head head p q (root p es) (root q fs) h.profile k.profile (root_cid p es h.profile) (root_cid q fs k.profile) (root_node p es) (root_node q fs) h.head_is k.head_is in
      let tree = same_tree X N good small held p q (Dir es) (Dir fs)
      (record { profile = h.profile; tree = h.tree; planned = h.planned; all = h.blocks_held })
      (record { profile = k.profile; tree = k.tree; planned = k.planned; all = k.blocks_held })
      (ap (λ (x : Head). x.root) heads) in
      (ap (λ (x : Head). x.profile) heads, same_entries es fs tree)

  nothing_there : (p : Profile) (c : Cid) → head ≡ None → IsHeadNote head p c → ⊥
  nothing_there p c h k = subst (λ (x : Option (List ℕ)). IsHeadNote x p c) h k

  bad_or_head : (o : Option (List ℕ)) (p : Profile) (c : Cid) → IsTrue (is_profile p) → IsCid c → c.codec ≡ DagPb → IsBadHead o → IsHeadNote o p c → ⊥
  bad_or_head None p c ok whole node bad is = bad
  bad_or_head (Some text) p c ok whole node bad is = bad p c ok whole node is

  not_bad : (p : Profile) (es : Entries) → IsBadHead head → StandsFor X N held head p es → ⊥
  not_bad p es bad h = bad_or_head head p (root p es) h.profile (root_cid p es h.profile) (root_node p es) bad h.head_is

  pub one_standing : (s r : Standing) → StandsAs X N held head s → StandsAs X N held head r → s ≡ r
  one_standing NoHead NoHead h k = refl
  one_standing NoHead BadHead h k = absurd (subst IsBadHead h k)
  one_standing NoHead (Stands q fs) h k = absurd (nothing_there q (root q fs) h k.head_is)
  one_standing BadHead NoHead h k = absurd (subst IsBadHead k h)
  one_standing BadHead BadHead h k = refl
  one_standing BadHead (Stands q fs) h k = absurd (not_bad q fs h k)
  one_standing (Stands p es) NoHead h k = absurd (nothing_there p (root p es) k h.head_is)
  one_standing (Stands p es) BadHead h k = absurd (not_bad p es k h)
  one_standing (Stands p es) (Stands q fs) h k = let one = one_tree p q es fs h k in λ i. Stands (one.0 i) (one.1 i)
