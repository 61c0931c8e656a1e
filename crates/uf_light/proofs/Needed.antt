-- What a proof needs is of the tree, and of one height of the file.
use Rattle.std.proofs.Common.{◌≡◌, ℕ, List, ap, length, refl, Bool, true, false, Result, Ok, Err}
use Rattle.std.specs.List.{AllByRecursion}
use Rattle.uf_cid.specs.Blocks.{Held}
use Rattle.uf_cid.specs.declared.cid.Cid.{Cid}
use Rattle.uf_edge.specs.Streams.{Told as SinkTold}
use Rattle.uf_store.specs.Contents.{Told}
use Rattle.uf_store.specs.declared.store.StoreFault.TheVariants as store
use Rattle.uf_tree.specs.FileSub.{whole_blocks}
use Rattle.uf_tree.specs.Tree.{Tree, File, Dir}
use Rattle.uf_tree.specs.TreePlan.{blocks, entry}
use Rattle.uf_tree.specs.declared.profile.Profile.{Profile}
use Rattle.uf_tree.proofs.Rows.{file-height-unique}
use Rattle.uf_plain.specs.declared.rule.Refused.{Refused}
use Rattle.uf_plain.specs.Edits.{at}
use Rattle.uf_plain.specs.Needs.{way}
use Rattle.uf_light.specs.Answers.{Proves}
use Rattle.uf_light.specs.Light.{HasHeight}
use Rattle.uf_light.specs.Needs.{proof_needs, shown_blocks}
use Rattle.uf_light.specs.Standing.{IsTreeAt}
use Rattle.uf_light.specs.declared.fault.LightFault.{LightFault}
use Rattle.uf_light.specs.declared.fault.LightFault.TheVariants as fault
use Rattle.uf_light.proofs.Accepting.{planned-at}
use Rattle.uf_light.proofs.Collecting.{at-among, way-among}
use Rattle.uf_light.proofs.Files as files
use Rattle.uf_light.proofs.Holding.{Among, append, loss-among}

module _ (X : List ℕ → List ℕ) (N : List ℕ → ℕ) (p : Profile) where
  -- a file has one height
  pub same-shown : (h k : ℕ) (absent : Bool) (w : Result Tree Refused) → HasHeight p h w → HasHeight p k w → shown_blocks X N p h absent w ≡ shown_blocks X N p k absent w
  same-shown h k true w a b = refl
  same-shown h k false (Ok (File m bytes)) a b = ap (λ (n : ℕ). whole_blocks X p.chunk p.width m n bytes) (file-height-unique p.chunk p.width m (length bytes) h k a b)
  same-shown h k false (Ok (Dir es)) a b = refl
  same-shown h k false (Err why) a b = refl

  module _ (height : ℕ) (absent : Bool) (names : List (List ℕ)) (t : Tree) (root : Cid) (s : IsTreeAt X N p root t) (tall : HasHeight p height (at 0 names t)) where
    -- what a proof needs is of the tree
    pub needs-among : Among (proof_needs X N p height absent names t) (blocks X N p t)
    needs-among P h = append P (way X N p names t) _ (way-among X N p names t P h) (by absent (at 0 names t) refl tall)
      where
        by : (absent : Bool) (w : Result Tree Refused) → at 0 names t ≡ w → HasHeight p height w → AllByRecursion P (shown_blocks X N p height absent w)
        by true w is tall = tt
        by false (Ok (File m bytes)) is tall =
            files.down-among X N p (entry X N p (File m bytes)).cid m bytes (planned-at X N p 0 names t (File m bytes) root s is) height tall P (at-among X N p 0 names t (File m bytes) is P h)
        by false (Ok (Dir es)) is tall = tt
        by false (Err why) is tall = tt

-- a proof that needs some blocks needs no more than those that they are among
pub proves-among : (told : Told) (k l : List Held) (text : List ℕ) (said : Result (List ℕ) LightFault) (r : Result ℕ LightFault) (out out_now : SinkTold) → Among k l
    → Proves told k text said r out out_now → Proves told l text said r out out_now
proves-among told k l text said (Ok n) out out_now among h = h
proves-among told k l text said (Err fault.Sink) out out_now among h = h
proves-among told k l text said (Err (fault.Store store.Failed)) out out_now among h = h
proves-among told k l text said (Err (fault.Store (store.Damaged c))) out out_now among h = h
proves-among told k l text said (Err (fault.Store (store.Missing c))) out out_now among h = (loss-among told k l (store.Missing c) among h.0, h.1)
proves-among told k l text said (Err (fault.Store (store.BadBlock c role))) out out_now among h = h
proves-among told k l text said (Err (fault.Store (store.Clash c a b))) out out_now among h = h
proves-among told k l text said (Err (fault.Store store.Memory)) out out_now among h = h
proves-among told k l text said (Err (fault.NotFound n)) out out_now among h = h
proves-among told k l text said (Err (fault.NotADirectory n)) out out_now among h = h
proves-among told k l text said (Err fault.IsADirectory) out out_now among h = h
proves-among told k l text said (Err fault.Exists) out out_now among h = h
proves-among told k l text said (Err (fault.OtherRoot c)) out out_now among h = h
proves-among told k l text said (Err (fault.Car f)) out out_now among h = h
