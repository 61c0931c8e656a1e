-- The text of the note Head (this project's own): five lines, each ended by a line feed.
use Rattle.std.specs.Prelude.{◌≡◌, ◌⊎◌, ℕ, List, [], ◌∷◌, ◌++◌, codes, IsTrue}
use Rattle.std.specs.Fmt.{decimal}
use Rattle.uf_cid.specs.Cid.{cid_text}
use Rattle.uf_cid.specs.Read.{IsCid}
use Rattle.uf_cid.specs.declared.cid.Cid.{Cid}
use Rattle.uf_cid.specs.declared.cid.Codec.TheVariants.{DagPb}
use Rattle.uf_tree.specs.declared.profile.Head.{Head}
use Rattle.uf_tree.specs.declared.profile.Profile.{Profile}
use Rattle.uf_tree.specs.Profiles.{is_profile}

-- a line: a word, what stands after it, and a line feed
abbrev pub line : List ℕ → List ℕ → List ℕ
line word rest = word ++ rest ++ 10 ∷ []

-- the version, the three numbers of the profile in decimal digits, and the text of the root's CID
unfoldable pub text_in : List ℕ → Profile → Cid → List ℕ
text_in version p root =
    line (codes "unixfs-head ") version
    ++ line (codes "chunk ") (decimal p.chunk)
    ++ line (codes "width ") (decimal p.width)
    ++ line (codes "threshold ") (decimal p.threshold)
    ++ line (codes "root ") (cid_text root)

-- the text that is written, of version 2
abbrev pub head_text : Profile → Cid → List ℕ
head_text p root = text_in (codes "2") p root

-- a text that is read: of version 2, or of version 1, which has the same lines after its first one
abbrev pub IsHeadText : List ℕ → Profile → Cid → Type 0
IsHeadText text p root = (text ≡ head_text p root) ⊎ (text ≡ text_in (codes "1") p root)

-- the bytes are a text of this Head, whose profile is accepted and whose root is the CID of a node
pub record IsHeadOf (bytes : List ℕ) (head : Head) : Type 0 where
  pub profile : IsTrue (is_profile head.profile)
  pub root : IsCid head.root
  pub node : head.root.codec ≡ DagPb
  pub text : IsHeadText bytes head.profile head.root
