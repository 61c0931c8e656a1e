-- Light proofs: the blocks that decide a path, as a CAR, and what such a proof answers.
use Rattle.std.specs.Prelude.{◌-◌, ℕ, List, [], ◌∷◌, ◌++◌, Bool, true, false, codes, fold, length, map, if◌then◌else◌}
use Rattle.std.specs.declared.option.Option.TheVariants.{None, Some}
use Rattle.std.specs.declared.result.Result.{Result}
use Rattle.std.specs.declared.result.Result.TheVariants.{Ok, Err}
use Rattle.uf_cid.specs.Blocks.{Held}
use Rattle.uf_cid.specs.declared.cid.Cid.{Cid}
use Rattle.uf_walk.specs.Order.{is_met}
use Rattle.uf_car.specs.Text.{car_bytes}
use Rattle.uf_tree.specs.declared.profile.Profile.{Profile}
use Rattle.uf_tree.specs.DirPlan.{trail}
use Rattle.uf_tree.specs.FileSub.{IsFileHeight, whole_blocks}
use Rattle.uf_tree.specs.Tree.{Tree, File, Dir, own_meta}
use Rattle.uf_tree.specs.TreePlan.{entry, named_entries}
use Rattle.uf_plain.specs.declared.rule.Refused.{Refused}
use Rattle.uf_plain.specs.declared.rule.Refused.TheVariants as why
use Rattle.uf_plain.specs.Edits.{at, child}
use Rattle.uf_plain.specs.Rules.{path_text}
use Rattle.uf_words.specs.Shown.{shown_bytes}
use Rattle.uf_light.specs.declared.fault.LightFault.{LightFault}
use Rattle.uf_light.specs.declared.fault.LightFault.TheVariants as fault

-- a CID at the end, unless it is there
abbrev pub cid_once : List Cid → Cid → List Cid
cid_once cids c = if is_met cids c then cids else cids ++ c ∷ []

-- a block at the end, unless one of its CID is there
abbrev pub block_once : List Held → Held → List Held
block_once done b = if is_met (map (λ (d : Held). d.0) done) b.0 then done else done ++ b ∷ []

-- a file has this height, where there is one
abbrev pub HasHeight : Profile → ℕ → Result Tree Refused → Type 0
HasHeight p height (Ok (File m bytes)) = IsFileHeight p.chunk p.width m (length bytes) height
HasHeight p height (Ok (Dir es)) = Unit {0}
HasHeight p height (Err why) = Unit {0}

module _ (X : List ℕ → List ℕ) (N : List ℕ → ℕ) (p : Profile) where
  -- each directory on the way gives the blocks that decide the next name
  abbrev pub trails : List (List ℕ) → Tree → List Held
  trails [] t = []
  trails (name ∷ names) (File m bytes) = []
  trails (name ∷ names) (Dir es) = trail X N p (own_meta es) (named_entries X N p es) name
      ++ elim (child name es) [ None ↦ [] | Some t ↦ trails names t ]

  -- a file of this height gives the blocks of its plan, each node before those below it
  abbrev pub file_blocks : ℕ → Result Tree Refused → List Held
  file_blocks height (Ok (File m bytes)) = whole_blocks X p.chunk p.width m height bytes
  file_blocks height (Ok (Dir es)) = []
  file_blocks height (Err why) = []

  -- the blocks that decide a path, and of a file all of it: each CID once, at its first place
  abbrev pub light_order : ℕ → List (List ℕ) → Tree → List Held
  light_order height names t = fold block_once [] (trails names t ++ file_blocks height (at 0 names t))

  -- the light proof: the CAR of the tree's root and these blocks
  abbrev pub light_text : ℕ → List (List ℕ) → Tree → List ℕ
  light_text height names t = car_bytes (entry X N p t).cid (light_order height names t)

-- what is written where nothing is at a path
abbrev pub absent_text : List (List ℕ) → List ℕ
absent_text names = codes "absent " ++ shown_bytes (path_text names) ++ 10 ∷ []

-- what is written of something at a path: a file's bytes
abbrev pub of_there : Bool → Tree → Result (List ℕ) LightFault
of_there true t = Err fault.Exists
of_there false (File m bytes) = Ok bytes
of_there false (Dir es) = Err fault.IsADirectory

-- what is written where a lookup is refused at the name after n names, or at the last of n; it is refused for no other
-- reason
abbrev pub of_refused : Bool → List (List ℕ) → Refused → Result (List ℕ) LightFault
of_refused true names (why.NotFound led) = Ok (absent_text names)
of_refused false names (why.NotFound led) = Err (fault.NotFound (led - 1))
of_refused absent names (why.NotADirectory led) = Err (fault.NotADirectory led)
of_refused absent names _ = Err fault.IsADirectory

-- the bytes of what is said: of a refusal, none
abbrev pub said_bytes : Result (List ℕ) LightFault → List ℕ
said_bytes (Ok bytes) = bytes
said_bytes (Err f) = []

-- the light proof that is to be written where this is said: of a refusal, none
abbrev pub proof_of : Result (List ℕ) LightFault → List ℕ → List ℕ
proof_of (Ok bytes) text = text
proof_of (Err f) text = []

-- what the plain tree says of a path: the bytes that are written, or the refusal
abbrev pub light_says : Bool → List (List ℕ) → Result Tree Refused → Result (List ℕ) LightFault
light_says absent names (Ok t) = of_there absent t
light_says absent names (Err why) = of_refused absent names why
