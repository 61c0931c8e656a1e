-- What calls find, gather and write over a store that agrees with the blocks of a tree or of a file.
use Rattle.std.specs.Prelude.{◌≡◌, ◌⊎◌, ◌+◌, ◌-◌, ◌<◌, ◌≤◌, ◌^◌, ℕ, List, [], ◌∷◌, length, Bool, Some, None}
use Rattle.std.specs.declared.option.Option.{Option}
use Rattle.std.specs.declared.result.Result.{Result}
use Rattle.uf_car.specs.Reading.{car_read}
use Rattle.uf_cid.specs.Blocks.{Held}
use Rattle.uf_cid.specs.declared.cid.Cid.{Cid}
use Rattle.uf_edge.specs.Counts.{Stood}
use Rattle.uf_edge.specs.Streams.{AppendsPrefix, Told as SinkTold, Told as SourceTold}
use Rattle.uf_fileread.specs.Ranges.{IsFile, blocks_read}
use Rattle.uf_fileread.specs.Sending.{IsFilePart}
use Rattle.uf_plain.specs.Edits.{at, child}
use Rattle.uf_plain.specs.Needs.{member_needs, needs_at, root_of, way}
use Rattle.uf_store.specs.Keeping.{Agrees}
use Rattle.uf_store.specs.Lost.{FindsOver}
use Rattle.uf_store.specs.Seen.{Seen}
use Rattle.uf_store.specs.declared.store.StoreFault.{StoreFault}
use Rattle.uf_tree.specs.FilePlan.{file_plan}
use Rattle.uf_tree.specs.FileSub.{whole_blocks}
use Rattle.uf_tree.specs.Roots.{root_over}
use Rattle.uf_tree.specs.Tree.{Dir, Entries, Tree}
use Rattle.uf_tree.specs.TreePlan.{blocks}
use Rattle.uf_tree.specs.declared.meta.Meta.{Meta}
use Rattle.uf_tree.specs.declared.nodes.Entry.{Entry}
use Rattle.uf_tree.specs.declared.nodes.Part.{Part}
use Rattle.uf_tree.specs.declared.profile.Profile.{Profile}
use Rattle.uf_light.specs.Answers.{Accepts, ClashesWithPlan, Proves, file_needs}
use Rattle.uf_light.specs.FileCids.{below, cids_of}
use Rattle.uf_light.specs.Gathered.{AddsBlocks, Gathers, GathersMember}
use Rattle.uf_light.specs.Light.{HasHeight, light_order, light_says, light_text, proof_of, said_bytes}
use Rattle.uf_light.specs.Needs.{finding_touches, proof_needs, proof_touches}
use Rattle.uf_light.specs.Proving.{FindsLight}
use Rattle.uf_light.specs.Sections.{AnswersTree}
use Rattle.uf_light.specs.Sending.{ComesFirst, SendsFile}
use Rattle.uf_light.specs.Standing.{IsAgreedAt, IsAgreedMember, IsAgreedThing, IsMet, IsTreeAt, LosesOr}
use Rattle.uf_light.specs.declared.asked.Asked.{Asked}
use Rattle.uf_light.specs.declared.fault.LightFault.{LightFault}
use Rattle.uf_light.specs.declared.met.PathEnd.{PathEnd}
use Rattle.uf_light.specs.declared.thing.TypedEntry.{TypedEntry}

module _ (X : List ℕ → List ℕ) (N : List ℕ → ℕ) where
  -- over a tree that this is: what the names lead to, or a block of the way is lost
  abbrev pub LooksOn : ℕ → List (List ℕ) → TypedEntry → Seen → Seen → Result PathEnd StoreFault → Type 0
  LooksOn led names thing before now answer = (p : Profile) (t : Tree) → IsAgreedThing X N before.told p t thing
      → Stood before.faults now.faults
      → LosesOr X N before.told p (way X N p names t) (IsMet X N before.told p (at led names t)) answer

  -- the same, and the CIDs of the blocks that decide the names are gathered
  abbrev pub GathersAlong : ℕ → List (List ℕ) → TypedEntry → List Cid → List Cid → Seen → Seen
      → Result PathEnd StoreFault → Type 0
  GathersAlong led names thing cids cids_now before now answer = (p : Profile) (t : Tree)
      → IsAgreedThing X N before.told p t thing → Stood before.faults now.faults
      → Gathers X N before.told p names t (at led names t) cids cids_now answer

  -- over a directory with this CID: what it has under the name, or a block that decides that is lost
  abbrev pub FindsUnder : Cid → List ℕ → Seen → Seen → Result (Option TypedEntry) StoreFault → Type 0
  FindsUnder cid name before now answer = (p : Profile) (es : Entries) → IsAgreedAt X N before.told p cid (Dir es)
      → Stood before.faults now.faults
      → LosesOr X N before.told p (member_needs X N p name es) (IsAgreedMember X N before.told p (child name es)) answer

  -- the same, and the CIDs of these blocks are gathered
  abbrev pub GathersUnder : Cid → List ℕ → List Cid → List Cid → Seen → Seen → Result (Option TypedEntry) StoreFault
      → Type 0
  GathersUnder cid name cids cids_now before now answer = (p : Profile) (es : Entries)
      → IsAgreedAt X N before.told p cid (Dir es) → Stood before.faults now.faults
      → GathersMember X N before.told p name es cids cids_now answer

  -- over a tree with this CID: whether it is a file or a directory, or its root is lost
  abbrev pub FindsMet : Cid → Seen → Seen → Result TypedEntry StoreFault → Type 0
  FindsMet cid before now answer = (p : Profile) (t : Tree) → IsAgreedAt X N before.told p cid t
      → Stood before.faults now.faults
      → LosesOr X N before.told p (root_of X N p t) (IsAgreedThing X N before.told p t) answer

module _ (X : List ℕ → List ℕ) (N : List ℕ → ℕ) (root : Cid) (names : List (List ℕ)) where
  -- this is said of each tree with this root with whose blocks the store agrees, and of the height of the file at the
  -- path, where there is one; no failure came
  abbrev pub OfPath : Seen → Seen → (Profile → Tree → ℕ → Type 0) → Type 0
  OfPath before now P = (p : Profile) (t : Tree) (height : ℕ) → IsAgreedAt X N before.told p root t
      → Stood before.faults now.faults → HasHeight p height (at 0 names t) → P p t height

  -- the same, whatever fails, while failures are counted
  abbrev pub OfCountedPath : Seen → (Profile → Tree → ℕ → Type 0) → Type 0
  OfCountedPath before P = (p : Profile) (t : Tree) (height : ℕ) → IsAgreedAt X N before.told p root t
      → before.faults < 2 ^ 64 - 1 → HasHeight p height (at 0 names t) → P p t height

  -- what is at the path is written as the tree says it, or one of the blocks that are needed is lost
  abbrev pub AcceptsPath : Bool → Seen → Seen → Result ℕ LightFault → SinkTold → SinkTold → Type 0
  AcceptsPath absent before now answer out out_now = OfPath before now (λ p t height.
      Accepts before.told (needs_at X N p (file_needs X p height) names t) (light_says absent names (at 0 names t))
      answer out out_now)

  -- whatever fails, a prefix of what the tree says was written and nothing else
  abbrev pub WritesPrefixOfSaid : Bool → Seen → SinkTold → SinkTold → Type 0
  WritesPrefixOfSaid absent before out out_now = OfCountedPath before (λ p t height.
      AppendsPrefix (said_bytes (light_says absent names (at 0 names t))) out out_now)

  -- a refusal, and a block that is missing or bad, is found before anything is written
  abbrev pub RefusesPathFirst : Seen → Seen → Result ℕ LightFault → SinkTold → SinkTold → Type 0
  RefusesPathFirst before now answer out out_now = OfPath before now (λ p t height. ComesFirst answer out out_now)

  -- the proof of the path is written, or the tree's refusal is answered, or one of the blocks that it needs is lost
  abbrev pub ProvesPath : Bool → Seen → Seen → Result ℕ LightFault → SinkTold → SinkTold → Type 0
  ProvesPath absent before now answer out out_now = OfPath before now (λ p t height.
      Proves before.told (proof_needs X N p height absent names t) (light_text X N p height names t)
      (light_says absent names (at 0 names t)) answer out out_now)

  -- whatever fails, a prefix of the proof was written and nothing else; where the tree refuses, nothing
  abbrev pub WritesPrefixOfProof : Bool → Seen → SinkTold → SinkTold → Type 0
  WritesPrefixOfProof absent before out out_now = OfCountedPath before (λ p t height. AppendsPrefix
      (proof_of (light_says absent names (at 0 names t)) (light_text X N p height names t)) out out_now)

  -- the CIDs of the proof's blocks are found, or the tree's refusal is answered, or one of the blocks that it needs is
  -- lost
  abbrev pub FindsProof : Bool → Seen → Seen → Result (List Cid) LightFault → Type 0
  FindsProof absent before now answer = OfPath before now (λ p t height.
      FindsLight before.told (proof_needs X N p height absent names t) (light_order X N p height names t)
      (light_says absent names (at 0 names t)) answer)

  -- so many touches are enough to find these blocks, also where the tree refuses or one of them is lost
  abbrev pub TouchesFinding : Bool → Seen → Seen → ℕ → ℕ → Type 0
  TouchesFinding absent before now was is = OfPath before now (λ p t height.
      is ≤ was + finding_touches X N p height absent names t)

  -- so many touches are enough to make the proof, also where the tree refuses or a block that it needs is lost
  abbrev pub TouchesProof : Bool → Seen → Seen → ℕ → ℕ → Type 0
  TouchesProof absent before now was is = OfPath before now (λ p t height.
      is ≤ was + proof_touches X N p height absent names t)

module _ (X : List ℕ → List ℕ) (N : List ℕ → ℕ) (asked : Asked) (limit : ℕ) (left : SourceTold) where
  -- this is said of the sections of a source's bytes as a CAR, of each tree with the root that is asked for, and of the
  -- height of the file at the path, where there is one
  abbrev pub OfSections : (List Held → Profile → Tree → ℕ → Type 0) → Type 0
  OfSections P = (bytes : List ℕ) (p : Profile) (t : Tree) (height : ℕ) → left ≡ Some bytes
      → IsTreeAt X N p asked.root t → HasHeight p height (at 0 asked.names t)
      → P (car_read X limit bytes).sections p t height

  -- the answer is the one that the tree gives, or a block of its plan and a section clash
  abbrev pub ChecksPath : Result ℕ LightFault → SinkTold → SinkTold → Type 0
  ChecksPath answer out out_now = OfSections (λ sections p t height.
      AnswersTree X sections (blocks X N p t) (needs_at X N p (file_needs X p height) asked.names t)
      (light_says asked.absent asked.names (at 0 asked.names t)) answer out out_now)

  -- a prefix of what the tree says was written and nothing else, unless two such blocks clash
  abbrev pub ChecksPrefix : SinkTold → SinkTold → Type 0
  ChecksPrefix out out_now = OfSections (λ sections p t height. ClashesWithPlan X (blocks X N p t) sections
      ⊎ AppendsPrefix (said_bytes (light_says asked.absent asked.names (at 0 asked.names t))) out out_now)

  -- a refusal, and a block that is missing or bad, leaves the sink as it was, unless two such blocks clash
  abbrev pub ChecksFirst : Result ℕ LightFault → SinkTold → SinkTold → Type 0
  ChecksFirst answer out out_now = OfSections (λ sections p t height.
      ClashesWithPlan X (blocks X N p t) sections ⊎ ComesFirst answer out out_now)

module _ (X : List ℕ → List ℕ) (cid : Cid) where
  -- this is said of each file with this CID with whose blocks the store agrees
  abbrev pub OfAgreedFile : Seen → (Profile → Meta → List ℕ → ℕ → Type 0) → Type 0
  OfAgreedFile before P = (p : Profile) (m : Meta) (bytes : List ℕ) (height : ℕ) → IsFile X p m bytes cid height
      → Agrees before.told (file_plan X p m bytes).blocks → P p m bytes height

  -- where the store has not failed, the file's bytes are written, or one of its blocks is lost
  abbrev pub SendsWholeFile : Seen → Seen → Result ℕ LightFault → SinkTold → SinkTold → Type 0
  SendsWholeFile before now answer out out_now = OfAgreedFile before (λ p m bytes height. Stood before.faults now.faults
      → SendsFile before.told (blocks_read X p.chunk p.width m height 0 (2 ^ 64 - 1) bytes) bytes answer out out_now)

  -- whatever fails, a prefix of them was written and nothing else, while failures are counted
  abbrev pub SendsPrefixOfFile : Seen → SinkTold → SinkTold → Type 0
  SendsPrefixOfFile before out out_now = OfAgreedFile before (λ p m bytes height.
      before.faults < 2 ^ 64 - 1 → AppendsPrefix bytes out out_now)

  -- a block that is missing or bad is found before anything is written
  abbrev pub RefusesFileFirst : Seen → Seen → Result ℕ LightFault → SinkTold → SinkTold → Type 0
  RefusesFileFirst before now answer out out_now = OfAgreedFile before (λ p m bytes height.
      Stood before.faults now.faults → ComesFirst answer out out_now)

  -- the CIDs of the file's blocks are found, or one of them is lost
  abbrev pub FindsFileCids : Seen → Seen → Result (List Cid) StoreFault → Type 0
  FindsFileCids before now answer = OfAgreedFile before (λ p m bytes height. Stood before.faults now.faults
      → FindsOver before.told (whole_blocks X p.chunk p.width m height bytes)
      (cids_of (whole_blocks X p.chunk p.width m height bytes)) answer)

  -- it takes no more touches than the file has blocks
  abbrev pub TouchesFile : Seen → Seen → ℕ → ℕ → Type 0
  TouchesFile before now was is = OfAgreedFile before (λ p m bytes height. Stood before.faults now.faults
      → is ≤ was + length (whole_blocks X p.chunk p.width m height bytes))

  -- the parts right below a block of a file are found, or it is lost
  abbrev pub FindsPartsBelow : Seen → Seen → Result (List Part) StoreFault → Type 0
  FindsPartsBelow before now answer = (p : Profile) (m : Meta) (k : ℕ) (bytes : List ℕ)
      → IsFilePart X p 22 m k cid None bytes → Agrees before.told (root_over X p.chunk p.width m k bytes ∷ [])
      → Stood before.faults now.faults
      → FindsOver before.told (root_over X p.chunk p.width m k bytes ∷ []) (below X p k bytes) answer

-- where there is a file, the CIDs of its blocks are put at the end of the list, or one of them is lost
abbrev pub AddsFileCids : (List ℕ → List ℕ) → Option Entry → List Cid → List Cid → Seen → Seen
    → Result Unit LightFault → Type 0
AddsFileCids X file cids cids_now before now answer =
    (e : Entry) (p : Profile) (m : Meta) (bytes : List ℕ) (height : ℕ) → file ≡ Some e
    → IsFile X p m bytes e.cid height → Agrees before.told (file_plan X p m bytes).blocks
    → Stood before.faults now.faults
    → AddsBlocks before.told (whole_blocks X p.chunk p.width m height bytes) cids cids_now answer

-- where there is a file, it takes no more touches than that has blocks
abbrev pub TouchesFileCids : (List ℕ → List ℕ) → Option Entry → Seen → Seen → ℕ → ℕ → Type 0
TouchesFileCids X file before now was is = (e : Entry) → file ≡ Some e → TouchesFile X e.cid before now was is
