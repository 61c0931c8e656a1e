-- Where a bad block stands, and what a reading shows of it.
use Rattle.std.proofs.Common.{◌≡◌, ℕ, suc, ◌+◌, ◌-◌, ◌<◌, ◌≤◌, List, [], ◌∷◌, length, get_or, refl, arith, sym, ◌∙◌, subst, Option, Some, Result, Ok, Err}
use Rattle.std.specs.Prelude.{IfSome}
use Rattle.std.specs.List.{Contains}
use Rattle.uf_cid.specs.declared.cid.Cid.{Cid}
use Rattle.uf_edge.specs.Counts.{Rose}
use Rattle.uf_fileread.specs.Bad.{IsBadAmong, IsBadAt, IsBadBelow, LinksPart, declared_at}
use Rattle.uf_fileread.specs.Ranges.{ShowsRange}
use Rattle.uf_fileread.specs.declared.node_parts.NodeParts.{NodeParts}
use Rattle.uf_fileread.specs.Sending.{HasParts}
use Rattle.uf_fileread.specs.declared.fault.RangeFault.{RangeFault}
use Rattle.uf_fileread.specs.declared.fault.RangeFault.TheVariants.{Sink, Store}
use Rattle.uf_store.specs.Contents.{Told, held_at}
use Rattle.uf_store.specs.Faults.{StaysCalm}
use Rattle.uf_store.specs.Seen.{Seen}
use Rattle.uf_store.specs.declared.store.Role.{Role}
use Rattle.uf_store.proofs.Causes.{Shows-after, Shows-by, StaysCalm-trans}
use Rattle.uf_tree.specs.declared.nodes.Part.{Part}

-- the block under the CID itself
pub bad-here : (told : Told) (above : ℕ) (declared : Option ℕ) (cid : Cid) (role : Role) (bytes : List ℕ) → IfSome told (λ t. held_at t cid ≡ Some bytes) → IsBadAt above declared role bytes
    → IsBadBelow told above declared cid role bytes
bad-here told above declared cid role bytes held bad = record {
  way = [];
  is_way = tt;
  is_held = held;
  bad = subst (λ (n : ℕ). IsBadAt n declared role bytes) (let same : above ≡ above + 0 = omega arith in same) bad;
}

-- a block below one of the parts that the node under the CID links
pub bad-under : (told : Told) (above below : ℕ) (declared : Option ℕ) (cid : Cid) (parts : List Part) (role : Role) (bytes : List ℕ) → below ≡ above + 1
    → ((part : Part) → Contains parts part → LinksPart told cid part) → IsBadAmong told below parts role bytes → IsBadBelow told above declared cid role bytes
bad-under told above below declared cid parts role bytes next links h = record {
  way = h.part ∷ h.bad.way;
  is_way = (links h.part h.among, h.bad.is_way);
  is_held = h.bad.is_held;
  bad = subst (λ (n : ℕ). IsBadAt n (declared_at (Some h.part.size) h.bad.way) role bytes) (let same : below + length h.bad.way ≡ above + suc (length h.bad.way) = omega arith in same) h.bad.bad;
}

-- what one judge calls bad, another does too
pub range-by : (hash : List ℕ → List ℕ) (Bad Other : Role → List ℕ → Type 0) (r : Result ℕ RangeFault) (before now : Seen) (faults faults_now : ℕ) → ((role : Role) (bytes : List ℕ) → Bad role bytes → Other role bytes)
    → ShowsRange hash Bad r before now faults faults_now → ShowsRange hash Other r before now faults faults_now
range-by hash Bad Other (Ok n) before now faults faults_now more h = h
range-by hash Bad Other (Err Sink) before now faults faults_now more h = h
range-by hash Bad Other (Err (Store fault)) before now faults faults_now more h = (Shows-by hash Bad Other fault before now more h.0, h.1)

-- what is shown holds from an earlier moment on too, if store and sink have stayed calm until then
pub range-after : (hash : List ℕ → List ℕ) (Bad : Role → List ℕ → Type 0) (r : Result ℕ RangeFault) (a b c : Seen) (before mid now : ℕ) → StaysCalm a b → mid ≡ before
    → ShowsRange hash Bad r b c mid now → ShowsRange hash Bad r a c before now
range-after hash Bad (Ok n) a b c before mid now calm still h = (StaysCalm-trans a b c calm h.0, h.1 ∙ still)
range-after hash Bad (Err Sink) a b c before mid now calm still h = (StaysCalm-trans a b c calm h.0, subst (λ (n : ℕ). Rose n now) still h.1)
range-after hash Bad (Err (Store fault)) a b c before mid now calm still h = (Shows-after hash Bad fault a b c calm h.0, h.1 ∙ still)

-- what the reading of one of some parts shows, after others
pub loop-shows : (hash : List ℕ → List ℕ) (rows i : ℕ) (parts : List Part) (part : Part) (r : Result ℕ RangeFault) (a b c : Seen) (before mid now : ℕ) → i < length parts → part ≡ get_or parts i part
    → b.told ≡ a.told → StaysCalm a b → mid ≡ before → ShowsRange hash (IsBadBelow b.told (22 - rows) (Some part.size) part.entry.cid) r b c mid now → ShowsRange hash (IsBadAmong a.told (22 - rows) parts) r a c before now
loop-shows hash rows i parts part r a b c before mid now low is same calm still h =
    range-after hash (IsBadAmong a.told (22 - rows) parts) r a b c before mid now calm still
    (range-by hash (IsBadBelow b.told (22 - rows) (Some part.size) part.entry.cid) (IsBadAmong a.told (22 - rows) parts) r b c mid now
    (λ role bytes bad. record {
      part = part;
      among = (i, low, sym is);
      bad = subst (λ (t : Told). IsBadBelow t (22 - rows) (Some part.size) part.entry.cid role bytes) same bad;
    }) h)

-- what the reading of the parts of a loaded node shows
pub node-shows : (hash : List ℕ → List ℕ) (rows : ℕ) (declared : Option ℕ) (cid : Cid) (parts : NodeParts) (slice : List Part) (r : Result ℕ RangeFault) (a b c : Seen) (before now : ℕ) → rows ≤ 22 → slice ≡ parts.parts
    → HasParts rows declared cid a parts → b.told ≡ a.told → StaysCalm a b → ShowsRange hash (IsBadAmong b.told (22 - (rows - 1)) slice) r b c before now
    → ShowsRange hash (IsBadBelow a.told (22 - rows) declared cid) r a c before now
node-shows hash rows declared cid parts slice r a b c before now few sliced has same calm h =
    let some : 1 ≤ rows = has.stands.some in
    range-after hash (IsBadBelow a.told (22 - rows) declared cid) r a b c before before now calm refl
    (range-by hash (IsBadAmong b.told (22 - (rows - 1)) slice) (IsBadBelow a.told (22 - rows) declared cid) r b c before now
    (λ role bytes bad.
    bad-under a.told (22 - rows) (22 - (rows - 1)) declared cid parts.parts role bytes (omega arith)
    (λ part among. record { parts = parts; valid = has.stands.valid; is_held = has.is_held; among = among })
    (subst (λ (l : List Part). IsBadAmong a.told (22 - (rows - 1)) l role bytes) sliced (subst (λ (t : Told). IsBadAmong t (22 - (rows - 1)) slice role bytes) same bad))) h)
