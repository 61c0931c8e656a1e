-- How what calls answer composes.
use Rattle.std.proofs.Common.{◌≡◌, inl, inr, ℕ, List, refl, sym, ap, subst, ◌∙◌}
use Rattle.std.specs.Prelude.{Some, None, IfErr, IfSome}
use Rattle.std.specs.declared.result.Result.{Result}
use Rattle.std.specs.declared.result.Result.TheVariants.{Ok, Err}
use Rattle.uf_varint.specs.Fields.{◌>>=◌}
use Rattle.uf_cid.specs.Blocks.{Lookup}
use Rattle.uf_store.specs.Contents.{Contents, Told, held_at}
use Rattle.uf_store.specs.Calls.{OnlyReads}
use Rattle.uf_store.specs.Faults.{NoneIsBad, Shown, Shows, StaysCalm}
use Rattle.uf_store.specs.declared.store.StoreFault.{StoreFault}
use Rattle.uf_store.specs.declared.store.StoreFault.TheVariants.{Memory}
use Rattle.uf_store.specs.Seen.{Seen}
use Rattle.uf_store.proofs.Causes.{StaysCalm-refl, calm-memory}
use Rattle.uf_lenient.specs.declared.fault.DagFault.{DagFault}
use Rattle.uf_lenient.specs.declared.fault.DagFault.TheVariants.{Store}
use Rattle.uf_lenient.specs.Answers.{IsBare, IsFault, dag_fault, store_fault_of}
use Rattle.uf_lenient.specs.Good.{ByGoodBlocks, ByLeaves, HasGoodOf, HasLeaves}
use Rattle.uf_lenient.specs.declared.due.LeafVisit.{LeafVisit}
use Rattle.uf_lenient.specs.declared.due.LeafVisit.TheVariants.{Loaded, Asked}
use Rattle.uf_lenient.specs.Reading.{◌>>◌, Visits, unvisited}

-- a fault of a first reading is one of both
pub fault-then : {A B : Type 0} (said : Result A DagFault) (next : A → Result B DagFault) (fault : DagFault) → IsFault said fault → IsFault (said >>= next) fault
fault-then said next fault (inl own) = inl own
fault-then said next fault (inr is) = inr (ap (λ r. r >>= next) is)

pub fault-behind : {A B : Type 0} (said : Visits A) (next : A → ℕ → Visits B) (fault : DagFault) → IsFault said fault → IsFault (said >> next) fault
fault-behind said next fault (inl own) = inl own
fault-behind said next fault (inr is) = inr (ap (λ r. r >> next) is)

pub fault-still : {A : Type 0} (n : ℕ) (said : Result A DagFault) (fault : DagFault) → IsFault said fault → IsFault (unvisited n said) fault
fault-still n said fault (inl own) = inl own
fault-still n said fault (inr is) = inr (ap (unvisited n) is)

pub fault-is : {A : Type 0} (said other : Result A DagFault) (fault : DagFault) → other ≡ said → IsFault said fault → IsFault other fault
fault-is said other fault same (inl own) = inl own
fault-is said other fault same (inr is) = inr (same ∙ is)

-- what holds where the store tells
pub on : {P Q : Contents → Type 0} (told : Told) → ((t : Contents) → P t → Q t) → IfSome told P → IfSome told Q
on None f p = tt
on (Some t) f p = f t p

pub on-both : {P Q R : Contents → Type 0} (told later : Told) → later ≡ told → ((t : Contents) → P t → Q t → R t) → IfSome told P → IfSome later Q → IfSome told R
on-both None later same f p q = tt
on-both {P} {Q} {R} (Some t) later same f p q = f t p (subst (λ m. IfSome m Q) same q)

pub told-always : {P : Contents → Type 0} (told : Told) → ((t : Contents) → P t) → IfSome told P
told-always None f = tt
told-always (Some t) f = f t

-- the same by the good blocks
pub by-good : {P Q : Lookup → Type 0} (hash : List ℕ → List ℕ) (told : Told) → ((held : Lookup) → P held → Q held)
    → ByGoodBlocks hash told P → ByGoodBlocks hash told Q
by-good hash None f p = tt
by-good hash (Some t) f p = λ good has. f good (p good has)

pub good-both : {P Q R : Lookup → Type 0} (hash : List ℕ → List ℕ) (told later : Told) → later ≡ told
    → ((held : Lookup) → P held → Q held → R held)
    → ByGoodBlocks hash told P → ByGoodBlocks hash later Q → ByGoodBlocks hash told R
good-both hash None later same f p q = tt
good-both {P} {Q} {R} hash (Some t) later same f p q =
    let now = subst (λ m. ByGoodBlocks hash m Q) same q in λ good has. f good (p good has) (now good has)

pub good-always : {P : Lookup → Type 0} (hash : List ℕ → List ℕ) (told : Told) → ((held : Lookup) → P held)
    → ByGoodBlocks hash told P
good-always hash None f = tt
good-always hash (Some t) f = λ good has. f good

-- all that is held has its own good blocks
pub held-so : (P : Lookup → Type 0) (hash : List ℕ → List ℕ) (told : Told) → ByGoodBlocks hash told P
    → IfSome told (λ t. P (held_at t))
held-so P hash None p = tt
held-so P hash (Some t) p = p (held_at t) (record { holds = λ c block is same. is; misses = λ c none. none })

-- the same where leaves may only be asked for
good_of : (leaf : LeafVisit) (hash : List ℕ → List ℕ) (held good : Lookup) → HasLeaves leaf hash held good
    → HasGoodOf hash held good
good_of Loaded hash held good has = has
good_of Asked hash held good has = has.0

has_itself : (leaf : LeafVisit) (hash : List ℕ → List ℕ) (held : Lookup) → HasLeaves leaf hash held held
has_itself Loaded hash held = record { holds = λ c block is same. is; misses = λ c none. none }
has_itself Asked hash held = (record { holds = λ c block is same. is; misses = λ c none. none }, λ c some. some)

pub by-leaves : {P Q : Lookup → Type 0} (leaf : LeafVisit) (hash : List ℕ → List ℕ) (told : Told)
    → ((held : Lookup) → P held → Q held) → ByLeaves leaf hash told P → ByLeaves leaf hash told Q
by-leaves leaf hash None f p = tt
by-leaves leaf hash (Some t) f p = λ good has. f good (p good has)

pub leaves-of-good : (P : Lookup → Type 0) (leaf : LeafVisit) (hash : List ℕ → List ℕ) (told : Told)
    → ByGoodBlocks hash told P → ByLeaves leaf hash told P
leaves-of-good P leaf hash None p = tt
leaves-of-good P leaf hash (Some t) p = λ good has. p good (good_of leaf hash (held_at t) good has)

pub leaves-both : {P Q R : Lookup → Type 0} (leaf : LeafVisit) (hash : List ℕ → List ℕ) (told later : Told)
    → later ≡ told → ((held : Lookup) → P held → Q held → R held)
    → ByLeaves leaf hash told P → ByLeaves leaf hash later Q → ByLeaves leaf hash told R
leaves-both leaf hash None later same f p q = tt
leaves-both {P} {Q} {R} leaf hash (Some t) later same f p q =
    let now = subst (λ m. ByLeaves leaf hash m Q) same q in λ good has. f good (p good has) (now good has)

-- what the store tells is such a map
pub leaves-held : (P : Lookup → Type 0) (leaf : LeafVisit) (hash : List ℕ → List ℕ) (told : Told)
    → ByLeaves leaf hash told P → IfSome told (λ t. P (held_at t))
leaves-held P leaf hash None p = tt
leaves-held P leaf hash (Some t) p = p (held_at t) (has_itself leaf hash (held_at t))

-- a fault that isn't the store's shows nothing but that the store has stayed calm, and want of memory no more
memory_shown : (hash : List ℕ → List ℕ) (fault : StoreFault) (a b : Seen) → fault ≡ Memory → StaysCalm a b → Shows hash NoneIsBad fault a b
memory_shown hash fault a b is p = subst (λ f. Shows hash NoneIsBad f a b) (sym is) (calm-memory a b p)

bare_shown : (hash : List ℕ → List ℕ) (fault : DagFault) (a b : Seen) → IsBare fault → StaysCalm a b → Shown hash NoneIsBad (store_fault_of fault) a b
bare_shown hash (Store fault) a b bare p = memory_shown hash fault a b bare p
bare_shown hash other a b bare p = p

-- what reads no more than a call before it, which had no fault
pub bare-reads : {A : Type 0} (hash : List ℕ → List ℕ) (r : Result A DagFault) (a b : Seen) → IfErr r IsBare → OnlyReads hash NoneIsBad None a b → OnlyReads hash NoneIsBad (dag_fault r) a b
bare-reads hash (Ok x) a b bare h = h
bare-reads hash (Err fault) a b bare h = record { cause = bare_shown hash fault a b bare h.cause; told = h.told }

-- want of memory behind a call that had no fault
pub memory-reads : (hash : List ℕ → List ℕ) (a b : Seen) → OnlyReads hash NoneIsBad None a b → OnlyReads hash NoneIsBad (Some Memory) a b
memory-reads hash a b h = record { cause = calm-memory a b h.cause; told = h.told }

-- nothing was read
pub none-read : (hash : List ℕ → List ℕ) (a : Seen) → OnlyReads hash NoneIsBad None a a
none-read hash a = record { cause = StaysCalm-refl a; told = refl }
