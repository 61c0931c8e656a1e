-- What a reading may follow from a block is what a walk follows from it.
use Rattle.std.proofs.Common.{◌≡◌, ℕ, List, [], map, refl, ap, subst, ◌⊎◌, inl, inr, Bool, true, false, Result, Ok, Err}
use Rattle.std.specs.Prelude.{Option, Some, None, ⊤, if◌then◌else◌}
use Rattle.uf_cid.specs.declared.cid.Cid.{Cid}
use Rattle.uf_cid.specs.declared.cid.Codec.{Codec}
use Rattle.uf_cid.specs.declared.cid.Codec.TheVariants as codec
use Rattle.uf_dagpb.specs.Reading.{node_reads}
use Rattle.uf_dagpb.specs.declared.fault.PbFault.{PbFault}
use Rattle.uf_dagpb.specs.declared.node.Link.{Link}
use Rattle.uf_dagpb.specs.declared.node.Node.{Node}
use Rattle.uf_message.specs.Reading.{message_reads}
use Rattle.uf_message.specs.declared.message.Message.{Message}
use Rattle.uf_message.specs.declared.message.MsgFault.{MsgFault}
use Rattle.uf_message.specs.declared.message.MsgKind.{MsgKind}
use Rattle.uf_message.specs.declared.message.MsgKind.TheVariants as kind
use Rattle.uf_lenient.specs.declared.fault.DagFault.{DagFault}
use Rattle.uf_lenient.specs.declared.unixfs.Unixfs.{Unixfs}
use Rattle.uf_lenient.specs.declared.unixfs.Unixfs.TheVariants.{Directory, File, Other, OtherShard, Shard}
use Rattle.uf_lenient.specs.Leading.{links_to_read}
use Rattle.uf_lenient.specs.Unixfs.{content_says, is_hamt, message_says, node_says, of_kind, unixfs_of}
use Rattle.uf_lenient.specs.Metas.{meta_read}
use Rattle.uf_tree.specs.Metas.{none}
use Rattle.uf_walk.specs.Order.{block_links, linked}

-- no reading goes on from this block
abbrev pub IsUnread : Unixfs → Type 0
IsUnread (File meta bytes links) = ⊥
IsUnread (Directory meta links) = ⊥
IsUnread (Shard meta links) = ⊥
IsUnread OtherShard = ⊤
IsUnread Other = ⊤

-- a walk follows all links of the block, and so does a reading, or it doesn't go on
pub record FollowsAlike (c : Cid) (bytes : List ℕ) (u : Unixfs) : Type 0 where
  pub all : List Link
  pub is : block_links c.codec bytes ≡ Ok (map (λ (l : Link). l.cid) all)
  pub read : (links_to_read u ≡ all) ⊎ IsUnread u

by_kind : (k : MsgKind) (m : Message) (links : List Link) → (links_to_read (of_kind k m links) ≡ links) ⊎ IsUnread (of_kind k m links)
by_kind kind.Raw m links = inl refl
by_kind kind.Directory m links = inl refl
by_kind kind.File m links = inl refl
by_kind kind.Metadata m links = inr tt
by_kind kind.Symlink m links = inr tt
by_kind kind.Shard m links = hamt (is_hamt m)
  where
    hamt : (b : Bool) → (links_to_read (if b then Shard (meta_read m) links else OtherShard) ≡ links) ⊎ IsUnread (if b then Shard (meta_read m) links else OtherShard)
    hamt true = inl refl
    hamt false = inr tt

same_value : (v u : Unixfs) → ◌≡◌ {A = Result Unixfs DagFault} (Ok v) (Ok u) → v ≡ u
same_value v u e = cc

no_value : (f : DagFault) (u : Unixfs) → ◌≡◌ {A = Result Unixfs DagFault} (Err f) (Ok u) → ⊥
no_value f u e = cc

pub follows-alike : (c : Cid) (bytes : List ℕ) (u : Unixfs) → unixfs_of c bytes ≡ Ok u → FollowsAlike c bytes u
unfolding unixfs_of
follows-alike c bytes u says = by c.codec refl says
  where
    message : (links : List Link) (r : Result Message MsgFault) → block_links c.codec bytes ≡ Ok (map (λ (l : Link). l.cid) links) → message_says c links r ≡ Ok u → FollowsAlike c bytes u
    message links (Ok m) is e = record { all = links; is = is; read = subst (λ v. (links_to_read v ≡ links) ⊎ IsUnread v) (same_value (of_kind m.kind m links) u e) (by_kind m.kind m links) }
    message links (Err f) is e = absurd (no_value _ u e)

    content : (links : List Link) (o : Option (List ℕ)) → block_links c.codec bytes ≡ Ok (map (λ (l : Link). l.cid) links) → content_says c links o ≡ Ok u → FollowsAlike c bytes u
    content links None is e = absurd (no_value _ u e)
    content links (Some b) is e = message links (message_reads b) is e

    node : (r : Result Node PbFault) → block_links c.codec bytes ≡ linked r → node_says c r ≡ Ok u → FollowsAlike c bytes u
    node (Ok n) is e = content n.links n.content is e
    node (Err f) is e = absurd (no_value _ u e)

    by : (x : Codec) → c.codec ≡ x → ◌≡◌ {A = Result Unixfs DagFault} (elim x [ codec.Raw ↦ Ok (File none bytes []) | codec.DagPb ↦ node_says c (node_reads bytes) ]) (Ok u) → FollowsAlike c bytes u
    by codec.Raw is e = record { all = []; is = ap (λ x. block_links x bytes) is; read = subst (λ v. (links_to_read v ≡ []) ⊎ IsUnread v) (same_value (File none bytes []) u e) (inl refl) }
    by codec.DagPb is e = node (node_reads bytes) (ap (λ x. block_links x bytes) is) e
