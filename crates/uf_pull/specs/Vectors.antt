-- The blocks and bytes of the worked rows.
use Rattle.std.specs.Prelude.{ℕ, List, [], ◌∷◌, ◌++◌, codes}
use Rattle.std.specs.declared.option.Option.TheVariants.{None}
use Rattle.std.specs.declared.result.Result.{Result}
use Rattle.uf_cid.specs.Blocks.{Held, Lookup}
use Rattle.uf_cid.specs.Cid.{cid_bytes}
use Rattle.uf_cid.specs.declared.cid.Cid.{Cid}
use Rattle.uf_cid.specs.declared.cid.Codec.TheVariants.{Raw}
use Rattle.uf_pull.specs.declared.fault.PullFault.{PullFault}
use Rattle.uf_pull.specs.declared.fault.ServeFault.{ServeFault}
use Rattle.uf_pull.specs.Due.{Due, holding}
use Rattle.uf_pull.specs.Wants.{Asked}

abbrev hello_digest : List ℕ
hello_digest =
    185 ∷ 77 ∷ 39 ∷ 185 ∷ 147 ∷ 77 ∷ 62 ∷ 8 ∷ 165 ∷ 46 ∷ 82 ∷ 215 ∷ 218 ∷ 125 ∷ 171 ∷ 250 ∷ 196 ∷ 132 ∷ 239 ∷
    227 ∷ 122 ∷ 83 ∷ 128 ∷ 238 ∷ 144 ∷ 136 ∷ 247 ∷ 172 ∷ 226 ∷ 239 ∷ 205 ∷ 233 ∷ []

-- the CID of `hello world`
abbrev pub hello_cid : Cid
hello_cid = record { codec = Raw; digest = hello_digest }

abbrev empty_digest : List ℕ
empty_digest =
    227 ∷ 176 ∷ 196 ∷ 66 ∷ 152 ∷ 252 ∷ 28 ∷ 20 ∷ 154 ∷ 251 ∷ 244 ∷ 200 ∷ 153 ∷ 111 ∷ 185 ∷ 36 ∷ 39 ∷ 174 ∷ 65 ∷
    228 ∷ 100 ∷ 155 ∷ 147 ∷ 76 ∷ 164 ∷ 149 ∷ 153 ∷ 27 ∷ 120 ∷ 82 ∷ 184 ∷ 85 ∷ []

-- the CID of the empty block
abbrev pub empty_cid : Cid
empty_cid = record { codec = Raw; digest = empty_digest }

abbrev pub nothing : Lookup
nothing c = None

abbrev pub holding_hello : Lookup
holding_hello = holding hello_cid (codes "hello world") nothing

-- the frames that give this block, one with another last byte, and one that lacks a CID
abbrev pub hello_frame : List ℕ
hello_frame = 1 ∷ 0x2f ∷ cid_bytes hello_cid ++ codes "hello world"

abbrev pub wrong_frame : List ℕ
wrong_frame = 1 ∷ 0x2f ∷ cid_bytes hello_cid ++ codes "hello worle"

abbrev pub lacking_frame : Cid → List ℕ
lacking_frame c = 0 ∷ cid_bytes c

-- `hello world` is asked for, these blocks come, and it ends so after n bytes
abbrev pub asks_hello : List Held → Result Unit PullFault → ℕ → Due
asks_hello blocks ends used = record { wants = hello_cid ∷ []; blocks = blocks; ends = ends; used = used }

-- these are asked for, and it ends so
abbrev pub asked_so : List Cid → Result Unit ServeFault → Asked
asked_so wants ends = record { wants = wants; ends = ends }
