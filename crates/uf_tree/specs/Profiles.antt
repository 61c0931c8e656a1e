-- The numbers by which trees are cut into blocks.
use Rattle.std.specs.Prelude.{ℕ, ◌*◌, Bool, ◌&&◌, nat_le}
use Rattle.uf_tree.specs.declared.profile.Profile.{Profile}

-- a profile has pieces of 1 to 1048576 bytes, nodes of 2 to 1024 links, and a threshold of at most 1048576
abbrev pub is_profile : Profile → Bool
is_profile p = nat_le 1 p.chunk && nat_le p.chunk 1048576 && nat_le 2 p.width && nat_le p.width 1024
    && nat_le p.threshold 1048576

-- the profile of Kubo's `add` with CIDs of version 1: pieces of 262144 bytes, nodes of 174 links, a threshold of 262144
abbrev pub usual : Profile
usual = record { chunk = 262144; width = 174; threshold = 262144 }

-- a file has at most 4194304 times as many bytes as a piece
abbrev pub most_bytes : Profile → ℕ
most_bytes p = p.chunk * 4194304
