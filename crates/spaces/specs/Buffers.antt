-- Buffers by their names (OpenCL 1.2, 5.2).
use Rattle.std.specs.Prelude.{ℕ, ◌+◌, ◌%◌, List, [], ◌++◌, length, take, drop, map, get_or}
use Rattle.std.specs.List.{range_with_len}
use Rattle.std.specs.Option.{unwrap_or}
use Rattle.spaces.specs.Tables.{Table, find}

-- the bytes of a buffer, none where there is no such buffer
abbrev pub bytes_in : Table (List ℕ) → List ℕ → List ℕ
bytes_in buffers name = unwrap_or (find buffers name) []

-- the bytes of a buffer with others from an offset on, in place of those that were there (5.2.2)
abbrev pub with_bytes : List ℕ → ℕ → List ℕ → List ℕ
with_bytes buffer offset bytes = take offset buffer ++ bytes ++ drop (offset + length bytes) buffer

-- n bytes of a pattern again and again, from its start (5.2.3)
abbrev pub repeated : List ℕ → ℕ → List ℕ
repeated pattern count = map (λ byte. get_or pattern (byte % length pattern) 0) (range_with_len 0 count)
