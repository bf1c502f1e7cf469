-- Lines of a source as they are told (own).
use Rattle.std.specs.Prelude.{ℕ, List, map, nat_lt, if◌then◌else◌}
use Rattle.std.specs.Str.{is_utf8}

-- `?` for a byte beyond ASCII
abbrev pub told_byte : ℕ → ℕ
told_byte byte = if nat_lt byte 128 then byte else 63

-- a line as it is, or where it is no UTF-8 with `?` for each byte beyond ASCII
abbrev pub told_line : List ℕ → List ℕ
told_line line = if is_utf8 line then line else map told_byte line
