-- What a buffer may be filled with (OpenCL 1.2, 5.2.3, the errors of clEnqueueFillBuffer; that a count of 0 is bad is
-- our own).
use Rattle.std.specs.Prelude.{ℕ, ◌%◌, ◌==◌, Bool, not, ◌||◌, List, length}

-- how many bytes a pattern may have
abbrev pub is_pattern_size : ℕ → Bool
is_pattern_size n = (n == 1) || (n == 2) || (n == 4) || (n == 8) || (n == 16) || (n == 32) || (n == 64) || (n == 128)

-- a pattern of another size, a count of 0, or an offset or a count that is no multiple of the pattern's size
abbrev pub is_bad_fill : ℕ → ℕ → List ℕ → Bool
is_bad_fill offset count pattern =
    not (is_pattern_size (length pattern)) || (count == 0)
    || not (offset % length pattern == 0) || not (count % length pattern == 0)
