-- What a log answers that counts its comparisons (own).
use Rattle.std.specs.Prelude.{ℕ, Option, Result, Ok, Err}
use Rattle.std.specs.declared.alloc.AllocError.{AllocError}
use Rattle.access_list.specs.declared.log.Hit.{Hit}

-- the conflict alone (own)
abbrev pub found_of : Result (Option Hit × ℕ) AllocError → Result (Option Hit) AllocError
found_of (Ok r) = Ok r.0
found_of (Err e) = Err e
