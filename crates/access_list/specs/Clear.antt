-- An access that is noted only where it is seen to conflict with none (own).
use Rattle.std.specs.Prelude.{◌≡◌, Bool, true, false, None, Result, Ok, Err}
use Rattle.std.specs.declared.alloc.AllocError.{AllocError}
use Rattle.access_list.specs.Log.{Log, IsNoted}
use Rattle.access_list.specs.declared.log.Entry.{Entry}

-- it is noted, and conflicts with none; or it may conflict, and the log stays, as it does where memory is refused
abbrev pub IsNotedIfClear : Log → Entry → Log → Result Bool AllocError → Type 0
IsNotedIfClear old x new (Ok true) = IsNoted old x new (Ok None)
IsNotedIfClear old x new (Ok false) = new ≡ old
IsNotedIfClear old x new (Err _) = new ≡ old
