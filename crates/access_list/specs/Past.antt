-- Entries of earlier intervals (OpenCL 1.2, 6.12.8; own in how they are told).
use Rattle.std.specs.Prelude.{◌≡◌, ℕ, ◌<◌, Bool}
use Rattle.access_list.specs.Log.{in_buffer}
use Rattle.access_list.specs.declared.log.Entry.{Entry}

-- made before an interval of an address space, that of buffers or that of local objects, or in the other space (6.12.8)
abbrev pub IsBefore : Bool → ℕ → Entry → Type 0
IsBefore buffers interval y = in_buffer y.access.region ≡ buffers → y.access.interval < interval
