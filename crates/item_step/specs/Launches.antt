-- A launch as plain data, and what its items run (own).
use Rattle.std.specs.Prelude.{ℕ, length}
use Rattle.clmodel.specs.Setup.{Setup}
use Rattle.item_step.specs.Setups.{plain}
use Rattle.item_step.specs.declared.launch.Launch.{Launch}
use Rattle.item_state.specs.Running.{Running}
use Rattle.regcode.specs.Listing.{Listing}
use Rattle.regcode.specs.Machine.{ItemContext, at_start, given_of}

abbrev pub setup_of : Launch → Setup
setup_of launch = plain launch.setup

-- the code that its items run (own)
abbrev pub code_of : Launch → Listing
code_of launch = launch.code.now

-- what the item of a number is given, and what stays while it runs: its place in the range, by which its ids follow
-- (OpenCL 1.2, 3.2, 6.12.1), the names of the buffers, the kernel's arguments, and the code's table of registers
abbrev pub given_to : Launch → ℕ → ItemContext
given_to launch item = given_of (code_of launch) (setup_of launch) item

-- the machine of the item of a number before its first instruction (own)
abbrev pub started : Launch → ℕ → Running
started launch item =
    record {
      code = code_of launch;
      given = given_to launch item;
      state = at_start (length (code_of launch).registers) (length (code_of launch).arrays);
      ticks = (setup_of launch).budget;
    }
