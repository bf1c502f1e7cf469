-- Accesses that tell nothing that kept ones don't tell (own, on OpenCL 1.2, 3.3.1 and 6.12.8).
use Rattle.std.specs.Prelude.{◌≡◌, ℕ, Bool, None, List}
use Rattle.clmodel.specs.Launch.{within_group, conflict_between}
use Rattle.clmodel.specs.declared.access.Access.{Access}
use Rattle.access_list.specs.Log.{hit_on}
use Rattle.access_list.specs.declared.log.Entry.{Entry}

-- whatever of the same interval conflicts with an access at a byte conflicts there with a kept one (3.3.1, 6.12.8)
abbrev pub CoversAt : Bool → List Entry → Access → ℕ → Type 0
CoversAt uniform kept x byte =
    (z : Entry) → hit_on (within_group uniform) z byte kept ≡ None → conflict_between (within_group uniform) x z.access byte ≡ None

-- the same at each byte (3.3.1)
abbrev pub Covers : Bool → List Entry → Access → Type 0
Covers uniform kept x = (byte : ℕ) → CoversAt uniform kept x byte
