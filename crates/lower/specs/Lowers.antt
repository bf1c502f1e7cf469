-- What lowering promises of a kernel's code.
use Rattle.std.specs.Prelude.{◌≡◌, ℕ, List, Some}
use Rattle.clmodel.specs.Next.{next}
use Rattle.clmodel.specs.Setup.{Setup, kernel_in}
use Rattle.clmodel.specs.Tree.{Program, Func}
use Rattle.clmodel.specs.declared.action.Answer.{Answer}
use Rattle.regcode.specs.Listing.{Listing}
use Rattle.regcode.specs.Machine.{acts}

-- code of the kernel of a name: for each launch of it, each item and each list of answers, it makes the action that the
-- tree makes
pub record IsLowered (program : Program) (number : ℕ) (code : Listing) : Type 0 where
  pub there : (f : Func) × (kernel_in program.functions number ≡ Some f)
  pub acts_as : (setup : Setup) → setup.program ≡ program → setup.kernel ≡ number
      → (item : ℕ) (answers : List Answer) → acts code setup item answers ≡ next setup item answers
