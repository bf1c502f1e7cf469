-- What code owes to the tree that it was made from.
use Rattle.std.specs.Prelude.{◌≡◌, ℕ, List, Some}
use Rattle.clmodel.specs.Next.{next}
use Rattle.clmodel.specs.Setup.{Setup, kernel_in, functions_before}
use Rattle.clmodel.specs.Tree.{Func}
use Rattle.clmodel.specs.declared.action.Answer.{Answer}
use Rattle.regcode.specs.Listing.{Listing}
use Rattle.regcode.specs.Machine.{acts}
use Rattle.lower_code.specs.Code.{kernel_code}

-- A kernel's code makes, for each launch of it, each item and each list of answers, the action that the tree makes,
-- whatever its tables are.
unfoldable pub ActsAsTheTree : Type 0
ActsAsTheTree =
    (setup : Setup) (f : Func) (code : Listing) → kernel_in setup.program.functions setup.kernel ≡ Some f
    → code.instructions ≡ kernel_code (functions_before setup.program.functions setup.kernel) f
    → (item : ℕ) (answers : List Answer) → acts code setup item answers ≡ next setup item answers
