-- Kernels by their names.
use Rattle.std.specs.Prelude.{◌≡◌, ℕ, List, Some}
use Rattle.clmodel.specs.Setup.{kernel_number}
use Rattle.clmodel.specs.Tree.{Program}
use Rattle.regcode.specs.Listing.{Listing}
use Rattle.lower.specs.Lists.{Lists}
use Rattle.lower.specs.Lowers.{IsLowered}

-- code of the kernel of a name
pub record LowersNamed (program : Program) (name : List ℕ) (code : Listing) : Type 0 where
  pub number : ℕ
  pub named : kernel_number program name ≡ Some number
  pub lowered : IsLowered program number code

-- the code that is defined for the kernel of a name
pub record ListsNamed (program : Program) (name : List ℕ) (code : Listing) : Type 0 where
  pub number : ℕ
  pub named : kernel_number program name ≡ Some number
  pub listed : Lists program.functions number code
