-- What `==` tells of two address spaces: whether they are one.
use Rattle.std.proofs.Common.{◌≡◌, refl}
use denote.Enum.Bare.{sameb}
use Rattle.clmodel.specs.contracts.tree.AddressSpace.{the_type}
use Rattle.clmodel.specs.Typing.Faults.{is_same_space}
use Rattle.clmodel.specs.declared.tree.AddressSpace.{AddressSpace}
use Rattle.clmodel.specs.declared.tree.AddressSpace.TheVariants.{Global, Local, Constant}

pub same_space : (a b : AddressSpace) → is_same_space a b ≡ sameb the_type a b
same_space Global Global = refl
same_space Global Local = refl
same_space Global Constant = refl
same_space Local Global = refl
same_space Local Local = refl
same_space Local Constant = refl
same_space Constant Global = refl
same_space Constant Local = refl
same_space Constant Constant = refl
