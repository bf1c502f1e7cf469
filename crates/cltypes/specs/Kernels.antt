-- Kernels that were found in a tree.
use Rattle.std.specs.Prelude.{◌≡◌, ℕ, ◌<◌, Some, length, take}
use Rattle.clmodel.specs.Setup.{kernel_in, functions_before}
use Rattle.clmodel.specs.Tree.{program, func, funcs}
use Rattle.clmodel.specs.declared.tree.Function.{Function}
use Rattle.clmodel.specs.declared.tree.Tree.{Tree}

-- a function that is the kernel of its name, with its place among the functions of the tree: the last of the name that
-- is a kernel (OpenCL 1.2, section 6.7.1)
pub record IsKernel (tree : Tree) (place : ℕ) (function : Function) : Type 0 where
  pub there : kernel_in (program tree).functions function.name ≡ Some (func function)
  pub before : funcs (take place tree.functions.items) ≡ functions_before (program tree).functions function.name
  pub within : place < length tree.functions.items
