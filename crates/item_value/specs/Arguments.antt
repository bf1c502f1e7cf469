-- The arguments of a kernel (OpenCL 1.2, 5.7.2).
use Rattle.std.specs.Prelude.{ℕ, Option, Some, List}
use Rattle.clmodel.specs.Setup.{place_of}
use Rattle.clmodel.specs.declared.setup.Argument.{Argument}
use Rattle.clmodel.specs.declared.setup.Argument.TheVariants as argument

-- the place among the names of a launch's buffers of the one that an argument names; 0 of one that names none (own)
abbrev pub buffer_place : List (List ℕ) → Option Argument → ℕ
buffer_place buffers (Some (argument.Buffer name)) = place_of buffers name
buffer_place buffers _ = 0
