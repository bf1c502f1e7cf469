-- Kinds of accesses (OpenCL 1.2, 3.3.1; own in the numbers).
use Rattle.std.specs.Prelude.{ℕ}
use Rattle.clmodel.specs.Launch.{class_number}
use Rattle.clmodel.specs.declared.access.AccessKind.{AccessKind}
use Rattle.clmodel.specs.declared.access.AccessKind.TheVariants as kind

-- the number of a kind: two kinds have one number only where they are equal (own)
abbrev pub kind_number : AccessKind → ℕ
kind_number kind.Load = 8
kind_number kind.Store = 9
kind_number (kind.Update class) = class_number class
kind_number kind.Fetch = 10
