use Rattle.std.proofs.Common.{◌≡◌, ◌-◌, length, take}
use Rattle.clmodel.specs.Setup.{kernel_in, functions_before}
use Rattle.clmodel.specs.Tree.{funcs}
use Rattle.clmodel.proofs.lookup.kernel_among.Given as goal

abbrev pub invariant-loop-i : goal.invariant-loop-i
invariant-loop-i l =
    (kernel_in (funcs l.functions) l.number ≡ kernel_in (funcs (take (length l.functions - l.i) l.functions)) l.number)
    × (functions_before (funcs l.functions) l.number ≡ functions_before (funcs (take (length l.functions - l.i) l.functions)) l.number)
