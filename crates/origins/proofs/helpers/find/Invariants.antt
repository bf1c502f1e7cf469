use Rattle.std.proofs.Common.{◌≡◌, ◌-◌, length, take}
use Rattle.lower_code.specs.Code.{result_in}
use Rattle.lower_code.specs.Emission.{functions_of}
use Rattle.origins.specs.Origins.{Node, call_origins}
use Rattle.origins.proofs.helpers.find.Given as goal

-- no function behind these has the name
abbrev pub invariant-loop-i : goal.invariant-loop-i
invariant-loop-i l = record {
  code : (call : Node) → call_origins (functions_of l.functions) call l.name ≡ call_origins (functions_of (take (length l.functions - l.i) l.functions)) call l.name;
  value : result_in (functions_of l.functions) l.name ≡ result_in (functions_of (take (length l.functions - l.i) l.functions)) l.name;
}
