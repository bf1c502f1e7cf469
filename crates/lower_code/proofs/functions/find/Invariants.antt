use Rattle.std.proofs.Common.{◌≡◌, ℕ, ◌-◌, take, List}
use Rattle.lower_code.specs.Code.{call_code, result_in}
use Rattle.lower_code.specs.Emission.{functions_of, inside}
use Rattle.lower_code.proofs.functions.find.Given as goal

abbrev pub invariant-loop-i : goal.invariant-loop-i
invariant-loop-i l = record {
  code : (arguments : List ℕ) (level depth site : ℕ)
      → call_code (functions_of l.functions) l.name arguments level depth site ≡ call_code (functions_of (take (l.end - l.i) l.functions)) l.name arguments level depth site;
  value : result_in (functions_of l.functions) l.name ≡ result_in (functions_of (take (l.end - l.i) l.functions)) l.name;
  sites : inside l.functions l.name ≡ inside (take (l.end - l.i) l.functions) l.name;
}
