-- The registers that the code of a typed program's kernel names.
use Rattle.std.proofs.Common.{◌≡◌, ℕ, ◌+◌, ◌*◌, ◌++◌, ◌∷◌, ◌≤◌, List, [], length, arith}
use Rattle.std.proofs.lemmas.List.{length-map}
use Rattle.clmodel.specs.Next.{Variables, sites_in}
use Rattle.clmodel.specs.Setup.{functions_before}
use Rattle.clmodel.specs.Tree.{Func, Funcs}
use Rattle.clmodel.specs.Typing.{IsTypedWithin, IsTypedProgram}
use Rattle.clmodel.specs.Typing.Functions.{names, signature, begin, with_params, size_of, IsTypedFunction}
use Rattle.clmodel.specs.Typing.Sizes.{sizes_of, node_limit}
use Rattle.limits.specs.declared.Limits.{Limits}
use Rattle.clmodel.specs.declared.tree.Parameter.{Parameter}
use Rattle.lower_expr.specs.Scope.{Scope}
use Rattle.lower_code.specs.Code.{variable, result_in, parameter_variables, pass_code, body_code, call_code, arguments_code, kernel_code}
use Rattle.lower.specs.Bounds.{TypedKernelsFewRegisters}
use Rattle.lower.proofs.Low.{Few, Low, low_count, low_both, at_low}
use Rattle.lower.proofs.CallCode.{KnownIn, body_known}
use Rattle.lower.proofs.LowStatements.{LowCall, no_value_low, stmts_low}
use Rattle.lower.proofs.TypedKernels.{kernel_typed}

-- each parameter is a variable
pub parameters_counted : (ps : List Parameter) (vs : Variables) → length (parameter_variables ps vs) ≡ length ps + length vs
parameters_counted [] vs = omega arith
parameters_counted (p ∷ ps) vs = let rest = parameters_counted ps (variable p.name p.kind ∷ vs) in omega (arith, rest)

pass_low : (top : ℕ) (ps : List Parameter) (numbers : List ℕ) (level : ℕ) → Few (16 * top) numbers → level + length ps ≤ top → Low (16 * top) (pass_code ps numbers level)
pass_low top [] numbers level few h = tt
pass_low top (p ∷ ps) [] level few h = ((at_low top level p.kind (omega (arith, h)), tt), pass_low top ps [] (level + 1) tt (omega (arith, h)))
pass_low top (p ∷ ps) (number ∷ numbers) level few h = ((at_low top level p.kind (omega (arith, h)), (few.0, tt)), pass_low top ps numbers (level + 1) few.1 (omega (arith, h)))

arguments_low : (top : ℕ) (ps : List Parameter) (level : ℕ) → level + length ps ≤ top → Low (16 * top) (arguments_code ps level)
arguments_low top [] level h = tt
arguments_low top (p ∷ ps) level h = ((at_low top level p.kind (omega (arith, h)), tt), arguments_low top ps (level + 1) (omega (arith, h)))

module _ (limits : Limits) (all : List ℕ) (earlier : Funcs) (f : Func) (typed : IsTypedFunction limits all earlier f) (known : KnownIn LowCall limits all earlier (with_params (begin limits all earlier f) f.parameters)) where
  body_low : (top level depth site : ℕ) → level + length f.parameters + (size_of earlier f).nodes + 1 ≤ top
      → Low (16 * top) (body_code (call_code earlier) (result_in earlier) (sites_in earlier) f level depth site)
  body_low top level depth site h =
      let scope : Scope = record { base = level; variables = parameter_variables f.parameters [] } in
      let count : length (parameter_variables f.parameters []) ≡ length f.parameters + 0 = parameters_counted f.parameters [] in
      low_both (16 * top) _ _
      (stmts_low (sizes_of earlier) top (call_code earlier) (result_in earlier) (sites_in earlier) f.result (with_params (begin limits all earlier f) f.parameters) f.body typed.body scope known depth site _ (omega (arith, h, count)))
      (no_value_low (16 * top) f.result)

  function_low : (numbers : List ℕ) (level depth site : ℕ)
      → LowCall (size_of earlier f) (signature f).parameters numbers level (pass_code f.parameters numbers level ++ body_code (call_code earlier) (result_in earlier) (sites_in earlier) f level depth site)
  function_low numbers level depth site top few h =
      let same : length (signature f).parameters ≡ length f.parameters = length-map f.parameters (λ p. p.kind) in
      low_both (16 * top) (pass_code f.parameters numbers level) _ (pass_low top f.parameters numbers level few (omega (arith, same, h))) (body_low top level depth site (omega (arith, same, h)))

pub kernels_few_registers : TypedKernelsFewRegisters
unfolding IsTypedProgram IsTypedWithin TypedKernelsFewRegisters
kernels_few_registers program name f typed is =
    let limits = typed.0 in
    let all = names program.functions in
    let earlier = functions_before program.functions name in
    let r = kernel_typed limits all program.functions name f typed.1 is in
    let limit = r.0.1.nodes r.1 in
    let greatest = limits.few_nodes in
    let top = length f.parameters + node_limit + 1 in
    let body = body_low limits all earlier f r.0.1 (body_known LowCall limits all (function_low limits all) earlier f r.0.0) top 0 0 0 (omega (arith, limit, greatest)) in
    low_count (16 * top) (kernel_code earlier f)
    (low_both (16 * top) (arguments_code f.parameters 0) _ (arguments_low top f.parameters 0 (omega arith))
    (low_both (16 * top) (body_code (call_code earlier) (result_in earlier) (sites_in earlier) f 0 0 0) _ body (tt, tt)))
