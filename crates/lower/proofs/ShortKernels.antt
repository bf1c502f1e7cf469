-- How long the code of a typed program's kernel is, and how many barriers it has.
use Rattle.std.proofs.Common.{◌≡◌, ℕ, ◌+◌, ◌*◌, ◌++◌, List, [], length, arith}
use Rattle.std.proofs.lemmas.List.{length-map}
use Rattle.clmodel.specs.Next.{sites_in}
use Rattle.clmodel.specs.Setup.{functions_before}
use Rattle.clmodel.specs.Tree.{Func, Funcs}
use Rattle.clmodel.specs.Typing.{IsTypedWithin, IsTypedProgram}
use Rattle.clmodel.specs.Typing.Functions.{names, signature, begin, with_params, size_of, IsTypedFunction}
use Rattle.clmodel.specs.Typing.Sizes.{row_size, sizes_of}
use Rattle.limits.specs.declared.Limits.{Limits}
use Rattle.lower_expr.specs.Scope.{Scope}
use Rattle.lower_code.specs.Code.{result_in, parameter_variables, pass_code, body_code, call_code, arguments_code, kernel_code}
use Rattle.lower_code.proofs.Lengths.{pass_length, arguments_length}
use Rattle.lower.specs.Bounds.{TypedKernelsShort, TypedKernelsFewBarriers}
use Rattle.lower.proofs.FewSites.{body_few}
use Rattle.lower_expr.proofs.Short.{Short, single, both, within}
use Rattle.lower_code.proofs.Short.{no_value_short}
use Rattle.lower.proofs.CallCode.{KnownIn, body_known, distinct}
use Rattle.lower.proofs.ShortStatements.{ShortCall, stmts_short}
use Rattle.lower.proofs.TypedKernels.{kernel_typed}

module _ (limits : Limits) (all : List ℕ) (earlier : Funcs) (f : Func) (typed : IsTypedFunction limits all earlier f) (known : KnownIn ShortCall limits all earlier (with_params (begin limits all earlier f) f.parameters)) where
  body_short : (level depth site : ℕ) → Short (7 * (size_of earlier f).nodes + 1) (body_code (call_code earlier) (result_in earlier) (sites_in earlier) f level depth site)
  body_short level depth site =
      let scope : Scope = record { base = level; variables = parameter_variables f.parameters [] } in
      both (stmts_short (sizes_of earlier) (call_code earlier) (result_in earlier) (sites_in earlier) f.result (with_params (begin limits all earlier f) f.parameters) f.body typed.body scope known depth site _)
      (no_value_short f.result)

  function_short : (numbers : List ℕ) (level depth site : ℕ)
      → ShortCall (size_of earlier f) (signature f).parameters numbers level (pass_code f.parameters numbers level ++ body_code (call_code earlier) (result_in earlier) (sites_in earlier) f level depth site)
  function_short numbers level depth site =
      let passed : Short (length f.parameters) (pass_code f.parameters numbers level) = record { most = omega (arith, pass_length f.parameters numbers level) } in
      let same : length (signature f).parameters ≡ length f.parameters = length-map f.parameters (λ p. p.kind) in
      within (both passed (body_short level depth site)) (omega (arith, same))

pub kernels_short : TypedKernelsShort
unfolding IsTypedProgram IsTypedWithin TypedKernelsShort
kernels_short program name f typed is =
    let limits = typed.0 in
    let all = names program.functions in
    let earlier = functions_before program.functions name in
    let r = kernel_typed limits all program.functions name f typed.1 is in
    let body = body_short limits all earlier f r.0.1 (body_known ShortCall limits all (function_short limits all) earlier f r.0.0) 0 0 0 in
    let arguments : Short (length f.parameters) (arguments_code f.parameters 0) = record { most = omega (arith, arguments_length f.parameters 0) } in
    let whole : Short (length f.parameters + (7 * (row_size (sizes_of earlier) f.body).nodes + 1 + 1)) (kernel_code earlier f) = both arguments (both body single) in
    let most = whole.most in
    let nodes = r.0.1.nodes r.1 in
    let greatest = limits.few_nodes in
    (omega (arith, most), omega (arith, nodes, greatest))

pub kernels_few_barriers : TypedKernelsFewBarriers
unfolding IsTypedProgram IsTypedWithin TypedKernelsFewBarriers
kernels_few_barriers program name f typed is =
    let limits = typed.0 in
    let all = names program.functions in
    let earlier = functions_before program.functions name in
    let r = kernel_typed limits all program.functions name f typed.1 is in
    let few = body_few earlier (distinct limits all earlier r.0.0) f.body in
    let limit = r.0.1.nodes r.1 in
    let greatest = limits.few_nodes in
    omega (arith, few, limit, greatest)
