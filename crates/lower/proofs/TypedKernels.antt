-- The code of each kernel of a typed program is verified with the tables that are made from it.
use Rattle.std.proofs.Common.{◌≡◌, ℕ, suc, ◌+◌, Bool, true, false, ◌&&◌, nat_eq, if◌then◌else◌, Some, List, [], ◌∷◌, ◌++◌, length, map, slice_get, refl, ap, sym, subst, ◌∙◌, arith}
use Rattle.std.proofs.lemmas.Bool.{and_parts}
use Rattle.std.proofs.lemmas.Option.{same_Some}
use Rattle.std.proofs.Math.Nat.{zero-add}
use Rattle.clmodel.specs.Barrier.{is_barrier}
use Rattle.clmodel.specs.BuiltIns.{built_in}
use Rattle.clmodel.specs.Next.{sites_in}
use Rattle.clmodel.specs.Setup.{kernel_in, functions_before}
use Rattle.clmodel.specs.Tree.{Func, Funcs, NoFunc, ThenFunc}
use Rattle.clmodel.specs.Typing.{IsTypedWithin, IsTypedProgram}
use Rattle.clmodel.specs.Typing.Context.{signature_of}
use Rattle.clmodel.specs.Typing.Functions.{signature, signatures, begin, with_params, names, IsTypedFunction, AreTypedFunctions}
use Rattle.limits.specs.declared.Limits.{Limits}
use Rattle.clmodel.specs.declared.tree.Parameter.{Parameter}
use Rattle.clmodel.specs.declared.tree.VariableType.{VariableType}
use Rattle.regcode.specs.declared.instruction.Instruction.{Instruction}
use Rattle.regcode.specs.declared.instruction.Instruction.TheVariants as instruction
use Rattle.lower_expr.specs.Scope.{Scope, register_at}
use Rattle.lower_code.specs.Code.{Exits, parameter_variables, pass_code, no_value_code, stmts_code, result_in, body_code, call_code, arguments_code, kernel_code}
use Rattle.lower.specs.Accepted.{Suit, Matches, TypedKernelsVerified}
use Rattle.lower.proofs.Suiting.{is_at, suit_both, unset_suits, hold_suits, argument_suits}
use Rattle.lower.proofs.Scoped.{function_unbound, matches_params}
use Rattle.lower.proofs.CallCode.{KnownIn, body_known, distinct}
use Rattle.lower.proofs.TypedRights.{Filled, filled_none, SuitCall, no_value_suits}
use Rattle.lower.proofs.TypedStatements.{stmts_suit}
use Rattle.lower.proofs.Verified.{kernels_verified}

pass_suits : (parameters : List VariableType) (ps : List Parameter) (numbers : List ℕ) (level : ℕ) → Filled (map (λ p. p.kind) ps) numbers → Suit parameters (pass_code ps numbers level)
pass_suits parameters [] numbers level filled = tt
pass_suits parameters (p ∷ ps) [] level filled = (unset_suits parameters (register_at level p.kind), pass_suits parameters ps [] (level + 1) (filled_none (map (λ p. p.kind) ps)))
pass_suits parameters (p ∷ ps) (number ∷ numbers) level filled =
    (hold_suits parameters (register_at level p.kind) number p.kind filled.0.0 (is_at level p.kind) filled.0.1.0 filled.0.1.1, pass_suits parameters ps numbers (level + 1) filled.1)

arguments_suit : (parameters : List VariableType) (ps : List Parameter) (level : ℕ) → ((i : ℕ) → slice_get parameters (level + i) ≡ slice_get (map (λ p. p.kind) ps) i)
    → Suit parameters (arguments_code ps level)
arguments_suit parameters [] level at = tt
arguments_suit parameters (p ∷ ps) level at = (
  argument_suits parameters (register_at level p.kind) level p.kind (is_at level p.kind) (ap (slice_get parameters) (let n : level ≡ level + 0 = omega arith in n) ∙ at 0),
  arguments_suit parameters ps (level + 1) (λ i. ap (slice_get parameters) (let n : level + 1 + i ≡ level + suc i = omega arith in n) ∙ at (suc i)),
)

module _ (parameters : List VariableType) (limits : Limits) (all : List ℕ) (earlier : Funcs) (f : Func) (typed : IsTypedFunction limits all earlier f) (known : KnownIn (λ size. SuitCall parameters) limits all earlier (with_params (begin limits all earlier f) f.parameters)) where
  body_suits : (level depth site : ℕ) → Suit parameters (body_code (call_code earlier) (result_in earlier) (sites_in earlier) f level depth site)
  body_suits level depth site =
      let end = no_value_code f.result in
      let empty : Scope = record { base = level; variables = [] } in
      let scope : Scope = record { base = level; variables = parameter_variables f.parameters [] } in
      let inner : Exits = record { broken = 0; continued = 0; returned = length end } in
      let start = begin limits all earlier f in
      let c = with_params start f.parameters in
      let m : Matches start empty = λ name kind is. absurd (function_unbound (nat_eq name f.name) (signature f) (signature_of (signatures earlier) name) (built_in name) (is_barrier name) kind is) in
      suit_both parameters (stmts_code (call_code earlier) (result_in earlier) (sites_in earlier) f.result scope f.body depth site inner) end
      (stmts_suit parameters (call_code earlier) (result_in earlier) (sites_in earlier) f.result c f.body typed.body scope (matches_params start empty f.parameters typed.parameters m) known depth site inner)
      (no_value_suits parameters f.result)

  function_suits : (numbers : List ℕ) (level depth site : ℕ)
      → SuitCall parameters (signature f).parameters numbers level (pass_code f.parameters numbers level ++ body_code (call_code earlier) (result_in earlier) (sites_in earlier) f level depth site)
  function_suits numbers level depth site filled =
      suit_both parameters (pass_code f.parameters numbers level) (body_code (call_code earlier) (result_in earlier) (sites_in earlier) f level depth site)
      (pass_suits parameters f.parameters numbers level filled) (body_suits level depth site)

kernel_suits : (limits : Limits) (all : List ℕ) (earlier : Funcs) (f : Func) → AreTypedFunctions limits all earlier → IsTypedFunction limits all earlier f → Suit (map (λ p. p.kind) f.parameters) (kernel_code earlier f)
kernel_suits limits all earlier f before typed =
    let parameters = map (λ p. p.kind) f.parameters in
    let body = body_code (call_code earlier) (result_in earlier) (sites_in earlier) f 0 0 0 in
    let last : List Instruction = instruction.End ∷ [] in
    suit_both parameters (arguments_code f.parameters 0) (body ++ last) (arguments_suit parameters f.parameters 0 (λ i. ap (slice_get parameters) (zero-add i)))
    (suit_both parameters body last (body_suits parameters limits all earlier f typed (body_known (λ size. SuitCall parameters) limits all (function_suits parameters limits all) earlier f before) 0 0 0) ((λ code same wide. tt), tt))

-- the kernel of a name, with the functions before it
pub kernel_typed : (limits : Limits) (all : List ℕ) (fs : Funcs) (name : ℕ) (f : Func) → AreTypedFunctions limits all fs → kernel_in fs name ≡ Some f
    → (AreTypedFunctions limits all (functions_before fs name) × IsTypedFunction limits all (functions_before fs name) f) × (f.is_kernel ≡ true)
kernel_typed limits all NoFunc name f typed is = absurd (cc)
kernel_typed limits all (ThenFunc fs g) name f typed is = by_case (kernel_typed limits all fs name f typed.0) (g.is_kernel && nat_eq g.name name) refl is
  where
    by_case : (kernel_in fs name ≡ Some f → (AreTypedFunctions limits all (functions_before fs name) × IsTypedFunction limits all (functions_before fs name) f) × (f.is_kernel ≡ true))
        → (b : Bool) → (g.is_kernel && nat_eq g.name name) ≡ b → (if b then Some g else kernel_in fs name) ≡ Some f
        → (AreTypedFunctions limits all (if b then fs else functions_before fs name) × IsTypedFunction limits all (if b then fs else functions_before fs name) f) × (f.is_kernel ≡ true)
    by_case before true e is =
        let same = same_Some g f is in
        ((typed.0, subst (IsTypedFunction limits all fs) same typed.1), ap (λ h. h.is_kernel) (sym same) ∙ (and_parts g.is_kernel (nat_eq g.name name) e).0)
    by_case before false e is = before is

pub typed_kernels_verified : TypedKernelsVerified
unfolding IsTypedProgram IsTypedWithin TypedKernelsVerified
typed_kernels_verified program name f typed is =
    let limits = typed.0 in
    let all = names program.functions in
    let earlier = functions_before program.functions name in
    let r = kernel_typed limits all program.functions name f typed.1 is in
    let loops = r.0.1.loops r.1 in
    let most = limits.few_loops in
    kernels_verified (map (λ p. p.kind) f.parameters) earlier f (distinct limits all earlier r.0.0) (omega (arith, loops, most)) (kernel_suits limits all earlier f r.0.0 r.0.1)
