use Rattle.std.proofs.Common.{◌≡◌, Bool, true, false, ◌++◌, is_some, sym, ap, ◌∙◌}
use Rattle.clmodel.specs.declared.type_fault.TypeFault.TheVariants as fault
use Rattle.clmodel.specs.Tree.{term}
use Rattle.clmodel.specs.Typing.Least.{least}
use Rattle.clmodel.specs.Typing.Faults.{unless, integer_faults, term_faults}
use Rattle.cltypes_scope.specs.Views.{operand_of}
use Rattle.cltypes_scope.proofs.Follows.{inside, own_of_one}
use Rattle.cltypes.proofs.Control.{both_least}
use Rattle.cltypes.proofs.statements.value_return_fault.Goals as goal

pub returns-in-Err : goal.returns-in-Err
returns-in-Err c = sym (inside (term_faults c.args.context.now (term c.args.value.now)) _ c.in-Err.fault c.in-Err.ensures)

pub returns-then-is_some : goal.returns-then-is_some
returns-then-is_some c =
    let x = c.args.context.now in
    let e = term c.args.value.now in
    let given = c.in-Ok.value in
    let wrong = λ (b : Bool). unless b (fault.TypeMismatch c.args.at) in
    let has : is_some x.signature.result ≡ true = ap is_some (sym c.result.ensures) ∙ sym c.is_some.ensures ∙ c.if-is_some.true in
    own_of_one (term_faults x e) (λ z. wrong (is_some x.signature.result) ++ integer_faults z.kind z.at) given (operand_of x e) _ c.in-Ok.ensures
    (c.integer_fault.ensures ∙ sym (ap (λ b. least (wrong b ++ integer_faults given.kind given.at)) has))

pub returns-else-is_some : goal.returns-else-is_some
returns-else-is_some c =
    let x = c.args.context.now in
    let e = term c.args.value.now in
    let given = c.in-Ok.value in
    let wrong = λ (b : Bool). unless b (fault.TypeMismatch c.args.at) in
    let own = c.integer_fault-else-is_some in
    let has : is_some x.signature.result ≡ false = ap is_some (sym c.result.ensures) ∙ sym c.is_some.ensures ∙ c.if-is_some.false in
    own_of_one (term_faults x e) (λ z. wrong (is_some x.signature.result) ++ integer_faults z.kind z.at) given (operand_of x e) _ c.in-Ok.ensures
    (both_least (wrong (is_some x.signature.result)) (integer_faults given.kind given.at) _ _ own.result c.lesser.ensures (sym (ap (λ b. least (wrong b)) has)) own.ensures)
