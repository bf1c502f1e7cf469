use Rattle.std.proofs.Common.{◌++◌, sym}
use Rattle.clmodel.specs.Tree.{term}
use Rattle.clmodel.specs.Typing.Faults.{passing_faults, value_faults, void_faults}
use Rattle.cltypes_scope.specs.Views.{operand_of}
use Rattle.cltypes_scope.proofs.Follows.{inside, own_of_one}
use Rattle.cltypes.proofs.Control.{both_least}
use Rattle.cltypes.proofs.assignments.initial_fault.Goals as goal

pub returns-in-Err : goal.returns-in-Err
returns-in-Err c = sym (inside (value_faults c.args.context.now (term c.args.value.now)) _ c.in-Err.fault c.in-Err.ensures)

pub returns-in-Ok : goal.returns-in-Ok
returns-in-Ok c =
    let x = c.args.context.now in
    let e = term c.args.value.now in
    let k = c.args.kind in
    let given = c.in-Ok.given in
    own_of_one (value_faults x e) (λ z. void_faults x e ++ passing_faults k z.kind z.at) given (operand_of x e) _ c.in-Ok.ensures
    (both_least (void_faults x e) (passing_faults k given.kind given.at) _ c.void_fault.result c.passing_fault.result c.lesser.ensures c.void_fault.ensures c.passing_fault.ensures)
