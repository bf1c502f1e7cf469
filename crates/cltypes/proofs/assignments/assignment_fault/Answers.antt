use Rattle.std.proofs.Common.{◌++◌, sym, ap, ◌∙◌}
use Rattle.clmodel.specs.Tree.{term, tree_target}
use Rattle.clmodel.specs.Typing.Least.{first, node}
use Rattle.clmodel.specs.Typing.Faults.{passing_faults, assigning_faults, target_faults, value_faults, void_faults, assignment_faults}
use Rattle.cltypes.specs.Views.{target_of}
use Rattle.cltypes_scope.specs.Views.{operand_of}
use Rattle.cltypes_scope.proofs.Follows.{inside, inside_first, inside_second, own_of_two}
use Rattle.cltypes.proofs.Control.{both_least}
use Rattle.cltypes.proofs.assignments.assignment_fault.Goals as goal

pub returns-in-Err : goal.returns-in-Err
returns-in-Err c =
    let x = c.args.context.now in
    let p = target_faults x (tree_target c.args.target.now) in
    let e = value_faults x (term c.args.value.now) in
    sym (inside (p ++ e) _ c.in-Err.fault (inside_first p e c.in-Err.fault c.in-Err.ensures))

pub returns-in-Err-check_value : goal.returns-in-Err-check_value
returns-in-Err-check_value c =
    let x = c.args.context.now in
    let p = target_faults x (tree_target c.args.target.now) in
    let e = value_faults x (term c.args.value.now) in
    let f = c.in-Err-check_value.fault in
    sym (inside (p ++ e) _ f (inside_second p e f c.in-Ok.ensures.0 c.in-Err-check_value.ensures))

pub returns-in-None : goal.returns-in-None
returns-in-None c =
    let x = c.args.context.now in
    let p = tree_target c.args.target.now in
    let e = term c.args.value.now in
    let to = c.in-Ok.to in
    let given = c.in-Ok-check_value.given in
    own_of_two (target_faults x p) (value_faults x e) (λ y z. void_faults x e ++ passing_faults y.kind z.kind z.at) to (target_of x p) given (operand_of x e) _
    c.in-Ok.ensures c.in-Ok-check_value.ensures
    (both_least (void_faults x e) (passing_faults to.kind given.kind given.at) _ c.void_fault.result c.passing_fault.result c.lesser.ensures c.void_fault.ensures c.passing_fault.ensures)
    ∙ ap (λ o. first (node (target_faults x p ++ value_faults x e) (assignment_faults x p o e))) (sym c.in-None.is)

pub returns-in-Some : goal.returns-in-Some
returns-in-Some c =
    let x = c.args.context.now in
    let p = tree_target c.args.target.now in
    let e = term c.args.value.now in
    let op = c.in-Some.operator in
    let to = c.in-Ok.to in
    let given = c.in-Ok-check_value.given in
    let void = c.void_fault-in-Some in
    own_of_two (target_faults x p) (value_faults x e) (λ y z. void_faults x e ++ assigning_faults op y.kind z.kind y.at z.at) to (target_of x p) given (operand_of x e) _
    c.in-Ok.ensures c.in-Ok-check_value.ensures
    (both_least (void_faults x e) (assigning_faults op to.kind given.kind to.at given.at) _ void.result c.assigning_fault.result c.lesser-in-Some.ensures void.ensures c.assigning_fault.ensures)
    ∙ ap (λ o. first (node (target_faults x p ++ value_faults x e) (assignment_faults x p o e))) (sym c.in-Some.is)
