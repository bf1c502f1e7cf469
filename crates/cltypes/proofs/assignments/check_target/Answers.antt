use Rattle.std.proofs.Common.{◌++◌, sym, ap, ◌∙◌}
use Rattle.clmodel.specs.Tree as tree
use Rattle.clmodel.specs.Tree.{term, tree_target}
use Rattle.clmodel.specs.Typing.Context.{meaning}
use Rattle.clmodel.specs.Typing.Least.{least}
use Rattle.clmodel.specs.Typing.Faults.{element_target_faults, integer_faults, pointer_faults, store_faults, term_faults, front_kind, element_kind}
use Rattle.cltypes_scope.specs.Views.{operand_of}
use Rattle.cltypes_scope.proofs.Follows.{fault_handed_on, inside, checks_as, operand, one_here}
use Rattle.cltypes.proofs.Bodies.{target_along, target_fault_along}
use Rattle.std.proofs.lemmas.Result.{err_from_is_err_and}
use Rattle.cltypes.proofs.assignments.check_target.Goals as goal

pub returns-in_err-index-in-Element : goal.returns-in_err-index-in-Element
returns-in_err-index-in-Element c =
    let e = c.in-Element in
    let x = c.args.context.now in
    let i = term c.deref.result.now in
    let f = c.in_err-index-in-Element.field-0.0 in
    fault_handed_on c.from_residual.result f _ _ (err_from_is_err_and c.from_residual.result c.from_residual.ensures.1)
    (target_fault_along x (tree.TargetElement e.at e.name i) _ f (ap tree_target e.is ∙ ap (λ z. tree.TargetElement e.at e.name (term z)) (sym c.deref.ensures))
    (inside (term_faults x i) _ f c.in_err-index-in-Element.ensures))

pub returns-in_ok-index-in-Element : goal.returns-in_ok-index-in-Element
returns-in_ok-index-in-Element c =
    let e = c.in-Element in
    let x = c.args.context.now in
    let i = term c.deref.result.now in
    let j = c.in_ok-index-in-Element.index in
    let m = meaning x e.name in
    let r = c.checked-in-Element.result in
    target_along x (tree.TargetElement e.at e.name i) _ r (ap tree_target e.is ∙ ap (λ z. tree.TargetElement e.at e.name (term z)) (sym c.deref.ensures))
    (one_here (term_faults x i) (λ z. element_target_faults m e.at ++ integer_faults z.kind z.at) (λ z. operand (front_kind m) e.at) j (operand_of x i) r c.in_ok-index-in-Element.ensures
    (checks_as r c.target_fault.result (least (element_target_faults m e.at ++ integer_faults j.kind j.at)) c.front_kind.result (front_kind m) e.at
    (c.target_fault.ensures ∙ ap (λ z. least (element_target_faults z e.at ++ integer_faults j.kind j.at)) c.meaning-meaning-in-Element.ensures)
    (c.front_kind.ensures ∙ ap front_kind c.meaning-meaning-in-Element.ensures)
    c.checked-in-Element.ensures))

pub returns-in_err-pointer-in-Dereference : goal.returns-in_err-pointer-in-Dereference
returns-in_err-pointer-in-Dereference c =
    let e = c.in-Dereference in
    let x = c.args.context.now in
    let d = c.deref-in-Dereference in
    let f = c.in_err-pointer-in-Dereference.field-0.0 in
    let k = c.from_residual-in_err-pointer-in-Dereference in
    fault_handed_on k.result f _ _ (err_from_is_err_and k.result k.ensures.1)
    (target_fault_along x (tree.TargetDereference e.at (term d.result.now)) _ f (ap tree_target e.is ∙ ap (λ z. tree.TargetDereference e.at (term z)) (sym d.ensures))
    (inside (term_faults x (term d.result.now)) _ f c.in_err-pointer-in-Dereference.ensures))

pub returns-in_ok-pointer-in-Dereference : goal.returns-in_ok-pointer-in-Dereference
returns-in_ok-pointer-in-Dereference c =
    let e = c.in-Dereference in
    let x = c.args.context.now in
    let d = c.deref-in-Dereference in
    let i = term d.result.now in
    let j = c.in_ok-pointer-in-Dereference.pointer in
    let r = c.checked-in-Dereference.result in
    target_along x (tree.TargetDereference e.at i) _ r (ap tree_target e.is ∙ ap (λ z. tree.TargetDereference e.at (term z)) (sym d.ensures))
    (one_here (term_faults x i) (λ z. pointer_faults z.kind z.at ++ store_faults z.kind e.at) (λ z. operand (element_kind z.kind) e.at) j (operand_of x i) r c.in_ok-pointer-in-Dereference.ensures
    (checks_as r c.behind_fault.result (least (pointer_faults j.kind j.at ++ store_faults j.kind e.at)) c.element_kind.result (element_kind j.kind) e.at
    c.behind_fault.ensures c.element_kind.ensures c.checked-in-Dereference.ensures))
