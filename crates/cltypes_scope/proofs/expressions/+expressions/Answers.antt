use Rattle.std.proofs.Common.{◌++◌, option_map, refl, sym, ap, ◌∙◌, arith}
use Rattle.std.proofs.lemmas.Result.{err_from_is_err_and}
use Rattle.clmodel.specs.declared.tree.VariableType.TheVariants.{Integer}
use Rattle.clmodel.specs.Tree as tree
use Rattle.clmodel.specs.Tree.{term, terms}
use Rattle.clmodel.specs.Typing.Context.{meaning}
use Rattle.clmodel.specs.Typing.Least.{least}
use Rattle.clmodel.specs.Typing.Faults.{front_faults, address_faults, integer_faults, pointer_faults, operand_faults, term_faults, name_kind, front_kind, element_kind, unary_type, binary_type, choice_type, wanted}
use Rattle.cltypes_scope.specs.Names.{meaning_of}
use Rattle.cltypes_scope.specs.Fenced.{names_of}
use Rattle.cltypes_scope.specs.Views.{operand_of, want_of, spot_of}
use Rattle.cltypes_scope.proofs.Follows.{fault_handed_on, inside, inside_first, inside_second, neither_of, checks_as, operand, along, one_here, two_here, three_here}
use Rattle.cltypes_scope.proofs.Arguments.{argument_inside, arguments_inside, arguments_own, arguments_last, arguments_begin, arguments_keep}
use Rattle.clmodel.proofs.Trees.{call_view}
use Rattle.cltypes_scope.proofs.Views.{count_terms}
use Rattle.cltypes_scope.proofs.Calls.{call_here, inside_arguments}
use Rattle.cltypes_scope.proofs.expressions.+expressions.Goals as goal
use Rattle.cltypes_scope.proofs.expressions.+expressions.Goals.{check_arguments-then-index-eq0, check_arguments-else-index-eq0}

-- a call among the expressions

pub check_in-returns-in-Call : goal.check_in-returns-in-Call
check_in-returns-in-Call t c =
    let e = c.in-Call in
    let d = c.deref-in-Call in
    along (names_of c.args.names) (tree.Call e.at e.name (terms d.result.now)) _ c.check_call_in.result
    (ap term e.is ∙ call_view e.at e.name e.arguments ∙ ap (λ z. tree.Call e.at e.name (terms z)) (sym d.ensures.value))
    c.check_call_in.ensures

-- an element

pub check_element-returns-in_err-index : goal.check_element-returns-in_err-index
check_element-returns-in_err-index t c =
    fault_handed_on c.from_residual.result c.in_err-index.field-0.0 _ _ (err_from_is_err_and c.from_residual.result c.from_residual.ensures.1)
    (inside (term_faults (names_of c.args.names) (term c.args.index.now)) _ c.in_err-index.field-0.0 c.in_err-index.ensures)

pub check_element-returns : goal.check_element-returns
check_element-returns t c =
    let x = names_of c.args.names in
    let a = c.args.array.at in
    let i = term c.args.index.now in
    let j = c.in_ok-index.index in
    let m = meaning x c.args.array.name in
    let r = c.checked.result in
    let n = c.meaning_among-meaning.ensures in
    one_here (term_faults x i) (λ z. front_faults m a ++ integer_faults z.kind z.at) (λ z. operand (front_kind m) a) j (operand_of x i) r c.in_ok-index.ensures
    (checks_as r c.element_fault.result (least (front_faults m a ++ integer_faults j.kind j.at)) c.front_kind.result (front_kind m) a
    (c.element_fault.ensures ∙ ap (λ z. least (front_faults z a ++ integer_faults j.kind j.at)) n)
    (c.front_kind.ensures ∙ ap front_kind n)
    c.checked.ensures)

-- its address

pub check_address-returns-in_err-index : goal.check_address-returns-in_err-index
check_address-returns-in_err-index t c =
    fault_handed_on c.from_residual.result c.in_err-index.field-0.0 _ _ (err_from_is_err_and c.from_residual.result c.from_residual.ensures.1)
    (inside (term_faults (names_of c.args.names) (term c.args.index.now)) _ c.in_err-index.field-0.0 c.in_err-index.ensures)

pub check_address-returns : goal.check_address-returns
check_address-returns t c =
    let x = names_of c.args.names in
    let a = c.args.at in
    let b = c.args.array.at in
    let i = term c.args.index.now in
    let j = c.in_ok-index.index in
    let m = meaning x c.args.array.name in
    let r = c.checked.result in
    let n = c.meaning_among-meaning.ensures in
    one_here (term_faults x i) (λ z. address_faults m a b ++ integer_faults z.kind z.at) (λ z. operand (name_kind m) c.args.at) j (operand_of x i) r c.in_ok-index.ensures
    (checks_as r c.element_address_fault.result (least (address_faults m a b ++ integer_faults j.kind j.at)) c.name_kind.result (name_kind m) c.args.at
    (c.element_address_fault.ensures ∙ ap (λ z. least (address_faults z a b ++ integer_faults j.kind j.at)) n)
    (c.name_kind.ensures ∙ ap name_kind n)
    c.checked.ensures)

-- what a pointer points to

pub check_dereference-returns-in_err-pointer : goal.check_dereference-returns-in_err-pointer
check_dereference-returns-in_err-pointer t c =
    fault_handed_on c.from_residual.result c.in_err-pointer.field-0.0 _ _ (err_from_is_err_and c.from_residual.result c.from_residual.ensures.1)
    (inside (term_faults (names_of c.args.names) (term c.args.pointer.now)) _ c.in_err-pointer.field-0.0 c.in_err-pointer.ensures)

pub check_dereference-returns : goal.check_dereference-returns
check_dereference-returns t c =
    let x = names_of c.args.names in
    let i = term c.args.pointer.now in
    let j = c.in_ok-pointer.pointer in
    let r = c.checked.result in
    one_here (term_faults x i) (λ z. pointer_faults z.kind z.at) (λ z. operand (element_kind z.kind) c.args.at) j (operand_of x i) r c.in_ok-pointer.ensures
    (checks_as r c.pointer_fault.result (least (pointer_faults j.kind j.at)) c.element_kind.result (element_kind j.kind) c.args.at
    c.pointer_fault.ensures c.element_kind.ensures c.checked.ensures)

-- a call

pub check_call_in-returns-in_err-given : goal.check_call_in-returns-in_err-given
check_call_in-returns-in_err-given t c =
    fault_handed_on c.from_residual.result c.in_err-given.field-0.0 _ _ (err_from_is_err_and c.from_residual.result c.from_residual.ensures.1)
    (inside_arguments (names_of c.args.names) (names_of c.names_inside.result) (spot_of c.args.spot) (terms c.args.arguments.now) c.args.called.at c.args.called.name (meaning_of c.meaning_among-meaning.result)
    c.in_err-given.field-0.0 c.names_inside.ensures c.meaning_among-meaning.ensures c.in_err-given.ensures)

pub check_call_in-returns : goal.check_call_in-returns
check_call_in-returns t c =
    call_here (names_of c.args.names) (names_of c.names_inside.result) (spot_of c.args.spot) (terms c.args.arguments.now) c.args.called.at c.args.called.name _ (meaning_of c.meaning_among-meaning.result) c.in_ok-given.given
    c.flags_fault.result c.call_fault.result c.call_kind.result c.checked.result c.names_inside.ensures
    c.in_ok-given.ensures c.meaning_among-meaning.ensures (sym (count_terms c.args.arguments.now)) c.flags_fault.ensures c.call_fault.ensures c.call_kind.ensures c.checked.ensures

-- an operator before an operand

pub check_unary-returns-in_err-operand : goal.check_unary-returns-in_err-operand
check_unary-returns-in_err-operand t c =
    fault_handed_on c.from_residual.result c.in_err-operand.field-0.0 _ _ (err_from_is_err_and c.from_residual.result c.from_residual.ensures.1)
    (inside (term_faults (names_of c.args.names) (term c.args.operand.now)) _ c.in_err-operand.field-0.0 c.in_err-operand.ensures)

pub check_unary-returns : goal.check_unary-returns
check_unary-returns t c =
    let x = names_of c.args.names in
    let i = term c.args.operand.now in
    let j = c.in_ok-operand.operand in
    let r = c.checked.result in
    one_here (term_faults x i) (λ z. integer_faults z.kind z.at) (λ z. operand (unary_type c.args.operator z.kind) c.args.at) j (operand_of x i) r c.in_ok-operand.ensures
    (checks_as r c.integer_fault.result (least (integer_faults j.kind j.at)) c.unary_type.result (unary_type c.args.operator j.kind) c.args.at
    c.integer_fault.ensures c.unary_type.ensures c.checked.ensures)

-- a cast

pub check_cast-returns-in_err-operand : goal.check_cast-returns-in_err-operand
check_cast-returns-in_err-operand t c =
    fault_handed_on c.from_residual.result c.in_err-operand.field-0.0 _ _ (err_from_is_err_and c.from_residual.result c.from_residual.ensures.1)
    (inside (term_faults (names_of c.args.names) (term c.args.operand.now)) _ c.in_err-operand.field-0.0 c.in_err-operand.ensures)

pub check_cast-returns : goal.check_cast-returns
check_cast-returns t c =
    let x = names_of c.args.names in
    let i = term c.args.operand.now in
    let j = c.in_ok-operand.operand in
    let r = c.checked.result in
    let k = Integer c.args.target in
    one_here (term_faults x i) (λ z. integer_faults z.kind z.at) (λ z. operand k c.args.at) j (operand_of x i) r c.in_ok-operand.ensures
    (checks_as r c.integer_fault.result (least (integer_faults j.kind j.at)) k k c.args.at c.integer_fault.ensures refl c.checked.ensures)

-- an operator between two operands

pub check_binary-returns-in_err-left : goal.check_binary-returns-in_err-left
check_binary-returns-in_err-left t c =
    let x = names_of c.args.names in
    let left = term_faults x (term c.args.left.now) in
    let right = term_faults x (term c.args.right.now) in
    fault_handed_on c.from_residual.result c.in_err-left.field-0.0 _ _ (err_from_is_err_and c.from_residual.result c.from_residual.ensures.1)
    (inside (left ++ right) _ c.in_err-left.field-0.0 (inside_first left right c.in_err-left.field-0.0 c.in_err-left.ensures))

pub check_binary-returns-in_err-right : goal.check_binary-returns-in_err-right
check_binary-returns-in_err-right t c =
    let x = names_of c.args.names in
    let left = term_faults x (term c.args.left.now) in
    let right = term_faults x (term c.args.right.now) in
    let f = c.in_err-right.field-0.0 in
    fault_handed_on c.from_residual-in_err-right.result c.in_err-right.field-0.0 _ _ (err_from_is_err_and c.from_residual-in_err-right.result c.from_residual-in_err-right.ensures.1)
    (inside (left ++ right) _ f (inside_second left right f c.in_ok-left.ensures.0 c.in_err-right.ensures))

pub check_binary-returns : goal.check_binary-returns
check_binary-returns t c =
    let x = names_of c.args.names in
    let op = c.args.operator in
    let left = term c.args.left.now in
    let right = term c.args.right.now in
    let j = c.in_ok-left.left in
    let k = c.in_ok-right.right in
    let r = c.checked.result in
    two_here (term_faults x left) (term_faults x right) (λ y z. operand_faults op y.kind z.kind y.at z.at) (λ y z. operand (binary_type op y.kind z.kind) c.args.at)
    j (operand_of x left) k (operand_of x right) r c.in_ok-left.ensures c.in_ok-right.ensures
    (checks_as r c.operand_fault.result (least (operand_faults op j.kind k.kind j.at k.at)) c.binary_type.result (binary_type op j.kind k.kind) c.args.at
    c.operand_fault.ensures c.binary_type.ensures c.checked.ensures)

-- a choice

pub check_choice-returns-in_err-condition : goal.check_choice-returns-in_err-condition
check_choice-returns-in_err-condition t c =
    let x = names_of c.args.names in
    let first = term_faults x (term c.args.condition.now) in
    let second = term_faults x (term c.args.chosen.now) in
    let third = term_faults x (term c.args.otherwise.now) in
    let f = c.in_err-condition.field-0.0 in
    fault_handed_on c.from_residual.result c.in_err-condition.field-0.0 _ _ (err_from_is_err_and c.from_residual.result c.from_residual.ensures.1)
    (inside (first ++ second ++ third) _ f (inside_first (first ++ second) third f (inside_first first second f c.in_err-condition.ensures)))

pub check_choice-returns-in_err-chosen : goal.check_choice-returns-in_err-chosen
check_choice-returns-in_err-chosen t c =
    let x = names_of c.args.names in
    let first = term_faults x (term c.args.condition.now) in
    let second = term_faults x (term c.args.chosen.now) in
    let third = term_faults x (term c.args.otherwise.now) in
    let f = c.in_err-chosen.field-0.0 in
    fault_handed_on c.from_residual-in_err-chosen.result c.in_err-chosen.field-0.0 _ _ (err_from_is_err_and c.from_residual-in_err-chosen.result c.from_residual-in_err-chosen.ensures.1)
    (inside (first ++ second ++ third) _ f
    (inside_first (first ++ second) third f (inside_second first second f c.in_ok-condition.ensures.0 c.in_err-chosen.ensures)))

pub check_choice-returns-in_err-otherwise : goal.check_choice-returns-in_err-otherwise
check_choice-returns-in_err-otherwise t c =
    let x = names_of c.args.names in
    let first = term_faults x (term c.args.condition.now) in
    let second = term_faults x (term c.args.chosen.now) in
    let third = term_faults x (term c.args.otherwise.now) in
    let f = c.in_err-otherwise.field-0.0 in
    fault_handed_on c.from_residual-in_err-otherwise.result c.in_err-otherwise.field-0.0 _ _ (err_from_is_err_and c.from_residual-in_err-otherwise.result c.from_residual-in_err-otherwise.ensures.1)
    (inside (first ++ second ++ third) _ f
    (inside_second (first ++ second) third f (neither_of first second c.in_ok-condition.ensures.0 c.in_ok-chosen.ensures.0) c.in_err-otherwise.ensures))

pub check_choice-returns : goal.check_choice-returns
check_choice-returns t c =
    let x = names_of c.args.names in
    let first = term c.args.condition.now in
    let second = term c.args.chosen.now in
    let third = term c.args.otherwise.now in
    let i = c.in_ok-condition.condition in
    let j = c.in_ok-chosen.chosen in
    let k = c.in_ok-otherwise.otherwise in
    let r = c.checked.result in
    three_here (term_faults x first) (term_faults x second) (term_faults x third)
    (λ y z w. integer_faults y.kind y.at ++ integer_faults z.kind z.at ++ integer_faults w.kind w.at) (λ y z w. operand (choice_type z.kind w.kind) c.args.at)
    i (operand_of x first) j (operand_of x second) k (operand_of x third) r c.in_ok-condition.ensures c.in_ok-chosen.ensures c.in_ok-otherwise.ensures
    (checks_as r c.choice_fault.result (least (integer_faults i.kind i.at ++ integer_faults j.kind j.at ++ integer_faults k.kind k.at)) c.choice_type.result (choice_type j.kind k.kind) c.args.at
    c.choice_fault.ensures c.choice_type.ensures c.checked.ensures)

-- arguments

pub check_arguments-returns-in_err-argument : goal.check_arguments-returns-in_err-argument
check_arguments-returns-in_err-argument t c =
    fault_handed_on c.from_residual.result c.in_err-argument.field-0.0 _ _ (err_from_is_err_and c.from_residual.result c.from_residual.ensures.1)
    (argument_inside (names_of c.args.names) c.args.arguments.now c.loop-index.index c.index-arguments-index.result c.in_err-argument.field-0.0
    c.loop-index-test.true c.index-arguments-index.is c.loop-index.invariant.inside c.in_err-argument.ensures)

pub check_arguments-loop-index-preserved : goal.check_arguments-loop-index-preserved
check_arguments-loop-index-preserved t c =
    let es = c.args.arguments.now in
    let i = c.loop-index.index in
    let e = c.index-arguments-index.result in
    let x = names_of c.args.names in
    record {
      inside = arguments_inside x es i e c.loop-index-test.true c.index-arguments-index.is c.loop-index.invariant.inside c.in_ok-argument.ensures.0;
      own = arguments_own x (wanted (meaning_of c.args.meaning)) es i e c.in_ok-argument.argument c.loop-index.last (option_map want_of c.wanted.result) c.loop-index.least c.argument_fault.result c.lesser-least.result
          c.loop-index-test.true c.index-arguments-index.is c.loop-index.invariant.own c.loop-index.invariant.kind c.in_ok-argument.ensures.1 c.wanted.ensures c.argument_fault.ensures c.lesser-least.ensures;
      kind = arguments_last x es i e c.in_ok-argument.argument c.loop-index-test.true c.index-arguments-index.is c.in_ok-argument.ensures.1;
      first_kind = elim c.if-index-eq0.branch [
        | check_arguments-then-index-eq0 w ↦
            w.first-is ∙ arguments_begin x es i e c.in_ok-argument.argument c.loop-index-test.true c.index-arguments-index.is c.in_ok-argument.ensures.1 (omega (arith))
        | check_arguments-else-index-eq0 w ↦
            w.first-is ∙ arguments_keep x es i e c.loop-index.first c.loop-index-test.true c.index-arguments-index.is c.loop-index.invariant.first_kind (λ z. absurd (omega (arith, z)))
      ];
    }
