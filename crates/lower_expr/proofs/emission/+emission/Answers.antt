use Rattle.std.proofs.Common.{◌≡◌, ℕ, ◌+◌, ◌++◌, ◌∷◌, [], List, length, take, sym, ap, ap₂, ◌∙◌, arith, Option}
use Rattle.std.proofs.lemmas.List.{append_assoc, length-append, map-append}
use Rattle.clnum.specs.Integer as integers
use Rattle.clmodel.specs.Next.{argument_type, base_type}
use Rattle.clmodel.specs.Tree.{Terms, Call, Unary, Cast, Binary, Choice, term, terms}
use Rattle.clmodel.specs.Typing.Sizes.{term_size, terms_size}
use Rattle.clmodel.specs.declared.tree.Expression.{Expression}
use Rattle.clmodel.specs.declared.tree.VariableType.{VariableType}
use Rattle.folding.specs.Known.{constants_in}
use Rattle.folding.specs.declared.known.Known.{Known}
use Rattle.folding.specs.Constants.{constants_of}
use Rattle.regcode.specs.declared.instruction.Instruction.{Instruction}
use Rattle.lower_expr.specs.Scope.{register_at}
use Rattle.lower_expr.specs.Forms.{form_code}
use Rattle.lower_expr.specs.Expressions.{expr_code, terms_code, registers_for, count}
use Rattle.lower_expr.specs.Registers.{numbers}
use Rattle.lower_expr.specs.declared.scope.RegisterNumber.{RegisterNumber}
use Rattle.lower_expr.proofs.Arguments.{calls, terms_more, terms_count, type_here, type_stays, settled_form, unary_laid, cast_laid, call_laid, binary_laid, choice_laid, unary_known, cast_known, call_known, binary_known, choice_known}
use Rattle.lower_expr.proofs.Growth.{behind, on_value, on_ok, on_err, on_error, none_ok, none_value, settled, cut_back}
use Rattle.lower_expr.proofs.Room.{argument_room}
use Rattle.lower_expr.proofs.Short.{expr_short}
use Rattle.lower_expr.proofs.emission.+emission.Goals as goal
use Rattle.lower_expr.proofs.emission.+emission.Goals.{emit_arguments-then-i-eq0, emit_arguments-else-i-eq0}

pub emit_arguments-loop-i-preserved : goal.emit_arguments-loop-i-preserved
emit_arguments-loop-i-preserved t c =
    let es = c.args.arguments.now in
    let scope = c.args.scope.now in
    let level = c.args.level.0 in
    let i = c.loop-i.i in
    let e = c.index-arguments-i.result in
    let before = terms (take i es) in
    let more = sym (terms_more es i e c.loop-i-test.true c.index-arguments-i.is) in
    let counted = terms_count es i (omega (arith, c.loop-i-test.true)) in
    let above : c.level_at-above.result.0 ≡ level + count before = omega (arith, c.level_at-above.ensures, counted) in
    let known = c.in_ok-found.ensures.known in
    let kind = ap (λ (k : Known). k.kind) known in (
      c.in_ok-found.ensures.code
          ∙ ap₂ (λ (code : List Instruction) (n : ℕ). code ++ expr_code scope n (term e)) c.loop-i.invariant.0 above
          ∙ append_assoc c.args.code.now.items (terms_code scope level before) (expr_code scope (level + count before) (term e))
          ∙ ap (λ (ts : Terms). c.args.code.now.items ++ terms_code scope level ts) more,
      ap numbers c.in_ok-push-2.ensures.ok
          ∙ map-append (λ (r : RegisterNumber). r.0) c.loop-i.registers.items (c.register_at.result ∷ [])
          ∙ ap₂ (λ (rs : List ℕ) (r : ℕ). rs ++ r ∷ []) c.loop-i.invariant.1 (c.register_at.ensures ∙ ap₂ (λ (n : ℕ) (k : VariableType). register_at n k) above kind)
          ∙ ap (λ (ts : Terms). registers_for scope level ts) more,
      elim c.if-i-eq0.branch [
        | emit_arguments-then-i-eq0 w ↦ w.kind-is ∙ w.base_type-kind.ensures ∙ ap base_type kind ∙ sym (type_here scope.variables before (term e) (omega (arith, counted)))
        | emit_arguments-else-i-eq0 w ↦ w.kind-is ∙ c.loop-i.invariant.2 ∙ sym (type_stays scope.variables before (term e) (λ none. absurd (omega (arith, counted, none))))
      ]
          ∙ ap (λ (ts : Terms). argument_type scope.variables ts) more,
      ap constants_in c.in_ok-push.ensures.ok
          ∙ map-append (λ (known : Known). known.constant) c.loop-i.known.items (c.in_ok-found.found ∷ [])
          ∙ ap₂ (λ (xs : List (Option integers.Integer)) (x : Option integers.Integer). xs ++ x ∷ []) c.loop-i.invariant.3 (ap (λ (k : Known). k.constant) known)
          ∙ ap (λ (ts : Terms). constants_of scope.variables ts) more,
    )

pub emit-returns-clause-code : goal.emit-returns-clause-code
emit-returns-clause-code t c =
    let old = c.args.code.now.items in
    let start : c.len-start.result ≡ length old = omega (arith, c.len-start.ensures, c.args.code.now.ok.0) in
    let form = form_code c.args.scope.now c.args.level.0 (term c.args.expression.now) in
    let laid = c.in_ok-known.ensures.code in
    on_ok c.settle.result (λ is. settled old c.emit_form.new.code.items c.settle.new.code.items form c.len-start.result c.args.level.0 _ _ start laid (ap (λ (k : Known). k.constant) c.in_ok-known.ensures.known) is
    ∙ ap (λ xs. old ++ xs) (settled_form c.args.scope.now c.args.level.0 (term c.args.expression.now))) c.settle.ensures.code

pub emit-returns-clause-known : goal.emit-returns-clause-known
emit-returns-clause-known t c =
    on_value c.settle.result (λ found is. is ∙ c.in_ok-known.ensures.known) c.settle.ensures.known

pub emit-returns-clause-longer : goal.emit-returns-clause-longer
emit-returns-clause-longer t c =
    let old = c.args.code.now.items in
    let start : c.len-start.result ≡ length old = omega (arith, c.len-start.ensures, c.args.code.now.ok.0) in
    let form = form_code c.args.scope.now c.args.level.0 (term c.args.expression.now) in
    let laid = c.in_ok-known.ensures.code in
    on_error c.settle.result (λ is. cut_back old c.emit_form.new.code.items c.settle.new.code.items form c.len-start.result start laid is) c.settle.ensures.cut

pub emit_form-returns-in_ok-operand-in-Unary-clause-code : goal.emit_form-returns-in_ok-operand-in-Unary-clause-code
emit_form-returns-in_ok-operand-in-Unary-clause-code t c =
    let scope = c.args.scope.now in
    let node = c.in-Unary in
    let e = term c.deref-in-Unary.result.now in
    let operand = c.in_ok-operand-in-Unary in
    let is : term c.args.expression.now ≡ Unary node.at node.operator e = ap term node.is ∙ ap (λ (x : Expression). Unary node.at node.operator (term x)) (sym c.deref-in-Unary.ensures) in
    on_ok c.end_unary.result (unary_laid scope c.args.level.0 node.at node.operator e (term c.args.expression.now) c.args.code.now.items c.emit-in-Unary.new.code.items c.end_unary.new.code.items operand.operand is operand.ensures.code operand.ensures.known) c.end_unary.ensures.code

pub emit_form-returns-in_ok-operand-in-Unary-clause-known : goal.emit_form-returns-in_ok-operand-in-Unary-clause-known
emit_form-returns-in_ok-operand-in-Unary-clause-known t c =
    let scope = c.args.scope.now in
    let node = c.in-Unary in
    let e = term c.deref-in-Unary.result.now in
    let operand = c.in_ok-operand-in-Unary in
    let is : term c.args.expression.now ≡ Unary node.at node.operator e = ap term node.is ∙ ap (λ (x : Expression). Unary node.at node.operator (term x)) (sym c.deref-in-Unary.ensures) in
    on_value c.end_unary.result (λ found. unary_known scope node.at node.operator e (term c.args.expression.now) operand.operand found is operand.ensures.known) c.end_unary.ensures.known

pub emit_form-returns-in_ok-operand-in-Unary-clause-longer : goal.emit_form-returns-in_ok-operand-in-Unary-clause-longer
emit_form-returns-in_ok-operand-in-Unary-clause-longer t c =
    on_error c.end_unary.result (behind c.args.code.now.items c.emit-in-Unary.new.code.items c.end_unary.new.code.items _ c.in_ok-operand-in-Unary.ensures.code) c.end_unary.ensures.longer

pub emit_form-returns-in_ok-operand-in-Cast-clause-code : goal.emit_form-returns-in_ok-operand-in-Cast-clause-code
emit_form-returns-in_ok-operand-in-Cast-clause-code t c =
    let scope = c.args.scope.now in
    let node = c.in-Cast in
    let e = term c.deref-in-Cast.result.now in
    let operand = c.in_ok-operand-in-Cast in
    let is : term c.args.expression.now ≡ Cast node.at node.target e = ap term node.is ∙ ap (λ (x : Expression). Cast node.at node.target (term x)) (sym c.deref-in-Cast.ensures) in
    on_ok c.end_cast.result (cast_laid scope c.args.level.0 node.at node.target e (term c.args.expression.now) c.args.code.now.items c.emit-in-Cast.new.code.items c.end_cast.new.code.items operand.operand is operand.ensures.code operand.ensures.known) c.end_cast.ensures.code

pub emit_form-returns-in_ok-operand-in-Cast-clause-known : goal.emit_form-returns-in_ok-operand-in-Cast-clause-known
emit_form-returns-in_ok-operand-in-Cast-clause-known t c =
    let scope = c.args.scope.now in
    let node = c.in-Cast in
    let e = term c.deref-in-Cast.result.now in
    let operand = c.in_ok-operand-in-Cast in
    let is : term c.args.expression.now ≡ Cast node.at node.target e = ap term node.is ∙ ap (λ (x : Expression). Cast node.at node.target (term x)) (sym c.deref-in-Cast.ensures) in
    on_value c.end_cast.result (λ found. cast_known scope node.at node.target e (term c.args.expression.now) operand.operand found is operand.ensures.known) c.end_cast.ensures.known

pub emit_form-returns-in_ok-operand-in-Cast-clause-longer : goal.emit_form-returns-in_ok-operand-in-Cast-clause-longer
emit_form-returns-in_ok-operand-in-Cast-clause-longer t c =
    on_error c.end_cast.result (behind c.args.code.now.items c.emit-in-Cast.new.code.items c.end_cast.new.code.items _ c.in_ok-operand-in-Cast.ensures.code) c.end_cast.ensures.longer

pub emit_form-returns-in_ok-arguments-in-Call-clause-code : goal.emit_form-returns-in_ok-arguments-in-Call-clause-code
emit_form-returns-in_ok-arguments-in-Call-clause-code t c =
    let scope = c.args.scope.now in
    let node = c.in-Call in
    let es = terms c.as_slice-given.result.now in
    let found = c.in_ok-arguments-in-Call in
    let is : term c.args.expression.now ≡ Call node.at node.name es = ap term node.is ∙ calls node.at node.name node.arguments ∙ ap (λ (xs : List Expression). Call node.at node.name (terms xs)) (sym c.as_slice-given.ensures.value) in
    on_ok c.end_call.result (call_laid scope c.args.level.0 node.at node.name es (term c.args.expression.now) c.args.code.now.items c.emit_arguments.new.code.items c.end_call.new.code.items c.built_in_named.result found.arguments.kind (numbers found.arguments.registers.items)
    is c.built_in_named.ensures found.ensures.code found.ensures.kind found.ensures.registers) c.end_call.ensures.code

pub emit_form-returns-in_ok-arguments-in-Call-clause-known : goal.emit_form-returns-in_ok-arguments-in-Call-clause-known
emit_form-returns-in_ok-arguments-in-Call-clause-known t c =
    let scope = c.args.scope.now in
    let node = c.in-Call in
    let es = terms c.as_slice-given.result.now in
    let found = c.in_ok-arguments-in-Call in
    let is : term c.args.expression.now ≡ Call node.at node.name es = ap term node.is ∙ calls node.at node.name node.arguments ∙ ap (λ (xs : List Expression). Call node.at node.name (terms xs)) (sym c.as_slice-given.ensures.value) in
    on_value c.end_call.result (λ ended. call_known scope node.at node.name es (term c.args.expression.now) c.built_in_named.result found.arguments.kind (constants_in found.arguments.known.items) ended
    is c.built_in_named.ensures found.ensures.kind found.ensures.constants) c.end_call.ensures.known

pub emit_form-returns-in_ok-arguments-in-Call-clause-longer : goal.emit_form-returns-in_ok-arguments-in-Call-clause-longer
emit_form-returns-in_ok-arguments-in-Call-clause-longer t c =
    on_error c.end_call.result (behind c.args.code.now.items c.emit_arguments.new.code.items c.end_call.new.code.items _ c.in_ok-arguments-in-Call.ensures.code) c.end_call.ensures.longer

pub emit_form-returns-in_ok-second-in-Binary-clause-code : goal.emit_form-returns-in_ok-second-in-Binary-clause-code
emit_form-returns-in_ok-second-in-Binary-clause-code t c =
    let scope = c.args.scope.now in
    let level = c.args.level.0 in
    let old = c.args.code.now.items in
    let node = c.in-Binary in
    let above = c.level_at.result.0 in
    let left = term c.deref-in-Binary.result.now in
    let right = term c.deref-in-Binary-2.result.now in
    let first = c.in_ok-first-in-Binary in
    let second = c.in_ok-second-in-Binary in
    let begun = c.in_ok-place-in-Binary in
    let is : term c.args.expression.now ≡ Binary node.at node.operator left right = ap term node.is
    ∙ ap₂ (λ (x y : Expression). Binary node.at node.operator (term x) (term y)) (sym c.deref-in-Binary.ensures) (sym c.deref-in-Binary-2.ensures) in
    on_ok c.end_infix.result (binary_laid scope level node.at node.operator left right (term c.args.expression.now) old c.emit-in-Binary.new.code.items c.begin_infix.new.code.items c.emit-in-Binary-2.new.code.items c.end_infix.new.code.items
    first.first second.second above begun.place is first.ensures.code first.ensures.known begun.ensures.code begun.ensures.place c.level_at.ensures second.ensures.code second.ensures.known) c.end_infix.ensures.code

pub emit_form-returns-in_ok-second-in-Binary-clause-known : goal.emit_form-returns-in_ok-second-in-Binary-clause-known
emit_form-returns-in_ok-second-in-Binary-clause-known t c =
    let scope = c.args.scope.now in
    let level = c.args.level.0 in
    let old = c.args.code.now.items in
    let node = c.in-Binary in
    let above = c.level_at.result.0 in
    let left = term c.deref-in-Binary.result.now in
    let right = term c.deref-in-Binary-2.result.now in
    let first = c.in_ok-first-in-Binary in
    let second = c.in_ok-second-in-Binary in
    let begun = c.in_ok-place-in-Binary in
    let is : term c.args.expression.now ≡ Binary node.at node.operator left right = ap term node.is
    ∙ ap₂ (λ (x y : Expression). Binary node.at node.operator (term x) (term y)) (sym c.deref-in-Binary.ensures) (sym c.deref-in-Binary-2.ensures) in
    on_value c.end_infix.result (λ found. binary_known scope node.at node.operator left right (term c.args.expression.now) first.first second.second found is first.ensures.known second.ensures.known) c.end_infix.ensures.known

pub emit_form-returns-in_ok-second-in-Binary-clause-longer : goal.emit_form-returns-in_ok-second-in-Binary-clause-longer
emit_form-returns-in_ok-second-in-Binary-clause-longer t c =
    let old = c.args.code.now.items in
    let one = c.emit-in-Binary.new.code.items in
    let two = c.begin_infix.new.code.items in
    let three = c.emit-in-Binary-2.new.code.items in
    let new = c.end_infix.new.code.items in
    on_error c.end_infix.result (λ longer. behind old one new _ c.in_ok-first-in-Binary.ensures.code (behind one two new _ c.in_ok-place-in-Binary.ensures.code (behind two three new _ c.in_ok-second-in-Binary.ensures.code longer))) c.end_infix.ensures.longer

pub emit_form-end_infix-requires-clause-near : goal.emit_form-end_infix-requires-clause-near
emit_form-end_infix-requires-clause-near t c =
    let scope = c.args.scope.now in
    let level = c.level_at.result.0 in
    let right = term c.deref-in-Binary-2.result.now in
    let before = c.begin_infix.new.code.items in
    let size = ap length c.in_ok-second-in-Binary.ensures.code ∙ length-append before (expr_code scope level right) in
    let short = (expr_short [] scope level right).most in
    let place = c.in_ok-place-in-Binary.ensures.place in
    let whole = ap (λ x. (term_size [] (term x)).nodes) c.in-Binary.is in
    let inner = ap (λ x. (term_size [] (term x)).nodes) c.deref-in-Binary-2.ensures in
    let low = c.requires.low in
    omega (arith, size, short, place, whole, inner, low)

pub emit_form-returns-in_ok-otherwise-in-Choice-clause-code : goal.emit_form-returns-in_ok-otherwise-in-Choice-clause-code
emit_form-returns-in_ok-otherwise-in-Choice-clause-code t c =
    let scope = c.args.scope.now in
    let level = c.args.level.0 in
    let old = c.args.code.now.items in
    let node = c.in-Choice in
    let e = term c.deref-in-Choice.result.now in
    let d = term c.deref-in-Choice-2.result.now in
    let f = term c.deref-in-Choice-3.result.now in
    let condition = c.in_ok-condition-in-Choice in
    let chosen = c.in_ok-chosen-in-Choice in
    let otherwise = c.in_ok-otherwise-in-Choice in
    let first = c.in_ok-first-in-Choice in
    let second = c.in_ok-second-in-Choice in
    let is : term c.args.expression.now ≡ Choice node.at e d f = ap term node.is
    ∙ ap (λ (x : Expression). Choice node.at (term x) (term node.chosen.value) (term node.otherwise.value)) (sym c.deref-in-Choice.ensures)
    ∙ ap₂ (λ (x y : Expression). Choice node.at e (term x) (term y)) (sym c.deref-in-Choice-2.ensures) (sym c.deref-in-Choice-3.ensures) in
    let one = c.emit-in-Choice.new.code.items in
    let two = c.begin_choice.new.code.items in
    let three = c.emit-in-Choice-2.new.code.items in
    let four = c.between_branches.new.code.items in
    let five = c.emit-in-Choice-3.new.code.items in
    on_ok c.end_choice.result (choice_laid scope level node.at e d f (term c.args.expression.now) old one two three four five c.end_choice.new.code.items condition.condition chosen.chosen otherwise.otherwise first.first second.second
    is condition.ensures.code condition.ensures.known first.ensures.code first.ensures.place chosen.ensures.code chosen.ensures.known second.ensures.code second.ensures.place otherwise.ensures.code otherwise.ensures.known) c.end_choice.ensures.code

pub emit_form-returns-in_ok-otherwise-in-Choice-clause-known : goal.emit_form-returns-in_ok-otherwise-in-Choice-clause-known
emit_form-returns-in_ok-otherwise-in-Choice-clause-known t c =
    let scope = c.args.scope.now in
    let level = c.args.level.0 in
    let old = c.args.code.now.items in
    let node = c.in-Choice in
    let e = term c.deref-in-Choice.result.now in
    let d = term c.deref-in-Choice-2.result.now in
    let f = term c.deref-in-Choice-3.result.now in
    let condition = c.in_ok-condition-in-Choice in
    let chosen = c.in_ok-chosen-in-Choice in
    let otherwise = c.in_ok-otherwise-in-Choice in
    let first = c.in_ok-first-in-Choice in
    let second = c.in_ok-second-in-Choice in
    let is : term c.args.expression.now ≡ Choice node.at e d f = ap term node.is
    ∙ ap (λ (x : Expression). Choice node.at (term x) (term node.chosen.value) (term node.otherwise.value)) (sym c.deref-in-Choice.ensures)
    ∙ ap₂ (λ (x y : Expression). Choice node.at e (term x) (term y)) (sym c.deref-in-Choice-2.ensures) (sym c.deref-in-Choice-3.ensures) in
    on_value c.end_choice.result (λ found. choice_known scope node.at e d f (term c.args.expression.now) condition.condition chosen.chosen otherwise.otherwise found is condition.ensures.known chosen.ensures.known otherwise.ensures.known) c.end_choice.ensures.known

pub emit_form-returns-in_ok-otherwise-in-Choice-clause-longer : goal.emit_form-returns-in_ok-otherwise-in-Choice-clause-longer
emit_form-returns-in_ok-otherwise-in-Choice-clause-longer t c =
    let old = c.args.code.now.items in
    let one = c.emit-in-Choice.new.code.items in
    let two = c.begin_choice.new.code.items in
    let three = c.emit-in-Choice-2.new.code.items in
    let four = c.between_branches.new.code.items in
    let five = c.emit-in-Choice-3.new.code.items in
    let new = c.end_choice.new.code.items in
    on_error c.end_choice.result (λ longer. behind old one new _ c.in_ok-condition-in-Choice.ensures.code (behind one two new _ c.in_ok-first-in-Choice.ensures.code (behind two three new _ c.in_ok-chosen-in-Choice.ensures.code
    (behind three four new _ c.in_ok-second-in-Choice.ensures.code (behind four five new _ c.in_ok-otherwise-in-Choice.ensures.code longer))))) c.end_choice.ensures.longer

pub emit_form-end_choice-requires-clause-near : goal.emit_form-end_choice-requires-clause-near
emit_form-end_choice-requires-clause-near t c =
    let scope = c.args.scope.now in
    let level = c.args.level.0 in
    let begun = c.begin_choice.new.code.items in
    let one = c.emit-in-Choice-2.new.code.items in
    let two = c.between_branches.new.code.items in
    let chosen = term c.deref-in-Choice-2.result.now in
    let otherwise = term c.deref-in-Choice-3.result.now in
    let size_one = ap length c.in_ok-chosen-in-Choice.ensures.code ∙ length-append begun (expr_code scope level chosen) in
    let size_two : length two ≡ length one + 2 = ap length c.in_ok-second-in-Choice.ensures.code ∙ length-append one _ in
    let size_all = ap length c.in_ok-otherwise-in-Choice.ensures.code ∙ length-append two (expr_code scope level otherwise) in
    let short_one = (expr_short [] scope level chosen).most in
    let short_two = (expr_short [] scope level otherwise).most in
    let first = c.in_ok-first-in-Choice.ensures.place in
    let whole = ap (λ x. (term_size [] (term x)).nodes) c.in-Choice.is in
    let inner_one = ap (λ x. (term_size [] (term x)).nodes) c.deref-in-Choice-2.ensures in
    let inner_two = ap (λ x. (term_size [] (term x)).nodes) c.deref-in-Choice-3.ensures in
    let low = c.requires.low in
    omega (arith, size_one, size_two, size_all, short_one, short_two, first, whole, inner_one, inner_two, low)

pub emit_form-levels_suffice-requires : goal.emit_form-levels_suffice-requires
emit_form-levels_suffice-requires t c =
    let called = c.in-Call in
    let whole = ap (λ x. (term_size [] x).nodes) (ap term called.is ∙ calls called.at called.name called.arguments) in
    let inner = ap (λ (xs : List Expression). (terms_size [] (terms xs)).nodes) c.as_slice-given.ensures.value in
    let low = c.requires.low in
    omega (arith, whole, inner, low)

pub emit_arguments-level_at-above-requires : goal.emit_arguments-level_at-above-requires
emit_arguments-level_at-above-requires t c =
    let room = argument_room [] c.args.arguments.now c.loop-i.i c.index-arguments-i.result c.loop-i-test.true c.index-arguments-i.is in
    let low = c.requires.low in
    omega (arith, room, low)

pub emit_arguments-register_at-requires : goal.emit_arguments-register_at-requires
emit_arguments-register_at-requires t c =
    let room = argument_room [] c.args.arguments.now c.loop-i.i c.index-arguments-i.result c.loop-i-test.true c.index-arguments-i.is in
    let above = c.level_at-above.ensures in
    let low = c.requires.low in
    omega (arith, room, above, low)

pub emit_arguments-level_suffices-requires : goal.emit_arguments-level_suffices-requires
emit_arguments-level_suffices-requires t c =
    let room = argument_room [] c.args.arguments.now c.loop-i.i c.index-arguments-i.result c.loop-i-test.true c.index-arguments-i.is in
    let above = c.level_at-above.ensures in
    let low = c.requires.low in
    omega (arith, room, above, low)

pub emit-returns-in_err-known-clause-code : goal.emit-returns-in_err-known-clause-code
emit-returns-in_err-known-clause-code t c =
    none_ok _ _ c.from_residual.result c.from_residual.ensures.1

pub emit-returns-in_err-known-clause-known : goal.emit-returns-in_err-known-clause-known
emit-returns-in_err-known-clause-known t c =
    none_value _ _ c.from_residual.result c.from_residual.ensures.1

pub emit-returns-in_err-known-clause-longer : goal.emit-returns-in_err-known-clause-longer
emit-returns-in_err-known-clause-longer t c =
    on_err c.from_residual.result c.in_err-known.ensures.longer

pub emit_form-returns-in_err-kind-in-ElementAddress-clause-code : goal.emit_form-returns-in_err-kind-in-ElementAddress-clause-code
emit_form-returns-in_err-kind-in-ElementAddress-clause-code t c =
    none_ok _ _ c.from_residual.result c.from_residual.ensures.1

pub emit_form-returns-in_err-kind-in-ElementAddress-clause-known : goal.emit_form-returns-in_err-kind-in-ElementAddress-clause-known
emit_form-returns-in_err-kind-in-ElementAddress-clause-known t c =
    none_value _ _ c.from_residual.result c.from_residual.ensures.1

pub emit_form-returns-in_err-kind-in-ElementAddress-clause-longer : goal.emit_form-returns-in_err-kind-in-ElementAddress-clause-longer
emit_form-returns-in_err-kind-in-ElementAddress-clause-longer t c =
    on_err c.from_residual.result c.in_err-kind-in-ElementAddress.ensures.longer

pub emit_form-returns-in_err-pointer-in-Dereference-clause-code : goal.emit_form-returns-in_err-pointer-in-Dereference-clause-code
emit_form-returns-in_err-pointer-in-Dereference-clause-code t c =
    none_ok _ _ c.from_residual-in_err-pointer-in-Dereference.result c.from_residual-in_err-pointer-in-Dereference.ensures.1

pub emit_form-returns-in_err-pointer-in-Dereference-clause-known : goal.emit_form-returns-in_err-pointer-in-Dereference-clause-known
emit_form-returns-in_err-pointer-in-Dereference-clause-known t c =
    none_value _ _ c.from_residual-in_err-pointer-in-Dereference.result c.from_residual-in_err-pointer-in-Dereference.ensures.1

pub emit_form-returns-in_err-pointer-in-Dereference-clause-longer : goal.emit_form-returns-in_err-pointer-in-Dereference-clause-longer
emit_form-returns-in_err-pointer-in-Dereference-clause-longer t c =
    on_err c.from_residual-in_err-pointer-in-Dereference.result c.in_err-pointer-in-Dereference.ensures.longer

pub emit_form-returns-in_err-arguments-in-Call-clause-code : goal.emit_form-returns-in_err-arguments-in-Call-clause-code
emit_form-returns-in_err-arguments-in-Call-clause-code t c =
    none_ok _ _ c.from_residual-in_err-arguments-in-Call.result c.from_residual-in_err-arguments-in-Call.ensures.1

pub emit_form-returns-in_err-arguments-in-Call-clause-known : goal.emit_form-returns-in_err-arguments-in-Call-clause-known
emit_form-returns-in_err-arguments-in-Call-clause-known t c =
    none_value _ _ c.from_residual-in_err-arguments-in-Call.result c.from_residual-in_err-arguments-in-Call.ensures.1

pub emit_form-returns-in_err-arguments-in-Call-clause-longer : goal.emit_form-returns-in_err-arguments-in-Call-clause-longer
emit_form-returns-in_err-arguments-in-Call-clause-longer t c =
    on_err c.from_residual-in_err-arguments-in-Call.result c.in_err-arguments-in-Call.ensures.longer

pub emit_form-returns-in_err-operand-in-Unary-clause-code : goal.emit_form-returns-in_err-operand-in-Unary-clause-code
emit_form-returns-in_err-operand-in-Unary-clause-code t c =
    none_ok _ _ c.from_residual-in_err-operand-in-Unary.result c.from_residual-in_err-operand-in-Unary.ensures.1

pub emit_form-returns-in_err-operand-in-Unary-clause-known : goal.emit_form-returns-in_err-operand-in-Unary-clause-known
emit_form-returns-in_err-operand-in-Unary-clause-known t c =
    none_value _ _ c.from_residual-in_err-operand-in-Unary.result c.from_residual-in_err-operand-in-Unary.ensures.1

pub emit_form-returns-in_err-operand-in-Unary-clause-longer : goal.emit_form-returns-in_err-operand-in-Unary-clause-longer
emit_form-returns-in_err-operand-in-Unary-clause-longer t c =
    on_err c.from_residual-in_err-operand-in-Unary.result c.in_err-operand-in-Unary.ensures.longer

pub emit_form-returns-in_err-operand-in-Cast-clause-code : goal.emit_form-returns-in_err-operand-in-Cast-clause-code
emit_form-returns-in_err-operand-in-Cast-clause-code t c =
    none_ok _ _ c.from_residual-in_err-operand-in-Cast.result c.from_residual-in_err-operand-in-Cast.ensures.1

pub emit_form-returns-in_err-operand-in-Cast-clause-known : goal.emit_form-returns-in_err-operand-in-Cast-clause-known
emit_form-returns-in_err-operand-in-Cast-clause-known t c =
    none_value _ _ c.from_residual-in_err-operand-in-Cast.result c.from_residual-in_err-operand-in-Cast.ensures.1

pub emit_form-returns-in_err-operand-in-Cast-clause-longer : goal.emit_form-returns-in_err-operand-in-Cast-clause-longer
emit_form-returns-in_err-operand-in-Cast-clause-longer t c =
    on_err c.from_residual-in_err-operand-in-Cast.result c.in_err-operand-in-Cast.ensures.longer

pub emit_form-returns-in_err-first-in-Binary-clause-code : goal.emit_form-returns-in_err-first-in-Binary-clause-code
emit_form-returns-in_err-first-in-Binary-clause-code t c =
    none_ok _ _ c.from_residual-in_err-first-in-Binary.result c.from_residual-in_err-first-in-Binary.ensures.1

pub emit_form-returns-in_err-first-in-Binary-clause-known : goal.emit_form-returns-in_err-first-in-Binary-clause-known
emit_form-returns-in_err-first-in-Binary-clause-known t c =
    none_value _ _ c.from_residual-in_err-first-in-Binary.result c.from_residual-in_err-first-in-Binary.ensures.1

pub emit_form-returns-in_err-first-in-Binary-clause-longer : goal.emit_form-returns-in_err-first-in-Binary-clause-longer
emit_form-returns-in_err-first-in-Binary-clause-longer t c =
    on_err c.from_residual-in_err-first-in-Binary.result c.in_err-first-in-Binary.ensures.longer

pub emit_form-returns-in_err-place-in-Binary-clause-code : goal.emit_form-returns-in_err-place-in-Binary-clause-code
emit_form-returns-in_err-place-in-Binary-clause-code t c =
    none_ok _ _ c.from_residual-in_err-place-in-Binary.result c.from_residual-in_err-place-in-Binary.ensures.1

pub emit_form-returns-in_err-place-in-Binary-clause-known : goal.emit_form-returns-in_err-place-in-Binary-clause-known
emit_form-returns-in_err-place-in-Binary-clause-known t c =
    none_value _ _ c.from_residual-in_err-place-in-Binary.result c.from_residual-in_err-place-in-Binary.ensures.1

pub emit_form-returns-in_err-place-in-Binary-clause-longer : goal.emit_form-returns-in_err-place-in-Binary-clause-longer
emit_form-returns-in_err-place-in-Binary-clause-longer t c =
    on_err c.from_residual-in_err-place-in-Binary.result (behind c.args.code.now.items c.emit-in-Binary.new.code.items c.begin_infix.new.code.items _ c.in_ok-first-in-Binary.ensures.code c.in_err-place-in-Binary.ensures.longer)

pub emit_form-returns-in_err-second-in-Binary-clause-code : goal.emit_form-returns-in_err-second-in-Binary-clause-code
emit_form-returns-in_err-second-in-Binary-clause-code t c =
    none_ok _ _ c.from_residual-in_err-second-in-Binary.result c.from_residual-in_err-second-in-Binary.ensures.1

pub emit_form-returns-in_err-second-in-Binary-clause-known : goal.emit_form-returns-in_err-second-in-Binary-clause-known
emit_form-returns-in_err-second-in-Binary-clause-known t c =
    none_value _ _ c.from_residual-in_err-second-in-Binary.result c.from_residual-in_err-second-in-Binary.ensures.1

pub emit_form-returns-in_err-second-in-Binary-clause-longer : goal.emit_form-returns-in_err-second-in-Binary-clause-longer
emit_form-returns-in_err-second-in-Binary-clause-longer t c =
    on_err c.from_residual-in_err-second-in-Binary.result (behind c.args.code.now.items c.emit-in-Binary.new.code.items c.emit-in-Binary-2.new.code.items _ c.in_ok-first-in-Binary.ensures.code (behind c.emit-in-Binary.new.code.items c.begin_infix.new.code.items c.emit-in-Binary-2.new.code.items _ c.in_ok-place-in-Binary.ensures.code c.in_err-second-in-Binary.ensures.longer))

pub emit_form-returns-in_err-condition-in-Choice-clause-code : goal.emit_form-returns-in_err-condition-in-Choice-clause-code
emit_form-returns-in_err-condition-in-Choice-clause-code t c =
    none_ok _ _ c.from_residual-in_err-condition-in-Choice.result c.from_residual-in_err-condition-in-Choice.ensures.1

pub emit_form-returns-in_err-condition-in-Choice-clause-known : goal.emit_form-returns-in_err-condition-in-Choice-clause-known
emit_form-returns-in_err-condition-in-Choice-clause-known t c =
    none_value _ _ c.from_residual-in_err-condition-in-Choice.result c.from_residual-in_err-condition-in-Choice.ensures.1

pub emit_form-returns-in_err-condition-in-Choice-clause-longer : goal.emit_form-returns-in_err-condition-in-Choice-clause-longer
emit_form-returns-in_err-condition-in-Choice-clause-longer t c =
    on_err c.from_residual-in_err-condition-in-Choice.result c.in_err-condition-in-Choice.ensures.longer

pub emit_form-returns-in_err-first-in-Choice-clause-code : goal.emit_form-returns-in_err-first-in-Choice-clause-code
emit_form-returns-in_err-first-in-Choice-clause-code t c =
    none_ok _ _ c.from_residual-in_err-first-in-Choice.result c.from_residual-in_err-first-in-Choice.ensures.1

pub emit_form-returns-in_err-first-in-Choice-clause-known : goal.emit_form-returns-in_err-first-in-Choice-clause-known
emit_form-returns-in_err-first-in-Choice-clause-known t c =
    none_value _ _ c.from_residual-in_err-first-in-Choice.result c.from_residual-in_err-first-in-Choice.ensures.1

pub emit_form-returns-in_err-first-in-Choice-clause-longer : goal.emit_form-returns-in_err-first-in-Choice-clause-longer
emit_form-returns-in_err-first-in-Choice-clause-longer t c =
    on_err c.from_residual-in_err-first-in-Choice.result (behind c.args.code.now.items c.emit-in-Choice.new.code.items c.begin_choice.new.code.items _ c.in_ok-condition-in-Choice.ensures.code c.in_err-first-in-Choice.ensures.longer)

pub emit_form-returns-in_err-chosen-in-Choice-clause-code : goal.emit_form-returns-in_err-chosen-in-Choice-clause-code
emit_form-returns-in_err-chosen-in-Choice-clause-code t c =
    none_ok _ _ c.from_residual-in_err-chosen-in-Choice.result c.from_residual-in_err-chosen-in-Choice.ensures.1

pub emit_form-returns-in_err-chosen-in-Choice-clause-known : goal.emit_form-returns-in_err-chosen-in-Choice-clause-known
emit_form-returns-in_err-chosen-in-Choice-clause-known t c =
    none_value _ _ c.from_residual-in_err-chosen-in-Choice.result c.from_residual-in_err-chosen-in-Choice.ensures.1

pub emit_form-returns-in_err-chosen-in-Choice-clause-longer : goal.emit_form-returns-in_err-chosen-in-Choice-clause-longer
emit_form-returns-in_err-chosen-in-Choice-clause-longer t c =
    on_err c.from_residual-in_err-chosen-in-Choice.result (behind c.args.code.now.items c.emit-in-Choice.new.code.items c.emit-in-Choice-2.new.code.items _ c.in_ok-condition-in-Choice.ensures.code (behind c.emit-in-Choice.new.code.items c.begin_choice.new.code.items c.emit-in-Choice-2.new.code.items _ c.in_ok-first-in-Choice.ensures.code c.in_err-chosen-in-Choice.ensures.longer))

pub emit_form-returns-in_err-second-in-Choice-clause-code : goal.emit_form-returns-in_err-second-in-Choice-clause-code
emit_form-returns-in_err-second-in-Choice-clause-code t c =
    none_ok _ _ c.from_residual-in_err-second-in-Choice.result c.from_residual-in_err-second-in-Choice.ensures.1

pub emit_form-returns-in_err-second-in-Choice-clause-known : goal.emit_form-returns-in_err-second-in-Choice-clause-known
emit_form-returns-in_err-second-in-Choice-clause-known t c =
    none_value _ _ c.from_residual-in_err-second-in-Choice.result c.from_residual-in_err-second-in-Choice.ensures.1

pub emit_form-returns-in_err-second-in-Choice-clause-longer : goal.emit_form-returns-in_err-second-in-Choice-clause-longer
emit_form-returns-in_err-second-in-Choice-clause-longer t c =
    on_err c.from_residual-in_err-second-in-Choice.result (behind c.args.code.now.items c.emit-in-Choice.new.code.items c.between_branches.new.code.items _ c.in_ok-condition-in-Choice.ensures.code (behind c.emit-in-Choice.new.code.items c.begin_choice.new.code.items c.between_branches.new.code.items _ c.in_ok-first-in-Choice.ensures.code (behind c.begin_choice.new.code.items c.emit-in-Choice-2.new.code.items c.between_branches.new.code.items _ c.in_ok-chosen-in-Choice.ensures.code c.in_err-second-in-Choice.ensures.longer)))

pub emit_form-returns-in_err-otherwise-in-Choice-clause-code : goal.emit_form-returns-in_err-otherwise-in-Choice-clause-code
emit_form-returns-in_err-otherwise-in-Choice-clause-code t c =
    none_ok _ _ c.from_residual-in_err-otherwise-in-Choice.result c.from_residual-in_err-otherwise-in-Choice.ensures.1

pub emit_form-returns-in_err-otherwise-in-Choice-clause-known : goal.emit_form-returns-in_err-otherwise-in-Choice-clause-known
emit_form-returns-in_err-otherwise-in-Choice-clause-known t c =
    none_value _ _ c.from_residual-in_err-otherwise-in-Choice.result c.from_residual-in_err-otherwise-in-Choice.ensures.1

pub emit_form-returns-in_err-otherwise-in-Choice-clause-longer : goal.emit_form-returns-in_err-otherwise-in-Choice-clause-longer
emit_form-returns-in_err-otherwise-in-Choice-clause-longer t c =
    on_err c.from_residual-in_err-otherwise-in-Choice.result (behind c.args.code.now.items c.emit-in-Choice.new.code.items c.emit-in-Choice-3.new.code.items _ c.in_ok-condition-in-Choice.ensures.code (behind c.emit-in-Choice.new.code.items c.begin_choice.new.code.items c.emit-in-Choice-3.new.code.items _ c.in_ok-first-in-Choice.ensures.code (behind c.begin_choice.new.code.items c.emit-in-Choice-2.new.code.items c.emit-in-Choice-3.new.code.items _ c.in_ok-chosen-in-Choice.ensures.code (behind c.emit-in-Choice-2.new.code.items c.between_branches.new.code.items c.emit-in-Choice-3.new.code.items _ c.in_ok-second-in-Choice.ensures.code c.in_err-otherwise-in-Choice.ensures.longer))))

pub emit_element-returns-in_err-index-clause-code : goal.emit_element-returns-in_err-index-clause-code
emit_element-returns-in_err-index-clause-code t c =
    none_ok _ _ c.from_residual.result c.from_residual.ensures.1

pub emit_element-returns-in_err-index-clause-known : goal.emit_element-returns-in_err-index-clause-known
emit_element-returns-in_err-index-clause-known t c =
    none_value _ _ c.from_residual.result c.from_residual.ensures.1

pub emit_element-returns-in_err-index-clause-longer : goal.emit_element-returns-in_err-index-clause-longer
emit_element-returns-in_err-index-clause-longer t c =
    on_err c.from_residual.result c.in_err-index.ensures.longer

pub emit_element-returns-in_err-pointer-clause-code : goal.emit_element-returns-in_err-pointer-clause-code
emit_element-returns-in_err-pointer-clause-code t c =
    none_ok _ _ c.from_residual-in_err-pointer.result c.from_residual-in_err-pointer.ensures.1

pub emit_element-returns-in_err-pointer-clause-known : goal.emit_element-returns-in_err-pointer-clause-known
emit_element-returns-in_err-pointer-clause-known t c =
    none_value _ _ c.from_residual-in_err-pointer.result c.from_residual-in_err-pointer.ensures.1

pub emit_element-returns-in_err-pointer-clause-longer : goal.emit_element-returns-in_err-pointer-clause-longer
emit_element-returns-in_err-pointer-clause-longer t c =
    on_err c.from_residual-in_err-pointer.result c.in_err-pointer.ensures.longer

pub emit_address-returns-in_err-pointer-clause-code : goal.emit_address-returns-in_err-pointer-clause-code
emit_address-returns-in_err-pointer-clause-code t c =
    none_value _ _ c.from_residual.result c.from_residual.ensures.1

pub emit_address-returns-in_err-pointer-clause-kind : goal.emit_address-returns-in_err-pointer-clause-kind
emit_address-returns-in_err-pointer-clause-kind t c =
    none_value _ _ c.from_residual.result c.from_residual.ensures.1

pub emit_address-returns-in_err-pointer-clause-longer : goal.emit_address-returns-in_err-pointer-clause-longer
emit_address-returns-in_err-pointer-clause-longer t c =
    on_err c.from_residual.result c.in_err-pointer.ensures.longer

pub emit_address-returns-in_err-index-clause-code : goal.emit_address-returns-in_err-index-clause-code
emit_address-returns-in_err-index-clause-code t c =
    none_value _ _ c.from_residual-in_err-index.result c.from_residual-in_err-index.ensures.1

pub emit_address-returns-in_err-index-clause-kind : goal.emit_address-returns-in_err-index-clause-kind
emit_address-returns-in_err-index-clause-kind t c =
    none_value _ _ c.from_residual-in_err-index.result c.from_residual-in_err-index.ensures.1

pub emit_address-returns-in_err-index-clause-longer : goal.emit_address-returns-in_err-index-clause-longer
emit_address-returns-in_err-index-clause-longer t c =
    on_err c.from_residual-in_err-index.result (behind c.args.code.now.items c.variable.new.code.items c.emit.new.code.items _ c.in_ok-pointer.ensures.code c.in_err-index.ensures.longer)

pub emit_address-returns-in_err-offset-clause-code : goal.emit_address-returns-in_err-offset-clause-code
emit_address-returns-in_err-offset-clause-code t c =
    none_value _ _ c.from_residual-in_err-offset.result c.from_residual-in_err-offset.ensures.1

pub emit_address-returns-in_err-offset-clause-kind : goal.emit_address-returns-in_err-offset-clause-kind
emit_address-returns-in_err-offset-clause-kind t c =
    none_value _ _ c.from_residual-in_err-offset.result c.from_residual-in_err-offset.ensures.1

pub emit_address-returns-in_err-offset-clause-longer : goal.emit_address-returns-in_err-offset-clause-longer
emit_address-returns-in_err-offset-clause-longer t c =
    on_err c.from_residual-in_err-offset.result (behind c.args.code.now.items c.variable.new.code.items c.offset.new.code.items _ c.in_ok-pointer.ensures.code (behind c.variable.new.code.items c.emit.new.code.items c.offset.new.code.items _ c.in_ok-index.ensures.code c.in_err-offset.ensures.longer))
