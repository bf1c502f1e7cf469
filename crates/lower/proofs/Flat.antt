-- Code outside all loops, each of whose jumps ends inside it or at its end: that of expressions, typed or not.
use Rattle.std.proofs.Common.{ℕ, ◌+◌, ◌≤◌, Bool, true, false, if◌then◌else◌, Option, None, Some, List, [], ◌∷◌, ◌++◌, length, arith}
use Rattle.std.proofs.lemmas.List.{length-append}
use Rattle.clnum.specs.Integer.{Integer}
use Rattle.clmodel.specs.BuiltIns.{built_in}
use Rattle.clmodel.specs.Next.{is_private_array}
use Rattle.clmodel.specs.Tree.{Term, Number, Variable, Element, ElementAddress, Dereference, Call, Unary, Cast, Binary, Choice, Terms, NoTerm, ThenTerm, Target, TargetVariable, TargetElement, TargetDereference}
use Rattle.clmodel.specs.declared.setup.BuiltIn.{BuiltIn}
use Rattle.clmodel.specs.declared.setup.BuiltIn.TheVariants as built_in_function
use Rattle.clmodel.specs.declared.tree.InfixOperator.{InfixOperator}
use Rattle.clmodel.specs.declared.tree.InfixOperator.TheVariants.{Arithmetic, LogicalAnd, LogicalOr}
use Rattle.folding.specs.Constants.{constant_of}
use Rattle.regcode.specs.declared.instruction.Instruction.{Instruction}
use Rattle.regcode.specs.declared.instruction.Instruction.TheVariants as instruction
use Rattle.lower_expr.specs.Scope.{Scope, register_at, register_of}
use Rattle.lower_expr.specs.Expressions.{kind_of, kind_named, register_for, registers_for, folded, expr_code, terms_code, target_code, variable_code, element_code, infix_code, truth_code, branch_code, choice_code, call_code, count}
use Rattle.lower.specs.Accepted.{Stays, Flat}

stays_longer : (i : Instruction) (n m : ℕ) → n ≤ m → Stays i n → Stays i m
stays_longer (instruction.Jump by) n m more h = omega (arith, more, h)
stays_longer (instruction.JumpIfZero register by) n m more h = omega (arith, more, h)
stays_longer _ n m more h = h

pub flat_both : (xs ys : List Instruction) → Flat xs → Flat ys → Flat (xs ++ ys)
flat_both [] ys a b = b
flat_both (x ∷ xs) ys a b =
    let all = length-append xs ys in
    (stays_longer x (length xs) (length (xs ++ ys)) (omega (arith, all)) a.0, flat_both xs ys a.1 b)

pub variable_flat : (to : ℕ) (from : Option ℕ) (name : ℕ) → Flat (variable_code to from name)
variable_flat to None name = (tt, (tt, tt))
variable_flat to (Some from) name = (tt, tt)

pub element_flat : (to : ℕ) (from : Option ℕ) (name : ℕ) (index : List Instruction) (register : ℕ) → Flat index → Flat (element_code to from name index register)
element_flat to from name index register flat =
    flat_both (variable_code to from name) (index ++ instruction.Offset to to register ∷ []) (variable_flat to from name)
    (flat_both index (instruction.Offset to to register ∷ []) flat (tt, tt))

pub either_flat : (b : Bool) (xs ys : List Instruction) → Flat xs → Flat ys → Flat (if b then xs else ys)
either_flat true xs ys h g = h
either_flat false xs ys h g = g

truth_flat : (to : ℕ) → Flat (truth_code to)
truth_flat to = (tt, (omega arith, (tt, tt)))

infix_flat : (operator : InfixOperator) (to first second : ℕ) (right : List Instruction) → Flat right → Flat (infix_code operator to first second right)
infix_flat (Arithmetic operator) to first second right flat = flat_both right (instruction.Binary to operator first second ∷ []) flat (tt, tt)
infix_flat LogicalAnd to first second right flat =
    let rest : List Instruction = instruction.JumpIfZero second 2 ∷ truth_code to in
    let all = length-append right rest in
    (omega (arith, all), flat_both right rest flat (omega arith, truth_flat to))
infix_flat LogicalOr to first second right flat =
    let rest : List Instruction = instruction.JumpIfZero second 2 ∷ truth_code to in
    let all = length-append right rest in
    (omega (arith, all), (omega (arith, all), flat_both right rest flat (omega arith, truth_flat to)))

choice_flat : (condition : ℕ) (chosen otherwise : List Instruction) → Flat chosen → Flat otherwise → Flat (choice_code condition chosen otherwise)
choice_flat condition chosen otherwise a b =
    let rest : List Instruction = instruction.Jump (length otherwise) ∷ otherwise in
    let all = length-append chosen rest in
    (omega (arith, all), flat_both chosen rest a (omega arith, b))

pub call_flat : (function : Option BuiltIn) (to : ℕ) (numbers : List ℕ) → Flat (call_code function to numbers)
call_flat None to numbers = (tt, tt)
call_flat (Some built_in_function.WorkDim) to [] = (tt, tt)
call_flat (Some built_in_function.WorkDim) to (a ∷ numbers) = (tt, tt)
call_flat (Some (built_in_function.WorkItem function)) to [] = (tt, tt)
call_flat (Some (built_in_function.WorkItem function)) to (a ∷ []) = (tt, tt)
call_flat (Some (built_in_function.WorkItem function)) to (a ∷ b ∷ numbers) = (tt, tt)
call_flat (Some (built_in_function.Integer function)) to [] = (tt, tt)
call_flat (Some (built_in_function.Integer function)) to (a ∷ []) = (tt, tt)
call_flat (Some (built_in_function.Integer function)) to (a ∷ b ∷ []) = (tt, tt)
call_flat (Some (built_in_function.Integer function)) to (a ∷ b ∷ c ∷ numbers) = (tt, tt)
call_flat (Some (built_in_function.Atomic function)) to [] = (tt, tt)
call_flat (Some (built_in_function.Atomic function)) to (a ∷ []) = (tt, tt)
call_flat (Some (built_in_function.Atomic function)) to (a ∷ b ∷ []) = (tt, tt)
call_flat (Some (built_in_function.Atomic function)) to (a ∷ b ∷ c ∷ []) = (tt, tt)
call_flat (Some (built_in_function.Atomic function)) to (a ∷ b ∷ c ∷ d ∷ numbers) = (tt, tt)

folded_flat : (o : Option Integer) (level : ℕ) (code : List Instruction) → Flat code → Flat (folded o level code)
folded_flat (Some v) level code h = (tt, tt)
folded_flat None level code h = h

mutual
  pub expression_flat : (scope : Scope) (level : ℕ) (e : Term) → Flat (expr_code scope level e)
  expression_flat scope level (Number at value) = (tt, tt)
  expression_flat scope level (Variable at name) = variable_flat (register_at level (kind_named scope name)) (register_of scope name) name
  expression_flat scope level (Element at name index) =
      either_flat (is_private_array scope.variables name) _ _
      (flat_both (expr_code scope level index) _ (expression_flat scope level index) (tt, tt))
      (flat_both (element_code (register_at level (kind_named scope name)) (register_of scope name) name (expr_code scope (level + 1) index) (register_for scope (level + 1) index)) _
      (element_flat (register_at level (kind_named scope name)) (register_of scope name) name (expr_code scope (level + 1) index) (register_for scope (level + 1) index) (expression_flat scope (level + 1) index))
      (tt, tt))
  expression_flat scope level (ElementAddress at name_at name index) =
      element_flat (register_at level (kind_named scope name)) (register_of scope name) name (expr_code scope (level + 1) index) (register_for scope (level + 1) index) (expression_flat scope (level + 1) index)
  expression_flat scope level (Dereference at pointer) =
      flat_both (expr_code scope level pointer) (instruction.Load (register_for scope level (Dereference at pointer)) (register_for scope level pointer) ∷ []) (expression_flat scope level pointer) (tt, tt)
  expression_flat scope level (Call at name arguments) =
      folded_flat (constant_of scope.variables (Call at name arguments)) level _
      (flat_both (terms_code scope level arguments) (call_code (built_in name) (register_for scope level (Call at name arguments)) (registers_for scope level arguments))
      (terms_flat scope level arguments) (call_flat (built_in name) (register_for scope level (Call at name arguments)) (registers_for scope level arguments)))
  expression_flat scope level (Unary at operator operand) =
      folded_flat (constant_of scope.variables (Unary at operator operand)) level _
      (flat_both (expr_code scope level operand) (instruction.Unary (register_for scope level (Unary at operator operand)) operator (register_for scope level operand) ∷ []) (expression_flat scope level operand) (tt, tt))
  expression_flat scope level (Cast at target operand) =
      folded_flat (constant_of scope.variables (Cast at target operand)) level _
      (flat_both (expr_code scope level operand) (instruction.Convert (register_for scope level (Cast at target operand)) (register_for scope level operand) target ∷ []) (expression_flat scope level operand) (tt, tt))
  expression_flat scope level (Binary at operator left right) =
      let to = register_for scope level (Binary at operator left right) in
      folded_flat (constant_of scope.variables (Binary at operator left right)) level _
      (flat_both (expr_code scope level left) (infix_code operator to (register_for scope level left) (register_for scope (level + 1) right) (expr_code scope (level + 1) right))
      (expression_flat scope level left)
      (infix_flat operator to (register_for scope level left) (register_for scope (level + 1) right) (expr_code scope (level + 1) right) (expression_flat scope (level + 1) right)))
  expression_flat scope level (Choice at condition chosen otherwise) =
      let to = register_for scope level (Choice at condition chosen otherwise) in
      let first = branch_code to (expr_code scope level chosen) (register_for scope level chosen) (kind_of scope otherwise) in
      let second = branch_code to (expr_code scope level otherwise) (register_for scope level otherwise) (kind_of scope chosen) in
      folded_flat (constant_of scope.variables (Choice at condition chosen otherwise)) level _
      (flat_both (expr_code scope level condition) (choice_code (register_for scope level condition) first second) (expression_flat scope level condition)
      (choice_flat (register_for scope level condition) first second
      (flat_both (expr_code scope level chosen) _ (expression_flat scope level chosen) (tt, tt))
      (flat_both (expr_code scope level otherwise) _ (expression_flat scope level otherwise) (tt, tt))))

  pub terms_flat : (scope : Scope) (level : ℕ) (es : Terms) → Flat (terms_code scope level es)
  terms_flat scope level NoTerm = tt
  terms_flat scope level (ThenTerm es e) = flat_both (terms_code scope level es) (expr_code scope (level + count es) e) (terms_flat scope level es) (expression_flat scope (level + count es) e)

pub target_flat : (scope : Scope) (level : ℕ) (place : Target) → Flat (target_code scope level place)
target_flat scope level (TargetVariable at name) = tt
target_flat scope level (TargetElement at name index) =
    either_flat (is_private_array scope.variables name) _ _ (expression_flat scope level index)
    (element_flat (register_at level (kind_named scope name)) (register_of scope name) name (expr_code scope (level + 1) index) (register_for scope (level + 1) index) (expression_flat scope (level + 1) index))
target_flat scope level (TargetDereference at pointer) =
    flat_both (expr_code scope level pointer) (instruction.MovePointer (register_for scope level pointer) (register_for scope level pointer) ∷ []) (expression_flat scope level pointer) (tt, tt)
