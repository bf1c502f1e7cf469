-- The length of the code of an expression depends on the variables in scope alone: neither on the level of its value
-- nor on that of the outermost variable.
use Rattle.std.proofs.Common.{◌≡◌, ℕ, suc, ◌+◌, ◌==◌, Bool, true, false, Option, None, Some, List, [], ◌∷◌, ◌++◌, length, if◌then◌else◌, refl, sym, ap, ap₂, ◌∙◌}
use Rattle.std.proofs.lemmas.List.{length-append}
use Rattle.clnum.specs.Integer.{Integer}
use Rattle.clmodel.specs.BuiltIns.{built_in}
use Rattle.clmodel.specs.Next.{Variables, is_private_array, is_update}
use Rattle.clmodel.specs.Tree.{Term, Number, Variable, Element, ElementAddress, Dereference, Call, Unary, Cast, Binary, Choice, Terms, NoTerm, ThenTerm, Target, TargetVariable, TargetElement, TargetDereference}
use Rattle.clmodel.specs.declared.setup.AtomicFunction.{AtomicFunction}
use Rattle.clmodel.specs.declared.setup.BuiltIn.{BuiltIn}
use Rattle.clmodel.specs.declared.setup.BuiltIn.TheVariants as built_in_function
use Rattle.clmodel.specs.declared.tree.InfixOperator.{InfixOperator}
use Rattle.clmodel.specs.declared.tree.InfixOperator.TheVariants.{Arithmetic, LogicalAnd, LogicalOr}
use Rattle.folding.specs.Constants.{constant_of}
use Rattle.regcode.specs.declared.instruction.Instruction.{Instruction}
use Rattle.lower_expr.specs.Scope.{Scope, register_in}
use Rattle.lower_expr.specs.Expressions.{folded, expr_code, terms_code, target_code, kind_of, registers_for, variable_code, element_code, truth_code, infix_code, choice_code, call_code, update_code, call_only_code}

-- lists of one length
pub record SameLength {A : Type 0} (xs ys : List A) : Type 0 where
  pub same : length xs ≡ length ys

-- one element each
pub single : {A : Type 0} {x y : A} → SameLength (x ∷ []) (y ∷ [])
single = record { same = refl }

pub longer : {A : Type 0} {x y : A} {xs ys : List A} → SameLength xs ys → SameLength (x ∷ xs) (y ∷ ys)
longer h = record { same = ap (λ n. suc n) h.same }

pub joined : {A : Type 0} {xs ys xs2 ys2 : List A} → SameLength xs xs2 → SameLength ys ys2 → SameLength (xs ++ ys) (xs2 ++ ys2)
joined {xs = xs} {ys = ys} {xs2 = xs2} {ys2 = ys2} h k =
    record { same = length-append xs ys ∙ ap₂ (λ m n. m + n) h.same k.same ∙ sym (length-append xs2 ys2) }

pub chosen : {A : Type 0} (h : Bool) {xs ys xs2 ys2 : List A} → SameLength xs xs2 → SameLength ys ys2 → SameLength (if h then xs else ys) (if h then xs2 else ys2)
chosen true k l = k
chosen false k l = l

-- whether there is a register
abbrev pub Alike : Option ℕ → Option ℕ → Type 0
Alike None None = Unit {0}
Alike (Some i) (Some j) = Unit {0}
Alike _ _ = ⊥

alike_chosen : (h : Bool) (i j : ℕ) (o p : Option ℕ) → Alike o p
    → Alike (elim h as (λ _. Option ℕ) [ true ↦ Some i | false ↦ o ]) (elim h as (λ _. Option ℕ) [ true ↦ Some j | false ↦ p ])
alike_chosen true i j o p h = tt
alike_chosen false i j o p h = h

-- a name has a register at one level of the outermost variable where it has one at another
pub registered : (base other : ℕ) (vs : Variables) (name : ℕ) → Alike (register_in base vs name) (register_in other vs name)
registered base other [] name = tt
registered base other (v ∷ vs) name = alike_chosen (name == v.name) _ _ _ _ (registered base other vs name)

pub variable_same : (to to2 : ℕ) (o p : Option ℕ) (name : ℕ) → Alike o p → SameLength (variable_code to o name) (variable_code to2 p name)
variable_same to to2 None None name h = record { same = refl }
variable_same to to2 (Some i) (Some j) name h = record { same = refl }
variable_same to to2 None (Some j) name h = absurd h
variable_same to to2 (Some i) None name h = absurd h

-- a built-in function is one instruction, whatever its arguments
pub call_length : (function : Option BuiltIn) (to : ℕ) (numbers : List ℕ) → length (call_code function to numbers) ≡ 1
call_length None to numbers = refl
call_length (Some built_in_function.WorkDim) to [] = refl
call_length (Some built_in_function.WorkDim) to (a ∷ numbers) = refl
call_length (Some (built_in_function.WorkItem function)) to [] = refl
call_length (Some (built_in_function.WorkItem function)) to (a ∷ []) = refl
call_length (Some (built_in_function.WorkItem function)) to (a ∷ b ∷ numbers) = refl
call_length (Some (built_in_function.Integer function)) to [] = refl
call_length (Some (built_in_function.Integer function)) to (a ∷ []) = refl
call_length (Some (built_in_function.Integer function)) to (a ∷ b ∷ []) = refl
call_length (Some (built_in_function.Integer function)) to (a ∷ b ∷ c ∷ numbers) = refl
call_length (Some (built_in_function.Atomic function)) to [] = refl
call_length (Some (built_in_function.Atomic function)) to (p ∷ []) = refl
call_length (Some (built_in_function.Atomic function)) to (p ∷ v ∷ []) = refl
call_length (Some (built_in_function.Atomic function)) to (p ∷ c ∷ v ∷ []) = refl
call_length (Some (built_in_function.Atomic function)) to (p ∷ c ∷ v ∷ w ∷ numbers) = refl

update_length : (function : AtomicFunction) (numbers : List ℕ) → length (update_code function numbers) ≡ 1
update_length function [] = refl
update_length function (p ∷ []) = refl
update_length function (p ∷ v ∷ []) = refl
update_length function (p ∷ v ∷ w ∷ numbers) = refl

either_length : (b : Bool) (xs ys : List Instruction) → length xs ≡ 1 → length ys ≡ 1 → length (if b then xs else ys) ≡ 1
either_length true xs ys h k = h
either_length false xs ys h k = k

pub call_only_length : (function : Option BuiltIn) (to : ℕ) (numbers : List ℕ) → length (call_only_code function to numbers) ≡ 1
call_only_length None to numbers = refl
call_only_length (Some built_in_function.WorkDim) to numbers = call_length (Some built_in_function.WorkDim) to numbers
call_only_length (Some (built_in_function.WorkItem function)) to numbers = call_length (Some (built_in_function.WorkItem function)) to numbers
call_only_length (Some (built_in_function.Integer function)) to numbers = call_length (Some (built_in_function.Integer function)) to numbers
call_only_length (Some (built_in_function.Atomic function)) to numbers =
    either_length (is_update function) (update_code function numbers) _ (update_length function numbers) (call_length (Some (built_in_function.Atomic function)) to numbers)

pub call_same : (function : Option BuiltIn) (to to2 : ℕ) (numbers numbers2 : List ℕ) → SameLength (call_code function to numbers) (call_code function to2 numbers2)
call_same function to to2 numbers numbers2 = record { same = call_length function to numbers ∙ sym (call_length function to2 numbers2) }

pub call_only_same : (function : Option BuiltIn) (to to2 : ℕ) (numbers numbers2 : List ℕ) → SameLength (call_only_code function to numbers) (call_only_code function to2 numbers2)
call_only_same function to to2 numbers numbers2 = record { same = call_only_length function to numbers ∙ sym (call_only_length function to2 numbers2) }

truth_same : (to to2 : ℕ) → SameLength (truth_code to) (truth_code to2)
truth_same to to2 = record { same = refl }

infix_same : (operator : InfixOperator) (to first second to2 first2 second2 : ℕ) {right right2 : List Instruction} → SameLength right right2
    → SameLength (infix_code operator to first second right) (infix_code operator to2 first2 second2 right2)
infix_same (Arithmetic operator) to first second to2 first2 second2 h = joined h single
infix_same LogicalAnd to first second to2 first2 second2 h = longer (joined h (longer (truth_same to to2)))
infix_same LogicalOr to first second to2 first2 second2 h = longer (longer (joined h (longer (truth_same to to2))))

choice_same : (condition condition2 : ℕ) {one other one2 other2 : List Instruction} → SameLength one one2 → SameLength other other2
    → SameLength (choice_code condition one other) (choice_code condition2 one2 other2)
choice_same condition condition2 h k = longer (joined h (longer k))

element_same : (to to2 : ℕ) (o p : Option ℕ) (name : ℕ) {index index2 : List Instruction} (register register2 : ℕ) → Alike o p → SameLength index index2
    → SameLength (element_code to o name index register) (element_code to2 p name index2 register2)
element_same to to2 o p name register register2 is h = joined (variable_same to to2 o p name is) (joined h single)

folded_same : (o : Option Integer) (level level2 : ℕ) {xs ys : List Instruction} → SameLength xs ys → SameLength (folded o level xs) (folded o level2 ys)
folded_same (Some v) level level2 h = single
folded_same None level level2 h = h

-- the variables in scope, with the outermost at a level
abbrev pub from_level : ℕ → Variables → Scope
from_level base vs = record { base = base; variables = vs }

module _ (base other : ℕ) (vs : Variables) where
  mutual
    pub expr_same : (level level2 : ℕ) (e : Term) → SameLength (expr_code (from_level base vs) level e) (expr_code (from_level other vs) level2 e)
    expr_same level level2 (Number at value) = single
    expr_same level level2 (Variable at name) = variable_same _ _ _ _ name (registered base other vs name)
    expr_same level level2 (Element at name index) =
        chosen (is_private_array vs name) (joined (expr_same level level2 index) single)
        (joined (element_same _ _ _ _ name _ _ (registered base other vs name) (expr_same (level + 1) (level2 + 1) index)) single)
    expr_same level level2 (ElementAddress at name_at name index) =
        element_same _ _ _ _ name _ _ (registered base other vs name) (expr_same (level + 1) (level2 + 1) index)
    expr_same level level2 (Dereference at pointer) = joined (expr_same level level2 pointer) single
    expr_same level level2 (Call at name arguments) = folded_same (constant_of vs (Call at name arguments)) level level2 (joined (terms_same level level2 arguments) (call_same (built_in name) _ _ _ _))
    expr_same level level2 (Unary at operator operand) = folded_same (constant_of vs (Unary at operator operand)) level level2 (joined (expr_same level level2 operand) single)
    expr_same level level2 (Cast at target operand) = folded_same (constant_of vs (Cast at target operand)) level level2 (joined (expr_same level level2 operand) single)
    expr_same level level2 (Binary at operator left right) =
        folded_same (constant_of vs (Binary at operator left right)) level level2
        (joined (expr_same level level2 left) (infix_same operator _ _ _ _ _ _ (expr_same (level + 1) (level2 + 1) right)))
    expr_same level level2 (Choice at condition one two) =
        folded_same (constant_of vs (Choice at condition one two)) level level2
        (joined (expr_same level level2 condition)
        (choice_same _ _ (joined (expr_same level level2 one) single) (joined (expr_same level level2 two) single)))

    pub terms_same : (level level2 : ℕ) (es : Terms) → SameLength (terms_code (from_level base vs) level es) (terms_code (from_level other vs) level2 es)
    terms_same level level2 NoTerm = record { same = refl }
    terms_same level level2 (ThenTerm es e) = joined (terms_same level level2 es) (expr_same _ _ e)

  pub expr_length : (level level2 : ℕ) (e : Term) → length (expr_code (from_level base vs) level e) ≡ length (expr_code (from_level other vs) level2 e)
  expr_length level level2 e = (expr_same level level2 e).same

  pub terms_length : (level level2 : ℕ) (es : Terms) → length (terms_code (from_level base vs) level es) ≡ length (terms_code (from_level other vs) level2 es)
  terms_length level level2 es = (terms_same level level2 es).same

  pub target_same : (level level2 : ℕ) (to : Target) → SameLength (target_code (from_level base vs) level to) (target_code (from_level other vs) level2 to)
  target_same level level2 (TargetVariable at name) = record { same = refl }
  target_same level level2 (TargetElement at name index) =
      chosen (is_private_array vs name) (expr_same level level2 index)
      (element_same _ _ _ _ name _ _ (registered base other vs name) (expr_same (level + 1) (level2 + 1) index))
  target_same level level2 (TargetDereference at pointer) = joined (expr_same level level2 pointer) single

  -- the arguments of a call have as many registers
  pub registers_same : (level level2 : ℕ) (es : Terms) → SameLength (registers_for (from_level base vs) level es) (registers_for (from_level other vs) level2 es)
  registers_same level level2 NoTerm = record { same = refl }
  registers_same level level2 (ThenTerm es e) = joined (registers_same level level2 es) single

  -- an expression has one type
  pub kind_same : (e : Term) → kind_of (from_level base vs) e ≡ kind_of (from_level other vs) e
  kind_same e = refl
