-- Assignments and declarations from their parts.
use Rattle.std.proofs.Common.{◌≡◌, ℕ, ◌+◌, List, [], ◌∷◌, ◌++◌, Option, ap, ap₂, sym, ◌∙◌, Vec}
use Rattle.std.proofs.lemmas.List.{append_assoc}
use Rattle.std.specs.declared.alloc.Global.{Global}
use Rattle.clnum.specs.declared.int_type.IntType.{IntType}
use Rattle.clnum.specs.declared.operators.BinaryOperator.{BinaryOperator}
use Rattle.clmodel.specs.Next.{HelperCall}
use Rattle.clmodel.specs.Tree.{Term, Target}
use Rattle.clmodel.specs.declared.tree.VariableType.{VariableType}
use Rattle.regcode.specs.declared.instruction.Instruction.{Instruction}
use Rattle.regcode.specs.declared.instruction.Instruction.TheVariants as instruction
use Rattle.lower_expr.specs.Scope.{Scope, free_level, register_at}
use Rattle.lower_expr.specs.Expressions.{target_code, target_register}
use Rattle.lower_expr.specs.Targets.{type_of_target, fetch_code, put_code, combine_code}
use Rattle.lower_code.specs.Code.{Calls, right_code, right_type, assign_code, compound_code}
use Rattle.lower_code.specs.Emission.{called_code, split_code}
use Rattle.lower_code.specs.declared.assignments.Split.{Split}

-- more code at the end
pub split_tail : (calls : Calls) (split : Split) (back : Vec Instruction Global) (xs whole : List Instruction) (depth site : ℕ)
    → back.items ≡ split.back.items ++ xs → split_code calls split depth site ≡ whole → split_code calls (record split { back = back }) depth site ≡ whole ++ xs
split_tail calls split back xs whole depth site back_is whole_is =
    let front = split.front.items in
    let called = called_code calls split.call depth site in
    ap (λ ys. front ++ (called ++ ys)) back_is
    ∙ ap (λ ys. front ++ ys) (sym (append_assoc called split.back.items xs))
    ∙ sym (append_assoc front (called ++ split.back.items) xs)
    ∙ ap (λ ys. ys ++ xs) whole_is

module _ (calls : Calls) (results : ℕ → Option IntType) (inside : ℕ → ℕ) (result : Option IntType) (scope : Scope) (place : Target) (called : Option HelperCall) (value : Term) (depth site : ℕ) where
  pub assign_laid : (level above from : ℕ) (kind : VariableType) (front all : List Instruction)
      → level ≡ free_level scope → above ≡ level + 1 → front ≡ target_code scope level place
      → from ≡ register_at above kind → kind ≡ right_type calls results inside result scope called value
      → all ≡ (front ++ right_code calls results inside result scope above called value depth site) ++ put_code scope place (target_register scope level place) from
      → all ≡ assign_code calls results inside result scope (free_level scope) place called value depth site
  assign_laid level above from kind front all level_is above_is front_is from_is kind_is all_is =
      let right : ℕ → List Instruction = λ n. right_code calls results inside result scope n called value depth site in
      let type = right_type calls results inside result scope called value in
      let put : ℕ → ℕ → List Instruction = λ n r. put_code scope place (target_register scope n place) r in
      all_is
      ∙ ap₂ (λ xs r. (xs ++ right above) ++ put level r) front_is (from_is ∙ ap (λ t. register_at above t) kind_is)
      ∙ ap (λ n. (target_code scope level place ++ right n) ++ put level (register_at n type)) above_is
      ∙ ap (λ n. (target_code scope n place ++ right (n + 1)) ++ put n (register_at (n + 1) type)) level_is
      ∙ append_assoc (target_code scope (free_level scope) place) (right (free_level scope + 1)) (put (free_level scope) (register_at (free_level scope + 1) type))

  pub compound_laid : (operator : BinaryOperator) (level above top old operand : ℕ) (kind there : VariableType) (front all : List Instruction)
      → level ≡ free_level scope → above ≡ level + 1 → top ≡ level + 2
      → old ≡ register_at above there → there ≡ type_of_target scope place
      → front ≡ target_code scope level place ++ fetch_code scope place (target_register scope level place) old
      → operand ≡ register_at top kind → kind ≡ right_type calls results inside result scope called value
      → all ≡ (front ++ right_code calls results inside result scope top called value depth site) ++ combine_code scope place level operator kind old operand
      → all ≡ compound_code calls results inside result scope (free_level scope) place operator called value depth site
  compound_laid operator level above top old operand kind there front all level_is above_is top_is old_is there_is front_is operand_is kind_is all_is =
      let right : ℕ → List Instruction = λ n. right_code calls results inside result scope n called value depth site in
      let type = right_type calls results inside result scope called value in
      let fetch : ℕ → ℕ → List Instruction = λ n o. fetch_code scope place (target_register scope n place) o in
      let first : ℕ → ℕ = λ n. register_at (n + 1) (type_of_target scope place) in
      let second : ℕ → ℕ = λ n. register_at (n + 2) type in
      let combine : ℕ → VariableType → ℕ → ℕ → List Instruction = λ n k o r. combine_code scope place n operator k o r in
      let old_at : old ≡ first level = old_is ∙ ap₂ (λ n t. register_at n t) above_is there_is in
      let operand_at : operand ≡ second level = operand_is ∙ ap₂ (λ n t. register_at n t) top_is kind_is in
      let l = free_level scope in
      all_is
      ∙ ap₂ (λ xs k. (xs ++ right top) ++ combine level k old operand) front_is kind_is
      ∙ ap₂ (λ o r. ((target_code scope level place ++ fetch level o) ++ right top) ++ combine level type o r) old_at operand_at
      ∙ ap (λ n. ((target_code scope level place ++ fetch level (first level)) ++ right n) ++ combine level type (first level) (second level)) top_is
      ∙ ap (λ n. ((target_code scope n place ++ fetch n (first n)) ++ right (n + 2)) ++ combine n type (first n) (second n)) level_is
      ∙ append_assoc (target_code scope l place ++ fetch l (first l)) (right (l + 2)) (combine l type (first l) (second l))
      ∙ append_assoc (target_code scope l place) (fetch l (first l)) (right (l + 2) ++ combine l type (first l) (second l))

-- the right side of a declaration
pub declare_laid : (calls : Calls) (results : ℕ → Option IntType) (inside : ℕ → ℕ) (result : Option IntType) (scope inner : Scope) (called : Option HelperCall) (value : Term) (depth site : ℕ)
    (kind found : VariableType) (level above to from : ℕ) (front all : List Instruction)
    → level ≡ free_level scope → above ≡ level + 1 → to ≡ register_at level kind → front ≡ instruction.Unset to ∷ []
    → from ≡ register_at above found → found ≡ right_type calls results inside result inner called value
    → all ≡ (front ++ right_code calls results inside result inner above called value depth site) ++ instruction.AssignConversion to from kind ∷ []
    → all ≡ instruction.Unset (register_at (free_level scope) kind) ∷ (right_code calls results inside result inner (free_level scope + 1) called value depth site
    ++ instruction.AssignConversion (register_at (free_level scope) kind) (register_at (free_level scope + 1) (right_type calls results inside result inner called value)) kind ∷ [])
declare_laid calls results inside result scope inner called value depth site kind found level above to from front all level_is above_is to_is front_is from_is found_is all_is =
    let right : ℕ → List Instruction = λ n. right_code calls results inside result inner n called value depth site in
    let type = right_type calls results inside result inner called value in
    all_is
    ∙ ap₂ (λ xs r. (xs ++ right above) ++ instruction.AssignConversion to r kind ∷ []) front_is (from_is ∙ ap (λ t. register_at above t) found_is)
    ∙ ap₂ (λ t n. instruction.Unset t ∷ (right n ++ instruction.AssignConversion t (register_at n type) kind ∷ [])) to_is above_is
    ∙ ap (λ n. instruction.Unset (register_at n kind) ∷ (right (n + 1) ++ instruction.AssignConversion (register_at n kind) (register_at (n + 1) type) kind ∷ [])) level_is
