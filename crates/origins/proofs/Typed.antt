-- The type of an expression, and its value where it is constant, depend on the types of variables alone.
use Rattle.std.proofs.Common.{◌≡◌, ℕ, ◌==◌, true, false, None, List, [], ◌∷◌, ◌++◌, refl, ap, ap₂, ◌∙◌}
use Rattle.clnum.specs.Conversions.{common}
use Rattle.clnum.specs.Operations.{unary_kind}
use Rattle.clmodel.specs.BuiltIns.{built_in}
use Rattle.clmodel.specs.Next.{Variables, variable, declared_type, type_of, argument_type, base_type, infix_type, call_type}
use Rattle.clmodel.specs.Tree.{Term, Number, Variable, Element, ElementAddress, Dereference, Call, Unary, Cast, Binary, Choice, Terms, NoTerm, ThenTerm}
use Rattle.clmodel.specs.declared.tree.VariableType.{VariableType}
use Rattle.clmodel.specs.declared.tree.VariableType.TheVariants.{Integer}
use Rattle.folding.specs.Constants.{unary_constant, cast_constant, infix_constant, choice_constant, call_constant, constant_of, constants_of}
use Rattle.origins.specs.Names.{kind_behind, kind_of, variables_behind, variables_of, named, names_of}
use Rattle.origins.specs.declared.names.NamedVariable.{NamedVariable}

-- the type of a name
kind_of_name : (vs : Variables) (ns : List NamedVariable) (name : ℕ) → kind_behind (declared_type vs name) ns name ≡ declared_type (variables_behind vs ns) name
kind_of_name vs [] name = refl
kind_of_name vs (n ∷ ns) name = kind_of_name (variable n.name n.kind None ∷ vs) ns name

pub kind_is : (ns : List NamedVariable) (name : ℕ) → kind_of ns name ≡ declared_type (variables_of ns) name
kind_is ns name = kind_of_name [] ns name

variables_last : (vs : Variables) (ns : List NamedVariable) (n : NamedVariable) → variables_behind vs (ns ++ n ∷ []) ≡ variable n.name n.kind None ∷ variables_behind vs ns
variables_last vs [] n = refl
variables_last vs (m ∷ ns) n = variables_last (variable m.name m.kind None ∷ vs) ns n

declared_alike : (vs : Variables) (name : ℕ) → declared_type (variables_of (names_of vs)) name ≡ declared_type vs name
declared_alike [] name = refl
declared_alike (v ∷ vs) name =
    ap (λ ws. declared_type ws name) (variables_last [] (names_of vs) (named v))
    ∙ ap (λ (k : VariableType). elim (name == v.name) as (λ _. VariableType) [ true ↦ v.kind | false ↦ k ]) (declared_alike vs name)

module _ (vs ws : Variables) (same : (name : ℕ) → declared_type vs name ≡ declared_type ws name) where
  mutual
    type_alike : (e : Term) → type_of vs e ≡ type_of ws e
    type_alike (Number at value) = refl
    type_alike (Variable at name) = same name
    type_alike (Element at name index) = ap (λ k. Integer (base_type k)) (same name)
    type_alike (ElementAddress at name_at name index) = same name
    type_alike (Dereference at pointer) = ap (λ k. Integer (base_type k)) (type_alike pointer)
    type_alike (Call at name arguments) = ap (λ t. Integer (call_type (built_in name) t)) (argument_alike arguments)
    type_alike (Unary at operator operand) = ap (λ k. Integer (unary_kind operator (base_type k))) (type_alike operand)
    type_alike (Cast at target operand) = refl
    type_alike (Binary at operator left right) = ap₂ (infix_type operator) (type_alike left) (type_alike right)
    type_alike (Choice at condition chosen otherwise) = ap₂ (λ j k. Integer (common (base_type j) (base_type k))) (type_alike chosen) (type_alike otherwise)

    argument_alike : (es : Terms) → argument_type vs es ≡ argument_type ws es
    argument_alike NoTerm = refl
    argument_alike (ThenTerm NoTerm e) = ap base_type (type_alike e)
    argument_alike (ThenTerm (ThenTerm es d) e) = argument_alike (ThenTerm es d)

  mutual
    constant_alike : (e : Term) → constant_of vs e ≡ constant_of ws e
    constant_alike (Number at value) = refl
    constant_alike (Variable at name) = refl
    constant_alike (Element at name index) = refl
    constant_alike (ElementAddress at name_at name index) = refl
    constant_alike (Dereference at pointer) = refl
    constant_alike (Call at name arguments) = ap (call_constant (built_in name)) (constants_alike arguments)
    constant_alike (Unary at operator operand) = ap (unary_constant operator) (constant_alike operand)
    constant_alike (Cast at target operand) = ap (cast_constant target) (constant_alike operand)
    constant_alike (Binary at operator left right) = ap₂ (infix_constant operator) (constant_alike left) (constant_alike right)
    constant_alike (Choice at condition chosen otherwise) =
        ap (λ o. choice_constant o (constant_of vs chosen) (base_type (type_of vs chosen)) (constant_of vs otherwise) (base_type (type_of vs otherwise))) (constant_alike condition)
        ∙ ap₂ (λ o k. choice_constant (constant_of ws condition) o (base_type k) (constant_of vs otherwise) (base_type (type_of vs otherwise))) (constant_alike chosen) (type_alike chosen)
        ∙ ap₂ (λ o k. choice_constant (constant_of ws condition) (constant_of ws chosen) (base_type (type_of ws chosen)) o (base_type k)) (constant_alike otherwise) (type_alike otherwise)

    constants_alike : (es : Terms) → constants_of vs es ≡ constants_of ws es
    constants_alike NoTerm = refl
    constants_alike (ThenTerm es e) = ap₂ (λ os o. os ++ o ∷ []) (constants_alike es) (constant_alike e)

-- an expression is constant in a scope where it is constant for the names of its variables
pub constant_named : (vs : Variables) (e : Term) → constant_of (variables_of (names_of vs)) e ≡ constant_of vs e
constant_named vs e = constant_alike (variables_of (names_of vs)) vs (declared_alike vs) e
