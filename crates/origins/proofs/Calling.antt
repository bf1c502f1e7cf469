-- What is known of a call, by its arguments.
use Rattle.std.proofs.Common.{◌≡◌, ◌+◌, ◌<◌, ◌≤◌, Option, None, Some, List, [], ◌∷◌, map, length, get_or, refl, sym, ap, ap₂, ◌∙◌, arith}
use Rattle.std.proofs.lemmas.List.{length-append}
use Rattle.clnum.specs.Integer.{Integer}
use Rattle.clnum.specs.declared.operators.Builtin.{Builtin}
use Rattle.clmodel.specs.Next.{Variables, type_of, argument_type, base_type}
use Rattle.clmodel.specs.Tree.{Term, Terms, NoTerm, ThenTerm, term, terms, then_all}
use Rattle.clmodel.specs.declared.setup.BuiltIn.{BuiltIn}
use Rattle.clmodel.specs.declared.setup.BuiltIn.TheVariants as built_in_function
use Rattle.clmodel.specs.declared.tree.Expression.{Expression}
use Rattle.folding.specs.Constants.{integer_constant, call_constant, constant_of, constants_of}

first_kept : (vs : Variables) (ts : Terms) (t : Term) (es : List Expression) → argument_type vs (then_all (ThenTerm ts t) (map term es)) ≡ argument_type vs (ThenTerm ts t)
first_kept vs ts t [] = refl
first_kept vs ts t (e ∷ es) = first_kept vs (ThenTerm ts t) (term e) es

-- the type that a function's depends on is that of the first argument
pub first_type : (vs : Variables) (es : List Expression) (e : Expression) → 0 < length es → e ≡ get_or es 0 e → argument_type vs (terms es) ≡ base_type (type_of vs (term e))
first_type vs [] e h is = absurd (omega (arith, h))
first_type vs (d ∷ es) e h is = first_kept vs NoTerm (term d) es ∙ ap (λ (x : Expression). base_type (type_of vs (term x))) (sym is)

-- the constants of no argument, of one and of two
pub of_none : (vs : Variables) (es : List Expression) → length es ≡ 0 → constants_of vs (terms es) ≡ []
of_none vs [] h = refl
of_none vs (e ∷ es) h = absurd (omega (arith, h))

pub type_of_none : (vs : Variables) (es : List Expression) → length es ≡ 0 → argument_type vs (terms es) ≡ argument_type vs NoTerm
type_of_none vs [] h = refl
type_of_none vs (e ∷ es) h = absurd (omega (arith, h))

pub of_one : (vs : Variables) (es : List Expression) (e : Expression) → length es ≡ 1 → e ≡ get_or es 0 e → constants_of vs (terms es) ≡ constant_of vs (term e) ∷ []
of_one vs [] e h is = absurd (omega (arith, h))
of_one vs (d ∷ []) e h is = ap (λ (x : Expression). constant_of vs (term x) ∷ []) (sym is)
of_one vs (d ∷ f ∷ es) e h is = absurd (omega (arith, h))

pub of_two : (vs : Variables) (es : List Expression) (d e : Expression) → length es ≡ 2 → d ≡ get_or es 0 d → e ≡ get_or es 1 e
    → constants_of vs (terms es) ≡ constant_of vs (term d) ∷ constant_of vs (term e) ∷ []
of_two vs [] d e h p q = absurd (omega (arith, h))
of_two vs (a ∷ []) d e h p q = absurd (omega (arith, h))
of_two vs (a ∷ b ∷ []) d e h p q = ap₂ (λ (x y : Expression). constant_of vs (term x) ∷ constant_of vs (term y) ∷ []) (sym p) (sym q)
of_two vs (a ∷ b ∷ f ∷ es) d e h p q = absurd (omega (arith, h))

all_counted : (vs : Variables) (ts : Terms) (es : List Expression) → length (constants_of vs (then_all ts (map term es))) ≡ length (constants_of vs ts) + length es
all_counted vs ts [] = omega arith
all_counted vs ts (e ∷ es) =
    let rest = all_counted vs (ThenTerm ts (term e)) es in
    let one = length-append (constants_of vs ts) (constant_of vs (term e) ∷ []) in
    omega (arith, rest, one)

too_many : (function : Builtin) (xs : List (Option Integer)) → 3 ≤ length xs → integer_constant function xs ≡ None
too_many function [] h = refl
too_many function (None ∷ xs) h = refl
too_many function (Some a ∷ []) h = absurd (omega (arith, h))
too_many function (Some a ∷ None ∷ xs) h = refl
too_many function (Some a ∷ Some b ∷ []) h = absurd (omega (arith, h))
too_many function (Some a ∷ Some b ∷ x ∷ xs) h = refl

none_called : (function : Option BuiltIn) (xs : List (Option Integer)) → 3 ≤ length xs → call_constant function xs ≡ None
none_called None xs h = refl
none_called (Some built_in_function.WorkDim) xs h = refl
none_called (Some (built_in_function.WorkItem function)) xs h = refl
none_called (Some (built_in_function.Integer function)) xs h = too_many function xs h
none_called (Some (built_in_function.Atomic function)) xs h = refl

-- no function has more than two
pub of_many : (function : Option BuiltIn) (vs : Variables) (es : List Expression) → 3 ≤ length es → call_constant function (constants_of vs (terms es)) ≡ None
of_many function vs es h = let all = all_counted vs NoTerm es in none_called function (constants_of vs (terms es)) (omega (arith, h, all))
