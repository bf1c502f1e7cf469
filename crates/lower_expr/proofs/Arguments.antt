-- Arguments as lists, and the code of a call and of an operator from what emits it.
use Rattle.std.proofs.Common.{◌≡◌, ℕ, zero, suc, ◌+◌, ◌<◌, ◌≤◌, List, [], ◌∷◌, ◌++◌, map, length, take, get_or, Option, refl, sym, ap, ap₂, ◌∙◌, Vec, arith}
use Rattle.std.proofs.lemmas.List.{append_assoc, length-append}
use Rattle.std.specs.declared.alloc.Global.{Global}
use mathlib.Core.Former.{Count}
use Rattle.clnum.specs.Conversions.{common}
use Rattle.clnum.specs.Integer as integers
use Rattle.clnum.specs.Operations.{unary_kind}
use Rattle.clnum.specs.declared.int_type.IntType.{IntType}
use Rattle.clnum.specs.declared.int_type.IntType.TheVariants.{Int}
use Rattle.clnum.specs.declared.operators.UnaryOperator.{UnaryOperator}
use Rattle.clmodel.specs.BuiltIns.{built_in}
use Rattle.clmodel.specs.Next.{Variables, type_of, base_type, argument_type, call_type, infix_type}
use Rattle.clmodel.specs.Tree.{Term, Terms, NoTerm, ThenTerm, Number, Variable, Element, ElementAddress, Dereference, Unary, Cast, Binary, Call, Choice, term, terms, row_terms, then_all}
use Rattle.clmodel.specs.declared.setup.BuiltIn.{BuiltIn}
use Rattle.clmodel.specs.declared.tree.Expression as rust_expression
use Rattle.clmodel.specs.declared.tree.InfixOperator.{InfixOperator}
use Rattle.clmodel.specs.declared.tree.InfixOperator.TheVariants.{Arithmetic, LogicalAnd, LogicalOr}
use Rattle.clmodel.specs.declared.tree.VariableType.TheVariants.{Integer}
use Rattle.folding.specs.Constants.{unary_constant, cast_constant, infix_constant, choice_constant, call_constant, constant_of, constants_of}
use Rattle.folding.specs.declared.known.Known.{Known}
use Rattle.regcode.specs.declared.instruction.Instruction.{Instruction}
use Rattle.regcode.specs.declared.instruction.Instruction.TheVariants as instruction
use Rattle.lower_expr.specs.Scope.{Scope, register_at}
use Rattle.lower_expr.specs.Forms.{known_of, form_code}
use Rattle.lower_expr.specs.Expressions.{folded, expr_code, terms_code, registers_for, call_code, branch_code, choice_code, count, infix_begun, infix_code}

row_same : (ts : Terms) (n : _) (row : rust_expression.Row_of-Expression n) → row_terms ts row ≡ then_all ts (map term (rust_expression.items-the_row-Expression n row))
row_same ts n rust_expression.end_of-Expression = refl
row_same ts n (rust_expression.more_of-Expression e rest) = row_same (ThenTerm ts (term e)) _ rest

abbrev row_of : rust_expression.Expression → (n : Count) × rust_expression.Row_of-Expression n
row_of (rust_expression.Call' at name n row) = (_, row)
row_of _ = (_, rust_expression.end_of-Expression)

-- a call is of its arguments
pub calls : (at name : ℕ) (es : Vec rust_expression.Expression Global) → term (rust_expression.Call at name es) ≡ Call at name (terms es.items)
calls at name es =
    let row = row_of (rust_expression.Call at name es) in
    let same = rust_expression.items_hidden-the_row-Expression-0 es in
    ap (Call at name) (row_same NoTerm row.0 row.1 ∙ ap (λ ds. then_all NoTerm (map term ds)) same)

-- one argument more
all_more : (ts : Terms) (es : List rust_expression.Expression) (e : rust_expression.Expression) → then_all ts (map term (es ++ e ∷ [])) ≡ ThenTerm (then_all ts (map term es)) (term e)
all_more ts [] e = refl
all_more ts (d ∷ es) e = all_more (ThenTerm ts (term d)) es e

all_count : (ts : Terms) (es : List rust_expression.Expression) → count (then_all ts (map term es)) ≡ count ts + length es
all_count ts [] = omega arith
all_count ts (e ∷ es) = let h = all_count (ThenTerm ts (term e)) es in omega (arith, h)

take_more : (es : List rust_expression.Expression) (i : ℕ) (e : rust_expression.Expression) → i < length es → take (suc i) es ≡ take i es ++ get_or es i e ∷ []
take_more [] i e h = absurd (omega arith)
take_more (d ∷ es) zero e h = refl
take_more (d ∷ es) (suc i) e h = ap (λ rest. d ∷ rest) (take_more es i e (omega arith))

take_count : (es : List rust_expression.Expression) (i : ℕ) → i ≤ length es → length (take i es) ≡ i
take_count es zero h = refl
take_count [] (suc i) h = absurd (omega arith)
take_count (e ∷ es) (suc i) h = ap suc (take_count es i (omega arith))

pub terms_more : (es : List rust_expression.Expression) (i : ℕ) (e : rust_expression.Expression) → i < length es → e ≡ get_or es i e → terms (take (i + 1) es) ≡ ThenTerm (terms (take i es)) (term e)
terms_more es i e h p =
    let n : i + 1 ≡ suc i = omega arith in
    ap (λ k. terms (take k es)) n ∙ ap terms (take_more es i e h) ∙ all_more NoTerm (take i es) (get_or es i e) ∙ ap (λ d. ThenTerm (terms (take i es)) (term d)) (sym p)

pub terms_count : (es : List rust_expression.Expression) (i : ℕ) → i ≤ length es → count (terms (take i es)) ≡ i
terms_count es i h = let n = all_count NoTerm (take i es) in let k = take_count es i h in omega (arith, n, k)

-- the type of the first of them, before the second and behind it

pub type_here : (variables : Variables) (ts : Terms) (e : Term) → count ts ≡ 0 → argument_type variables (ThenTerm ts e) ≡ base_type (type_of variables e)
type_here variables NoTerm e h = refl
type_here variables (ThenTerm ts d) e h = absurd (omega (arith, h))

pub type_stays : (variables : Variables) (ts : Terms) (e : Term) → (count ts ≡ 0 → ⊥) → argument_type variables (ThenTerm ts e) ≡ argument_type variables ts
type_stays variables NoTerm e h = absurd (h refl)
type_stays variables (ThenTerm ts d) e h = refl

begun_length : (operator : InfixOperator) (first : ℕ) → length (infix_begun operator first) ≡ length (infix_begun operator 0)
begun_length (Arithmetic operator) first = refl
begun_length LogicalAnd first = refl
begun_length LogicalOr first = refl

-- a constant expression is its value, and another one the code of its form
pub settled_form : (scope : Scope) (level : ℕ) (e : Term) → folded (constant_of scope.variables e) level (form_code scope level e) ≡ expr_code scope level e
settled_form scope level (Number at value) = refl
settled_form scope level (Variable at name) = refl
settled_form scope level (Element at name index) = refl
settled_form scope level (ElementAddress at name_at name index) = refl
settled_form scope level (Dereference at pointer) = refl
settled_form scope level (Call at name arguments) = refl
settled_form scope level (Unary at operator operand) = refl
settled_form scope level (Cast at target operand) = refl
settled_form scope level (Binary at operator left right) = refl
settled_form scope level (Choice at condition chosen otherwise) = refl

-- an operator on one number, a cast and a call, behind their operands
pub unary_laid : (scope : Scope) (level at : ℕ) (operator : UnaryOperator) (e x : Term) (old one new : List Instruction) (operand : Known) → x ≡ Unary at operator e
    → one ≡ old ++ expr_code scope level e → operand ≡ known_of scope e
    → new ≡ one ++ instruction.Unary (register_at level (Integer (unary_kind operator (base_type operand.kind)))) operator (register_at level operand.kind) ∷ []
    → new ≡ old ++ form_code scope level x
unary_laid scope level at operator e x old one new operand is one_is operand_is new_is =
    new_is ∙ ap₂ (λ xs (k : Known). xs ++ instruction.Unary (register_at level (Integer (unary_kind operator (base_type k.kind)))) operator (register_at level k.kind) ∷ []) one_is operand_is
    ∙ append_assoc old (expr_code scope level e) _ ∙ ap (λ y. old ++ form_code scope level y) (sym is)

pub cast_laid : (scope : Scope) (level at : ℕ) (target : IntType) (e x : Term) (old one new : List Instruction) (operand : Known) → x ≡ Cast at target e
    → one ≡ old ++ expr_code scope level e → operand ≡ known_of scope e
    → new ≡ one ++ instruction.Convert (register_at level (Integer target)) (register_at level operand.kind) target ∷ [] → new ≡ old ++ form_code scope level x
cast_laid scope level at target e x old one new operand is one_is operand_is new_is =
    new_is ∙ ap₂ (λ xs (k : Known). xs ++ instruction.Convert (register_at level (Integer target)) (register_at level k.kind) target ∷ []) one_is operand_is
    ∙ append_assoc old (expr_code scope level e) _ ∙ ap (λ y. old ++ form_code scope level y) (sym is)

pub call_laid : (scope : Scope) (level at name : ℕ) (es : Terms) (x : Term) (old one new : List Instruction) (function : Option BuiltIn) (kind : IntType) (registers : List ℕ)
    → x ≡ Call at name es → function ≡ built_in name → one ≡ old ++ terms_code scope level es → kind ≡ argument_type scope.variables es → registers ≡ registers_for scope level es
    → new ≡ one ++ call_code function (register_at level (Integer (call_type function kind))) registers → new ≡ old ++ form_code scope level x
call_laid scope level at name es x old one new function kind registers is function_is one_is kind_is registers_are new_is =
    new_is ∙ ap₂ (λ xs f. xs ++ call_code f (register_at level (Integer (call_type f kind))) registers) one_is function_is ∙ append_assoc old (terms_code scope level es) _
    ∙ ap₂ (λ k rs. old ++ (terms_code scope level es ++ call_code (built_in name) (register_at level (Integer (call_type (built_in name) k))) rs)) kind_is registers_are
    ∙ ap (λ y. old ++ form_code scope level y) (sym is)

-- an operator on two: its left operand, what stands before the right one, that one, and the rest
pub binary_laid : (scope : Scope) (level at : ℕ) (operator : InfixOperator) (left right x : Term) (old one two three new : List Instruction) (first second : Known) (above place : ℕ)
    → x ≡ Binary at operator left right → one ≡ old ++ expr_code scope level left → first ≡ known_of scope left
    → two ≡ one ++ infix_begun operator (register_at level first.kind) → place ≡ length two → above ≡ level + 1
    → three ≡ two ++ expr_code scope above right → second ≡ known_of scope right
    → ((before r : List Instruction) → three ≡ before ++ (infix_begun operator (register_at level first.kind) ++ r) → place ≡ length before + length (infix_begun operator 0)
    → new ≡ before ++ infix_code operator (register_at level (infix_type operator first.kind second.kind)) (register_at level first.kind) (register_at (level + 1) second.kind) r)
    → new ≡ old ++ form_code scope level x
binary_laid scope level at operator left right x old one two three new first second above place is one_is first_is two_is place_is above_is three_is second_is laid =
    let begun = infix_begun operator (register_at level first.kind) in
    let inner = expr_code scope (level + 1) right in
    laid one inner (three_is ∙ ap₂ (λ xs n. xs ++ expr_code scope n right) two_is above_is ∙ append_assoc one begun inner)
    (omega (arith, place_is, ap length two_is, length-append one begun, begun_length operator (register_at level first.kind)))
    ∙ ap (λ xs. xs ++ infix_code operator (register_at level (infix_type operator first.kind second.kind)) (register_at level first.kind) (register_at (level + 1) second.kind) inner) one_is
    ∙ append_assoc old (expr_code scope level left) _
    ∙ ap₂ (λ (f g : Known). old ++ (expr_code scope level left ++ infix_code operator (register_at level (infix_type operator f.kind g.kind)) (register_at level f.kind) (register_at (level + 1) g.kind) inner))
    first_is second_is
    ∙ ap (λ y. old ++ form_code scope level y) (sym is)

-- a choice: its condition, a jump, one branch, what stands between them, the other branch, and the rest
pub choice_laid : (scope : Scope) (level at : ℕ) (e d f x : Term) (old one two three four five new : List Instruction) (condition chosen otherwise : Known) (first second : ℕ)
    → x ≡ Choice at e d f → one ≡ old ++ expr_code scope level e → condition ≡ known_of scope e
    → two ≡ one ++ instruction.JumpIfZero (register_at level condition.kind) 0 ∷ [] → first ≡ length two → three ≡ two ++ expr_code scope level d → chosen ≡ known_of scope d
    → four ≡ three ++ instruction.UsualConversion 0 0 Int ∷ instruction.Jump 0 ∷ [] → second ≡ length four → five ≡ four ++ expr_code scope level f → otherwise ≡ known_of scope f
    → ((before own other : List Instruction)
    → five ≡ before ++ (instruction.JumpIfZero (register_at level condition.kind) 0 ∷ (own ++ (instruction.UsualConversion 0 0 Int ∷ instruction.Jump 0 ∷ other)))
    → first ≡ length before + 1 → second ≡ first + length own + 2 → new ≡ before ++ choice_code (register_at level condition.kind)
    (branch_code (register_at level (Integer (common (base_type chosen.kind) (base_type otherwise.kind)))) own (register_at level chosen.kind) otherwise.kind)
    (branch_code (register_at level (Integer (common (base_type chosen.kind) (base_type otherwise.kind)))) other (register_at level otherwise.kind) chosen.kind))
    → new ≡ old ++ form_code scope level x
choice_laid scope level at e d f x old one two three four five new condition chosen otherwise first second is one_is condition_is two_is first_is three_is chosen_is four_is second_is five_is otherwise_is laid =
    let test = instruction.JumpIfZero (register_at level condition.kind) 0 in
    let between : List Instruction = instruction.UsualConversion 0 0 Int ∷ instruction.Jump 0 ∷ [] in
    let own = expr_code scope level d in
    let other = expr_code scope level f in
    let whole : Known → Known → Known → List Instruction = λ i j k. choice_code (register_at level i.kind)
    (branch_code (register_at level (Integer (common (base_type j.kind) (base_type k.kind)))) own (register_at level j.kind) k.kind)
    (branch_code (register_at level (Integer (common (base_type j.kind) (base_type k.kind)))) other (register_at level k.kind) j.kind) in
    laid one own other
    (five_is ∙ ap (λ xs. xs ++ other) (four_is ∙ ap (λ xs. xs ++ between) (three_is ∙ ap (λ xs. xs ++ own) two_is))
    ∙ append_assoc ((one ++ test ∷ []) ++ own) between other ∙ append_assoc (one ++ test ∷ []) own (instruction.UsualConversion 0 0 Int ∷ instruction.Jump 0 ∷ other)
    ∙ append_assoc one (test ∷ []) (own ++ (instruction.UsualConversion 0 0 Int ∷ instruction.Jump 0 ∷ other)))
    (omega (arith, first_is, ap length two_is, length-append one (test ∷ [])))
    (omega (arith, second_is, ap length four_is, length-append three between, ap length three_is, length-append two own, first_is))
    ∙ ap (λ xs. xs ++ whole condition chosen otherwise) one_is
    ∙ append_assoc old (expr_code scope level e) (whole condition chosen otherwise)
    ∙ ap₂ (λ i j. old ++ (expr_code scope level e ++ whole i j otherwise)) condition_is chosen_is
    ∙ ap (λ k. old ++ (expr_code scope level e ++ whole (known_of scope e) (known_of scope d) k)) otherwise_is
    ∙ ap (λ y. old ++ form_code scope level y) (sym is)

-- what is known of them
pub unary_known : (scope : Scope) (at : ℕ) (operator : UnaryOperator) (e x : Term) (operand found : Known) → x ≡ Unary at operator e → operand ≡ known_of scope e
    → found ≡ record { kind = Integer (unary_kind operator (base_type operand.kind)); constant = unary_constant operator operand.constant } → found ≡ known_of scope x
unary_known scope at operator e x operand found is operand_is h =
    let whole : Known → Known = λ k. record { kind = Integer (unary_kind operator (base_type k.kind)); constant = unary_constant operator k.constant } in
    h ∙ ap whole operand_is ∙ ap (known_of scope) (sym is)

pub cast_known : (scope : Scope) (at : ℕ) (target : IntType) (e x : Term) (operand found : Known) → x ≡ Cast at target e → operand ≡ known_of scope e
    → found ≡ record { kind = Integer target; constant = cast_constant target operand.constant } → found ≡ known_of scope x
cast_known scope at target e x operand found is operand_is h =
    let whole : Known → Known = λ k. record { kind = Integer target; constant = cast_constant target k.constant } in
    h ∙ ap whole operand_is ∙ ap (known_of scope) (sym is)

pub call_known : (scope : Scope) (at name : ℕ) (es : Terms) (x : Term) (function : Option BuiltIn) (kind : IntType) (values : List (Option integers.Integer)) (found : Known)
    → x ≡ Call at name es → function ≡ built_in name → kind ≡ argument_type scope.variables es → values ≡ constants_of scope.variables es
    → found ≡ record { kind = Integer (call_type function kind); constant = call_constant function values } → found ≡ known_of scope x
call_known scope at name es x function kind values found is function_is kind_is values_are h =
    let whole : Option BuiltIn → IntType → List (Option integers.Integer) → Known = λ f k vs. record { kind = Integer (call_type f k); constant = call_constant f vs } in
    h ∙ ap (λ f. whole f kind values) function_is ∙ ap₂ (λ k vs. whole (built_in name) k vs) kind_is values_are ∙ ap (known_of scope) (sym is)

pub binary_known : (scope : Scope) (at : ℕ) (operator : InfixOperator) (left right x : Term) (first second found : Known) → x ≡ Binary at operator left right
    → first ≡ known_of scope left → second ≡ known_of scope right
    → found ≡ record { kind = infix_type operator first.kind second.kind; constant = infix_constant operator first.constant second.constant } → found ≡ known_of scope x
binary_known scope at operator left right x first second found is first_is second_is h =
    let whole : Known → Known → Known = λ j k. record { kind = infix_type operator j.kind k.kind; constant = infix_constant operator j.constant k.constant } in
    h ∙ ap₂ whole first_is second_is ∙ ap (known_of scope) (sym is)

pub choice_known : (scope : Scope) (at : ℕ) (e d f x : Term) (condition chosen otherwise found : Known) → x ≡ Choice at e d f
    → condition ≡ known_of scope e → chosen ≡ known_of scope d → otherwise ≡ known_of scope f
    → found ≡ record { kind = Integer (common (base_type chosen.kind) (base_type otherwise.kind)); constant = choice_constant condition.constant chosen.constant (base_type chosen.kind) otherwise.constant (base_type otherwise.kind) }
    → found ≡ known_of scope x
choice_known scope at e d f x condition chosen otherwise found is condition_is chosen_is otherwise_is h =
    let whole : Known → Known → Known → Known = λ i j k.
    record { kind = Integer (common (base_type j.kind) (base_type k.kind)); constant = choice_constant i.constant j.constant (base_type j.kind) k.constant (base_type k.kind) } in
    h ∙ ap₂ (λ i j. whole i j otherwise) condition_is chosen_is ∙ ap (λ k. whole (known_of scope e) (known_of scope d) k) otherwise_is ∙ ap (known_of scope) (sym is)
