use Rattle.std.proofs.Common.{List, sym, ap, ap₂, ◌∙◌, arith}
use Rattle.clmodel.specs.BuiltIns.{built_in}
use Rattle.clmodel.specs.Next.{type_of, argument_type, base_type, call_type}
use Rattle.clmodel.specs.Tree.{Term, term, terms}
use Rattle.clmodel.specs.declared.tree.Expression.{Expression}
use Rattle.clmodel.specs.declared.tree.VariableType.TheVariants.{Integer}
use Rattle.folding.specs.Constants.{call_constant, constant_of, constants_of}
use Rattle.lower_expr.proofs.Arguments.{calls}
use Rattle.origins.specs.Names.{variables_of}
use Rattle.origins.proofs.Calling.{first_type, of_many}
use Rattle.origins.proofs.Typed.{kind_is}
use Rattle.origins.proofs.known.+known.Goals as goal

pub known_call-returns-clause-kind : goal.known_call-returns-clause-kind
known_call-returns-clause-kind t c =
    let first = first_type (variables_of c.args.names.now) c.args.arguments.now c.index-arguments-0.result (omega (arith, c.if-arguments-eq0.false)) c.index-arguments-0.is in
    c.varying.ensures.kind
    ∙ ap Integer (c.call_type-2.ensures ∙ ap₂ call_type c.built_in_named-function.ensures (c.base_type.ensures ∙ ap base_type c.known_of-first.ensures.kind ∙ sym first))

pub known_call-returns-clause-constant : goal.known_call-returns-clause-constant
known_call-returns-clause-constant t c =
    c.varying.ensures.constant
    ∙ sym (of_many (built_in c.args.name) (variables_of c.args.names.now) c.args.arguments.now (omega (arith, c.if-arguments-eq0.false, c.if-arguments-eq1.false, c.if-arguments-eq2.false)))

pub known_of-returns-in-Variable-clause-kind : goal.known_of-returns-in-Variable-clause-kind
known_of-returns-in-Variable-clause-kind t c =
    c.varying.ensures.kind ∙ c.kind_of.ensures ∙ kind_is c.args.names.now c.in-Variable.name
    ∙ sym (ap (λ (e : Expression). type_of (variables_of c.args.names.now) (term e)) c.in-Variable.is)

pub known_of-returns-in-Element-clause-kind : goal.known_of-returns-in-Element-clause-kind
known_of-returns-in-Element-clause-kind t c =
    c.varying-in-Element.ensures.kind
    ∙ ap Integer (c.base_type.ensures ∙ ap base_type (c.kind_of-in-Element.ensures ∙ kind_is c.args.names.now c.in-Element.name))
    ∙ sym (ap (λ (e : Expression). type_of (variables_of c.args.names.now) (term e)) c.in-Element.is)

pub known_of-returns-in-ElementAddress-clause-kind : goal.known_of-returns-in-ElementAddress-clause-kind
known_of-returns-in-ElementAddress-clause-kind t c =
    c.varying-in-ElementAddress.ensures.kind ∙ c.kind_of-in-ElementAddress.ensures ∙ kind_is c.args.names.now c.in-ElementAddress.name
    ∙ sym (ap (λ (e : Expression). type_of (variables_of c.args.names.now) (term e)) c.in-ElementAddress.is)

pub known_of-returns-in-Call-clause-kind : goal.known_of-returns-in-Call-clause-kind
known_of-returns-in-Call-clause-kind t c =
    let whole = ap term c.in-Call.is ∙ calls c.in-Call.at c.in-Call.name c.in-Call.arguments in
    c.known_call.ensures.kind
    ∙ ap (λ (es : List Expression). Integer (call_type (built_in c.in-Call.name) (argument_type (variables_of c.args.names.now) (terms es)))) c.as_slice.ensures.value
    ∙ sym (ap (λ (e : Term). type_of (variables_of c.args.names.now) e) whole)

pub known_of-returns-in-Call-clause-constant : goal.known_of-returns-in-Call-clause-constant
known_of-returns-in-Call-clause-constant t c =
    let whole = ap term c.in-Call.is ∙ calls c.in-Call.at c.in-Call.name c.in-Call.arguments in
    c.known_call.ensures.constant
    ∙ ap (λ (es : List Expression). call_constant (built_in c.in-Call.name) (constants_of (variables_of c.args.names.now) (terms es))) c.as_slice.ensures.value
    ∙ sym (ap (λ (e : Term). constant_of (variables_of c.args.names.now) e) whole)
