use Rattle.std.proofs.Common.{inl, inr}
use Rattle.clnum.proofs.Functions.{at_one, at_two, at_other, same_types, other_types}
use Rattle.clnum.proofs.builtins.builtin.Goals as goal

pub returns-in-len1 : goal.returns-in-len1
returns-in-len1 c = at_one c.args.function c.args.arguments.now c.a-item.result c.of_one.result c.in-len1.len_at_least c.in-len1.len_below c.a-item.is c.of_one.ensures

pub returns-then-eq : goal.returns-then-eq
returns-then-eq c =
    at_two c.args.function c.args.arguments.now c.a-item-then-arguments-lt3.result c.b-item.result _ c.in-len2.len_at_least c.in-len2.len_below
    c.a-item-then-arguments-lt3.is c.b-item.is
    (same_types c.args.function c.a-item-then-arguments-lt3.result c.b-item.result c.kind.result c.kind-in-len2.result _ c.kind.ensures c.kind-in-len2.ensures
    (c.if-eq.ensures) c.of_two.ensures)

pub returns-else-eq : goal.returns-else-eq
returns-else-eq c =
    at_two c.args.function c.args.arguments.now c.a-item-then-arguments-lt3.result c.b-item.result _ c.in-len2.len_at_least c.in-len2.len_below
    c.a-item-then-arguments-lt3.is c.b-item.is
    (other_types c.args.function c.a-item-then-arguments-lt3.result c.b-item.result c.kind.result c.kind-in-len2.result c.kind.ensures c.kind-in-len2.ensures
    (c.if-eq.ensures))

pub returns-in-empty : goal.returns-in-empty
returns-in-empty c = at_other c.args.function c.args.arguments.now (inl c.in-empty.len_below)

pub returns-in-len3-up : goal.returns-in-len3-up
returns-in-len3-up c = at_other c.args.function c.args.arguments.now (inr c.in-len3-up.len_at_least)
