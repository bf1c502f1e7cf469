use Rattle.std.proofs.Common.{rules, arith, subst, sym, inl, inr, codes, Option}
use Rattle.std.specs.Str.Parse.{ParsesUnsigned, ExplainsUnsignedError, HasUnsignedDigitsIfOk}
use Rattle.clap.specs.Words.{Text, found_of}
use Rattle.clap.proofs.WalkLemmas.{one_text-rows}
use Rattle.command_line.specs.CommandLine.{IsNumber}
use Rattle.command_line.proofs.CommandLines.{few_ticks, no_option, not_read, out_of_range, the_option}
use Rattle.command_line.proofs.forms.budget_of.Goals as goal

pub returns-in-Ok-None-clause-given : goal.returns-in-Ok-None-clause-given
returns-in-Ok-None-clause-given c =
    subst (λ (o : Option Text). IsNumber c.args.limits.default_ticks c.args.limits.ticks o c.args.limits.default_ticks) (one_text-rows (found_of c.args.matches.now) (codes "budget"))
    (no_option c.args.limits.default_ticks c.args.limits.ticks (λ bs r. ParsesUnsigned 32 10 bs r × ExplainsUnsignedError 10 bs r × HasUnsignedDigitsIfOk bs r) _ c.in-Ok-None.field-0 (search rules) c.in-Ok-None.ensures.value)

pub returns-in-Ok-Some-clause-given : goal.returns-in-Ok-Some-clause-given
returns-in-Ok-Some-clause-given c =
    subst (λ (o : Option Text). IsNumber c.args.limits.default_ticks c.args.limits.ticks o c.in-Ok-Some.budget) (one_text-rows (found_of c.args.matches.now) (codes "budget"))
    (the_option c.args.limits.default_ticks c.args.limits.ticks (λ bs r. ParsesUnsigned 32 10 bs r × ExplainsUnsignedError 10 bs r × HasUnsignedDigitsIfOk bs r) _ c.in-Ok-Some.budget c.in-Ok-Some.field-0 (search rules)
    c.in-Ok-Some.ensures.none c.in-Ok-Some.ensures.value (λ t r g. g.0) (omega arith) (omega arith))

pub returns-in-Ok-Some-2-clause-given : goal.returns-in-Ok-Some-2-clause-given
returns-in-Ok-Some-2-clause-given c = λ n is.
    out_of_range c.args.limits.default_ticks c.args.limits.ticks (λ bs r. ParsesUnsigned 32 10 bs r × ExplainsUnsignedError 10 bs r × HasUnsignedDigitsIfOk bs r) _ c.in-Ok-Some.budget c.in-Ok-Some.field-0 (search rules) (inr c.if-budget-limits.false) c.in-Ok-Some.ensures.none c.in-Ok-Some.ensures.value (λ t r g. g.0) n
    (subst (λ (o : Option Text). IsNumber c.args.limits.default_ticks c.args.limits.ticks o n) (sym (one_text-rows (found_of c.args.matches.now) (codes "budget"))) is)

pub returns-in-Ok-Some-2-2-clause-given : goal.returns-in-Ok-Some-2-2-clause-given
returns-in-Ok-Some-2-2-clause-given c = λ n is.
    out_of_range c.args.limits.default_ticks c.args.limits.ticks (λ bs r. ParsesUnsigned 32 10 bs r × ExplainsUnsignedError 10 bs r × HasUnsignedDigitsIfOk bs r) _ c.in-Ok-Some.budget c.in-Ok-Some.field-0 (search rules) (inl c.if-budget-ge1.false) c.in-Ok-Some.ensures.none c.in-Ok-Some.ensures.value (λ t r g. g.0) n
    (subst (λ (o : Option Text). IsNumber c.args.limits.default_ticks c.args.limits.ticks o n) (sym (one_text-rows (found_of c.args.matches.now) (codes "budget"))) is)

pub returns-in-Err-clause-given : goal.returns-in-Err-clause-given
returns-in-Err-clause-given c = λ n is.
    not_read c.args.limits.default_ticks c.args.limits.ticks (λ bs r. ParsesUnsigned 32 10 bs r × ExplainsUnsignedError 10 bs r × HasUnsignedDigitsIfOk bs r) _ c.in-Err.field-0 (few_ticks c.args.limits.ticks c.args.limits.few_ticks) c.in-Err.ensures.none c.in-Err.ensures.value (λ t r g. g.0) n
    (subst (λ (o : Option Text). IsNumber c.args.limits.default_ticks c.args.limits.ticks o n) (sym (one_text-rows (found_of c.args.matches.now) (codes "budget"))) is)
