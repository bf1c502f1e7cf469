use Rattle.std.proofs.Common.{rules, arith, subst, sym, inl, inr, codes, Option}
use Rattle.std.specs.Str.Parse.{ParsesUnsigned, ExplainsUnsignedError, HasUnsignedDigitsIfOk}
use Rattle.clap.specs.Words.{Text, found_of}
use Rattle.clap.proofs.WalkLemmas.{one_text-rows}
use Rattle.command_line.specs.CommandLine.{IsNumber}
use Rattle.command_line.proofs.CommandLines.{no_option, not_read, out_of_range, the_option}
use Rattle.command_line.proofs.forms.workers_of.Goals as goal

pub returns-in-Ok-None-clause-given : goal.returns-in-Ok-None-clause-given
returns-in-Ok-None-clause-given c =
    subst (λ (o : Option Text). IsNumber 1 16 o 1) (one_text-rows (found_of c.args.run.now) (codes "workers"))
    (no_option 1 16 (λ bs r. ParsesUnsigned 32 10 bs r × ExplainsUnsignedError 10 bs r × HasUnsignedDigitsIfOk bs r) _ c.in-Ok-None.field-0 (search rules) c.in-Ok-None.ensures.value)

pub returns-in-Ok-Some-clause-given : goal.returns-in-Ok-Some-clause-given
returns-in-Ok-Some-clause-given c =
    subst (λ (o : Option Text). IsNumber 1 16 o c.in-Ok-Some.workers) (one_text-rows (found_of c.args.run.now) (codes "workers"))
    (the_option 1 16 (λ bs r. ParsesUnsigned 32 10 bs r × ExplainsUnsignedError 10 bs r × HasUnsignedDigitsIfOk bs r) _ c.in-Ok-Some.workers c.in-Ok-Some.field-0 (search rules)
    c.in-Ok-Some.ensures.none c.in-Ok-Some.ensures.value (λ t r g. g.0) (omega arith) (omega arith))

pub returns-in-Ok-Some-2-clause-given : goal.returns-in-Ok-Some-2-clause-given
returns-in-Ok-Some-2-clause-given c = λ n is.
    out_of_range 1 16 (λ bs r. ParsesUnsigned 32 10 bs r × ExplainsUnsignedError 10 bs r × HasUnsignedDigitsIfOk bs r) _ c.in-Ok-Some.workers c.in-Ok-Some.field-0 (search rules) (inr c.if-workers-le-MAX_WORKERS.false) c.in-Ok-Some.ensures.none c.in-Ok-Some.ensures.value (λ t r g. g.0) n
    (subst (λ (o : Option Text). IsNumber 1 16 o n) (sym (one_text-rows (found_of c.args.run.now) (codes "workers"))) is)

pub returns-in-Ok-Some-2-2-clause-given : goal.returns-in-Ok-Some-2-2-clause-given
returns-in-Ok-Some-2-2-clause-given c = λ n is.
    out_of_range 1 16 (λ bs r. ParsesUnsigned 32 10 bs r × ExplainsUnsignedError 10 bs r × HasUnsignedDigitsIfOk bs r) _ c.in-Ok-Some.workers c.in-Ok-Some.field-0 (search rules) (inl c.if-workers-ge1.false) c.in-Ok-Some.ensures.none c.in-Ok-Some.ensures.value (λ t r g. g.0) n
    (subst (λ (o : Option Text). IsNumber 1 16 o n) (sym (one_text-rows (found_of c.args.run.now) (codes "workers"))) is)

pub returns-in-Err-clause-given : goal.returns-in-Err-clause-given
returns-in-Err-clause-given c = λ n is.
    not_read 1 16 (λ bs r. ParsesUnsigned 32 10 bs r × ExplainsUnsignedError 10 bs r × HasUnsignedDigitsIfOk bs r) _ c.in-Err.field-0 (omega arith) c.in-Err.ensures.none c.in-Err.ensures.value (λ t r g. g.0) n
    (subst (λ (o : Option Text). IsNumber 1 16 o n) (sym (one_text-rows (found_of c.args.run.now) (codes "workers"))) is)
