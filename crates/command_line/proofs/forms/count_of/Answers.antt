use Rattle.std.proofs.Common.{rules, arith, subst, sym, inl, inr, Option, None, Some}
use Rattle.std.specs.Str.Parse.{ParsesUnsigned, ExplainsUnsignedError, HasUnsignedDigitsIfOk}
use Rattle.clap.specs.Words.{Text, found_of}
use Rattle.clap.proofs.WalkLemmas.{one_text-rows}
use Rattle.command_line.specs.CommandLine.{IsCount}
use Rattle.command_line.proofs.CommandLines.{counted, no_count, no_option, not_counted, not_read, out_of_range, the_option}
use Rattle.command_line.proofs.forms.count_of.Goals as goal

pub returns-in-Ok-None : goal.returns-in-Ok-None
returns-in-Ok-None c =
    subst (λ (o : Option Text). IsCount c.args.most o None) (one_text-rows (found_of c.args.matches.now) c.args.name.now)
    (no_count c.args.most _ (no_option 0 c.args.most (λ bs r. ParsesUnsigned 32 10 bs r × ExplainsUnsignedError 10 bs r × HasUnsignedDigitsIfOk bs r) _ c.in-Ok-None.field-0 (search rules) c.in-Ok-None.ensures.value))

pub returns-in-Ok-Some : goal.returns-in-Ok-Some
returns-in-Ok-Some c =
    subst (λ (o : Option Text). IsCount c.args.most o (Some c.in-Ok-Some.count)) (one_text-rows (found_of c.args.matches.now) c.args.name.now)
    (counted c.args.most _ c.in-Ok-Some.count (omega arith) (the_option 0 c.args.most (λ bs r. ParsesUnsigned 32 10 bs r × ExplainsUnsignedError 10 bs r × HasUnsignedDigitsIfOk bs r) _ c.in-Ok-Some.count c.in-Ok-Some.field-0 (search rules)
    c.in-Ok-Some.ensures.none c.in-Ok-Some.ensures.value (λ t r g. g.0) (omega arith) (omega arith)))

pub returns-in-Ok-Some-2 : goal.returns-in-Ok-Some-2
returns-in-Ok-Some-2 c = λ count is.
    not_counted c.args.most _
    (out_of_range 0 c.args.most (λ bs r. ParsesUnsigned 32 10 bs r × ExplainsUnsignedError 10 bs r × HasUnsignedDigitsIfOk bs r) _ c.in-Ok-Some.count c.in-Ok-Some.field-0 (search rules) (inr c.if-count-most.false) c.in-Ok-Some.ensures.none c.in-Ok-Some.ensures.value (λ t r g. g.0))
    count (subst (λ (o : Option Text). IsCount c.args.most o count) (sym (one_text-rows (found_of c.args.matches.now) c.args.name.now)) is)

pub returns-in-Ok-Some-2-2 : goal.returns-in-Ok-Some-2-2
returns-in-Ok-Some-2-2 c = λ count is.
    not_counted c.args.most _
    (out_of_range 0 c.args.most (λ bs r. ParsesUnsigned 32 10 bs r × ExplainsUnsignedError 10 bs r × HasUnsignedDigitsIfOk bs r) _ c.in-Ok-Some.count c.in-Ok-Some.field-0 (search rules) (inl c.if-count-ge1.false) c.in-Ok-Some.ensures.none c.in-Ok-Some.ensures.value (λ t r g. g.0))
    count (subst (λ (o : Option Text). IsCount c.args.most o count) (sym (one_text-rows (found_of c.args.matches.now) c.args.name.now)) is)

pub returns-in-Err : goal.returns-in-Err
returns-in-Err c = λ count is.
    not_counted c.args.most _
    (not_read 0 c.args.most (λ bs r. ParsesUnsigned 32 10 bs r × ExplainsUnsignedError 10 bs r × HasUnsignedDigitsIfOk bs r) _ c.in-Err.field-0 (omega arith) c.in-Err.ensures.none c.in-Err.ensures.value (λ t r g. g.0))
    count (subst (λ (o : Option Text). IsCount c.args.most o count) (sym (one_text-rows (found_of c.args.matches.now) c.args.name.now)) is)
