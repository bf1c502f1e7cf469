use Rattle.std.proofs.Common.{rules, subst, sym, codes, Option}
use Rattle.std.specs.Str.Parse.{ParsesUnsigned, ExplainsUnsignedError, HasUnsignedDigitsIfOk}
use Rattle.clap.specs.Words.{Text, found_of}
use Rattle.clap.proofs.WalkLemmas.{one_text-rows}
use Rattle.command_line.specs.CommandLine.{IsSeed}
use Rattle.command_line.proofs.CommandLines.{no_seed, not_a_seed, the_seed}
use Rattle.command_line.proofs.forms.seed_of.Goals as goal

pub returns-in-Ok-None : goal.returns-in-Ok-None
returns-in-Ok-None c =
    subst (λ (o : Option Text). IsSeed o 1) (one_text-rows (found_of c.args.explore.now) (codes "seed"))
    (no_seed (λ bs r. ParsesUnsigned 64 10 bs r × ExplainsUnsignedError 10 bs r × HasUnsignedDigitsIfOk bs r) _ c.in-Ok-None.field-0 (search rules) c.in-Ok-None.ensures.value)

pub returns-in-Ok-Some : goal.returns-in-Ok-Some
returns-in-Ok-Some c =
    subst (λ (o : Option Text). IsSeed o c.in-Ok-Some.seed) (one_text-rows (found_of c.args.explore.now) (codes "seed"))
    (the_seed (λ bs r. ParsesUnsigned 64 10 bs r × ExplainsUnsignedError 10 bs r × HasUnsignedDigitsIfOk bs r) _ c.in-Ok-Some.seed c.in-Ok-Some.field-0 (search rules)
    c.in-Ok-Some.ensures.none c.in-Ok-Some.ensures.value (λ t r g. g.0))

pub returns-in-Err : goal.returns-in-Err
returns-in-Err c = λ n is.
    not_a_seed (λ bs r. ParsesUnsigned 64 10 bs r × ExplainsUnsignedError 10 bs r × HasUnsignedDigitsIfOk bs r) _ c.in-Err.field-0 c.in-Err.ensures.none c.in-Err.ensures.value (λ t r g. g.0) n
    (subst (λ (o : Option Text). IsSeed o n) (sym (one_text-rows (found_of c.args.explore.now) (codes "seed"))) is)
