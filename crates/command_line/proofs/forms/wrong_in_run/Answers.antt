use Rattle.std.proofs.Common.{rules, ◌∙◌, ap, not}
use Rattle.clap.specs.Words.{found_of, rows_of}
use Rattle.command_line.specs.CommandLine.{GivesLimits, GivesNumbers}
use Rattle.command_line.proofs.CommandLines.{some_read}
use Rattle.command_line.proofs.forms.wrong_in_run.Goals as goal

pub returns : goal.returns
returns c =
    let rows = rows_of (found_of c.args.run.now) in
    record {
      limits = λ none. absurd (some_read (GivesLimits rows) c.limits_of.result c.limits_of.ensures (c.is_none.ensures ∙ ap not c.if-is_none.false) none);
      format = λ limits given none. absurd (some_read (GivesNumbers rows) c.numbers_of.result c.numbers_of.ensures (c.is_none-2.ensures ∙ ap not c.if-is_none-2.false) none);
      budget = λ limits numbers given format. search rules;
    }
