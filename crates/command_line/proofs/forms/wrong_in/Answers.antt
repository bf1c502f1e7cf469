use Rattle.std.proofs.Common.{rules, ◌∙◌, ap, not, refl}
use Rattle.clap.specs.Words.{found_of, rows_of}
use Rattle.command_line.specs.CommandLine.{GivesFormat, GivesLimits, GivesWiden}
use Rattle.command_line.proofs.CommandLines.{none_read, some_read}
use Rattle.command_line.proofs.forms.wrong_in.Goals as goal

pub returns-then-is_none-3 : goal.returns-then-is_none-3
returns-then-is_none-3 c =
    let rows = rows_of (found_of c.args.values.now) in
    record {
      limits = λ none. absurd (some_read (GivesLimits rows) c.limits_of.result c.limits_of.ensures (c.is_none.ensures ∙ ap not c.if-is_none.false) none);
      format = λ limits given none. absurd (some_read (GivesFormat rows) c.format_of.result c.format_of.ensures (c.is_none-2.ensures ∙ ap not c.if-is_none-2.false) none);
      widen = λ limits json given format none. refl;
      budget = λ limits json widen given format widening.
          absurd (none_read (GivesWiden rows) c.widening_of.result c.widening_of.ensures (c.is_none-3.ensures ∙ ap not c.if-is_none-3.true) widen widening);
    }

pub returns : goal.returns
returns c =
    let rows = rows_of (found_of c.args.values.now) in
    record {
      limits = λ none. absurd (some_read (GivesLimits rows) c.limits_of.result c.limits_of.ensures (c.is_none.ensures ∙ ap not c.if-is_none.false) none);
      format = λ limits given none. absurd (some_read (GivesFormat rows) c.format_of.result c.format_of.ensures (c.is_none-2.ensures ∙ ap not c.if-is_none-2.false) none);
      widen = λ limits json given format none. absurd (some_read (GivesWiden rows) c.widening_of.result c.widening_of.ensures (c.is_none-3.ensures ∙ ap not c.if-is_none-3.false) none);
      budget = λ limits json widen given format widening. search rules;
    }
