use Rattle.std.proofs.Common.{◌∙◌}
use Rattle.std.proofs.lemmas.Result.{IfOk-weaker}
use Rattle.script_lines.proofs.Grammar.{read_said, said_read}
use Rattle.script_lines.proofs.reading.line_says.Goals as goal

pub returns : goal.returns
returns c =
    let text = c.as_slice.ensures.value ∙ c.in_ok-text.ensures in
    record {
      found = IfOk-weaker c.text_says.result _ _ (λ told. read_said c.args.line.now _ told text) c.text_says.ensures;
      only = λ says h. IfOk-weaker c.text_says.result _ _ (λ told. said_read c.args.line.now _ says told text h) c.text_says.ensures;
    }
