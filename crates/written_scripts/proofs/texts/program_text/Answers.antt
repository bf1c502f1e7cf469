use Rattle.std.proofs.lemmas.Result.{IfOk-weaker}
use Rattle.written_scripts.proofs.TextLaws.{program_is}
use Rattle.written_scripts.proofs.texts.program_text.Goals as goal

pub returns : goal.returns
returns c = IfOk-weaker c.text_of.result _ _ (λ text e. program_is c.args.name.now c.args.source.now text.items _ c.requires.named c.requires.lines c.line_feeds-lines.ensures.value e) c.text_of.ensures
