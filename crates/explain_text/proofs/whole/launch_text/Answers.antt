use Rattle.std.proofs.Common.{◌+◌, List, length, string_bytes, subst}
use Rattle.explanation.specs.declared.told.ParameterFacts.{ParameterFacts}
use Rattle.explain_text.specs.Texts.{AddsLines, parameters_of}
use Rattle.explain_text.proofs.Added.{lines_alone, lines_more}
use Rattle.explain_text.proofs.whole.launch_text.Goals as goal

pub returns : goal.returns
returns c =
    let count = length (parameters_of c.args.whole.now.memory) in
    let first = string_bytes c.new-out.result in
    let second = string_bytes c.push_line.new.out in
    let third = string_bytes c.push_parameters.new.out in
    let parameters = subst (λ (xs : List ParameterFacts). AddsLines (length xs) second third) c.parameters_of-parameters.ensures c.in_ok-push_parameters.ensures in
    lines_alone (1 + count) first third c.new-out.ensures.bytes (lines_more 1 count first second third c.in_ok-push_line.ensures parameters)
