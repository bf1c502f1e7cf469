use Rattle.std.proofs.Common.{◌∙◌, ℕ, Ok, rules, tests}
use Rattle.std.proofs.lemmas.Iterator.{items_from_collect, YieldsList-from_map}
use Rattle.std.proofs.lemmas.Iterator.Consumers.{YieldsList-at}
use Rattle.std.proofs.lemmas.Iterator.Splits.{YieldsList-from_slice_split}
use Rattle.text_lines.specs.Texts.{number_below}
use Rattle.simfile.proofs.fields.numbers_of.Goals as goal

pub returns : goal.returns
returns c =
    c.new.ensures ∙ items_from_collect {E = ℕ} (Ok c.in_ok-collect.field-0) c.in_ok-collect.ensures.ran (YieldsList-from_map _ (number_below 18446744073709551616) (YieldsList-at c.map-numbers.ensures.source (YieldsList-from_slice_split _ _ c.args.text.now c.split-parts.ensures.rest c.split-parts.ensures.done c.split-parts.ensures.closure (λ x r q k. search (rules, tests)))) c.map-numbers.ensures.closure (λ x r q k. search (rules, tests)))
