use Rattle.std.proofs.Common.{rules, tests}
use Rattle.std.proofs.lemmas.Iterator.{items_from_collect, YieldsList-from_map}
use Rattle.std.proofs.lemmas.Iterator.Consumers.{YieldsList-at}
use Rattle.std.proofs.lemmas.Iterator.Splits.{YieldsList-from_slice_split}
use Rattle.fault_lines.specs.Fields.{turn_of}
use Rattle.fault_lines.proofs.reading.numbers_of.Goals as goal

pub returns : goal.returns
returns c =
    items_from_collect _ c.collect.ensures.ran (YieldsList-from_map _ turn_of (YieldsList-at c.map-numbers.ensures.source (YieldsList-from_slice_split _ _ c.args.text.now c.split-parts.ensures.rest c.split-parts.ensures.done c.split-parts.ensures.closure (λ x r q k. search (rules, tests)))) c.map-numbers.ensures.closure (λ x r q k. search (rules, tests)))
