use Rattle.std.proofs.Common.{rules, tests}
use Rattle.std.proofs.lemmas.Iterator.{items_from_collect, YieldsList-from_map}
use Rattle.std.proofs.lemmas.Iterator.Consumers.{YieldsList-at}
use Rattle.std.proofs.lemmas.Iterator.Splits.{YieldsList-from_slice_split}
use Rattle.fault_lines.specs.Reading.{run_named}
use Rattle.fault_lines.proofs.runs.runs_of.Goals as goal

pub returns : goal.returns
returns c =
    items_from_collect _ c.collect.ensures.ran (YieldsList-from_map _ run_named (YieldsList-at c.map-runs.ensures.source (YieldsList-from_slice_split _ _ c.args.text.now c.split-words.ensures.rest c.split-words.ensures.done c.split-words.ensures.closure (λ x r q k. search (rules, tests)))) c.map-runs.ensures.closure (λ x r q k. search (rules, tests)))
