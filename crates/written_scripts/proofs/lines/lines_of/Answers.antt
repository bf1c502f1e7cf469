use Rattle.std.proofs.Common.{rules, tests, ◌∙◌}
use Rattle.std.proofs.lemmas.Iterator.Consumers.{map_from_collect}
use Rattle.std.proofs.lemmas.Iterator.Splits.{YieldsList-from_slice_split}
use Rattle.written_scripts.specs.Lines.{before_end, is_feed}
use Rattle.written_scripts.proofs.lines.lines_of.Goals as goal

pub returns : goal.returns
returns c =
    map_from_collect _ c.collect.ensures.ran
    (YieldsList-from_slice_split _ is_feed (before_end c.args.text.now) (c.split-parts.ensures.rest ∙ c.before_end-front.ensures) c.split-parts.ensures.done c.split-parts.ensures.closure (λ x r q k. search (rules, tests)))
