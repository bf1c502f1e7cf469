use Rattle.simfile.proofs.stepwise.count_lines.Goals as goal

pub returns : goal.returns
returns c = c.line_feeds.ensures.value
