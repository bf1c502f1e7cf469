use Rattle.std.proofs.Common.{rules, ◌-◌, length, arith}
use Rattle.simfile.proofs.Places.{feeds_between, few_between}
use Rattle.simfile.proofs.script.place_of.Goals as goal

pub returns : goal.returns
returns c =
    let at = length c.args.bytes.now - length c.args.rest.now in
    let between = feeds_between c.args.bytes.now c.args.from.at at (omega (arith, c.requires.onward)) in
    let few = few_between c.args.bytes.now c.args.from.at at (omega (arith, c.requires.onward)) (omega arith) in
    record {
      at = search rules;
      line = omega (arith, between, c.line_feeds.ensures.value, c.requires.placed.line);
      few = omega (arith, few, c.line_feeds.ensures.within, c.requires.placed.few, c.requires.onward);
      source_line = search rules;
    }
