use Rattle.lower_code.proofs.Tables.{barriers_before, complete_before, counted_before, lengths_before, measured_before, nodes_before, ends_before, widths_before, elements_before}
use Rattle.lower_code.proofs.holes.Helpers.before.Goals as goal

pub invariant_of-result : goal.invariant_of-result
invariant_of-result c = record {
  barriers = barriers_before c.args.self.functions.now c.args.self.known.now c.args.place c.requires c.args.self.barriers;
  complete = complete_before c.args.self.functions.now c.args.self.known.now c.args.place c.requires c.args.self.complete;
  counted = counted_before c.args.self.functions.now c.args.self.known.now c.args.place c.requires c.args.self.counted;
  lengths = lengths_before c.args.self.functions.now c.args.self.known.now c.args.place c.requires c.args.self.lengths;
  measured = measured_before c.args.self.functions.now c.args.self.known.now c.args.place c.requires c.args.self.measured;
  nodes = nodes_before c.args.self.functions.now c.args.place c.requires c.args.self.nodes;
  ends_known = ends_before c.args.self.functions.now c.args.self.ends.now c.args.place c.requires c.args.self.ends_known;
  widths = widths_before c.args.self.functions.now c.args.place c.requires c.args.self.widths;
  elements = elements_before c.args.self.functions.now c.args.place c.requires c.args.self.elements;
}
