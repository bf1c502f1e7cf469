use Rattle.std.proofs.Common.{ap, length, ◌∙◌}
use Rattle.placed_scripts.proofs.placed.told_script.Goals as goal

pub returns : goal.returns
returns c = record {
  own = c.own_script-own.result;
  text = c.own_script-own.ensures.text;
  placed = c.own_script-own.ensures.places;
  files = c.own_script-own.ensures.files;
  is = c.told_by.ensures.is;
  count = c.told_by.ensures.count ∙ ap length c.own_script-own.ensures.places;
}
