use Rattle.std.proofs.Common.{◌∙◌, ap}
use Rattle.clsim.specs.Shows.{plain_shows}
use Rattle.clsim.proofs.shows.text_shows.Goals as goal

pub returns-clause-shown : goal.returns-clause-shown
returns-clause-shown c = record {
  commands = c.in_ok-script.script.commands.items;
  places = c.in_ok-script.script.places.items;
  script = c.in_ok-script.ensures.found;
  at = c.in_ok-script.ensures.placed;
  are = c.in_ok-plain_shows.ensures ∙ ap (plain_shows c.args.style) c.as_slice.ensures.value;
}
