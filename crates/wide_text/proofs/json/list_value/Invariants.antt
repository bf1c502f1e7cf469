use Rattle.std.proofs.Common.{◌≡◌, map, take}
use Rattle.serde_json.specs.View.{view}
use Rattle.wide_text.proofs.json.list_value.Given as goal

abbrev pub invariant-loop-it : goal.invariant-loop-it
invariant-loop-it g l = map view l.values.items ≡ map g.T.ToJson.json (take l.it-index l.list)
