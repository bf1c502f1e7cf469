use Rattle.std.proofs.Common.{map, take}
use Rattle.serde_json.specs.View.{view}
use Rattle.explain_json.proofs.Told.{AreTold}
use Rattle.explain_json.proofs.reasons.reasons_value.Given as goal

abbrev pub invariant-loop-reason : goal.invariant-loop-reason
invariant-loop-reason l = AreTold (take l.reason-index l.why) (map view l.values.items)
