use Rattle.std.proofs.Common.{◌≡◌, ◌++◌, reverse}
use Rattle.lower_code.specs.Parts.{whole}
use Rattle.lower.specs.Bodies.{left, EachKnown}
use Rattle.lower.proofs.Bodies.{work}
use Rattle.lower.proofs.expansion.expand.Given as goal

abbrev pub invariant-loop-body : goal.invariant-loop-body
invariant-loop-body l = record {
  known : EachKnown l.bodies.items;
  code : l.code.items ++ left (reverse l.bodies.items) ≡ whole (reverse l.fn.parts.items);
}

abbrev pub decreases-loop-body : goal.decreases-loop-body
decreases-loop-body l = work l.bodies.items
