use Rattle.std.proofs.Common.{◌≡◌, drop}
use Rattle.origins.specs.Names.{kind_behind, kind_of}
use Rattle.origins.proofs.names.kind_of.Given as goal

abbrev pub invariant-loop-i : goal.invariant-loop-i
invariant-loop-i l = kind_behind l.found (drop l.i l.names) l.name ≡ kind_of l.names l.name
