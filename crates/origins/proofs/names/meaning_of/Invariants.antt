use Rattle.std.proofs.Common.{◌≡◌, drop}
use Rattle.origins.specs.Names.{meaning_behind, meaning_of}
use Rattle.origins.proofs.names.meaning_of.Given as goal

abbrev pub invariant-loop-i : goal.invariant-loop-i
invariant-loop-i l = meaning_behind l.found (drop l.i l.names) l.name ≡ meaning_of l.names l.name
