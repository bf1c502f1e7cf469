-- How a command is done.
-- Numbers of sections are those of OpenCL 1.2; "own" is what this project decided.
use Rattle.std.specs.Fn.{Once}
use denote.Ref.{MutBor}

-- what the call of `how` with a machine and a command may answer, and leave of the machine, is a step (3.2.1)
abbrev pub DoesSteps : {F D C R : Type 0} → (D → C → R → D → Type 0) → Once F (MutBor D × (C × Unit {0})) (R × (MutBor D × Unit {0})) → F → Type 0
DoesSteps {F} {D} {C} {R} step calls how = (before after : MutBor D) (command : C) (reply : R) → calls.post how (before, (command, tt)) (reply, (after, tt)) → step before.now command reply after.now
