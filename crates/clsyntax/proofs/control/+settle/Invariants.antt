use Rattle.clsyntax_terms.specs.declared.state.Frames.{size-Frames}
use Rattle.clsyntax.proofs.control.+settle.Given as goal

-- the frames that are left
abbrev pub decreases-settle : goal.decreases-settle
decreases-settle l = size-Frames l.stack.frames.value
