use Rattle.clsyntax_terms.specs.declared.state.Frames.{size-Frames}
use Rattle.clsyntax_terms.proofs.operators.+close.Given as goal

-- the frames that are left
abbrev pub decreases-close : goal.decreases-close
decreases-close l = size-Frames l.operand.stack.frames.value
