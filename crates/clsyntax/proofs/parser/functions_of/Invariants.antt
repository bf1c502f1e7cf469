use Rattle.std.proofs.Common.{◌≡◌, drop}
use Rattle.clsyntax_terms.specs.Machine.{begun}
use Rattle.clsyntax.specs.Reading.{read_from}
use Rattle.clsyntax_terms.specs.Views.{state_of}
use Rattle.clsyntax.proofs.parser.functions_of.Given as goal

-- what is left to read decides
abbrev pub invariant-loop-token : goal.invariant-loop-token
invariant-loop-token l = read_from l.fn.limits l.fn.length (drop l.token-index l.fn.tokens) (state_of l.state.value) ≡ read_from l.fn.limits l.fn.length l.fn.tokens begun
