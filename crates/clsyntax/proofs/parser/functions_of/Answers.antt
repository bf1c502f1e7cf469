-- What is left to read decides, up to the first fault.
use Rattle.std.proofs.Common.{◌+◌, drop, Result, sym, ◌∙◌, subst, arith}
use Rattle.std.proofs.lemmas.Result.{err_from_is_err_and}
use Rattle.clmodel.specs.Tree.{Funcs}
use Rattle.clsyntax_lex.specs.declared.token.SyntaxFault.{SyntaxFault}
use Rattle.clsyntax_terms.specs.Machine.{begun}
use Rattle.clsyntax.specs.Reading.{read_from}
use Rattle.clsyntax_terms.specs.Views.{state_of}
use Rattle.clsyntax.specs.Views.{IsRead}
use Rattle.clsyntax.proofs.Loop.{reads_next, reads_end, unless_memory}
use Rattle.clsyntax.proofs.parser.functions_of.Goals as goal

pub returns-in_err-state : goal.returns-in_err-state
returns-in_err-state c =
    let ts = c.args.tokens.now in
    let limits = c.args.limits in
    let n = c.args.length in
    let i = c.loop-token.token-index in
    let all : Result Funcs SyntaxFault = read_from limits n ts begun in
    let left = reads_next limits n ts i c.token-item.result (state_of c.loop-token.state.value) all (omega arith) c.token-item.is c.loop-token.invariant in
    let p = err_from_is_err_and c.from_residual.result c.from_residual.ensures.1 in
    rw (p.1, p.2) (unless_memory c.in_err-state.field-0.0 _ _ (λ f. sym left ∙ f (read_from limits n (drop (i + 1) ts))) c.in_err-state.ensures)

pub loop-token-preserved : goal.loop-token-preserved
loop-token-preserved c =
    let ts = c.args.tokens.now in
    let limits = c.args.limits in
    let n = c.args.length in
    let i = c.loop-token.token-index in
    sym (c.in_ok-state.ensures (read_from limits n (drop (i + 1) ts))) ∙ reads_next limits n ts i c.token-item.result (state_of c.loop-token.state.value) (read_from limits n ts begun) (omega arith) c.token-item.is c.loop-token.invariant

pub returns : goal.returns
returns c =
    let ts = c.args.tokens.now in
    let limits = c.args.limits in
    let n = c.args.length in
    let R : Result Funcs SyntaxFault → Type 0 = λ r. IsRead c.finish.result r in
    subst R (reads_end limits n ts c.loop-token.token-index (state_of c.loop-token.state.value) (read_from limits n ts begun) (omega arith) c.loop-token.invariant) c.finish.ensures
