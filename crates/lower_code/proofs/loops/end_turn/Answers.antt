use Rattle.std.proofs.Common.{◌≡◌, ◌+◌, ◌∷◌, ◌++◌, length, ap, ◌∙◌, arith}
use Rattle.std.proofs.lemmas.List.{length-append}
use Rattle.std.proofs.lemmas.Result.{on_ok_weaker, on_err_weaker}
use Rattle.lower_expr.proofs.Growth.{on_err}
use Rattle.regcode.specs.declared.instruction.Instruction.TheVariants as instruction
use Rattle.lower_code.proofs.Growth.{before, one_before}
use Rattle.lower_code.proofs.Turns.{turn_laid}
use Rattle.lower_code.proofs.loops.end_turn.Goals as goal

pub returns-clause-code : goal.returns-clause-code
returns-clause-code c =
    on_ok_weaker c.put-2.result (λ h body condition e.
    let size = ap length e ∙ length-append body condition in
    let by : c.past-by.result ≡ length body + length condition + 1 = omega (arith, c.past-by.ensures, size) in
    h ∙ ap (λ xs. instruction.Turn c.args.depth ∷ xs) (c.in_ok-put_draft.ensures.code ∙ ap (λ xs. c.args.turn ++ xs) c.in_ok-put.ensures.code)
    ∙ ap (λ xs. instruction.Turn c.args.depth ∷ (xs ++ instruction.Back c.past-by.result ∷ c.args.code.now)) e
    ∙ turn_laid c.args.depth c.past-by.result body condition c.args.code.now by)
    c.put-2.ensures.code

pub returns-in_err-put_draft-clause-longer : goal.returns-in_err-put_draft-clause-longer
returns-in_err-put_draft-clause-longer c =
    on_err c.from_residual-in_err-put_draft.result (one_before _ _ _ _ c.in_ok-put.ensures.code c.in_err-put_draft.ensures.longer)

pub returns-clause-longer : goal.returns-clause-longer
returns-clause-longer c =
    on_err_weaker c.put-2.result (λ h. one_before _ _ _ _ c.in_ok-put.ensures.code (before _ _ _ _ c.in_ok-put_draft.ensures.code h)) c.put-2.ensures.longer
