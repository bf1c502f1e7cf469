use Rattle.std.proofs.Common.{◌≡◌, ◌+◌, ◌∷◌, ◌++◌, [], length, ap, sym, ◌∙◌, arith}
use Rattle.std.proofs.lemmas.List.{length-append, append-nil}
use Rattle.std.proofs.lemmas.Result.{on_ok_weaker, on_err_weaker}
use Rattle.lower_expr.proofs.Growth.{on_err}
use Rattle.lower_code.proofs.Growth.{before, one_before}
use Rattle.regcode.specs.declared.instruction.Instruction.TheVariants as instruction
use Rattle.lower_code.specs.Code.{turn_code}
use Rattle.lower_code.proofs.loops.end_while.Goals as goal

pub returns-clause-code : goal.returns-clause-code
returns-clause-code c =
    on_ok_weaker c.put-2.result (λ h body condition e p.
    let size = ap length e ∙ length-append body condition in
    let by : c.past-by.result ≡ 1 + length body = omega (arith, c.past-by.ensures, size, p) in
    h ∙ ap (λ xs. instruction.Enter c.args.depth ∷ xs) (c.in_ok-put.ensures.code ∙ ap (λ xs. instruction.Jump c.past-by.result ∷ xs) (c.in_ok-end_turn.ensures.code body condition e)
    ∙ ap (λ n. instruction.Jump n ∷ (turn_code c.args.depth body condition ++ c.args.code.now)) by))
    c.put-2.ensures.code

pub returns-in_err-put-clause-longer : goal.returns-in_err-put-clause-longer
returns-in_err-put-clause-longer c =
    on_err c.from_residual-in_err-put.result (before _ _ _ (turn_code c.args.depth c.args.turn []) (c.in_ok-end_turn.ensures.code c.args.turn [] (sym (append-nil c.args.turn))) c.in_err-put.ensures.longer)

pub returns-clause-longer : goal.returns-clause-longer
returns-clause-longer c =
    on_err_weaker c.put-2.result (λ h. before _ _ _ (turn_code c.args.depth c.args.turn []) (c.in_ok-end_turn.ensures.code c.args.turn [] (sym (append-nil c.args.turn))) (one_before _ _ _ _ c.in_ok-put.ensures.code h))
    c.put-2.ensures.longer
