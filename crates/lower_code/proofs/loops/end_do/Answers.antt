use Rattle.std.proofs.Common.{[], sym}
use Rattle.std.proofs.lemmas.List.{append-nil}
use Rattle.std.proofs.lemmas.Result.{on_err_weaker}
use Rattle.lower_code.specs.Code.{turn_code}
use Rattle.lower_code.proofs.Growth.{before}
use Rattle.lower_code.proofs.loops.end_do.Goals as goal

pub returns-clause-longer : goal.returns-clause-longer
returns-clause-longer c =
    on_err_weaker c.put.result (before _ _ _ (turn_code c.args.depth c.args.turn []) (c.in_ok-end_turn.ensures.code c.args.turn [] (sym (append-nil c.args.turn)))) c.put.ensures.longer
