use Rattle.std.proofs.Common.{rules}
use Rattle.std.proofs.lemmas.Result.{err_from_is_err_and}
use Rattle.fault_lines.specs.Text.{later_turn_text}
use Rattle.byte_io.proofs.Puts.{stopped_at, wrote_more}
use Rattle.fault_lines.proofs.writing.write_later_turns.Goals as goal

pub returns-in_err-write_later_turn : goal.returns-in_err-write_later_turn
returns-in_err-write_later_turn g c =
    let p = err_from_is_err_and c.from_residual.result c.from_residual.ensures.1 in
    rw p.1 (stopped_at later_turn_text c.args.turns.now c.loop-turn.turn-index _ (search rules) c.loop-turn.invariant c.in_err-write_later_turn.ensures)

pub loop-turn-preserved : goal.loop-turn-preserved
loop-turn-preserved g c = wrote_more later_turn_text c.args.turns.now c.loop-turn.turn-index _ (search rules) c.loop-turn.invariant c.in_ok-write_later_turn.ensures
