-- An item makes no more actions than the budget has ticks.
use Rattle.std.proofs.Common.{◌≡◌, ℕ, zero, suc, ◌≤◌, List, [], ◌∷◌, length, true, refl, arith}
use Rattle.clmodel.specs.Next.{Continuation, finish, fail, ask, tick, walk}
use Rattle.clmodel.specs.Law.{is_over}
use Rattle.clmodel.specs.declared.action.Answer.{Answer}

pub walk_is_over : (run : Continuation) (ticks : ℕ) (answers : List Answer) → ticks ≤ length answers → is_over (walk run ticks answers) ≡ true
walk_is_over finish ticks answers h = refl
walk_is_over (fail cause) ticks answers h = refl
walk_is_over (ask wanted after) zero answers h = refl
walk_is_over (ask wanted after) (suc ticks) [] h = absurd (omega arith)
walk_is_over (ask wanted after) (suc ticks) (answer ∷ answers) h = walk_is_over (after answer) ticks answers (omega arith)
walk_is_over (tick after) zero answers h = refl
walk_is_over (tick after) (suc ticks) answers h = walk_is_over after ticks answers (omega arith)
