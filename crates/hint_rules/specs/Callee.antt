-- The function whose arguments go on behind tokens (own).
use Rattle.std.specs.Prelude.{ℕ, zero, suc, ◌-◌, ◌==◌, Bool, true, false, ◌&&◌, List, length, take, slice_get, Option, None, if◌then◌else◌}
use Rattle.clsyntax_lex.specs.declared.token.Token.{Token}
use Rattle.hint_rules.specs.declared.marks.Mark.{Mark}
use Rattle.hint_rules.specs.declared.marks.Mark.TheVariants as marks
use Rattle.hint_rules.specs.Marks.{mark_at}
use Rattle.hint_rules.specs.Near.{nth_last}
use Rattle.hint_rules.specs.Seen.{one_more}

abbrev pub is_open_round : Mark → Bool
is_open_round marks.OpenRound = true
is_open_round _ = false

-- the bracket of a call that stays open, since no round bracket behind it is one too many
abbrev pub begins_arguments : ℕ → Mark → Bool
begins_arguments closed mark = (closed == 0) && is_open_round mark

-- how many round brackets are closed from a token on, with this one in front
abbrev pub closed_with : ℕ → Mark → ℕ
closed_with closed marks.OpenRound = closed - 1
closed_with closed marks.CloseRound = one_more closed
closed_with closed _ = closed

-- among the first n tokens, behind which so many round brackets are closed: the last one that stays open, and the token
-- in front of it
unfoldable pub callee_before : List Token → ℕ → ℕ → Option Token
callee_before tokens closed zero = None
callee_before tokens closed (suc n) =
    let mark = mark_at (slice_get tokens n) in
    if begins_arguments closed mark then nth_last (take n tokens) 0 else callee_before tokens (closed_with closed mark) n

abbrev pub callee : List Token → Option Token
callee tokens = callee_before tokens 0 (length tokens)
