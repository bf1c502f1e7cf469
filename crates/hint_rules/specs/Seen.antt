-- What is known of tokens that stand in front of a place (own).
use Rattle.std.specs.Prelude.{ℕ, ◌+◌, ◌-◌, ◌^◌, min, Bool, true, false, ◌||◌, List, fold, if◌then◌else◌}
use denote.Enum.Bare.{sameb}
use Rattle.clsyntax_lex.specs.declared.token.Token.{Token}
use Rattle.hint_rules.specs.contracts.marks.Mark.{the_type}
use Rattle.hint_rules.specs.declared.marks.Mark.{Mark}
use Rattle.hint_rules.specs.declared.marks.Mark.TheVariants as marks
use Rattle.hint_rules.specs.declared.seen.Brackets.{Brackets}
use Rattle.hint_rules.specs.declared.seen.Seen.{Seen}
use Rattle.hint_rules.specs.declared.seen.StatementSoFar.{StatementSoFar}
use Rattle.hint_rules.specs.Marks.{mark_of, is_nothing}

-- whether two marks are one
abbrev pub is_same : Mark → Mark → Bool
is_same a b = sameb the_type a b

-- one more, as far as a number of 64 bits goes
abbrev pub one_more : ℕ → ℕ
one_more n = min (n + 1) (2 ^ 64 - 1)

-- how many brackets of a kind are open behind one token more; a closing one too many closes nothing
abbrev pub open_with : ℕ → Mark → Mark → Mark → ℕ
open_with n mark opening closing = if is_same mark opening then one_more n else (if is_same mark closing then n - 1 else n)

abbrev pub brackets_with : Brackets → Mark → Brackets
brackets_with b mark = record {
  rounds = open_with b.rounds mark marks.OpenRound marks.CloseRound;
  squares = open_with b.squares mark marks.OpenSquare marks.CloseSquare;
  braces = open_with b.braces mark marks.OpenBrace marks.CloseBrace;
}

abbrev pub ends_statement : Mark → Bool
ends_statement marks.Semicolon = true
ends_statement marks.OpenBrace = true
ends_statement marks.CloseBrace = true
ends_statement _ = false

-- a statement without tokens
abbrev pub no_statement : StatementSoFar
no_statement = record { first = marks.Nothing; is_one = false; assigns = false }

-- the first token of a statement with one more
abbrev pub first_with : Mark → Mark → Mark
first_with first mark = if is_nothing first then mark else first

-- the statement that goes on behind one token more
abbrev pub statement_with : StatementSoFar → Mark → StatementSoFar
statement_with s mark = if ends_statement mark then no_statement else record {
  first = first_with s.first mark;
  is_one = is_nothing s.first;
  assigns = s.assigns || is_same mark marks.Assign;
}

abbrev pub seen_with : Seen → Mark → Seen
seen_with s mark = record {
  tail = record { last = mark; second = s.tail.last; third = s.tail.second };
  brackets = brackets_with s.brackets mark;
  statement = statement_with s.statement mark;
}

-- what is known of no tokens
abbrev pub none_seen : Seen
none_seen = record {
  tail = record { last = marks.Nothing; second = marks.Nothing; third = marks.Nothing };
  brackets = record { rounds = 0; squares = 0; braces = 0 };
  statement = no_statement;
}

-- what is known with these tokens more
abbrev pub seen_behind : Seen → List Token → Seen
seen_behind s tokens = fold (λ known token. seen_with known (mark_of token.kind)) s tokens

abbrev pub seen_of : List Token → Seen
seen_of tokens = seen_behind none_seen tokens
