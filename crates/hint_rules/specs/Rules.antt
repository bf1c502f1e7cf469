-- Rules for the first token that no program has, by the tokens round it (own).
use Rattle.std.specs.Prelude.{ℕ, ◌==◌, nat_lt, Bool, true, false, not, ◌&&◌, ◌||◌, List, map, find, Option, option_map, unwrap_or, if◌then◌else◌}
use Rattle.std.specs.Borrow.{Bor}
use Rattle.opencl_words.specs.declared.words.TheConstants.{NO_STRUCTS}
use Rattle.hint_rules.specs.declared.marks.Mark.{Mark}
use Rattle.hint_rules.specs.declared.marks.Mark.TheVariants as marks
use Rattle.hint_rules.specs.declared.near.Surroundings.{Surroundings}
use Rattle.hint_rules.specs.declared.rules.Is.{Is}
use Rattle.hint_rules.specs.declared.rules.Is.TheVariants as is
use Rattle.hint_rules.specs.declared.rules.SourcePart.{SourcePart}
use Rattle.hint_rules.specs.declared.rules.SourcePart.TheVariants as part
use Rattle.hint_rules.specs.declared.rules.TheConstants.{NO_RULE, RULES}
use Rattle.hint_rules.specs.declared.seen.Seen.{Seen}
use Rattle.hint_rules.specs.Marks.{is_nothing}
use Rattle.hint_rules.specs.Near.{Near, setting_of}
use Rattle.hint_rules.specs.Seen.{is_same}

abbrev pub is_type : Mark → Bool
is_type marks.Type = true
is_type marks.SizeT = true
is_type _ = false

abbrev pub is_space : Mark → Bool
is_space marks.Space = true
is_space marks.Local = true
is_space _ = false

abbrev pub is_assignment : Mark → Bool
is_assignment marks.Assign = true
is_assignment marks.Compound = true
is_assignment _ = false

-- behind which an operand stands
abbrev pub is_operator : Mark → Bool
is_operator marks.Assign = true
is_operator marks.Compound = true
is_operator marks.Star = true
is_operator marks.Minus = true
is_operator marks.And = true
is_operator marks.Greater = true
is_operator marks.Colon = true
is_operator marks.Operator = true
is_operator _ = false

-- with which an operand ends
abbrev pub ends_operand : Mark → Bool
ends_operand marks.Name = true
ends_operand marks.Number = true
ends_operand marks.CloseRound = true
ends_operand marks.CloseSquare = true
ends_operand _ = false

-- what is looked for
abbrev pub fits : Is → Mark → Bool
fits is.Any mark = true
fits is.Type mark = is_type mark
fits is.Space mark = is_space mark
fits is.Assigns mark = is_assignment mark
fits is.Operator mark = is_operator mark
fits (is.One wanted) mark = is_same mark wanted

-- in the block of a function
abbrev pub in_body : Seen → Bool
in_body s = nat_lt 0 s.brackets.braces

-- a declaration: a statement that begins with a type or an address space
abbrev pub declares : Seen → Bool
declares s = in_body s && (is_type s.statement.first || is_space s.statement.first)

-- the address of a name: an & that joins nothing, and the name
abbrev pub takes_address : Seen → Bool
takes_address s = is_same s.tail.last marks.Name && is_same s.tail.second marks.And && not (ends_operand s.tail.third)

-- the parts of a source
abbrev pub is_in : SourcePart → Seen → Bool
is_in part.Anywhere s = true
is_in part.Outside s = not (in_body s) && (s.brackets.rounds == 0)
is_in part.Head s = not (in_body s) && nat_lt 0 s.brackets.rounds
is_in part.Body s = in_body s
is_in part.First s = in_body s && is_nothing s.statement.first
is_in part.Second s = in_body s && s.statement.is_one
is_in part.Declared s = declares s && (s.brackets.rounds == 0)
is_in part.Length s = declares s && nat_lt 0 s.brackets.squares && not s.statement.assigns
is_in part.Local s = in_body s && is_same s.statement.first marks.Local
is_in part.Loop s = in_body s && is_same s.statement.first marks.For
is_in part.Round s = in_body s && nat_lt 0 s.brackets.rounds
is_in part.Address s = in_body s && takes_address s

-- in which part of a source, behind which two tokens, and at which one
abbrev pub Looked : Type 0
Looked = SourcePart × Is × Is × Is

-- rules, each with what it says
abbrev pub Rules : Type 0
Rules = List (Looked × List ℕ)

-- those of a table that holds its texts by reference
abbrev pub rows : List (Looked × Bor (List ℕ)) → Rules
rows table = map (λ rule. (rule.0, rule.1.now)) table

-- the rules of the code
abbrev pub all_rules : Rules
all_rules = map (λ rule. (rule.0, rule.1.now)) RULES

-- A rule fits a place where the token at it, the last one and the one in front of that are what it looks for, in its
-- part of a source.
abbrev pub meets : Looked → Surroundings → Bool
meets looked p = fits looked.3 p.here && fits looked.2 p.seen.tail.last && fits looked.1 p.seen.tail.second && is_in looked.0 p.seen

-- what the first of some rules says that fits
abbrev pub first_said : Rules → Surroundings → Option (List ℕ)
first_said rules p = option_map (λ rule. rule.1) (find (λ rule. meets rule.0 p) rules)

-- what -> is read as
abbrev pub is_arrow : Mark → Mark → Bool
is_arrow first second = is_same first marks.Minus && is_same second marks.Greater

-- what is said of a place: that there are no fields where an arrow stands; else what the first rule says that fits
abbrev pub setting_said : Surroundings → List ℕ
setting_said p =
    if is_arrow p.here p.next || is_arrow p.seen.tail.last p.here then NO_STRUCTS.now
    else unwrap_or (first_said all_rules p) NO_RULE.now

abbrev pub token_said : Near → List ℕ
token_said n = setting_said (setting_of n)
