-- The lines of a script of version 3, and the source that some of them are (own).
use Rattle.std.specs.Prelude.{ℕ, ◌-◌, suc, ◌==◌, Bool, Option, None, Some, option_map, List, [], ◌∷◌, ◌++◌, length, take, drop, if◌then◌else◌}
use Rattle.std.specs.List.{slice_split, flat_map}
use Rattle.clmodel.specs.Setup.{same_text}
use Rattle.script_lines.specs.Plain.{spaced}
use Rattle.simfile.specs.Script.{line_feed}

abbrev pub is_feed : ℕ → Bool
is_feed b = b == 10

-- a text without the line feed at its end, where it has one
abbrev pub before_end : List ℕ → List ℕ
before_end text = if same_text (drop (length text - 1) text) line_feed then take (length text - 1) text else text

-- the lines of a text, without their line feeds; the last one may lack it in the text
abbrev pub lines_of : List ℕ → List (List ℕ)
lines_of text = slice_split is_feed (before_end text)

-- lines as a text, each with its line feed
abbrev pub lines_text : List (List ℕ) → List ℕ
lines_text lines = flat_map (λ line. line ++ line_feed) lines

-- a text whose last line has its line feed
abbrev pub ended : List ℕ → List ℕ
ended text = before_end text ++ line_feed

-- how many lines stand in front of the first one that is this word
abbrev pub first_end : List ℕ → List (List ℕ) → Option ℕ
first_end word [] = None
first_end word (line ∷ lines) = if same_text (spaced line) word then Some 0 else option_map (λ n. suc n) (first_end word lines)
