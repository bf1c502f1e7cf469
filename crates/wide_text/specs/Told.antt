-- The text of a script whose replies hold for other bytes (own): the replies as a run writes them, lines beside them
-- that no reply is, and a last line.
use Rattle.std.specs.Prelude.{◌≡◌, ℕ, Bool, All, List, [], ◌∷◌, ◌++◌, drop, length, codes, decimal, ◌==◌, if◌then◌else◌}
use Rattle.std.specs.List.{flat_map}
use Rattle.host_commands.specs.declared.command.Reply.{Reply}
use Rattle.simfile.specs.Lines.{line}
use Rattle.simfile.specs.declared.script.CommandPlace.{CommandPlace}
use Rattle.widening.specs.Widened.{is_free_at}
use Rattle.wide_sources.specs.Words.{IsOneLine}

-- the lines of the commands whose flags are set
abbrev pub lines_of : List Bool → List CommandPlace → List ℕ
lines_of flags [] = []
lines_of flags (place ∷ places) = (if is_free_at flags 0 then place.line ∷ [] else []) ++ lines_of (drop 1 flags) places

-- a line that begins with two blanks, as no reply's does
abbrev pub aside : List ℕ → List ℕ
aside text = codes "  " ++ (text ++ codes "\n")

-- such lines, one after another
abbrev pub AreAsides : List ℕ → Type 0
AreAsides text = (lines : List (List ℕ)) × All IsOneLine lines × (text ≡ flat_map aside lines)

-- the line of each reply, with such lines behind it
abbrev pub AreReplies : List Reply → List ℕ → Type 0
AreReplies [] text = text ≡ []
AreReplies (reply ∷ replies) text = (beside : List ℕ) × (rest : List ℕ) × AreAsides beside × AreReplies replies rest × (text ≡ line reply ++ (beside ++ rest))

-- numbers with commas between them
abbrev pub rest_text : List ℕ → List ℕ
rest_text numbers = flat_map (λ number. codes ", " ++ decimal number) numbers

-- one line, or several
abbrev pub lines_text : List ℕ → List ℕ
lines_text [] = []
lines_text (line ∷ []) = codes "line " ++ decimal line
lines_text (line ∷ more ∷ lines) = codes "lines " ++ (decimal line ++ rest_text (more ∷ lines))

-- for which bytes replies hold
abbrev pub bytes_text : List ℕ → List ℕ
bytes_text free = if length free == 0 then codes "these bytes alone" else codes "all bytes of " ++ lines_text free

-- what may differ then
abbrev pub reads_text : List ℕ → List ℕ
reads_text reads = if length reads == 0 then [] else codes "; the data of " ++ (lines_text reads ++ codes " may differ")

-- what holds
abbrev pub verdict_text : Bool → List ℕ
verdict_text clean = if clean then codes "clean for " else codes "the same replies for "

-- for which bytes of its writes and fills a script is clean, or has the replies that it has
abbrev pub whole_text : Bool → (free reads : List ℕ) → List ℕ
whole_text clean free reads = verdict_text clean ++ (bytes_text free ++ reads_text reads)

-- the text of a script
abbrev pub IsText : List Reply → Bool → (free reads : List ℕ) → List ℕ → Type 0
IsText replies clean free reads text = (told : List ℕ) × AreReplies replies told × (text ≡ told ++ (whole_text clean free reads ++ codes "\n"))
