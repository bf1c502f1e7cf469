-- The text of a command that was refused (own): its place, its refusal and a sentence that says why. The sentence and
-- the quoted line are any text.
use Rattle.std.specs.Prelude.{◌≡◌, ℕ, List, ◌++◌, codes, decimal, string_bytes}
use Rattle.refused_commands.specs.declared.told.RefusedCommand.{RefusedCommand}
use Rattle.explain_text.specs.Texts.{place_text}

-- the refusal, as its reply has it, and behind it a sentence
abbrev pub IsTitle : RefusedCommand → List ℕ → Type 0
IsTitle told title = (why : List ℕ) × (title ≡ codes "refused " ++ decimal told.number ++ codes " " ++ told.name.now ++ why)

-- the place in the script, the title, and the line
abbrev pub IsRefusedText : RefusedCommand → List ℕ → Type 0
IsRefusedText told text =
    (title : List ℕ) × (quote : List ℕ) × IsTitle told title
    × (text ≡ place_text (string_bytes told.script) told.spot.line told.spot.column ++ (codes ": " ++ title ++ codes "\n" ++ quote))
