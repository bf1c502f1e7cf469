-- A fault of a source, told (own).
use Rattle.std.specs.Prelude.{◌≡◌, ℕ, ◌+◌, ◌-◌, ◌^◌, min, max, List, [], ◌++◌, length, slice_range, codes, string_bytes, Option, None, Some, option_copied}
use Rattle.explanation.specs.Lines.{told_line}
use Rattle.explain_text.specs.Texts.{place_text}
use Rattle.opencl_words.specs.Spelling.{word_at}
use Rattle.text_lines.specs.Lines.{line_of, BeginsLine, EndsLine}
use Rattle.build_hints.specs.Hints.{fault_said}
use Rattle.build_hints.specs.Places.{fault_place}
use Rattle.build_hints.specs.Titles.{kind_of, number_of, name_of, title_of}
use Rattle.build_hints.specs.declared.faults.Refused.{Refused}
use Rattle.build_hints.specs.declared.refusals.Refusal.{Refusal}

-- what a fault is, where it lies in a source that begins at this line of its file, and what is said there
pub record IsRefusal (source : List ℕ) (first_line : ℕ) (fault : Refused) (refusal : Refusal) : Type 0 where
  pub kind : refusal.kind.now ≡ kind_of fault
  pub number : refusal.number ≡ number_of fault
  pub name : refusal.name.now ≡ name_of fault
  pub offset : refusal.offset ≡ min (fault_place fault) (length source)
  pub extent : refusal.length ≡ max (length (word_at source refusal.offset)) 1
  pub line : refusal.line ≡ line_of source refusal.offset
  pub script_line : refusal.script_line ≡ min (first_line + (refusal.line - 1)) (2 ^ 64 - 1)
  pub begin : ℕ
  pub end : ℕ
  pub begins : BeginsLine source refusal.offset begin
  pub ends : EndsLine source begin end
  pub column : begin + refusal.column ≡ refusal.offset + 1
  pub text : string_bytes refusal.text ≡ told_line (slice_range source begin end)
  pub title : refusal.title.now ≡ title_of fault
  pub hint : option_copied refusal.hint ≡ fault_said source fault refusal.offset

-- the line of a hint
abbrev pub hint_line : List ℕ → List ℕ
hint_line hint = codes "  hint: " ++ hint ++ codes "\n"

-- and of one that there may be
abbrev pub hint_lines : Option (List ℕ) → List ℕ
hint_lines None = []
hint_lines (Some hint) = hint_line hint

-- A text tells a fault: its place in the file that is named, what it says, its line with carets, and the line of its
-- hint.
pub record TellsRefusal (name source : List ℕ) (first_line : ℕ) (fault : Refused) (text : List ℕ) : Type 0 where
  pub refusal : Refusal
  pub is : IsRefusal source first_line fault refusal
  pub quote : List ℕ
  pub told : text ≡ (place_text name refusal.script_line refusal.column ++ (codes ": " ++ refusal.title.now ++ codes "\n" ++ quote))
      ++ hint_lines (option_copied refusal.hint)
