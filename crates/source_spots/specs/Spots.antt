-- A place of a source as an explanation tells it (own).
use Rattle.std.specs.Prelude.{◌≡◌, ℕ, ◌+◌, Some, List, length, min, slice_get, slice_range, string_bytes}
use Rattle.explanation.specs.Lines.{told_line}
use Rattle.explanation.specs.declared.places.CallSite.{CallSite}
use Rattle.explanation.specs.declared.places.LoopSite.{LoopSite}
use Rattle.text_lines.specs.Lines.{line_of, BeginsLine, EndsLine}

-- the line of the byte `at`, the column from the line's beginning, and the line of the script, if the source begins at
-- its line `first`
pub record IsPlace (text : List ℕ) (first at line column script_line : ℕ) : Type 0 where
  pub counted : line ≡ line_of text at
  pub begin : ℕ
  pub begins : BeginsLine text at begin
  pub behind : begin + column ≡ at + 1
  pub shifted : script_line + 1 ≡ first + line

-- the line of the byte `at` as it is told
pub record IsToldLine (text : List ℕ) (at : ℕ) (told : List ℕ) : Type 0 where
  pub begin : ℕ
  pub end : ℕ
  pub begins : BeginsLine text at begin
  pub ends : EndsLine text begin end
  pub is : told ≡ told_line (slice_range text begin end)

-- each loop is in its turn among these, both from the outermost one on
abbrev pub HaveTurns : List ℕ → List LoopSite → Type 0
HaveTurns turns loops = (k : ℕ) (site : LoopSite) → slice_get loops k ≡ Some site → site.turn ≡ slice_get turns k

-- the call of a helper that begins at the byte `at`, as it is told with its line
pub record IsCall (text : List ℕ) (first at : ℕ) (call : CallSite) : Type 0 where
  pub begins : call.offset ≡ min at (length text)
  pub stands : IsPlace text first call.offset call.line call.column call.script_line
  pub told : IsToldLine text call.offset (string_bytes call.text)

-- each call is that of the byte of its number among these
abbrev pub BeginAt : List ℕ → ℕ → List ℕ → List CallSite → Type 0
BeginAt text first through calls = (k at : ℕ) (call : CallSite) → slice_get through k ≡ Some at → slice_get calls k ≡ Some call → IsCall text first at call

-- the calls that begin at these bytes, each with its line, in this order
pub record AreCalls (text : List ℕ) (first : ℕ) (through : List ℕ) (calls : List CallSite) : Type 0 where
  pub many : length calls ≡ length through
  pub each : BeginAt text first through calls
