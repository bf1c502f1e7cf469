-- Lines that are heard (own).
use Rattle.std.specs.Prelude.{◌≡◌, ◌⊎◌, ℕ, ◌+◌, ◌<◌, Bool, true, false, Some, List, [], ◌∷◌, ◌++◌, IfSome}
use Rattle.std.specs.Io.KnownBytes.{IsAtEnd}
use Rattle.byte_io.specs.Pieces.{joined}
use Rattle.byte_io.specs.Sink.{CountsUp}
use Rattle.byte_io.specs.Talk.{Conversation, Heard, hearing, Said}
use Rattle.simfile.specs.declared.faults.Reader.TheVariants as reader
use Rattle.simfile.specs.declared.faults.RunFault.{RunFault}
use Rattle.simfile.specs.declared.faults.RunFault.TheVariants as fault
use Rattle.simfile.specs.Script.{AreLines, line_feeds}
use Rattle.simfile.specs.Stepwise.{source_lines}

-- one line with its line feed, or bytes without any
abbrev pub IsHeardLine : Bool → List ℕ → Type 0
IsHeardLine true line = AreLines line 1
IsHeardLine false line = line_feeds line ≡ 0

-- where the bytes that are left are known, none is left
abbrev pub EndsWith : Conversation → Conversation → Type 0
EndsWith old new = IfSome old.rest (λ _. IsAtEnd new.rest)

-- a line was heard and added to a text; without its line feed it is the last of the input
pub record HeardLine (old new : Conversation) (before after : List ℕ) (whole : Bool) : Type 0 where
  pub line : List ℕ
  pub added : after ≡ before ++ line
  pub said : Said old new (Heard line ∷ [])
  pub failures : new.failures ≡ old.failures
  pub is : IsHeardLine whole line
  pub ended : line_feeds line ≡ 0 → EndsWith old new

-- why the peer wasn't heard: it failed, which was counted, or no memory was left
abbrev pub HearFails : ℕ → ℕ → RunFault → Type 0
HearFails failures failures' (fault.Read reader.First) = CountsUp failures failures'
HearFails failures failures' (fault.Read reader.Second) = ⊥
HearFails failures failures' fault.OutOfMemory = failures' ≡ failures
HearFails failures failures' fault.Write = ⊥
HearFails failures failures' (fault.BadLine n) = ⊥
HearFails failures failures' fault.NoSuchKernel = ⊥
HearFails failures failures' fault.BadSchedule = ⊥
HearFails failures failures' (fault.NotALaunch ticket) = ⊥
HearFails failures failures' (fault.CommandRefused ticket) = ⊥

-- bytes were heard until that failed
pub record NotHeard (old new : Conversation) (why : RunFault) : Type 0 where
  pub bytes : List ℕ
  pub said : Said old new (Heard bytes ∷ [])
  pub fails : HearFails old.failures new.failures why

-- the last piece has no line feed
pub record IsCut (pieces : List (List ℕ)) : Type 0 where
  pub front : List (List ℕ)
  pub last : List ℕ
  pub is : pieces ≡ front ++ last ∷ []
  pub unended : line_feeds last ≡ 0

-- the line of a program, and behind it fewer source lines than it says, of which the last is cut off
pub record IsShortSource (line : List ℕ) (pieces : List (List ℕ)) : Type 0 where
  pub whole : AreLines line 1
  pub count : ℕ
  pub says : source_lines line ≡ Some count
  pub fewer : line_feeds (joined pieces) < count
  pub cut : IsCut pieces

-- a command's text that is cut off: in its only line, or among its source lines
abbrev pub IsShort : List ℕ → List (List ℕ) → Type 0
IsShort line pieces = (line_feeds line ≡ 0) × (pieces ≡ []) ⊎ IsShortSource line pieces

-- so many lines, or fewer, of which the last is cut off by the end of the input
abbrev pub AreSource : Bool → ℕ → List (List ℕ) → Type 0
AreSource true count pieces = (line_feeds (joined pieces) ≡ count) × (0 < count → AreLines (joined pieces) count)
AreSource false count pieces = (line_feeds (joined pieces) < count) × IsCut pieces

-- the lines of a source were heard and added to a text
pub record HeardSource (old new : Conversation) (count : ℕ) (before after : List ℕ) (whole : Bool) : Type 0 where
  pub pieces : List (List ℕ)
  pub added : after ≡ before ++ joined pieces
  pub said : Said old new (hearing pieces)
  pub failures : new.failures ≡ old.failures
  pub is : AreSource whole count pieces

-- lines were heard until that failed
pub record NotHeardSource (old new : Conversation) (why : RunFault) : Type 0 where
  pub pieces : List (List ℕ)
  pub said : Said old new (hearing pieces)
  pub fails : HearFails old.failures new.failures why
