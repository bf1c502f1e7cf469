-- Scripts that are explained, with lines behind the explanation that say whether faults are in the kernel or in the
-- data (own).
use Rattle.std.specs.Prelude.{◌≡◌, ◌⊎◌, ℕ, Bool, Option, None, List, [], ◌++◌}
use Rattle.byte_io.specs.Sink.{Sink, Stopped, Wrote}
use Rattle.byte_io.specs.Source.{Are}
use Rattle.clsim.specs.Files.{IsGiven, Unanswered, Unread}
use Rattle.explaining.specs.Explaining.{Explains}
use Rattle.explaining.specs.Whole.{Says}
use Rattle.explaining.specs.declared.facts.ExplainOptions.{ExplainOptions}
use Rattle.explaining.specs.declared.facts.Given.{Given}
use Rattle.placed_scripts.specs.declared.placed.PlacedScript.{PlacedScript}
use Rattle.simfile.specs.Faults.{NoScript}
use Rattle.simfile.specs.declared.faults.Reader.TheVariants as reader
use Rattle.simfile.specs.declared.faults.RunFault.{RunFault}
use Rattle.simfile.specs.declared.faults.RunFault.TheVariants as fault
use Rattle.wide_faults.specs.Faults.{IsFaultAsides}
use Rattle.clsim.specs.OwnLines.{AreLent}
use Rattle.clsim.specs.declared.own_lines.OwnLines.{OwnLines}

-- the answer to texts and the lines behind it were written
pub record WidelyAnswered (options : ExplainOptions) (name script : List ℕ) (schedule : Option (List ℕ)) (written : Option PlacedScript) (asides : List ℕ) (old new : Sink) (answer : Bool) : Type 0 where
  pub given : Given
  pub is : IsGiven given name script schedule
  pub by : given.written ≡ written
  pub explains : Explains options.configuration given answer
  pub text : List ℕ
  pub says : Says options given answer text
  pub wrote : Wrote old new (text ++ asides)
  pub released : new.held ≡ []

-- a write of the answer to texts or of the lines behind it failed
pub record WidelyStopped (options : ExplainOptions) (name script : List ℕ) (schedule : Option (List ℕ)) (written : Option PlacedScript) (asides : List ℕ) (old new : Sink) : Type 0 where
  pub given : Given
  pub is : IsGiven given name script schedule
  pub by : given.written ≡ written
  pub answer : Bool
  pub explains : Explains options.configuration given answer
  pub text : List ℕ
  pub says : Says options given answer text
  pub stopped : Stopped old new (text ++ asides)

-- why the answer to texts and the lines behind it weren't written
abbrev pub WidelyUnanswered : ExplainOptions → List ℕ → List ℕ → Option (List ℕ) → Option PlacedScript → List ℕ → Sink → Sink → RunFault → Type 0
WidelyUnanswered options name script schedule written asides old new why =
    Unanswered options.configuration name script schedule old new why ⊎ (why ≡ fault.Write) × WidelyStopped options name script schedule written asides old new

-- a script was read, and the answer to it was written, with the lines of its faults behind it
pub record WidelyTold (options : ExplainOptions) (name : List ℕ) (rest : Option (List ℕ)) (lines : Option OwnLines) (old new : Sink) (answer : Bool) : Type 0 where
  pub script : List ℕ
  pub read : Are rest script
  pub written : Option PlacedScript
  pub lent : AreLent lines written
  pub asides : List ℕ
  pub are : IsFaultAsides options.configuration script written options.all asides
  pub answered : WidelyAnswered options name script None written asides old new answer

-- a script was read, its faults have no lines, and nothing was written
pub record WidelyUnmade (rest : Option (List ℕ)) (old new : Sink) (why : RunFault) : Type 0 where
  pub script : List ℕ
  pub read : Are rest script
  pub unmade : NoScript script why
  pub same : new ≡ old

-- a script was read, and the answer to it with the lines of its faults wasn't written
pub record WidelyUnwritten (options : ExplainOptions) (name : List ℕ) (rest : Option (List ℕ)) (lines : Option OwnLines) (old new : Sink) (why : RunFault) : Type 0 where
  pub script : List ℕ
  pub read : Are rest script
  pub written : Option PlacedScript
  pub lent : AreLent lines written
  pub asides : List ℕ
  pub are : IsFaultAsides options.configuration script written options.all asides
  pub unanswered : WidelyUnanswered options name script None written asides old new why

-- why there is no answer to a script with the lines of its faults
abbrev pub WidelyUntold : ExplainOptions → List ℕ → Option (List ℕ) → Option OwnLines → ℕ → ℕ → Sink → Sink → RunFault → Type 0
WidelyUntold options name rest lines failures failures' old new why =
    Unread reader.First failures failures' old new why ⊎ (WidelyUnmade rest old new why ⊎ WidelyUnwritten options name rest lines old new why)
