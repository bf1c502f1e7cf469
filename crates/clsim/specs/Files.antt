-- Files that are explained: what is read, and what is written (own).
use Rattle.std.specs.Prelude.{◌≡◌, ◌⊎◌, ℕ, Bool, Option, None, Some, option_map, List, [], if◌then◌else◌}
use Rattle.cli.specs.Reading.{ReadFails}
use Rattle.command_line.specs.declared.wish.ExplainWish.{ExplainWish}
use Rattle.command_line.specs.declared.wish.ExploreWish.{ExploreWish}
use Rattle.simfile.specs.declared.faults.Reader.{Reader}
use Rattle.simfile.specs.declared.faults.Reader.TheVariants as reader
use Rattle.simfile.specs.declared.faults.RunFault.{RunFault}
use Rattle.byte_io.specs.Sink.{Sink, Wrote}
use Rattle.byte_io.specs.Source.{Are}
use Rattle.explaining.specs.Explaining.{Explains, Unwritten}
use Rattle.explaining.specs.Whole.{Says}
use Rattle.explaining.specs.declared.facts.ExplainOptions.{ExplainOptions}
use Rattle.explaining.specs.declared.facts.Format.TheVariants as format
use Rattle.explaining.specs.declared.facts.Given.{Given}
use Rattle.exploring.specs.declared.facts.ExploreOptions.{ExploreOptions}
use Rattle.placed_scripts.specs.declared.placed.PlacedScript.{PlacedScript}
use Rattle.limits.specs.declared.Configuration.{Configuration}
use Rattle.clsim.specs.OwnLines.{AreLent}
use Rattle.clsim.specs.declared.own_lines.OwnLines.{OwnLines}

-- the answer to what is given, and the text that says so, which was written whole
pub record AnswerWritten (options : ExplainOptions) (given : Given) (old new : Sink) (answer : Bool) : Type 0 where
  pub explains : Explains options.configuration given answer
  pub text : List ℕ
  pub wrote : Wrote old new text
  pub says : Says options given answer text
  pub released : new.held ≡ []

-- these texts are given
pub record IsGiven (given : Given) (name script : List ℕ) (schedule : Option (List ℕ)) : Type 0 where
  pub named : given.name.now ≡ name
  pub told : given.script.now ≡ script
  pub leads : option_map (λ bytes. bytes.now) given.schedule ≡ schedule

-- the answer to texts was written, by the lines of the text that a user wrote, where one is given
pub record Answered (options : ExplainOptions) (name script : List ℕ) (schedule : Option (List ℕ)) (written : Option PlacedScript) (old new : Sink) (answer : Bool) : Type 0 where
  pub given : Given
  pub is : IsGiven given name script schedule
  pub by : given.written ≡ written
  pub told : AnswerWritten options given old new answer

-- why there is no answer to texts
pub record Unanswered (configuration : Configuration) (name script : List ℕ) (schedule : Option (List ℕ)) (old new : Sink) (why : RunFault) : Type 0 where
  pub given : Given
  pub is : IsGiven given name script schedule
  pub untold : Unwritten configuration given old new why

-- a script was read, and the answer to it was written, by its own lines
pub record ScriptTold (options : ExplainOptions) (name : List ℕ) (rest : Option (List ℕ)) (lines : Option OwnLines) (old new : Sink) (answer : Bool) : Type 0 where
  pub script : List ℕ
  pub read : Are rest script
  pub written : Option PlacedScript
  pub lent : AreLent lines written
  pub answered : Answered options name script None written old new answer

-- a script and a schedule file were read, and the answer to them was written, by the script's own lines
pub record FileTold (options : ExplainOptions) (name : List ℕ) (rest rest' : Option (List ℕ)) (lines : Option OwnLines) (old new : Sink) (answer : Bool) : Type 0 where
  pub script : List ℕ
  pub schedule : List ℕ
  pub read : Are rest script
  pub file : Are rest' schedule
  pub written : Option PlacedScript
  pub lent : AreLent lines written
  pub answered : Answered options name script (Some schedule) written old new answer

-- a script was read, and there is no answer to it
pub record ScriptUnanswered (configuration : Configuration) (name : List ℕ) (rest : Option (List ℕ)) (old new : Sink) (why : RunFault) : Type 0 where
  pub script : List ℕ
  pub read : Are rest script
  pub unanswered : Unanswered configuration name script None old new why

-- a script and a schedule file were read, and there is no answer to them
pub record FileUnanswered (configuration : Configuration) (name : List ℕ) (rest rest' : Option (List ℕ)) (old new : Sink) (why : RunFault) : Type 0 where
  pub script : List ℕ
  pub schedule : List ℕ
  pub read : Are rest script
  pub file : Are rest' schedule
  pub unanswered : Unanswered configuration name script (Some schedule) old new why

-- an explanation is made as it is wished
pub record IsWished (wish : ExplainWish) (options : ExplainOptions) : Type 0 where
  pub format : options.format ≡ (if wish.json then format.Json else format.Text)
  pub configuration : options.configuration ≡ wish.configuration
  pub as_given : options.as_given ≡ wish.as_given
  pub all : options.all ≡ wish.all
  pub steps : options.steps ≡ wish.steps

-- a script is explored as it is wished
pub record IsExploreWished (wish : ExploreWish) (options : ExploreOptions) : Type 0 where
  pub configuration : options.configuration ≡ wish.configuration
  pub launch : options.launch ≡ wish.launch
  pub orders : options.orders ≡ wish.orders
  pub seed : options.seed ≡ wish.seed

-- a reader wasn't read to its end, or no memory was left, and nothing was written
abbrev pub Unread : Reader → ℕ → ℕ → Sink → Sink → RunFault → Type 0
Unread named failures failures' old new why = ReadFails named failures failures' why × (new ≡ old)

-- why there is no answer to a script
abbrev pub ScriptUntold : Configuration → List ℕ → Option (List ℕ) → ℕ → ℕ → Sink → Sink → RunFault → Type 0
ScriptUntold configuration name rest failures failures' old new why = Unread reader.First failures failures' old new why ⊎ ScriptUnanswered configuration name rest old new why

-- why there is no answer to a script and a schedule file; the script's reader and its failures come first
abbrev pub FileUntold : Configuration → List ℕ → Option (List ℕ) → Option (List ℕ) → ℕ → ℕ → ℕ → ℕ → Sink → Sink → RunFault → Type 0
FileUntold configuration name rest rest' a a' b b' old new why =
    Unread reader.First a a' old new why ⊎ (Unread reader.Second b b' old new why ⊎ FileUnanswered configuration name rest rest' old new why)
