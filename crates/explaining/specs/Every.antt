-- What is told where each fault and each refusal of a script is (own): of one command.
use Rattle.std.specs.Prelude.{◌≡◌, ◌||◌, ℕ, Bool, true, false, List, [], ◌∷◌, ◌++◌, length}
use Rattle.device.specs.Machine.{Machine, Step}
use Rattle.host_commands.specs.declared.command.Command.{Command}
use Rattle.host_commands.specs.declared.command.Reply.{Reply}
use Rattle.placed_scripts.specs.Placed.{IsPlaced}
use Rattle.placed_scripts.specs.declared.placed.PlacedScript.{PlacedScript}
use Rattle.simfile.specs.declared.script.CommandPlace.{CommandPlace}
use Rattle.explaining.specs.Leading.{HadMemory, goes_on, is_done, is_ordered}
use Rattle.explaining.specs.Whole.{TellsAny, TellsEnd, heading}
use Rattle.explaining.specs.declared.every.Met.{Met}
use Rattle.explaining.specs.declared.facts.ExplainOptions.{ExplainOptions}
use Rattle.explaining.specs.declared.walks.Walked.{Walked}

-- a text gets that of what a walk ends at, behind the heading of the command of a number
pub record IsEndAdded (options : ExplainOptions) (name : List ℕ) (script : PlacedScript) (commands : List Command) (done : List Bool) (machine : Machine) (ticket : ℕ) (end : Walked) (before after : List ℕ) : Type 0 where
  pub place : CommandPlace
  pub stands : IsPlaced script ticket place
  pub own : List ℕ
  pub tells : TellsEnd options name script commands done machine end own
  pub added : after ≡ before ++ (heading options.format ticket place.line ++ own)

-- A command is done, or not, behind others, and a text gets what is told of its reply. Whether a reply was met that is
-- a fault or a refusal stays as it was, or is true from here on; and so with one that is `ordered`.
pub record TellsCommand (options : ExplainOptions) (name : List ℕ) (script : PlacedScript) (commands : List Command) (done : List Bool) (old : Machine) (command : Command) (new : Machine) (all : List Bool) (before after : List ℕ) (met met' : Met) : Type 0 where
  pub answer : Reply
  pub replied : Step old command answer new
  pub memory : HadMemory answer
  pub noted : all ≡ done ++ is_done answer ∷ []
  pub part : List ℕ
  pub tells : TellsAny options name script commands all new (length done) answer part
  pub added : after ≡ before ++ part
  pub stays : goes_on answer ≡ true → met'.end ≡ met.end
  pub turns : goes_on answer ≡ false → met'.end ≡ true
  pub ordered : met'.ordered ≡ (met.ordered || is_ordered answer)
