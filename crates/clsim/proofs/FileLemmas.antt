-- What an explanation of texts comes to.
use Rattle.std.proofs.Common.{◌≡◌, ℕ, Bool, Option, List, [], Result, Ok, Err}
use Rattle.std.specs.Prelude.{OnOk}
use Rattle.std.specs.Result.{IfErr, IfOk}
use Rattle.byte_io.specs.Sink.{Sink, Wrote}
use Rattle.clsim.specs.Files.{Answered, IsGiven, Unanswered}
use Rattle.explaining.specs.Explaining.{Explains, Unwritten}
use Rattle.explaining.specs.Whole.{Says}
use Rattle.explaining.specs.declared.facts.ExplainOptions.{ExplainOptions}
use Rattle.explaining.specs.declared.facts.Given.{Given}
use Rattle.placed_scripts.specs.declared.placed.PlacedScript.{PlacedScript}
use Rattle.limits.specs.declared.Configuration.{Configuration}
use Rattle.simfile.specs.declared.faults.RunFault.{RunFault}

pub told :
    (options : ExplainOptions) (given : Given) (name script : List ℕ) (schedule : Option (List ℕ)) (written : Option PlacedScript) (old new : Sink) (r : Result Bool RunFault) → IsGiven given name script schedule → given.written ≡ written
    → IfOk r (Explains options.configuration given) → IfOk r (λ answer. (text : List ℕ) × Wrote old new text × Says options given answer text) → OnOk r (new.held ≡ [])
    → IfOk r (Answered options name script schedule written old new)
told options given name script schedule written old new (Ok answer) is by explains says released =
    record { given = given; is = is; by = by; told = record { explains = explains; text = says.0; wrote = says.1; says = says.2; released = released } }
told options given name script schedule written old new (Err why) is by explains says released = tt

pub untold :
    (configuration : Configuration) (given : Given) (name script : List ℕ) (schedule : Option (List ℕ)) (old new : Sink) (r : Result Bool RunFault) → IsGiven given name script schedule
    → IfErr r (Unwritten configuration given old new) → IfErr r (Unanswered configuration name script schedule old new)
untold configuration given name script schedule old new (Ok answer) is h = tt
untold configuration given name script schedule old new (Err why) is h = record { given = given; is = is; untold = h }
