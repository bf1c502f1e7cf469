-- What an explanation and the lines behind it come to.
use Rattle.std.proofs.Common.{◌≡◌, ℕ, Bool, Option, None, List, [], Result, IfErr, inr, subst}
use Rattle.std.proofs.lemmas.Result.{IfErr-weaker}
use Rattle.byte_io.specs.Sink.{Sink, Stopped, Wrote}
use Rattle.byte_io.specs.Source.{Are}
use Rattle.byte_io.proofs.Puts.{stopped_then, wrote_then}
use Rattle.clsim.specs.Files.{Answered}
use Rattle.clsim.specs.OwnLines.{AreLent}
use Rattle.clsim.specs.Wide.{WidelyAnswered, WidelyStopped, WidelyUnanswered, WidelyUntold}
use Rattle.clsim.specs.declared.own_lines.OwnLines.{OwnLines}
use Rattle.explaining.specs.declared.facts.ExplainOptions.{ExplainOptions}
use Rattle.placed_scripts.specs.declared.placed.PlacedScript.{PlacedScript}
use Rattle.simfile.specs.declared.faults.RunFault.{RunFault}
use Rattle.wide_faults.specs.Faults.{IsFaultAsides}

pub widely :
    (options : ExplainOptions) (name script : List ℕ) (schedule : Option (List ℕ)) (written : Option PlacedScript) (asides : List ℕ) (old mid new : Sink) (answer : Bool) → Answered options name script schedule written old mid answer
    → Wrote mid new asides → new.held ≡ [] → WidelyAnswered options name script schedule written asides old new answer
widely options name script schedule written asides old mid new answer a w h = record {
  given = a.given;
  is = a.is;
  by = a.by;
  explains = a.told.explains;
  text = a.told.text;
  says = a.told.says;
  wrote = wrote_then a.told.wrote w;
  released = h;
}

pub stopped :
    (options : ExplainOptions) (name script : List ℕ) (schedule : Option (List ℕ)) (written : Option PlacedScript) (asides : List ℕ) (old mid new : Sink) (answer : Bool) → Answered options name script schedule written old mid answer
    → Stopped mid new asides → WidelyStopped options name script schedule written asides old new
stopped options name script schedule written asides old mid new answer a s = record {
  given = a.given;
  is = a.is;
  by = a.by;
  answer = answer;
  explains = a.told.explains;
  text = a.told.text;
  says = a.told.says;
  stopped = stopped_then a.told.wrote s;
}

-- a script that was read, with the lines of its faults, and the answer to it wasn't written
pub untold :
    (options : ExplainOptions) (name named : List ℕ) (rest : Option (List ℕ)) (lines : Option OwnLines) (failures failures' : ℕ) (old new : Sink) (script lent : List ℕ) (written : Option PlacedScript) (asides behind : List ℕ)
    (result : Result Bool RunFault) → IfErr result (WidelyUnanswered options named script None written behind old new) → named ≡ name → Are rest script → AreLent lines written → lent ≡ script
    → IsFaultAsides options.configuration lent written options.all asides → behind ≡ asides → IfErr result (WidelyUntold options name rest lines failures failures' old new)
untold options name named rest lines failures failures' old new script lent written asides behind result failed same read lines_lent is_script are is_behind =
    IfErr-weaker result (WidelyUnanswered options named script None written behind old new) (WidelyUntold options name rest lines failures failures' old new)
    (λ why unanswered. inr (inr (record {
      script = script;
      read = read;
      written = written;
      lent = lines_lent;
      asides = asides;
      are = subst (λ (l : List ℕ). IsFaultAsides options.configuration l written options.all asides) is_script are;
      unanswered = subst (λ (l : List ℕ). WidelyUnanswered options name script None written l old new why) is_behind
          (subst (λ (l : List ℕ). WidelyUnanswered options l script None written behind old new why) same unanswered);
    }))) failed
