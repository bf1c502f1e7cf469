-- Scripts as plain texts (own).
use Rattle.std.specs.Prelude.{◌≡◌, ◌⊎◌, ℕ, ⊤, Option, None, List, [], MatchOption}
use Rattle.host_commands.specs.declared.command.Command.{Command}
use Rattle.simfile.specs.declared.faults.Reader.TheVariants as reader
use Rattle.simfile.specs.declared.faults.RunFault.{RunFault}
use Rattle.simfile.specs.declared.faults.RunFault.TheVariants as fault
use Rattle.byte_io.specs.Sink.{Sink, Stopped, Wrote}
use Rattle.byte_io.specs.Source.{Are}
use Rattle.written_scripts.specs.Written.{AreWrittenAt, IsBadWritten, IsOther, IsPlainThird}
use Rattle.written_scripts.specs.declared.files.NamedFile.{NamedFile}
use Rattle.written_scripts.specs.declared.places.WrittenPlace.{WrittenPlace}
use Rattle.clsim.specs.Files.{Unread}
use Rattle.clsim.specs.OwnLines.{IsOwnOf}
use Rattle.clsim.specs.declared.written_file.NoPlainText.{NoPlainText}
use Rattle.clsim.specs.declared.written_file.NoPlainText.TheVariants as no_text
use Rattle.clsim.specs.declared.written_file.PlainText.{PlainText}

-- a plain script of version 3 of the commands that a script of that version tells with its files, at these places
pub record IsTurned (files : List NamedFile) (script text : List ℕ) (places : List WrittenPlace) : Type 0 where
  pub commands : List Command
  pub written : AreWrittenAt files script commands places
  pub is : IsPlainThird text commands

-- the plain text of a script: where it is of version 3, one of the same commands, which stand there at these places,
-- with the script and these places' lines, by which it is told; else the script itself
abbrev pub IsPlainOf : List NamedFile → List ℕ → PlainText → Type 0
IsPlainOf files script plain =
    MatchOption plain.places (IsOther script × (plain.text.items ≡ script) × (plain.own ≡ None))
    (λ places. IsTurned files script plain.text.items places.items × IsOwnOf script places.items plain.own)

-- why a script has no plain text: its lowest bad line, or no memory was left
abbrev pub Unturned : List NamedFile → List ℕ → NoPlainText → Type 0
Unturned files script no_text.Script = ⊥
Unturned files script (no_text.File name) = ⊥
Unturned files script (no_text.Bad place) = IsBadWritten files script place.line
Unturned files script no_text.OutOfMemory = ⊤

-- a text was read, and written whole
pub record Passed (rest : Option (List ℕ)) (old new : Sink) : Type 0 where
  pub text : List ℕ
  pub read : Are rest text
  pub wrote : Wrote old new text
  pub released : new.held ≡ []

-- a text was read, and a write of it failed
pub record PassStopped (rest : Option (List ℕ)) (old new : Sink) : Type 0 where
  pub text : List ℕ
  pub read : Are rest text
  pub stopped : Stopped old new text

-- why a text wasn't written whole: it wasn't read, and nothing was written, or a write failed
abbrev pub Unpassed : Option (List ℕ) → ℕ → ℕ → Sink → Sink → RunFault → Type 0
Unpassed rest failures failures' old new why = Unread reader.First failures failures' old new why ⊎ (why ≡ fault.Write) × PassStopped rest old new
