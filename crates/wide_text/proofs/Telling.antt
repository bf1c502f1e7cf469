-- A script that was read, performed and told is told wide.
use Rattle.std.proofs.Common.{◌≡◌, ℕ, Bool, Option, List, sym, ap, ◌∙◌, subst}
use Rattle.device.specs.Machine.{Machine, opening}
use Rattle.host_commands.specs.declared.command.Command.{Command}
use Rattle.host_commands.specs.declared.command.Reply.{Reply}
use Rattle.limits.specs.declared.Configuration.{Configuration}
use Rattle.placed_scripts.proofs.Placing.{is_told}
use Rattle.placed_scripts.specs.Placed.{IsToldBy}
use Rattle.placed_scripts.specs.declared.placed.PlacedScript.{PlacedScript}
use Rattle.simfile.specs.Places.{AreAt}
use Rattle.simfile.specs.Script.{IsScript}
use Rattle.simfile.specs.declared.script.CommandPlace.{CommandPlace}
use Rattle.wide_scripts.specs.Notes.{AreNoted}
use Rattle.wide_scripts.specs.Scripts.{IsWideScript}
use Rattle.wide_scripts.specs.declared.note.Note.{Note}
use Rattle.wide_text.proofs.Runs.{run_of}
use Rattle.wide_text.specs.Told.{lines_of}
use Rattle.wide_text.specs.Widened.{IsReport, IsTold, IsWidened, end_of, is_clean}
use Rattle.wide_text.specs.declared.data.Format.{Format}
use Rattle.wide_text.specs.declared.data.WideEnd.{WideEnd}
use Rattle.wide_text.specs.declared.data.WideReport.{WideReport}

-- the text of a report whose last line is that of these lines
told_of :
    (how : Format) (rs : List Reply) (clean : Bool) (free reads text : List ℕ) (report : WideReport) → IsReport clean free reads report → IsTold how rs report.clean report.free.items report.reads.items text
    → IsTold how rs clean free reads text
told_of how rs clean free reads text report is told =
    subst (λ (b : Bool). IsTold how rs b free reads text) is.clean
    (subst (λ (l : List ℕ). IsTold how rs report.clean l reads text) is.free (subst (λ (l : List ℕ). IsTold how rs report.clean report.free.items l text) is.reads told))

pub told_wide :
    (configuration : Configuration) (script : List ℕ) (written : Option PlacedScript) (by : PlacedScript) (how : Format) (commands same : List Command) (places given : List CommandPlace) (replies ended told : List Reply) (notes : List Note) (free reads : List Bool) (end : WideEnd) (report : WideReport) (text : List ℕ)
    → IsScript script commands → AreAt script commands places → same ≡ commands → ((new : Machine) × AreNoted (opening configuration) same replies notes new)
    → IsWideScript configuration free reads same replies → ended ≡ replies → told ≡ replies → given ≡ places → IsToldBy script given written by → end ≡ end_of ended
    → IsReport (is_clean end) (lines_of free by.places.now) (lines_of reads by.places.now) report → IsTold how told report.clean report.free.items report.reads.items text → IsWidened configuration script written how end text
told_wide configuration script written by how commands same places given replies ended told notes free reads end report text is placed copied noted wide at_end at_text at_places lent comes reported is_text =
    let lines = told_of how told (is_clean end) (lines_of free by.places.now) (lines_of reads by.places.now) text report reported is_text in
    record {
      commands = same;
      by = by;
      replies = replies;
      new = noted.0;
      free = free;
      reads = reads;
      is = subst (IsScript script) (sym copied) is;
      lines = is_told script commands same places given written by placed copied at_places lent;
      ran = run_of (opening configuration) same replies notes noted.0 noted.1;
      wide = wide;
      ended = comes ∙ ap end_of at_end;
      told =
          subst (λ (rs : List Reply). IsTold how rs (is_clean end) (lines_of free by.places.now) (lines_of reads by.places.now) text) at_text lines;
    }
