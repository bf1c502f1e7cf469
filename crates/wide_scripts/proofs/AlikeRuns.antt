-- Runs over scripts that differ in bytes alone.
use Rattle.std.proofs.Common.{ℕ, Bool, List, [], ◌∷◌, drop, refl}
use Rattle.std.proofs.Math.Logic.{∥∥₁_elim, ∥∥₁_map}
use Rattle.spaces.specs.Tables.{Table}
use Rattle.host_commands.specs.declared.command.Command.{Command}
use Rattle.host_commands.specs.declared.command.Reply.{Reply}
use Rattle.device.specs.Machine.{Machine, opening}
use Rattle.widening.specs.Widened.{is_free_at}
use Rattle.wide_scripts.specs.Notes.{Taint, AreNoted, IsWalk, WalksAreWide, no_taint}
use Rattle.wide_scripts.specs.Scripts.{AlikeReplies, Runs, ScriptsDiffer}
use Rattle.wide_scripts.specs.declared.note.Note.{Note}
use Rattle.wide_scripts.proofs.AlikeTables.{AlikeTables}
use Rattle.wide_scripts.proofs.AlikeSteps.{AnswersAlike, step, with_buffers}
use mathlib.Core.Logic.{∥∥₁_prop}

-- a run over another script
pub record RunsAlike (m : Machine) (buffers : Table (List ℕ)) (others : List Command) (reads : List Bool) (replies : List Reply) : Type 0 where
  pub given : List Reply
  pub last : Machine
  pub runs : Runs (with_buffers m buffers) others given last
  pub alike : AlikeReplies reads replies given

pub runs_alike : (taint : Taint) (m : Machine) (buffers : Table (List ℕ)) → AlikeTables taint m.buffers buffers
    → (commands others : List Command) (replies : List Reply) (notes : List Note) (free reads : List Bool) (new : Machine)
    → AreNoted m commands replies notes new → IsWalk taint notes free reads → ScriptsDiffer free commands others → ∥ RunsAlike m buffers others reads replies ∥₁
runs_alike taint m buffers h [] others (r ∷ rs) ns free reads new noted walk differ = absurd noted
runs_alike taint m buffers h [] others [] (n ∷ ns) free reads new noted walk differ = absurd noted
runs_alike taint m buffers h [] (d ∷ ds) [] [] free reads new noted walk differ = absurd differ
runs_alike taint m buffers h [] [] [] [] free reads new noted walk differ = ∣ record { given = []; last = with_buffers m buffers; runs = refl; alike = tt } ∣₁
runs_alike taint m buffers h (c ∷ cs) others [] ns free reads new noted walk differ = absurd noted
runs_alike taint m buffers h (c ∷ cs) others (r ∷ rs) [] free reads new noted walk differ = absurd noted
runs_alike taint m buffers h (c ∷ cs) [] (r ∷ rs) (n ∷ ns) free reads new noted walk differ = absurd differ
runs_alike taint m buffers h (c ∷ cs) (d ∷ ds) (r ∷ rs) (n ∷ ns) free [] new noted walk differ = absurd walk
runs_alike taint m buffers h (c ∷ cs) (d ∷ ds) (r ∷ rs) (n ∷ ns) free (read ∷ reads) new noted walk differ =
    ∥∥₁_elim (step taint walk.2 (is_free_at free 0) read m buffers h c d r noted.0 n differ.0 noted.2 walk.0 walk.1 walk.3 noted.1) ∥∥₁_prop
    (λ a. ∥∥₁_map (runs_alike walk.2 noted.0 a.left a.alike cs ds rs ns (drop 1 free) reads new noted.3 walk.4 differ.1) (λ rest. both a rest))
  where
    both : (a : AnswersAlike walk.2 read m buffers d r noted.0) → RunsAlike noted.0 a.left ds reads rs → RunsAlike m buffers (d ∷ ds) (read ∷ reads) (r ∷ rs)
    both a rest =
        record {
          given = a.reply ∷ rest.given;
          last = rest.last;
          runs = (with_buffers noted.0 a.left, a.answers, rest.runs);
          alike = (a.same, rest.alike);
        }

pub walks_are_wide : WalksAreWide
walks_are_wide configuration commands replies notes new free reads noted walk others differ =
    ∥∥₁_map (runs_alike no_taint (opening configuration) [] tt commands others replies notes free reads new noted walk differ) (λ r. (r.given, r.last, r.runs, r.alike))
