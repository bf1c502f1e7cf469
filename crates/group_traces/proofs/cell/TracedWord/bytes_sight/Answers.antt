use Rattle.std.proofs.Common.{◌≡◌, ℕ, ◌%◌, true, sym, ap₂, ◌∙◌}
use Rattle.shadow.specs.Seen.{mark_of}
use Rattle.shadow.specs.declared.seen.Mark.{Mark}
use Rattle.group_traces.specs.Cells.{word_trace}
use Rattle.group_traces.specs.Traces.{passes, tells, takes}
use Rattle.group_traces.specs.declared.trace.Trace.{Trace}
use Rattle.group_traces.proofs.Looking.{all_with}
use Rattle.group_traces.proofs.cell.TracedWord.bytes_sight.Goals as goal

pub loop-byte-preserved : goal.loop-byte-preserved
loop-byte-preserved c =
    let x = c.args.x.now in
    let byte = c.loop-byte.byte in
    let u = c.args.uniform in
    let was : ℕ → Trace = λ b. word_trace c.args.apart.now c.args.key c.args.n c.args.self.now (b % 4) in (
      all_with (λ b. passes u (was b) x.interval (mark_of x b) ≡ true) c.args.first byte c.loop-byte.sight.clear c.sight.result.clear c.and-sight.result.clear c.loop-byte.invariant.0
          (λ e. ap₂ (λ (t : Trace) (m : Mark). passes u t x.interval m) (sym c.byte-trace.ensures) (sym c.mark_of.ensures) ∙ sym c.sight.ensures.clear ∙ e) c.and-sight.ensures.clear,
      all_with (λ b. tells (was b) x.interval (mark_of x b) ≡ true) c.args.first byte c.loop-byte.sight.told c.sight.result.told c.and-sight.result.told c.loop-byte.invariant.1
          (λ e. ap₂ (λ (t : Trace) (m : Mark). tells t x.interval m) (sym c.byte-trace.ensures) (sym c.mark_of.ensures) ∙ sym c.sight.ensures.told ∙ e) c.and-sight.ensures.told,
      all_with (λ b. takes (was b) (mark_of x b) ≡ true) c.args.first byte c.loop-byte.sight.taken c.sight.result.taken c.and-sight.result.taken c.loop-byte.invariant.2
          (λ e. ap₂ takes (sym c.byte-trace.ensures) (sym c.mark_of.ensures) ∙ sym c.sight.ensures.taken ∙ e) c.and-sight.ensures.taken,
    )
