use Rattle.std.proofs.Common.{◌≡◌, ◌+◌, ◌-◌, ◌%◌, ◌<◌, get_or, set, ap, ◌∙◌, subst, arith}
use Rattle.std.proofs.lemmas.List.{length-set}
use Rattle.shadow.specs.Seen.{mark_of}
use Rattle.group_traces.specs.Traces.{untouched, trace_with}
use Rattle.group_traces.proofs.Parts.{ArePart, part_more}
use Rattle.group_traces.proofs.cell.bytes_with.Goals as goal

pub loop-byte-preserved : goal.loop-byte-preserved
loop-byte-preserved c =
    let x = c.args.x.now in
    let first = c.args.first in
    let byte = c.loop-byte.byte in
    let t = c.with.result in
    let is : t ≡ trace_with (get_or c.loop-byte.traces (byte % 4) untouched) x.interval (mark_of x byte) =
    c.with.ensures ∙ ap (trace_with (get_or c.loop-byte.traces (byte % 4) untouched) x.interval) c.mark_of.ensures in
    let at : first + (byte - first) ≡ byte = omega arith in
    let fits : first % 4 + (byte - first) < 4 = omega arith in (
      length-set c.loop-byte.traces (byte % 4) t ∙ c.loop-byte.invariant.0,
      subst (λ n. ArePart x first n c.args.traces (set c.loop-byte.traces (byte % 4) t)) {x = byte - first + 1} {y = byte + 1 - first} (omega arith)
          (part_more x first (byte - first) byte c.args.traces c.loop-byte.traces t at fits c.loop-byte.invariant.0 is c.loop-byte.invariant.1),
    )
