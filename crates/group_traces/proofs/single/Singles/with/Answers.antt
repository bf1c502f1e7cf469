use Rattle.std.proofs.Common.{◌≡◌, ◌+◌, ◌-◌, ◌%◌, ◌<◌, false, refl, sym, ap, ◌∙◌, subst, arith}
use Rattle.shadow.specs.declared.seen.Mark.{Mark}
use Rattle.group_traces.specs.Traces.{first_in, single_byte}
use Rattle.group_traces.proofs.Parts.{AreWith, with_none}
use Rattle.group_traces.proofs.Once.{single_more}
use Rattle.group_traces.proofs.single.Singles.with.Goals as goal

pub loop-byte-init : goal.loop-byte-init
loop-byte-init c = (refl, refl, with_none c.args.x.now c.args.first (c.args.first - c.args.first) (single_byte c.args.self) (omega arith))

pub loop-byte-preserved : goal.loop-byte-preserved
loop-byte-preserved c =
    let x = c.args.x.now in
    let first = c.args.first in
    let old = c.args.self in
    let now = c.loop-byte.singles in
    let new = c.with_byte-singles.result in
    let byte = c.loop-byte.byte in
    let holds = c.requires.holds in
    let at : first + (byte - first) ≡ byte = omega arith in
    let fits : first % 4 + (byte - first) < 4 = omega arith in
    let kind : now.how.kind ≡ c.mark_of.result.kind = c.loop-byte.invariant.1 ∙ holds.kind ∙ sym (ap (λ (m : Mark). m.kind) c.mark_of.ensures) in (
      c.with_byte-singles.ensures.interval ∙ c.loop-byte.invariant.0,
      c.with_byte-singles.ensures.kind ∙ c.loop-byte.invariant.1,
      subst (λ n. AreWith x first n (single_byte old) (single_byte new)) {x = byte - first + 1} {y = byte + 1 - first} (omega arith)
          (single_more x first (byte - first) byte old now new at fits (holds.bytes byte (omega arith) (omega arith)) holds.interval c.loop-byte.invariant.0
          (c.with_byte-singles.ensures.here kind ∙ ap (λ m. first_in now.who.interval m false) c.mark_of.ensures) c.with_byte-singles.ensures.others c.loop-byte.invariant.2),
    )
