use Rattle.std.proofs.Common.{◌≡◌, ◌||◌}
use Rattle.explain_steps.specs.Bytes.{has_key, is_among}
use Rattle.explain_steps.specs.declared.bytes.ByteKey.{ByteKey}
use Rattle.explain_steps.proofs.bytes.add_bytes.Given as goal

abbrev pub invariant-loop-offset : goal.invariant-loop-offset
invariant-loop-offset l = (key : ByteKey) → has_key l.keys key ≡ (has_key l.fn.keys key || is_among l.place l.first l.offset key)
