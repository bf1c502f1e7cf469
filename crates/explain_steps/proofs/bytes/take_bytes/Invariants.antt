use Rattle.std.proofs.Common.{◌≡◌, ◌&&◌, not}
use Rattle.std.specs.Bool.{Decides}
use Rattle.explain_steps.specs.Bytes.{has_key, is_among}
use Rattle.explain_steps.specs.declared.bytes.ByteKey.{ByteKey}
use Rattle.explain_steps.proofs.ByteSets.{WasThere}
use Rattle.explain_steps.proofs.bytes.take_bytes.Given as goal

abbrev pub invariant-loop-offset : goal.invariant-loop-offset
invariant-loop-offset l = record {
  left : (key : ByteKey) → has_key l.keys key ≡ (has_key l.fn.keys key && not (is_among l.place l.first l.offset key));
  taken : Decides l.taken (WasThere l.place l.first l.offset (λ key. has_key l.fn.keys key));
}
