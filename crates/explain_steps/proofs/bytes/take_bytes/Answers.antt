use Rattle.std.proofs.Common.{◌≡◌, ◌+◌, ◌&&◌, Bool, true, false, cond, not, refl, sym, ap, ◌∙◌, subst}
use Rattle.std.specs.Bool.{Decides}
use Rattle.explain_steps.specs.Bytes.{has_key, same_byte}
use Rattle.explain_steps.specs.declared.bytes.ByteKey.{ByteKey}
use Rattle.explain_steps.proofs.ByteSets.{WasThere, cut_more, none_among, none_there, there_more}
use Rattle.explain_steps.proofs.bytes.take_bytes.Goals as goal

and_true : (b : Bool) → b ≡ (b && true)
and_true true = refl
and_true false = refl

pub loop-offset-init : goal.loop-offset-init
loop-offset-init c = record {
  left =
      λ key.
      and_true (has_key c.args.keys.now key) ∙ ap (λ b. has_key c.args.keys.now key && not b) (sym (none_among c.args.place c.args.first key));
  taken = none_there c.args.place c.args.first (λ key. has_key c.args.keys.now key);
}

pub loop-offset-preserved : goal.loop-offset-preserved
loop-offset-preserved c =
    let keys = c.args.keys.now in
    let place = c.args.place in
    let first = c.args.first in
    let offset = c.loop-offset.offset in
    record {
      left =
          λ key.
          cut_more place first offset key (has_key keys key) (has_key c.loop-offset.keys key) (has_key c.remove-was_there.new.self key) (c.loop-offset.invariant.left key)
          (subst (λ (k : ByteKey). has_key c.remove-was_there.new.self key ≡ cond (same_byte k key) false (has_key c.loop-offset.keys key)) c.key_of.ensures (c.remove-was_there.ensures.updates.0 key));
      taken =
          subst (λ (b : Bool). Decides b (WasThere place first (offset + 1) (λ key. has_key keys key))) (sym c.either-taken.ensures)
          (there_more place first offset (λ key. has_key keys key) (λ key. has_key c.loop-offset.keys key) c.loop-offset.taken c.remove-was_there.result c.loop-offset.invariant.left
          (subst (λ (k : ByteKey). c.remove-was_there.result ≡ has_key c.loop-offset.keys k) c.key_of.ensures c.remove-was_there.ensures.test) c.loop-offset.invariant.taken);
    }
