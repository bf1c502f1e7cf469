use Rattle.std.proofs.Common.{◌≡◌, ◌||◌, Bool, true, false, cond, refl, sym, ap, ◌∙◌, subst}
use Rattle.explain_steps.specs.Bytes.{has_key, same_byte}
use Rattle.explain_steps.specs.declared.bytes.ByteKey.{ByteKey}
use Rattle.explain_steps.proofs.ByteSets.{grown_more, none_among}
use Rattle.explain_steps.proofs.bytes.add_bytes.Goals as goal

or_false : (b : Bool) → b ≡ (b || false)
or_false true = refl
or_false false = refl

pub loop-offset-init : goal.loop-offset-init
loop-offset-init c =
    λ key.
    or_false (has_key c.args.keys.now key) ∙ ap (λ b. has_key c.args.keys.now key || b) (sym (none_among c.args.place c.args.first key))

pub loop-offset-preserved : goal.loop-offset-preserved
loop-offset-preserved c =
    λ key.
    grown_more c.args.place c.args.first c.loop-offset.offset key (has_key c.args.keys.now key) (has_key c.loop-offset.keys key) (has_key c.insert.new.self key) (c.loop-offset.invariant key)
    (subst (λ (k : ByteKey). has_key c.insert.new.self key ≡ cond (same_byte k key) true (has_key c.loop-offset.keys key)) c.key_of.ensures (c.in_ok-insert.ensures.updates.0 key))
