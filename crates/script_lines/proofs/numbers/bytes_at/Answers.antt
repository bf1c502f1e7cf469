use Rattle.std.proofs.Common.{◌≡◌, ◌+◌, ◌-◌, ◌++◌, suc, length, true, false, Some, FitsSigned, ap, sym, ◌∙◌, arith, rules}
use Rattle.std.specs.Int.{w128}
use Rattle.std.proofs.lemmas.Int.{to_z-of_z}
use Rattle.clmodel.specs.Setup.{same_text}
use Rattle.simfile.specs.Script.{line_feed}
use Rattle.script_lines.specs.Numbers.{bytes_of}
use Rattle.script_lines.specs.Reading.{is_in}
use Rattle.script_lines.proofs.Steps.{none_left, none_value, none_range, last_value, none_space, next_value}
use Rattle.script_lines.proofs.numbers.bytes_at.Goals as goal

pub returns-in_default : goal.returns-in_default
returns-in_default c = sym (none_value c.args.kind _ c.loop.bytes.items c.loop.rest.now _ (omega arith) (sym c.in_default.ensures) c.loop.invariant)

pub returns-then-not-is_in : goal.returns-then-not-is_in
returns-then-not-is_in c =
    let fits : FitsSigned w128 c.in-Some.number = search rules in
    let out : is_in c.args.kind c.in-Some.number ≡ false = ap (is_in c.args.kind) (sym (to_z-of_z w128 c.in-Some.number fits)) ∙ (sym c.is_in.ensures.value ∙ c.if-not-is_in.true) in
    sym (none_range c.args.kind _ c.loop.bytes.items c.loop.rest.now c.in-Some.more.now c.in-Some.number _ (omega arith) (sym c.in-Some.ensures) out c.loop.invariant)

pub returns-then-eq : goal.returns-then-eq
returns-then-eq c =
    let fits : FitsSigned w128 c.in-Some.number = search rules in
    let feed : c.as_slice.result.now ≡ line_feed = search rules in
    let end : same_text c.in-Some.more.now line_feed ≡ true = ap (same_text c.in-Some.more.now) (sym feed) ∙ (sym c.eq.ensures ∙ c.if-eq.true) in
    let within : is_in c.args.kind c.in-Some.number ≡ true = ap (is_in c.args.kind) (sym (to_z-of_z w128 c.in-Some.number fits)) ∙ (sym c.is_in.ensures.value ∙ c.if-not-is_in.false) in
    let put = c.in_ok-put_number.ensures ∙ ap (λ z. c.loop.bytes.items ++ bytes_of c.args.kind z) (to_z-of_z w128 c.in-Some.number fits) in
    ap Some put
    ∙ sym (last_value c.args.kind _ c.loop.bytes.items c.loop.rest.now c.in-Some.more.now c.in-Some.number _ (omega arith) (sym c.in-Some.ensures) within end c.loop.invariant)

pub returns-in_default-after : goal.returns-in_default-after
returns-in_default-after c =
    let fits : FitsSigned w128 c.in-Some.number = search rules in
    let feed : c.as_slice.result.now ≡ line_feed = search rules in
    let end : same_text c.in-Some.more.now line_feed ≡ false = ap (same_text c.in-Some.more.now) (sym feed) ∙ (sym c.eq.ensures ∙ c.if-eq.false) in
    let within : is_in c.args.kind c.in-Some.number ≡ true = ap (is_in c.args.kind) (sym (to_z-of_z w128 c.in-Some.number fits)) ∙ (sym c.is_in.ensures.value ∙ c.if-not-is_in.false) in
    sym (none_space c.args.kind _ c.loop.bytes.items c.loop.rest.now c.in-Some.more.now c.in-Some.number _ (omega arith) (sym c.in-Some.ensures) within end (sym c.in_default-after.ensures) c.loop.invariant)

pub loop-preserved : goal.loop-preserved
loop-preserved c =
    let fits : FitsSigned w128 c.in-Some.number = search rules in
    let feed : c.as_slice.result.now ≡ line_feed = search rules in
    let end : same_text c.in-Some.more.now line_feed ≡ false = ap (same_text c.in-Some.more.now) (sym feed) ∙ (sym c.eq.ensures ∙ c.if-eq.false) in
    let within : is_in c.args.kind c.in-Some.number ≡ true = ap (is_in c.args.kind) (sym (to_z-of_z w128 c.in-Some.number fits)) ∙ (sym c.is_in.ensures.value ∙ c.if-not-is_in.false) in
    let put = c.in_ok-put_number.ensures ∙ ap (λ z. c.loop.bytes.items ++ bytes_of c.args.kind z) (to_z-of_z w128 c.in-Some.number fits) in
    let less : length c.args.text.now - c.loop.counter ≡ suc (length c.args.text.now - (c.loop.counter + 1)) = omega arith in
    rw put
    (next_value c.args.kind _ _ c.loop.bytes.items c.loop.rest.now c.in-Some.more.now c.in-Some-after.others.now c.in-Some.number _ less (sym c.in-Some.ensures) within end (sym c.in-Some-after.ensures) c.loop.invariant)

pub returns : goal.returns
returns c = sym (none_left c.args.kind _ c.loop.bytes.items c.loop.rest.now _ (omega arith) c.loop.invariant)
