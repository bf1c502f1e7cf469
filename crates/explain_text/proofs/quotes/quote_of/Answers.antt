use Rattle.std.proofs.Common.{◌+◌, List, length, string_bytes, subst}
use Rattle.explanation.specs.declared.places.CallSite.{CallSite}
use Rattle.explanation.specs.declared.places.LoopSite.{LoopSite}
use Rattle.explain_text.specs.Texts.{AddsLines}
use Rattle.explain_text.proofs.Added.{lines_alone, lines_more}
use Rattle.explain_text.proofs.quotes.quote_of.Goals as goal

pub returns : goal.returns
returns c =
    let spot = c.args.spot.now in
    let first = string_bytes c.new-out.result in
    let second = string_bytes c.write_quote.new.out in
    let third = string_bytes c.push_calls.new.out in
    let fourth = string_bytes c.push_loops.new.out in
    let calls = subst (λ (xs : List CallSite). AddsLines (length xs) second third) c.as_slice.ensures.value c.in_ok-push_calls.ensures in
    let loops = subst (λ (xs : List LoopSite). AddsLines (length xs) third fourth) c.as_slice-2.ensures.value c.in_ok-push_loops.ensures in
    let both = lines_more 2 (length spot.calls.items) first second third c.in_ok-write_quote.ensures calls in
    lines_alone (2 + length spot.calls.items + length spot.loops.items) first fourth c.new-out.ensures.bytes
    (lines_more (2 + length spot.calls.items) (length spot.loops.items) first third fourth both loops)
