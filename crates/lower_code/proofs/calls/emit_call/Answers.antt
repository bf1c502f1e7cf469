use Rattle.std.proofs.Common.{length, ap, arith}
use Rattle.lower_code.proofs.Tables.{nodes_found, widths_found}
use Rattle.lower_code.proofs.calls.emit_call.Goals as goal

pub leave_body-requires-clause-small : goal.leave_body-requires-clause-small
leave_body-requires-clause-small c =
    let found = c.in-Some.found in
    let h = nodes_found c.args.helpers.functions.now found.place c.args.name found.function.now c.args.helpers.nodes c.in-Some.ensures.within c.in-Some.ensures.there c.in-Some.ensures.named in
    omega (arith, h, c.requires.small)

pub leave_body-requires-clause-low : goal.leave_body-requires-clause-low
leave_body-requires-clause-low c =
    let found = c.in-Some.found in
    let widths = widths_found c.args.helpers.functions.now found.place c.args.name found.function.now c.args.helpers.widths c.in-Some.ensures.within c.in-Some.ensures.there c.in-Some.ensures.named in
    let low = c.requires.low in
    omega (arith, widths, low)

pub put_passed-requires : goal.put_passed-requires
put_passed-requires c =
    let found = c.in-Some.found in
    let widths = widths_found c.args.helpers.functions.now found.place c.args.name found.function.now c.args.helpers.widths c.in-Some.ensures.within c.in-Some.ensures.there c.in-Some.ensures.named in
    let all = ap length c.as_slice.ensures.value in
    let low = c.requires.low in
    omega (arith, widths, all, low)
