use Rattle.std.proofs.Common.{◌++◌, ap, ◌∙◌, arith}
use Rattle.clmodel.specs.Tree.{terms}
use Rattle.lower_code.specs.Code.{call_code, result_in}
use Rattle.lower_code.specs.Emission.{functions_of, inside, nodes_in, width_in, widths_in}
use Rattle.lower_code.proofs.Room.{fewer_all}
use Rattle.lower.proofs.simple.emit_call.Goals as goal

pub returns-clause-code : goal.returns-clause-code
returns-clause-code c =
    let s = c.args.context.now in
    let fs = functions_of s.helpers.functions.now in
    c.in_ok-emit_split.ensures.code
    ∙ ap (λ xs. xs ++ c.args.code.now) (c.in_ok-split.ensures.code (call_code fs) (result_in fs) (inside s.helpers.functions.now) s.result)

pub returns-clause-site : goal.returns-clause-site
returns-clause-site c =
    let called = c.callee_of.ensures (inside c.args.context.now.helpers.functions.now) in
    omega (arith, called, c.site_before_call-site.ensures)

pub site_before_call-site-requires : goal.site_before_call-site-requires
site_before_call-site-requires c =
    let called = c.callee_of.ensures (inside c.args.context.now.helpers.functions.now) in
    let few = c.requires.few in
    omega (arith, called, few)

pub call_statement-requires : goal.call_statement-requires
call_statement-requires c =
    let less = fewer_all (widths_in c.args.context.now.helpers.functions.now) (terms c.args.arguments.now) in
    let low = c.requires.low in
    omega (arith, less, low)

pub emit_split-requires : goal.emit_split-requires
emit_split-requires c =
    let functions = c.args.context.now.helpers.functions.now in
    let split = c.in_ok-split in
    let called = c.callee_of.ensures (inside functions) in
    let barriers = split.ensures.sites (inside functions) in
    let nodes = split.ensures.called (nodes_in functions) in
    let width = split.ensures.called (width_in functions) in
    let level = split.ensures.level in
    let small = c.requires.small in
    let low = c.requires.low in
    record {
      few = omega (arith, called, barriers, c.site_before_call-site.ensures);
      small = omega (arith, nodes, small);
      low = omega (arith, level, width, low);
    }
