use Rattle.std.proofs.Common.{◌++◌, ap, ◌∙◌, arith}
use Rattle.clmodel.specs.Tree.{tree_target, term}
use Rattle.lower_expr.specs.Scope.{free_level}
use Rattle.lower_code.specs.Code.{call_code}
use Rattle.lower_code.specs.Emission.{functions_of, inside, nodes_in, sizes_in, width_in, widths_in, exits_of}
use Rattle.lower_code.proofs.Room.{fewer, fewer_there, called_nodes, split_low}
use Rattle.lower.proofs.simple.emit_assignment.Goals as goal

pub returns-clause-code : goal.returns-clause-code
returns-clause-code c =
    let s = c.args.context.now in
    let e = c.args.ending in
    c.in_ok-emit_split.ensures.code
    ∙ ap (λ xs. xs ++ c.args.code.now) (c.in_ok-split.ensures.code (call_code (functions_of s.helpers.functions.now)) (inside s.helpers.functions.now) s.result e.depth c.site_before_call-site.result (exits_of e.exits))

pub returns-clause-site : goal.returns-clause-site
returns-clause-site c =
    let called = c.callee_in.ensures (inside c.args.context.now.helpers.functions.now) in
    omega (arith, called, c.site_before_call-site.ensures)

pub site_before_call-site-requires : goal.site_before_call-site-requires
site_before_call-site-requires c =
    let called = c.callee_in.ensures (inside c.args.context.now.helpers.functions.now) in
    let few = c.requires.few in
    omega (arith, called, few)

pub assignment-requires : goal.assignment-requires
assignment-requires c =
    let sizes = widths_in c.args.context.now.helpers.functions.now in
    let to = fewer_there sizes (tree_target c.args.target.now) in
    let less = fewer sizes (term c.args.value.now) in
    let low = c.requires.low in
    omega (arith, to, less, low)

pub emit_split-requires : goal.emit_split-requires
emit_split-requires c =
    let functions = c.args.context.now.helpers.functions.now in
    let sizes = sizes_in functions in
    let value = term c.args.value.now in
    let split = c.in_ok-split in
    let called = c.callee_in.ensures (inside functions) in
    let barriers = split.ensures.sites (inside functions) in
    let nodes = split.ensures.sites (nodes_in functions) in
    let widths = widths_in functions in
    let width = split.ensures.sites (width_in functions) in
    let more = called_nodes sizes value in
    let small = c.requires.small in
    record {
      few = omega (arith, called, barriers, c.site_before_call-site.ensures);
      small = omega (arith, nodes, more, small);
      low = split_low widths value (free_level c.args.scope.now) _ _ _ split.ensures.level width (omega arith) c.requires.low;
    }
