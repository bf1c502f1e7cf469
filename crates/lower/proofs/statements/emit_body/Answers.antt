use Rattle.std.proofs.Common.{◌≡◌, ◌+◌, ◌-◌, [], length, ap, ap₂, ◌∙◌, arith}
use Rattle.clmodel.specs.Typing.Sizes.{row_size}
use Rattle.lower_expr.specs.Scope.{Scope, free_level}
use Rattle.lower_code.specs.Code.{parameter_variables}
use Rattle.lower_code.specs.Emission.{sizes_in, widths_in}
use Rattle.lower_code.specs.Trees.{all_of}
use Rattle.lower_code.specs.Variables.{row_elements}
use Rattle.lower_code.proofs.Short.{no_value_short}
use Rattle.lower.proofs.LowKernels.{parameters_counted}
use Rattle.lower.proofs.Reach.{put_length}
use Rattle.lower.proofs.Rounds.{body_placed}
use Rattle.lower.proofs.statements.emit_body.Goals as goal

pub returns-clause-code : goal.returns-clause-code
returns-clause-code c =
    let one = c.put_no_value.new.code in
    let p = c.args.position in
    body_placed c.args.helpers.functions.now c.args.function.now p.level.0 p.depth p.site c.in_ok-emit_all.field-0 c.site_behind_all-behind.result c.declare_parameters.new.scope c.as_slice-body.result.now
    c.added.result c.args.code.now one c.emit_all.new.code
    c.as_slice-body.ensures.value c.site_behind_all-behind.ensures c.in_ok-emit_all.ensures.site
    (c.in_ok-declare_parameters.ensures.declared ∙ ap₂ (λ (z : Scope) ps. record z { variables = parameter_variables ps z.variables }) c.new-scope.ensures c.as_slice.ensures.value)
    c.in_ok-put_no_value.ensures.code (c.added.ensures ∙ ap (λ n. length one - n) c.len-end.ensures) c.in_ok-emit_all.ensures.code

pub emit_all-requires : goal.emit_all-requires
emit_all-requires c =
    let ps = c.args.function.now.parameters.items in
    let one = c.put_no_value.new.code in
    let scope : c.declare_parameters.new.scope ≡ record { base = c.args.position.level.0; variables = parameter_variables ps [] } =
    c.in_ok-declare_parameters.ensures.declared ∙ ap₂ (λ (z : Scope) qs. record z { variables = parameter_variables qs z.variables }) c.new-scope.ensures c.as_slice.ensures.value in
    let level : free_level c.declare_parameters.new.scope ≡ c.args.position.level.0 + length (parameter_variables ps []) = ap (λ (z : Scope). free_level z) scope in
    let count = parameters_counted ps [] in
    let end = put_length c.args.code.now one (no_value_short c.args.function.now.result) c.in_ok-put_no_value.ensures.code in
    let added : c.added.result ≡ length one - length c.args.code.now = c.added.ensures ∙ ap (λ n. length one - n) c.len-end.ensures in
    let same = c.as_slice-body.ensures.value in
    let nodes : (row_size (sizes_in c.args.helpers.functions.now) (all_of c.as_slice-body.result.now)).nodes ≡ (row_size (sizes_in c.args.helpers.functions.now) (all_of c.args.function.now.body.items)).nodes =
    ap (λ ss. (row_size (sizes_in c.args.helpers.functions.now) (all_of ss)).nodes) same in
    let width : (row_size (widths_in c.args.helpers.functions.now) (all_of c.as_slice-body.result.now)).nodes ≡ (row_size (widths_in c.args.helpers.functions.now) (all_of c.args.function.now.body.items)).nodes =
    ap (λ ss. (row_size (widths_in c.args.helpers.functions.now) (all_of ss)).nodes) same in
    let elements : row_elements (all_of c.as_slice-body.result.now) ≡ row_elements (all_of c.args.function.now.body.items) = ap (λ ss. row_elements (all_of ss)) same in
    let behind = c.site_behind_all-behind.ensures in
    let small = c.requires.small in
    let low = c.requires.low in
    let far = c.requires.short in
    let arrays = c.requires.arrays in
    record {
      few = omega (arith, behind);
      small = omega (arith, nodes, small);
      low = omega (arith, level, count, width, low);
      short = omega (arith, end, added, width, low, far);
      arrays = omega (arith, elements, arrays);
    }

pub added-requires : goal.added-requires
added-requires c =
    let end = put_length c.args.code.now c.put_no_value.new.code (no_value_short c.args.function.now.result) c.in_ok-put_no_value.ensures.code in
    let far = c.requires.short in
    omega (arith, end, far)
