use Rattle.std.proofs.Common.{◌++◌, ap, refl, ◌∙◌}
use Rattle.origins.specs.Names.{parameter_names}
use Rattle.origins.specs.Origins.{origins_at}
use Rattle.origins.proofs.Settling.{settle}
use Rattle.origins.proofs.Stating.{function_whole}
use Rattle.origins.proofs.functions.pass_function.Goals as goal

pub returns-in-Ok : goal.returns-in-Ok
returns-in-Ok c =
    let inside = origins_at c.args.functions.now in
    settle _ _ _ _ _
    (function_whole (record { functions = c.args.functions; lengths = c.args.lengths; result = c.args.function.now.result; known = c.requires }) c.args.function.now c.as_slice-parameters.result.now c.as_slice.result.now c.declare_parameters.new.names.items c.value_count.result refl c.as_slice-parameters.ensures.value c.as_slice.ensures.value
    (c.in-Ok.ensures ∙ ap (λ ns. ns ++ parameter_names c.as_slice-parameters.result.now) c.new-names.ensures.items) c.value_count.ensures)
    (c.then_own.ensures inside _ _ (c.then_statements-passed.ensures _ _ (c.pass_own-given.ensures inside)))
