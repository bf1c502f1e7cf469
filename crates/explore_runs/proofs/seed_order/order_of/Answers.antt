use Rattle.std.proofs.Common.{◌∙◌, Some, IfOk, map, ap, ap₂, sym, subst}
use Rattle.clmodel.specs.Next.{launch_of}
use Rattle.clmodel.specs.Setup.{buffer_names}
use Rattle.item_step.specs.Launches.{setup_of}
use Rattle.launches.specs.Groups.{IsRunnable, filled}
use Rattle.replay.proofs.Reaching.{map_map}
use Rattle.spaces.specs.Buffers.{bytes_in}
use Rattle.explore_runs.specs.Orders.{IsOrderEnd}
use Rattle.explore_runs.proofs.seed_order.order_of.Goals as goal

pub play_order-requires-clause-runnable : goal.play_order-requires-clause-runnable
play_order-requires-clause-runnable g c =
    let same = ap₂ (λ x b. launch_of (setup_of x) (bytes_in b)) c.new-loaded.ensures.launch c.new-loaded.ensures.buffers in
    subst IsRunnable (sym same) (c.setups_are_runnable.ensures (setup_of c.args.launch.now) (bytes_in c.args.buffers.now) c.group_count-groups.ensures.some c.requires)

pub play_order-requires-clause-filled : goal.play_order-requires-clause-filled
play_order-requires-clause-filled g c =
    let same = ap₂ (λ x b. launch_of (setup_of x) (bytes_in b)) c.new-loaded.ensures.launch c.new-loaded.ensures.buffers in
    let bytes = bytes_in c.args.buffers.now in
    c.in_ok-memory.ensures ∙ ap (map (λ name. map Some (bytes name))) c.buffer_names.ensures ∙ map_map (map Some) bytes (buffer_names (setup_of c.args.launch.now)) ∙ ap filled (sym same)

pub returns : goal.returns
returns g c =
    let same = ap₂ (λ x b. launch_of (setup_of x) (bytes_in b)) c.new-loaded.ensures.launch c.new-loaded.ensures.buffers in
    subst (λ z. IfOk c.play_order.result (IsOrderEnd z)) same c.play_order.ensures
