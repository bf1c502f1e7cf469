use Rattle.std.proofs.Common.{◌≡◌, ◌+◌, ◌<◌, ◌≤◌, ℕ, List, cond, count_by, get_or, length, sym, ap, ◌∙◌, arith}
use Rattle.std.proofs.lemmas.List.{take_all}
use Rattle.std.proofs.lemmas.Option.{get_or_from_slice_get}
use Rattle.host_commands.specs.declared.command.Command.{Command}
use Rattle.exploring.specs.Commands.{is_launch}
use Rattle.exploring.proofs.Telling.{count_next, one_at_most}
use Rattle.exploring.proofs.counting.launch_count.Goals as goal

pub loop-number-preserved : goal.loop-number-preserved
loop-number-preserved c =
    let xs = c.args.commands.now in
    let i = c.loop-number.number in
    let command = c.command_at-command.result.now in
    let here : command ≡ get_or xs i command = sym (get_or_from_slice_get xs i command command c.command_at-command.ensures) in
    let within : i < length xs = c.loop-number-test.true in
    let launch = c.is_launch.result in
    let one : cond launch 1 0 ≤ 1 = one_at_most launch in
    let next : c.with_command-launches.result ≡ c.loop-number.launches + cond launch 1 0 = c.with_command-launches.ensures in
    record {
      counted =
          next ∙ ap (λ (n : ℕ). n + cond launch 1 0) c.loop-number.invariant.counted
          ∙ sym (count_next xs i command launch within (c.is_launch.ensures ∙ ap is_launch here));
      few = omega (arith, next, one, c.loop-number.invariant.few);
    }

pub returns : goal.returns
returns c =
    c.loop-number.invariant.counted ∙ ap (λ (l : List Command). count_by is_launch l) (take_all c.loop-number.number c.args.commands.now (omega (arith, c.loop-number-test.false)))
