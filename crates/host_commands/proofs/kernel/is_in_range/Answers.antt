use Rattle.std.proofs.Common.{rules, ◌≡◌, ◌∙◌, nat_eq, of_z}
use Rattle.std.specs.Ordering.{int_eq}
use Rattle.clnum.specs.Integer.{wrap}
use Rattle.host_commands.proofs.Numbers.{ranged}
use Rattle.host_commands.proofs.kernel.is_in_range.Goals as goal

pub returns : goal.returns
returns c =
    let same : nat_eq (of_z mir.Syntax.w128 c.number.result) (of_z mir.Syntax.w128 c.args.number) ≡ int_eq (wrap c.args.kind c.args.number) c.args.number = search rules in
    same ∙ ranged c.args.kind c.args.number
