use Rattle.std.proofs.Common.{Some, sym, subst}
use Rattle.clnum.specs.Operations.{unary_value}
use Rattle.clmodel.specs.Next.{number}
use Rattle.clmodel.specs.declared.operand.Operand.TheVariants.{Integral}
use Rattle.register_values.specs.Leading.{RunsOnAs}
use Rattle.item_value.proofs.values.apply_unary.Goals as goal

pub returns-in-Ok : goal.returns-in-Ok
returns-in-Ok c after =
    let h = c.in-Ok.ensures in
    subst (λ run. RunsOnAs c.unary_of.result run after) (sym (h.2 (λ v. number v (λ n. after (Some (Integral (unary_value c.args.operator n)))))))
    (c.unary_of.ensures h.0 after h.1)
