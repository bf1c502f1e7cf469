use Rattle.std.proofs.Common.{Some, sym, subst}
use Rattle.clnum.specs.Integer.{converted}
use Rattle.clmodel.specs.Next.{number}
use Rattle.clmodel.specs.declared.operand.Operand.TheVariants.{Integral}
use Rattle.register_values.specs.Leading.{RunsOnAs}
use Rattle.item_value.proofs.values.cast.Goals as goal

pub returns-in-Ok : goal.returns-in-Ok
returns-in-Ok c after =
    let h = c.in-Ok.ensures in
    subst (λ run. RunsOnAs c.converted_value.result run after) (sym (h.2 (λ v. number v (λ n. after (Some (Integral (converted n c.args.kind)))))))
    (c.converted_value.ensures h.0 after h.1)
