use Rattle.clnum.proofs.Formulas.{number-converted, in-converted}
use Rattle.clnum.proofs.operations.in_common.Goals as goal

pub returns-clause-left : goal.returns-clause-left
returns-clause-left c =
    number-converted c.args.left c.convert.result c.common-kind.result c.number.result c.number.ensures.within c.convert.ensures c.number.ensures.value

pub returns-clause-right : goal.returns-clause-right
returns-clause-right c =
    number-converted c.args.right c.convert-2.result c.common-kind.result c.number-2.result c.number-2.ensures.within c.convert-2.ensures c.number-2.ensures.value

pub returns-clause-left_in : goal.returns-clause-left_in
returns-clause-left_in c =
    in-converted c.args.left c.convert.result c.common-kind.result c.number.result c.number.ensures.within c.convert.ensures c.number.ensures.value

pub returns-clause-right_in : goal.returns-clause-right_in
returns-clause-right_in c =
    in-converted c.args.right c.convert-2.result c.common-kind.result c.number-2.result c.number-2.ensures.within c.convert-2.ensures c.number-2.ensures.value
