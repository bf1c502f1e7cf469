use Rattle.std.proofs.Common.{arith}
use Rattle.origins.specs.declared.node.WalkEnd.TheVariants as halt
use Rattle.origins.proofs.Walking.{is_long}
use Rattle.origins.proofs.functions.length_of.Goals as goal

pub returns-in-Ok : goal.returns-in-Ok
returns-in-Ok c = let l = c.in-Ok.ensures.leads in omega (arith, l)

pub returns-in-Err-Found : goal.returns-in-Err-Found
returns-in-Err-Found c = is_long _ _ c.in-Err-Found.field-0 (halt.Found _) c.in-Err-Found.field-0-is tt c.in-Err-Found.ensures

pub returns-in-Err-Inside : goal.returns-in-Err-Inside
returns-in-Err-Inside c = is_long _ _ c.in-Err-Inside.field-0 (halt.Inside _) c.in-Err-Inside.field-0-is tt c.in-Err-Inside.ensures

pub returns-in-Err-Lost : goal.returns-in-Err-Lost
returns-in-Err-Lost c = is_long _ _ c.in-Err-Lost.field-0 halt.Lost c.in-Err-Lost.field-0-is tt c.in-Err-Lost.ensures
