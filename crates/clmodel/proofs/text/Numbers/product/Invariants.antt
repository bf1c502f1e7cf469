use Rattle.std.proofs.Common.{◌≡◌, ◌-◌, ◌^◌, min, take}
use Rattle.clmodel.specs.Setup.{product}
use Rattle.clmodel.proofs.text.Numbers.product.Given as goal

abbrev pub invariant-loop-number : goal.invariant-loop-number
invariant-loop-number l = l.product ≡ min (product (take l.number-index l.numbers)) (2 ^ 64 - 1)
