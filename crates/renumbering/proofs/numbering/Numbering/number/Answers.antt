use Rattle.std.proofs.Common.{None, ◌∙◌, sym, ap, arith}
use Rattle.regcode.proofs.Registers.{entry_past}
use Rattle.renumbering.specs.Numbers.{number_or_greatest}
use Rattle.renumbering.proofs.Numbers.{number_is, number_read}
use Rattle.renumbering.proofs.numbering.Numbering.number.Goals as goal

pub returns-then-place-len : goal.returns-then-place-len
returns-then-place-len c =
    c.unwrap_or.ensures ∙ number_read c.index.result.now
    ∙ number_is c.args.self.now.numbers.items c.args.register c.index.result.now (omega arith) c.index.ensures

pub returns-else-place-len : goal.returns-else-place-len
returns-else-place-len c =
    sym (ap number_or_greatest (entry_past None c.args.self.now.numbers.items c.args.register (omega arith)))
