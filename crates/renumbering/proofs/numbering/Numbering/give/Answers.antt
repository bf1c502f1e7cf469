use Rattle.std.proofs.Common.{◌∙◌, sym, arith}
use Rattle.renumbering.proofs.Coverage.{gives_past, gives_again, gives_no_more, gives_one, numbered_is}
use Rattle.renumbering.proofs.Numbers.{gives, unset_there}
use Rattle.renumbering.proofs.numbering.Numbering.give.Goals as goal
use Rattle.renumbering.proofs.numbering.Numbering.give.Goals.{then-place-old-via-then-place-old, then-place-old-via-else-place-old+then-is_some}

pub returns-then-place-old-clause-given : goal.returns-then-place-old-clause-given
returns-then-place-old-clause-given c =
    elim c.then-place-old.branch [
      | then-place-old-via-then-place-old w ↦ gives_past c.args.old.now c.args.self.now.numbers.items c.args.register (omega arith)
      | then-place-old-via-else-place-old+then-is_some w ↦
          gives_again c.args.old.now c.args.self.now.numbers.items c.args.register
          (numbered_is c.args.self.now.numbers.items c.args.register w.index.result.now (omega arith) w.index.ensures (sym w.is_some.ensures ∙ w.if-is_some.true))
    ]

pub returns-in_ok-push-clause-numbering : goal.returns-in_ok-push-clause-numbering
returns-in_ok-push-clause-numbering c =
    gives c.args.old.now c.args.self.now.registers.items c.args.self.now.numbers.items c.args.register c.len-count.result c.push.new.self.items _ c.index.result.now
    c.requires (omega arith) c.index.ensures (sym c.is_some.ensures ∙ c.if-is_some.false) (omega arith) (omega arith) c.in_ok-push.ensures.items

pub returns-in_ok-push-clause-given : goal.returns-in_ok-push-clause-given
returns-in_ok-push-clause-given c =
    gives_one c.args.old.now c.args.self.now.numbers.items c.args.register c.len-count.result (let whole = c.requires.whole in omega (arith, whole))

pub returns-else-count-clause-given : goal.returns-else-count-clause-given
returns-else-count-clause-given c =
    gives_no_more c.args.old.now c.args.self.now.registers.items c.args.self.now.numbers.items c.args.register c.requires (omega arith)
    (unset_there c.args.old.now c.args.self.now.registers.items c.args.self.now.numbers.items c.args.register c.index.result.now c.requires (omega arith) c.index.ensures (sym c.is_some.ensures ∙ c.if-is_some.false)) (omega arith)
