use Rattle.std.proofs.Common.{ℕ, ap}
use Rattle.shadow.specs.declared.seen.Mark.{Mark}
use Rattle.shadow.proofs.words.word_mark.Goals as goal

pub returns : goal.returns
returns c k h =
    let with_left : ℕ → Mark = λ n. record { item = c.args.x.now.item; kind = c.args.x.now.kind; left = n } in
    ap with_left (c.left_in.ensures k h)
