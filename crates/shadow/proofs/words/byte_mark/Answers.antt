use Rattle.std.proofs.Common.{ℕ, ◌%◌, ap}
use Rattle.access_list.proofs.Bytes.{shifted}
use Rattle.shadow.specs.declared.seen.Mark.{Mark}
use Rattle.shadow.proofs.words.byte_mark.Goals as goal

pub returns : goal.returns
returns c =
    let with_left : ℕ → Mark = λ n. record { item = c.args.mark.item; kind = c.args.mark.kind; left = n % 256 } in
    ap with_left (shifted c.args.k c.args.mark.left)
