use Rattle.std.proofs.Common.{arith}
use Rattle.clmodel.specs.Cells.{byte_count}
use Rattle.shadow.specs.Seen.{cell_in}
use Rattle.shadow.proofs.Marking.{passes_all}
use Rattle.shadow.proofs.pages.Pages.is_clear.Goals as goal

pub returns : goal.returns
returns c passes =
    let x = c.args.x.now in
    passes_all c.args.uniform x (cell_in c.args.self.now.apart.items c.args.self.now.pages.items) x.first (byte_count x.width)
    (λ byte low high. c.passes_whole.ensures passes byte low (omega (arith, high, c.bytes-count.ensures.value)))
