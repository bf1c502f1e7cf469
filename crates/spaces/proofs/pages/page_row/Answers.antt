use Rattle.std.proofs.Common.{◌+◌, ◌-◌, ◌*◌, arith}
use Rattle.std.specs.Prelude.{length}
use Rattle.spaces.proofs.Copies.{row_short, row_holds}
use Rattle.spaces.proofs.pages.page_row.Goals as goal

pub returns-then-count-gt-PAGE-clause-short : goal.returns-then-count-gt-PAGE-clause-short
returns-then-count-gt-PAGE-clause-short c = row_short c.args.base.now c.args.page (c.args.page * 256 + 256 - c.args.page * 256) (omega arith)

pub returns-then-count-gt-PAGE-clause-bytes : goal.returns-then-count-gt-PAGE-clause-bytes
returns-then-count-gt-PAGE-clause-bytes c byte inside here =
    row_holds c.args.base.now c.args.page (c.args.page * 256 + 256 - c.args.page * 256) byte (omega (arith, c.if-count-gt-PAGE.true)) here (omega arith)

pub returns-else-count-gt-PAGE-clause-short : goal.returns-else-count-gt-PAGE-clause-short
returns-else-count-gt-PAGE-clause-short c = row_short c.args.base.now c.args.page (length c.args.base.now - c.args.page * 256) (omega (arith, c.if-count-gt-PAGE.false))

pub returns-else-count-gt-PAGE-clause-bytes : goal.returns-else-count-gt-PAGE-clause-bytes
returns-else-count-gt-PAGE-clause-bytes c byte inside here =
    row_holds c.args.base.now c.args.page (length c.args.base.now - c.args.page * 256) byte (omega (arith, c.requires)) here (omega (arith, inside, here))
