use Rattle.std.proofs.Common.{◌<◌, ◌∙◌, length, arith}
use Rattle.shadow.proofs.Cells.{same_page, same_rows, filled_cell, filled_page, filled_kept, ok_then}
use Rattle.shadow.proofs.pages.Pages.make_page.Goals as goal

pub returns-in_err-grow-clause-kept : goal.returns-in_err-grow-clause-kept
returns-in_err-grow-clause-kept c other h = same_page c.args.self.now.pages.items c.grow.new.pages.items other (c.grow.ensures.same other) h

pub returns-in_err-grow-clause-same : goal.returns-in_err-grow-clause-same
returns-in_err-grow-clause-same c byte = same_rows c.args.self.now.apart.items c.args.self.now.pages.items c.grow.new.pages.items c.grow.ensures.same byte

pub returns-clause-there : goal.returns-clause-there
returns-clause-there c =
    let grown = c.grow.new.pages.items in
    let inside : c.args.page < length grown = omega (arith, c.in_ok-grow.ensures.long) in
    ok_then c.fill.result (filled_page grown c.args.page c.fill.new.row inside) c.fill.ensures.long

pub returns-clause-kept : goal.returns-clause-kept
returns-clause-kept c other h =
    let grown = c.grow.new.pages.items in
    let inside : c.args.page < length grown = omega (arith, c.in_ok-grow.ensures.long) in
    filled_kept grown c.args.page c.fill.new.row c.index_mut.result.now inside c.index_mut.ensures.value c.fill.ensures.longer other
    (same_page c.args.self.now.pages.items grown other (c.grow.ensures.same other) h)

pub returns-clause-same : goal.returns-clause-same
returns-clause-same c byte =
    let grown = c.grow.new.pages.items in
    let inside : c.args.page < length grown = omega (arith, c.in_ok-grow.ensures.long) in
    filled_cell c.args.self.now.apart.items grown c.args.page c.fill.new.row c.index_mut.result.now inside c.index_mut.ensures.value c.fill.ensures.same byte
    ∙ same_rows c.args.self.now.apart.items c.args.self.now.pages.items grown c.grow.ensures.same byte
