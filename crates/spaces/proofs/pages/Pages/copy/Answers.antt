use Rattle.std.proofs.Common.{◌≡◌, arith}
use Rattle.std.specs.Prelude.{length}
use Rattle.spaces.specs.Overlay.{copies}
use Rattle.spaces.proofs.Copies.{one_copied}
use Rattle.spaces.proofs.pages.Pages.copy.Goals as goal

pub returns-clause-bytes : goal.returns-clause-bytes
returns-clause-bytes c byte inside =
    let old = c.args.self.now in
    let many : c.len-count.result ≡ length old.numbers.items = omega (arith, c.len-count.ensures, old.numbers.ok.0) in
    let none : copies old.table c.args.page ≡ 0 = omega (arith, c.if-copy-gt0.false, c.copy_of-copy.ensures) in
    one_copied c.args.base.now (copies old.table) (copies c.set.new.self) old.numbers.items old.cells.items c.add_row.new.cells.items c.page_row.result.now c.args.page c.len-count.result many
    old.numbered c.in_ok-set.ensures.here c.in_ok-set.ensures.others none c.add_row.ensures.kept c.in_ok-add_row.ensures.copied byte (λ here. c.page_row.ensures.bytes byte inside here)
