use Rattle.std.proofs.Common.{◌≡◌, arith}
use Rattle.std.specs.Prelude.{slice_index}
use Rattle.std.proofs.lemmas.List.{get_or_read}
use Rattle.spaces.specs.Overlay.{copies}
use Rattle.spaces.proofs.Changed.{none_written, one_written, all_written}
use Rattle.spaces.proofs.pages.Pages.write_into.Goals as goal

pub loop-k-init : goal.loop-k-init
loop-k-init c = none_written c.args.buffer.now (copies c.args.self.now.table) c.args.self.now.numbers.items c.args.self.now.cells.items

pub loop-k-preserved : goal.loop-k-preserved
loop-k-preserved c =
    let pages = c.args.self.now in
    let written = c.write_page.ensures in
    let page = c.index.result.now in
    let is : page ≡ slice_index pages.numbers.items c.loop-k.k = get_or_read pages.numbers.items c.loop-k.k page (omega (arith, pages.numbers.ok.0)) c.index.ensures 0 in
    one_written c.args.buffer.now (copies pages.table) pages.numbers.items pages.cells.items c.loop-k.k page c.loop-k.buffer c.write_page.new.buffer c.loop-k.invariant is written.length written.here
    written.there

pub returns : goal.returns
returns c =
    let pages = c.args.self.now in
    all_written c.args.buffer.now (copies pages.table) pages.numbers.items pages.cells.items c.loop-k.k c.loop-k.buffer pages.numbered (omega (arith, pages.numbers.ok.0)) c.loop-k.invariant
