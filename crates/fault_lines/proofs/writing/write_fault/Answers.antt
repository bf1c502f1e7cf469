use Rattle.std.proofs.Common.{ℕ, List, [], ◌∷◌, ◌++◌, decimal}
use Rattle.std.proofs.lemmas.Result.{err_from_is_err_and}
use Rattle.byte_io.specs.Sink.{Wrote, Stopped, Puts}
use Rattle.byte_io.proofs.Puts.{stopped_more, puts_then}
use Rattle.byte_io.specs.Pieces.{joined}
use Rattle.fault_lines.specs.Text.{fault_words, fault_item, fault_details}
use Rattle.fault_lines.proofs.ReaderSteps.{joined-append}
use Rattle.fault_lines.proofs.writing.write_fault.Goals as goal

pub returns-in_err-write_parts : goal.returns-in_err-write_parts
returns-in_err-write_parts g c =
    let p = err_from_is_err_and c.from_residual.result c.from_residual.ensures.1 in
    let fault = c.args.fault.now in
    let begun : List (List ℕ) = fault_words fault ∷ decimal (fault_item fault) ∷ [] in
    let rest = joined (fault_details fault) in
    let stopped : Stopped (g.W.Write.sink c.args.writer.now) (g.W.Write.sink c.write_parts.new.writer) (joined begun) = rw (c.words_of.ensures, c.item_of.ensures) at c.in_err-write_parts.ensures in
    let whole : Stopped (g.W.Write.sink c.args.writer.now) (g.W.Write.sink c.write_parts.new.writer) (joined begun ++ rest) = stopped_more rest stopped in
    rw p.1 (rw (joined-append begun rest) at whole)

pub returns : goal.returns
returns g c =
    let fault = c.args.fault.now in
    let begun : List (List ℕ) = fault_words fault ∷ decimal (fault_item fault) ∷ [] in
    let rest = joined (fault_details fault) in
    let wrote : Wrote (g.W.Write.sink c.args.writer.now) (g.W.Write.sink c.write_parts.new.writer) (joined begun) = rw (c.words_of.ensures, c.item_of.ensures) at c.in_ok-write_parts.ensures in
    let whole : Puts (g.W.Write.sink c.args.writer.now) c.write_details.result (g.W.Write.sink c.write_details.new.writer) (joined begun ++ rest) = puts_then _ rest c.write_details.result wrote c.write_details.ensures in
    rw (joined-append begun rest) at whole
