use Rattle.std.proofs.Common.{◌∙◌, FitsSigned, arith, length, rules}
use Rattle.std.proofs.lemmas.Int.{to_z-of_z}
use Rattle.std.proofs.lemmas.Result.{err_from_is_err_and}
use Rattle.std.specs.Int.{w128}
use Rattle.byte_io.proofs.Puts.{wrote_none}
use Rattle.showing.specs.Numbers.{element, size_of}
use Rattle.showing.proofs.NumberLemmas.{room, stopped_number, wrote_number}
use Rattle.showing.proofs.numbers.write_numbers.Goals as goal

pub loop-index-init : goal.loop-index-init
loop-index-init g c = wrote_none _

pub element-number-requires : goal.element-number-requires
element-number-requires g c = room (size_of c.args.kind) c.loop-index.index c.args.count (length c.args.bytes.now) (omega arith) c.requires

pub loop-index-preserved : goal.loop-index-preserved
loop-index-preserved g c =
    let fits : FitsSigned w128 c.element-number.result = search rules in
    wrote_number (element c.args.kind c.args.bytes.now) c.loop-index.index _ (to_z-of_z w128 c.element-number.result fits ∙ c.element-number.ensures) c.loop-index.invariant c.in_ok-write_pieces.ensures

pub returns-in_err-write_pieces : goal.returns-in_err-write_pieces
returns-in_err-write_pieces g c =
    let p = err_from_is_err_and c.from_residual.result c.from_residual.ensures.1 in
    let fits : FitsSigned w128 c.element-number.result = search rules in
    rw p.1 (stopped_number (element c.args.kind c.args.bytes.now) c.loop-index.index c.args.count _ (omega arith) (to_z-of_z w128 c.element-number.result fits ∙ c.element-number.ensures) c.loop-index.invariant c.in_err-write_pieces.ensures)
