use Rattle.std.proofs.Common.{◌*◌, ◌/◌, ◌≤◌, ℕ, length, subst, sym}
use Rattle.std.proofs.lemmas.Result.{err_from_is_err_and}
use Rattle.byte_io.proofs.Puts.{stopped_more, stopped_then, puts_then}
use Rattle.showing.specs.Numbers.{size_of}
use Rattle.showing.proofs.NumberLemmas.{as_many}
use Rattle.showing.proofs.lines.write_data.Goals as goal

pub write_numbers-requires : goal.write_numbers-requires
write_numbers-requires g c =
    subst (λ (size : ℕ). size_of c.args.kind * (length c.args.bytes.now / size) ≤ length c.args.bytes.now) (sym c.size_of.ensures.value) (as_many (size_of c.args.kind) (length c.args.bytes.now))

pub returns-in_err-write : goal.returns-in_err-write
returns-in_err-write g c =
    let p = err_from_is_err_and c.from_residual.result c.from_residual.ensures.1 in
    rw p.1 (stopped_more _ c.in_err-write.ensures)

pub returns-in_err-write_numbers : goal.returns-in_err-write_numbers
returns-in_err-write_numbers g c =
    let p = err_from_is_err_and c.from_residual-in_err-write_numbers.result c.from_residual-in_err-write_numbers.ensures.1 in
    rw (p.1, ← c.size_of.ensures.value) (stopped_then c.in_ok-write.ensures (stopped_more _ c.in_err-write_numbers.ensures))

pub returns : goal.returns
returns g c =
    rw (← c.size_of.ensures.value) (puts_then _ _ c.write-2.result c.in_ok-write.ensures (puts_then _ _ c.write-2.result c.in_ok-write_numbers.ensures c.write-2.ensures))
