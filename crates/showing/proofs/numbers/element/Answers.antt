use Rattle.std.proofs.Common.{◌≡◌, ◌*◌, ℕ, ◌∙◌, ap, sym, subst, Option, Some, pos, FitsSigned, arith, rules}
use Rattle.std.proofs.lemmas.Int.{to_z-of_z}
use Rattle.std.specs.Int.{w128}
use Rattle.std.specs.Option.{unwrap_or}
use Rattle.clnum.specs.Integer.{wrap}
use Rattle.clmodel.specs.Cells.{byte_count, number}
use Rattle.clmodel.specs.declared.access.Width.{Width}
use Rattle.showing.specs.Numbers.{cells_of, size_of}
use Rattle.showing.proofs.numbers.element.Goals as goal

pub overflow_mul-first : goal.overflow_mul-first
overflow_mul-first c =
    let same = ap (λ (size : ℕ). size * c.args.index) c.size_of.ensures.value in
    omega (arith, same, c.requires)

pub bits_at-requires : goal.bits_at-requires
bits_at-requires c =
    let same = ap (λ (size : ℕ). size * c.args.index) c.size_of.ensures.value in
    let wide = ap byte_count c.width.ensures in
    omega (arith, same, wide, c.requires)

pub returns : goal.returns
returns c =
    let cells = cells_of c.args.bytes.now in
    let read : number cells (c.size_of.result * c.args.index) (size_of c.args.kind) ≡ Some c.bits_at.result =
    subst (λ (w : Width). number cells (c.size_of.result * c.args.index) (byte_count w) ≡ Some c.bits_at.result) c.width.ensures c.bits_at.ensures in
    let bits : number cells (size_of c.args.kind * c.args.index) (size_of c.args.kind) ≡ Some c.bits_at.result =
    subst (λ (size : ℕ). number cells (size * c.args.index) (size_of c.args.kind) ≡ Some c.bits_at.result) c.size_of.ensures.value read in
    let fits : FitsSigned w128 c.number.result = search rules in
    to_z-of_z w128 c.number.result fits
    ∙ (c.number.ensures.value ∙ (ap (λ v. v.number) c.from_bits.ensures ∙ ap (λ (o : Option ℕ). wrap c.args.kind (pos (unwrap_or o 0))) (sym bits)))
