use Rattle.std.proofs.Common.{Some, sym, ap, ◌∙◌}
use Rattle.std.specs.Int.{w64, cast_signed}
use Rattle.clmodel.specs.declared.access.Object.TheVariants as object
use Rattle.clmodel.specs.declared.operand.Operand.TheVariants.{Pointed}
use Rattle.register_values.specs.RegisterValues.{content, integer, number_of}
use Rattle.register_values.proofs.KeptValues.{moved_is, offset_moved}
use Rattle.register_values.proofs.Outcomes.{word_number}
use Rattle.register_values.proofs.kept_values.moved_value.Goals as goal

pub returns-in-Buffer : goal.returns-in-Buffer
returns-in-Buffer c v w after e f =
    let p = c.pointer.inside in
    let i = c.index.inside in
    moved_is (record { object = object.Buffer p.number; element = p.kind; offset = cast_signed w64 p.bits }) (integer i.kind i.bits) v w after _
    (sym (ap (λ t. content p.bits t p.kind p.number) c.in-Buffer.is) ∙ c.pointer.view_is ∙ e)
    (sym (ap (λ t. content i.bits t i.kind i.number) c.in-Integral.is) ∙ c.index.view_is ∙ f)
    (ap (λ o. Some (Pointed (record { object = object.Buffer p.number; element = p.kind; offset = o })))
    (offset_moved p.bits i.bits (number_of i.kind i.bits) c.pointer.invariant.below (word_number i.kind i.bits c.index.invariant.below)))

pub returns-in-Local : goal.returns-in-Local
returns-in-Local c v w after e f =
    let p = c.pointer.inside in
    let i = c.index.inside in
    moved_is (record { object = object.Local p.number; element = p.kind; offset = cast_signed w64 p.bits }) (integer i.kind i.bits) v w after _
    (sym (ap (λ t. content p.bits t p.kind p.number) c.in-Local.is) ∙ c.pointer.view_is ∙ e)
    (sym (ap (λ t. content i.bits t i.kind i.number) c.in-Integral.is) ∙ c.index.view_is ∙ f)
    (ap (λ o. Some (Pointed (record { object = object.Local p.number; element = p.kind; offset = o })))
    (offset_moved p.bits i.bits (number_of i.kind i.bits) c.pointer.invariant.below (word_number i.kind i.bits c.index.invariant.below)))
