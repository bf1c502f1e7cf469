use Rattle.std.proofs.Common.{sym, subst, refl}
use Rattle.written_scripts.specs.Written.{IsOther, Turns}
use Rattle.written_scripts.specs.declared.places.Turned.{Turned}
use Rattle.clsim.specs.Plain.{IsPlainOf}
use Rattle.clsim.specs.declared.written_file.PlainText.{PlainText}
use Rattle.clsim.proofs.written_file.plain_of.Goals as goal

pub returns-in-Other-clause-plain : goal.returns-in-Other-clause-plain
returns-in-Other-clause-plain c =
    let turned = subst (λ (t : Turned). Turns c.args.files.now c.as_slice.result.now t) c.in-Other.is c.in_ok-plain.ensures.turned in
    let other = subst IsOther c.as_slice.ensures.value turned in
    subst (λ (p : PlainText). IsPlainOf c.args.files.now c.args.script.items p) (sym c.as_it_is.ensures) (other, refl, refl)
