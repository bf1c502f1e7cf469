use Rattle.std.proofs.Common.{◌≡◌, None, Some, take, ap, subst, ◌∙◌}
use Rattle.std.proofs.lemmas.Result.{IfOk-weaker}
use Rattle.clmodel.specs.Setup.{functions_before}
use Rattle.clmodel.specs.Tree.{Func, Funcs, func, program}
use Rattle.lower_code.specs.Emission.{functions_of}
use Rattle.origins.specs.Finding.{IsFound}
use Rattle.origins.specs.Origins.{kernel_origins}
use Rattle.origins.proofs.origin.origin_of.Goals as goal

pub returns-in-None-clause-origin : goal.returns-in-None-clause-origin
returns-in-None-clause-origin c = λ f is. let e : None ≡ Some f = c.in-None.ensures.kernel ∙ is in cc

pub returns-in-Some-clause-origin : goal.returns-in-Some-clause-origin
returns-in-Some-clause-origin c =
    let k = c.in-Some.kernel in
    let xs = c.as_slice-functions.result.now in
    IfOk-weaker c.kernel_origin.result _ _
    (λ found h f is.
    let one : Some (func k.function.now) ≡ Some f = c.in-Some.ensures.kernel ∙ is in
    let same : func k.function.now ≡ f = cc in
    let before : functions_of (take k.place xs) ≡ functions_before (program c.args.tree.now).functions c.args.number = ap (λ fs. functions_of (take k.place fs)) c.as_slice-functions.ensures.value ∙ c.in-Some.ensures.before in
    subst (λ (p : Funcs). IsFound (kernel_origins p f) c.args.place found) before (subst (λ (g : Func). IsFound (kernel_origins (functions_of (take k.place xs)) g) c.args.place found) same h))
    c.kernel_origin.ensures

pub returns-in-Some-clause-none : goal.returns-in-Some-clause-none
returns-in-Some-clause-none c =
    IfOk-weaker c.kernel_origin.result _ _ (λ found h none. let e : Some (func c.in-Some.kernel.function.now) ≡ None = c.in-Some.ensures.kernel ∙ none in cc) c.kernel_origin.ensures
