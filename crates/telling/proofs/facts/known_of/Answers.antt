use Rattle.std.proofs.Common.{◌≡◌, None, Some, Option, IfOk, option_copied, ap, sym, subst, ◌∙◌}
use Rattle.clmodel.specs.declared.fault.Location.{Location}
use Rattle.spaces.specs.Buffers.{bytes_in}
use Rattle.telling.specs.Told.{IsSize, place_in}
use Rattle.telling.proofs.facts.known_of.Goals as goal

pub returns-in-Some : goal.returns-in-Some
returns-in-Some c =
    let at : Some c.in-Some.location.now ≡ place_in c.args.fault.now = sym (ap option_copied c.in-Some.is) ∙ c.location_of.ensures in
    subst (λ (o : Option Location). IfOk c.size_and_parameters.result (λ known. IsSize (bytes_in c.args.buffers.now) o known.0)) at c.size_and_parameters.ensures

pub returns : goal.returns
returns c =
    let at : ◌≡◌ {A = Option Location} None (place_in c.args.fault.now) = sym (ap option_copied c.in_default.is) ∙ c.location_of.ensures in
    subst (λ (o : Option Location). IsSize (bytes_in c.args.buffers.now) o c.in_ok-size.size) at tt
