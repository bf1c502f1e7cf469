use Rattle.std.proofs.Common.{◌≡◌, ℕ, List, inl, rules, string_bytes, subst}
use Rattle.std.specs.Str.Lossy.{utf8_lossy}
use Rattle.explain_reasons.specs.Reasons.{AreElements}
use Rattle.explain_reasons.proofs.reasons.private_reason.Goals as goal

pub returns-in_ok-name-in-Some : goal.returns-in_ok-name-in-Some
returns-in_ok-name-in-Some c =
    let named : string_bytes c.in_ok-name-in-Some.name ≡ utf8_lossy c.args.name.now = search rules in
    inl (c.bytes.result, c.in-Some.array.width, subst (λ (n : List ℕ). AreElements n c.bytes.result c.in-Some.array.width c.elements_of.result) named c.elements_of.ensures)
