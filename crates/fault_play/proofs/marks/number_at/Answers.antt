use Rattle.std.proofs.Common.{ℕ, ◌≡◌, Option, None, Some, refl, sym, ◌∙◌}
use Rattle.std.specs.Option.{IfSome}
use Rattle.fault_play.proofs.marks.number_at.Goals as goal

-- what holds of a number that is the value of an option holds of its value
if_some : (o : Option ℕ) {P : ℕ → Type 0} → ((x : ℕ) → o ≡ Some x → P x) → IfSome o P
if_some None h = tt
if_some (Some x) h = h x refl

pub returns : goal.returns
returns g c = if_some c.number_at.result (λ x is. λ l r s at. (c.in-Some.access, c.in-Some.is, sym (c.number_at.ensures l r s at) ∙ is))
