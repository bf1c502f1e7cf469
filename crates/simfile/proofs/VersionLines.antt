-- The first lines of the versions.
use Rattle.std.proofs.Common.{◌≡◌, ℕ, List, None, Some, refl, sym, ap, ◌∙◌, arith, get_or}
use Rattle.simfile.specs.declared.lines.Version.{Version}
use Rattle.simfile.specs.declared.lines.Version.TheVariants as version
use Rattle.simfile.specs.Script.{head}
use Rattle.simfile.specs.Stepwise.{TellsVersion}

-- no line is the first one of both versions
apart : head version.Two ≡ head version.Three → ⊥
apart e = let digits : 50 ≡ 51 = ap (λ l. get_or l 6 0) e in absurd (omega (arith, digits))

pub only_two : (line : List ℕ) → line ≡ head version.Two → (v : Version) → TellsVersion line v → Some version.Two ≡ Some v
only_two line two version.One h = absurd h
only_two line two version.Two h = refl
only_two line two version.Three h = absurd (apart (sym two ∙ h))

pub only_three : (line : List ℕ) → line ≡ head version.Three → (v : Version) → TellsVersion line v → Some version.Three ≡ Some v
only_three line three version.One h = absurd h
only_three line three version.Two h = absurd (apart (sym h ∙ three))
only_three line three version.Three h = refl

pub neither : (line : List ℕ) → (line ≡ head version.Two → ⊥) → (line ≡ head version.Three → ⊥) → (v : Version) → TellsVersion line v → None ≡ Some v
neither line two three version.One h = absurd h
neither line two three version.Two h = absurd (two h)
neither line two three version.Three h = absurd (three h)
