-- Words in one line (own).
use Rattle.std.specs.Prelude.{◌≢◌, ℕ, All, List, codes}
use Rattle.widening.specs.declared.decisions.Why.{Why}
use Rattle.widening.specs.declared.decisions.Why.TheVariants as why

-- a text without a line feed
abbrev pub IsOneLine : List ℕ → Type 0
IsOneLine text = All (λ b. b ≢ 10) text

-- why a source decides
abbrev pub why_word : Why → List ℕ
why_word why.Address = codes "address"
why_word why.Branch = codes "branch"
why_word why.Division = codes "division"
why_word why.Index = codes "index"
why_word why.Dimension = codes "dimension"
why_word why.UniformStore = codes "uniform store"
