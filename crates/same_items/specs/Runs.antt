-- Two runs of code (own).
use Rattle.std.specs.Prelude.{◌≡◌, ℕ, List}
use Rattle.clmodel.specs.Next.{content}
use Rattle.clmodel.specs.Setup.{Setup, buffer_names}
use Rattle.clmodel.specs.declared.action.Answer.{Answer}
use Rattle.clmodel.specs.declared.tree.VariableType.{VariableType}
use Rattle.regcode.specs.Listing.{Listing}
use Rattle.regcode.specs.Machine.{acts, argument_at}
use Rattle.same_launches.specs.Alike.{AlikeActions, HadAlike}
use Rattle.same_items.specs.Free.{CodeFreedom, AlikeValues}
use Rattle.same_items.specs.Flow.{Labels, AreLabels}

-- What two launches ask of code: over one range and with one budget, and the arguments differ only as the labels of
-- parameters allow.
pub record AlikeSetups (w : CodeFreedom) (setup other : Setup) : Type 0 where
  pub range : setup.range ≡ other.range
  pub budget : setup.budget ≡ other.budget
  pub arguments : (index : ℕ) (kind : VariableType)
      → AlikeValues w (w.parameters index kind) (content (buffer_names setup) index kind (argument_at setup.arguments index))
      (content (buffer_names other) index kind (argument_at other.arguments index))

-- code with fitting labels makes like actions after like answers
abbrev pub ItemsAreSame : Type 0
ItemsAreSame =
    (code : Listing) (w : CodeFreedom) (at : ℕ → Labels) (setup other : Setup) → AreLabels w code.instructions at → AlikeSetups w setup other
    → (item : ℕ) (xs ys : List Answer) → HadAlike w.bytes (acts code setup item) xs ys
    → AlikeActions w.bytes (acts code setup item xs) (acts code other item ys)
