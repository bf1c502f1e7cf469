-- The bodies of helpers that are being written, each behind the one that calls it (own).
use Rattle.std.specs.Prelude.{◌≡◌, List, [], ◌∷◌, ◌++◌, reverse, All, Vec}
use Rattle.std.specs.declared.alloc.Global.{Global}
use Rattle.regcode.specs.declared.instruction.Instruction.{Instruction}
use Rattle.lower_code.specs.Parts.{hole_code, whole, AllKnown}
use Rattle.lower_code.specs.declared.holes.CodePart.{CodePart}
use Rattle.lower_code.specs.declared.holes.CodePart.TheVariants as part

-- the code that is left to write, of bodies of which the innermost is the first
abbrev pub left : List (Vec CodePart Global) → List Instruction
left [] = []
left (body ∷ bodies) = whole (reverse body.items) ++ left bodies

abbrev pub EachKnown : List (Vec CodePart Global) → Type 0
EachKnown bodies = All (λ body. AllKnown body.items) bodies

-- what is on the list when a part is written: the bodies that were there, and behind them that of a hole
abbrev pub Opened : CodePart → List (Vec CodePart Global) → List (Vec CodePart Global) → Type 0
Opened (part.Own i) old new = new ≡ old
Opened (part.Left h) old new = (body : Vec CodePart Global) × (new ≡ old ++ body ∷ []) × (whole (reverse body.items) ≡ hole_code h)
