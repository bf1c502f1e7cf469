-- Code with the bodies of helpers left out (own).
use Rattle.std.specs.Prelude.{◌+◌, ◌<◌, ◌≤◌, ◌^◌, List, [], ◌∷◌, ◌++◌, length, All}
use Rattle.clmodel.specs.Next.{all_sites}
use Rattle.clmodel.specs.Typing.Rules.{length_limit}
use Rattle.clmodel.specs.Typing.Sizes.{row_size, node_limit}
use Rattle.regcode.specs.declared.instruction.Instruction.{Instruction}
use Rattle.lower_code.specs.Helpers.{inside, sizes_in, widths_in, body_of, BarriersKnown, BarriersCounted, LengthsKnown, LengthsCounted, NodesCounted, WidthsCounted, EndsKnown}
use Rattle.lower_code.specs.Room.{FewElements, levels}
use Rattle.lower_code.specs.Trees.{all_of}
use Rattle.lower_code.specs.Variables.{row_elements}
use Rattle.lower_code.specs.declared.holes.Hole.{Hole}
use Rattle.lower_code.specs.declared.holes.CodePart.{CodePart}
use Rattle.lower_code.specs.declared.holes.CodePart.TheVariants as part

-- the body that is left out
abbrev pub hole_code : Hole → List Instruction
hole_code h = body_of h.functions.now h.function.now h.position.level.0 h.position.depth h.position.site

abbrev pub part_code : CodePart → List Instruction
part_code (part.Own i) = i ∷ []
part_code (part.Left h) = hole_code h

-- the whole code
abbrev pub whole : List CodePart → List Instruction
whole [] = []
whole (p ∷ ps) = part_code p ++ whole ps

-- What is known of the functions before a helper is true of them, each of them is known, the barriers of its body have
-- numbers of 32 bits, it has no more nodes, with the loops round it, than a kernel may have, the levels that its code
-- may need have registers, and its arrays no more elements than one may have.
pub record HoleKnown (h : Hole) : Type 0 where
  pub barriers : BarriersKnown h.functions.now h.known.now
  pub complete : length h.functions.now ≤ length h.known.now
  pub counted : BarriersCounted h.functions.now h.known.now
  pub lengths : LengthsKnown h.functions.now h.known.now
  pub measured : LengthsCounted h.functions.now h.known.now
  pub ends : EndsKnown h.functions.now h.ends.now
  pub nodes : NodesCounted h.functions.now
  pub few : h.position.site + all_sites (inside h.functions.now) (all_of h.function.now.body.items) < 2 ^ 32
  pub small : h.position.depth + (row_size (sizes_in h.functions.now) (all_of h.function.now.body.items)).nodes ≤ node_limit
  pub widths : WidthsCounted h.functions.now
  pub low : h.position.level.0 + length h.function.now.parameters.items + levels (row_size (widths_in h.functions.now) (all_of h.function.now.body.items)).nodes < 2 ^ 28
  pub elements : FewElements h.functions.now
  pub arrays : row_elements (all_of h.function.now.body.items) ≤ length_limit

-- a body that is left out of code is known, and is not empty
pub record IsLeft (h : Hole) : Type 0 where
  pub known : HoleKnown h
  pub code : 0 < length (hole_code h)

abbrev pub IsKnown : CodePart → Type 0
IsKnown (part.Own i) = Unit {0}
IsKnown (part.Left h) = IsLeft h

abbrev pub AllKnown : List CodePart → Type 0
AllKnown parts = All IsKnown parts
