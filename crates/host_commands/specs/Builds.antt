-- What a source builds to on a device (OpenCL 1.2, 5.6.2).
use Rattle.std.specs.Prelude.{ℕ, ⊤, List, Result, Ok, Err}
use Rattle.clmodel.specs.Tree.{Program}
use Rattle.clmodel.specs.Typing.{IsTypedWithin, IsTypeFault}
use Rattle.clmodel.specs.declared.type_fault.TypeFault.{TypeFault}
use Rattle.clmodel.specs.declared.type_fault.TypeFault.TheVariants as type_fault
use Rattle.clsyntax.specs.Source.{IsSource}
use Rattle.clsyntax_lex.specs.declared.token.SyntaxFault.{SyntaxFault}
use Rattle.clsyntax_lex.specs.declared.token.SyntaxFault.TheVariants as syntax_fault
use Rattle.limits.specs.declared.Limits.{Limits}
use Rattle.host_commands.specs.declared.build.NotBuilt.{NotBuilt}
use Rattle.host_commands.specs.declared.build.NotBuilt.TheVariants as not_built
use Rattle.host_commands.specs.declared.command.BuildFault.{BuildFault}
use Rattle.host_commands.specs.declared.command.BuildFault.TheVariants as build_fault
use Rattle.host_commands.specs.declared.command.Refusal.{Refusal}
use Rattle.host_commands.specs.declared.command.Refusal.TheVariants as refusal

-- within the limits of a device a source is read as a program, which is typed, or it has a fault
unfoldable pub Builds : Limits → List ℕ → Result Program BuildFault → Type 0
Builds limits source (Ok p) = IsSource limits source (Ok p) × IsTypedWithin limits p
Builds limits source (Err (build_fault.Syntax f)) = IsSource limits source (Err f)
Builds limits source (Err (build_fault.Type f)) = (p : Program) × IsSource limits source (Ok p) × IsTypeFault limits p f

-- why no program was made of a source: its fault, or want of memory, which says nothing of it
abbrev pub IsUnbuilt : Limits → List ℕ → NotBuilt → Type 0
IsUnbuilt limits source (not_built.Fault f) = Builds limits source (Err f)
IsUnbuilt limits source not_built.OutOfMemory = ⊤

-- what a fault of reading means for building
abbrev pub syntax_reason : SyntaxFault → NotBuilt
syntax_reason syntax_fault.OutOfMemory = not_built.OutOfMemory
syntax_reason f = not_built.Fault (build_fault.Syntax f)

-- what a fault of checking means for building
abbrev pub type_reason : TypeFault → NotBuilt
type_reason type_fault.OutOfMemory = not_built.OutOfMemory
type_reason f = not_built.Fault (build_fault.Type f)

-- with which refusal a program that isn't built is answered
abbrev pub refusal_of : NotBuilt → Refusal
refusal_of (not_built.Fault f) = refusal.BuildFailed f
refusal_of not_built.OutOfMemory = refusal.OutOfMemory
