-- The parameters of a kernel as an explanation tells them (own), and which of them the commands before a launch give a
-- buffer.
use Rattle.std.specs.Prelude.{◌≡◌, ℕ, ◌==◌, ◌&&◌, ◌<◌, ◌/◌, suc, Bool, true, false, Option, None, Some, List, [], ◌∷◌, ◌++◌, length, codes, map, slice_get, slice_index_or, string_bytes, if◌then◌else◌}
use Rattle.std.specs.Option.{option_map_or, unwrap_or}
use Rattle.std.specs.Str.Lossy.{utf8_lossy}
use Rattle.clnum.specs.Integer.{bits, type_word}
use Rattle.clmodel.specs.Setup.{same_text}
use Rattle.clmodel.specs.declared.setup.Argument.{Argument}
use Rattle.clmodel.specs.declared.setup.Argument.TheVariants as argument
use Rattle.clmodel.specs.declared.tree.AddressSpace.{AddressSpace}
use Rattle.clmodel.specs.declared.tree.AddressSpace.TheVariants as space
use Rattle.clmodel.specs.declared.tree.Parameter.{Parameter}
use Rattle.clmodel.specs.declared.tree.VariableType.{VariableType}
use Rattle.clmodel.specs.declared.tree.VariableType.TheVariants as variable
use Rattle.explanation.specs.declared.told.ParameterFacts.{ParameterFacts}
use Rattle.host_commands.specs.declared.command.Command.{Command}
use Rattle.host_commands.specs.declared.command.Command.TheVariants as command
use Rattle.launch_facts.specs.Commands.{did, IsLast}

-- OpenCL 1.2, section 6.5
abbrev pub space_word : AddressSpace → List ℕ
space_word space.Global = codes "__global"
space_word space.Local = codes "__local"
space_word space.Constant = codes "__constant"

abbrev pub const_word : Bool → List ℕ
const_word true = codes "const "
const_word false = []

-- the type of a variable as a source has it (OpenCL 1.2, sections 6.1 and 6.5)
abbrev pub type_text : VariableType → List ℕ
type_text (variable.Integer kind) = type_word kind
type_text (variable.Pointer pointer) =
    space_word pointer.space ++ codes " " ++ const_word pointer.is_const ++ type_word pointer.element ++ codes " *"

-- the name that a source has at a place
abbrev pub name_of : List (List ℕ) → ℕ → List ℕ
name_of names place = unwrap_or (slice_get names place) []

-- a parameter has the name
abbrev pub is_named : List (List ℕ) → List ℕ → Parameter → Bool
is_named names name parameter = option_map_or (λ other. same_text other name) (slice_get names parameter.name) false

-- the element of a pointer's type in which a byte of its object lies (OpenCL 1.2, section 6.1.5)
abbrev pub element_of : Option ℕ → VariableType → Option ℕ
element_of (Some byte) (variable.Pointer pointer) = Some (byte / (bits pointer.element / 8))
element_of (Some byte) (variable.Integer kind) = None
element_of None kind = None

-- an index, the name and the type of a parameter, and the element of its type in which a byte lies
pub record IsFacts (byte : Option ℕ) (names : List (List ℕ)) (i : ℕ) (parameter : Parameter) (p : ParameterFacts) : Type 0 where
  pub index : p.index ≡ i
  pub name : string_bytes p.name ≡ utf8_lossy (name_of names parameter.name)
  pub type_name : string_bytes p.type_name ≡ type_text parameter.kind
  pub element : p.element ≡ element_of byte parameter.kind

-- what is told of a parameter is right, by its index
pub record TellsOf (byte : Option ℕ) (parameters : List Parameter) (names : List (List ℕ)) (p : ParameterFacts) : Type 0 where
  pub parameter : Parameter
  pub at : slice_get parameters p.index ≡ Some parameter
  pub facts : IsFacts byte names p.index parameter p

abbrev pub indexes : List ParameterFacts → List ℕ
indexes found = map (λ p. p.index) found

-- a command sets the argument of this index of a kernel (OpenCL 1.2, section 5.7.2)
abbrev pub sets : List ℕ → ℕ → Command → Bool
sets kernel index (command.Arg name number argument) = same_text name kernel && (number == index)
sets kernel index _ = false

abbrev pub is_buffer : List ℕ → Argument → Bool
is_buffer buffer (argument.Buffer name) = same_text name buffer
is_buffer buffer (argument.Value n) = false
is_buffer buffer (argument.Local size) = false

-- a command sets an argument to a buffer
abbrev pub gives_buffer : List ℕ → Command → Bool
gives_buffer buffer (command.Arg name number argument) = is_buffer buffer argument
gives_buffer buffer _ = false

-- whether the command of a number does so
abbrev pub gave_buffer : List Command → List ℕ → ℕ → Bool
gave_buffer commands buffer number = option_map_or (gives_buffer buffer) (slice_get commands number) false

-- whether an argument is a buffer: the last command that was done and set it gave it the buffer
abbrev pub IsGiven : List Command → List Bool → List ℕ → List ℕ → ℕ → Bool → Type 0
IsGiven commands done kernel buffer index is =
    (o : Option ℕ) × IsLast (did (sets kernel index) commands done) (length commands) o × (is ≡ option_map_or (gave_buffer commands buffer) o false)

-- the places of what is true, from a number on
abbrev pub true_places : ℕ → List Bool → List ℕ
true_places n [] = []
true_places n (b ∷ bs) = if b then n ∷ true_places (suc n) bs else true_places (suc n) bs

-- the numbers below n that are chosen, in order: each number is chosen or not, as `q` says
pub record AreChosen (q : ℕ → Bool → Type 0) (n : ℕ) (places : List ℕ) : Type 0 where
  pub chosen : List Bool
  pub each : length chosen ≡ n
  pub values : (j : ℕ) → j < n → q j (slice_index_or chosen j false)
  pub are : places ≡ true_places 0 chosen
