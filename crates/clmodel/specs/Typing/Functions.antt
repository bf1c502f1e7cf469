-- The rules and the faults of functions and of programs (OpenCL 1.2, 6.7.1 and 6.9; C99 6.9).
use Rattle.std.specs.Prelude.{◌≡◌, ℕ, ◌≤◌, Bool, true, false, not, ◌&&◌, ◌||◌, nat_le, List, [], ◌∷◌, ◌++◌, length, map, is_some}
use Rattle.limits.specs.declared.Limits.{Limits}
use Rattle.clmodel.specs.declared.tree.Parameter.{Parameter}
use Rattle.clmodel.specs.declared.type_fault.TypeFault.{TypeFault}
use Rattle.clmodel.specs.declared.type_fault.TypeFault.TheVariants as fault
use Rattle.clmodel.specs.Tree.{Func, Funcs, NoFunc, ThenFunc, Program}
use Rattle.clmodel.specs.Typing.Context.{Context, Signature, Single, signature_of, with_name, is_reserved, is_free, bind}
use Rattle.clmodel.specs.Typing.Least.{Places}
use Rattle.clmodel.specs.Typing.Rules.{AreTyped}
use Rattle.clmodel.specs.Typing.Faults.{unless, declared_faults, row_faults}
use Rattle.clmodel.specs.Typing.Sizes.{Size, row_size, sizes_of, parameter_limit, row_returns}

-- names of functions, each once, in the order of the text
abbrev pub names : Funcs → List ℕ
names NoFunc = []
names (ThenFunc fs f) = with_name (names fs) f.name

abbrev pub signature : Func → Signature
signature f = record { is_kernel = f.is_kernel; result = f.result; parameters = map (λ p. p.kind) f.parameters }

-- functions by their names, in the order of the text
abbrev pub signatures : Funcs → List (ℕ × Signature)
signatures NoFunc = []
signatures (ThenFunc fs f) = signatures fs ++ (f.name, signature f) ∷ []

-- where a function's text begins, on a device of these limits, with these functions before it
abbrev pub begin : Limits → List ℕ → Funcs → Func → Context
begin limits all fs f = record { limits = limits; all = all; before = signatures fs; current = f.name; signature = signature f; in_loop = false; inner = []; outer = [] }

abbrev pub with_params : Context → List Parameter → Context
with_params c [] = c
with_params c (p ∷ ps) = with_params (bind c p.name (Single p.kind)) ps

-- each parameter has a name that is free
abbrev pub AreParams : Context → List Parameter → Type 0
AreParams c [] = Unit {0}
AreParams c (p ∷ ps) = (is_free c p.name ≡ true) × AreParams (bind c p.name (Single p.kind)) ps

-- a name for a function, with these before it
abbrev pub is_new : Funcs → ℕ → Bool
is_new fs x = not (is_reserved x) && not (is_some (signature_of (signatures fs) x))

-- the size of a function's body, with these functions before it
abbrev pub size_of : Funcs → Func → Size
size_of fs f = row_size (sizes_of fs) f.body

-- A function with these before it, within the limits of a device.
pub record IsTypedFunction (limits : Limits) (all : List ℕ) (fs : Funcs) (f : Func) : Type 0 where
  pub name : is_new fs f.name ≡ true
  pub parameters : AreParams (begin limits all fs f) f.parameters
  pub body : AreTyped (with_params (begin limits all fs f) f.parameters) f.body
  pub returns : is_some f.result ≡ true → row_returns f.body ≡ true
  pub loops : f.is_kernel ≡ true → (size_of fs f).loops ≤ limits.loops
  pub bytes : f.is_kernel ≡ true → (size_of fs f).bytes ≤ limits.private_bytes
  pub nodes : f.is_kernel ≡ true → (size_of fs f).nodes ≤ limits.nodes
  pub few : length f.parameters ≤ parameter_limit

abbrev pub AreTypedFunctions : Limits → List ℕ → Funcs → Type 0
AreTypedFunctions limits all NoFunc = Unit {0}
AreTypedFunctions limits all (ThenFunc fs f) = AreTypedFunctions limits all fs × IsTypedFunction limits all fs f

abbrev pub params_faults : Context → List Parameter → Places
params_faults c [] = []
params_faults c (p ∷ ps) = declared_faults c p.name_at p.name ∷ params_faults (bind c p.name (Single p.kind)) ps

abbrev pub heading_faults : Funcs → Func → List TypeFault
heading_faults fs f = unless (is_new fs f.name) (fault.Redeclared f.name_at)

-- Behind the body, at the function's name: a value that isn't always given, then for a kernel its loops, its private
-- arrays, then its nodes, by the device's limits, and then the function's parameters.
abbrev pub end_faults : Limits → Func → Size → Places
end_faults limits f s =
    unless (not (is_some f.result) || row_returns f.body) (fault.MissingReturn f.name_at)
    ∷ unless (not f.is_kernel || nat_le s.loops limits.loops) (fault.TooManyLoops f.name_at)
    ∷ unless (not f.is_kernel || nat_le s.bytes limits.private_bytes) (fault.TooLarge f.name_at)
    ∷ unless (not f.is_kernel || nat_le s.nodes limits.nodes) (fault.TooLarge f.name_at)
    ∷ unless (nat_le (length f.parameters) parameter_limit) (fault.TooLarge f.name_at)
    ∷ []

-- a function's name, its parameters, its body, and its end
abbrev pub function_faults : Limits → List ℕ → Funcs → Func → Places
function_faults limits all fs f =
    heading_faults fs f
    ∷ (params_faults (begin limits all fs f) f.parameters
    ++ row_faults (with_params (begin limits all fs f) f.parameters) f.body
    ++ end_faults limits f (size_of fs f))

abbrev pub functions_faults : Limits → List ℕ → Funcs → Places
functions_faults limits all NoFunc = []
functions_faults limits all (ThenFunc fs f) = functions_faults limits all fs ++ function_faults limits all fs f

abbrev pub program_faults : Limits → Program → Places
program_faults limits p = functions_faults limits (names p.functions) p.functions
