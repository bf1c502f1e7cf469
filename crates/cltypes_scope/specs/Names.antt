-- What the values of this crate stand for, and what leaving a block does.
use Rattle.std.specs.Prelude.{ℕ, Bool, false, List, [], ◌∷◌, ◌++◌, None}
use Rattle.limits.specs.declared.Limits.{Limits}
use Rattle.clmodel.specs.Typing.Context as typing
use Rattle.clmodel.specs.Typing.Context.{Context, Scope, with_name}
use Rattle.cltypes_scope.specs.declared.meaning.Signature.{Signature}
use Rattle.cltypes_scope.specs.declared.meaning.Meaning.{Meaning}
use Rattle.cltypes_scope.specs.declared.meaning.Meaning.TheVariants.{Bound, Callable, Current, BuiltInFunction, Barrier, Unknown}

abbrev pub signature_of : Signature → typing.Signature
signature_of s = record { is_kernel = s.is_kernel; result = s.result; parameters = s.parameters.items }

abbrev pub meaning_of : Meaning → typing.Meaning
meaning_of (Bound kind) = typing.Bound kind
meaning_of (Callable s) = typing.Callable (signature_of s.now)
meaning_of (Current s) = typing.Current (signature_of s.now)
meaning_of (BuiltInFunction f) = typing.BuiltInFunction f
meaning_of Barrier = typing.Barrier
meaning_of Unknown = typing.Unknown

-- of no function
abbrev pub no_signature : typing.Signature
no_signature = record { is_kernel = false; result = None; parameters = [] }

-- on a device of these limits, with no function and no variable
abbrev pub nowhere : Limits → Context
nowhere limits = record { limits = limits; all = []; before = []; current = 0; signature = no_signature; in_loop = false; inner = []; outer = [] }

-- with one more function of the text
abbrev pub with_function : Context → ℕ → Context
with_function c x = record c { all = with_name c.all x }

-- where the text of a function begins
abbrev pub begun : Context → ℕ → typing.Signature → Context
begun c x s = record c { current = x; signature = s; in_loop = false; inner = []; outer = [] }

-- behind the text of the function
abbrev pub ended : Context → Context
ended c = record c { before = c.before ++ (c.current, c.signature) ∷ []; signature = no_signature }

-- in a loop, or not
abbrev pub with_loop : Context → Bool → Context
with_loop c in_loop = record c { in_loop = in_loop }

-- after a block: without the innermost scope
abbrev pub without_innermost : Context → List Scope → Context
without_innermost c [] = record c { inner = []; outer = [] }
without_innermost c (scope ∷ scopes) = record c { inner = scope; outer = scopes }

abbrev pub left : Context → Context
left c = without_innermost c c.outer
