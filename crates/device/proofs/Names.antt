-- A launch has no more buffers than arguments.
use Rattle.std.proofs.Common.{◌≡◌, ℕ, ◌+◌, ◌<◌, ◌≤◌, ◌^◌, Bool, true, false, if◌then◌else◌, Option, None, Some, List, [], ◌∷◌, ◌++◌, length, ap, arith}
use Rattle.std.proofs.lemmas.List.{length-append}
use Rattle.std.specs.List.{list_any}
use Rattle.clmodel.specs.Setup.{Setup, buffer_names, names_among, same_text, with_name}
use Rattle.clmodel.specs.Typing.Sizes.{parameter_limit}
use Rattle.clmodel.specs.declared.setup.Argument.{Argument}
use Rattle.clmodel.specs.declared.setup.Argument.TheVariants.{Buffer, Value, Local}

one_name : (names : List (List ℕ)) (name : List ℕ) → length (with_name names name) ≤ length names + 1
one_name names name = by (list_any (same_text name) names)
  where
    by : (b : Bool) → length (if b then names else names ++ name ∷ []) ≤ length names + 1
    by true = omega arith
    by false = let e = length-append names (name ∷ []) in omega (arith, e)

names_few : (names : List (List ℕ)) (arguments : List (Option Argument)) → length (names_among names arguments) ≤ length names + length arguments
names_few names [] = omega arith
names_few names (Some (Buffer name) ∷ arguments) =
    let one = one_name names name in
    let rest = names_few (with_name names name) arguments in
    omega (arith, one, rest)
names_few names (Some (Value n) ∷ arguments) = let rest = names_few names arguments in omega (arith, rest)
names_few names (Some (Local size) ∷ arguments) = let rest = names_few names arguments in omega (arith, rest)
names_few names (None ∷ arguments) = let rest = names_few names arguments in omega (arith, rest)

-- the buffers of a kernel's launch have numbers of 32 bits
pub buffers_few : (setup other : Setup) → setup ≡ other → length other.arguments ≤ parameter_limit → length (buffer_names setup) < 2 ^ 32
buffers_few setup other same few =
    let e = ap (λ (s : Setup). length (buffer_names s)) same in
    let most = names_few [] other.arguments in
    omega (arith, e, most, few)
