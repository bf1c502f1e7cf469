-- Few arguments name few buffers.
use Rattle.std.proofs.Common.{ℕ, ◌+◌, ◌<◌, ◌≤◌, ◌^◌, Bool, true, false, if◌then◌else◌, Option, None, Some, List, [], ◌∷◌, ◌++◌, length, arith}
use Rattle.std.proofs.lemmas.List.{length-append}
use Rattle.std.specs.List.{list_any}
use Rattle.clmodel.specs.Setup.{names_among, same_text, with_name}
use Rattle.clmodel.specs.declared.setup.Argument.{Argument}
use Rattle.clmodel.specs.declared.setup.Argument.TheVariants.{Buffer, Value, Local}

one_more : (names : List (List ℕ)) (name : List ℕ) → length (with_name names name) ≤ length names + 1
one_more names name = by (list_any (same_text name) names)
  where
    by : (b : Bool) → length (if b then names else names ++ name ∷ []) ≤ length names + 1
    by true = omega arith
    by false = let e = length-append names (name ∷ []) in omega (arith, e)

no_more : (names : List (List ℕ)) (arguments : List (Option Argument)) → length (names_among names arguments) ≤ length names + length arguments
no_more names [] = omega arith
no_more names (Some (Buffer name) ∷ arguments) =
    let one = one_more names name in
    let rest = no_more (with_name names name) arguments in
    omega (arith, one, rest)
no_more names (Some (Value n) ∷ arguments) = let rest = no_more names arguments in omega (arith, rest)
no_more names (Some (Local size) ∷ arguments) = let rest = no_more names arguments in omega (arith, rest)
no_more names (None ∷ arguments) = let rest = no_more names arguments in omega (arith, rest)

-- the buffers that four arguments name have numbers of 32 bits
pub few_names : (arguments : List (Option Argument)) → length arguments ≤ 4 → length (names_among [] arguments) < 2 ^ 32
few_names arguments few = let most = no_more [] arguments in omega (arith, most, few)
