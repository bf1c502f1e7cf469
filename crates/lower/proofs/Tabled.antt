-- The tables that are made from code have what its instructions name.
use Rattle.std.proofs.Common.{◌≡◌, ℕ, zero, suc, ◌+◌, ◌<◌, ◌≤◌, ◌==◌, Bool, true, false, if◌then◌else◌, None, Some, List, [], ◌∷◌, length, slice_get, refl, ap, sym, subst, arith}
use Rattle.std.proofs.lemmas.Bool.Decides.{nat_tests}
use Rattle.std.proofs.Math.Nat.{le-max_left, le-max_right}
use Rattle.std.specs.List.{All}
use Rattle.std.specs.Option.{option_map}
use Rattle.clmodel.specs.declared.tree.VariableType.{VariableType}
use Rattle.regcode.specs.Listing.{Listing}
use Rattle.regcode.specs.Rules.{kind_at, HasRoom}
use Rattle.regcode.specs.declared.instruction.Instruction.{Instruction}
use Rattle.regcode.specs.declared.instruction.Instruction.TheVariants as instruction
use Rattle.code_tables.specs.Tables.{register_kind, register_in, name_behind, renamed, name_count, greatest, each_below, registers_of, room, register_count, objects_of, names_of, arrays_of, array_count, elements_for, most_at, depth_after, loops_from, tabled}
use Rattle.code_tables.proofs.Below.{below_counted, below_has, below_at}
use Rattle.code_tables.proofs.Counted.{greatest_there}
use Rattle.lower.specs.Accepted.{Has, HasArray, Suits, Suit, SuitFits}

tables_have : (code : Listing) (n : ℕ) → ((r : ℕ) → r < n → kind_at code r ≡ Some (register_kind r)) → (rs : List ℕ) → room rs ≤ n → Has code rs
tables_have code n have [] h = tt
tables_have code n have (r ∷ rs) h =
    let a = le-max_left (r + 1) (room rs) in
    let b = le-max_right (r + 1) (room rs) in
    (have r (omega (arith, h, a)), tables_have code n have rs (omega (arith, h, b)))

-- what an instruction gives to its own array
own_elements : (array count : ℕ) → (if array == array then count else 0) ≡ count
own_elements array count = let same : (array == array) ≡ true = grind (arith, nat_tests) in ap (λ b. if b then count else 0) same

array_there : (of : ℕ → ℕ) (n : ℕ) (i : Instruction) → arrays_of i ≤ n → ((array : ℕ) → elements_for array i ≤ of array) → HasArray (each_below of n) i
array_there of n (instruction.UnsetArray array count) h most =
    let own = own_elements array count in
    let enough = most array in
    subst (λ o. HasRoom o count) (sym (below_has of n array (omega (arith, h)))) (omega (arith, own, enough))
array_there of n (instruction.PrivateLoad to array index element name) h most = let c = below_counted of n in omega (arith, c, h)
array_there of n (instruction.PrivateStore array index value element name) h most = let c = below_counted of n in omega (arith, c, h)
array_there of n _ h most = tt

suit_there : (parameters : List VariableType) (code : List Instruction) (place : ℕ) (i : Instruction) → Suit parameters code → slice_get code place ≡ Some i → Suits parameters i
suit_there parameters [] place i h is = absurd (cc)
suit_there parameters (j ∷ code) zero i h is =
    subst (λ o. elim o as (λ _. Type 0) [ None ↦ Unit {0} | Some j ↦ Suits parameters j ]) is h.0
suit_there parameters (j ∷ code) (suc place) i h is = suit_there parameters code place i h.1 is

pub suit_fits : SuitFits
suit_fits parameters code suit place i is =
    suit_there parameters code place i suit is (tabled code parameters) refl
    (record {
      registers = tables_have (tabled code parameters) (register_count code) (λ r below. ap (option_map (λ register. register.kind)) (below_has (register_in code) (register_count code) r below)) (registers_of i) (greatest_there (λ j. room (registers_of j)) code place i is);
      arrays = array_there (most_at code) (array_count code) i (greatest_there arrays_of code place i is) (λ array. greatest_there (elements_for array) code place i is);
      objects = greatest_there objects_of code place i is;
      names = let there = greatest_there names_of code place i is in let most = le-max_right 1 (greatest names_of code) in omega (arith, there, most);
    })

pub loops_counted : (depth : ℕ) (code : List Instruction) → length (loops_from depth code) ≡ length code
loops_counted depth [] = refl
loops_counted depth (i ∷ code) = let rest = loops_counted (depth_after depth i) code in omega (arith, rest)

-- a register's name is one of code
renamed_below : (most register name : ℕ) (i : Instruction) → name < most → names_of i ≤ most → renamed register name i < most
renamed_below most register name (instruction.Move to from other) h few = either (from == register)
  where
    either : (b : Bool) → (if b then other else name) < most
    either true = omega (arith, few)
    either false = h
renamed_below most register name _ h few = h

name_below : (most name : ℕ) (code : List Instruction) (register : ℕ) → name < most → greatest names_of code ≤ most → name_behind name code register < most
name_below most name [] register h few = h
name_below most name (i ∷ code) register h few =
    let a = le-max_left (names_of i) (greatest names_of code) in
    let b = le-max_right (names_of i) (greatest names_of code) in
    name_below most (renamed register name i) code register (renamed_below most register name i h (omega (arith, few, a))) (omega (arith, few, b))

-- the names of registers are in the table of names
pub names_there : (code : List Instruction) (count : ℕ) → All (λ register. register.name < name_count code) (each_below (register_in code) count)
names_there code count k d inside =
    let c = below_counted (register_in code) count in
    let few = le-max_right 1 (greatest names_of code) in
    let one = le-max_left 1 (greatest names_of code) in
    subst (λ register. register.name < name_count code) (sym (below_at (register_in code) count k d (omega (arith, inside, c))))
    (name_below (name_count code) 0 code k (omega (arith, one)) few)
