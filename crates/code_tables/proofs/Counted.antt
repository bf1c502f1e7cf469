-- The greatest numbers of code, and the lengths of its private arrays.
use Rattle.std.proofs.Common.{◌≡◌, ℕ, zero, suc, ◌+◌, ◌<◌, ◌≤◌, max, refl, None, Some, slice_get, List, [], ◌∷◌, ◌++◌, length, drop, get_or, ap, ap₂, sym, ◌∙◌, arith}
use Rattle.std.proofs.lemmas.List.{ext_get_or}
use Rattle.std.proofs.lemmas.Option.{slice_get-get_or}
use Rattle.std.proofs.Math.Nat.{le-max_left, le-max_right}
use Rattle.regcode.specs.declared.instruction.Instruction.{Instruction}
use Rattle.regcode.specs.declared.tables.Register.{Register}
use Rattle.regcode.specs.declared.tables.RegisterKind.{RegisterKind}
use Rattle.code_tables.proofs.Below.{below_counted, below_at}
use Rattle.code_tables.specs.Tables.{register_kind, register_in, greatest, registers_of, room, register_count, name_behind, register_name, arrays_of, array_count, most_at, each_below}

-- no instruction has a greater number than the greatest
pub greatest_there : (number : Instruction → ℕ) (code : List Instruction) (place : ℕ) (i : Instruction) → slice_get code place ≡ Some i → number i ≤ greatest number code
greatest_there number [] place i is = absurd (cc)
greatest_there number (j ∷ code) zero i is =
    let a = le-max_left (number j) (greatest number code) in
    let e : number j ≡ number i = ap (λ o. elim o as (λ _. ℕ) [ None ↦ 0 | Some k ↦ number k ]) is in
    omega (arith, a, e)
greatest_there number (j ∷ code) (suc place) i is =
    let a = le-max_right (number j) (greatest number code) in
    let b = greatest_there number code place i is in
    omega (arith, a, b)

-- an instruction names private arrays that are there
pub array_within : (code : List Instruction) (i : ℕ) (x : Instruction) (count : ℕ) → i < length code → x ≡ get_or code i x → count ≡ array_count code → arrays_of x ≤ count
array_within code i x count below is counted =
    let there = greatest_there arrays_of code i (get_or code i x) (slice_get-get_or code i x below) in
    let same = ap arrays_of is in
    omega (arith, there, same, counted)

-- behind the last instruction
none_behind : (code : List Instruction) (i : ℕ) → length code ≤ i → drop i code ≡ []
none_behind [] zero h = refl
none_behind [] (suc i) h = refl
none_behind (x ∷ code) zero h = absurd (omega (arith, h))
none_behind (x ∷ code) (suc i) h = none_behind code i (omega (arith, h))

all_below : (of : ℕ → ℕ) (count : ℕ) (xs : List ℕ) → length xs ≡ count → ((i : ℕ) → get_or xs i 0 ≡ of i) → xs ≡ each_below of count
all_below of count xs long each =
    ext_get_or 0 xs (each_below of count) (long ∙ sym (below_counted of count))
    (λ i below. each i ∙ sym (below_at of count i 0 (omega (arith, below, long))))

-- a move out of a register names one that is there
pub registers_within : (code : List Instruction) (i : ℕ) (x : Instruction) (count : ℕ) → i < length code → x ≡ get_or code i x → count ≡ register_count code → room (registers_of x) ≤ count
registers_within code i x count below is counted =
    let there = greatest_there (λ j. room (registers_of j)) code i (get_or code i x) (slice_get-get_or code i x below) in
    let same = ap (λ j. room (registers_of j)) is in
    omega (arith, there, same, counted)

-- where all instructions were seen, the names are those of the registers
pub names_end : (code : List Instruction) (i : ℕ) (names : List ℕ) → length code ≤ i → length names ≡ register_count code
    → ((register : ℕ) → name_behind (get_or names register 0) (drop i code) register ≡ register_name code register) → names ≡ each_below (register_name code) (register_count code)
names_end code i names past long each =
    all_below (register_name code) (register_count code) names long
    (λ register. ap (λ is. name_behind (get_or names register 0) is register) (sym (none_behind code i past)) ∙ each register)

-- one register more
pub registers_grow : (code : List Instruction) (names : List ℕ) (registers : List Register) (i : ℕ) (kind : RegisterKind) (name : ℕ)
    → names ≡ each_below (register_name code) (register_count code) → i < length names → kind ≡ register_kind i → name ≡ get_or names i name → registers ≡ each_below (register_in code) i
    → registers ++ record { kind = kind; name = name } ∷ [] ≡ each_below (register_in code) (i + 1)
registers_grow code names registers i kind name named below k n so_far =
    let same : length names ≡ register_count code = ap length named ∙ below_counted (register_name code) (register_count code) in
    let its : name ≡ register_name code i =
    n ∙ ap (λ xs. get_or xs i name) named ∙ below_at (register_name code) (register_count code) i name (omega (arith, below, same)) in
    ap (λ rs. rs ++ record { kind = kind; name = name } ∷ []) so_far
    ∙ ap₂ (λ j m. each_below (register_in code) i ++ record { kind = j; name = m } ∷ []) k its
    ∙ ap (each_below (register_in code)) (let next : suc i ≡ i + 1 = omega arith in next)

-- all registers
pub registers_end : (code : List Instruction) (names : List ℕ) (registers : List Register) (i : ℕ)
    → names ≡ each_below (register_name code) (register_count code) → i ≡ length names → registers ≡ each_below (register_in code) i → registers ≡ each_below (register_in code) (register_count code)
registers_end code names registers i named all so_far =
    so_far ∙ ap (each_below (register_in code)) (all ∙ ap length named ∙ below_counted (register_name code) (register_count code))

-- where all instructions were seen, the lengths are the most of each array
pub lengths_end : (code : List Instruction) (i : ℕ) (lengths : List ℕ) → length code ≤ i → length lengths ≡ array_count code
    → ((array : ℕ) → max (get_or lengths array 0) (most_at (drop i code) array) ≡ most_at code array) → lengths ≡ each_below (most_at code) (array_count code)
lengths_end code i lengths past long each =
    all_below (most_at code) (array_count code) lengths long
    (λ array. let known = each array in let none = ap (λ is. most_at is array) (none_behind code i past) in omega (arith, known, none))
