-- Loops: turn after turn, while ticks are left.
use Rattle.std.proofs.Common.{◌≡◌, ℕ, zero, suc, ◌+◌, ◌-◌, ◌≤◌, Bool, true, false, Some, List, [], ◌∷◌, ◌++◌, length, take, slice_get, slice_index, refl, sym, ap, ap₂, ◌∙◌, arith, length-append}
use Rattle.clmodel.specs.Next.{Continuation, tick, Variables, turns, condition, test}
use Rattle.clmodel.specs.Tree.{MaybeTerm, WithoutTerm, WithTerm}
use Rattle.regcode.specs.Machine.{State, ItemContext, with_turns, passed, onward}
use Rattle.regcode.specs.declared.instruction.Instruction.{Instruction}
use Rattle.regcode.specs.declared.instruction.Instruction.TheVariants as instruction
use Rattle.regcode.proofs.Agreement.{Agree, with_fewer, enter_runs, jump_runs, turn_runs, back_runs, branch_runs}
use Rattle.lower_expr.specs.Scope.{Scope, Sees, free_level}
use Rattle.lower_expr.specs.Expressions.{expr_code, register_for}
use Rattle.lower_expr.specs.Agreement.{HasAt}
use Rattle.lower_expr.proofs.Places.{has_left, has_right, has_moved, seen_kept}
use Rattle.lower_expr.proofs.Expressions.{expr_runs}
use Rattle.lower_code.specs.Code.{condition_code, while_code, do_code}
use Rattle.lower.proofs.Stands.{Stands, outer_turns, inner_turns, all_turns, reached_stands, passed_stands, onward_stands, stands_to, stands_out, here_at}

-- the turns of the loops with one more of the innermost
abbrev turned : List ℕ → State → List ℕ
turned ts s = take (length ts) s.counters ++ suc (slice_index s.counters (length ts)) ∷ []

turned_is : (ts : List ℕ) (count : ℕ) (now : State) → take (length (ts ++ count ∷ [])) now.counters ≡ ts ++ count ∷ [] → turned ts now ≡ ts ++ suc count ∷ []
turned_is ts count now e = ap₂ (λ l n. l ++ suc n ∷ []) (outer_turns ts count now.counters e) (inner_turns ts count now.counters e)

turned_stands : (level : ℕ) (s : State) (ts : List ℕ) (count place : ℕ) (now : State) (p later : ℕ) → p ≡ later → Stands level s (ts ++ count ∷ []) place now
    → Stands level s (ts ++ suc count ∷ []) later (record now { place = p; counters = turned ts now })
turned_stands level s ts count place now p later e h =
    record { at = e; kept = h.kept; turns = ap (take (length (ts ++ suc count ∷ []))) (turned_is ts count now h.turns) ∙ all_turns (ts ++ suc count ∷ []) }

entered_stands : (level : ℕ) (s : State) (ts : List ℕ) (place : ℕ) (now : State) → Stands level s ts place now
    → Stands level s (ts ++ 0 ∷ []) (place + 1) (with_turns now (take (length ts) now.counters ++ 0 ∷ []))
entered_stands level s ts place now h =
    record { at = ap (λ n. n + 1) h.at; kept = h.kept; turns = ap (λ l. take (length (ts ++ 0 ∷ [])) (l ++ 0 ∷ [])) h.turns ∙ all_turns (ts ++ 0 ∷ []) }

-- no tick is left
none_left : (given : ItemContext) (code : List Instruction) (s : State) (run : Continuation) → Agree given code 0 s run
none_left given code s run = record { by = λ count ticks below enough. absurd (omega arith) }

-- A loop with its first turn, its condition and the way back at these places.
module _ (given : ItemContext) (code : List Instruction) (bound : ℕ) (scope : Scope) (s : State) (ts : List ℕ) (turn condition back by : ℕ)
    (holds : Variables → (Bool → Continuation) → Continuation) (body : ℕ → Variables → (Variables → Continuation) → Continuation) (after : Variables → Continuation)
    (turn_there : slice_get code turn ≡ Some (instruction.Turn (length ts))) (back_there : slice_get code back ≡ Some (instruction.Back by)) (goes_back : turn + by ≡ back)
    (condition_runs : (fewer count : ℕ) (now : State) (vs : Variables) (run : Bool → Continuation) → Stands scope.base s (ts ++ count ∷ []) condition now → Sees scope now.registers vs
    → ((last : State) → Stands scope.base s (ts ++ count ∷ []) back last → Sees scope last.registers vs → Agree given code fewer last (run true))
    → ((last : State) → Stands scope.base s (ts ++ count ∷ []) (back + 1) last → Sees scope last.registers vs → Agree given code fewer last (run false))
    → Agree given code fewer now (holds vs run))
    (body_runs : (fewer : ℕ) → fewer ≤ bound → (count : ℕ) (now : State) (vs : Variables) (again : Variables → Continuation) → Stands scope.base s (ts ++ count ∷ []) (turn + 1) now → Sees scope now.registers vs
    → ((last : State) (vs : Variables) → Stands scope.base s (ts ++ count ∷ []) condition last → Sees scope last.registers vs → Agree given code fewer last (again vs))
    → Agree given code fewer now (body count vs again))
    (after_runs : (now : State) (vs : Variables) → Stands scope.base s ts (back + 1) now → Sees scope now.registers vs → Agree given code bound now (after vs)) where
  pub turns_run : (most fewer : ℕ) → fewer ≤ most → fewer ≤ bound → (count : ℕ) (now : State) (vs : Variables) → Stands scope.base s (ts ++ count ∷ []) condition now → Sees scope now.registers vs
      → Agree given code fewer now (turns most holds body after count vs)
  turns_run zero zero enough below count now vs stands same = none_left given code now _
  turns_run zero (suc fewer) enough below count now vs stands same = absurd (omega (arith, enough))
  turns_run (suc most) zero enough below count now vs stands same = none_left given code now _
  turns_run (suc most) (suc fewer) enough below count now vs stands same =
      condition_runs (suc fewer) count now vs _ stands same
      (λ last at_back sees.
      let place = at_back.at in
      let there : last.place - by ≡ turn = omega (arith, place, goes_back) in
      back_runs given code (suc fewer) fewer last (body (suc count) vs (turns most holds body after (suc count))) by (length ts) (omega arith)
      (here_at code back _ scope.base s (ts ++ count ∷ []) last at_back back_there) (ap (slice_get code) there ∙ turn_there)
      (body_runs fewer (omega (arith, below)) (suc count) (record last { place = last.place - by + 1; counters = turned ts last }) vs (turns most holds body after (suc count))
      (turned_stands scope.base s ts count back last (last.place - by + 1) (turn + 1) (ap (λ n. n + 1) there) at_back) sees
      (turns_run most fewer (omega (arith, enough)) (omega (arith, below)) (suc count))))
      (λ last at_end sees. with_fewer given code bound (suc fewer) last (after vs) below (after_runs last vs (stands_out scope.base s ts count (back + 1) last at_end) sees))

  -- from the first turn on
  pub first_turn_runs : (most fewer : ℕ) → fewer ≤ most → fewer ≤ bound → (now : State) (vs : Variables) → Stands scope.base s (ts ++ 0 ∷ []) turn now → Sees scope now.registers vs
      → Agree given code fewer now (tick (body 1 vs (turns most holds body after 1)))
  first_turn_runs most zero enough below now vs stands same = none_left given code now _
  first_turn_runs most (suc fewer) enough below now vs stands same =
      turn_runs given code (suc fewer) fewer now (body 1 vs (turns most holds body after 1)) (length ts) (omega arith)
      (here_at code turn _ scope.base s (ts ++ 0 ∷ []) now stands turn_there)
      (body_runs fewer (omega (arith, below)) 1 (with_turns now (turned ts now)) vs (turns most holds body after 1)
      (turned_stands scope.base s ts 0 turn now (now.place + 1) (turn + 1) (ap (λ n. n + 1) stands.at) stands) same
      (turns_run most fewer (omega (arith, enough)) (omega (arith, below)) 1))

-- a condition
pub holds_runs : (given : ItemContext) (code : List Instruction) (scope : Scope) (t : MaybeTerm) (s : State) (place back : ℕ) → HasAt code place (condition_code scope t) → place + length (condition_code scope t) ≡ back
    → (ts : List ℕ) (bound : ℕ) (now : State) (vs : Variables) (run : Bool → Continuation) → Stands scope.base s ts place now → Sees scope now.registers vs
    → ((last : State) → Stands scope.base s ts back last → Sees scope last.registers vs → Agree given code bound last (run true))
    → ((last : State) → Stands scope.base s ts (back + 1) last → Sees scope last.registers vs → Agree given code bound last (run false))
    → Agree given code bound now (condition given.here t vs run)
holds_runs given code scope WithoutTerm s place back has e ts bound now vs run stands same holding failing =
    holding now (stands_to scope.base s ts place now back (omega (arith, e)) stands) same
holds_runs given code scope (WithTerm term) s place back has e ts bound now vs run stands same holding failing =
    let level = free_level scope in
    let first = expr_code scope level term in
    let second : List Instruction = instruction.JumpIfZero (register_for scope level term) 1 ∷ [] in
    let lengths = length-append first second in
    let here = has_moved code (first ++ second) place now.place (sym stands.at) has in
    expr_runs given code bound scope level term now vs (λ v. test v run) (omega arith) same (has_left code first second now.place here)
    (λ v last r is.
    let reached = reached_stands scope.base level s ts place now (now.place + length first) last (omega arith) stands r in
    let sees = seen_kept scope level now (now.place + length first) last vs (omega arith) r same in
    let jump = has_right code first second now.place last.place (sym r.at) here in
    branch_runs given code bound last run (register_for scope level term) 1 v jump.0 is
    (holding (passed last) (stands_to scope.base s ts _ (passed last) back (let a = stands.at in omega (arith, a, e, lengths)) (passed_stands scope.base s ts (now.place + length first) last reached)) sees)
    (failing (onward last 1) (stands_to scope.base s ts _ (onward last 1) (back + 1) (let a = stands.at in omega (arith, a, e, lengths)) (onward_stands scope.base s ts (now.place + length first) last 1 reached)) sees))

-- A loop whose condition is an expression, or left out.
module _ (given : ItemContext) (code : List Instruction) (bound most : ℕ) (below : bound ≤ most) (scope : Scope) (s : State) (ts : List ℕ) (at : ℕ) (inner : List Instruction) (t : MaybeTerm)
    (body : ℕ → Variables → (Variables → Continuation) → Continuation) (after : Variables → Continuation) where
  -- it begins with its condition
  pub while_runs : HasAt code at (while_code (length ts) inner (condition_code scope t))
      → ((fewer : ℕ) → fewer ≤ bound → (count : ℕ) (now : State) (vs : Variables) (again : Variables → Continuation) → Stands scope.base s (ts ++ count ∷ []) (at + 3) now → Sees scope now.registers vs
      → ((last : State) (vs : Variables) → Stands scope.base s (ts ++ count ∷ []) (at + 3 + length inner) last → Sees scope last.registers vs → Agree given code fewer last (again vs))
      → Agree given code fewer now (body count vs again))
      → ((now : State) (vs : Variables) → Stands scope.base s ts (at + length (while_code (length ts) inner (condition_code scope t))) now → Sees scope now.registers vs → Agree given code bound now (after vs))
      → (now : State) (vs : Variables) → Stands scope.base s ts at now → Sees scope now.registers vs
      → Agree given code bound now (turns most (condition given.here t) body after 0 vs)
  while_runs has body_runs after_runs now vs stands same =
      let c = condition_code scope t in
      let last : List Instruction = instruction.Back (length inner + length c + 1) ∷ [] in
      let lengths = length-append inner (c ++ last) in
      let lengths' = length-append c last in
      let three : at + 1 + 1 + 1 ≡ at + 3 = omega arith in
      let rest = has_moved code (inner ++ (c ++ last)) (at + 1 + 1 + 1) (at + 3) three has.1.1.1 in
      let tail = has_right code inner (c ++ last) (at + 3) (at + 3 + length inner) refl rest in
      let end = has_right code c last (at + 3 + length inner) (at + 3 + length inner + length c) refl tail in
      let two : at + 1 + 1 ≡ at + 2 = omega arith in
      let entered = entered_stands scope.base s ts at now stands in
      let jumped = onward_stands scope.base s (ts ++ 0 ∷ []) (at + 1) _ (1 + length inner) entered in
      enter_runs given code bound now _ (length ts) (here_at code at _ scope.base s ts now stands has.0)
      (jump_runs given code bound _ _ (1 + length inner) (here_at code (at + 1) _ scope.base s (ts ++ 0 ∷ []) _ entered has.1.0)
      (turns_run given code bound scope s ts (at + 2) (at + 3 + length inner) (at + 3 + length inner + length c) (length inner + length c + 1) (condition given.here t) body after
      (ap (slice_get code) (sym two) ∙ has.1.1.0) end.0 (omega arith)
      (λ fewer count now vs run at_test sees holding failing. holds_runs given code scope t s (at + 3 + length inner) (at + 3 + length inner + length c) (has_left code c last (at + 3 + length inner) tail) refl (ts ++ count ∷ []) fewer now vs run at_test sees holding failing)
      (λ fewer less count now vs again in_turn sees next. body_runs fewer less count now vs again (stands_to scope.base s (ts ++ count ∷ []) _ now (at + 3) (omega arith) in_turn) sees next)
      (λ now vs at_end sees. after_runs now vs (stands_to scope.base s ts _ now _ (omega (arith, lengths, lengths')) at_end) sees)
      most bound below (omega arith) 0 _ vs (stands_to scope.base s (ts ++ 0 ∷ []) _ _ (at + 3 + length inner) (omega arith) jumped) same))

  -- it begins with its body
  pub do_runs : HasAt code at (do_code (length ts) inner (condition_code scope t))
      → ((fewer : ℕ) → fewer ≤ bound → (count : ℕ) (now : State) (vs : Variables) (again : Variables → Continuation) → Stands scope.base s (ts ++ count ∷ []) (at + 2) now → Sees scope now.registers vs
      → ((last : State) (vs : Variables) → Stands scope.base s (ts ++ count ∷ []) (at + 2 + length inner) last → Sees scope last.registers vs → Agree given code fewer last (again vs))
      → Agree given code fewer now (body count vs again))
      → ((now : State) (vs : Variables) → Stands scope.base s ts (at + length (do_code (length ts) inner (condition_code scope t))) now → Sees scope now.registers vs → Agree given code bound now (after vs))
      → (now : State) (vs : Variables) → Stands scope.base s ts at now → Sees scope now.registers vs
      → Agree given code bound now (tick (body 1 vs (turns most (condition given.here t) body after 1)))
  do_runs has body_runs after_runs now vs stands same =
      let c = condition_code scope t in
      let last : List Instruction = instruction.Back (length inner + length c + 1) ∷ [] in
      let lengths = length-append inner (c ++ last) in
      let lengths' = length-append c last in
      let two : at + 1 + 1 ≡ at + 2 = omega arith in
      let rest = has_moved code (inner ++ (c ++ last)) (at + 1 + 1) (at + 2) two has.1.1 in
      let tail = has_right code inner (c ++ last) (at + 2) (at + 2 + length inner) refl rest in
      let end = has_right code c last (at + 2 + length inner) (at + 2 + length inner + length c) refl tail in
      let entered = entered_stands scope.base s ts at now stands in
      enter_runs given code bound now _ (length ts) (here_at code at _ scope.base s ts now stands has.0)
      (first_turn_runs given code bound scope s ts (at + 1) (at + 2 + length inner) (at + 2 + length inner + length c) (length inner + length c + 1) (condition given.here t) body after
      has.1.0 end.0 (omega arith)
      (λ fewer count now vs run at_test sees holding failing. holds_runs given code scope t s (at + 2 + length inner) (at + 2 + length inner + length c) (has_left code c last (at + 2 + length inner) tail) refl (ts ++ count ∷ []) fewer now vs run at_test sees holding failing)
      (λ fewer less count now vs again in_turn sees next. body_runs fewer less count now vs again (stands_to scope.base s (ts ++ count ∷ []) _ now (at + 2) (omega arith) in_turn) sees next)
      (λ now vs at_end sees. after_runs now vs (stands_to scope.base s ts _ now _ (omega (arith, lengths, lengths')) at_end) sees)
      most bound below (omega arith) _ vs entered same)
