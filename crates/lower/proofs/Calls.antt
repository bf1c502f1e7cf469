-- The code of a call acts as the helper does, and the code of a kernel as the kernel.
use Rattle.std.proofs.Common.{◌≡◌, ℕ, suc, ◌+◌, ◌<◌, ◌≤◌, ◌≢◌, ◌==◌, Bool, true, false, Option, None, Some, List, [], ◌∷◌, ◌++◌, length, take, refl, sym, ap, ◌∙◌, subst, arith, length-append, append_assoc}
use Rattle.std.proofs.Math.Seq.{get_or-append_seam}
use Rattle.std.proofs.lemmas.Option.{slice_get-get_or, none-some}
use Rattle.clnum.specs.declared.int_type.IntType.{IntType}
use Rattle.clmodel.specs.Next.{Continuation, finish, Variables, Helpers, held, content, bound, returned_by, as_body, at_the_end, sites_in, exec_all, helper}
use Rattle.clmodel.specs.Next as next
use Rattle.clmodel.specs.Tree.{Func, Funcs, NoFunc, ThenFunc}
use Rattle.clmodel.specs.declared.operand.Operand.{Operand}
use Rattle.clmodel.specs.declared.setup.Argument.{Argument}
use Rattle.clmodel.specs.declared.tree.Parameter.{Parameter}
use Rattle.clmodel.specs.declared.tree.VariableType.{VariableType}
use Rattle.regcode.specs.Machine.{State, ItemContext, Registers, put, with_put, argument_at}
use Rattle.regcode.specs.declared.instruction.Instruction.{Instruction}
use Rattle.regcode.specs.declared.instruction.Instruction.TheVariants as instruction
use Rattle.regcode.proofs.Agreement.{Agree, ends, unset_runs, hold_runs, argument_runs}
use Rattle.regcode.proofs.Registers.{reg_kept}
use Rattle.lower_expr.specs.Scope.{Scope, register_at, Sees, free_level}
use Rattle.lower_expr.specs.Agreement.{HasAt, Hold}
use Rattle.lower_expr.proofs.Places.{has_left, has_right}
use Rattle.lower_code.specs.Code.{Exits, variable, with_variable, Calls, no_value_code, stmts_code, parameter_variables, pass_code, result_in, body_code, call_code, arguments_code, kernel_code}
use Rattle.lower.proofs.Scopes.{same_self}
use Rattle.lower_expr.proofs.Places.{kind_below}
use Rattle.lower.proofs.Stands.{Stands, Returned, returned_as, put_stands, stands_to, stands_here, here_at}
use Rattle.lower.proofs.Parts.{Placed}
use Rattle.lower.proofs.Rights.{CallsRun}
use Rattle.lower.proofs.StatementRuns.{declared_seen, no_value_runs, stmts_run}

-- values above a register are kept when it is written
hold_above : (level : ℕ) (kind : VariableType) (registers : Registers) (v : Option Operand) (numbers : List ℕ) (values : List Operand) → Placed (level + 1) numbers → Hold registers numbers values
    → Hold (put registers (register_at level kind) v) numbers values
hold_above level kind registers v numbers values placed held = go (level + 1) (omega arith) numbers values placed held
  where
    go : (higher : ℕ) → level < higher → (numbers : List ℕ) (values : List Operand) → Placed higher numbers → Hold registers numbers values → Hold (put registers (register_at level kind) v) numbers values
    go higher less [] [] placed held = tt
    go higher less [] (w ∷ values) placed held = absurd held
    go higher less (i ∷ numbers) [] placed held = absurd held
    go higher less (i ∷ numbers) (w ∷ values) placed held =
        let small = kind_below kind in
        let ne : register_at level kind ≢ i = λ e. absurd (omega (arith, e, placed.0)) in
        (reg_kept registers (register_at level kind) v i ne ∙ held.0, go (higher + 1) (omega arith) numbers values placed.1 held.1)

-- one more variable at a level
declared_at : (scope : Scope) (level name : ℕ) (kind : VariableType) (registers : Registers) (vs : Variables) (content : Option Operand) → level ≡ free_level scope → Sees scope registers vs
    → Sees (with_variable scope name kind) (put registers (register_at level kind) content) (next.variable name kind content ∷ vs)
declared_at scope level name kind registers vs content e same =
    subst (λ l. Sees (with_variable scope name kind) (put registers (register_at l kind) content) (next.variable name kind content ∷ vs)) (sym e)
    (declared_seen scope name kind registers vs content same)

module _ (given : ItemContext) (code : List Instruction) (limit : ℕ) where
  -- parameters are given the arguments of a call
  pass_runs : (ps : List Parameter) (numbers : List ℕ) (values : List Operand) (base level : ℕ) (variables vs : Variables) (s : State) (ts : List ℕ) (at : ℕ) (now : State) (run : Continuation)
      → level ≡ base + length variables → Stands base s ts at now → Sees (record { base = base; variables = variables }) now.registers vs → Hold now.registers numbers values → Placed level numbers → HasAt code at (pass_code ps numbers level)
      → ((last : State) → Stands base s ts (at + length (pass_code ps numbers level)) last → Sees (record { base = base; variables = parameter_variables ps variables }) last.registers (next.passed ps values vs) → Agree given code limit last run)
      → Agree given code limit now run
  pass_runs [] numbers values base level variables vs s ts at now run e stands same held placed has go = go now (stands_to base s ts at now (at + 0) (omega arith) stands) same
  pass_runs (p ∷ ps) [] [] base level variables vs s ts at now run e stands same held placed has go =
      let last = with_put now (register_at level p.kind) None in
      unset_runs given code limit now run (register_at level p.kind) (here_at code at _ base s ts now stands has.0)
      (pass_runs ps [] [] base (level + 1) (variable p.name p.kind ∷ variables) (next.variable p.name p.kind None ∷ vs) s ts (at + 1) last run (omega (arith, e))
      (put_stands base level p.kind s ts at now None (omega (arith, e)) stands) (declared_at (record { base = base; variables = variables }) level p.name p.kind now.registers vs None e same) tt tt has.1
      (λ final at_end sees. go final (stands_to base s ts _ final _ (omega arith) at_end) sees))
  pass_runs (p ∷ ps) [] (v ∷ values) base level variables vs s ts at now run e stands same held placed has go = absurd held
  pass_runs (p ∷ ps) (i ∷ numbers) [] base level variables vs s ts at now run e stands same held placed has go = absurd held
  pass_runs (p ∷ ps) (i ∷ numbers) (v ∷ values) base level variables vs s ts at now run e stands same held' placed has go =
      let last = with_put now (register_at level p.kind) (Some (held p.kind v)) in
      hold_runs given code limit now run (register_at level p.kind) i p.kind v (here_at code at _ base s ts now stands has.0) held'.0
      (pass_runs ps numbers values base (level + 1) (variable p.name p.kind ∷ variables) (next.variable p.name p.kind (Some (held p.kind v)) ∷ vs) s ts (at + 1) last run (omega (arith, e))
      (put_stands base level p.kind s ts at now (Some (held p.kind v)) (omega (arith, e)) stands) (declared_at (record { base = base; variables = variables }) level p.name p.kind now.registers vs (Some (held p.kind v)) e same)
      (hold_above level p.kind now.registers (Some (held p.kind v)) numbers values placed.1 held'.1) placed.1 has.1
      (λ final at_end sees. go final (stands_to base s ts _ final _ (omega arith) at_end) sees))

  -- parameters are given the arguments of the launch
  arguments_run : (ps : List Parameter) (arguments : List (Option Argument)) (level : ℕ) (variables vs : Variables) (s : State) (at : ℕ) (now : State) (run : Continuation)
      → level ≡ length variables → ((i : ℕ) → argument_at given.arguments (level + i) ≡ argument_at arguments i) → Stands 0 s [] at now → Sees (record { base = 0; variables = variables }) now.registers vs → HasAt code at (arguments_code ps level)
      → ((last : State) → Stands 0 s [] (at + length (arguments_code ps level)) last → Sees (record { base = 0; variables = parameter_variables ps variables }) last.registers (bound given.buffers level ps arguments vs) → Agree given code limit last run)
      → Agree given code limit now run
  arguments_run [] arguments level variables vs s at now run e from stands same has go = go now (stands_to 0 s [] at now (at + 0) (omega arith) stands) same
  arguments_run (p ∷ ps) [] level variables vs s at now run e from stands same has go =
      let value = content given.buffers level p.kind (argument_at given.arguments level) in
      let last = with_put now (register_at level p.kind) value in
      let is : value ≡ content given.buffers level p.kind None = ap (content given.buffers level p.kind) (ap (argument_at given.arguments) (let n : level ≡ level + 0 = omega arith in n) ∙ from 0) in
      argument_runs given code limit now run (register_at level p.kind) level p.kind (here_at code at _ 0 s [] now stands has.0)
      (arguments_run ps [] (level + 1) (variable p.name p.kind ∷ variables) (next.variable p.name p.kind (content given.buffers level p.kind None) ∷ vs) s (at + 1) last run (omega (arith, e))
      (λ i. ap (argument_at given.arguments) (let n : level + 1 + i ≡ level + suc i = omega arith in n) ∙ from (suc i))
      (put_stands 0 level p.kind s [] at now value (omega arith) stands)
      (subst (λ c. Sees (record { base = 0; variables = variable p.name p.kind ∷ variables }) last.registers (next.variable p.name p.kind c ∷ vs)) is
      (declared_at (record { base = 0; variables = variables }) level p.name p.kind now.registers vs value (omega (arith, e)) same)) has.1
      (λ final at_end sees. go final (stands_to 0 s [] _ final _ (omega arith) at_end) sees))
  arguments_run (p ∷ ps) (argument ∷ arguments) level variables vs s at now run e from stands same has go =
      let value = content given.buffers level p.kind (argument_at given.arguments level) in
      let last = with_put now (register_at level p.kind) value in
      let is : value ≡ content given.buffers level p.kind argument = ap (content given.buffers level p.kind) (ap (argument_at given.arguments) (let n : level ≡ level + 0 = omega arith in n) ∙ from 0) in
      argument_runs given code limit now run (register_at level p.kind) level p.kind (here_at code at _ 0 s [] now stands has.0)
      (arguments_run ps arguments (level + 1) (variable p.name p.kind ∷ variables) (next.variable p.name p.kind (content given.buffers level p.kind argument) ∷ vs) s (at + 1) last run (omega (arith, e))
      (λ i. ap (argument_at given.arguments) (let n : level + 1 + i ≡ level + suc i = omega arith in n) ∙ from (suc i))
      (put_stands 0 level p.kind s [] at now value (omega arith) stands)
      (subst (λ c. Sees (record { base = 0; variables = variable p.name p.kind ∷ variables }) last.registers (next.variable p.name p.kind c ∷ vs)) is
      (declared_at (record { base = 0; variables = variables }) level p.name p.kind now.registers vs value (omega (arith, e)) same)) has.1
      (λ final at_end sees. go final (stands_to 0 s [] _ final _ (omega arith) at_end) sees))

-- a function that gives a value and returns none ends the item
lost_by : (result : Option IntType) (after : Option Operand → Continuation) (kind : IntType) → result ≡ Some kind → returned_by result after None ≡ finish
lost_by None after kind e = absurd (none-some kind e)
lost_by (Some other) after kind e = refl

-- what follows a call goes on with what was returned
return_runs : (given : ItemContext) (code : List Instruction) (bound level : ℕ) (now : State) (result : Option IntType) (after : Option Operand → Continuation) (v : Option Operand)
    → Returned result level now.registers (returned_as result v) → ((w : Option Operand) → Returned result level now.registers w → Agree given code bound now (after w))
    → Agree given code bound now (returned_by result after v)
return_runs given code bound level now None after v is go = go None refl
return_runs given code bound level now (Some kind) after None is go = absurd (none-some is.0 is.1)
return_runs given code bound level now (Some kind) after (Some v) is go = go _ is

-- a function's body, whose ends all lead to the end of its code
module _ (given : ItemContext) (code : List Instruction) (most : ℕ) (calls : Calls) (results : ℕ → Option IntType) (helpers : Helpers) (run_calls : CallsRun given code most calls results helpers) (inside : ℕ → ℕ) where
  pub body_runs : (f : Func) (limit : ℕ) → limit ≤ most → (level : ℕ) (s : State) (ts : List ℕ) (site at : ℕ) (now : State) (vs : Variables) (returned : Option Operand → Continuation)
      → Stands level s ts at now → Sees (record { base = level; variables = parameter_variables f.parameters [] }) now.registers vs → HasAt code at (body_code calls results inside f level (length ts) site)
      → ((kind : IntType) → f.result ≡ Some kind → returned None ≡ finish)
      → ((last : State) (v : Option Operand) → Stands level s ts (at + length (body_code calls results inside f level (length ts) site)) last → Returned f.result level last.registers (returned_as f.result v) → Agree given code limit last (returned v))
      → Agree given code limit now (exec_all most given.here helpers inside f.body site ts (as_body returned) vs)
  body_runs f limit below level s ts site at now vs returned stands same has lost go =
      let scope : Scope = record { base = level; variables = parameter_variables f.parameters [] } in
      let end = no_value_code f.result in
      let exits : Exits = record { broken = 0; continued = 0; returned = length end } in
      let first = stmts_code calls results inside f.result scope f.body (length ts) site exits in
      let lengths = length-append first end in
      let there = has_right code first end at (at + length first) refl has in
      let finally : (last : State) → Stands level s ts (at + length first) last → Agree given code limit last (returned None) =
      λ last stands'. no_value_runs given code limit f.result s level ts (at + length first) last (returned None) stands' there lost
      (λ final at_end is. go final None (stands_to level s ts _ final _ (omega (arith, lengths)) at_end) is) in
      stmts_run given code most calls results helpers run_calls inside f.result f.body limit below scope s ts site exits
      (record { next = at + length first; broken = at + length first; continued = at + length first; returned = at + length first + length end }) (as_body returned) at now vs stands same
      (has_left code first end at has, refl) (record { broken = omega arith; continued = omega arith; returned = refl })
      (record {
        next = λ last vs stands' sees. finally last stands';
        broken = λ last vs stands' sees. finally last stands';
        continued = λ last vs stands' sees. finally last stands';
        returned = λ last v stands' is. go last v (stands_to level s ts _ last _ (omega (arith, lengths)) stands') is;
        lost = lost;
      })

-- a call of the latest function: its body stands in the place of the call
module _ (given : ItemContext) (code : List Instruction) (most : ℕ) (earlier : Funcs) (f : Func) (run_calls : CallsRun given code most (call_code earlier) (result_in earlier) (helper most given.here earlier)) where
  latest_runs : (limit : ℕ) → limit ≤ most → (numbers : List ℕ) (values : List Operand) (level site : ℕ) (ts : List ℕ) (now : State) (after : Option Operand → Continuation)
      → take (length ts) now.counters ≡ ts
      → HasAt code now.place (pass_code f.parameters numbers level ++ body_code (call_code earlier) (result_in earlier) (sites_in earlier) f level (length ts) site)
      → Hold now.registers numbers values → Placed level numbers
      → ((last : State) (v : Option Operand) → Stands level now ts (now.place + length (pass_code f.parameters numbers level ++ body_code (call_code earlier) (result_in earlier) (sites_in earlier) f level (length ts) site)) last → Returned f.result level last.registers v → Agree given code limit last (after v))
      → Agree given code limit now (exec_all most given.here (helper most given.here earlier) (sites_in earlier) f.body site ts (as_body (returned_by f.result after)) (next.passed f.parameters values []))
  latest_runs limit below numbers values level site ts now after turns has held placed go =
      let first = pass_code f.parameters numbers level in
      let second = body_code (call_code earlier) (result_in earlier) (sites_in earlier) f level (length ts) site in
      let lengths = length-append first second in
      pass_runs given code limit f.parameters numbers values level level [] [] now ts now.place now _ (omega arith) (stands_here level now ts turns) (record { same = refl; arrays = refl }) held placed (has_left code first second now.place has)
      (λ middle stands sees.
      let to_end : (now.place + length first) + length second ≡ now.place + length (first ++ second) = omega (arith, lengths) in
      body_runs given code most (call_code earlier) (result_in earlier) (helper most given.here earlier) run_calls (sites_in earlier) f limit below level now ts site (now.place + length first) middle (next.passed f.parameters values []) (returned_by f.result after)
      stands sees (has_right code first second now.place (now.place + length first) refl has)
      (lost_by f.result after)
      (λ last v at_end is. return_runs given code limit level last f.result after v is (λ w is. go last w (stands_to level now ts _ last _ to_end at_end) is)))

-- the calls of all functions
pub calls_run : (given : ItemContext) (code : List Instruction) (most : ℕ) (fs : Funcs) → CallsRun given code most (call_code fs) (result_in fs) (helper most given.here fs)
calls_run given code most NoFunc = record { runs = λ limit below name numbers values level site ts now after turns has held placed go. ends given code limit now has.0 }
calls_run given code most (ThenFunc earlier f) = record { runs = λ limit below name numbers values level site ts now after turns. either given code most earlier f (calls_run given code most earlier) limit below name numbers values level site ts now after turns (name == f.name) }
  where
    either : (given : ItemContext) (code : List Instruction) (most : ℕ) (earlier : Funcs) (f : Func) (run_calls : CallsRun given code most (call_code earlier) (result_in earlier) (helper most given.here earlier))
        (limit : ℕ) → limit ≤ most → (name : ℕ) (numbers : List ℕ) (values : List Operand) (level site : ℕ) (ts : List ℕ) (now : State) (after : Option Operand → Continuation)
        → take (length ts) now.counters ≡ ts → (b : Bool)
        → HasAt code now.place (elim b [ true ↦ pass_code f.parameters numbers level ++ body_code (call_code earlier) (result_in earlier) (sites_in earlier) f level (length ts) site | false ↦ call_code earlier name numbers level (length ts) site ])
        → Hold now.registers numbers values → Placed level numbers
        → ((last : State) (v : Option Operand)
        → Stands level now ts (now.place + length (elim b as (λ _. List Instruction) [ true ↦ pass_code f.parameters numbers level ++ body_code (call_code earlier) (result_in earlier) (sites_in earlier) f level (length ts) site | false ↦ call_code earlier name numbers level (length ts) site ])) last
        → Returned (elim b [ true ↦ f.result | false ↦ result_in earlier name ]) level last.registers v → Agree given code limit last (after v))
        → Agree given code limit now (elim b [ true ↦ exec_all most given.here (helper most given.here earlier) (sites_in earlier) f.body site ts (as_body (returned_by f.result after)) (next.passed f.parameters values []) | false ↦ helper most given.here earlier name values site ts after ])
    either given code most earlier f run_calls limit below name numbers values level site ts now after turns true has held placed go =
        latest_runs given code most earlier f run_calls limit below numbers values level site ts now after turns has held placed go
    either given code most earlier f run_calls limit below name numbers values level site ts now after turns false has held placed go =
        run_calls.runs limit below name numbers values level site ts now after turns has held placed go

-- the instructions of a list stand in it
pub has_all : (is pre : List Instruction) → HasAt (pre ++ is) (length pre) is
has_all [] pre = tt
has_all (i ∷ is) pre =
    let within : length pre < length (pre ++ i ∷ is) = omega (arith, length-append pre (i ∷ is)) in
    let here = slice_get-get_or (pre ++ i ∷ is) (length pre) i within ∙ ap Some (get_or-append_seam pre i is i) in
    let n : length (pre ++ i ∷ []) ≡ length pre + 1 = omega (arith, length-append pre (i ∷ [])) in
    let rest = has_all is (pre ++ i ∷ []) in
    let rest' = subst (λ l. HasAt l (length (pre ++ i ∷ [])) is) (append_assoc pre (i ∷ []) is) rest in
    (here, subst (λ m. HasAt (pre ++ i ∷ is) m is) n rest')

-- a kernel, from the start
pub kernel_runs : (given : ItemContext) (most : ℕ) (earlier : Funcs) (f : Func) (limit : ℕ) (start : State) → limit ≤ most → start.place ≡ 0
    → Agree given (kernel_code earlier f) limit start
    (exec_all most given.here (helper most given.here earlier) (sites_in earlier) f.body 0 [] at_the_end (bound given.buffers 0 f.parameters given.arguments []))
kernel_runs given most earlier f limit start below zero_is =
    let code = kernel_code earlier f in
    let first = arguments_code f.parameters 0 in
    let second = body_code (call_code earlier) (result_in earlier) (sites_in earlier) f 0 0 0 in
    let last : List Instruction = instruction.End ∷ [] in
    let has : HasAt code 0 code = has_all code [] in
    let rest = has_right code first (second ++ last) 0 (length first) (omega arith) has in
    let end = has_right code second last (length first) (length first + length second) refl rest in
    let at_end : (now : State) → Stands 0 start [] (length first + length second) now → Agree given code limit now finish =
    λ now stands. ends given code limit now (here_at code (length first + length second) _ 0 start [] now stands end.0) in
    arguments_run given code limit f.parameters given.arguments 0 [] [] start 0 start _ refl (λ i. ap (argument_at given.arguments) (let n : 0 + i ≡ i = omega arith in n))
    (record { at = zero_is; kept = same_self 0 start.registers; turns = refl }) (record { same = refl; arrays = refl }) (has_left code first (second ++ last) 0 has)
    (λ now stands sees.
    body_runs given code most (call_code earlier) (result_in earlier) (helper most given.here earlier) (calls_run given code most earlier) (sites_in earlier) f limit below 0 start [] 0 (length first) now _ (λ _. finish)
    (stands_to 0 start [] _ now (length first) (omega arith) stands) sees (has_left code second last (length first) rest)
    (λ kind e. refl)
    (λ now v stands' is. at_end now stands'))
