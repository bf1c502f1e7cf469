-- Where a run of code stands, and what follows a statement there.
use Rattle.std.proofs.Common.{◌≡◌, ℕ, ◌+◌, ◌≤◌, Option, None, Some, List, [], ◌∷◌, ◌++◌, length, take, slice_get, slice_index, refl, ap, ◌∙◌, arith}
use Rattle.clnum.specs.declared.int_type.IntType.{IntType}
use Rattle.clmodel.specs.Next.{Continuation, finish, Variables, Follows, leave, held}
use Rattle.clmodel.specs.declared.operand.Operand.{Operand}
use Rattle.clmodel.specs.declared.tree.VariableType.{VariableType}
use Rattle.clmodel.specs.declared.tree.VariableType.TheVariants.{Integer}
use Rattle.regcode.specs.Machine.{State, ItemContext, Registers, reg, with_put, with_array, passed, onward}
use Rattle.regcode.specs.declared.instruction.Instruction.{Instruction}
use Rattle.regcode.proofs.Agreement.{Agree, with_fewer}
use Rattle.lower_expr.specs.Scope.{Scope, register_at, Sees, free_level}
use Rattle.lower_expr.specs.Agreement.{Reached}
use Rattle.lower_expr.proofs.Places.{sees_kept}
use Rattle.lower_code.specs.Code.{Exits}
use Rattle.lower.proofs.Scopes.{Same, same_self, same_then, reached_same, put_same, array_same, Within, outer_left}

-- a state at a place, with the registers and the private arrays below a level of another state, inside loops that have
-- made these turns
pub record Stands (level : ℕ) (s : State) (ts : List ℕ) (place : ℕ) (now : State) : Type 0 where
  pub at : now.place ≡ place
  pub kept : Same level s.registers now.registers
  pub turns : take (length ts) now.counters ≡ ts

-- the places to which a statement's ends lead
pub record Places : Type 0 where
  pub next : ℕ
  pub broken : ℕ
  pub continued : ℕ
  pub returned : ℕ

-- those places, by their distances from the end of its code
pub record Leads (exits : Exits) (places : Places) : Type 0 where
  pub broken : places.next + exits.broken ≡ places.broken
  pub continued : places.next + exits.continued ≡ places.continued
  pub returned : places.next + exits.returned ≡ places.returned

-- what a function of a type returns: a value is converted to it
abbrev pub returned_as : Option IntType → Option Operand → Option Operand
returned_as (Some kind) (Some v) = Some (held (Integer kind) v)
returned_as (Some kind) None = None
returned_as None v = None

-- what a function's value is, once its register has it: one that gives a value has one
abbrev pub Returned : Option IntType → ℕ → Registers → Option Operand → Type 0
Returned None level registers v = v ≡ None
Returned (Some kind) level registers v = (w : Operand) × (v ≡ Some w) × (reg registers (register_at level (Integer kind)) ≡ Some w)

-- at each of its ends the code agrees with what follows there
pub record Ends (given : ItemContext) (code : List Instruction) (bound : ℕ) (result : Option IntType) (s : State) (scope : Scope) (after : Variables) (ts : List ℕ) (places : Places) (k : Follows) : Type 0 where
  pub next : (now : State) (vs : Variables) → Stands scope.base s ts places.next now → Sees (record scope { variables = after }) now.registers vs → Agree given code bound now (k.next vs)
  pub broken : (now : State) (vs : Variables) → Stands scope.base s ts places.broken now → Sees scope now.registers (leave (length scope.variables) vs) → Agree given code bound now (k.broken vs)
  pub continued : (now : State) (vs : Variables) → Stands scope.base s ts places.continued now → Sees scope now.registers (leave (length scope.variables) vs) → Agree given code bound now (k.continued vs)
  pub returned : (now : State) (v : Option Operand) → Stands scope.base s ts places.returned now → Returned result scope.base now.registers (returned_as result v) → Agree given code bound now (k.returned v)
  pub lost : (kind : IntType) → result ≡ Some kind → k.returned None ≡ finish

-- the turns of the outer loops, and of the innermost
pub outer_turns : (ts : List ℕ) (count : ℕ) (counters : List ℕ) → take (length (ts ++ count ∷ [])) counters ≡ ts ++ count ∷ [] → take (length ts) counters ≡ ts
outer_turns [] count counters e = refl
outer_turns (t ∷ ts) count [] e = cc
outer_turns (t ∷ ts) count (c ∷ counters) e =
    let head : c ≡ t = cc in
    let tail : take (length (ts ++ count ∷ [])) counters ≡ ts ++ count ∷ [] = cc in
    let rest = outer_turns ts count counters tail in
    cc

pub inner_turns : (ts : List ℕ) (count : ℕ) (counters : List ℕ) → take (length (ts ++ count ∷ [])) counters ≡ ts ++ count ∷ [] → slice_index counters (length ts) ≡ count
inner_turns [] count [] e = cc
inner_turns [] count (c ∷ counters) e = cc
inner_turns (t ∷ ts) count [] e = cc
inner_turns (t ∷ ts) count (c ∷ counters) e =
    let tail : take (length (ts ++ count ∷ [])) counters ≡ ts ++ count ∷ [] = cc in
    inner_turns ts count counters tail

pub all_turns : (ts : List ℕ) → take (length ts) ts ≡ ts
all_turns [] = refl
all_turns (t ∷ ts) = ap (λ l. t ∷ l) (all_turns ts)

-- from one state to another
pub stands_then : (level higher : ℕ) (s : State) (ts : List ℕ) (place : ℕ) (now : State) (later : ℕ) (last : State) → level ≤ higher
    → Stands level s ts place now → Stands higher now ts later last → Stands level s ts later last
stands_then level higher s ts place now later last less h g =
    record { at = g.at; kept = same_then level higher s.registers now.registers last.registers less h.kept g.kept; turns = g.turns }

pub reached_stands : (level higher : ℕ) (s : State) (ts : List ℕ) (place : ℕ) (now : State) (later : ℕ) (last : State) → level ≤ higher
    → Stands level s ts place now → Reached higher now later last → Stands level s ts later last
reached_stands level higher s ts place now later last less h g =
    record { at = g.at; kept = same_then level higher s.registers now.registers last.registers less h.kept (reached_same higher now later last g); turns = ap (take (length ts)) g.turns ∙ h.turns }

-- a register or a private array of a higher level is written
pub put_stands : (level higher : ℕ) (kind : VariableType) (s : State) (ts : List ℕ) (place : ℕ) (now : State) (v : Option Operand) → level ≤ higher
    → Stands level s ts place now → Stands level s ts (place + 1) (with_put now (register_at higher kind) v)
put_stands level higher kind s ts place now v less h =
    record { at = ap (λ n. n + 1) h.at; kept = same_then level level s.registers now.registers _ (omega arith) h.kept (put_same higher kind level now.registers v less); turns = h.turns }

pub array_stands : (level higher : ℕ) (s : State) (ts : List ℕ) (place : ℕ) (now : State) (elements : List (Option ℕ)) → level ≤ higher
    → Stands level s ts place now → Stands level s ts (place + 1) (with_array now higher elements)
array_stands level higher s ts place now elements less h =
    record { at = ap (λ n. n + 1) h.at; kept = same_then level level s.registers now.registers _ (omega arith) h.kept (array_same higher level now.registers elements less); turns = h.turns }

pub passed_stands : (level : ℕ) (s : State) (ts : List ℕ) (place : ℕ) (now : State) → Stands level s ts place now → Stands level s ts (place + 1) (passed now)
passed_stands level s ts place now h = record { at = ap (λ n. n + 1) h.at; kept = h.kept; turns = h.turns }

pub onward_stands : (level : ℕ) (s : State) (ts : List ℕ) (place : ℕ) (now : State) (by : ℕ) → Stands level s ts place now → Stands level s ts (place + 1 + by) (onward now by)
onward_stands level s ts place now by h = record { at = ap (λ n. n + 1 + by) h.at; kept = h.kept; turns = h.turns }

pub stands_to : (level : ℕ) (s : State) (ts : List ℕ) (place : ℕ) (now : State) (later : ℕ) → place ≡ later → Stands level s ts place now → Stands level s ts later now
stands_to level s ts place now later e h = record { at = h.at ∙ e; kept = h.kept; turns = h.turns }

pub stands_here : (level : ℕ) (s : State) (ts : List ℕ) → take (length ts) s.counters ≡ ts → Stands level s ts s.place s
stands_here level s ts e = record { at = refl; kept = same_self level s.registers; turns = e }

-- out of a loop
pub stands_out : (level : ℕ) (s : State) (ts : List ℕ) (count place : ℕ) (now : State) → Stands level s (ts ++ count ∷ []) place now → Stands level s ts place now
stands_out level s ts count place now h = record { at = h.at; kept = h.kept; turns = outer_turns ts count now.counters h.turns }

-- an instruction at the place of a state
pub here_at : (code : List Instruction) (place : ℕ) (i : Instruction) (level : ℕ) (s : State) (ts : List ℕ) (now : State) → Stands level s ts place now → slice_get code place ≡ Some i → slice_get code now.place ≡ Some i
here_at code place i level s ts now h e = ap (slice_get code) h.at ∙ e

-- what the scope sees while its registers are kept
pub seen_stands : (scope : Scope) (level : ℕ) (s : State) (ts : List ℕ) (place : ℕ) (now : State) (vs : Variables) → free_level scope ≤ level → Stands level s ts place now
    → Sees scope s.registers vs → Sees scope now.registers vs
seen_stands scope level s ts place now vs free h e =
    sees_kept scope s.registers now.registers vs (λ i below. h.kept.registers i (omega (arith, free, below))) (λ a below. h.kept.arrays a (omega (arith, free, below))) e

-- fewer ticks are left
pub ends_fewer : (given : ItemContext) (code : List Instruction) (bound fewer : ℕ) (result : Option IntType) (s : State) (scope : Scope) (after : Variables) (ts : List ℕ) (places : Places) (k : Follows)
    → fewer ≤ bound → Ends given code bound result s scope after ts places k → Ends given code fewer result s scope after ts places k
ends_fewer given code bound fewer result s scope after ts places k less h =
    record {
      next = λ now vs at e. with_fewer given code bound fewer now _ less (h.next now vs at e);
      broken = λ now vs at e. with_fewer given code bound fewer now _ less (h.broken now vs at e);
      continued = λ now vs at e. with_fewer given code bound fewer now _ less (h.continued now vs at e);
      returned = λ now v at e. with_fewer given code bound fewer now _ less (h.returned now v at e);
      lost = h.lost;
    }

-- in an inner scope
pub ends_within : (given : ItemContext) (code : List Instruction) (bound : ℕ) (result : Option IntType) (s : State) (scope : Scope) (inner after : Variables) (ts : List ℕ) (places : Places) (k : Follows)
    → Within scope.variables inner → Ends given code bound result s scope after ts places k → Ends given code bound result s (record scope { variables = inner }) after ts places k
ends_within given code bound result s scope inner after ts places k w h =
    record {
      next = h.next;
      broken = λ now vs at e. h.broken now vs at (outer_left scope inner vs now.registers w e);
      continued = λ now vs at e. h.continued now vs at (outer_left scope inner vs now.registers w e);
      returned = h.returned;
      lost = h.lost;
    }

-- from an end to the next
pub ends_before : (given : ItemContext) (code : List Instruction) (bound : ℕ) (result : Option IntType) (s : State) (scope : Scope) (after middle : Variables) (ts : List ℕ) (places : Places) (place : ℕ) (k : Follows) (next : Variables → Continuation)
    → Ends given code bound result s scope after ts places k
    → ((now : State) (vs : Variables) → Stands scope.base s ts place now → Sees (record scope { variables = middle }) now.registers vs → Agree given code bound now (next vs))
    → Ends given code bound result s scope middle ts (record places { next = place }) (record k { next = next })
ends_before given code bound result s scope after middle ts places place k next h agree =
    record { next = agree; broken = h.broken; continued = h.continued; returned = h.returned; lost = h.lost }
