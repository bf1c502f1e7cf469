-- Where the variables and the values are, and where the instructions stand.
use Rattle.std.proofs.Common.{◌≡◌, ◌≢◌, ℕ, ◌+◌, ◌*◌, ◌<◌, ◌≤◌, ◌==◌, Bool, true, false, Option, None, Some, List, [], ◌∷◌, ◌++◌, length, drop, get_or, refl, ap, ap₂, sym, subst, ◌∙◌, arith}
use Rattle.std.proofs.lemmas.Bool.{false≢true}
use Rattle.clnum.specs.Conversions.{common}
use Rattle.clnum.specs.Integer.{type_number}
use Rattle.clnum.specs.Operations.{unary_kind}
use Rattle.clnum.specs.declared.int_type.IntType.{IntType}
use Rattle.clnum.specs.declared.int_type.IntType.TheVariants.{Char, Uchar, Short, Ushort, Int, Uint, Long, Ulong}
use Rattle.clmodel.specs.BuiltIns.{built_in}
use Rattle.clmodel.specs.Next.{Binding, Variables, look, declared_type, elements_of, has_elements, is_private_array, type_of, argument_type, base_type, call_type, infix_type}
use Rattle.clmodel.specs.Tree as tree
use Rattle.clmodel.specs.Tree.{Term, Terms, NoTerm, ThenTerm}
use Rattle.clmodel.specs.declared.operand.Operand.{Operand}
use Rattle.clmodel.specs.declared.tree.VariableType.{VariableType}
use Rattle.clmodel.specs.declared.tree.VariableType.TheVariants.{Integer, Pointer}
use Rattle.folding.specs.Constants.{unary_constant, cast_constant, infix_constant, call_constant, constant_of, constants_of}
use Rattle.regcode.specs.Machine.{State, Registers, entry_at, reg, array_of, with_put, passed, onward}
use Rattle.regcode.specs.declared.instruction.Instruction.{Instruction}
use Rattle.regcode.proofs.Registers.{reg_kept}
use Rattle.lower_expr.specs.Scope.{Scope, kind_number, register_at, register_in, level_in, level_of, seen_elements, view, arrays_in, Sees, free_level}
use Rattle.lower_expr.specs.Expressions.{registers_for, register_for, count}
use Rattle.lower_expr.specs.Agreement.{HasAt, Reached, Hold}

integer_below : (kind : IntType) → type_number kind < 8
integer_below Char = omega arith
integer_below Uchar = omega arith
integer_below Short = omega arith
integer_below Ushort = omega arith
integer_below Int = omega arith
integer_below Uint = omega arith
integer_below Long = omega arith
integer_below Ulong = omega arith

pub kind_below : (kind : VariableType) → kind_number kind < 16
kind_below (Integer kind) = let h = integer_below kind in omega (arith, h)
kind_below (Pointer pointer) = let h = integer_below pointer.element in omega (arith, h)

-- a level's registers are below those of higher levels
pub register_below : (level : ℕ) (kind : VariableType) (above : ℕ) → level < above → register_at level kind < 16 * above
register_below level kind above h = let k = kind_below kind in omega (arith, h, k)

-- and not below those of its own
register_not_below : (level : ℕ) (kind : VariableType) (i : ℕ) → i < 16 * level → register_at level kind ≢ i
register_not_below level kind i h e = omega (arith, h, e)

-- the instructions of a list stand where its first and its last part do
pub has_left : (code xs ys : List Instruction) (place : ℕ) → HasAt code place (xs ++ ys) → HasAt code place xs
has_left code [] ys place h = tt
has_left code (x ∷ xs) ys place h = (h.0, has_left code xs ys (place + 1) h.1)

pub has_right : (code xs ys : List Instruction) (place later : ℕ) → place + length xs ≡ later → HasAt code place (xs ++ ys) → HasAt code later ys
has_right code [] ys place later e h = let p : place ≡ later = omega (arith, e) in subst (λ n. HasAt code n ys) p h
has_right code (x ∷ xs) ys place later e h = has_right code xs ys (place + 1) later (omega (arith, e)) h.1

pub has_moved : (code xs : List Instruction) (place later : ℕ) → place ≡ later → HasAt code place xs → HasAt code later xs
has_moved code xs place later e h = subst (λ n. HasAt code n xs) e h

-- no step, a step, two ways one after the other
pub reached_here : (level : ℕ) (s : State) (place : ℕ) → s.place ≡ place → Reached level s place s
reached_here level s place e = record { at = e; kept = λ i h. refl; arrays = refl; turns = refl }

pub reached_put : (level : ℕ) (kind : VariableType) (s : State) (v : Option Operand) (place : ℕ) → s.place + 1 ≡ place → Reached level s place (with_put s (register_at level kind) v)
reached_put level kind s v place e =
    record { at = e; kept = λ i h. reg_kept s.registers (register_at level kind) v i (register_not_below level kind i h); arrays = refl; turns = refl }

pub reached_then : (level higher : ℕ) (s : State) (place : ℕ) (now : State) (later : ℕ) (last : State) → level ≤ higher
    → Reached level s place now → Reached higher now later last → Reached level s later last
reached_then level higher s place now later last h r q =
    record { at = q.at; kept = λ i b. q.kept i (omega (arith, h, b)) ∙ r.kept i b; arrays = q.arrays ∙ r.arrays; turns = q.turns ∙ r.turns }

pub reached_to : (level : ℕ) (s : State) (place : ℕ) (now : State) (later : ℕ) → place ≡ later → Reached level s place now → Reached level s later now
reached_to level s place now later e r = record { at = r.at ∙ e; kept = r.kept; arrays = r.arrays; turns = r.turns }

pub reached_passed : (level : ℕ) (s : State) (place : ℕ) (now : State) → Reached level s place now → Reached level s (place + 1) (passed now)
reached_passed level s place now r = record { at = ap (λ n. n + 1) r.at; kept = r.kept; arrays = r.arrays; turns = r.turns }

pub reached_onward : (level : ℕ) (s : State) (place : ℕ) (now : State) (by : ℕ) → Reached level s place now → Reached level s (place + 1 + by) (onward now by)
reached_onward level s place now by r = record { at = ap (λ n. n + 1 + by) r.at; kept = r.kept; arrays = r.arrays; turns = r.turns }

-- a register of a level keeps its value on the way to a state that keeps the registers below a higher one
pub register_kept : (level : ℕ) (kind : VariableType) (higher : ℕ) (s : State) (place : ℕ) (now : State) (v : Option Operand) → level < higher
    → Reached higher s place now → reg s.registers (register_at level kind) ≡ v → reg now.registers (register_at level kind) ≡ v
register_kept level kind higher s place now v h r e = r.kept (register_at level kind) (register_below level kind higher h) ∙ e

-- one variable more, which holds the same
same_then : (variable : Binding) (c d : Option Operand) (xs ys : List (Option ℕ)) (vs ws : Variables) → c ≡ d → xs ≡ ys → vs ≡ ws
    → record variable { content = c; elements = seen_elements variable.elements xs } ∷ vs ≡ record variable { content = d; elements = seen_elements variable.elements ys } ∷ ws
same_then variable c d xs ys vs ws e f g =
    ap₂ (λ (o : Option Operand) (us : Variables). record variable { content = o; elements = seen_elements variable.elements xs } ∷ us) e g
    ∙ ap (λ (zs : List (Option ℕ)). record variable { content = d; elements = seen_elements variable.elements zs } ∷ ws) f

-- what the variables in scope hold, while their registers and their private arrays keep it
pub view_kept : (base : ℕ) (variables : Variables) (before after : Registers) → ((i : ℕ) → i < 16 * (base + length variables) → reg after i ≡ reg before i)
    → ((a : ℕ) → a < base + length variables → array_of after a ≡ array_of before a) → view base variables after ≡ view base variables before
view_kept base [] before after h k = refl
view_kept base (variable ∷ variables) before after h k =
    let level = base + length variables in
    same_then variable _ _ (array_of after level) (array_of before level) _ _
    (h (register_at level variable.kind) (register_below level variable.kind (base + length (variable ∷ variables)) (omega arith))) (k level (omega arith))
    (view_kept base variables before after (λ i b. h i (omega (arith, b))) (λ a b. k a (omega (arith, b))))

pub sees_kept : (scope : Scope) (before after : Registers) (variables : Variables) → ((i : ℕ) → i < 16 * free_level scope → reg after i ≡ reg before i)
    → ((a : ℕ) → a < free_level scope → array_of after a ≡ array_of before a) → Sees scope before variables → Sees scope after variables
sees_kept scope before after variables h k e =
    let is = view_kept scope.base scope.variables before after h k in
    record { same = is ∙ e.same; arrays = ap arrays_in is ∙ e.arrays }

pub seen_kept : (scope : Scope) (level : ℕ) (s : State) (place : ℕ) (now : State) (variables : Variables) → free_level scope ≤ level → Reached level s place now
    → Sees scope s.registers variables → Sees scope now.registers variables
seen_kept scope level s place now variables h r e =
    sees_kept scope s.registers now.registers variables (λ i b. r.kept i (omega (arith, h, b))) (λ a b. ap (λ arrays. entry_at [] arrays a) r.arrays) e

-- the elements of the private array of a name, as they are seen
elements_in : (base : ℕ) (variables : Variables) (registers : Registers) (name : ℕ)
    → elements_of (view base variables registers) name ≡ seen_elements (elements_of variables name) (array_of registers (level_in base variables name))
elements_in base [] registers name = refl
elements_in base (variable ∷ variables) registers name =
    elements_case variable.elements (base + length variables) (elements_of (view base variables registers) name) (elements_of variables name) (level_in base variables name)
    (name == variable.name) (elements_in base variables registers name)
  where
    elements_case : (own : List (Option ℕ)) (l : ℕ) (p q : List (Option ℕ)) (m : ℕ) (b : Bool) → p ≡ seen_elements q (array_of registers m)
        → elim b as (λ _. List (Option ℕ)) [ true ↦ seen_elements own (array_of registers l) | false ↦ p ]
        ≡ seen_elements (elim b as (λ _. List (Option ℕ)) [ true ↦ own | false ↦ q ]) (array_of registers (elim b as (λ _. ℕ) [ true ↦ l | false ↦ m ]))
    elements_case own l p q m true h = refl
    elements_case own l p q m false h = h

-- a name is that of a private array, whether as it was declared or as it is seen
array_in : (base : ℕ) (variables : Variables) (registers : Registers) (name : ℕ) → arrays_in (view base variables registers) ≡ arrays_in variables
    → is_private_array (view base variables registers) name ≡ is_private_array variables name
array_in base [] registers name h = refl
array_in base (variable ∷ variables) registers name h =
    array_case (seen_elements variable.elements (array_of registers (base + length variables))) variable.elements (elements_of (view base variables registers) name) (elements_of variables name)
    (name == variable.name) (ap (λ bs. get_or bs 0 false) h) (array_in base variables registers name (ap (λ bs. drop 1 bs) h))
  where
    array_case : (now own other rest : List (Option ℕ)) (b : Bool) → has_elements now ≡ has_elements own → has_elements other ≡ has_elements rest
        → has_elements (elim b as (λ _. List (Option ℕ)) [ true ↦ now | false ↦ other ]) ≡ has_elements (elim b as (λ _. List (Option ℕ)) [ true ↦ own | false ↦ rest ])
    array_case now own other rest true h k = h
    array_case now own other rest false h k = k

pub array_seen : (scope : Scope) (registers : Registers) (name : ℕ) (variables : Variables) → Sees scope registers variables → is_private_array scope.variables name ≡ is_private_array variables name
array_seen scope registers name variables e = sym (array_in scope.base scope.variables registers name e.arrays) ∙ ap (λ vs. is_private_array vs name) e.same

-- such an array has the elements of its level
pub array_held : (own held : List (Option ℕ)) → has_elements own ≡ true → held ≡ seen_elements own held
array_held [] held h = absurd (false≢true h)
array_held (element ∷ own) held h = refl

pub elements_seen : (scope : Scope) (registers : Registers) (name : ℕ) (variables : Variables) → is_private_array scope.variables name ≡ true → Sees scope registers variables
    → array_of registers (level_of scope name) ≡ elements_of variables name
elements_seen scope registers name variables is e =
    array_held (elements_of scope.variables name) (array_of registers (level_of scope name)) is
    ∙ sym (elements_in scope.base scope.variables registers name) ∙ ap (λ vs. elements_of vs name) e.same

-- what a register has, if there is one
abbrev pub found : Registers → Option ℕ → Option Operand
found registers None = None
found registers (Some i) = reg registers i

look_in : (base : ℕ) (variables : Variables) (registers : Registers) (name : ℕ) → look (view base variables registers) name ≡ found registers (register_in base variables name)
look_in base [] registers name = refl
look_in base (variable ∷ variables) registers name =
    look_case registers (look (view base variables registers) name) (register_at (base + length variables) variable.kind) (register_in base variables name) (name == variable.name) (look_in base variables registers name)
  where
    look_case : (registers : Registers) (p : Option Operand) (i : ℕ) (j : Option ℕ) (b : Bool) → p ≡ found registers j
        → elim b as (λ _. Option Operand) [ true ↦ reg registers i | false ↦ p ] ≡ found registers (elim b as (λ _. Option ℕ) [ true ↦ Some i | false ↦ j ])
    look_case registers p i j true h = refl
    look_case registers p i j false h = h

pub look_seen : (scope : Scope) (registers : Registers) (name : ℕ) (variables : Variables) → Sees scope registers variables
    → found registers (register_in scope.base scope.variables name) ≡ look variables name
look_seen scope registers name variables e = sym (look_in scope.base scope.variables registers name) ∙ ap (λ vs. look vs name) e.same

-- types go by what is declared, whatever the variables hold
declared_seen : (base : ℕ) (variables : Variables) (registers : Registers) (name : ℕ) → declared_type (view base variables registers) name ≡ declared_type variables name
declared_seen base [] registers name = refl
declared_seen base (variable ∷ variables) registers name = declared_case variable.kind (name == variable.name) (declared_seen base variables registers name)
  where
    declared_case : (k : VariableType) {p q : VariableType} (b : Bool) → p ≡ q
        → elim b as (λ _. VariableType) [ true ↦ k | false ↦ p ] ≡ elim b as (λ _. VariableType) [ true ↦ k | false ↦ q ]
    declared_case k true h = refl
    declared_case k false h = h

mutual
  type_in : (base : ℕ) (variables : Variables) (registers : Registers) (e : Term) → type_of (view base variables registers) e ≡ type_of variables e
  type_in base vs registers (tree.Number at value) = refl
  type_in base vs registers (tree.Variable at name) = declared_seen base vs registers name
  type_in base vs registers (tree.Element at name index) = ap (λ k. Integer (base_type k)) (declared_seen base vs registers name)
  type_in base vs registers (tree.ElementAddress at name_at name index) = declared_seen base vs registers name
  type_in base vs registers (tree.Dereference at pointer) = ap (λ k. Integer (base_type k)) (type_in base vs registers pointer)
  type_in base vs registers (tree.Call at name arguments) = ap (λ k. Integer (call_type (built_in name) k)) (arguments_in base vs registers arguments)
  type_in base vs registers (tree.Unary at operator operand) = ap (λ k. Integer (unary_kind operator (base_type k))) (type_in base vs registers operand)
  type_in base vs registers (tree.Cast at kind operand) = refl
  type_in base vs registers (tree.Binary at operator left right) = ap₂ (infix_type operator) (type_in base vs registers left) (type_in base vs registers right)
  type_in base vs registers (tree.Choice at condition chosen otherwise) =
      ap₂ (λ a b. Integer (common (base_type a) (base_type b))) (type_in base vs registers chosen) (type_in base vs registers otherwise)

  arguments_in : (base : ℕ) (variables : Variables) (registers : Registers) (es : Terms) → argument_type (view base variables registers) es ≡ argument_type variables es
  arguments_in base vs registers NoTerm = refl
  arguments_in base vs registers (ThenTerm NoTerm e) = ap base_type (type_in base vs registers e)
  arguments_in base vs registers (ThenTerm (ThenTerm es d) e) = arguments_in base vs registers (ThenTerm es d)

pub type_seen : (scope : Scope) (registers : Registers) (variables : Variables) (e : Term) → Sees scope registers variables → type_of scope.variables e ≡ type_of variables e
type_seen scope registers variables e h = sym (type_in scope.base scope.variables registers e) ∙ ap (λ vs. type_of vs e) h.same

-- and so do constants
mutual
  constant_in : (base : ℕ) (variables : Variables) (registers : Registers) (e : Term) → constant_of (view base variables registers) e ≡ constant_of variables e
  constant_in base vs registers (tree.Number at value) = refl
  constant_in base vs registers (tree.Variable at name) = refl
  constant_in base vs registers (tree.Element at name index) = refl
  constant_in base vs registers (tree.ElementAddress at name_at name index) = refl
  constant_in base vs registers (tree.Dereference at pointer) = refl
  constant_in base vs registers (tree.Call at name arguments) = ap (call_constant (built_in name)) (constants_in base vs registers arguments)
  constant_in base vs registers (tree.Unary at operator operand) = ap (unary_constant operator) (constant_in base vs registers operand)
  constant_in base vs registers (tree.Cast at kind operand) = ap (cast_constant kind) (constant_in base vs registers operand)
  constant_in base vs registers (tree.Binary at operator left right) = ap₂ (infix_constant operator) (constant_in base vs registers left) (constant_in base vs registers right)
  constant_in base vs registers (tree.Choice at condition chosen otherwise) =
      rw (constant_in base vs registers condition, constant_in base vs registers chosen, constant_in base vs registers otherwise, type_in base vs registers chosen, type_in base vs registers otherwise) refl

  constants_in : (base : ℕ) (variables : Variables) (registers : Registers) (es : Terms) → constants_of (view base variables registers) es ≡ constants_of variables es
  constants_in base vs registers NoTerm = refl
  constants_in base vs registers (ThenTerm es e) = ap₂ (λ xs x. xs ++ x ∷ []) (constants_in base vs registers es) (constant_in base vs registers e)

pub constant_seen : (scope : Scope) (registers : Registers) (variables : Variables) (e : Term) → Sees scope registers variables → constant_of variables e ≡ constant_of scope.variables e
constant_seen scope registers variables e h = ap (λ vs. constant_of vs e) (sym h.same) ∙ constant_in scope.base scope.variables registers e

-- registers that hold values, and one more
pub hold_then : (registers : Registers) (numbers : List ℕ) (values : List Operand) (i : ℕ) (v : Operand) → Hold registers numbers values → reg registers i ≡ Some v
    → Hold registers (numbers ++ i ∷ []) (values ++ v ∷ [])
hold_then registers [] [] i v h e = (e, tt)
hold_then registers [] (w ∷ values) i v h e = absurd h
hold_then registers (j ∷ numbers) [] i v h e = absurd h
hold_then registers (j ∷ numbers) (w ∷ values) i v h e = (h.0, hold_then registers numbers values i v h.1 e)

abbrev Below : ℕ → List ℕ → Type 0
Below n [] = Unit {0}
Below n (i ∷ numbers) = (i < n) × Below n numbers

below_then : (n m : ℕ) (numbers : List ℕ) (i : ℕ) → n ≤ m → Below n numbers → i < m → Below m (numbers ++ i ∷ [])
below_then n m [] i h b e = (e, tt)
below_then n m (j ∷ numbers) i h b e = let k = b.0 in (omega (arith, h, k), below_then n m numbers i h b.1 e)

registers_below : (scope : Scope) (level : ℕ) (es : Terms) → Below (16 * (level + count es)) (registers_for scope level es)
registers_below scope level NoTerm = tt
registers_below scope level (ThenTerm es e) =
    below_then (16 * (level + count es)) (16 * (level + count (ThenTerm es e))) (registers_for scope level es) (register_for scope (level + count es) e)
    (omega arith) (registers_below scope level es) (register_below (level + count es) (type_of scope.variables e) (level + count (ThenTerm es e)) (omega arith))

hold_kept : (before after : Registers) (n : ℕ) (numbers : List ℕ) (values : List Operand) → Below n numbers → ((i : ℕ) → i < n → reg after i ≡ reg before i)
    → Hold before numbers values → Hold after numbers values
hold_kept before after n [] [] b k h = tt
hold_kept before after n [] (v ∷ values) b k h = absurd h
hold_kept before after n (i ∷ numbers) [] b k h = absurd h
hold_kept before after n (i ∷ numbers) (v ∷ values) b k h = (k i b.0 ∙ h.0, hold_kept before after n numbers values b.1 k h.1)

pub arguments_kept : (scope : Scope) (level : ℕ) (es : Terms) (values : List Operand) (s : State) (place : ℕ) (now : State) → Reached (level + count es) s place now
    → Hold s.registers (registers_for scope level es) values → Hold now.registers (registers_for scope level es) values
arguments_kept scope level es values s place now r h =
    hold_kept s.registers now.registers (16 * (level + count es)) (registers_for scope level es) values (registers_below scope level es) r.kept h
