-- The variables in scope as registers hold them.
use Rattle.std.proofs.Common.{◌≡◌, ◌≢◌, ℕ, zero, suc, ◌+◌, ◌-◌, ◌*◌, ◌<◌, ◌≤◌, ◌==◌, Bool, true, false, Option, None, Some, List, [], ◌∷◌, ◌++◌, length, drop, refl, sym, ap, ap₂, ◌∙◌, subst, arith, append_assoc, length-append, length-drop, drop-drop}
use Rattle.clmodel.specs.Next.{Binding, Variables, declared_type, elements_of, has_elements, is_private_array, with_elements, held, assign, leave}
use Rattle.clmodel.specs.declared.operand.Operand.{Operand}
use Rattle.clmodel.specs.declared.tree.VariableType.{VariableType}
use Rattle.regcode.specs.Machine.{State, Registers, entry_at, reg, put, array_of, put_array}
use Rattle.regcode.proofs.Registers.{reg_put, reg_kept, array_put, array_kept}
use Rattle.lower_expr.specs.Scope.{Scope, register_at, register_in, register_of, level_in, level_of, seen_elements, view, seen, arrays_in, Sees, free_level}
use Rattle.lower_expr.specs.Expressions.{kind_named}
use Rattle.lower_expr.specs.Agreement.{Reached}
use Rattle.lower_expr.proofs.Places.{kind_below, view_kept, sees_kept, array_held, array_seen}

-- registers and private arrays below a level are the same
pub record Same (level : ℕ) (before now : Registers) : Type 0 where
  pub registers : (i : ℕ) → i < 16 * level → reg now i ≡ reg before i
  pub arrays : (a : ℕ) → a < level → array_of now a ≡ array_of before a

pub same_self : (level : ℕ) (registers : Registers) → Same level registers registers
same_self level registers = record { registers = λ i below. refl; arrays = λ a below. refl }

pub same_then : (level higher : ℕ) (registers middle now : Registers) → level ≤ higher → Same level registers middle → Same higher middle now → Same level registers now
same_then level higher registers middle now less h g =
    record {
      registers = λ i below. g.registers i (omega (arith, less, below)) ∙ h.registers i below;
      arrays = λ a below. g.arrays a (omega (arith, less, below)) ∙ h.arrays a below;
    }

pub reached_same : (level : ℕ) (s : State) (place : ℕ) (now : State) → Reached level s place now → Same level s.registers now.registers
reached_same level s place now r = record { registers = r.kept; arrays = λ a below. ap (λ arrays. entry_at [] arrays a) r.arrays }

pub put_same : (level : ℕ) (kind : VariableType) (bound : ℕ) (registers : Registers) (v : Option Operand) → bound ≤ level → Same bound registers (put registers (register_at level kind) v)
put_same level kind bound registers v h =
    record {
      registers = λ i below. let ne : register_at level kind ≢ i = λ e. absurd (omega (arith, e, h, below)) in reg_kept registers (register_at level kind) v i ne;
      arrays = λ a below. refl;
    }

pub array_same : (level bound : ℕ) (registers : Registers) (elements : List (Option ℕ)) → bound ≤ level → Same bound registers (put_array registers level elements)
array_same level bound registers elements h =
    record {
      registers = λ i below. refl;
      arrays = λ a below. let ne : level ≢ a = λ e. absurd (omega (arith, e, h, below)) in array_kept registers level elements a ne;
    }

pub view_length : (base : ℕ) (variables : Variables) (registers : Registers) → length (view base variables registers) ≡ length variables
view_length base [] registers = refl
view_length base (variable ∷ variables) registers = let e = view_length base variables registers in omega arith

pub view_same : (base : ℕ) (variables : Variables) (registers now : Registers) → Same (base + length variables) registers now → view base variables now ≡ view base variables registers
view_same base variables registers now same = view_kept base variables registers now same.registers same.arrays

pub sees_same : (scope : Scope) (registers now : Registers) (vs : Variables) → Same (free_level scope) registers now → Sees scope registers vs → Sees scope now vs
sees_same scope registers now vs same e = sees_kept scope registers now vs same.registers same.arrays e

-- a variable's register lies between the base and the first free level
abbrev Between : ℕ → ℕ → Option ℕ → Type 0
Between low high None = Unit {0}
Between low high (Some r) = (16 * low ≤ r) × (r < 16 * high)

wider : (low high more : ℕ) (r : Option ℕ) → high ≤ more → Between low high r → Between low more r
wider low high more None h b = tt
wider low high more (Some r) h b = (b.0, omega (arith, b.1))

register_between : (base : ℕ) (variables : Variables) (name : ℕ) → Between base (base + length variables) (register_in base variables name)
register_between base [] name = tt
register_between base (variable ∷ variables) name = go (register_between base variables name) (name == variable.name)
  where
    go : Between base (base + length variables) (register_in base variables name) → (b : Bool) → Between base (base + length (variable ∷ variables)) (elim b [ true ↦ Some (register_at (base + length variables) variable.kind) | false ↦ register_in base variables name ])
    go rest true = let small = kind_below variable.kind in (omega arith, omega arith)
    go rest false = wider base (base + length variables) _ _ (omega arith) rest

pub slot_between : (base : ℕ) (variables : Variables) (name r : ℕ) → register_in base variables name ≡ Some r → (16 * base ≤ r) × (r < 16 * (base + length variables))
slot_between base variables name r e = subst (Between base (base + length variables)) e (register_between base variables name)

-- an assignment to a variable writes its register
assign_put : (base : ℕ) (variables : Variables) (registers : Registers) (name r : ℕ) (v : Operand) → register_in base variables name ≡ Some r
    → view base variables (put registers r (Some (held (declared_type variables name) v))) ≡ assign (view base variables registers) name v
assign_put base [] registers name r v e = cc
assign_put base (variable ∷ variables) registers name r v e = go (assign_put base variables registers name r v) (name == variable.name) e
  where
    top : ℕ
    top = register_at (base + length variables) variable.kind

    shown : List (Option ℕ)
    shown = seen_elements variable.elements (array_of registers (base + length variables))

    go : (register_in base variables name ≡ Some r → view base variables (put registers r (Some (held (declared_type variables name) v))) ≡ assign (view base variables registers) name v) → (b : Bool) → elim b [ true ↦ Some top | false ↦ register_in base variables name ] ≡ Some r
        → view base (variable ∷ variables) (put registers r (Some (held (elim b [ true ↦ variable.kind | false ↦ declared_type variables name ]) v)))
        ≡ elim b [ true ↦ record variable { content = Some (held variable.kind v); elements = shown } ∷ view base variables registers | false ↦ record variable { content = reg registers top; elements = shown } ∷ assign (view base variables registers) name v ]
    go rest true e =
        let is : top ≡ r = cc in
        subst (λ n. view base (variable ∷ variables) (put registers n (Some (held variable.kind v))) ≡ record variable { content = Some (held variable.kind v); elements = shown } ∷ view base variables registers) is
        (ap₂ (λ content others. record variable { content = content; elements = shown } ∷ others) (reg_put registers top _)
        (view_same base variables registers _ (put_same (base + length variables) variable.kind (base + length variables) registers _ (omega arith))))
    go rest false e =
        let between = slot_between base variables name r e in
        let ne : r ≢ top = λ e. absurd (omega (arith, e, between.1)) in
        ap₂ (λ content others. record variable { content = content; elements = shown } ∷ others) (reg_kept registers r _ top ne) (rest e)

-- and to one that isn't in scope none
assign_none : (base : ℕ) (variables : Variables) (registers : Registers) (name : ℕ) (v : Operand) → register_in base variables name ≡ None
    → view base variables registers ≡ assign (view base variables registers) name v
assign_none base [] registers name v e = refl
assign_none base (variable ∷ variables) registers name v e = go (assign_none base variables registers name v) (name == variable.name) e
  where
    top : ℕ
    top = register_at (base + length variables) variable.kind

    shown : List (Option ℕ)
    shown = seen_elements variable.elements (array_of registers (base + length variables))

    go : (register_in base variables name ≡ None → view base variables registers ≡ assign (view base variables registers) name v) → (b : Bool) → ◌≡◌ {A = Option ℕ} (elim b [ true ↦ Some top | false ↦ register_in base variables name ]) None
        → view base (variable ∷ variables) registers
        ≡ elim b [ true ↦ record variable { content = Some (held variable.kind v); elements = shown } ∷ view base variables registers | false ↦ record variable { content = reg registers top; elements = shown } ∷ assign (view base variables registers) name v ]
    go rest true e = cc
    go rest false e = ap (λ others. record variable { content = reg registers top; elements = shown } ∷ others) (rest e)

-- registers don't tell which variables are arrays
pub arrays_put : (base : ℕ) (variables : Variables) (registers : Registers) (r : ℕ) (v : Option Operand) → arrays_in (view base variables (put registers r v)) ≡ arrays_in (view base variables registers)
arrays_put base [] registers r v = refl
arrays_put base (variable ∷ variables) registers r v =
    ap (λ bs. has_elements (seen_elements variable.elements (array_of registers (base + length variables))) ∷ bs) (arrays_put base variables registers r v)

pub assigned_sees : (scope : Scope) (registers : Registers) (vs : Variables) (name r : ℕ) (v : Operand) → register_of scope name ≡ Some r → Sees scope registers vs
    → Sees scope (put registers r (Some (held (kind_named scope name) v))) (assign vs name v)
assigned_sees scope registers vs name r v e same =
    record {
      same = assign_put scope.base scope.variables registers name r v e ∙ ap (λ l. assign l name v) same.same;
      arrays = arrays_put scope.base scope.variables registers r _ ∙ same.arrays;
    }

pub unassigned_sees : (scope : Scope) (registers : Registers) (vs : Variables) (name : ℕ) (v : Operand) → register_of scope name ≡ None → Sees scope registers vs
    → Sees scope registers (assign vs name v)
unassigned_sees scope registers vs name v e same =
    record { same = assign_none scope.base scope.variables registers name v e ∙ ap (λ l. assign l name v) same.same; arrays = same.arrays }

-- the level of a variable lies between the base and the first free one
pub level_from : (base : ℕ) (variables : Variables) (name : ℕ) → base ≤ level_in base variables name
level_from base [] name = omega arith
level_from base (variable ∷ variables) name = go (level_from base variables name) (name == variable.name)
  where
    go : base ≤ level_in base variables name → (b : Bool) → base ≤ elim b as (λ _. ℕ) [ true ↦ base + length variables | false ↦ level_in base variables name ]
    go rest true = omega arith
    go rest false = rest

level_below : (base : ℕ) (variables : Variables) (name : ℕ) → is_private_array variables name ≡ true → level_in base variables name < base + length variables
level_below base [] name h = cc
level_below base (variable ∷ variables) name h = go (level_below base variables name) (name == variable.name) h
  where
    go : (is_private_array variables name ≡ true → level_in base variables name < base + length variables) → (b : Bool)
        → has_elements (elim b as (λ _. List (Option ℕ)) [ true ↦ variable.elements | false ↦ elements_of variables name ]) ≡ true
        → elim b as (λ _. ℕ) [ true ↦ base + length variables | false ↦ level_in base variables name ] < base + length (variable ∷ variables)
    go rest true h = omega arith
    go rest false h = let below = rest h in omega (arith, below)

-- other elements of a private array
elements_put : (base : ℕ) (variables : Variables) (registers : Registers) (name : ℕ) (elements : List (Option ℕ)) → is_private_array variables name ≡ true
    → view base variables (put_array registers (level_in base variables name) elements) ≡ with_elements (view base variables registers) name elements
elements_put base [] registers name elements h = cc
elements_put base (variable ∷ variables) registers name elements h = go (elements_put base variables registers name elements) (name == variable.name) h
  where
    level : ℕ
    level = base + length variables

    top : Option Operand
    top = reg registers (register_at level variable.kind)

    go : (is_private_array variables name ≡ true → view base variables (put_array registers (level_in base variables name) elements) ≡ with_elements (view base variables registers) name elements) → (b : Bool)
        → has_elements (elim b as (λ _. List (Option ℕ)) [ true ↦ variable.elements | false ↦ elements_of variables name ]) ≡ true
        → view base (variable ∷ variables) (put_array registers (elim b as (λ _. ℕ) [ true ↦ level | false ↦ level_in base variables name ]) elements)
        ≡ elim b as (λ _. Variables) [ true ↦ record variable { content = top; elements = elements } ∷ view base variables registers | false ↦ record variable { content = top; elements = seen_elements variable.elements (array_of registers level) } ∷ with_elements (view base variables registers) name elements ]
    go rest true h =
        ap₂ (λ (xs : List (Option ℕ)) (others : Variables). record variable { content = top; elements = xs } ∷ others)
        (sym (array_held variable.elements (array_of (put_array registers level elements) level) h) ∙ array_put registers level elements)
        (view_same base variables registers _ (array_same level level registers elements (omega arith)))
    go rest false h =
        let lower = level_in base variables name in
        let below = level_below base variables name h in
        let ne : lower ≢ level = λ e. absurd (omega (arith, e, below)) in
        ap₂ (λ (xs : List (Option ℕ)) (others : Variables). record variable { content = top; elements = seen_elements variable.elements xs } ∷ others) (array_kept registers lower elements level ne) (rest h)

arrays_with : (variables : Variables) (name : ℕ) (elements : List (Option ℕ)) → is_private_array variables name ≡ true → has_elements elements ≡ true → arrays_in (with_elements variables name elements) ≡ arrays_in variables
arrays_with [] name elements h e = refl
arrays_with (variable ∷ variables) name elements h e = go (arrays_with variables name elements) (name == variable.name) h
  where
    go : (is_private_array variables name ≡ true → has_elements elements ≡ true → arrays_in (with_elements variables name elements) ≡ arrays_in variables) → (b : Bool)
        → has_elements (elim b as (λ _. List (Option ℕ)) [ true ↦ variable.elements | false ↦ elements_of variables name ]) ≡ true
        → arrays_in (elim b as (λ _. Variables) [ true ↦ record variable { elements = elements } ∷ variables | false ↦ variable ∷ with_elements variables name elements ])
        ≡ has_elements variable.elements ∷ arrays_in variables
    go rest true h = ap (λ b. b ∷ arrays_in variables) (e ∙ sym h)
    go rest false h = ap (λ bs. has_elements variable.elements ∷ bs) (rest h e)

pub stored_sees : (scope : Scope) (registers : Registers) (vs : Variables) (name : ℕ) (elements : List (Option ℕ)) → is_private_array scope.variables name ≡ true → has_elements elements ≡ true
    → Sees scope registers vs → Sees scope (put_array registers (level_of scope name) elements) (with_elements vs name elements)
stored_sees scope registers vs name elements is some same =
    let put_is = elements_put scope.base scope.variables registers name elements is in
    let whole : Sees scope registers (seen scope registers) = record { same = refl; arrays = same.arrays } in
    let is' = sym (array_seen scope registers name (seen scope registers) whole) ∙ is in
    record {
      same = put_is ∙ ap (λ l. with_elements l name elements) same.same;
      arrays = ap arrays_in put_is ∙ arrays_with (seen scope registers) name elements is' some ∙ same.arrays;
    }

-- a scope within another
pub record Within (outer inner : Variables) : Type 0 where
  pub more : Variables
  pub is : inner ≡ more ++ outer

pub within_self : (variables : Variables) → Within variables variables
within_self variables = record { more = []; is = refl }

pub within_one : (variable : Binding) (variables : Variables) → Within variables (variable ∷ variables)
within_one variable variables = record { more = variable ∷ []; is = refl }

pub within_trans : (a b c : Variables) → Within a b → Within b c → Within a c
within_trans a b c h g = record { more = g.more ++ h.more; is = g.is ∙ ap (λ l. g.more ++ l) h.is ∙ sym (append_assoc g.more h.more a) }

pub within_length : (outer inner : Variables) → Within outer inner → length outer ≤ length inner
within_length outer inner h = let e = ap length h.is ∙ length-append h.more outer in omega arith

view_more : (base : ℕ) (more outer : Variables) (registers : Registers) (n : ℕ) → n ≡ length more → drop n (view base (more ++ outer) registers) ≡ view base outer registers
view_more base [] outer registers n e = ap (λ k. drop k (view base outer registers)) e
view_more base (variable ∷ more) outer registers zero e = absurd (omega (arith, e))
view_more base (variable ∷ more) outer registers (suc n) e = view_more base more outer registers n (omega (arith, e))

-- the inner variables are left
pub leave_view : (base : ℕ) (outer inner : Variables) (registers : Registers) (n : ℕ) → Within outer inner → n ≡ length outer → leave n (view base inner registers) ≡ view base outer registers
leave_view base outer inner registers n h e =
    let is = view_length base inner registers in
    let all = ap length h.is ∙ length-append h.more outer in
    let count : length (view base inner registers) - n ≡ length h.more = omega arith in
    ap (λ k. drop k (view base inner registers)) count ∙ ap (λ l. drop (length h.more) (view base l registers)) h.is ∙ view_more base h.more outer registers (length h.more) refl

-- variables that are left are left too where more of them are left before
pub leave_twice : (m n : ℕ) (variables : Variables) → m ≤ n → leave m (leave n variables) ≡ leave m variables
leave_twice m n variables less =
    let is : length (drop (length variables - n) variables) ≡ length variables - (length variables - n) = length-drop (length variables - n) variables in
    let count : length variables - n + (length (drop (length variables - n) variables) - m) ≡ length variables - m = omega arith in
    drop-drop (length (drop (length variables - n) variables) - m) (length variables - n) variables ∙ ap (λ k. drop k variables) count

-- whoever sees the variables of an inner scope sees those of the outer
arrays_more : (base : ℕ) (more outer : Variables) (registers : Registers) → arrays_in (view base (more ++ outer) registers) ≡ arrays_in (more ++ outer)
    → arrays_in (view base outer registers) ≡ arrays_in outer
arrays_more base [] outer registers e = e
arrays_more base (variable ∷ more) outer registers e = arrays_more base more outer registers (ap (λ bs. drop 1 bs) e)

arrays_outer : (base : ℕ) (outer inner : Variables) (registers : Registers) → Within outer inner → arrays_in (view base inner registers) ≡ arrays_in inner
    → arrays_in (view base outer registers) ≡ arrays_in outer
arrays_outer base outer inner registers h e = arrays_more base h.more outer registers (subst (λ l. arrays_in (view base l registers) ≡ arrays_in l) h.is e)

pub left_seen : (scope : Scope) (inner : Variables) (registers : Registers) (vs : Variables) (count : ℕ) → Within scope.variables inner → count ≡ length scope.variables
    → Sees (record scope { variables = inner }) registers vs → Sees scope registers (leave count vs)
left_seen scope inner registers vs count w e same =
    record {
      same = sym (leave_view scope.base scope.variables inner registers count w e) ∙ ap (leave count) same.same;
      arrays = arrays_outer scope.base scope.variables inner registers w same.arrays;
    }

pub outer_left : (scope : Scope) (inner vs : Variables) (registers : Registers) → Within scope.variables inner
    → Sees (record scope { variables = inner }) registers (leave (length inner) vs) → Sees scope registers (leave (length scope.variables) vs)
outer_left scope inner vs registers w same =
    subst (λ l. Sees scope registers l) (leave_twice (length scope.variables) (length inner) vs (within_length scope.variables inner w))
    (left_seen scope inner registers (leave (length inner) vs) (length scope.variables) w refl same)

pub self_left : (scope : Scope) (registers : Registers) (vs : Variables) → Sees scope registers vs → Sees scope registers (leave (length scope.variables) vs)
self_left scope registers vs same = left_seen scope scope.variables registers vs (length scope.variables) (within_self scope.variables) refl same
