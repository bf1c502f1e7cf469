-- The functions of a text, one after the other.
use Rattle.std.proofs.Common.{◌≡◌, ℕ, ◌+◌, ◌<◌, ◌⊎◌, inl, inr, List, [], ◌∷◌, ◌++◌, length, map, take, drop, get_or, Option, None, Some, Result, Err, refl, sym, ap, ◌∙◌, subst}
use Rattle.std.specs.Prelude.{IfErr}
use Prim.Native.Nat.{zero, suc}
use Rattle.std.proofs.lemmas.List.{take_more}
use Rattle.limits.specs.declared.Limits.{Limits}
use Rattle.clmodel.specs.declared.tree.Function.{Function}
use Rattle.clmodel.specs.declared.tree.Tree.{Tree}
use Rattle.clmodel.specs.declared.type_fault.TypeFault.{TypeFault}
use Rattle.clmodel.specs.declared.type_fault.TypeFault.TheVariants as fault
use Rattle.clmodel.specs.Tree.{Funcs, NoFunc, ThenFunc, then_funcs, func, Program, program}
use Rattle.clmodel.specs.Typing.{IsTypedWithin, IsTypedProgram, IsTypeFault}
use Rattle.clmodel.specs.Typing.Context.{Context, Signature}
use Rattle.clmodel.specs.Typing.Sizes.{Sizes}
use Rattle.cltypes.specs.Limits.{IsSummary}
use Rattle.clmodel.specs.Typing.Least.{first}
use Rattle.clmodel.specs.Typing.Functions.{names, signature, signatures, function_faults, functions_faults, program_faults}
use Rattle.clmodel.proofs.Kernels.{then_last}
use Rattle.cltypes_scope.specs.Names.{with_function}
use Rattle.cltypes.specs.Answers.{IsFaultOf}
use Rattle.cltypes.specs.Views.{functions_of, known}
use Rattle.cltypes_scope.proofs.Follows.{inside_first, inside_second, neither_of}
use Rattle.cltypes.proofs.Programs.{program_sound, program_fault, typed_has_none}

-- their names

next_function : (fs : List Function) (i : ℕ) (f : Function) → i < length fs → f ≡ get_or fs i f → functions_of (take (i + 1) fs) ≡ ThenFunc (functions_of (take i fs)) (func f)
next_function fs i f h g =
    ap functions_of (take_more fs i f h) ∙ then_last NoFunc (take i fs) (get_or fs i f) ∙ ap (λ z. ThenFunc (functions_of (take i fs)) (func z)) (sym g)

pub signatures_more : (fs : List Function) (i : ℕ) (f : Function) (before now : List (ℕ × Signature)) → i < length fs → f ≡ get_or fs i f → signatures (functions_of (take i fs)) ≡ before
    → now ≡ before ++ (f.name, signature (func f)) ∷ [] → signatures (functions_of (take (i + 1) fs)) ≡ now
signatures_more fs i f before now h g n e = ap signatures (next_function fs i f h g) ∙ ap (λ z. z ++ (f.name, signature (func f)) ∷ []) n ∙ sym e

pub summary_more : (fs : List Function) (i : ℕ) (f : Function) (table : Sizes) → i < length fs → f ≡ get_or fs i f → IsSummary table (ThenFunc (functions_of (take i fs)) (func f))
    → IsSummary table (functions_of (take (i + 1) fs))
summary_more fs i f table h g s = subst (λ z. IsSummary table z) (sym (next_function fs i f h g)) s

pub known_more : (limits : Limits) (c d : Context) (fs : List Function) (i : ℕ) (f : Function) → i < length fs → f ≡ get_or fs i f → c ≡ known limits (names (functions_of (take i fs)))
    → d ≡ with_function c f.name → d ≡ known limits (names (functions_of (take (i + 1) fs)))
known_more limits c d fs i f h g n e = e ∙ ap (λ z. with_function z f.name) n ∙ ap (λ z. known limits (names z)) (sym (next_function fs i f h g))

-- their faults

ahead : (limits : Limits) (all : List ℕ) (gs : Funcs) (fs : List Function) (f : TypeFault) → first (functions_faults limits all gs) ≡ Some f → first (functions_faults limits all (then_funcs gs (map func fs))) ≡ Some f
ahead limits all gs [] f h = h
ahead limits all gs (g ∷ fs) f h = ahead limits all (ThenFunc gs (func g)) fs f (inside_first (functions_faults limits all gs) (function_faults limits all gs (func g)) f h)

then_rest : (gs : Funcs) (fs : List Function) (i : ℕ) → then_funcs gs (map func fs) ≡ then_funcs (then_funcs gs (map func (take i fs))) (map func (drop i fs))
then_rest gs fs zero = refl
then_rest gs [] (suc i) = refl
then_rest gs (f ∷ fs) (suc i) = then_rest (ThenFunc gs (func f)) fs i

pub function_inside : (limits given : Limits) (all known : List ℕ) (fs : List Function) (i : ℕ) (f : Function) (g : TypeFault) → i < length fs → f ≡ get_or fs i f → given ≡ limits → known ≡ all
    → first (functions_faults limits all (functions_of (take i fs))) ≡ None → first (function_faults given known (functions_of (take i fs)) (func f)) ≡ Some g
    → first (functions_faults limits all (functions_of fs)) ≡ Some g
function_inside limits given all known fs i f g h e l k n s =
    ap (λ z. first (functions_faults limits all z)) (then_rest NoFunc fs (i + 1))
    ∙ ahead limits all (functions_of (take (i + 1) fs)) (drop (i + 1) fs) g
    (ap (λ z. first (functions_faults limits all z)) (next_function fs i f h e)
    ∙ inside_second (functions_faults limits all (functions_of (take i fs))) (function_faults limits all (functions_of (take i fs)) (func f)) g n
    (ap (λ z. first (function_faults limits z (functions_of (take i fs)) (func f))) (sym k)
    ∙ ap (λ z. first (function_faults z known (functions_of (take i fs)) (func f))) (sym l) ∙ s))

pub functions_more : (limits given : Limits) (all known : List ℕ) (fs : List Function) (i : ℕ) (f : Function) → i < length fs → f ≡ get_or fs i f → given ≡ limits → known ≡ all
    → first (functions_faults limits all (functions_of (take i fs))) ≡ None → first (function_faults given known (functions_of (take i fs)) (func f)) ≡ None
    → first (functions_faults limits all (functions_of (take (i + 1) fs))) ≡ None
functions_more limits given all known fs i f h e l k n s =
    ap (λ z. first (functions_faults limits all z)) (next_function fs i f h e)
    ∙ neither_of (functions_faults limits all (functions_of (take i fs))) (function_faults limits all (functions_of (take i fs)) (func f)) n
    (ap (λ z. first (function_faults limits z (functions_of (take i fs)) (func f))) (sym k)
    ∙ ap (λ z. first (function_faults z known (functions_of (take i fs)) (func f))) (sym l) ∙ s)

-- what is answered

is_fault : (limits : Limits) (p : Program) (f : TypeFault) → IsTypeFault limits p f → IsFaultOf limits p f
is_fault limits p fault.OutOfMemory h = tt
is_fault limits p (fault.UnknownName at) h = h
is_fault limits p (fault.Redeclared at) h = h
is_fault limits p (fault.TypeMismatch at) h = h
is_fault limits p (fault.NotAssignable at) h = h
is_fault limits p (fault.Recursion at) h = h
is_fault limits p (fault.WrongArgumentCount at) h = h
is_fault limits p (fault.WrongSpace at) h = h
is_fault limits p (fault.BadBarrierFlags at) h = h
is_fault limits p (fault.TooManyLoops at) h = h
is_fault limits p (fault.TooLarge at) h = h
is_fault limits p (fault.MissingReturn at) h = h

answered_fault : (limits : Limits) (p : Program) (f : TypeFault) → (f ≡ fault.OutOfMemory) ⊎ (first (program_faults limits p) ≡ Some f) → IsFaultOf limits p f
answered_fault limits p f (inl e) = subst (λ g. IsFaultOf limits p g) (sym e) tt
answered_fault limits p f (inr e) = is_fault limits p f (program_fault limits p f e)

typed_answer : (limits : Limits) (p : Program) (f : TypeFault) → IsTypedWithin limits p → (f ≡ fault.OutOfMemory) ⊎ (first (program_faults limits p) ≡ Some f) → f ≡ fault.OutOfMemory
typed_answer limits p f h (inl e) = e
typed_answer limits p f h (inr e) = absurd (typed_has_none limits p h f (program_fault limits p f e))

-- the first fault of functions in their text
abbrev pub first_of : Limits → List Function → Option TypeFault
first_of limits fs = first (functions_faults limits (names (functions_of fs)) (functions_of fs))

along : (limits : Limits) (t : Tree) (fs : List Function) (f : TypeFault) → fs ≡ t.functions.items → (f ≡ fault.OutOfMemory) ⊎ (first_of limits fs ≡ Some f)
    → (f ≡ fault.OutOfMemory) ⊎ (first (program_faults limits (program t)) ≡ Some f)
along limits t fs f e (inl h) = inl h
along limits t fs f e (inr h) = inr (ap (first_of limits) (sym e) ∙ h)

pub answered : (limits : Limits) (t : Tree) (fs : List Function) (f : TypeFault) → fs ≡ t.functions.items → (f ≡ fault.OutOfMemory) ⊎ (first_of limits fs ≡ Some f) → IsFaultOf limits (program t) f
answered limits t fs f e h = answered_fault limits (program t) f (along limits t fs f e h)

pub answered_typed : (limits : Limits) (t : Tree) (fs : List Function) (f : TypeFault) → fs ≡ t.functions.items → (f ≡ fault.OutOfMemory) ⊎ (first_of limits fs ≡ Some f)
    → IsTypedWithin limits (program t) → f ≡ fault.OutOfMemory
answered_typed limits t fs f e h typed = typed_answer limits (program t) f typed (along limits t fs f e h)

pub answered_well : (limits : Limits) (t : Tree) (fs : List Function) → fs ≡ t.functions.items → first_of limits fs ≡ None → IsTypedWithin limits (program t)
answered_well limits t fs e h = program_sound limits (program t) (ap (first_of limits) (sym e) ∙ h)

-- typed within these limits, and so within those of some device
pub typed_somewhere : (limits : Limits) (p : Program) → IsTypedWithin limits p → IsTypedProgram p
unfolding IsTypedProgram
typed_somewhere limits p h = (limits, h)

-- what `?` hands on is the fault that it met

pub if_err_by : {A : Type 0} (r : Result A TypeFault) (f : TypeFault) (P : TypeFault → Type 0) → (y : TypeFault) × (r ≡ Err y) × (y ≡ f) → P f → IfErr r P
if_err_by r f P h x = subst (λ z. IfErr z P) (sym h.1) (subst P (sym h.2) x)
