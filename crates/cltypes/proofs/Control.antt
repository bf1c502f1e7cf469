-- What the checker's steps say of the places of control statements.
use Rattle.std.proofs.Common.{◌≡◌, ℕ, List, ◌⊎◌, inl, inr, ◌++◌, Option, None, Some, Result, Ok, Err, refl, sym, ap, ◌∙◌, subst}
use Rattle.std.proofs.lemmas.Result.{err_from_is_err_and}
use Rattle.std.specs.Prelude.{IfOk, IfErr, Box}
use Rattle.std.specs.Result.{IsErrAnd}
use Rattle.std.specs.declared.alloc.Global.{Global}
use Rattle.clmodel.specs.declared.tree.Expression.{Expression}
use Rattle.clmodel.specs.declared.tree.Statement as rust
use Rattle.clmodel.specs.declared.tree.Statement.{Statement, size-Statement}
use Rattle.clmodel.specs.declared.type_fault.TypeFault.{TypeFault}
use Rattle.clmodel.specs.declared.type_fault.TypeFault.TheVariants as fault
use Rattle.clmodel.specs.Tree as tree
use Rattle.clmodel.specs.Tree.{Stmt, MaybeStmt, MaybeTerm, stmt, maybe_term}
use Rattle.clmodel.specs.Typing.Context.{Context, enter, turning, for_context}
use Rattle.clmodel.specs.Typing.Least.{least, lesser, earlier, first}
use Rattle.clmodel.specs.Typing.Faults.{condition_parts, condition_faults, part_faults, faults}
use Rattle.cltypes_scope.proofs.Least.{least_append, first_append, first_node, earlier_assoc}
use Rattle.cltypes.specs.Answers.{Ends}
use Rattle.cltypes.specs.Views.{held, turns_faults}

-- how deep a statement is that may be left out
abbrev pub held_depth : Option (Box Statement Global) → ℕ
held_depth None = 0
held_depth (Some s) = size-Statement s.value

-- a fault that is found, or out of memory
pub through : (o p : Option TypeFault) (f : TypeFault) → (o ≡ Some f → p ≡ Some f) → (f ≡ fault.OutOfMemory) ⊎ (o ≡ Some f) → (f ≡ fault.OutOfMemory) ⊎ (p ≡ Some f)
through o p f h (inl e) = inl e
through o p f h (inr e) = inr (h e)

-- an end with this fault
pub ends_as : (r : Result (Unit {0}) TypeFault) (o p : Option TypeFault) → IfOk r (λ _. p ≡ None) → IfErr r (λ f. p ≡ Some f) → o ≡ p → Ends r o
ends_as (Ok a) o p n h e = e ∙ n
ends_as (Err f) o p n h e = inr (e ∙ h)

-- two faults of one place
pub both_least : (fs gs : List TypeFault) (o p q : Option TypeFault) → o ≡ lesser p q → p ≡ least fs → q ≡ least gs → o ≡ least (fs ++ gs)
both_least fs gs o p q e h k = e ∙ ap (λ z. lesser z q) h ∙ ap (lesser (least fs)) k ∙ sym (least_append fs gs)

-- a `for`

pub for_view : (at : ℕ) (first third : Option (Box Statement Global)) (condition : Option (Box Expression Global)) (body : Box Statement Global)
    → tree.For at (held first) (maybe_term condition) (held third) (stmt body.value) ≡ stmt (rust.For at first condition third body)
for_view at None None condition body = refl
for_view at None (Some t) condition body = refl
for_view at (Some s) None condition body = refl
for_view at (Some s) (Some t) condition body = refl

-- the first part, and then the others
pub for_first : (c : Context) (at : ℕ) (start : MaybeStmt) (e : MaybeTerm) (third : MaybeStmt) (s : Stmt)
    → first (faults c (tree.For at start e third s)) ≡ earlier (first (part_faults (enter c) start)) (first (turns_faults (for_context c start) e third s))
for_first c at start e third s =
    let d = for_context c start in
    let p = part_faults (enter c) start in
    let q = condition_parts d e in
    let r = part_faults (enter d) third in
    let t = faults (turning d) s in
    let own = condition_faults d e in
    first_node (p ++ q ++ r ++ t) own
    ∙ ap (λ z. earlier z (least own))
    (first_append (p ++ q ++ r) t ∙ ap (λ z. earlier z (first t)) (first_append (p ++ q) r ∙ ap (λ z. earlier z (first r)) (first_append p q) ∙ earlier_assoc (first p) (first q) (first r))
    ∙ earlier_assoc (first p) (earlier (first q) (first r)) (first t))
    ∙ earlier_assoc (first p) (earlier (earlier (first q) (first r)) (first t)) (least own)
    ∙ ap (earlier (first p))
    (sym (first_node (q ++ r ++ t) own ∙ ap (λ z. earlier z (least own)) (first_append (q ++ r) t ∙ ap (λ z. earlier z (first t)) (first_append q r))))

pub in_first : (o p q : Option TypeFault) (f : TypeFault) → o ≡ earlier p q → p ≡ Some f → o ≡ Some f
in_first o p q f e h = e ∙ ap (λ z. earlier z q) h

pub in_rest : (o p q : Option TypeFault) → o ≡ earlier p q → p ≡ None → o ≡ q
in_rest o p q e h = e ∙ ap (λ z. earlier z q) h

-- the fault that `?` hands on is the one that it met
pub handed_on : {A : Type 0} (r : Result A TypeFault) (f : TypeFault) (o : Option TypeFault)
    → IsErrAnd r (λ y. y ≡ f) → (f ≡ fault.OutOfMemory) ⊎ (o ≡ Some f) → Ends r o
handed_on r f o h x =
    let e = err_from_is_err_and r h in
    subst (λ z. Ends z o) (sym e.1) (subst (λ y. (y ≡ fault.OutOfMemory) ⊎ (o ≡ Some y)) (sym e.2) x)
