-- What the checker's steps say of the places of statements, one after the other.
use Rattle.std.proofs.Common.{◌≡◌, ℕ, ◌+◌, ◌<◌, ◌⊎◌, inl, inr, List, [], ◌∷◌, length, map, take, drop, get_or, None, Some, Result, refl, sym, ap, ◌∙◌, subst}
use Rattle.clmodel.specs.declared.declaration.Declaration.{Declaration}
use Rattle.clmodel.specs.declared.tree.Statement.{Statement}
use Rattle.clmodel.specs.declared.type_fault.TypeFault.{TypeFault}
use Rattle.clmodel.specs.declared.type_fault.TypeFault.TheVariants as fault
use Rattle.clmodel.specs.Tree as tree
use Rattle.clmodel.specs.Tree.{Target, Stmt, Stmts, NoStmt, ThenStmt, MaybeStmt, Without, With, then_stmts, stmt, row_stmts}
use Rattle.clmodel.specs.declared.declaration.Declaration.TheVariants.{Single}
use Rattle.clmodel.specs.Typing.Context.{Context, Scope, array, bind, enter, after, after_part, after_all}
use Rattle.clmodel.specs.Typing.Least.{first}
use Rattle.clmodel.specs.Typing.Faults.{target_faults, faults, row_faults}
use Rattle.cltypes_scope.specs.Names.{left, without_innermost}
use Rattle.cltypes_scope.specs.declared.faults.TypedOperand.{TypedOperand}
use Rattle.cltypes_scope.specs.Answers.{Checks}
use Rattle.cltypes.specs.Limits.{statements}
use Rattle.clmodel.proofs.Trees.{next_statement, then_rest}
use Rattle.cltypes.specs.Views.{target_of}
use Rattle.cltypes_scope.proofs.Follows.{inside_first, inside_second, neither_of}

-- the target, and that is another

pub target_along : (c : Context) (p q : Target) (r : Result TypedOperand TypeFault) → q ≡ p → Checks r (first (target_faults c p)) (target_of c p) → Checks r (first (target_faults c q)) (target_of c q)
target_along c p q r h x = subst (λ z. Checks r (first (target_faults c z)) (target_of c z)) (sym h) x

pub target_fault_along : (c : Context) (p q : Target) (f : TypeFault) → q ≡ p → first (target_faults c p) ≡ Some f → first (target_faults c q) ≡ Some f
target_fault_along c p q f h x = ap (λ z. first (target_faults c z)) h ∙ x

-- a block leaves what was known before it

left_around : (c : Context) (x : ℕ) (k : Declaration) (scopes : List Scope) → without_innermost (bind c x k) scopes ≡ without_innermost c scopes
left_around c x k [] = refl
left_around c x k (scope ∷ scopes) = refl

pub left_after : (c : Context) (s : Stmt) → left (after c s) ≡ left c
left_after c (tree.Declare a k b x) = left_around c x (Single k) c.outer
left_after c (tree.DeclareAs a k b x e) = left_around c x (Single k) c.outer
left_after c (tree.Empty a) = refl
left_after c (tree.Block a ss) = refl
left_after c (tree.DeclareArray a is_local t b x d n) = left_around c x (array is_local t) c.outer
left_after c (tree.Assign a p op e) = refl
left_after c (tree.Step a p is_increment) = refl
left_after c (tree.CallOnly a x es) = refl
left_after c (tree.If a e s) = refl
left_after c (tree.IfElse a e s r) = refl
left_after c (tree.While a e s) = refl
left_after c (tree.DoWhile a s e) = refl
left_after c (tree.For a s e r t) = refl
left_after c (tree.Break a) = refl
left_after c (tree.Continue a) = refl
left_after c (tree.Return a) = refl
left_after c (tree.ReturnValue a e) = refl

pub left_part : (c : Context) (s : MaybeStmt) → left (after_part c s) ≡ left c
left_part c Without = refl
left_part c (With s) = left_after c s

pub left_all : (c : Context) (ss : Stmts) → left (after_all c ss) ≡ left c
left_all c NoStmt = refl
left_all c (ThenStmt ss s) = left_after (after_all c ss) s ∙ left_all c ss

pub left_block : (c : Context) (ss : Stmts) → left (after_all (enter c) ss) ≡ c
left_block c ss = left_all (enter c) ss

-- a row of statements

ahead : (c : Context) (ss : Stmts) (rest : List Statement) (f : TypeFault) → first (row_faults c ss) ≡ Some f → first (row_faults c (then_stmts ss (map stmt rest))) ≡ Some f
ahead c ss [] f h = h
ahead c ss (s ∷ rest) f h = ahead c (ThenStmt ss (stmt s)) rest f (inside_first (row_faults c ss) (faults (after_all c ss) (stmt s)) f h)

pub statement_inside : (c d : Context) (ss : List Statement) (i : ℕ) (s : Statement) (f : TypeFault) → i < length ss → s ≡ get_or ss i s
    → d ≡ after_all c (statements (take i ss)) → first (row_faults c (statements (take i ss))) ≡ None
    → (f ≡ fault.OutOfMemory) ⊎ (first (faults d (stmt s)) ≡ Some f) → (f ≡ fault.OutOfMemory) ⊎ (first (row_faults c (statements ss)) ≡ Some f)
statement_inside c d ss i s f h g w n (inl k) = inl k
statement_inside c d ss i s f h g w n (inr k) =
    let before = statements (take i ss) in
    inr (ap (λ t. first (row_faults c t)) (then_rest NoStmt ss (i + 1))
    ∙ ahead c (statements (take (i + 1) ss)) (drop (i + 1) ss) f
    (ap (λ t. first (row_faults c t)) (next_statement ss i s h g)
    ∙ inside_second (row_faults c before) (faults (after_all c before) (stmt s)) f n (ap (λ z. first (faults z (stmt s))) (sym w) ∙ k)))

pub statement_more : (c d : Context) (ss : List Statement) (i : ℕ) (s : Statement) → i < length ss → s ≡ get_or ss i s → d ≡ after_all c (statements (take i ss))
    → first (row_faults c (statements (take i ss))) ≡ None → first (faults d (stmt s)) ≡ None → first (row_faults c (statements (take (i + 1) ss))) ≡ None
statement_more c d ss i s h g w n k =
    let before = statements (take i ss) in
    ap (λ t. first (row_faults c t)) (next_statement ss i s h g)
    ∙ neither_of (row_faults c before) (faults (after_all c before) (stmt s)) n (ap (λ z. first (faults z (stmt s))) (sym w) ∙ k)

pub statement_after : (c d e : Context) (ss : List Statement) (i : ℕ) (s : Statement) → i < length ss → s ≡ get_or ss i s → d ≡ after_all c (statements (take i ss))
    → e ≡ after d (stmt s) → e ≡ after_all c (statements (take (i + 1) ss))
statement_after c d e ss i s h g w k = k ∙ ap (λ z. after z (stmt s)) w ∙ ap (after_all c) (sym (next_statement ss i s h g))
