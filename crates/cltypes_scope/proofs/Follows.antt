-- What the checker's steps say of a node's places.
use Rattle.std.proofs.Common.{◌≡◌, ℕ, List, ◌++◌, Option, None, Some, Result, Ok, Err, sym, ap, ◌∙◌, subst}
use Rattle.clmodel.specs.declared.tree.VariableType.{VariableType}
use Rattle.clmodel.specs.declared.type_fault.TypeFault.{TypeFault}
use Rattle.clmodel.specs.Tree.{Term}
use Rattle.clmodel.specs.Typing.Context.{Context}
use Rattle.clmodel.specs.Typing.Least.{Places, least, earlier, first, node}
use Rattle.clmodel.specs.Typing.Faults.{term_faults}
use Rattle.cltypes_scope.specs.declared.faults.TypedOperand.{TypedOperand}
use Rattle.cltypes_scope.specs.Answers.{Checks}
use Rattle.cltypes_scope.specs.Views.{operand_of}
use Rattle.cltypes_scope.proofs.Least.{first_append, first_node}

-- a fault inside, and none

pub inside : (ps : Places) (own : List TypeFault) (f : TypeFault) → first ps ≡ Some f → first (node ps own) ≡ Some f
inside ps own f h = first_node ps own ∙ ap (λ o. earlier o (least own)) h

pub own_fault : (ps : Places) (own : List TypeFault) → first ps ≡ None → first (node ps own) ≡ least own
own_fault ps own h = first_node ps own ∙ ap (λ o. earlier o (least own)) h

pub inside_first : (ps qs : Places) (f : TypeFault) → first ps ≡ Some f → first (ps ++ qs) ≡ Some f
inside_first ps qs f h = first_append ps qs ∙ ap (λ o. earlier o (first qs)) h

pub inside_second : (ps qs : Places) (f : TypeFault) → first ps ≡ None → first qs ≡ Some f → first (ps ++ qs) ≡ Some f
inside_second ps qs f h k = first_append ps qs ∙ ap (λ o. earlier o (first qs)) h ∙ k

pub neither_of : (ps qs : Places) → first ps ≡ None → first qs ≡ None → first (ps ++ qs) ≡ None
neither_of ps qs h k = first_append ps qs ∙ ap (λ o. earlier o (first qs)) h ∙ k

-- what is checked against a fault and a value, against the same ones
pub checks_same : {A : Type 0} (r : Result A TypeFault) (o p : Option TypeFault) (a b : A) → o ≡ p → a ≡ b → Checks r o a → Checks r p b
checks_same r o p a b e h x = subst (λ v. Checks r v b) e (subst (λ v. Checks r o v) h x)

abbrev pub operand : VariableType → ℕ → TypedOperand
operand kind at = record { kind = kind; at = at }

-- and with a fault and a type that are known
pub checks_as : (r : Result TypedOperand TypeFault) (o p : Option TypeFault) (j k : VariableType) (at : ℕ) → o ≡ p → j ≡ k → Checks r o (operand j at) → Checks r p (operand k at)
checks_as r o p j k at e h x = checks_same r o p (operand j at) (operand k at) e (ap (λ z. operand z at) h) x

-- an expression that is another
pub along : (c : Context) (d e : Term) (r : Result TypedOperand TypeFault) → e ≡ d → Checks r (first (term_faults c d)) (operand_of c d) → Checks r (first (term_faults c e)) (operand_of c e)
along c d e r h x = subst (λ z. Checks r (first (term_faults c z)) (operand_of c z)) (sym h) x

-- A node of parts that have no fault has its own, as what was found of its parts says.

pub one_here : {A : Type 0} (ps : Places) (owns : A → List TypeFault) (outcome : A → TypedOperand) (t j : A) (r : Result TypedOperand TypeFault)
    → Checks (Ok t) (first ps) j → Checks r (least (owns t)) (outcome t) → Checks r (first (node ps (owns j))) (outcome j)
one_here ps owns outcome t j r n x =
    subst (λ o. Checks r o (outcome j)) (sym (own_fault ps (owns j) n.0)) (subst (λ z. Checks r (least (owns z)) (outcome z)) n.1 x)

pub two_here : (ps qs : Places) (owns : TypedOperand → TypedOperand → List TypeFault) (outcome : TypedOperand → TypedOperand → TypedOperand) (t j u k : TypedOperand) (r : Result TypedOperand TypeFault)
    → Checks (Ok t) (first ps) j → Checks (Ok u) (first qs) k → Checks r (least (owns t u)) (outcome t u) → Checks r (first (node (ps ++ qs) (owns j k))) (outcome j k)
two_here ps qs owns outcome t j u k r n m x =
    one_here (ps ++ qs) (owns j) (outcome j) u k r (neither_of ps qs n.0 m.0, m.1) (subst (λ z. Checks r (least (owns z u)) (outcome z u)) n.1 x)

pub three_here : (ps qs rs : Places) (owns : TypedOperand → TypedOperand → TypedOperand → List TypeFault) (outcome : TypedOperand → TypedOperand → TypedOperand → TypedOperand) (t j u k v l : TypedOperand) (r : Result TypedOperand TypeFault)
    → Checks (Ok t) (first ps) j → Checks (Ok u) (first qs) k → Checks (Ok v) (first rs) l → Checks r (least (owns t u v)) (outcome t u v)
    → Checks r (first (node (ps ++ qs ++ rs) (owns j k l))) (outcome j k l)
three_here ps qs rs owns outcome t j u k v l r n m p x =
    two_here (ps ++ qs) rs (owns j) (outcome j) u k v l r (neither_of ps qs n.0 m.0, m.1) p (subst (λ z. Checks r (least (owns z u v)) (outcome z u v)) n.1 x)

-- and the fault that is found as its own

pub own_of_one : {A : Type 0} (ps : Places) (owns : A → List TypeFault) (t j : A) (o : Option TypeFault)
    → Checks (Ok t) (first ps) j → o ≡ least (owns t) → o ≡ first (node ps (owns j))
own_of_one ps owns t j o n h = h ∙ ap (λ z. least (owns z)) n.1 ∙ sym (own_fault ps (owns j) n.0)

pub own_of_two : (ps qs : Places) (owns : TypedOperand → TypedOperand → List TypeFault) (t j u k : TypedOperand) (o : Option TypeFault)
    → Checks (Ok t) (first ps) j → Checks (Ok u) (first qs) k → o ≡ least (owns t u) → o ≡ first (node (ps ++ qs) (owns j k))
own_of_two ps qs owns t j u k o n m h =
    h ∙ ap (λ z. least (owns z u)) n.1 ∙ ap (λ z. least (owns j z)) m.1 ∙ sym (own_fault (ps ++ qs) (owns j k) (neither_of ps qs n.0 m.0))

-- the fault that `?` hands on is the one that it met
pub fault_handed_on : {A : Type 0} (r : Result A TypeFault) (f : TypeFault) (o : Option TypeFault) (wanted : A)
    → (y : TypeFault) × (r ≡ Err y) × (y ≡ f) → o ≡ Some f → Checks r o wanted
fault_handed_on r f o wanted h x = subst (λ z. Checks z o wanted) (sym h.1) (subst (λ y. o ≡ Some y) (sym h.2) x)
