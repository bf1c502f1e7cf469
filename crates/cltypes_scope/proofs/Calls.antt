-- What the checker's steps say of a call's places.
use Rattle.std.proofs.Common.{◌≡◌, ℕ, ◌++◌, Option, Some, Result, Ok, sym, ap, ◌∙◌}
use Rattle.clmodel.specs.declared.tree.VariableType.{VariableType}
use Rattle.clmodel.specs.declared.type_fault.TypeFault.{TypeFault}
use Rattle.clmodel.specs.Tree.{Terms}
use Rattle.clmodel.specs.Typing.Context.{Context, Meaning, meaning}
use Rattle.clmodel.specs.Typing.Least.{lesser, least, first, node}
use Rattle.clmodel.specs.Typing.Rules.{count}
use Rattle.clmodel.specs.Typing.Faults.{Spot, callee_faults, wanted, first_kind, call_kind, arguments_faults, inside_call, barrier_faults, call_faults, terms_faults}
use Rattle.cltypes_scope.specs.declared.faults.TypedOperand.{TypedOperand}
use Rattle.cltypes_scope.specs.declared.faults.Arguments.{Arguments}
use Rattle.cltypes_scope.specs.Answers.{Checks}
use Rattle.cltypes_scope.specs.Fenced.{AreAlike}
use Rattle.cltypes_scope.specs.Views.{arguments_of}
use Rattle.cltypes_scope.proofs.Least.{least_append}
use Rattle.cltypes_scope.proofs.Follows.{inside, own_fault, checks_as, operand}
use Rattle.cltypes_scope.proofs.Fenced.{call_first, terms_same, arguments_same}

-- a call's own faults, where its arguments have none inside
pub own_call : (c : Context) (spot : Spot) (es : Terms) (a n : ℕ) (m : Meaning) (x : ℕ) (given : Arguments) (flags own : Option TypeFault)
    → Checks (Ok given) (first (terms_faults (inside_call m c) es)) (arguments_of (inside_call m c) m es) → m ≡ meaning c x → n ≡ count es
    → flags ≡ least (barrier_faults m es) → own ≡ lesser (lesser (least (callee_faults spot m a n)) given.fault) flags → own ≡ least (call_faults c spot (meaning c x) a es)
own_call c spot es a n m x given flags own k q s v u =
    let callee = callee_faults spot m a (count es) in
    let arguments = arguments_faults (inside_call m c) (wanted m) es in
    let fences = barrier_faults m es in
    u
    ∙ ap (λ z. lesser (lesser (least (callee_faults spot m a n)) z.fault) flags) k.1
    ∙ ap (λ z. lesser (lesser (least (callee_faults spot m a z)) (least arguments)) flags) s
    ∙ ap (lesser (lesser (least callee) (least arguments))) v
    ∙ ap (λ z. lesser z (least fences)) (sym (least_append callee arguments))
    ∙ sym (least_append (callee ++ arguments) fences)
    ∙ ap (λ z. least (call_faults c spot z a es)) q

pub call_here : (c d : Context) (spot : Spot) (es : Terms) (a x n : ℕ) (m : Meaning) (given : Arguments) (flags own : Option TypeFault) (j : VariableType) (r : Result TypedOperand TypeFault)
    → AreAlike d (inside_call m c) → Checks (Ok given) (first (terms_faults d es)) (arguments_of d m es) → m ≡ meaning c x → n ≡ count es
    → flags ≡ least (barrier_faults m es) → own ≡ lesser (lesser (least (callee_faults spot m a n)) given.fault) flags → j ≡ call_kind m given.first
    → Checks r own (operand j a)
    → Checks r (first (node (terms_faults (inside_call (meaning c x) c) es) (call_faults c spot (meaning c x) a es))) (operand (call_kind (meaning c x) (first_kind c es)) a)
call_here c d spot es a x n m given flags own j r h k q s f u v y =
    let l = arguments_same d (inside_call m c) m es (Ok given) h k in
    let none = ap (λ z. first (terms_faults (inside_call z c) es)) (sym q) ∙ l.0 in
    checks_as r own (first (node (terms_faults (inside_call (meaning c x) c) es) (call_faults c spot (meaning c x) a es))) j (call_kind (meaning c x) (first_kind c es)) a
    (own_call c spot es a n m x given flags own l q s f u ∙ sym (own_fault (terms_faults (inside_call (meaning c x) c) es) (call_faults c spot (meaning c x) a es) none))
    (v ∙ ap (λ z. call_kind m z.first) l.1 ∙ call_first m c es ∙ ap (λ z. call_kind z (first_kind c es)) q)
    y

-- a fault inside its arguments
pub inside_arguments : (c d : Context) (spot : Spot) (es : Terms) (a x : ℕ) (m : Meaning) (f : TypeFault) → AreAlike d (inside_call m c) → m ≡ meaning c x
    → first (terms_faults d es) ≡ Some f → first (node (terms_faults (inside_call (meaning c x) c) es) (call_faults c spot (meaning c x) a es)) ≡ Some f
inside_arguments c d spot es a x m f h q e =
    inside (terms_faults (inside_call (meaning c x) c) es) (call_faults c spot (meaning c x) a es) f
    (ap (λ z. first (terms_faults (inside_call z c) es)) (sym q) ∙ sym (ap first (terms_same d (inside_call m c) h es).faults) ∙ e)
