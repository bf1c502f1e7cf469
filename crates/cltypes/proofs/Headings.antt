-- What the checker's steps say of a function's places.
use Rattle.std.proofs.Common.{◌≡◌, ℕ, ◌+◌, ◌<◌, Bool, true, false, not, ◌&&◌, is_some, List, [], ◌∷◌, ◌++◌, length, take, drop, get_or, Option, None, Some, Result, Ok, Err, refl, sym, ap, ◌∙◌, subst}
use Rattle.std.specs.Prelude.{IfOk}
use Prim.Native.Nat.{zero, suc}
use Rattle.std.proofs.lemmas.List.{take_more}
use Rattle.limits.specs.declared.Limits.{Limits}
use Rattle.clmodel.specs.declared.tree.Parameter.{Parameter}
use Rattle.clnum.specs.declared.int_type.IntType.TheVariants.{Char}
use Rattle.clmodel.specs.declared.tree.VariableType.TheVariants as kind
use Rattle.clmodel.specs.declared.type_fault.TypeFault.{TypeFault}
use Rattle.clmodel.specs.declared.type_fault.TypeFault.TheVariants as fault
use Rattle.clmodel.specs.Tree.{Stmts, Func, Funcs}
use Rattle.clmodel.specs.declared.declaration.Declaration.TheVariants.{Single}
use Rattle.clmodel.specs.Typing.Context.{Context, Scope, Signature, signature_of, is_reserved, is_free, bind, after_all}
use Rattle.clmodel.specs.Typing.Least.{Places, least, earlier, first}
use Rattle.clmodel.specs.Typing.Faults.{unless, row_faults}
use Rattle.clmodel.specs.Typing.Functions.{signature, signatures, begin, with_params, size_of, params_faults, heading_faults, end_faults, function_faults}
use Rattle.cltypes_scope.specs.Names.{without_innermost, begun}
use Rattle.cltypes_scope.proofs.Follows.{inside_first, inside_second, neither_of}
use Rattle.cltypes.specs.Answers.{Ends}
use Rattle.cltypes.proofs.Bodies.{left_all}
use Rattle.cltypes.proofs.Splits.{unless_true}

-- the parameters, one after the other

with_one : (c : Context) (ps : List Parameter) (p : Parameter) → with_params c (ps ++ p ∷ []) ≡ bind (with_params c ps) p.name (Single p.kind)
with_one c [] p = refl
with_one c (q ∷ ps) p = with_one (bind c q.name (Single q.kind)) ps p

params_one : (c : Context) (ps : List Parameter) (p : Parameter)
    → params_faults c (ps ++ p ∷ []) ≡ params_faults c ps ++ unless (is_free (with_params c ps) p.name) (fault.Redeclared p.name_at) ∷ []
params_one c [] p = refl
params_one c (q ∷ ps) p = ap (λ z. unless (is_free c q.name) (fault.Redeclared q.name_at) ∷ z) (params_one (bind c q.name (Single q.kind)) ps p)

params_rest : (c : Context) (ps : List Parameter) (i : ℕ) → params_faults c ps ≡ params_faults c (take i ps) ++ params_faults (with_params c (take i ps)) (drop i ps)
params_rest c ps zero = refl
params_rest c [] (suc i) = refl
params_rest c (p ∷ ps) (suc i) = ap (λ z. unless (is_free c p.name) (fault.Redeclared p.name_at) ∷ z) (params_rest (bind c p.name (Single p.kind)) ps i)

-- what stands for a parameter past the end
abbrev pub no_parameter : Parameter
no_parameter = record { name_at = 0; name = 0; kind = kind.Integer Char }

next_parameter : (ps : List Parameter) (i : ℕ) (p : Parameter) → i < length ps → p ≡ get_or ps i no_parameter → take (i + 1) ps ≡ take i ps ++ p ∷ []
next_parameter ps i p h g = take_more ps i no_parameter h ∙ ap (λ q. take i ps ++ q ∷ []) (sym g)

unless_false : (b : Bool) (f : TypeFault) → b ≡ false → least (unless b f) ≡ Some f
unless_false b f e = rw e refl

first_one : (fs : List TypeFault) (o : Option TypeFault) → least fs ≡ o → first (fs ∷ []) ≡ o
first_one fs None e = ap (λ z. earlier z None) e
first_one fs (Some f) e = ap (λ z. earlier z None) e

before : (c : Context) (ps : List Parameter) (i : ℕ) (f : TypeFault) → first (params_faults c (take i ps)) ≡ Some f → first (params_faults c ps) ≡ Some f
before c ps i f h = ap first (params_rest c ps i) ∙ inside_first (params_faults c (take i ps)) (params_faults (with_params c (take i ps)) (drop i ps)) f h

pub parameter_taken : (c s : Context) (ps : List Parameter) (i : ℕ) (p : Parameter) → i < length ps → p ≡ get_or ps i no_parameter → s ≡ with_params c (take i ps)
    → first (params_faults c (take i ps)) ≡ None → is_free s p.name ≡ false → first (params_faults c ps) ≡ Some (fault.Redeclared p.name_at)
parameter_taken c s ps i p h g w n e =
    let own = unless (is_free (with_params c (take i ps)) p.name) (fault.Redeclared p.name_at) in
    before c ps (i + 1) (fault.Redeclared p.name_at)
    (ap (λ z. first (params_faults c z)) (next_parameter ps i p h g) ∙ ap first (params_one c (take i ps) p)
    ∙ inside_second (params_faults c (take i ps)) (own ∷ []) (fault.Redeclared p.name_at) n
    (first_one own (Some (fault.Redeclared p.name_at))
    (unless_false (is_free (with_params c (take i ps)) p.name) (fault.Redeclared p.name_at) (ap (λ z. is_free z p.name) (sym w) ∙ e))))

pub parameter_free : (c s : Context) (ps : List Parameter) (i : ℕ) (p : Parameter) → i < length ps → p ≡ get_or ps i no_parameter → s ≡ with_params c (take i ps)
    → first (params_faults c (take i ps)) ≡ None → is_free s p.name ≡ true → first (params_faults c (take (i + 1) ps)) ≡ None
parameter_free c s ps i p h g w n e =
    let own = unless (is_free (with_params c (take i ps)) p.name) (fault.Redeclared p.name_at) in
    ap (λ z. first (params_faults c z)) (next_parameter ps i p h g) ∙ ap first (params_one c (take i ps) p)
    ∙ neither_of (params_faults c (take i ps)) (own ∷ []) n
    (first_one own None (unless_true (is_free (with_params c (take i ps)) p.name) (fault.Redeclared p.name_at) (ap (λ z. is_free z p.name) (sym w) ∙ e)))

pub parameter_bound : (c s t : Context) (ps : List Parameter) (i : ℕ) (p : Parameter) → i < length ps → p ≡ get_or ps i no_parameter → s ≡ with_params c (take i ps)
    → t ≡ bind s p.name (Single p.kind) → t ≡ with_params c (take (i + 1) ps)
parameter_bound c s t ps i p h g w b =
    b ∙ ap (λ z. bind z p.name (Single p.kind)) w ∙ sym (with_one c (take i ps) p) ∙ ap (with_params c) (sym (next_parameter ps i p h g))

-- what a function's text leaves as it is

abbrev pub fixed : Context → Context
fixed c = record c { inner = []; outer = [] }

fixed_without : (c : Context) (scopes : List Scope) → fixed (without_innermost c scopes) ≡ fixed c
fixed_without c [] = refl
fixed_without c (scope ∷ scopes) = refl

params_fixed : (c : Context) (ps : List Parameter) → fixed (with_params c ps) ≡ fixed c
params_fixed c [] = refl
params_fixed c (p ∷ ps) = params_fixed (bind c p.name (Single p.kind)) ps

body_fixed : (c : Context) (ss : Stmts) → fixed (after_all c ss) ≡ fixed c
body_fixed c ss = let d = after_all c ss in sym (fixed_without d d.outer) ∙ ap fixed (left_all c ss) ∙ fixed_without c c.outer

pub function_fixed : (c s t u : Context) (x : ℕ) (g : Signature) (ps : List Parameter) (ss : Stmts) → s ≡ begun c x g → t ≡ with_params s ps → u ≡ after_all t ss → fixed u ≡ fixed (begun c x g)
function_fixed c s t u x g ps ss h k l = ap fixed l ∙ body_fixed t ss ∙ ap fixed k ∙ params_fixed s ps ∙ ap fixed h

-- a function

new_not : (a b : Bool) → (not a && not b) ≡ true → b ≡ false
new_not true b h = absurd (cc)
new_not false true h = absurd (cc)
new_not false false h = refl

none_of : (o : Option Signature) → is_some o ≡ false → o ≡ None
none_of None h = refl
none_of (Some s) h = absurd (cc)

-- a new name is none of the functions before
pub not_before : (before : List (ℕ × Signature)) (x : ℕ) → (not (is_reserved x) && not (is_some (signature_of before x))) ≡ true → signature_of before x ≡ None
not_before before x h = none_of (signature_of before x) (new_not (is_reserved x) (is_some (signature_of before x)) h)

pub begun_context : (c s : Context) (fs : Funcs) (f : Func) (g : Signature) → signatures fs ≡ c.before → g ≡ signature f → s ≡ begun c f.name g → s ≡ begin c.limits c.all fs f
begun_context c s fs f g n e h =
    h ∙ ap (begun c f.name) e
    ∙ ap (λ z. record { limits = c.limits; all = c.all; before = z; current = f.name; signature = signature f; in_loop = false; inner = []; outer = [] }) (sym n)

pub heading_of : (before : List (ℕ × Signature)) (fs : Funcs) (f : Func) (b : Bool) → signatures fs ≡ before → b ≡ (not (is_reserved f.name) && not (is_some (signature_of before f.name)))
    → heading_faults fs f ≡ unless b (fault.Redeclared f.name_at)
heading_of before fs f b n e =
    ap (λ z. unless (not (is_reserved f.name) && not (is_some (signature_of z f.name))) (fault.Redeclared f.name_at)) n ∙ ap (λ z. unless z (fault.Redeclared f.name_at)) (sym e)

-- the places behind the heading
abbrev pub behind : Limits → List ℕ → Funcs → Func → Places
behind limits all fs f = params_faults (begin limits all fs f) f.parameters ++ row_faults (with_params (begin limits all fs f) f.parameters) f.body ++ end_faults limits f (size_of fs f)

after_heading : (limits : Limits) (all : List ℕ) (fs : Funcs) (f : Func) (o : Option TypeFault) → heading_faults fs f ≡ unless true (fault.Redeclared f.name_at) → first (behind limits all fs f) ≡ o
    → first (function_faults limits all fs f) ≡ o
after_heading limits all fs f o e h = ap (λ z. earlier (least z) (first (behind limits all fs f))) e ∙ h

same_none : (ps qs : Places) (o : Option TypeFault) → first ps ≡ None → first qs ≡ o → first (ps ++ qs) ≡ o
same_none ps qs None h k = neither_of ps qs h k
same_none ps qs (Some f) h k = inside_second ps qs f h k

pub in_parameters : (limits : Limits) (all : List ℕ) (s : Context) (fs : Funcs) (f : Func) (g : TypeFault) → heading_faults fs f ≡ unless true (fault.Redeclared f.name_at) → s ≡ begin limits all fs f
    → first (params_faults s f.parameters) ≡ Some g → first (function_faults limits all fs f) ≡ Some g
in_parameters limits all s fs f g n w p =
    let params = params_faults (begin limits all fs f) f.parameters in
    let body = row_faults (with_params (begin limits all fs f) f.parameters) f.body in
    after_heading limits all fs f (Some g) n
    (inside_first (params ++ body) (end_faults limits f (size_of fs f)) g (inside_first params body g (ap (λ z. first (params_faults z f.parameters)) (sym w) ∙ p)))

pub in_body : (limits : Limits) (all : List ℕ) (s t : Context) (fs : Funcs) (f : Func) (g : TypeFault) → heading_faults fs f ≡ unless true (fault.Redeclared f.name_at) → s ≡ begin limits all fs f
    → first (params_faults s f.parameters) ≡ None → t ≡ with_params s f.parameters → first (row_faults t f.body) ≡ Some g → first (function_faults limits all fs f) ≡ Some g
in_body limits all s t fs f g n w p v q =
    let params = params_faults (begin limits all fs f) f.parameters in
    let body = row_faults (with_params (begin limits all fs f) f.parameters) f.body in
    after_heading limits all fs f (Some g) n
    (inside_first (params ++ body) (end_faults limits f (size_of fs f)) g
    (inside_second params body g (ap (λ z. first (params_faults z f.parameters)) (sym w) ∙ p)
    (ap (λ z. first (row_faults (with_params z f.parameters) f.body)) (sym w) ∙ ap (λ z. first (row_faults z f.body)) (sym v) ∙ q)))

pub in_end : (limits : Limits) (all : List ℕ) (s t : Context) (fs : Funcs) (f : Func) → heading_faults fs f ≡ unless true (fault.Redeclared f.name_at) → s ≡ begin limits all fs f
    → first (params_faults s f.parameters) ≡ None → t ≡ with_params s f.parameters → first (row_faults t f.body) ≡ None
    → first (function_faults limits all fs f) ≡ first (end_faults limits f (size_of fs f))
in_end limits all s t fs f n w p v q =
    let params = params_faults (begin limits all fs f) f.parameters in
    let body = row_faults (with_params (begin limits all fs f) f.parameters) f.body in
    let end = end_faults limits f (size_of fs f) in
    after_heading limits all fs f (first end) n
    (same_none (params ++ body) end (first end)
    (neither_of params body (ap (λ z. first (params_faults z f.parameters)) (sym w) ∙ p)
    (ap (λ z. first (row_faults (with_params z f.parameters) f.body)) (sym w) ∙ ap (λ z. first (row_faults z f.body)) (sym v) ∙ q)) refl)

-- an end with the same fault
pub ends_along : (r : Result (Unit {0}) TypeFault) (o p : Option TypeFault) → p ≡ o → Ends r o → Ends r p
ends_along r o p e h = subst (λ z. Ends r z) (sym e) h

-- what holds where another holds, where it succeeds
pub if_ok_by : {P Q : Type 0} (r : Result (Unit {0}) TypeFault) → (P → Q) → IfOk r (λ _. P) → IfOk r (λ _. Q)
if_ok_by (Ok a) g p = g p
if_ok_by (Err f) g p = tt
