-- What is known of helpers where they are called, and that something holds of the code of each call where it holds of
-- each function's code.
use Rattle.std.proofs.Common.{◌≡◌, ℕ, ◌++◌, Bool, true, false, not, nat_eq, Option, None, Some, is_some, List, [], ◌∷◌, cond, length, refl, ap, ap₂, sym, subst, ◌∙◌, eqb-true}
use Rattle.std.specs.Map.{lookup}
use Rattle.std.proofs.lemmas.Bool.{and_parts, not-true, ltb-false}
use Rattle.std.proofs.lemmas.Option.{same_Some, slice_get_past}
use Rattle.clnum.specs.declared.int_type.IntType.{IntType}
use Rattle.clmodel.specs.Barrier.{is_barrier, barrier_in}
use Rattle.clmodel.specs.BuiltIns.{predefined, meanings, built_in, function_in}
use Rattle.clmodel.specs.Next.{helper_or, helper_call, sites_in}
use Rattle.clmodel.specs.Tree as tree
use Rattle.clmodel.specs.Tree.{Terms, Func, Funcs, NoFunc, ThenFunc}
use Rattle.clmodel.specs.Typing.Context.{Context, Signature, signature_of, is_reserved}
use Rattle.clmodel.specs.Typing.Functions.{signature, signatures, begin, with_params, is_new, size_of, IsTypedFunction, AreTypedFunctions}
use Rattle.clmodel.specs.Typing.Rules.{CallsHelper}
use Rattle.clmodel.specs.Typing.Sizes.{Size, size_in, or_nothing, sizes_of}
use Rattle.limits.specs.declared.Limits.{Limits}
use Rattle.clmodel.specs.declared.tree.VariableType.{VariableType}
use Rattle.regcode.specs.declared.instruction.Instruction.{Instruction}
use Rattle.lower_expr.specs.Scope.{Scope, free_level}
use Rattle.lower_expr.specs.Expressions.{registers_for, terms_code}
use Rattle.lower_code.specs.Code.{Calls, pass_code, body_code, call_code, result_in, needed_code, right_code, call_only_statement}
use Rattle.lower.specs.Accepted.{Distinct}
use Rattle.lower_code.proofs.Looking.{look_left, look_last}
use Rattle.lower.proofs.Scoped.{callable_is, with_params_before}

-- What is known of a helper: its name is that of no other function, it gives what it says, and Q holds of the code of
-- its calls, by the types of its parameters, the registers of the arguments, and the level.
pub record Called (Q : List VariableType → List ℕ → ℕ → List Instruction → Type 0) (calls : Calls) (results : ℕ → Option IntType) (x : ℕ) (s : Signature) : Type 0 where
  pub result : results x ≡ s.result
  pub is_helper : built_in x ≡ None
  pub no_barrier : is_barrier x ≡ false
  pub code : (numbers : List ℕ) (level depth site : ℕ) → Q s.parameters numbers level (calls x numbers level depth site)

module _ (Q : ℕ → List VariableType → List ℕ → ℕ → List Instruction → Type 0) (calls : Calls) (results : ℕ → Option IntType) where
  -- the helpers of a context are known
  abbrev pub AreKnown : Context → Type 0
  AreKnown c = (x : ℕ) (s : Signature) → signature_of c.before x ≡ Some s → Called (Q x) calls results x s

  pub known_as : (c d : Context) → d.before ≡ c.before → AreKnown c → AreKnown d
  known_as c d e known x s is = known x s (subst (λ b. signature_of b x ≡ Some s) e is)

  -- a helper that is called
  pub helper_of : (c : Context) → AreKnown c → (x : ℕ) (es : Terms) (s : Signature) → CallsHelper c x es s → Called (Q x) calls results x s
  helper_of c known x es s call = known x s (callable_is c x s call.meaning)

  module _ (inside : ℕ → ℕ) (result : Option IntType) where
    -- its call as a right side
    pub right_is_call : (c : Context) → AreKnown c → (scope : Scope) (a x : ℕ) (es : Terms) (s : Signature) → CallsHelper c x es s → (level depth site : ℕ)
        → right_code calls results inside result scope level (helper_call (tree.Call a x es)) (tree.Call a x es) depth site
        ≡ terms_code scope level es ++ (calls x (registers_for scope level es) level depth site ++ needed_code (results x))
    right_is_call c known scope a x es s call level depth site =
        ap (λ f. right_code calls results inside result scope level (helper_or f (record { name = x; arguments = es })) (tree.Call a x es) depth site) (helper_of c known x es s call).is_helper

    -- its call as a statement
    pub statement_is_call : (c : Context) → AreKnown c → (scope : Scope) (x : ℕ) (es : Terms) (s : Signature) → CallsHelper c x es s → (depth site : ℕ)
        → call_only_statement calls results inside result scope (is_barrier x) (built_in x) x es depth site
        ≡ terms_code scope (free_level scope) es ++ calls x (registers_for scope (free_level scope) es) (free_level scope) depth site
    statement_is_call c known scope x es s call depth site =
        let helper = helper_of c known x es s call in
        ap₂ (λ b f. call_only_statement calls results inside result scope b f x es depth site) helper.no_barrier helper.is_helper

none_of : {V : Type 0} (o : Option V) → not (is_some o) ≡ true → o ≡ None
none_of None e = refl
none_of (Some v) e = absurd (cc)

-- names that are free for functions are those of no built-in function, and of none of these
pub fresh : (fs : Funcs) (name : ℕ) → is_new fs name ≡ true → (built_in name ≡ None) × (is_barrier name ≡ false) × (signature_of (signatures fs) name ≡ None)
fresh fs name e =
    let parts = and_parts (not (is_reserved name)) (not (is_some (signature_of (signatures fs) name))) e in
    let none = slice_get_past (meanings predefined) name (ltb-false name (length predefined) (not-true (is_reserved name) parts.0)) in
    (ap function_in none, ap barrier_in none, none_of (signature_of (signatures fs) name) parts.1)

-- names that aren't among entries and one more
cond_none : {V : Type 0} (b : Bool) (v : V) (o : Option V) → cond b (Some v) o ≡ None → (b ≡ false) × (o ≡ None)
cond_none true v o e = absurd (cc)
cond_none false v o e = (refl, e)

pub none_behind : {V : Type 0} (test : ℕ → Bool) (entries : List (ℕ × V)) (y : ℕ) (v : V) → lookup test (entries ++ (y, v) ∷ []) ≡ None → (test y ≡ false) × (lookup test entries ≡ None)
none_behind test [] y v e = cond_none (test y) v None e
none_behind test (x ∷ entries) y v e =
    let here = cond_none (test x.0) x.1 (lookup test (entries ++ (y, v) ∷ [])) e in
    let rest = none_behind test entries y v here.1 in
    (rest.0, ap₂ (λ b o. cond b (Some x.1) o) here.0 rest.1)

-- sizes have the names that signatures have
pub sizes_none : (fs : Funcs) (test : ℕ → Bool) → lookup test (signatures fs) ≡ None → lookup test (sizes_of fs) ≡ None
sizes_none NoFunc test e = refl
sizes_none (ThenFunc fs f) test e =
    let apart = none_behind test (signatures fs) f.name (signature f) e in
    look_left test (sizes_of fs) f.name (size_of fs f) apart.0 ∙ sizes_none fs test apart.1

pub distinct : (limits : Limits) (all : List ℕ) (fs : Funcs) → AreTypedFunctions limits all fs → Distinct fs
distinct limits all NoFunc typed = tt
distinct limits all (ThenFunc fs f) typed = (distinct limits all fs typed.0, sizes_none fs (nat_eq f.name) (fresh fs f.name typed.1.name).2)

-- what holds by the size of the latest function where a name is its own, and by the size that the name had before it
-- where not, holds by the name's size
pub by_name : (P : Size → Bool → Type 0) (earlier : Funcs) (f : Func) → lookup (nat_eq f.name) (sizes_of earlier) ≡ None → (x : ℕ)
    → (nat_eq x f.name ≡ true → P (size_of earlier f) true) → (nat_eq x f.name ≡ false → P (size_in (sizes_of earlier) x) false) → P (size_in (sizes_of (ThenFunc earlier f)) x) (nat_eq x f.name)
by_name P earlier f new x last other = by_case (nat_eq x f.name) refl
  where
    by_case : (b : Bool) → nat_eq x f.name ≡ b → P (size_in (sizes_of (ThenFunc earlier f)) x) b
    by_case true e =
        let none : lookup (nat_eq x) (sizes_of earlier) ≡ None = ap (λ z. lookup (nat_eq z) (sizes_of earlier)) (eqb-true x f.name e) ∙ new in
        subst (λ s. P s true) (sym (ap or_nothing (look_last (nat_eq x) (sizes_of earlier) f.name (size_of earlier f) e none))) (last e)
    by_case false e = subst (λ s. P s false) (sym (ap or_nothing (look_left (nat_eq x) (sizes_of earlier) f.name (size_of earlier f) e))) (other e)

-- Q holds of the code of all calls, by the size of the function that is called, where it holds of each function's code
-- behind its parameters
module _ (Q : Size → List VariableType → List ℕ → ℕ → List Instruction → Type 0) (limits : Limits) (all : List ℕ) where
  abbrev pub KnownIn : Funcs → Context → Type 0
  KnownIn fs c = AreKnown (λ x. Q (size_in (sizes_of fs) x)) (call_code fs) (result_in fs) c

  within : (earlier : Funcs) (f : Func) → KnownIn earlier (begin limits all earlier f) → KnownIn earlier (with_params (begin limits all earlier f) f.parameters)
  within earlier f before =
      let start = begin limits all earlier f in
      known_as (λ x. Q (size_in (sizes_of earlier) x)) (call_code earlier) (result_in earlier) start (with_params start f.parameters) (with_params_before start f.parameters) before

  module _ (step : (earlier : Funcs) (f : Func) → IsTypedFunction limits all earlier f → KnownIn earlier (with_params (begin limits all earlier f) f.parameters) → (numbers : List ℕ) (level depth site : ℕ)
      → Q (size_of earlier f) (signature f).parameters numbers level (pass_code f.parameters numbers level ++ body_code (call_code earlier) (result_in earlier) (sites_in earlier) f level depth site)) where
    calls_known : (fs : Funcs) → AreTypedFunctions limits all fs → (x : ℕ) (s : Signature) → signature_of (signatures fs) x ≡ Some s → Called (Q (size_in (sizes_of fs) x)) (call_code fs) (result_in fs) x s
    calls_known NoFunc typed x s is = absurd (cc)
    calls_known (ThenFunc earlier f) typed x s is =
        let before : KnownIn earlier (begin limits all earlier f) = calls_known earlier typed.0 in
        let free = fresh earlier f.name typed.1.name in
        let code : List ℕ → ℕ → ℕ → ℕ → List Instruction =
        λ numbers level depth site. pass_code f.parameters numbers level ++ body_code (call_code earlier) (result_in earlier) (sites_in earlier) f level depth site in
        let r = by_name
        (λ z b. Called (Q z) (λ y numbers level depth site. elim b as (λ _. List Instruction) [ true ↦ code numbers level depth site | false ↦ call_code earlier y numbers level depth site ])
        (λ y. elim b as (λ _. Option IntType) [ true ↦ f.result | false ↦ result_in earlier y ]) x s)
        earlier f (sizes_none earlier (nat_eq f.name) free.2) x
        (λ e.
        let same : x ≡ f.name = eqb-true x f.name e in
        let none : signature_of (signatures earlier) x ≡ None = ap (signature_of (signatures earlier)) same ∙ free.2 in
        let its = same_Some (signature f) s (sym (look_last (nat_eq x) (signatures earlier) f.name (signature f) e none) ∙ is) in
        record {
          result = ap (λ t. t.result) its;
          is_helper = ap built_in same ∙ free.0;
          no_barrier = ap is_barrier same ∙ free.1;
          code = λ numbers level depth site.
              subst (λ t. Q (size_of earlier f) t.parameters numbers level (code numbers level depth site)) its (step earlier f typed.1 (within earlier f before) numbers level depth site);
        })
        (λ e. before x s (sym (look_left (nat_eq x) (signatures earlier) f.name (signature f) e) ∙ is)) in
        record { result = r.result; is_helper = r.is_helper; no_barrier = r.no_barrier; code = r.code }

    -- the calls in a function's body
    pub body_known : (earlier : Funcs) (f : Func) → AreTypedFunctions limits all earlier → KnownIn earlier (with_params (begin limits all earlier f) f.parameters)
    body_known earlier f typed = within earlier f (calls_known earlier typed)
