-- The arguments of a call, one after the other.
use Rattle.std.proofs.Common.{◌≡◌, ℕ, ◌+◌, ◌<◌, List, [], ◌∷◌, length, map, take, drop, get_or, is_some, Option, None, Some, refl, sym, ap, ◌∙◌, arith}
use Rattle.std.proofs.lemmas.List.{length-take-le}
use Prim.Native.Nat.{zero, suc}
use Rattle.std.specs.List.{slice_get}
use Rattle.clmodel.specs.declared.tree.VariableType.{VariableType}
use Rattle.clmodel.specs.declared.tree.Expression.{Expression}
use Rattle.clmodel.specs.declared.type_fault.TypeFault.{TypeFault}
use Rattle.clmodel.specs.declared.type_fault.TypeFault.TheVariants as fault
use Rattle.clmodel.specs.Barrier.{fences_of}
use Rattle.clmodel.specs.Tree.{Term, Terms, NoTerm, ThenTerm, then_all, term, terms}
use Rattle.clmodel.specs.Typing.Context.{Context}
use Rattle.clmodel.specs.Typing.Least.{lesser, least, first}
use Rattle.clmodel.specs.Typing.Rules.{count}
use Rattle.clmodel.specs.Typing.Faults.{Want, last_kind, first_kind}
use Rattle.clmodel.specs.Typing.Faults.{unless, start, argument_faults, kind_of, arguments_faults, flags_faults, term_faults, terms_faults}
use Rattle.cltypes_scope.specs.declared.faults.TypedOperand.{TypedOperand}
use Rattle.cltypes_scope.specs.Views.{operand_of}
use Rattle.cltypes_scope.proofs.Least.{least_append}
use Rattle.cltypes_scope.proofs.Follows.{inside_first, inside_second, neither_of}
use Rattle.clmodel.proofs.Trees.{next_argument}
use Rattle.cltypes_scope.proofs.Views.{count_terms}

ahead : (c : Context) (ts : Terms) (es : List Expression) (f : TypeFault) → first (terms_faults c ts) ≡ Some f → first (terms_faults c (then_all ts (map term es))) ≡ Some f
ahead c ts [] f h = h
ahead c ts (e ∷ es) f h = ahead c (ThenTerm ts (term e)) es f (inside_first (terms_faults c ts) (term_faults c (term e)) f h)

then_rest : (ts : Terms) (es : List Expression) (i : ℕ) → then_all ts (map term es) ≡ then_all (then_all ts (map term (take i es))) (map term (drop i es))
then_rest ts es zero = refl
then_rest ts [] (suc i) = refl
then_rest ts (e ∷ es) (suc i) = then_rest (ThenTerm ts (term e)) es i

first_of_them : (c : Context) (es : List Expression) (i : ℕ) (f : TypeFault) → first (terms_faults c (terms (take i es))) ≡ Some f → first (terms_faults c (terms es)) ≡ Some f
first_of_them c es i f h = ap (λ ts. first (terms_faults c ts)) (then_rest NoTerm es i) ∙ ahead c (terms (take i es)) (drop i es) f h

pub argument_inside : (c : Context) (es : List Expression) (i : ℕ) (e : Expression) (f : TypeFault) → i < length es → e ≡ get_or es i e
    → first (terms_faults c (terms (take i es))) ≡ None → first (term_faults c (term e)) ≡ Some f → first (terms_faults c (terms es)) ≡ Some f
argument_inside c es i e f h g n s =
    first_of_them c es (i + 1) f
    (ap (λ ts. first (terms_faults c ts)) (next_argument es i e h g) ∙ inside_second (terms_faults c (terms (take i es))) (term_faults c (term e)) f n s)

pub arguments_inside : (c : Context) (es : List Expression) (i : ℕ) (e : Expression) → i < length es → e ≡ get_or es i e
    → first (terms_faults c (terms (take i es))) ≡ None → first (term_faults c (term e)) ≡ None → first (terms_faults c (terms (take (i + 1) es))) ≡ None
arguments_inside c es i e h g n s =
    ap (λ ts. first (terms_faults c ts)) (next_argument es i e h g) ∙ neither_of (terms_faults c (terms (take i es))) (term_faults c (term e)) n s

counted : (es : List Expression) (i : ℕ) → i < length es → count (terms (take i es)) ≡ i
counted es i h = count_terms (take i es) ∙ length-take-le i es (omega arith)

pub arguments_own : (c : Context) (ws : List Want) (es : List Expression) (i : ℕ) (e : Expression) (t : TypedOperand) (last : VariableType) (w : Option Want) (own one now : Option TypeFault)
    → i < length es → e ≡ get_or es i e → own ≡ least (arguments_faults c ws (terms (take i es))) → last ≡ last_kind c (terms (take i es)) → t ≡ operand_of c (term e)
    → w ≡ slice_get ws i → one ≡ least (argument_faults w last t.kind t.at) → now ≡ lesser own one → now ≡ least (arguments_faults c ws (terms (take (i + 1) es)))
arguments_own c ws es i e t last w own one now h g o l p r s n =
    let ts = terms (take i es) in
    n
    ∙ ap (λ z. lesser z one) o
    ∙ ap (λ z. lesser (least (arguments_faults c ws ts)) z)
    (s ∙ ap (λ z. least (argument_faults z last t.kind t.at)) (r ∙ ap (λ z. slice_get ws z) (sym (counted es i h)))
    ∙ ap (λ z. least (argument_faults (slice_get ws (count ts)) z t.kind t.at)) l ∙ ap (λ z. least (argument_faults (slice_get ws (count ts)) (last_kind c ts) z.kind z.at)) p)
    ∙ sym (least_append (arguments_faults c ws ts) (argument_faults (slice_get ws (count ts)) (last_kind c ts) (kind_of c (term e)) (start (term e))))
    ∙ ap (λ z. least (arguments_faults c ws z)) (sym (next_argument es i e h g))

pub arguments_last : (c : Context) (es : List Expression) (i : ℕ) (e : Expression) (t : TypedOperand) → i < length es → e ≡ get_or es i e → t ≡ operand_of c (term e)
    → t.kind ≡ last_kind c (terms (take (i + 1) es))
arguments_last c es i e t h g p = ap (λ z. z.kind) p ∙ ap (λ z. last_kind c z) (sym (next_argument es i e h g))

-- the type of the first of them, before the second and behind it

first_here : (c : Context) (ts : Terms) (e : Term) → count ts ≡ 0 → first_kind c (ThenTerm ts e) ≡ kind_of c e
first_here c NoTerm e h = refl
first_here c (ThenTerm ts d) e h = absurd (omega (arith, h))

first_stays : (c : Context) (ts : Terms) (e : Term) → (count ts ≡ 0 → ⊥) → first_kind c (ThenTerm ts e) ≡ first_kind c ts
first_stays c NoTerm e h = absurd (h refl)
first_stays c (ThenTerm ts d) e h = refl

pub arguments_begin : (c : Context) (es : List Expression) (i : ℕ) (e : Expression) (t : TypedOperand) → i < length es → e ≡ get_or es i e → t ≡ operand_of c (term e)
    → i ≡ 0 → t.kind ≡ first_kind c (terms (take (i + 1) es))
arguments_begin c es i e t h g p z =
    ap (λ z. z.kind) p ∙ sym (first_here c (terms (take i es)) (term e) (counted es i h ∙ z)) ∙ ap (λ z. first_kind c z) (sym (next_argument es i e h g))

pub arguments_keep : (c : Context) (es : List Expression) (i : ℕ) (e : Expression) (k : VariableType) → i < length es → e ≡ get_or es i e → k ≡ first_kind c (terms (take i es))
    → (i ≡ 0 → ⊥) → k ≡ first_kind c (terms (take (i + 1) es))
arguments_keep c es i e k h g p z =
    p ∙ sym (first_stays c (terms (take i es)) (term e) (λ n. z (sym (counted es i h) ∙ n))) ∙ ap (λ z. first_kind c z) (sym (next_argument es i e h g))

-- the flags of a barrier, one argument more
pub flags_more : (es : List Expression) (i : ℕ) (e : Expression) (own one now : Option TypeFault) → i < length es → e ≡ get_or es i e → own ≡ least (flags_faults (terms (take i es)))
    → one ≡ least (unless (is_some (fences_of (term e))) (fault.BadBarrierFlags (start (term e)))) → now ≡ lesser own one → now ≡ least (flags_faults (terms (take (i + 1) es)))
flags_more es i e own one now h g o s n =
    let before = flags_faults (terms (take i es)) in
    n ∙ ap (λ z. lesser z one) o ∙ ap (lesser (least before)) s
    ∙ sym (least_append before (unless (is_some (fences_of (term e))) (fault.BadBarrierFlags (start (term e)))))
    ∙ ap (λ z. least (flags_faults z)) (sym (next_argument es i e h g))
