-- Laws of the least fault.
use Rattle.std.proofs.Common.{◌≡◌, ℕ, suc, ◌<◌, ◌⊎◌, inl, inr, Bool, true, false, cond, List, [], ◌∷◌, ◌++◌, Option, None, Some, get_or, refl, sym, ap, ◌∙◌, subst, arith}
use Rattle.std.proofs.lemmas.Bool.{cond-true, cond-false}
use Rattle.std.proofs.lemmas.Bool.Decides.{nat_tests}
use Rattle.clmodel.specs.declared.type_fault.TypeFault.{TypeFault}
use Rattle.clmodel.specs.declared.type_fault.TypeFault.TheVariants as fault
use Rattle.clmodel.specs.Typing.Least.{number, offset, Places, Among, head, later, Has, here, there, IsUpTo, IsLeast, is_up_to, lesser, least, earlier, first, where_none, node}

-- the order

pub up_true : (f g : TypeFault) → is_up_to f g ≡ true → IsUpTo f g
up_true f g e = grind (arith, nat_tests)

pub up_false : (f g : TypeFault) → is_up_to f g ≡ false → IsUpTo g f
up_false f g e = grind (arith, nat_tests)

pub up_same : (f : TypeFault) → IsUpTo f f
up_same f = inr (refl, omega arith)

pub up_over : (f g h : TypeFault) → IsUpTo f g → IsUpTo g h → IsUpTo f h
up_over f g h (inl p) (inl q) = inl (omega arith)
up_over f g h (inl p) (inr q) = inl (omega (arith, q.0))
up_over f g h (inr p) (inl q) = inl (omega (arith, p.0))
up_over f g h (inr p) (inr q) = inr (p.0 ∙ q.0, omega (arith, p.1, q.1))

-- the lesser of two

abbrev Chosen : TypeFault → TypeFault → Option TypeFault → Type 0
Chosen f g o = ((o ≡ Some f) × IsUpTo f g) ⊎ ((o ≡ Some g) × IsUpTo g f)

chosen : (f g : TypeFault) (b : Bool) → is_up_to f g ≡ b → Chosen f g (cond b (Some f) (Some g))
chosen f g true e = inl (refl, up_true f g e)
chosen f g false e = inr (refl, up_false f g e)

pub lesser_is : (f g : TypeFault) → Chosen f g (lesser (Some f) (Some g))
lesser_is f g = chosen f g (is_up_to f g) refl

pub lesser_first : (f g : TypeFault) → is_up_to f g ≡ true → lesser (Some f) (Some g) ≡ Some f
lesser_first f g e = cond-true (is_up_to f g) (Some f) (Some g) e

pub lesser_second : (f g : TypeFault) → is_up_to f g ≡ false → lesser (Some f) (Some g) ≡ Some g
lesser_second f g e = cond-false (is_up_to f g) (Some f) (Some g) e

lesser_nothing : (o : Option TypeFault) → lesser o None ≡ o
lesser_nothing None = refl
lesser_nothing (Some f) = refl

pub lesser_none : (o p : Option TypeFault) → lesser o p ≡ None → (o ≡ None) × (p ≡ None)
lesser_none None p e = (refl, e)
lesser_none (Some f) None e = absurd (cc)
lesser_none (Some f) (Some g) e = elim (lesser_is f g) [ inl h ↦ absurd (let x = h.0 in cc) | inr h ↦ absurd (let x = h.0 in cc) ]

both : (f g h : TypeFault) → is_up_to f g ≡ true → is_up_to g h ≡ true → is_up_to f h ≡ true
both f g h p q = grind (arith, nat_tests)

neither : (f g h : TypeFault) → is_up_to f g ≡ false → is_up_to g h ≡ false → is_up_to f h ≡ false
neither f g h p q = grind (arith, nat_tests)

three : (f g h : TypeFault) (b d : Bool) → is_up_to f g ≡ b → is_up_to g h ≡ d
    → lesser (lesser (Some f) (Some g)) (Some h) ≡ lesser (Some f) (lesser (Some g) (Some h))
three f g h true true p q =
    ap (λ o. lesser o (Some h)) (lesser_first f g p) ∙ lesser_first f h (both f g h p q) ∙ sym (lesser_first f g p) ∙ ap (λ o. lesser (Some f) o) (sym (lesser_first g h q))
three f g h true false p q =
    ap (λ o. lesser o (Some h)) (lesser_first f g p) ∙ ap (λ o. lesser (Some f) o) (sym (lesser_second g h q))
three f g h false true p q =
    ap (λ o. lesser o (Some h)) (lesser_second f g p) ∙ lesser_first g h q ∙ sym (lesser_second f g p) ∙ ap (λ o. lesser (Some f) o) (sym (lesser_first g h q))
three f g h false false p q =
    ap (λ o. lesser o (Some h)) (lesser_second f g p) ∙ lesser_second g h q ∙ sym (lesser_second f h (neither f g h p q)) ∙ ap (λ o. lesser (Some f) o) (sym (lesser_second g h q))

pub lesser_assoc : (o p q : Option TypeFault) → lesser (lesser o p) q ≡ lesser o (lesser p q)
lesser_assoc None p q = refl
lesser_assoc (Some f) None q = refl
lesser_assoc (Some f) (Some g) None = lesser_nothing (lesser (Some f) (Some g))
lesser_assoc (Some f) (Some g) (Some h) = three f g h (is_up_to f g) (is_up_to g h) refl refl

-- the least of a list

pub least_append : (fs gs : List TypeFault) → least (fs ++ gs) ≡ lesser (least fs) (least gs)
least_append [] gs = refl
least_append (f ∷ fs) gs = ap (λ o. lesser (Some f) o) (least_append fs gs) ∙ sym (lesser_assoc (Some f) (least fs) (least gs))

some_lesser : (f : TypeFault) (o : Option TypeFault) → lesser (Some f) o ≡ None → ⊥
some_lesser f o e = let p = lesser_none (Some f) o e in let q : Some f ≡ None = p.0 in cc

pub least_none : (fs : List TypeFault) → least fs ≡ None → (f : TypeFault) → Among f fs → ⊥
least_none [] e f a = elim a [ ]
least_none (g ∷ fs) e f a = some_lesser g (least fs) e

-- a fault of a list up to each of its faults
pub record IsLeastOf (f : TypeFault) (fs : List TypeFault) : Type 0 where
  pub among : Among f fs
  pub least : (g : TypeFault) → Among g fs → IsUpTo f g

alone : (f : TypeFault) (fs : List TypeFault) → least fs ≡ None → (g : TypeFault) → Among g (f ∷ fs) → IsUpTo f g
alone f fs e _ head = up_same f
alone f fs e g (later a) = absurd (least_none fs e g a)

under : (f g : TypeFault) (fs : List TypeFault) → IsLeastOf g fs → IsUpTo f g → (h : TypeFault) → Among h (f ∷ fs) → IsUpTo f h
under f g fs l u _ head = up_same f
under f g fs l u h (later a) = up_over f g h u (l.least h a)

over : (f g : TypeFault) (fs : List TypeFault) → IsLeastOf g fs → IsUpTo g f → (h : TypeFault) → Among h (f ∷ fs) → IsUpTo g h
over f g fs l u _ head = u
over f g fs l u h (later a) = l.least h a

same_some : (f g : TypeFault) → Some f ≡ Some g → f ≡ g
same_some f g e = cc

join_least : (f : TypeFault) (fs : List TypeFault) (o : Option TypeFault) → least fs ≡ o → ((g : TypeFault) → o ≡ Some g → IsLeastOf g fs)
    → (h : TypeFault) → lesser (Some f) o ≡ Some h → IsLeastOf h (f ∷ fs)
join_least f fs None e l h q =
    subst (λ g. IsLeastOf g (f ∷ fs)) (same_some f h q) (record { among = head; least = alone f fs e })
join_least f fs (Some g) e l h q =
    elim (lesser_is f g) [
      | inl p ↦ subst (λ k. IsLeastOf k (f ∷ fs)) (same_some f h (sym p.0 ∙ q)) (record { among = head; least = under f g fs (l g refl) p.1 })
      | inr p ↦ subst (λ k. IsLeastOf k (f ∷ fs)) (same_some g h (sym p.0 ∙ q)) (record { among = later (l g refl).among; least = over f g fs (l g refl) p.1 })
    ]

pub least_some : (fs : List TypeFault) (f : TypeFault) → least fs ≡ Some f → IsLeastOf f fs
least_some [] f e = absurd (cc)
least_some (g ∷ fs) f e = join_least g fs (least fs) refl (λ h q. least_some fs h q) f e

-- the first place that has faults

pub earlier_none : (o p : Option TypeFault) → earlier o p ≡ None → (o ≡ None) × (p ≡ None)
earlier_none None p e = (refl, e)
earlier_none (Some f) p e = absurd (cc)

pub earlier_assoc : (o p q : Option TypeFault) → earlier (earlier o p) q ≡ earlier o (earlier p q)
earlier_assoc None p q = refl
earlier_assoc (Some f) p q = refl

pub first_append : (ps qs : Places) → first (ps ++ qs) ≡ earlier (first ps) (first qs)
first_append [] qs = refl
first_append (fs ∷ ps) qs = ap (λ o. earlier (least fs) o) (first_append ps qs) ∙ sym (earlier_assoc (least fs) (first ps) (first qs))

earlier_nothing : (o : Option TypeFault) → earlier o None ≡ o
earlier_nothing None = refl
earlier_nothing (Some f) = refl

own_place : (o : Option TypeFault) (own : List TypeFault) → earlier o (first (where_none o own ∷ [])) ≡ earlier o (least own)
own_place None own = earlier_nothing (least own)
own_place (Some f) own = refl

pub first_node : (parts : Places) (own : List TypeFault) → first (node parts own) ≡ earlier (first parts) (least own)
first_node parts own = first_append parts (where_none (first parts) own ∷ []) ∙ own_place (first parts) own

pub first_none : (ps : Places) → first ps ≡ None → (i : ℕ) (f : TypeFault) → Has ps i f → ⊥
first_none [] e i f h = elim h [ ]
first_none (fs ∷ ps) e _ f (here a) = least_none fs ((earlier_none (least fs) (first ps) e).0) f a
first_none (fs ∷ ps) e _ f (there {i = i} h) = first_none ps ((earlier_none (least fs) (first ps) e).1) i f h

-- the first fault is the least one

after : (fs : List TypeFault) (ps : Places) → least fs ≡ None → (place : ℕ) (f : TypeFault) → IsLeast ps place f
    → (i : ℕ) (g : TypeFault) → Has (fs ∷ ps) i g → (suc place < i) ⊎ ((suc place ≡ i) × IsUpTo f g)
after fs ps e place f l _ g (here a) = absurd (least_none fs e g a)
after fs ps e place f l _ g (there {i = i} h) = elim (l.least i g h) [ inl p ↦ inl (omega arith) | inr p ↦ inr (ap suc p.0, p.1) ]

from_start : (fs : List TypeFault) (ps : Places) (f : TypeFault) → IsLeastOf f fs
    → (i : ℕ) (g : TypeFault) → Has (fs ∷ ps) i g → (0 < i) ⊎ ((0 ≡ i) × IsUpTo f g)
from_start fs ps f l _ g (here a) = inr (refl, l.least g a)
from_start fs ps f l _ g (there {i = i} h) = inl (omega arith)

found_at : (fs : List TypeFault) (ps : Places) (o : Option TypeFault) → least fs ≡ o
    → ((g : TypeFault) → first ps ≡ Some g → (place : ℕ) × IsLeast ps place g)
    → (f : TypeFault) → earlier o (first ps) ≡ Some f → (place : ℕ) × IsLeast (fs ∷ ps) place f
found_at fs ps None e rest f q =
    let r = rest f q in (suc r.0, record { has = there r.1.has; least = after fs ps e r.0 f r.1 })
found_at fs ps (Some h) e rest f q =
    let l = least_some fs f (e ∙ q) in (0, record { has = here l.among; least = from_start fs ps f l })

pub first_some : (ps : Places) (f : TypeFault) → first ps ≡ Some f → (place : ℕ) × IsLeast ps place f
first_some [] f e = absurd (cc)
first_some (fs ∷ ps) f e = found_at fs ps (least fs) refl (λ g q. first_some ps g q) f e

pub some_first : (ps : Places) (i : ℕ) (f : TypeFault) → Has ps i f → first ps ≡ None → ⊥
some_first ps i f h e = first_none ps e i f h

-- there is one least fault

-- (no fault has the number 9)
rebuilt : ℕ → ℕ → TypeFault
rebuilt n at =
    get_or
    (fault.OutOfMemory ∷
    fault.UnknownName at ∷
    fault.Redeclared at ∷
    fault.TypeMismatch at ∷
    fault.NotAssignable at ∷
    fault.Recursion at ∷
    fault.WrongArgumentCount at ∷
    fault.WrongSpace at ∷
    fault.BadBarrierFlags at ∷
    fault.OutOfMemory ∷
    fault.TooManyLoops at ∷
    fault.TooLarge at ∷
    fault.MissingReturn at ∷
    [])
    n
    fault.OutOfMemory

rebuilt_same : (f : TypeFault) → rebuilt (number f) (offset f) ≡ f
unfolding rebuilt
rebuilt_same (fault.UnknownName at) = refl
rebuilt_same (fault.Redeclared at) = refl
rebuilt_same (fault.TypeMismatch at) = refl
rebuilt_same (fault.NotAssignable at) = refl
rebuilt_same (fault.Recursion at) = refl
rebuilt_same (fault.WrongArgumentCount at) = refl
rebuilt_same (fault.WrongSpace at) = refl
rebuilt_same (fault.BadBarrierFlags at) = refl
rebuilt_same (fault.TooManyLoops at) = refl
rebuilt_same (fault.TooLarge at) = refl
rebuilt_same (fault.MissingReturn at) = refl
rebuilt_same fault.OutOfMemory = refl

same_fault : (f g : TypeFault) → number f ≡ number g → offset f ≡ offset g → f ≡ g
same_fault f g n o = sym (rebuilt_same f) ∙ ap (λ k. rebuilt k (offset f)) n ∙ ap (λ k. rebuilt (number g) k) o ∙ rebuilt_same g

same_both : (f g : TypeFault) → IsUpTo f g → IsUpTo g f → f ≡ g
same_both f g (inl p) (inl q) = absurd (omega arith)
same_both f g (inl p) (inr q) = absurd (omega (arith, q.0))
same_both f g (inr p) (inl q) = absurd (omega (arith, p.0))
same_both f g (inr p) (inr q) = same_fault f g p.0 (omega (arith, p.1, q.1))

pub one_least : (ps : Places) (i j : ℕ) (f g : TypeFault) → IsLeast ps i f → IsLeast ps j g → f ≡ g
one_least ps i j f g k l =
    elim (k.least j g l.has) [
      | inl p ↦ elim (l.least i f k.has) [ inl q ↦ absurd (omega arith) | inr q ↦ absurd (omega (arith, q.0)) ]
      | inr p ↦ elim (l.least i f k.has) [ inl q ↦ absurd (omega (arith, p.0)) | inr q ↦ same_both f g p.1 q.1 ]
    ]
