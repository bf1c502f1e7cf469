-- No fault in the parts of a list.
use Rattle.std.proofs.Common.{◌≡◌, ℕ, ◌≤◌, nat_le, Bool, true, false, not, ◌||◌, ◌&&◌, List, [], ◌∷◌, ◌++◌, None, refl, sym, ap, ◌∙◌, arith}
use Rattle.std.proofs.lemmas.Bool.Decides.{nat_tests}
use Rattle.clmodel.specs.declared.type_fault.TypeFault.{TypeFault}
use Rattle.clmodel.specs.Typing.Least.{Places, head, lesser, least, earlier, first, node}
use Rattle.clmodel.specs.Typing.Faults.{unless}
use Rattle.cltypes_scope.proofs.Least.{lesser_none, least_append, first_append, first_node, earlier_none, least_none}

pub none_split : (fs gs : List TypeFault) → least (fs ++ gs) ≡ None → (least fs ≡ None) × (least gs ≡ None)
none_split fs gs e = lesser_none (least fs) (least gs) (sym (least_append fs gs) ∙ e)

pub none_joined : (fs gs : List TypeFault) → least fs ≡ None → least gs ≡ None → least (fs ++ gs) ≡ None
none_joined fs gs p q = least_append fs gs ∙ ap (λ o. lesser o (least gs)) p ∙ q

pub places_split : (ps qs : Places) → first (ps ++ qs) ≡ None → (first ps ≡ None) × (first qs ≡ None)
places_split ps qs e = earlier_none (first ps) (first qs) (sym (first_append ps qs) ∙ e)

pub node_split : (ps : Places) (own : List TypeFault) → first (node ps own) ≡ None → (first ps ≡ None) × (least own ≡ None)
node_split ps own e = earlier_none (first ps) (least own) (sym (first_node ps own) ∙ e)

pub node_joined : (ps : Places) (own : List TypeFault) → first ps ≡ None → least own ≡ None → first (node ps own) ≡ None
node_joined ps own p q = first_node ps own ∙ ap (λ o. earlier o (least own)) p ∙ q

pub one_place : (fs : List TypeFault) → first (fs ∷ []) ≡ None → least fs ≡ None
one_place fs e = (earlier_none (least fs) None e).0

pub place_then : (fs : List TypeFault) (ps : Places) → least fs ≡ None → first ps ≡ None → first (fs ∷ ps) ≡ None
place_then fs ps p q = ap (λ o. earlier o (first ps)) p ∙ q

pub some_fault : (f : TypeFault) (fs : List TypeFault) → least (f ∷ fs) ≡ None → ⊥
some_fault f fs e = least_none (f ∷ fs) e f head

pub unless_none : (b : Bool) (f : TypeFault) → least (unless b f) ≡ None → b ≡ true
unless_none true f e = refl
unless_none false f e = absurd (some_fault f [] e)

pub unless_true : (b : Bool) (f : TypeFault) → b ≡ true → least (unless b f) ≡ None
unless_true true f e = refl
unless_true false f e = absurd (cc)

-- three tests, each with its fault

pub three_none : (a b d : Bool) (f g h : TypeFault) → least (unless a f ++ unless b g ++ unless d h) ≡ None → (a ≡ true) × (b ≡ true) × (d ≡ true)
three_none a b d f g h e =
    let r = none_split (unless a f ++ unless b g) (unless d h) e in
    let s = none_split (unless a f) (unless b g) r.0 in
    (unless_none a f s.0, unless_none b g s.1, unless_none d h r.1)

pub three_true : (a b d : Bool) (f g h : TypeFault) → a ≡ true → b ≡ true → d ≡ true → least (unless a f ++ unless b g ++ unless d h) ≡ None
three_true a b d f g h p q r = none_joined (unless a f ++ unless b g) (unless d h) (none_joined (unless a f) (unless b g) (unless_true a f p) (unless_true b g q)) (unless_true d h r)

-- tests joined

pub and_true : (a b : Bool) → a ≡ true → b ≡ true → (a && b) ≡ true
and_true a b p q = rw (p, q) refl

pub and_left : (a b : Bool) → (a && b) ≡ true → a ≡ true
and_left true b e = refl
and_left false b e = absurd (cc)

pub and_right : (a b : Bool) → (a && b) ≡ true → b ≡ true
and_right true b e = e
and_right false b e = absurd (cc)

pub implied : (a b : Bool) → (a || not b) ≡ true → b ≡ true → a ≡ true
implied true b e h = refl
implied false true e h = absurd (cc)
implied false false e h = absurd (cc)

pub implies : (a b : Bool) → (b ≡ true → a ≡ true) → (a || not b) ≡ true
implies true b h = refl
implies false true h = h refl
implies false false h = refl

pub same_le : (m n : ℕ) → nat_le m n ≡ true → m ≤ n
same_le m n e = grind (arith, nat_tests)

pub le_test : (m n : ℕ) → m ≤ n → nat_le m n ≡ true
le_test m n e = grind (arith, nat_tests)
