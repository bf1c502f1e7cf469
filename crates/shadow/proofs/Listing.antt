-- Short lists that stand for whole ones, entry by entry.
use Rattle.std.proofs.Common.{◌≡◌, ℕ, zero, suc, ◌+◌, ◌<◌, Bool, true, false, if◌then◌else◌, Some, List, [], ◌∷◌, ◌++◌, length, take, map, reverse, refl, sym, ap, ◌∙◌, subst, inl, inr, add-one, get_or}
use Rattle.std.specs.Prelude.{slice_get}
use Rattle.std.proofs.lemmas.List.{append_assoc, append-nil, map-append, reverse-append}
use Rattle.std.proofs.lemmas.Option.{slice_get-get_or}
use Rattle.clmodel.proofs.Steps.{none_some, some_inj}
use Rattle.clmodel.specs.declared.access.Access.{Access}
use Rattle.access_list.specs.declared.log.Entry.{Entry}
use Rattle.shadow.specs.Lasting.{Absorbed, StandsFor, EndsWith, StandsWith, TellsNews}
use Rattle.shadow.proofs.Absorbing.{onto}

abbrev accesses : List Entry → List Access
accesses entries = map (λ (e : Entry). e.access) (reverse entries)

accesses_front : (x : Entry) (xs : List Entry) → accesses (x ∷ xs) ≡ accesses xs ++ x.access ∷ []
accesses_front x xs = ap (map (λ (y : Entry). y.access)) (reverse-append (x ∷ []) xs) ∙ map-append (λ (y : Entry). y.access) (reverse xs) (x ∷ [])

pub onto_is : (xs : List Entry) (log : List Access) → onto xs log ≡ accesses xs ++ log
onto_is [] log = refl
onto_is (x ∷ xs) log =
    onto_is xs (x.access ∷ log) ∙ sym (append_assoc (accesses xs) (x.access ∷ []) log) ∙ ap (λ z. z ++ log) (sym (accesses_front x xs))

accesses_end : (xs : List Entry) (x : Entry) → accesses (xs ++ x ∷ []) ≡ x.access ∷ accesses xs
accesses_end xs x = ap (map (λ (y : Entry). y.access)) (reverse-append xs (x ∷ []))

pub take_next : (xs : List Entry) (i : ℕ) (x : Entry) → slice_get xs i ≡ Some x → take (suc i) xs ≡ take i xs ++ x ∷ []
take_next [] i x h = absurd (none_some x h)
take_next (y ∷ xs) zero x h = ap (λ z. z ∷ []) (some_inj y x h)
take_next (y ∷ xs) (suc i) x h = ap (λ z. y ∷ z) (take_next xs i x h)

pub take_one : (xs : List Entry) (i : ℕ) (x : Entry) → i < length xs → x ≡ get_or xs i x → take (i + 1) xs ≡ take i xs ++ x ∷ []
take_one xs i x b e = ap (λ n. take n xs) (add-one i) ∙ take_next xs i x (slice_get-get_or xs i x b ∙ ap Some (sym e))

pub accesses_one : (xs : List Entry) (i : ℕ) (x : Entry) → i < length xs → x ≡ get_or xs i x → x.access ∷ accesses (take i xs) ≡ accesses (take (i + 1) xs)
accesses_one xs i x b e = sym (ap accesses (take_one xs i x b e) ∙ accesses_end (take i xs) x)

-- an entry more at the end of both lists, or of the whole one
push_kept : (earlier : List Access) (short whole : List Entry) (x : Entry) → StandsFor earlier short whole → StandsFor earlier (short ++ x ∷ []) (whole ++ x ∷ [])
push_kept earlier short [] x h = inr ([], ap (λ z. z ++ x ∷ []) h, refl)
push_kept earlier short (y ∷ whole) x (inl h) = inl (h.0, push_kept (y.access ∷ earlier) short whole x h.1)
push_kept earlier short (y ∷ whole) x (inr (rest, e, h)) = inr (rest ++ x ∷ [], ap (λ z. z ++ x ∷ []) e, push_kept (y.access ∷ earlier) rest whole x h)

push_left : (earlier : List Access) (short whole : List Entry) (x : Entry) → StandsFor earlier short whole → Absorbed (onto whole earlier) x.access → StandsFor earlier short (whole ++ x ∷ [])
push_left earlier short [] x h a = inl (a, h)
push_left earlier short (y ∷ whole) x (inl h) a = inl (h.0, push_left (y.access ∷ earlier) short whole x h.1 a)
push_left earlier short (y ∷ whole) x (inr (rest, e, h)) a = inr (rest, e, push_left (y.access ∷ earlier) rest whole x h a)

onto_none : (xs : List Entry) → accesses xs ≡ onto xs []
onto_none xs = sym (onto_is xs [] ∙ append-nil (accesses xs))

end_stands : (last : Bool) (short front : List Entry) (x : Entry) → EndsWith last short front x → StandsFor [] short (front ++ x ∷ [])
end_stands true short front x (rest, e, h) = subst (λ z. StandsFor [] z (front ++ x ∷ [])) (sym e) (push_kept [] rest front x h)
end_stands false short front x (h, a) = push_left [] short front x h (subst (λ z. Absorbed z x.access) (onto_none front) a)

-- a short list that stands for a whole one leaves out what tells nothing new
pub stands : (last : Bool) (short whole : List Entry) → StandsWith last short whole → StandsFor [] short whole
stands last short whole (inl (e, f)) = subst (λ z. StandsFor [] short z) (sym f) e
stands last short whole (inr (front, x, e, h)) = subst (λ z. StandsFor [] short z) (sym e) (end_stands last short front x h)

-- one entry more, which is kept where it may tell something new
pub stands_more :
    (new last : Bool) (after short front whole : List Entry) (x : Entry) → StandsWith last short front → (new ≡ false → Absorbed (accesses front) x.access)
    → after ≡ (if new then short ++ x ∷ [] else short) → whole ≡ front ++ x ∷ [] → StandsWith new after whole
stands_more true last after short front whole x h a e f = inr (front, x, f, (short, e, stands last short front h))
stands_more false last after short front whole x h a e f = inr (front, x, f, (subst (λ z. StandsFor [] z front) (sym e) (stands last short front h), a refl))

-- the same for those that tell something new
news_kept :
    (earlier : List Access) (short whole : List Entry) (x : Entry) → TellsNews earlier short whole → (Absorbed (onto whole earlier) x.access → ⊥)
    → TellsNews earlier (short ++ x ∷ []) (whole ++ x ∷ [])
news_kept earlier short [] x h n = inr (n, [], ap (λ z. z ++ x ∷ []) h, refl)
news_kept earlier short (y ∷ whole) x (inl h) n = inl (h.0, news_kept (y.access ∷ earlier) short whole x h.1 n)
news_kept earlier short (y ∷ whole) x (inr (new, rest, e, h)) n = inr (new, rest ++ x ∷ [], ap (λ z. z ++ x ∷ []) e, news_kept (y.access ∷ earlier) rest whole x h n)

news_left : (earlier : List Access) (short whole : List Entry) (x : Entry) → TellsNews earlier short whole → Absorbed (onto whole earlier) x.access → TellsNews earlier short (whole ++ x ∷ [])
news_left earlier short [] x h a = inl (a, h)
news_left earlier short (y ∷ whole) x (inl h) a = inl (h.0, news_left (y.access ∷ earlier) short whole x h.1 a)
news_left earlier short (y ∷ whole) x (inr (new, rest, e, h)) a = inr (new, rest, e, news_left (y.access ∷ earlier) rest whole x h a)

-- one entry more, which is kept where it tells something new
pub news_more :
    (new : Bool) (after short front whole : List Entry) (x : Entry) → TellsNews [] short front → (new ≡ false → Absorbed (accesses front) x.access)
    → (new ≡ true → Absorbed (accesses front) x.access → ⊥) → after ≡ (if new then short ++ x ∷ [] else short) → whole ≡ front ++ x ∷ [] → TellsNews [] after whole
news_more true after short front whole x h a n e f =
    subst (λ z. TellsNews [] z whole) (sym e)
    (subst (TellsNews [] (short ++ x ∷ [])) (sym f) (news_kept [] short front x h (subst (λ z. Absorbed z x.access → ⊥) (onto_none front) (n refl))))
news_more false after short front whole x h a n e f =
    subst (λ z. TellsNews [] z whole) (sym e)
    (subst (TellsNews [] short) (sym f) (news_left [] short front x h (subst (λ z. Absorbed z x.access) (onto_none front) (a refl))))

whole_for : (earlier : List Access) (whole : List Entry) → StandsFor earlier whole whole
whole_for earlier [] = refl
whole_for earlier (x ∷ whole) = inr (whole, refl, whole_for (x.access ∷ earlier) whole)

split : (x : Entry) (xs : List Entry) → (front : List Entry) × (y : Entry) × (x ∷ xs ≡ front ++ y ∷ [])
split x [] = ([], x, refl)
split x (z ∷ xs) = let r = split z xs in (x ∷ r.0, r.1, ap (λ w. x ∷ w) r.2)

-- a whole list stands for itself
pub whole_stands : (whole : List Entry) → StandsWith true whole whole
whole_stands [] = inl (refl, refl)
whole_stands (x ∷ xs) = let r = split x xs in inr (r.0, r.1, r.2, (r.0, r.2, whole_for [] r.0))
