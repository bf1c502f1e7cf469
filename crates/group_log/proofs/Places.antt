-- Where an entry stands among progressions.
use Rattle.std.proofs.Common.{◌≡◌, ℕ, zero, suc, ◌+◌, ◌-◌, ◌<◌, ◌≤◌, ◌⊎◌, inl, inr, subst, List, [], ◌∷◌, ◌++◌, length, get_or, sym, ap, ◌∙◌, arith}
use Rattle.std.proofs.lemmas.Bool.{cases_lt}
use Rattle.std.proofs.lemmas.List.{get_or_append_left, get_or-append_right, length-append}
use Rattle.access_list.specs.declared.log.Entry.{Entry}
use Rattle.group_log.specs.Progressions.{entry_at, entries_of, entries_all, AreNext, AreProgressions}
use Rattle.group_log.specs.declared.progression.Progression.{Progression}
use Rattle.group_log.specs.declared.stride.EntryStride.{EntryStride}
use Rattle.group_log.proofs.Progressing.{length_to, get_to, all_push}

-- ---- where progressions begin

-- a progression begins where the one before ends
pub next_start : (at : ℕ) (progressions : List Progression) (end j : ℕ) (d : Progression) → AreNext at progressions end → suc j < length progressions → (get_or progressions (suc j) d).start ≡ (get_or progressions j d).start + (get_or progressions j d).count
next_start at [] end j d h b = absurd (omega (arith, b))
next_start at (l ∷ []) end j d h b = absurd (omega (arith, b))
next_start at (l ∷ m ∷ progressions) end zero d h b = h.1.0 ∙ ap (λ n. n + l.count) (sym h.0)
next_start at (l ∷ m ∷ progressions) end (suc j) d h b = next_start (at + l.count) (m ∷ progressions) end j d h.1 (omega (arith, b))

-- the last one ends at the end
pub last_end : (at : ℕ) (progressions : List Progression) (end j : ℕ) (d : Progression) → AreNext at progressions end → suc j ≡ length progressions → (get_or progressions j d).start + (get_or progressions j d).count ≡ end
last_end at [] end j d h b = absurd (omega (arith, b))
last_end at (l ∷ []) end zero d h b = ap (λ n. n + l.count) h.0 ∙ h.1
last_end at (l ∷ []) end (suc j) d h b = absurd (omega (arith, b))
last_end at (l ∷ m ∷ progressions) end zero d h b = absurd (omega (arith, b))
last_end at (l ∷ m ∷ progressions) end (suc j) d h b = last_end (at + l.count) (m ∷ progressions) end j d h.1 (omega (arith, b))

first_start : (at : ℕ) (progressions : List Progression) (end j : ℕ) (d : Progression) → AreNext at progressions end → j < length progressions → at ≤ (get_or progressions j d).start
first_start at [] end j d h b = absurd (omega (arith, b))
first_start at (l ∷ progressions) end zero d h b = omega (arith, h.0)
first_start at (l ∷ progressions) end (suc j) d h b = omega (arith, first_start (at + l.count) progressions end j d h.1 (omega (arith, b)))

-- a place before the next progression lies in this one
pub before_next :
    (progressions : List Progression) (end low high i : ℕ) (d : Progression) → AreNext 0 progressions end → i < end → low < high → high ≤ low + 1 → high ≤ length progressions
    → (high ≡ length progressions) ⊎ ((e : Progression) → i < (get_or progressions high e).start) → i < (get_or progressions low d).start + (get_or progressions low d).count
before_next progressions end low high i d next there a b within h = go h (cases_lt high (length progressions))
  where
    one : high ≡ suc low
    one = omega (arith, a, b)

    at_end : suc low ≡ length progressions → i < (get_or progressions low d).start + (get_or progressions low d).count
    at_end e = omega (arith, there, last_end 0 progressions end low d next e)

    go : (high ≡ length progressions) ⊎ ((e : Progression) → i < (get_or progressions high e).start) → (high < length progressions) ⊎ (length progressions ≤ high) → i < (get_or progressions low d).start + (get_or progressions low d).count
    go (inl e) _ = at_end (omega (arith, e, one))
    go (inr f) (inr o) = at_end (omega (arith, o, one, within))
    go (inr f) (inl l) =
        let g : i < (get_or progressions (suc low) d).start = subst (λ k. i < (get_or progressions k d).start) one (f d) in
        omega (arith, g, next_start 0 progressions end low d next (omega (arith, l, one)))

-- ---- how many entries there are

pub length_all : (heads : List Entry) (steps : List EntryStride) (at : ℕ) (progressions : List Progression) (end : ℕ) → AreNext at progressions end → length (entries_all heads steps progressions) + at ≡ end
length_all heads steps at [] end h = omega (arith, h)
length_all heads steps at (l ∷ progressions) end h =
    omega (arith, length-append (entries_of heads steps l) (entries_all heads steps progressions), length_to heads steps l.head l.period l.step l.count, length_all heads steps (at + l.count) progressions end h.1)

pub length_progressed : (heads : List Entry) (steps : List EntryStride) (closed : List Progression) (last : Progression) → AreProgressions heads steps closed last
    → length (entries_all heads steps (closed ++ last ∷ [])) ≡ last.start + last.count
length_progressed heads steps closed last l =
    ap length (all_push heads steps closed last)
    ∙ omega (arith, length-append (entries_all heads steps closed) (entries_of heads steps last), length_to heads steps last.head last.period last.step last.count, length_all heads steps 0 closed last.start l.next)

-- ---- an entry

-- an entry of one of the progressions
pub in_progression :
    (heads : List Entry) (steps : List EntryStride) (at : ℕ) (progressions : List Progression) (end j i : ℕ) (d : Progression) (e : Entry) → AreNext at progressions end → j < length progressions → (get_or progressions j d).start ≤ i
    → i < (get_or progressions j d).start + (get_or progressions j d).count
    → get_or (entries_all heads steps progressions) (i - at) e
    ≡ entry_at heads steps (get_or progressions j d).head (get_or progressions j d).period (get_or progressions j d).step (i - (get_or progressions j d).start)
in_progression heads steps at [] end j i d e h b lo hi = absurd (omega (arith, b))
in_progression heads steps at (l ∷ progressions) end zero i d e h b lo hi =
    let k : i - at < l.count = omega (arith, lo, hi, h.0) in
    get_or_append_left (entries_of heads steps l) (entries_all heads steps progressions) e (i - at) (omega (arith, k, length_to heads steps l.head l.period l.step l.count))
    ∙ get_to heads steps l.head l.period l.step l.count (i - at) e k
    ∙ ap (λ n. entry_at heads steps l.head l.period l.step (i - n)) (sym h.0)
in_progression heads steps at (l ∷ progressions) end (suc j) i d e h b lo hi =
    let from : at + l.count ≤ (get_or progressions j d).start = first_start (at + l.count) progressions end j d h.1 (omega (arith, b)) in
    get_or-append_right (entries_of heads steps l) (entries_all heads steps progressions) l.count (i - at) e (length_to heads steps l.head l.period l.step l.count) (omega (arith, from, lo))
    ∙ ap (λ n. get_or (entries_all heads steps progressions) n e) {x = i - at - l.count} {y = i - (at + l.count)} (omega arith)
    ∙ in_progression heads steps (at + l.count) progressions end j i d e h.1 (omega (arith, b)) lo hi

-- an entry of a closed progression
pub in_closed :
    (heads : List Entry) (steps : List EntryStride) (closed : List Progression) (last l : Progression) (j i : ℕ) (e : Entry) → AreProgressions heads steps closed last → j < length closed → l ≡ get_or closed j l → l.start ≤ i
    → i < l.start + l.count → i < last.start → get_or (entries_all heads steps (closed ++ last ∷ [])) i e ≡ entry_at heads steps l.head l.period l.step (i - l.start)
in_closed heads steps closed last l j i e in_progressions b is lo hi before =
    ap (λ z. get_or z i e) (all_push heads steps closed last)
    ∙ get_or_append_left (entries_all heads steps closed) (entries_of heads steps last) e i (omega (arith, before, length_all heads steps 0 closed last.start in_progressions.next))
    ∙ ap (λ n. get_or (entries_all heads steps closed) n e) {x = i} {y = i - 0} (omega arith)
    ∙ in_progression heads steps 0 closed last.start j i l e in_progressions.next b (omega (arith, lo, ap (λ (z : Progression). z.start) is)) (omega (arith, hi, ap (λ (z : Progression). z.start) is, ap (λ (z : Progression). z.count) is))
    ∙ ap (λ (z : Progression). entry_at heads steps z.head z.period z.step (i - z.start)) (sym is)

-- an entry of the last progression
pub in_open :
    (heads : List Entry) (steps : List EntryStride) (closed : List Progression) (last : Progression) (i : ℕ) (e : Entry) → AreProgressions heads steps closed last → last.start ≤ i → i < last.start + last.count
    → get_or (entries_all heads steps (closed ++ last ∷ [])) i e ≡ entry_at heads steps last.head last.period last.step (i - last.start)
in_open heads steps closed last i e in_progressions lo hi =
    let many = length_all heads steps 0 closed last.start in_progressions.next in
    ap (λ z. get_or z i e) (all_push heads steps closed last)
    ∙ get_or-append_right (entries_all heads steps closed) (entries_of heads steps last) last.start i e (omega (arith, many)) lo
    ∙ get_to heads steps last.head last.period last.step last.count (i - last.start) e (omega (arith, lo, hi))
