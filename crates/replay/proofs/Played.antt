-- Events played one after another.
use Rattle.std.proofs.Common.{◌≡◌, ℕ, zero, suc, ◌+◌, ◌-◌, ◌<◌, Bool, true, false, Option, None, Some, List, [], ◌∷◌, ◌++◌, length, take, drop, get_or, replicate, refl, sym, ap, ◌∙◌, arith, append_assoc}
use Rattle.std.specs.Option.{option_and_then}
use Rattle.std.proofs.lemmas.Bool.{false≢true}
use Rattle.std.proofs.lemmas.Grind.{common_steps}
use Rattle.std.proofs.lemmas.List.{append-nil, take-append-drop}
use Rattle.clmodel.specs.Launch.{Launch}
use Rattle.clmodel.specs.Outcome.{events_of}
use Rattle.clmodel.specs.Run.{State, Events, after, step}
use Rattle.clmodel.specs.declared.schedule.Event.{Event}
use Rattle.clmodel.specs.declared.schedule.Event.TheVariants as event
use Rattle.clmodel.specs.declared.schedule.EventRun.{EventRun}
use Rattle.clmodel.specs.declared.schedule.EventRun.TheVariants as run
use Rattle.replay.specs.States.{IsPlayed}
use Rattle.replay.specs.Played.{ArePlayed}

after_append : (l : Launch) (s : State) (xs ys : Events) → after l s (xs ++ ys) ≡ option_and_then (λ n. after l n ys) (after l s xs)
after_append l s [] ys = refl
after_append l s (e ∷ xs) ys = go (step l s e) (λ n. after_append l n xs ys)
  where
    go :
        (o : Option State) → ((n : State) → after l n (xs ++ ys) ≡ option_and_then (λ m. after l m ys) (after l n xs))
        → option_and_then (λ n. after l n (xs ++ ys)) o ≡ option_and_then (λ m. after l m ys) (option_and_then (λ n. after l n xs) o)
    go None h = refl
    go (Some n) h = h n

-- events behind those that lead to a state
pub after_then : (l : Launch) (s t : State) (xs ys : Events) → after l s xs ≡ Some t → after l s (xs ++ ys) ≡ after l t ys
after_then l s t xs ys e = after_append l s xs ys ∙ ap (option_and_then (λ n. after l n ys)) e

-- where one isn't possible, nor are more
pub after_never : (l : Launch) (s : State) (xs ys : Events) → after l s xs ≡ None → after l s (xs ++ ys) ≡ None
after_never l s xs ys e = after_append l s xs ys ∙ ap (option_and_then (λ n. after l n ys)) e

-- a single event
pub one_played : (l : Launch) (s : State) (e : Event) (new : State → Type 0) (answer : Bool) → IsPlayed l s e new answer → ArePlayed l s (e ∷ []) new answer
one_played l s e new true (t, goes, at) = (t, ap (option_and_then (λ n. Some n)) goes, at)
one_played l s e new false (never, at) = ap (option_and_then (λ n. Some n)) never

-- events behind those that lead to a state
pub more_played :
    (l : Launch) (s t : State) (xs ys : Events) (new : State → Type 0) (answer : Bool) → after l s xs ≡ Some t → ArePlayed l t ys new answer → ArePlayed l s (xs ++ ys) new answer
more_played l s t xs ys new true e (end, goes, at) = (end, after_then l s t xs ys e ∙ goes, at)
more_played l s t xs ys new false e never = after_then l s t xs ys e ∙ never

-- ---- events of an item

replicate_split : {A : Type 0} (x : A) (i k n : ℕ) → n ≡ i + suc k → replicate n x ≡ replicate i x ++ x ∷ replicate k x
replicate_split x zero k n e = let f : n ≡ suc k = omega arith in ap (λ m. replicate m x) f
replicate_split x (suc i) k n e = let f : n ≡ suc (i + suc k) = omega arith in ap (λ m. replicate m x) f ∙ ap (λ xs. x ∷ xs) (replicate_split x i k (i + suc k) refl)

pub replicate_more : {A : Type 0} (x : A) (i : ℕ) → replicate (i + 1) x ≡ replicate i x ++ x ∷ []
replicate_more x i = replicate_split x i 0 (i + 1) (omega arith)

pub replicate_never :
    (l : Launch) (s t : State) (e : Event) (i n : ℕ) → i < n → after l s (replicate i e) ≡ Some t → after l t (e ∷ []) ≡ None → after l s (replicate n e) ≡ None
replicate_never l s t e i n below goes never =
    ap (after l s) (replicate_split e i (n - i - 1) n (omega (arith, below)) ∙ ap (λ xs. replicate i e ++ xs) split)
    ∙ after_then l s t (replicate i e) ((e ∷ []) ++ replicate (n - i - 1) e) goes ∙ after_never l t (e ∷ []) (replicate (n - i - 1) e) never
  where
    split : ◌≡◌ {A = Events} (e ∷ replicate (n - i - 1) e) ((e ∷ []) ++ replicate (n - i - 1) e)
    split = refl

-- ---- runs

events_append : (xs ys : List EventRun) → events_of (xs ++ ys) ≡ events_of xs ++ events_of ys
events_append [] ys = refl
events_append (run.Item item count ∷ xs) ys =
    ap (λ es. replicate count (event.Item item) ++ es) (events_append xs ys) ∙ sym (append_assoc (replicate count (event.Item item)) (events_of xs) (events_of ys))
events_append (run.Release group ∷ xs) ys = ap (λ es. event.Release group ∷ es) (events_append xs ys)

pub item_events : (item count : ℕ) → replicate count (event.Item item) ≡ events_of (run.Item item count ∷ [])
item_events item count = sym (append-nil (replicate count (event.Item item)))

pub events_more : (xs : List EventRun) (i : ℕ) (d : EventRun) → i < length xs → events_of (take (i + 1) xs) ≡ events_of (take i xs) ++ events_of (get_or xs i d ∷ [])
events_more xs i d below = ap events_of (split xs i d below) ∙ events_append (take i xs) (get_or xs i d ∷ [])
  where
    split : (xs : List EventRun) (i : ℕ) (d : EventRun) → i < length xs → take (i + 1) xs ≡ take i xs ++ get_or xs i d ∷ []
    split xs i d h = grind (arith, common_steps)

pub events_split :
    (xs : List EventRun) (i : ℕ) (d : EventRun) → i < length xs → events_of xs ≡ (events_of (take i xs) ++ events_of (get_or xs i d ∷ [])) ++ events_of (drop (i + 1) xs)
events_split xs i d below =
    ap events_of (sym (take-append-drop (i + 1) xs)) ∙ events_append (take (i + 1) xs) (drop (i + 1) xs) ∙ ap (λ es. es ++ events_of (drop (i + 1) xs)) (events_more xs i d below)

-- ---- events of an item, as a program plays them

pub item_never :
    (l : Launch) (s t : State) (e : Event) (i n : ℕ) (new : State → Type 0) (answer : Bool) → i < n → after l s (replicate i e) ≡ Some t → IsPlayed l t e new answer → answer ≡ false
    → after l s (replicate n e) ≡ None
item_never l s t e i n new true below goes played ended = absurd (false≢true (sym ended))
item_never l s t e i n new false below goes played ended = replicate_never l s t e i n below goes (one_played l t e new false played)

pub item_more :
    (l : Launch) (s t : State) (e : Event) (i : ℕ) (new : State → Type 0) (answer : Bool) → after l s (replicate i e) ≡ Some t → IsPlayed l t e new answer → answer ≡ true
    → (now : State) × (after l s (replicate (i + 1) e) ≡ Some now) × new now
item_more l s t e i new false goes played all = absurd (false≢true all)
item_more l s t e i new true goes played all =
    let r = more_played l s t (replicate i e) (e ∷ []) new true goes (one_played l t e new true played) in (r.0, ap (after l s) (replicate_more e i) ∙ r.1, r.2)

-- ---- runs, as a program plays them

pub run_never :
    (l : Launch) (s t : State) (xs : List EventRun) (i : ℕ) (d : EventRun) (new : State → Type 0) (answer : Bool) → i < length xs → after l s (events_of (take i xs)) ≡ Some t
    → ArePlayed l t (events_of (get_or xs i d ∷ [])) new answer → answer ≡ false → after l s (events_of xs) ≡ None
run_never l s t xs i d new true below goes played ended = absurd (false≢true (sym ended))
run_never l s t xs i d new false below goes never ended =
    ap (after l s) (events_split xs i d below)
    ∙ after_never l s (events_of (take i xs) ++ events_of (get_or xs i d ∷ [])) (events_of (drop (i + 1) xs))
    (after_then l s t (events_of (take i xs)) (events_of (get_or xs i d ∷ [])) goes ∙ never)

pub run_more :
    (l : Launch) (s t : State) (xs : List EventRun) (i : ℕ) (d : EventRun) (new : State → Type 0) (answer : Bool) → i < length xs → after l s (events_of (take i xs)) ≡ Some t
    → ArePlayed l t (events_of (get_or xs i d ∷ [])) new answer → answer ≡ true → (now : State) × (after l s (events_of (take (i + 1) xs)) ≡ Some now) × new now
run_more l s t xs i d new false below goes played all = absurd (false≢true all)
run_more l s t xs i d new true below goes played all =
    let r = more_played l s t (events_of (take i xs)) (events_of (get_or xs i d ∷ [])) new true goes played in (r.0, ap (after l s) (events_more xs i d below) ∙ r.1, r.2)
