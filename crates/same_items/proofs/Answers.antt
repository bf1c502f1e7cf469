-- Runs of code that are alike, and what items make after like answers.
use Rattle.std.proofs.Common.{◌≡◌, ℕ, zero, suc, ◌+◌, Bool, Option, None, Some, List, [], ◌∷◌, length, slice_get, replicate, refl, sym, subst}
use Rattle.clmodel.specs.Next.{Continuation, finish, fail, ask, tick, walk, here_of}
use Rattle.clmodel.specs.Setup.{Setup, buffer_names}
use Rattle.clmodel.specs.declared.action.Answer.{Answer}
use Rattle.clmodel.specs.declared.operand.Operand.{Operand}
use Rattle.clmodel.specs.declared.setup.Range.{Range}
use Rattle.regcode.specs.Listing.{Listing}
use Rattle.regcode.specs.Machine.{State, ItemContext, entry_at, act, within, runs_from, acts_from, acts, at_start, given_of}
use Rattle.regcode.specs.declared.instruction.Instruction.{Instruction}
use Rattle.same_launches.specs.Alike.{AlikeElements, AlikeActions, HadAlike}
use Rattle.same_items.specs.Free.{CodeFreedom, AlikeValues}
use Rattle.same_items.specs.Flow.{Labels, AreLabels}
use Rattle.same_items.specs.Runs.{AlikeSetups, ItemsAreSame}
use Rattle.same_items.proofs.Values.{AlikeRuns}
use Rattle.same_items.proofs.Steps.{AlikeStates, does}

-- ---- trees of actions

-- what two trees that are alike make after like answers
walk_alike : (w : CodeFreedom) (run other : Continuation) (ticks : ℕ) (xs ys : List Answer) → AlikeRuns w run other → HadAlike w.bytes (λ zs. walk run ticks zs) xs ys
    → AlikeActions w.bytes (walk run ticks xs) (walk other ticks ys)
walk_alike w finish finish ticks xs ys h k = tt
walk_alike w (fail c) (fail d) ticks xs ys h k = h
walk_alike w (ask a f) (ask b g) zero xs ys h k = refl
walk_alike w (ask a f) (ask b g) (suc ticks) [] [] h k = h.0
walk_alike w (ask a f) (ask b g) (suc ticks) [] (y ∷ ys) h k = absurd k
walk_alike w (ask a f) (ask b g) (suc ticks) (x ∷ xs) [] h k = absurd k
walk_alike w (ask a f) (ask b g) (suc ticks) (x ∷ xs) (y ∷ ys) h k = walk_alike w (f x) (g y) ticks xs ys (h.1 x y k.0) k.1
walk_alike w (tick run) (tick other) zero xs ys h k = refl
walk_alike w (tick run) (tick other) (suc ticks) xs ys h k = walk_alike w run other ticks xs ys h k
walk_alike w _ _ ticks xs ys h k = absurd h

-- ---- code

module _ (w : CodeFreedom) (at : ℕ → Labels) (code : Listing) (fits : AreLabels w code.instructions at) (setup other : Setup) (alike : AlikeSetups w setup other) (item : ℕ) where
  abbrev here : ItemContext
  here = given_of code setup item

  -- the other launch is over the same range: its items have the same ids
  abbrev there : ItemContext
  there = record { here = here_of setup item; buffers = buffer_names other; arguments = other.arguments; registers = code.registers }

  stepped : (on goes after later : State → Continuation) (s t : State) (o : Option Instruction) → slice_get code.instructions s.place ≡ o → AlikeStates w (at s.place) s t
      → ((u v : State) → AlikeStates w (at u.place) u v → AlikeRuns w (on u) (goes v)) → ((u v : State) → AlikeStates w (at u.place) u v → AlikeRuns w (after u) (later v))
      → AlikeRuns w (act here o on after s) (act there o goes later t)
  stepped on goes after later s t None e same h k = tt
  stepped on goes after later s t (Some i) e same h k =
      does w at (here_of setup item) code.registers (buffer_names setup) (buffer_names other) setup.arguments other.arguments alike.arguments on goes after later s t same h k i (fits s.place i e)

  within_alike : (after later : State → Continuation) → ((u v : State) → AlikeStates w (at u.place) u v → AlikeRuns w (after u) (later v)) → (count : ℕ) (s t : State) → AlikeStates w (at s.place) s t
      → AlikeRuns w (within here code.instructions after count s) (within there code.instructions later count t)
  within_alike after later k zero s t same = tt
  within_alike after later k (suc count) s t same =
      subst (λ p. AlikeRuns w (act here (slice_get code.instructions s.place) (within here code.instructions after count) after s) (act there (slice_get code.instructions p) (within there code.instructions later count) later t)) same.place
      (stepped (within here code.instructions after count) (within there code.instructions later count) after later s t (slice_get code.instructions s.place) refl same
      (λ u v e. within_alike after later k count u v e) k)

  runs_alike : (ticks : ℕ) (s t : State) → AlikeStates w (at s.place) s t → AlikeRuns w (runs_from here code.instructions ticks s) (runs_from there code.instructions ticks t)
  runs_alike zero s t same = refl
  runs_alike (suc ticks) s t same =
      within_alike (runs_from here code.instructions ticks) (runs_from there code.instructions ticks) (λ u v e. runs_alike ticks u v e) (length code.instructions + 1) s t same

unset_alike_at : (w : CodeFreedom) (l : Labels) (count r : ℕ) → AlikeValues w (l r) (entry_at None (replicate count None) r) (entry_at None (replicate count None) r)
unset_alike_at w l count r = subst (λ z. AlikeValues w (l r) z z) (sym (none_at count r)) tt
  where
    none_at : (count r : ℕ) → entry_at {A = Option Operand} None (replicate count None) r ≡ None
    none_at zero r = refl
    none_at (suc count) zero = refl
    none_at (suc count) (suc r) = none_at count r

empty_alike_at : (b : Bool) (count a : ℕ) → AlikeElements b (entry_at [] (replicate count []) a) (entry_at [] (replicate count []) a)
empty_alike_at b count a = subst (λ z. AlikeElements b z z) (sym (empty_at count a)) tt
  where
    empty_at : (count a : ℕ) → entry_at {A = List (Option ℕ)} [] (replicate count []) a ≡ []
    empty_at zero a = refl
    empty_at (suc count) zero = refl
    empty_at (suc count) (suc a) = empty_at count a

start_alike : (w : CodeFreedom) (labels : Labels) (registers arrays : ℕ) → AlikeStates w labels (at_start registers arrays) (at_start registers arrays)
start_alike w labels registers arrays =
    record {
      place = refl;
      counters = refl;
      registers = λ r. unset_alike_at w labels registers r;
      arrays = λ a. empty_alike_at (w.arrays a) arrays a;
    }

pub items_are_same : ItemsAreSame
unfolding acts
items_are_same code w at setup other fits alike item xs ys had =
    moved other.range other.budget alike.range alike.budget
  where
    same_runs : (ticks : ℕ) → AlikeRuns w (runs_from (here w at code fits setup other alike item) code.instructions (suc ticks) (at_start (length code.registers) (length code.arrays)))
        (runs_from (there w at code fits setup other alike item) code.instructions (suc ticks) (at_start (length code.registers) (length code.arrays)))
    same_runs ticks = runs_alike w at code fits setup other alike item (suc ticks) _ _ (start_alike w (at 0) (length code.registers) (length code.arrays))

    start : State
    start = at_start (length code.registers) (length code.arrays)

    there_of : Range → ItemContext
    there_of range = record { here = record { range = range; item = item }; buffers = buffer_names other; arguments = other.arguments; registers = code.registers }

    moved : (range : Range) (budget : ℕ) → setup.range ≡ range → setup.budget ≡ budget
        → AlikeActions w.bytes (acts_from (given_of code setup item) code.instructions setup.budget start xs) (acts_from (there_of range) code.instructions budget start ys)
    moved range budget e f =
        subst (λ z. AlikeActions w.bytes (acts_from (given_of code setup item) code.instructions setup.budget start xs) (acts_from (there_of z) code.instructions budget start ys)) e
        (subst (λ z. AlikeActions w.bytes (acts_from (given_of code setup item) code.instructions setup.budget start xs) (acts_from (there_of setup.range) code.instructions z start ys)) f
        (walk_alike w _ _ setup.budget xs ys (same_runs setup.budget) had))
