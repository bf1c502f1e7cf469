-- The last event of an item.
use Rattle.std.proofs.Common.{◌≡◌, ℕ, ◌+◌, ◌<◌, Bool, true, false, Option, None, Some, List, if◌then◌else◌, arith, refl, sym, ap, subst, below_more}
use Rattle.std.proofs.lemmas.Bool.{eqb-true, false≢true}
use Rattle.std.specs.Option.{IfSome, option_map_or}
use Rattle.std.specs.List.{slice_get}
use Rattle.clmodel.specs.declared.schedule.Event.{Event}
use Rattle.clmodel.specs.declared.schedule.Event.TheVariants as event
use Rattle.fault_play.specs.declared.marks.Mark.{Mark}
use Rattle.fault_play.specs.PlayedOut.{IsEventOf, IsLastEvent, acts_at, is_event_of}

last_before : (p : ℕ → Bool) (n : ℕ) (o : Option ℕ) → p n ≡ false → IsLastEvent p n o → IsLastEvent p (n + 1) o
last_before p n None h i = below_more (λ k. p k ≡ false) n i h
last_before p n (Some last) h i =
    (omega (arith, i.0), i.1, λ k a b. below_more (λ j. last < j → p j ≡ false) n (λ j x y. i.2 j y x) (λ _. h) k b a)

pub last_more : (p : ℕ → Bool) (n : ℕ) (b : Bool) (old new : Option ℕ) → b ≡ p n → new ≡ (if b then Some n else old) → IsLastEvent p n old → IsLastEvent p (n + 1) new
last_more p n true old new h e i = subst (IsLastEvent p (n + 1)) (sym e) (omega arith, sym h, λ k a b. absurd (omega arith))
last_more p n false old new h e i = subst (IsLastEvent p (n + 1)) (sym e) (last_before p n old (sym h) i)

event_is : (item : ℕ) (e : Event) → is_event_of item e ≡ true → e ≡ event.Item item
event_is item (event.Item other) h = ap event.Item (eqb-true other item h)
event_is item (event.Release group) h = absurd (false≢true h)

acting : (marks : List Mark) (item number : ℕ) → acts_at marks item number ≡ true → IsEventOf marks item number
acting marks item number h = at (slice_get marks number) refl h
  where
    at : (o : Option Mark) → slice_get marks number ≡ o → option_map_or (λ mark. is_event_of item mark.event) o false ≡ true → IsEventOf marks item number
    at None e h = absurd (false≢true h)
    at (Some mark) e h = record { mark = mark; at = e; is = event_is item mark.event h }

-- the last event of an item is one of its events
pub last_acts : (marks : List Mark) (item n : ℕ) (o : Option ℕ) → IsLastEvent (acts_at marks item) n o → IfSome o (IsEventOf marks item)
last_acts marks item n None i = tt
last_acts marks item n (Some last) i = acting marks item last i.1
