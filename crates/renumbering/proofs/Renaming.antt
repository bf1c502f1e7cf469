-- Code whose registers are renamed acts as it did.
use Rattle.std.proofs.Common.{◌≡◌, ℕ, zero, suc, ◌+◌, ◌-◌, ◌<◌, ◌≤◌, ◌++◌, ◌⊎◌, inl, inr, Bool, true, false, if◌then◌else◌, Option, None, Some, List, [], ◌∷◌, length, take, map, replicate, slice_get, slice_index, refl, ap, sym, ◌∙◌, subst, arith}
use Rattle.std.proofs.lemmas.Bool.{cases_eq}
use Rattle.std.proofs.lemmas.List.{length-map, length-replicate}
use Rattle.std.proofs.lemmas.Option.{none-some, same_Some, slice_get-map, slice_get_within}
use Rattle.std.specs.Option.{option_map}
use Rattle.clmodel.specs.Next.{Continuation, finish, walk}
use Rattle.clmodel.specs.Setup.{Setup}
use Rattle.clmodel.specs.declared.operand.Operand.{Operand}
use Rattle.clmodel.specs.declared.operand.Operand.TheVariants.{Pointed}
use Rattle.regcode.specs.Listing.{Listing}
use Rattle.regcode.specs.Machine.{State, ItemContext, entry_at, with_entry, onward, with_put, with_array, with_turns, passed, read, act, within, runs_from, acts, at_start, given_of}
use Rattle.regcode.specs.Rules.{IsVerified, loops_at}
use Rattle.regcode.specs.Safety.{Suits, InTables, Below, sources}
use Rattle.regcode.specs.declared.instruction.FetchOperands.TheVariants as operands
use Rattle.regcode.specs.declared.instruction.Instruction.{Instruction}
use Rattle.regcode.specs.declared.instruction.Instruction.TheVariants as instruction
use Rattle.regcode.proofs.Agreement.{Alike, number_alike, pointing_alike, known_alike, test_alike, moved_alike, binary_operation_alike, given_value_alike, read_alike, write_alike, ask_alike, tick_alike, store_alike}
use Rattle.regcode.proofs.Registers.{item_put, item_kept}
use Rattle.regcode.proofs.SafetyLaws.{never_sticks}
use Rattle.renumbering.specs.Renamed.{renamed}
use Rattle.renumbering.specs.Same.{ActsAlike}

-- New code has the old instructions with their registers renamed. The registers that get a place in the new table get
-- places of their own, with their own entries.
pub record IsRenamed (rename : ℕ → ℕ) (old new : Listing) : Type 0 where
  pub instructions : new.instructions ≡ map (renamed rename) old.instructions
  pub entries : (r : ℕ) → rename r < length new.registers → slice_get new.registers (rename r) ≡ slice_get old.registers r
  pub distinct : (r other : ℕ) → rename r < length new.registers → rename r ≡ rename other → r ≡ other
  pub arrays : new.arrays ≡ old.arrays

-- past the end of a list of them, and in it
all_alike : {A : Type 0} (d : A) (count i : ℕ) → entry_at d (replicate count d) i ≡ d
all_alike d zero i = refl
all_alike d (suc count) zero = refl
all_alike d (suc count) (suc i) = all_alike d count i

-- All that an instruction of verified code names is in its tables.
pub tables_within : (code : Listing) → IsVerified code → ItemContext → (place : ℕ) (i : Instruction) → slice_get code.instructions place ≡ Some i → InTables code i
tables_within code ok given place i here =
    let step = (never_sticks code ok).next given s suits (λ _. finish) (λ _. finish) in
    subst (InTables code) (same_Some step.0 i (sym step.1 ∙ here)) step.2
  where
    s : State
    s =
        record {
          place = place;
          registers = record { values = replicate (length code.registers) None; arrays = replicate (length code.arrays) [] };
          counters = replicate (loops_at code place) 0;
        }

    suits : Suits code s
    suits =
        record {
          inside = slice_get_within code.instructions place i here;
          registers = length-replicate (length code.registers) None;
          arrays = length-replicate (length code.arrays) [];
          typed = λ r v e. absurd (none-some v (sym (all_alike None (length code.registers) r) ∙ e));
          room = λ a. subst (λ (xs : List (Option ℕ)). length xs ≤ slice_index code.arrays a) (sym (all_alike [] (length code.arrays) a)) (omega arith);
          counted = let long = length-replicate {A = ℕ} (loops_at code place) 0 in omega (arith, long);
        }

module _ (rename : ℕ → ℕ) (old new : Listing) (is : IsRenamed rename old new) (setup : Setup) (item : ℕ) where
  abbrev given : ItemContext
  given = given_of old setup item

  abbrev other : ItemContext
  other = given_of new setup item

  -- values of the new registers: those of the old ones
  record Same (values others : List (Option Operand)) : Type 0 where
    at : (r : ℕ) → rename r < length new.registers → entry_at None others (rename r) ≡ entry_at None values r

  abbrev with_values : State → List (Option Operand) → State
  with_values s others = record s { registers = record s.registers { values = others } }

  put_same : (values others : List (Option Operand)) (to : ℕ) (v : Option Operand) → Same values others → Same (with_entry None values to v) (with_entry None others (rename to) v)
  put_same values others to v same = record { at = λ r inside. go r inside (cases_eq r to) }
    where
      go : (r : ℕ) → rename r < length new.registers → (r ≡ to) ⊎ (r ≡ to → ⊥) → entry_at None (with_entry None others (rename to) v) (rename r) ≡ entry_at None (with_entry None values to v) r
      go r inside (inl e) =
          subst (λ (t : ℕ). entry_at None (with_entry None others (rename t) v) (rename r) ≡ entry_at None (with_entry None values t v) r) e
          (item_put None others (rename r) v ∙ sym (item_put None values r v))
      go r inside (inr e) =
          item_kept None others (rename to) v (rename r) (λ q. e (is.distinct r to inside (sym q))) ∙ same.at r inside ∙ sym (item_kept None values to v r (λ q. e (sym q)))

  module _ (ticks : ℕ) (on on' after after' : State → Continuation)
      (next : (t : State) (others : List (Option Operand)) → Same t.registers.values others → Alike ticks (on t) (on' (with_values t others)))
      (later : (k : ℕ) (t : State) (others : List (Option Operand)) → Same t.registers.values others → Alike k (after t) (after' (with_values t others)))
      (s : State) (others : List (Option Operand)) (same : Same s.registers.values others) where
    puts : (to : ℕ) (v : Option Operand) → Alike ticks (on (with_put s to v)) (on' (with_put (with_values s others) (rename to) v))
    puts to v = next (with_put s to v) (with_entry None others (rename to) v) (put_same s.registers.values others to v same)

    puts_later : (k to : ℕ) (v : Option Operand) → Alike k (after (with_put s to v)) (after' (with_put (with_values s others) (rename to) v))
    puts_later k to v = later k (with_put s to v) (with_entry None others (rename to) v) (put_same s.registers.values others to v same)

    reads : (r : ℕ) → rename r < length new.registers → (f g : Operand → Continuation) → ((v : Operand) → Alike ticks (f v) (g v))
        → Alike ticks (read given s r f) (read other (with_values s others) (rename r) g)
    reads r inside f g h = rw (is.entries r inside, same.at r inside) (known_alike ticks _ _ f g h)

    -- an instruction and the renamed one
    act_same : (i : Instruction) → Below (length new.registers) (sources (renamed rename i)) → Alike ticks (act given (Some i) on after s) (act other (Some (renamed rename i)) on' after' (with_values s others))
    act_same (instruction.Constant to value) b = puts to _
    act_same (instruction.Unset to) b = puts to None
    act_same (instruction.Move to from name) b = rw (same.at from b.0) (known_alike ticks name _ _ _ (λ v. puts to (Some v)))
    act_same (instruction.AssignConversion to from kind) b = reads from b.0 _ _ (λ v. puts to _)
    act_same (instruction.Convert to from kind) b = reads from b.0 _ _ (λ v. number_alike ticks v _ _ (λ n. puts to _))
    act_same (instruction.UsualConversion to from kind) b = reads from b.0 _ _ (λ v. number_alike ticks v _ _ (λ n. puts to _))
    act_same (instruction.Unary to operator operand) b = reads operand b.0 _ _ (λ v. number_alike ticks v _ _ (λ n. puts to _))
    act_same (instruction.Binary to operator left right) b =
        reads left b.0 _ _ (λ v. reads right b.1.0 _ _ (λ w.
        binary_operation_alike ticks operator v w (λ x. on (with_put s to (Some x))) (λ x. on' (with_put (with_values s others) (rename to) (Some x))) (λ x. puts to (Some x))))
    act_same (instruction.Builtin to function first None) b =
        reads first b.0 _ _ (λ v. number_alike ticks v _ _ (λ m.
        given_value_alike ticks _ (λ x. on (with_put s to (Some x))) (λ x. on' (with_put (with_values s others) (rename to) (Some x))) (λ x. puts to (Some x))))
    act_same (instruction.Builtin to function first (Some second)) b =
        reads first b.0 _ _ (λ v. reads second b.1.0 _ _ (λ w. number_alike ticks v _ _ (λ m. number_alike ticks w _ _ (λ n.
        given_value_alike ticks _ (λ x. on (with_put s to (Some x))) (λ x. on' (with_put (with_values s others) (rename to) (Some x))) (λ x. puts to (Some x))))))
    act_same (instruction.Dimensions to) b = puts to _
    act_same (instruction.Query to function dimension) b = reads dimension b.0 _ _ (λ d. puts to _)
    act_same (instruction.Argument to index kind) b = puts to _
    act_same (instruction.Local to number element) b = puts to _
    act_same (instruction.UnsetArray array count) b = next (with_array s array (replicate count None)) others same
    act_same (instruction.PrivateLoad to array index element name) b =
        reads index b.0 _ _ (λ i.
        read_alike ticks name element _ i (λ x. on (with_put s to (Some x))) (λ x. on' (with_put (with_values s others) (rename to) (Some x))) (λ x. puts to (Some x)))
    act_same (instruction.PrivateStore array index value element name) b =
        reads index b.0 _ _ (λ i. reads value b.1.0 _ _ (λ v.
        write_alike ticks name element _ i v (λ xs. on (with_array s array xs)) (λ xs. on' (with_array (with_values s others) array xs)) (λ xs. next (with_array s array xs) others same)))
    act_same (instruction.MovePointer to from) b = reads from b.0 _ _ (λ v. pointing_alike ticks v _ _ (λ q. puts to _))
    act_same (instruction.Offset to pointer index) b =
        reads pointer b.0 _ _ (λ p. reads index b.1.0 _ _ (λ i.
        moved_alike ticks p i (λ q. on (with_put s to (Some (Pointed q)))) (λ q. on' (with_put (with_values s others) (rename to) (Some (Pointed q)))) (λ q. puts to (Some (Pointed q)))))
    act_same (instruction.Load to pointer) b =
        reads pointer b.0 _ _ (λ p. pointing_alike ticks p _ _ (λ q. ask_alike ticks _ _ _ (λ t e a. puts_later t to _)))
    act_same (instruction.Store pointer value) b =
        reads pointer b.0 _ _ (λ p. reads value b.1.0 _ _ (λ v. pointing_alike ticks p _ _ (λ q. store_alike ticks q v _ _ (λ t e. later t (passed s) others same))))
    act_same (instruction.Update function pointer None) b =
        reads pointer b.0 _ _ (λ p. pointing_alike ticks p _ _ (λ q. ask_alike ticks _ _ _ (λ t e a. later t (passed s) others same)))
    act_same (instruction.Update function pointer (Some value)) b =
        reads pointer b.0 _ _ (λ p. reads value b.1.0 _ _ (λ v. pointing_alike ticks p _ _ (λ q. number_alike ticks v _ _ (λ n.
        ask_alike ticks _ _ _ (λ t e a. later t (passed s) others same)))))
    act_same (instruction.Fetch to function pointer operands.Alone) b =
        reads pointer b.0 _ _ (λ p. pointing_alike ticks p _ _ (λ q. ask_alike ticks _ _ _ (λ t e a. puts_later t to _)))
    act_same (instruction.Fetch to function pointer (operands.Number value)) b =
        reads pointer b.0 _ _ (λ p. reads value b.1.0 _ _ (λ v. pointing_alike ticks p _ _ (λ q. number_alike ticks v _ _ (λ n.
        ask_alike ticks _ _ _ (λ t e a. puts_later t to _)))))
    act_same (instruction.Fetch to function pointer (operands.Pair expected value)) b =
        reads pointer b.0 _ _ (λ p. reads expected b.1.0 _ _ (λ c. reads value b.1.1.0 _ _ (λ v. pointing_alike ticks p _ _ (λ q. number_alike ticks c _ _ (λ m. number_alike ticks v _ _ (λ n.
        ask_alike ticks _ _ _ (λ t e a. puts_later t to _)))))))
    act_same (instruction.Barrier site depth fences) b = ask_alike ticks _ _ _ (λ t e a. later t (passed s) others same)
    act_same (instruction.Enter depth) b = next (with_turns s (take depth s.counters ++ 0 ∷ [])) others same
    act_same (instruction.Turn depth) b = tick_alike ticks _ _ (λ t e. later t (with_turns s (take depth s.counters ++ suc (slice_index s.counters depth) ∷ [])) others same)
    act_same (instruction.Jump by) b = next (onward s by) others same
    act_same (instruction.JumpIfZero register by) b = reads register b.0 _ _ (λ v. test_alike ticks v _ _ sides)
      where
        sides : (b : Bool) → Alike ticks (if b then on (passed s) else on (onward s by)) (if b then on' (passed (with_values s others)) else on' (onward (with_values s others) by))
        sides true = next (passed s) others same
        sides false = next (onward s by) others same
    act_same (instruction.Back by) b = next (record s { place = s.place - by }) others same
    act_same instruction.End b = λ answers. refl

  module _ (ok : IsVerified new) where
    within_same : (ticks : ℕ) (after after' : State → Continuation)
        → ((k : ℕ) (t : State) (others : List (Option Operand)) → Same t.registers.values others → Alike k (after t) (after' (with_values t others)))
        → (count : ℕ) (s : State) (others : List (Option Operand)) → Same s.registers.values others
        → Alike ticks (within given old.instructions after count s) (within other new.instructions after' count (with_values s others))
    within_same ticks after after' later zero s others same = λ answers. refl
    within_same ticks after after' later (suc count) s others same =
        there (within_same ticks after after' later count) (slice_get old.instructions s.place) refl
      where
        placed : (o : Option Instruction) → slice_get old.instructions s.place ≡ o → slice_get new.instructions s.place ≡ option_map (renamed rename) o
        placed o here = ap (λ code. slice_get code s.place) is.instructions ∙ slice_get-map (renamed rename) old.instructions s.place ∙ ap (option_map (renamed rename)) here

        does : Option Instruction → Continuation
        does o = act other o (within other new.instructions after' count) after' (with_values s others)

        there : ((t : State) (others : List (Option Operand)) → Same t.registers.values others
            → Alike ticks (within given old.instructions after count t) (within other new.instructions after' count (with_values t others)))
            → (o : Option Instruction) → slice_get old.instructions s.place ≡ o
            → Alike ticks (act given o (within given old.instructions after count) after s) (does (slice_get new.instructions s.place))
        there again None here = λ answers. sym (ap (λ o. walk (does o) ticks answers) (placed None here))
        there again (Some i) here =
            λ answers. act_same ticks _ _ after after' again later s others same i (tables_within new ok other s.place (renamed rename i) (placed (Some i) here)).reads answers
            ∙ sym (ap (λ o. walk (does o) ticks answers) (placed (Some i) here))

    as_long : length new.instructions ≡ length old.instructions
    as_long = ap length is.instructions ∙ length-map old.instructions (renamed rename)

    runs_same : (count ticks : ℕ) (s : State) (others : List (Option Operand)) → Same s.registers.values others
        → Alike ticks (runs_from given old.instructions count s) (runs_from other new.instructions count (with_values s others))
    runs_same zero ticks s others same = λ answers. refl
    runs_same (suc count) ticks s others same =
        subst (λ (n : ℕ). Alike ticks (within given old.instructions (runs_from given old.instructions count) (length old.instructions + 1) s)
        (within other new.instructions (runs_from other new.instructions count) (n + 1) (with_values s others))) (sym as_long)
        (within_same ticks _ _ (runs_same count) (length old.instructions + 1) s others same)

    starts_same : Same (replicate (length old.registers) None) (replicate (length new.registers) None)
    starts_same = record { at = λ r inside. all_alike None (length new.registers) (rename r) ∙ sym (all_alike None (length old.registers) r) }

-- Renamed code that is verified acts as the code that it is made from.
pub acts_same : (rename : ℕ → ℕ) (old new : Listing) → IsRenamed rename old new → IsVerified new → ActsAlike old new
unfolding acts
acts_same rename old new is ok setup item answers =
    ap (λ arrays. walk (runs_from (given_of new setup item) new.instructions (suc setup.budget) (at_start (length new.registers) (length arrays))) setup.budget answers) is.arrays
    ∙ sym (runs_same rename old new is setup item ok (suc setup.budget) setup.budget (at_start (length old.registers) (length old.arrays)) (replicate (length new.registers) None) (starts_same rename old new is setup item ok) answers)
