-- Renamed code keeps the rules, where each register that is named has a number.
use Rattle.std.proofs.Common.{◌≡◌, ℕ, zero, suc, ◌-◌, ◌<◌, ◌++◌, inl, inr, IsTrue, Option, None, Some, is_some, List, [], ◌∷◌, length, map, slice_get, refl, ap, sym, ◌∙◌, subst, arith}
use Rattle.std.proofs.lemmas.Bool.{false≢true}
use Rattle.std.proofs.lemmas.List.{length-map, map-append}
use Rattle.std.proofs.lemmas.Option.{none-some, same_Some, slice_get-map, slice_get_within, slice_get-get_or, get_or_from_slice_get}
use Rattle.std.specs.List.{All}
use Rattle.std.specs.Option.{option_map}
use Rattle.regcode.specs.Listing.{Listing}
use Rattle.regcode.specs.Machine.{entry_at}
use Rattle.regcode.specs.Rules.{IsVerified, IsFine, Fits, LeadsInside, MayGoOn, kind_at, is_turn}
use Rattle.regcode.specs.Safety.{InTables, Below, sources, targets}
use Rattle.regcode.specs.declared.instruction.FetchOperands.TheVariants as operands
use Rattle.regcode.specs.declared.instruction.Instruction.{Instruction}
use Rattle.regcode.specs.declared.instruction.Instruction.TheVariants as instruction
use Rattle.regcode.specs.declared.tables.Register.{Register}
use Rattle.renumbering.specs.Numbers.{number_or_greatest, number_of, IsNumbering, Among, Numbered}
use Rattle.renumbering.specs.Renamed.{renamed, registers_named, all_named}
use Rattle.renumbering.proofs.Coverage.{among_either, among_first, among_second}

-- the registers that renamed instructions name
names_renamed : (rename : ℕ → ℕ) (i : Instruction) → registers_named (renamed rename i) ≡ map rename (registers_named i)
names_renamed rename (instruction.Builtin to function first None) = refl
names_renamed rename (instruction.Builtin to function first (Some second)) = refl
names_renamed rename (instruction.Update function pointer None) = refl
names_renamed rename (instruction.Update function pointer (Some value)) = refl
names_renamed rename (instruction.Fetch to function pointer operands.Alone) = refl
names_renamed rename (instruction.Fetch to function pointer (operands.Number value)) = refl
names_renamed rename (instruction.Fetch to function pointer (operands.Pair expected value)) = refl
names_renamed rename _ = refl

pub all_renamed : (rename : ℕ → ℕ) (instructions : List Instruction) → all_named (map (renamed rename) instructions) ≡ map rename (all_named instructions)
all_renamed rename [] = refl
all_renamed rename (i ∷ instructions) =
    ap (λ rs. rs ++ all_named (map (renamed rename) instructions)) (names_renamed rename i)
    ∙ ap (λ rs. map rename (registers_named i) ++ rs) (all_renamed rename instructions)
    ∙ sym (map-append rename (registers_named i) (all_named instructions))

pub among_map : (rename : ℕ → ℕ) (r : ℕ) (rs : List ℕ) → Among r rs → Among (rename r) (map rename rs)
among_map rename r [] h = h
among_map rename r (q ∷ rs) (inl e) = inl (ap rename e)
among_map rename r (q ∷ rs) (inr h) = inr (among_map rename r rs h)

below_among : (count : ℕ) (rs : List ℕ) (r : ℕ) → Below count rs → Among r rs → r < count
below_among count [] r below h = absurd h
below_among count (q ∷ rs) r below (inl e) = let b = below.0 in omega (arith, b, e)
below_among count (q ∷ rs) r below (inr h) = below_among count rs r below.1 h

-- a register that an instruction names is in the table
pub named_within : (code : Listing) (i : Instruction) (r : ℕ) → InTables code i → Among r (registers_named i) → r < length code.registers
named_within code i r tables among =
    elim (among_either r (targets i) (sources i) among) [
      | inl written ↦ below_among (length code.registers) (targets i) r tables.writes written
      | inr read ↦ below_among (length code.registers) (sources i) r tables.reads read
    ]

-- one that an instruction of code names is named in code
pub named_at : (instructions : List Instruction) (place : ℕ) (i : Instruction) (r : ℕ) → slice_get instructions place ≡ Some i → Among r (registers_named i) → Among r (all_named instructions)
named_at [] place i r here among = absurd (none-some i here)
named_at (x ∷ instructions) zero i r here among = among_first r (registers_named x) (all_named instructions) (subst (λ (j : Instruction). Among r (registers_named j)) (sym (same_Some x i here)) among)
named_at (x ∷ instructions) (suc place) i r here among = among_second r (registers_named x) (all_named instructions) (named_at instructions place i r here among)

module _ (code : Listing) (news : List Register) (numbers : List (Option ℕ)) (is : IsNumbering code.registers news numbers) where
  abbrev rename : ℕ → ℕ
  rename r = number_of numbers r

  abbrev new : Listing
  new = record code { instructions = map (renamed (number_of numbers)) code.instructions; registers = news }

  entry_kept : (r : ℕ) → Numbered numbers r → slice_get news (number_of numbers r) ≡ slice_get code.registers r
  entry_kept r there = go (entry_at None numbers r) refl there
    where
      go : (o : Option ℕ) → entry_at None numbers r ≡ o → IsTrue (is_some o) → slice_get news (number_or_greatest o) ≡ slice_get code.registers r
      go (Some n) e h = is.entry r n e
      go None e h = absurd (false≢true h)

  placed : (r : ℕ) → Numbered numbers r → number_of numbers r < length news
  placed r there = go (entry_at None numbers r) refl there
    where
      go : (o : Option ℕ) → entry_at None numbers r ≡ o → IsTrue (is_some o) → number_or_greatest o < length news
      go (Some n) e h = is.below r n e
      go None e h = absurd (false≢true h)

  kind : (r : ℕ) → Numbered numbers r → kind_at new (number_of numbers r) ≡ kind_at code r
  kind r there = ap (option_map (λ register. register.kind)) (entry_kept r there)

  -- an instruction of which each register has a number
  fits_kept : (i : Instruction) → ((r : ℕ) → Among r (registers_named i) → Numbered numbers r) → Fits code i → Fits new (renamed (number_of numbers) i)
  fits_kept (instruction.Constant to value) at h = rw (kind to (at to (inl refl))) h
  fits_kept (instruction.Unset to) at h = placed to (at to (inl refl))
  fits_kept (instruction.Move to from name) at h = (rw (kind to (at to (inl refl)), kind from (at from (inr (inl refl)))) h.0, h.1)
  fits_kept (instruction.AssignConversion to from of) at h = rw (kind to (at to (inl refl)), kind from (at from (inr (inl refl)))) h
  fits_kept (instruction.Convert to from of) at h = rw (kind to (at to (inl refl)), kind from (at from (inr (inl refl)))) h
  fits_kept (instruction.UsualConversion to from other) at h = rw (kind to (at to (inl refl)), kind from (at from (inr (inl refl)))) h
  fits_kept (instruction.Unary to operator operand) at h = rw (kind to (at to (inl refl)), kind operand (at operand (inr (inl refl)))) h
  fits_kept (instruction.Binary to operator left right) at h =
      rw (kind to (at to (inl refl)), kind left (at left (inr (inl refl))), kind right (at right (inr (inr (inl refl))))) h
  fits_kept (instruction.Builtin to function first None) at h = rw (kind to (at to (inl refl)), kind first (at first (inr (inl refl)))) h
  fits_kept (instruction.Builtin to function first (Some second)) at h =
      rw (kind to (at to (inl refl)), kind first (at first (inr (inl refl))), kind second (at second (inr (inr (inl refl))))) h
  fits_kept (instruction.Dimensions to) at h = rw (kind to (at to (inl refl))) h
  fits_kept (instruction.Query to function dimension) at h = rw (kind to (at to (inl refl)), kind dimension (at dimension (inr (inl refl)))) h
  fits_kept (instruction.Argument to index of) at h = (rw (kind to (at to (inl refl))) h.0, h.1)
  fits_kept (instruction.Local to number element) at h = (rw (kind to (at to (inl refl))) h.0, h.1)
  fits_kept (instruction.UnsetArray array count) at h = h
  fits_kept (instruction.PrivateLoad to array index element name) at h = (rw (kind to (at to (inl refl))) h.0, rw (kind index (at index (inr (inl refl)))) h.1, h.2, h.3)
  fits_kept (instruction.PrivateStore array index value element name) at h = (rw (kind index (at index (inl refl))) h.0, rw (kind value (at value (inr (inl refl)))) h.1, h.2, h.3)
  fits_kept (instruction.MovePointer to from) at h = (rw (kind to (at to (inl refl)), kind from (at from (inr (inl refl)))) h.0, rw (kind from (at from (inr (inl refl)))) h.1)
  fits_kept (instruction.Offset to pointer index) at h =
      rw (kind to (at to (inl refl)), kind pointer (at pointer (inr (inl refl))), kind index (at index (inr (inr (inl refl))))) h
  fits_kept (instruction.Load to pointer) at h = rw (kind to (at to (inl refl)), kind pointer (at pointer (inr (inl refl)))) h
  fits_kept (instruction.Store pointer value) at h = (rw (kind pointer (at pointer (inl refl))) h.0, rw (kind value (at value (inr (inl refl)))) h.1)
  fits_kept (instruction.Update function pointer None) at h = (h.0, rw (kind pointer (at pointer (inl refl))) h.1)
  fits_kept (instruction.Update function pointer (Some value)) at h = (h.0, rw (kind pointer (at pointer (inl refl))) h.1, rw (kind value (at value (inr (inl refl)))) h.2)
  fits_kept (instruction.Fetch to function pointer operands.Alone) at h = (rw (kind to (at to (inl refl)), kind pointer (at pointer (inr (inl refl)))) h.0, tt)
  fits_kept (instruction.Fetch to function pointer (operands.Number value)) at h =
      (rw (kind to (at to (inl refl)), kind pointer (at pointer (inr (inl refl)))) h.0, rw (kind value (at value (inr (inr (inl refl))))) h.1)
  fits_kept (instruction.Fetch to function pointer (operands.Pair expected value)) at h = (
    rw (kind to (at to (inl refl)), kind pointer (at pointer (inr (inl refl)))) h.0,
    (rw (kind expected (at expected (inr (inr (inl refl))))) h.1.0, rw (kind value (at value (inr (inr (inr (inl refl)))))) h.1.1),
  )
  fits_kept (instruction.JumpIfZero test by) at h = rw (kind test (at test (inl refl))) h
  fits_kept (instruction.Barrier site depth fences) at h = tt
  fits_kept (instruction.Enter depth) at h = tt
  fits_kept (instruction.Turn depth) at h = tt
  fits_kept (instruction.Jump by) at h = tt
  fits_kept (instruction.Back by) at h = tt
  fits_kept instruction.End at h = tt

  as_long : length new.instructions ≡ length code.instructions
  as_long = length-map code.instructions (renamed (number_of numbers))

  leads : (place entered : ℕ) → MayGoOn code place entered → MayGoOn new place entered
  leads place entered h = let inside = h.0 in (omega (arith, inside, as_long), h.1)

  turn_kept : (o : Option Instruction) → IsTrue (is_turn o) → IsTrue (is_turn (option_map (renamed (number_of numbers)) o))
  turn_kept (Some (instruction.Turn depth)) h = h
  turn_kept _ h = absurd (false≢true h)

  goes_kept : (place : ℕ) (i : Instruction) → LeadsInside code place i → LeadsInside new place (renamed (number_of numbers) i)
  goes_kept place (instruction.Barrier site depth fences) h = (h.0, leads _ _ h.1)
  goes_kept place (instruction.Enter depth) h = (h.0, h.1, leads _ _ h.2)
  goes_kept place (instruction.Turn depth) h = (h.0, leads _ _ h.1)
  goes_kept place (instruction.Jump by) h = leads _ _ h
  goes_kept place (instruction.JumpIfZero test by) h = (leads _ _ h.0, leads _ _ h.1)
  goes_kept place (instruction.Back by) h =
      (h.0, subst (λ (o : Option Instruction). IsTrue (is_turn o)) (sym (slice_get-map (renamed (number_of numbers)) code.instructions (place - by))) (turn_kept _ h.1), h.2)
  goes_kept place instruction.End h = tt
  goes_kept place _ h = leads _ _ h

  pub renamed_is_verified : ((place : ℕ) (i : Instruction) → slice_get code.instructions place ≡ Some i → (r : ℕ) → Among r (registers_named i) → Numbered numbers r) → IsVerified code → IsVerified new
  renamed_is_verified numbered ok =
      record {
        begins = let begins = ok.begins in omega (arith, begins, as_long);
        listed = ok.listed ∙ sym as_long;
        outside = ok.outside;
        named = named;
        each = λ place j here. each place j here (slice_get code.instructions place) refl;
      }
    where
      named : All (λ register. register.name < code.names) news
      named k any inside =
          let from = is.onto k inside in
          let there = sym (is.entry from.0 k from.1) ∙ slice_get-get_or news k any inside in
          subst (λ (x : Register). x.name < code.names) (get_or_from_slice_get code.registers from.0 _ any there) (ok.named from.0 any (slice_get_within code.registers from.0 _ there))

      each : (place : ℕ) (j : Instruction) → slice_get new.instructions place ≡ Some j → (o : Option Instruction) → slice_get code.instructions place ≡ o → IsFine new place j
      each place j here None e = absurd (none-some j (sym (slice_get-map (renamed (number_of numbers)) code.instructions place ∙ ap (option_map (renamed (number_of numbers))) e) ∙ here))
      each place j here (Some i) e =
          let fine = ok.each place i e in
          subst (IsFine new place) (same_Some (renamed (number_of numbers) i) j (sym (slice_get-map (renamed (number_of numbers)) code.instructions place ∙ ap (option_map (renamed (number_of numbers))) e) ∙ here))
          (record { fits = fits_kept i (numbered place i e) fine.fits; leads = goes_kept place i fine.leads; few = fine.few })
