-- Code with the new table acts as it did, and keeps the rules.
use Rattle.std.proofs.Common.{◌≡◌, ℕ, ◌^◌, ◌<◌, ◌⊎◌, inl, inr, true, Option, None, Some, is_some, List, [], ◌∷◌, length, map, slice_get, refl, ap, sym, ◌∙◌, subst, arith}
use Rattle.std.proofs.lemmas.Bool.{false≢true}
use Rattle.std.specs.Option.{option_map}
use Rattle.regcode.specs.Listed.{listing}
use Rattle.regcode.specs.Listing.{Listing}
use Rattle.regcode.specs.Machine.{ItemContext, entry_at}
use Rattle.regcode.specs.Rules.{IsVerified}
use Rattle.regcode.specs.declared.instruction.FetchOperands.{FetchOperands}
use Rattle.regcode.specs.declared.instruction.FetchOperands.TheVariants as operands
use Rattle.regcode.specs.declared.instruction.Instruction.{Instruction}
use Rattle.regcode.specs.declared.instruction.Instruction.TheVariants as instruction
use Rattle.regcode.specs.declared.tables.Register.{Register}
use Rattle.regcode.specs.declared.tables.Tables.{Tables}
use Rattle.renumbering.specs.Numbers.{number_or_greatest, number_of, no_number, IsNumbering, Among, Numbered, Gives}
use Rattle.renumbering.specs.Renamed.{renamed, renamed_operands, all_named}
use Rattle.renumbering.specs.Same.{IsRenumbered}
use Rattle.renumbering.proofs.Numbers.{at_most_all, none_there}
use Rattle.renumbering.proofs.Renaming.{IsRenamed, acts_same, tables_within}
use Rattle.renumbering.proofs.Verified.{all_renamed, among_map, named_at, named_within, renamed_is_verified}

-- Instructions renamed by the numbers of registers, with the new table.
pub renames : (old new : Listing) (numbers : List (Option ℕ)) → IsNumbering old.registers new.registers numbers → new.instructions ≡ map (renamed (number_of numbers)) old.instructions
    → new.arrays ≡ old.arrays → IsRenamed (number_of numbers) old new
renames old new numbers is instructions arrays =
    record {
      instructions = instructions;
      entries = λ r inside. entry r (entry_at None numbers r) refl inside;
      distinct = λ r other inside same. one r other (entry_at None numbers r) (entry_at None numbers other) refl refl inside same;
      arrays = arrays;
    }
  where
    entry : (r : ℕ) (o : Option ℕ) → entry_at None numbers r ≡ o → number_or_greatest o < length new.registers → slice_get new.registers (number_or_greatest o) ≡ slice_get old.registers r
    entry r None e inside = let few = is.few in absurd (omega (arith, few, inside))
    entry r (Some n) e inside = is.entry r n e

    one : (r other : ℕ) (o p : Option ℕ) → entry_at None numbers r ≡ o → entry_at None numbers other ≡ p → number_or_greatest o < length new.registers → number_or_greatest o ≡ number_or_greatest p → r ≡ other
    one r other None p e f inside same = let few = is.few in absurd (omega (arith, few, inside))
    one r other (Some n) None e f inside same = let few = is.few in absurd (omega (arith, few, inside, same))
    one r other (Some n) (Some m) e f inside same = is.distinct r other n e (f ∙ ap Some (sym same))

-- what an atomic operation is given, each register by its own number
same_operands : (o : FetchOperands) → renamed_operands (λ r. r) o ≡ o
same_operands operands.Alone = refl
same_operands (operands.Number value) = refl
same_operands (operands.Pair expected value) = refl

same_option : (o : Option ℕ) → option_map (λ r. r) o ≡ o
same_option None = refl
same_option (Some r) = refl

-- an instruction with each register by its own number
same_instruction : (i : Instruction) → renamed (λ r. r) i ≡ i
same_instruction (instruction.Builtin to function first second) = ap (instruction.Builtin to function first) (same_option second)
same_instruction (instruction.Update function pointer value) = ap (instruction.Update function pointer) (same_option value)
same_instruction (instruction.Fetch to function pointer given) = ap (instruction.Fetch to function pointer) (same_operands given)
same_instruction _ = refl

none_renamed : (instructions : List Instruction) → map (renamed (λ r. r)) instructions ≡ instructions
none_renamed [] = refl
none_renamed (i ∷ instructions) = ap (λ j. j ∷ map (renamed (λ r. r)) instructions) (same_instruction i) ∙ ap (λ rest. i ∷ rest) (none_renamed instructions)

-- code whose table is longer than there are numbers of 32 bits stays
pub unchanged : (code : Listing) → (length code.registers < 2 ^ 32 → ⊥) → IsRenumbered code code
unchanged code long =
    record {
      acts = λ setup item answers. refl;
      renamed = (λ r. r, sym (none_renamed code.instructions), λ r other inside same. same);
      registers = omega arith;
      all_used = λ few. absurd (long few);
      arrays = refl;
      objects = refl;
      names = refl;
      parameters = refl;
      loops = refl;
    }

-- an item of no launch
no_item : ItemContext
no_item = record { here = record { range = record { global = []; local = []; offset = []; uniform = true }; item = 0 }; buffers = []; arguments = []; registers = [] }

module _ (code : Listing) (old tables : Tables) (instructions : List Instruction) (numbers : List (Option ℕ)) (olds news : List Register)
    (is : listing code.instructions old ≡ code) (read : olds ≡ old.registers.items) (numbered : IsNumbering olds news numbers)
    (gives : Gives olds (all_named code.instructions) (map no_number olds) numbers) (is_renamed : instructions ≡ map (renamed (number_of numbers)) code.instructions)
    (registers : tables.registers.items ≡ news) (arrays : tables.arrays.items ≡ old.arrays.items) (objects : tables.objects ≡ old.objects) (names : tables.names ≡ old.names)
    (parameters : tables.parameters.items ≡ old.parameters.items) (loops : tables.loops.items ≡ old.loops.items) where
  abbrev same : Listing
  same = listing instructions tables

  of_code : IsNumbering code.registers news numbers
  of_code = subst (λ (rs : List Register). IsNumbering rs news numbers) (read ∙ ap (λ c. c.registers) is) numbered

  all : IsNumbering code.registers same.registers numbers
  all = subst (λ (rs : List Register). IsNumbering code.registers rs numbers) (sym registers) of_code

  all_given : Gives code.registers (all_named code.instructions) (map no_number code.registers) numbers
  all_given = subst (λ (rs : List Register). Gives rs (all_named code.instructions) (map no_number rs) numbers) (read ∙ ap (λ c. c.registers) is) gives

  used : (r : ℕ) → r < length same.registers → Among r (all_named instructions)
  used r inside = go (all_given.none_else from.0 (ap is_some from.1))
    where
      from : (q : ℕ) × (entry_at None numbers q ≡ Some r)
      from = all.onto r inside

      go : Numbered (map no_number code.registers) from.0 ⊎ Among from.0 (all_named code.instructions) → Among r (all_named instructions)
      go (inl h) = absurd (false≢true (sym (ap is_some (none_there code.registers from.0)) ∙ h))
      go (inr a) =
          subst (λ (rs : List ℕ). Among r rs) (sym (ap all_named is_renamed ∙ all_renamed (number_of numbers) code.instructions))
          (subst (λ (n : ℕ). Among n (map (number_of numbers) (all_named code.instructions))) (ap number_or_greatest from.1) (among_map (number_of numbers) from.0 (all_named code.instructions) a))

  renaming : IsRenamed (number_of numbers) code same
  renaming = renames code same numbers all is_renamed (arrays ∙ ap (λ c. c.arrays) is)

  -- Code with the new table and the renamed instructions.
  pub renumbered : IsVerified same → IsRenumbered code same
  renumbered ok =
      record {
        acts = acts_same (number_of numbers) code same renaming ok;
        renamed = (number_of numbers, is_renamed, renaming.distinct);
        registers = let count = all.count in let whole = all.whole in let most = at_most_all numbers in omega (arith, count, whole, most);
        all_used = λ few r inside. used r inside;
        arrays = arrays ∙ ap (λ c. c.arrays) is;
        objects = objects ∙ ap (λ c. c.objects) is;
        names = names ∙ ap (λ c. c.names) is;
        parameters = parameters ∙ ap (λ c. c.parameters) is;
        loops = loops ∙ ap (λ c. c.loops) is;
      }

  -- it keeps the rules
  pub accepted : IsVerified code → length code.registers < 2 ^ 32 → IsVerified same
  accepted ok few =
      rw (is_renamed, registers, arrays ∙ ap (λ c. c.arrays) is, objects ∙ ap (λ c. c.objects) is, names ∙ ap (λ c. c.names) is, parameters ∙ ap (λ c. c.parameters) is, loops ∙ ap (λ c. c.loops) is)
      (renamed_is_verified code news numbers of_code
      (λ place i here r among. all_given.given few r (named_at code.instructions place i r here among) (named_within code i r (tables_within code ok no_item place i here) among)) ok)
