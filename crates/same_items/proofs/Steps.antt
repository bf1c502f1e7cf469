-- Instructions of runs that are alike.
use Rattle.std.proofs.Common.{◌≡◌, ℕ, suc, ◌+◌, ◌-◌, ◌⊎◌, inl, inr, pos, Bool, true, false, IsTrue, ◌&&◌, ◌++◌, if◌then◌else◌, Option, None, Some, List, [], ◌∷◌, take, slice_get, slice_index, refl, ap, sym, subst, eq-eqb, ne_eqb}
use Rattle.std.proofs.lemmas.Bool.{false≢true, cases_eq, and_parts}
use Rattle.std.specs.Option.{MatchOption}
use Rattle.clnum.specs.Integer.{Integer, converted}
use Rattle.clnum.specs.Conversions.{common}
use Rattle.clnum.specs.Operations.{unary_value}
use Rattle.clmodel.specs.Next.{Continuation, ItemPosition, known, held, call, content}
use Rattle.clmodel.specs.declared.operand.Operand.{Operand}
use Rattle.clmodel.specs.declared.operand.Operand.TheVariants.{Integral, Pointed}
use Rattle.clmodel.specs.declared.access.Object.TheVariants as object
use Rattle.clmodel.specs.declared.setup.Argument.{Argument}
use Rattle.clmodel.specs.declared.setup.BuiltIn.TheVariants as built_in_function
use Rattle.clmodel.specs.declared.tree.VariableType.{VariableType}
use Rattle.clmodel.specs.declared.tree.VariableType.TheVariants as variable_type
use Rattle.regcode.specs.Machine.{State, ItemContext, Registers, reg, put, array_of, put_array, act, name_of, with_put, with_array, with_turns, passed, onward, argument_at}
use Rattle.regcode.specs.declared.instruction.FetchOperands.TheVariants as operands
use Rattle.regcode.specs.declared.instruction.Instruction.{Instruction}
use Rattle.regcode.specs.declared.instruction.Instruction.TheVariants as instruction
use Rattle.regcode.specs.declared.tables.Register.{Register}
use Rattle.regcode.proofs.Registers.{reg_put, reg_kept, array_put, array_kept}
use Rattle.same_launches.specs.Alike.{AlikeElements}
use Rattle.same_items.specs.Free.{CodeFreedom, Matches, AlikeValues}
use Rattle.same_items.specs.Flow.{Labels, with_label, covers, number_label, pointer_label, is_same, joined, loaded, plain, is_divisor, constant_label, binary_label, moved_label, Covers, Flows}
use Rattle.same_items.specs.declared.label.Label.{Label}
use Rattle.same_items.specs.declared.label.Label.TheVariants as label
use Rattle.same_items.proofs.Divisors.{divisors_divide}
use Rattle.same_items.proofs.Values.{AlikeRuns, plain_matches, covered_values, two_numbers, one_pointer, matches_pointer, known_alike, number_alike, pointing_alike, test_alike, unary_kinds, converted_kinds, binary_alike, moved_alike, of_one_alike, of_two_alike}
use Rattle.same_items.proofs.Memory.{unset_alike, read_alike, write_alike, load_alike, store_alike, update_by_one_alike, update_alike, fetch_alone_alike, fetch_number_alike, fetch_pair_alike}

-- Two states of machines of one code: at one place, in the same turns, with registers that match these labels, and with
-- private arrays that are alike.
pub record AlikeStates (w : CodeFreedom) (labels : Labels) (s t : State) : Type 0 where
  pub place : s.place ≡ t.place
  pub counters : s.counters ≡ t.counters
  pub registers : (r : ℕ) → AlikeValues w (labels r) (reg s.registers r) (reg t.registers r)
  pub arrays : (a : ℕ) → AlikeElements (w.arrays a) (array_of s.registers a) (array_of t.registers a)

-- registers after a register got a value
put_registers : (w : CodeFreedom) (labels next : Labels) (v u : Registers) (to : ℕ) (l : Label) (o p : Option Operand) → ((r : ℕ) → AlikeValues w (labels r) (reg v r) (reg u r))
    → AlikeValues w l o p → Covers next (with_label labels to l) → (r : ℕ) → AlikeValues w (next r) (reg (put v to o) r) (reg (put u to p) r)
put_registers w labels next v u to l o p before here c r = go (cases_eq r to)
  where
    go : (r ≡ to) ⊎ (r ≡ to → ⊥) → AlikeValues w (next r) (reg (put v to o) r) (reg (put u to p) r)
    go (inl e) =
        subst (λ z. AlikeValues w (next z) (reg (put v to o) z) (reg (put u to p) z)) (sym e)
        (covered_values w (next to) l _ _
        (subst (λ b. IsTrue (covers (next to) (if b then l else labels to))) (eq-eqb to to refl) (c to))
        (subst (λ z. AlikeValues w l z (reg (put u to p) to)) (sym (reg_put v to o)) (subst (λ z. AlikeValues w l o z) (sym (reg_put u to p)) here)))
    go (inr ne) =
        subst (λ z. AlikeValues w (next r) z (reg (put u to p) r)) (sym (reg_kept v to o r (λ e. ne (sym e))))
        (subst (λ z. AlikeValues w (next r) (reg v r) z) (sym (reg_kept u to p r (λ e. ne (sym e))))
        (covered_values w (next r) (labels r) _ _
        (subst (λ b. IsTrue (covers (next r) (if b then l else labels r))) (ne_eqb r to ne) (c r)) (before r)))

-- arrays after one got other elements
put_arrays : (w : CodeFreedom) (v u : Registers) (a : ℕ) (xs ys : List (Option ℕ)) → ((b : ℕ) → AlikeElements (w.arrays b) (array_of v b) (array_of u b)) → AlikeElements (w.arrays a) xs ys
    → (b : ℕ) → AlikeElements (w.arrays b) (array_of (put_array v a xs) b) (array_of (put_array u a ys) b)
put_arrays w v u a xs ys before here b = go (cases_eq b a)
  where
    go : (b ≡ a) ⊎ (b ≡ a → ⊥) → AlikeElements (w.arrays b) (array_of (put_array v a xs) b) (array_of (put_array u a ys) b)
    go (inl e) =
        subst (λ z. AlikeElements (w.arrays z) (array_of (put_array v a xs) z) (array_of (put_array u a ys) z)) (sym e)
        (subst (λ z. AlikeElements (w.arrays a) z (array_of (put_array u a ys) a)) (sym (array_put v a xs)) (subst (λ z. AlikeElements (w.arrays a) xs z) (sym (array_put u a ys)) here))
    go (inr ne) =
        subst (λ z. AlikeElements (w.arrays b) z (array_of (put_array u a ys) b)) (sym (array_kept v a xs b (λ e. ne (sym e))))
        (subst (λ z. AlikeElements (w.arrays b) (array_of v b) z) (sym (array_kept u a ys b (λ e. ne (sym e)))) (before b))

mapped : {A : Type 0} (o : Option A) (P Q : A → Type 0) → ((a : A) → P a → Q a) → MatchOption o ⊥ P → MatchOption o ⊥ Q
mapped None P Q f h = absurd h
mapped (Some a) P Q f h = f a h

both : (a b : Bool) → IsTrue (a && b) → IsTrue a × IsTrue b
both a b h = and_parts a b h

-- What an instruction does in two states that are alike: alike, if what follows is. What stays is the same for both but
-- for the arguments.
module _ (w : CodeFreedom) (at : ℕ → Labels) (here : ItemPosition) (table : List Register) (buffers others : List (List ℕ)) (arguments given : List (Option Argument))
    (alike_arguments : (index : ℕ) (kind : VariableType) → AlikeValues w (w.parameters index kind) (content buffers index kind (argument_at arguments index)) (content others index kind (argument_at given index))) where
  abbrev pub first : ItemContext
  first = record { here = here; buffers = buffers; arguments = arguments; registers = table }

  abbrev pub second : ItemContext
  second = record { here = here; buffers = others; arguments = given; registers = table }

  abbrev pub Alike : Continuation → Continuation → Type 0
  Alike run other = AlikeRuns w run other

  module _ (on other after later : State → Continuation) (s t : State) (same : AlikeStates w (at s.place) s t)
      (goes : (u v : State) → AlikeStates w (at u.place) u v → Alike (on u) (other v))
      (asks : (u v : State) → AlikeStates w (at u.place) u v → Alike (after u) (later v)) where
    next_place : s.place + 1 ≡ t.place + 1
    next_place = ap (λ z. z + 1) same.place

    put_next : (to : ℕ) (l : Label) (o p : Option Operand) → AlikeValues w l o p → Covers (at (s.place + 1)) (with_label (at s.place) to l)
        → AlikeStates w (at (s.place + 1)) (with_put s to o) (with_put t to p)
    put_next to l o p a c =
        record {
          place = next_place;
          counters = same.counters;
          registers = put_registers w (at s.place) (at (s.place + 1)) s.registers t.registers to l o p same.registers a c;
          arrays = same.arrays;
        }

    kept : (place : ℕ) (r : ℕ) → Covers (at place) (at s.place) → AlikeValues w (at place r) (reg s.registers r) (reg t.registers r)
    kept place r c = covered_values w (at place r) (at s.place r) _ _ (c r) (same.registers r)

    array_next : (a : ℕ) (xs ys : List (Option ℕ)) → AlikeElements (w.arrays a) xs ys → Covers (at (s.place + 1)) (at s.place)
        → AlikeStates w (at (s.place + 1)) (with_array s a xs) (with_array t a ys)
    array_next a xs ys e c =
        record {
          place = next_place;
          counters = same.counters;
          registers = λ r. kept (s.place + 1) r c;
          arrays = put_arrays w s.registers t.registers a xs ys same.arrays e;
        }

    place_next : (p q : ℕ) → p ≡ q → Covers (at p) (at s.place) → AlikeStates w (at p) (record s { place = p }) (record t { place = q })
    place_next p q e c =
        record {
          place = e;
          counters = same.counters;
          registers = λ r. kept p r c;
          arrays = same.arrays;
        }

    turns_next : (xs ys : List ℕ) → xs ≡ ys → Covers (at (s.place + 1)) (at s.place) → AlikeStates w (at (s.place + 1)) (with_turns s xs) (with_turns t ys)
    turns_next xs ys e c =
        record {
          place = next_place;
          counters = e;
          registers = λ r. kept (s.place + 1) r c;
          arrays = same.arrays;
        }

    -- an operand
    reads_all : (r : ℕ) (f g : Operand → Continuation) → ((v u : Operand) → Matches w (at s.place r) v u → Alike (f v) (g u))
        → Alike (known (name_of (slice_get table r)) (reg s.registers r) f) (known (name_of (slice_get table r)) (reg t.registers r) g)
    reads_all r f g h = known_alike w (at s.place r) _ _ _ f g (same.registers r) h

    -- without what its label says of divisions
    reads : (r : ℕ) (f g : Operand → Continuation) → ((v u : Operand) → Matches w (plain (at s.place r)) v u → Alike (f v) (g u))
        → Alike (known (name_of (slice_get table r)) (reg s.registers r) f) (known (name_of (slice_get table r)) (reg t.registers r) g)
    reads r f g h = reads_all r f g (λ v u m. h v u (plain_matches w (at s.place r) v u m))

    constant_matches : (v : Integer) → Matches w (constant_label v) (Integral v) (Integral v)
    constant_matches v = go (is_divisor v) refl
      where
        go : (b : Bool) → is_divisor v ≡ b → Matches w (if b then label.Divisor else label.Same) (Integral v) (Integral v)
        go false e = refl
        go true e = (refl, divisors_divide v e)

    -- a value that is put
    puts : (to : ℕ) (l : Label) (v u : Operand) → Matches w l v u → Covers (at (s.place + 1)) (with_label (at s.place) to l) → Alike (on (with_put s to (Some v))) (other (with_put t to (Some u)))
    puts to l v u m c = goes _ _ (put_next to l (Some v) (Some u) m c)

    held_matches : (l : Label) (kind : VariableType) (v u : Operand) → Matches w (plain l) v u → Matches w (plain l) (held kind v) (held kind u)
    unfolding converted
    held_matches l (variable_type.Pointer p) v u m = m
    held_matches label.Same (variable_type.Integer kind) (Integral v) (Integral u) m = ap (λ z. converted z kind) m
    held_matches label.Divisor (variable_type.Integer kind) (Integral v) (Integral u) m = ap (λ z. converted z kind) m
    held_matches label.Free (variable_type.Integer kind) (Integral v) (Integral u) m = refl
    held_matches label.ToSame (variable_type.Integer kind) (Pointed v) (Pointed u) m = m
    held_matches label.ToFree (variable_type.Integer kind) (Pointed v) (Pointed u) m = m
    held_matches label.ToAny (variable_type.Integer kind) (Pointed v) (Pointed u) m = m
    held_matches _ (variable_type.Integer kind) _ _ m = absurd m

    same_operand : (l : Label) (v u : Operand) → IsTrue (is_same l) → Matches w l v u → v ≡ u
    same_operand label.Unset v u i m = absurd m
    same_operand label.Same (Integral v) (Integral u) i m = ap Integral m
    same_operand label.Same (Integral v) (Pointed q) i m = absurd m
    same_operand label.Same (Pointed p) u i m = absurd m
    same_operand _ v u i m = absurd (false≢true i)

    own_covers : (b : Bool) → IsTrue (covers (pointer_label b) (pointer_label b))
    own_covers true = refl
    own_covers false = refl

    pub does : (i : Instruction) → Flows w at s.place i → Alike (act first (Some i) on after s) (act second (Some i) other later t)
    does (instruction.Constant to value) h = puts to (constant_label value) _ _ (constant_matches value) h
    does (instruction.Unset to) h = goes _ _ (put_next to label.Unset None None tt h)
    does (instruction.Move to from name) h = known_alike w (at s.place from) _ _ _ _ _ (same.registers from) (λ v u m. puts to (at s.place from) v u m h)
    does (instruction.AssignConversion to from kind) h = reads from _ _ (λ v u m. puts to (plain (at s.place from)) _ _ (held_matches (at s.place from) kind v u m) h)
    does (instruction.Convert to from kind) h =
        reads from _ _ (λ v u m.
        number_alike w (plain (at s.place from)) v u _ _ (two_numbers w (plain (at s.place from)) v u h.0 m) (λ a b k e back.
        puts to (plain (at s.place from)) _ _ (back (converted a kind) (converted b kind) (converted_kinds w a b kind kind refl) (λ i. ap (λ z. converted z kind) (e i))) h.1))
    does (instruction.UsualConversion to from kind) h =
        reads from _ _ (λ v u m.
        number_alike w (plain (at s.place from)) v u _ _ (two_numbers w (plain (at s.place from)) v u h.0 m) (λ a b k e back.
        puts to (plain (at s.place from)) _ _
        (back (converted a (common a.kind kind)) (converted b (common b.kind kind)) (converted_kinds w a b (common a.kind kind) (common b.kind kind) (ap (λ z. common z kind) k)) (λ i. ap (λ z. converted z (common z.kind kind)) (e i)))
        h.1))
    does (instruction.Unary to operator operand) h =
        reads operand _ _ (λ v u m.
        number_alike w (plain (at s.place operand)) v u _ _ (two_numbers w (plain (at s.place operand)) v u h.0 m) (λ a b k e back.
        puts to (plain (at s.place operand)) _ _ (back (unary_value operator a) (unary_value operator b) (unary_kinds w operator a b k) (λ i. ap (unary_value operator) (e i))) h.1))
    does (instruction.Binary to operator left right) h =
        reads_all left _ _ (λ v u m. reads_all right _ _ (λ x y n.
        binary_alike w operator (at s.place left) (at s.place right) v u x y (λ z. on (with_put s to (Some z))) (λ z. other (with_put t to (Some z))) m n
        (mapped (binary_label operator (at s.place left) (at s.place right)) (λ l. Covers (at (s.place + 1)) (with_label (at s.place) to l)) _ (λ l c p q z. puts to l p q z c) h)))
    does (instruction.Builtin to function one None) h =
        reads one _ _ (λ v u m.
        of_one_alike w function (plain (at s.place one)) v u (λ z. on (with_put s to (Some z))) (λ z. other (with_put t to (Some z))) h.0 m (λ x y n. puts to (plain (at s.place one)) x y n h.1))
    does (instruction.Builtin to function one (Some two)) h =
        reads one _ _ (λ v u m. reads two _ _ (λ x y n.
        of_two_alike w function (plain (at s.place one)) (plain (at s.place two)) v u x y (λ z. on (with_put s to (Some z))) (λ z. other (with_put t to (Some z))) h.0 h.1 m n
        (λ p q z. puts to (joined (plain (at s.place one)) (plain (at s.place two))) p q z h.2)))
    does (instruction.Dimensions to) h = puts to label.Same _ _ refl h
    does (instruction.Query to function dimension) h =
        reads dimension _ _ (λ d e m.
        subst (λ z. Alike (call here (Some (built_in_function.WorkItem function)) (d ∷ []) (λ v. on (with_put s to (Some v)))) (call here (Some (built_in_function.WorkItem function)) (z ∷ []) (λ v. other (with_put t to (Some v)))))
        (same_operand (plain (at s.place dimension)) d e h.0 m) (puts to label.Same _ _ refl h.1))
    does (instruction.Argument to index kind) h = goes _ _ (put_next to (w.parameters index kind) _ _ (alike_arguments index kind) h)
    does (instruction.Local to object_number element) h =
        puts to (pointer_label (w.bytes.locals object_number)) _ _ (matches_pointer w (pointer_label (w.bytes.locals object_number)) (record { object = object.Local object_number; element = element; offset = pos 0 }) (own_covers (w.bytes.locals object_number))) h
    does (instruction.UnsetArray array count) h = goes _ _ (array_next array _ _ (unset_alike (w.arrays array) count) h)
    does (instruction.PrivateLoad to array index element name) h =
        reads index _ _ (λ i j m.
        read_alike w name element (w.arrays array) _ _ (plain (at s.place index)) i j (λ z. on (with_put s to (Some z))) (λ z. other (with_put t to (Some z))) h.0 m (same.arrays array)
        (λ x y n. puts to (number_label (w.arrays array)) x y n h.1))
    does (instruction.PrivateStore array index value element name) h =
        reads index _ _ (λ i j m. reads value _ _ (λ v u n.
        write_alike w name element (w.arrays array) _ _ (plain (at s.place index)) (plain (at s.place value)) i j v u (λ xs. on (with_array s array xs)) (λ xs. other (with_array t array xs)) h.0 h.1 m n (same.arrays array)
        (λ xs ys e. goes _ _ (array_next array xs ys e h.2))))
    does (instruction.MovePointer to from) h =
        reads from _ _ (λ v u m.
        pointing_alike w (plain (at s.place from)) v u _ _ (one_pointer w (plain (at s.place from)) v u h.0 m) (λ p c. puts to (plain (at s.place from)) (Pointed p) (Pointed p) (matches_pointer w (plain (at s.place from)) p c) h.1))
    does (instruction.Offset to pointer index) h =
        reads pointer _ _ (λ v u m. reads index _ _ (λ x y n.
        moved_alike w (plain (at s.place pointer)) (plain (at s.place index)) v u x y (λ q. on (with_put s to (Some (Pointed q)))) (λ q. other (with_put t to (Some (Pointed q)))) m n
        (mapped (moved_label (plain (at s.place pointer)) (plain (at s.place index))) (λ l. Covers (at (s.place + 1)) (with_label (at s.place) to l)) _ (λ l c q z. puts to l (Pointed q) (Pointed q) z c) h)))
    does (instruction.Load to pointer) h =
        reads pointer _ _ (λ v u m.
        load_alike w (plain (at s.place pointer)) v u (λ z. after (with_put s to (Some z))) (λ z. later (with_put t to (Some z))) h.0 m (λ x y n. asks _ _ (put_next to (loaded (plain (at s.place pointer))) (Some x) (Some y) n h.1)))
    does (instruction.Store pointer value) h =
        reads pointer _ _ (λ p q m. reads value _ _ (λ v u n.
        store_alike w (plain (at s.place pointer)) (plain (at s.place value)) p q v u _ _ h.0 m n (asks _ _ (place_next _ _ next_place h.1))))
    does (instruction.Update function pointer None) h =
        reads pointer _ _ (λ p q m. update_by_one_alike w function (plain (at s.place pointer)) p q _ _ h.0 m (asks _ _ (place_next _ _ next_place h.1)))
    does (instruction.Update function pointer (Some value)) h =
        reads pointer _ _ (λ p q m. reads value _ _ (λ v u n.
        update_alike w function (plain (at s.place pointer)) (plain (at s.place value)) p q v u _ _ h.0 m n (asks _ _ (place_next _ _ next_place h.1))))
    does (instruction.Fetch to function pointer operands.Alone) h =
        reads pointer _ _ (λ p q m.
        fetch_alone_alike w function (plain (at s.place pointer)) p q (λ z. after (with_put s to (Some z))) (λ z. later (with_put t to (Some z))) h.0 m (λ x y n. asks _ _ (put_next to (loaded (plain (at s.place pointer))) (Some x) (Some y) n h.1)))
    does (instruction.Fetch to function pointer (operands.Number value)) h =
        reads pointer _ _ (λ p q m. reads value _ _ (λ v u n.
        fetch_number_alike w function (plain (at s.place pointer)) (plain (at s.place value)) p q v u (λ z. after (with_put s to (Some z))) (λ z. later (with_put t to (Some z))) h.0 m n
        (λ x y k. asks _ _ (put_next to (loaded (plain (at s.place pointer))) (Some x) (Some y) k h.1))))
    does (instruction.Fetch to function pointer (operands.Pair expected value)) h =
        let may = both _ _ h.0 in
        reads pointer _ _ (λ p q m. reads expected _ _ (λ c d o. reads value _ _ (λ v u n.
        fetch_pair_alike w function (plain (at s.place pointer)) (plain (at s.place expected)) (plain (at s.place value)) p q c d v u (λ z. after (with_put s to (Some z))) (λ z. later (with_put t to (Some z))) may.0 may.1 m o n
        (λ x y k. asks _ _ (put_next to (loaded (plain (at s.place pointer))) (Some x) (Some y) k h.1)))))
    does (instruction.Barrier site depth fences) h = ((ap (λ z. record { site = site; turns = take depth z }) same.counters, refl), λ _ _ _. asks _ _ (place_next _ _ next_place h))
    does (instruction.Enter depth) h = goes _ _ (turns_next _ _ (ap (λ z. take depth z ++ 0 ∷ []) same.counters) h)
    does (instruction.Turn depth) h = asks _ _ (turns_next _ _ (ap (λ z. take depth z ++ suc (slice_index z depth) ∷ []) same.counters) h)
    does (instruction.Jump by) h = goes _ _ (place_next _ _ (ap (λ z. z + 1 + by) same.place) h)
    does (instruction.JumpIfZero register by) h =
        reads register _ _ (λ v u m. test_alike w (plain (at s.place register)) v u _ _ h.0 m sides)
      where
        sides : (b : Bool) → Alike (if b then on (passed s) else on (onward s by)) (if b then other (passed t) else other (onward t by))
        sides true = goes _ _ (place_next _ _ next_place h.1)
        sides false = goes _ _ (place_next _ _ (ap (λ z. z + 1 + by) same.place) h.2)
    does (instruction.Back by) h = goes _ _ (place_next _ _ (ap (λ z. z - by) same.place) h)
    does instruction.End h = tt
