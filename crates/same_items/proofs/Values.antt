-- Runs on values that are alike.
use Rattle.std.proofs.Common.{◌≡◌, ℕ, ℤ, pos, Bool, true, false, IsTrue, if◌then◌else◌, Option, None, Some, [], ◌∷◌, Result, Ok, Err, refl, ap, ap₂, sym, subst}
use Rattle.std.proofs.lemmas.Bool.{false≢true}
use Rattle.std.specs.Option.{MatchOption}
use Rattle.std.specs.Ordering.{int_eq}
use Rattle.std.specs.Prelude.{int_div}
use Rattle.clmodel.proofs.Steps.{some_inj}
use Rattle.clnum.specs.Integer.{Integer, converted, wrap}
use Rattle.clnum.specs.Conversions.{common, promoted, unsigned_of}
use Rattle.clnum.specs.Builtins.{is_same as is_one_type, builtin_value}
use Rattle.clnum.specs.Operations.{unary_value, binary_value, wrapped, divided, remainder_of, is_in}
use Rattle.clnum.specs.declared.int_type.IntType.{IntType}
use Rattle.clnum.specs.declared.operators.ArithFault.{ArithFault}
use Rattle.clnum.specs.declared.operators.ArithFault.TheVariants as arith_fault
use Rattle.clnum.specs.declared.operators.BinaryOperator.{BinaryOperator}
use Rattle.clnum.specs.declared.operators.BinaryOperator.TheVariants as binary_operator
use Rattle.clnum.specs.declared.operators.UnaryOperator.{UnaryOperator}
use Rattle.clnum.specs.declared.operators.UnaryOperator.TheVariants as unary_operator
use Rattle.clnum.specs.declared.operators.Builtin.{Builtin}
use Rattle.clnum.specs.declared.operators.Builtin.TheVariants as builtin
use Rattle.clmodel.specs.Next.{Continuation, finish, fail, ask, tick, known, number, pointing, moved, binary_operation, arithmetic, test, integer_call, given_value}
use Rattle.clmodel.specs.declared.action.Answer.{Answer}
use Rattle.clmodel.specs.declared.operand.Operand.{Operand}
use Rattle.clmodel.specs.declared.operand.Operand.TheVariants.{Integral, Pointed}
use Rattle.clmodel.specs.declared.operand.Pointer.{Pointer}
use Rattle.same_launches.specs.Alike.{is_free, AlikeActions, has_free_answer, AlikeAnswers}
use Rattle.same_items.specs.Free.{CodeFreedom, Divides, Matches, AlikeValues}
use Rattle.same_items.specs.Flow.{covers, pointer_label, is_same, is_number, is_pointer, joined, is_division, plain, plain_binary, divided_label, binary_label, moved_label}
use Rattle.same_items.specs.declared.label.Label.{Label}
use Rattle.same_items.specs.declared.label.Label.TheVariants as label

-- Two trees of actions are alike: they fail or end alike, and where they ask, they ask alike and go on alike after like
-- answers.
abbrev pub AlikeRuns : CodeFreedom → Continuation → Continuation → Type 0
AlikeRuns w finish finish = Unit {0}
AlikeRuns w (fail c) (fail d) = c ≡ d
AlikeRuns w (ask a f) (ask b g) = AlikeActions w.bytes a b × ((x y : Answer) → AlikeAnswers (has_free_answer w.bytes a) x y → AlikeRuns w (f x) (g y))
AlikeRuns w (tick run) (tick other) = AlikeRuns w run other
AlikeRuns w _ _ = ⊥

-- ---- labels

same_is_free : (w : CodeFreedom) (v u : Operand) → Matches w label.Same v u → Matches w label.Free v u
same_is_free w (Integral v) (Integral u) h = ap (λ x. x.kind) h
same_is_free w (Integral v) (Pointed q) h = absurd h
same_is_free w (Pointed p) u h = absurd h

same_is_any : (w : CodeFreedom) (v u : Operand) → Matches w label.ToSame v u → Matches w label.ToAny v u
same_is_any w (Pointed p) (Pointed q) h = h.0
same_is_any w (Pointed p) (Integral u) h = absurd h
same_is_any w (Integral v) u h = absurd h

free_is_any : (w : CodeFreedom) (v u : Operand) → Matches w label.ToFree v u → Matches w label.ToAny v u
free_is_any w (Pointed p) (Pointed q) h = h.0
free_is_any w (Pointed p) (Integral u) h = absurd h
free_is_any w (Integral v) u h = absurd h

divisor_is_same : (w : CodeFreedom) (v u : Operand) → Matches w label.Divisor v u → Matches w label.Same v u
divisor_is_same w (Integral v) (Integral u) h = h.0
divisor_is_same w (Integral v) (Pointed q) h = absurd h
divisor_is_same w (Pointed p) u h = absurd h

-- what matches a label matches it without what it says of divisions
pub plain_matches : (w : CodeFreedom) (l : Label) (v u : Operand) → Matches w l v u → Matches w (plain l) v u
plain_matches w label.Divisor v u h = divisor_is_same w v u h
plain_matches w label.Unset v u h = h
plain_matches w label.Same v u h = h
plain_matches w label.Free v u h = h
plain_matches w label.ToSame v u h = h
plain_matches w label.ToFree v u h = h
plain_matches w label.ToAny v u h = h

-- what matches a label matches one that covers it
covered : (w : CodeFreedom) (m l : Label) (v u : Operand) → IsTrue (covers m l) → Matches w l v u → Matches w m v u
covered w m label.Unset v u c h = absurd h
covered w label.Same label.Same v u c h = h
covered w label.Free label.Same v u c h = same_is_free w v u h
covered w _ label.Same v u c h = absurd (false≢true c)
covered w label.Divisor label.Divisor v u c h = h
covered w label.Same label.Divisor v u c h = divisor_is_same w v u h
covered w label.Free label.Divisor v u c h = same_is_free w v u (divisor_is_same w v u h)
covered w _ label.Divisor v u c h = absurd (false≢true c)
covered w label.Free label.Free v u c h = h
covered w _ label.Free v u c h = absurd (false≢true c)
covered w label.ToSame label.ToSame v u c h = h
covered w label.ToAny label.ToSame v u c h = same_is_any w v u h
covered w _ label.ToSame v u c h = absurd (false≢true c)
covered w label.ToFree label.ToFree v u c h = h
covered w label.ToAny label.ToFree v u c h = free_is_any w v u h
covered w _ label.ToFree v u c h = absurd (false≢true c)
covered w label.ToAny label.ToAny v u c h = h
covered w _ label.ToAny v u c h = absurd (false≢true c)

pub covered_values : (w : CodeFreedom) (m l : Label) (o p : Option Operand) → IsTrue (covers m l) → AlikeValues w l o p → AlikeValues w m o p
covered_values w m l None None c h = tt
covered_values w m l None (Some u) c h = absurd h
covered_values w m l (Some v) None c h = absurd h
covered_values w m l (Some v) (Some u) c h = covered w m l v u c h

-- two numbers, by the label of a number
pub data TwoNumbers (w : CodeFreedom) (l : Label) : Operand → Operand → Type 0 where
  are_numbers : (v u : Integer) → v.kind ≡ u.kind → (is_same l ≡ true → v ≡ u)
      → ((a b : Integer) → a.kind ≡ b.kind → (is_same l ≡ true → a ≡ b) → Matches w l (Integral a) (Integral b)) → TwoNumbers w l (Integral v) (Integral u)

pub two_numbers : (w : CodeFreedom) (l : Label) (v u : Operand) → IsTrue (is_number l) → Matches w l v u → TwoNumbers w l v u
two_numbers w label.Unset v u n h = absurd h
two_numbers w label.Same (Integral v) (Integral u) n h = are_numbers v u (ap (λ x. x.kind) h) (λ s. h) (λ a b k e. e refl)
two_numbers w label.Same (Integral v) (Pointed q) n h = absurd h
two_numbers w label.Same (Pointed p) u n h = absurd h
two_numbers w label.Free (Integral v) (Integral u) n h = are_numbers v u h (λ s. absurd (false≢true s)) (λ a b k e. k)
two_numbers w label.Free (Integral v) (Pointed q) n h = absurd h
two_numbers w label.Free (Pointed p) u n h = absurd h
two_numbers w _ v u n h = absurd (false≢true n)

-- a pointer, by its label
pub data OnePointer (w : CodeFreedom) (l : Label) : Operand → Operand → Type 0 where
  is_one : (p : Pointer) → IsTrue (covers l (pointer_label (is_free w.bytes p.object))) → OnePointer w l (Pointed p) (Pointed p)

-- (a label of a pointer to both says what its object's says)
pointed : (w : CodeFreedom) (l : Label) (p q : Pointer) (b : Bool) → is_free w.bytes p.object ≡ b → IsTrue (covers l (pointer_label b)) → p ≡ q → OnePointer w l (Pointed p) (Pointed q)
pointed w l p q b e c h = subst (λ z. OnePointer w l (Pointed p) (Pointed z)) h (is_one p (subst (λ z. IsTrue (covers l (pointer_label z))) (sym e) c))

any_covers : (b : Bool) → IsTrue (covers label.ToAny (pointer_label b))
any_covers true = refl
any_covers false = refl

pub one_pointer : (w : CodeFreedom) (l : Label) (v u : Operand) → IsTrue (is_pointer l) → Matches w l v u → OnePointer w l v u
one_pointer w label.Unset v u n h = absurd h
one_pointer w label.Same v u n h = absurd (false≢true n)
one_pointer w label.Free v u n h = absurd (false≢true n)
one_pointer w label.Divisor v u n h = absurd (false≢true n)
one_pointer w label.ToSame (Pointed p) (Pointed q) n h = pointed w label.ToSame p q false h.1 refl h.0
one_pointer w label.ToSame (Pointed p) (Integral u) n h = absurd h
one_pointer w label.ToSame (Integral v) u n h = absurd h
one_pointer w label.ToFree (Pointed p) (Pointed q) n h = pointed w label.ToFree p q true h.1 refl h.0
one_pointer w label.ToFree (Pointed p) (Integral u) n h = absurd h
one_pointer w label.ToFree (Integral v) u n h = absurd h
one_pointer w label.ToAny (Pointed p) (Pointed q) n h = pointed w label.ToAny p q (is_free w.bytes p.object) refl (any_covers _) h
one_pointer w label.ToAny (Pointed p) (Integral u) n h = absurd h
one_pointer w label.ToAny (Integral v) u n h = absurd h

-- and back: a pointer to an object matches what covers its own label
own_label : (w : CodeFreedom) (p : Pointer) (b : Bool) → is_free w.bytes p.object ≡ b → Matches w (pointer_label b) (Pointed p) (Pointed p)
own_label w p true e = (refl, e)
own_label w p false e = (refl, e)

pub matches_pointer : (w : CodeFreedom) (l : Label) (p : Pointer) → IsTrue (covers l (pointer_label (is_free w.bytes p.object))) → Matches w l (Pointed p) (Pointed p)
matches_pointer w l p c = covered w l (pointer_label (is_free w.bytes p.object)) (Pointed p) (Pointed p) c (own_label w p (is_free w.bytes p.object) refl)

-- ---- runs

module _ (w : CodeFreedom) where
  abbrev Alike : Continuation → Continuation → Type 0
  Alike run other = AlikeRuns w run other

  pub known_alike : (l : Label) (name : ℕ) (o p : Option Operand) (f g : Operand → Continuation) → AlikeValues w l o p
      → ((v u : Operand) → Matches w l v u → Alike (f v) (g u)) → Alike (known name o f) (known name p g)
  known_alike l name None None f g a h = refl
  known_alike l name None (Some u) f g a h = absurd a
  known_alike l name (Some v) None f g a h = absurd a
  known_alike l name (Some v) (Some u) f g a h = h v u a

  pub number_alike : (l : Label) (v u : Operand) (f g : Integer → Continuation) → TwoNumbers w l v u
      → ((m n : Integer) → m.kind ≡ n.kind → (is_same l ≡ true → m ≡ n)
      → ((a b : Integer) → a.kind ≡ b.kind → (is_same l ≡ true → a ≡ b) → Matches w l (Integral a) (Integral b)) → Alike (f m) (g n)) → Alike (number v f) (number u g)
  number_alike l v u f g (are_numbers m n k s back) h = h m n k s back

  pub pointing_alike : (l : Label) (v u : Operand) (f g : Pointer → Continuation) → OnePointer w l v u
      → ((p : Pointer) → IsTrue (covers l (pointer_label (is_free w.bytes p.object))) → Alike (f p) (g p)) → Alike (pointing v f) (pointing u g)
  pointing_alike l v u f g (is_one p c) h = h p c

  pub test_alike : (l : Label) (v u : Operand) (f g : Bool → Continuation) → IsTrue (is_same l) → Matches w l v u → ((b : Bool) → Alike (f b) (g b)) → Alike (test v f) (test u g)
  test_alike label.Unset v u f g s a h = absurd a
  test_alike label.Same (Integral v) (Integral u) f g s a h = subst (λ z. Alike (test (Integral v) f) (test (Integral z) g)) a (h _)
  test_alike label.Same (Integral v) (Pointed q) f g s a h = absurd a
  test_alike label.Same (Pointed p) u f g s a h = absurd a
  test_alike _ v u f g s a h = absurd (false≢true s)

  -- ---- operators

  pub unary_kinds : (operator : UnaryOperator) (m n : Integer) → m.kind ≡ n.kind → (unary_value operator m).kind ≡ (unary_value operator n).kind
  unfolding unary_value
  unary_kinds unary_operator.Plus m n k = ap promoted k
  unary_kinds unary_operator.Negate m n k = ap promoted k
  unary_kinds unary_operator.Complement m n k = ap promoted k
  unary_kinds unary_operator.Not m n k = refl

  pub converted_kinds : (m n : Integer) (kind other : IntType) → kind ≡ other → (converted m kind).kind ≡ (converted n other).kind
  unfolding converted
  converted_kinds m n kind other e = e

  result_alike : (r : Result Integer ArithFault) (f g : Operand → Continuation) → ((x : Integer) → Alike (f (Integral x)) (g (Integral x))) → Alike (arithmetic r f) (arithmetic r g)
  result_alike (Ok x) f g h = h x
  result_alike (Err arith_fault.DivideByZero) f g h = refl
  result_alike (Err arith_fault.DivideOverflow) f g h = refl

  -- operators that have no fault, on numbers of the same types
  free_operation : (operator : BinaryOperator) (a b c d : Integer) (f g : Operand → Continuation) → is_division operator ≡ false → a.kind ≡ b.kind → c.kind ≡ d.kind
      → ((x y : Integer) → x.kind ≡ y.kind → Alike (f (Integral x)) (g (Integral y))) → Alike (arithmetic (binary_value operator a c) f) (arithmetic (binary_value operator b d) g)
  unfolding binary_value
  free_operation binary_operator.Add a b c d f g n j k h = h _ _ (ap₂ common j k)
  free_operation binary_operator.Subtract a b c d f g n j k h = h _ _ (ap₂ common j k)
  free_operation binary_operator.Multiply a b c d f g n j k h = h _ _ (ap₂ common j k)
  free_operation binary_operator.Divide a b c d f g n j k h = absurd (false≢true (sym n))
  free_operation binary_operator.Remainder a b c d f g n j k h = absurd (false≢true (sym n))
  free_operation binary_operator.ShiftLeft a b c d f g n j k h = h _ _ (ap promoted j)
  free_operation binary_operator.ShiftRight a b c d f g n j k h = h _ _ (ap promoted j)
  free_operation binary_operator.Less a b c d f g n j k h = h _ _ refl
  free_operation binary_operator.Greater a b c d f g n j k h = h _ _ refl
  free_operation binary_operator.LessOrEqual a b c d f g n j k h = h _ _ refl
  free_operation binary_operator.GreaterOrEqual a b c d f g n j k h = h _ _ refl
  free_operation binary_operator.Equal a b c d f g n j k h = h _ _ refl
  free_operation binary_operator.NotEqual a b c d f g n j k h = h _ _ refl
  free_operation binary_operator.BitAnd a b c d f g n j k h = h _ _ (ap₂ common j k)
  free_operation binary_operator.BitXor a b c d f g n j k h = h _ _ (ap₂ common j k)
  free_operation binary_operator.BitOr a b c d f g n j k h = h _ _ (ap₂ common j k)

  -- what follows an operator's value, by the label that it gets, if it may be done
  abbrev Follows : Option Label → (Operand → Continuation) → (Operand → Continuation) → Type 0
  Follows o f g = MatchOption o ⊥ (λ l. (x y : Operand) → Matches w l x y → Alike (f x) (g y))

  free_follows : (operator : BinaryOperator) (v u x y : Operand) (a b : Label) (f g : Operand → Continuation) → TwoNumbers w a v u → TwoNumbers w b x y
      → Follows (if is_division operator then None else Some label.Free) f g → Alike (binary_operation operator v x f) (binary_operation operator u y g)
  free_follows operator v u x y a b f g (are_numbers m n j s back) (are_numbers p q k t other) h = by_case (is_division operator) refl h
    where
      by_case : (d : Bool) → is_division operator ≡ d → Follows (if d then None else Some label.Free) f g → Alike (arithmetic (binary_value operator m p) f) (arithmetic (binary_value operator n q) g)
      by_case true e h = absurd h
      by_case false e h = free_operation operator m n p q f g e j k (λ z z' i. h (Integral z) (Integral z') i)

  same_follows : (operator : BinaryOperator) (v u x y : Operand) (f g : Operand → Continuation) → TwoNumbers w label.Same v u → TwoNumbers w label.Same x y
      → Follows (Some label.Same) f g → Alike (binary_operation operator v x f) (binary_operation operator u y g)
  same_follows operator v u x y f g (are_numbers m n j s back) (are_numbers p q k t other) h =
      subst (λ z. Alike (arithmetic (binary_value operator m p) f) (arithmetic (binary_value operator z q) g)) (s refl)
      (subst (λ z. Alike (arithmetic (binary_value operator m p) f) (arithmetic (binary_value operator m z) g)) (t refl)
      (result_alike (binary_value operator m p) f g (λ z. h (Integral z) (Integral z) refl)))

  -- a pointer and the same number
  pointer_first : (operator : BinaryOperator) (l : Label) (v u x y : Operand) (f g : Operand → Continuation) → OnePointer w l v u → TwoNumbers w label.Same x y
      → Follows (Some l) f g → Alike (binary_operation operator v x f) (binary_operation operator u y g)
  pointer_first operator l v u x y f g (is_one p c) (are_numbers m n k s back) h =
      subst (λ z. Alike (binary_operation operator (Pointed p) (Integral m) f) (binary_operation operator (Pointed p) (Integral z) g)) (s refl) (each operator)
    where
      each : (operator : BinaryOperator) → Alike (binary_operation operator (Pointed p) (Integral m) f) (binary_operation operator (Pointed p) (Integral m) g)
      each binary_operator.Add = h _ _ (matches_pointer w l _ c)
      each binary_operator.Subtract = h _ _ (matches_pointer w l _ c)
      each _ = tt

  pointer_second : (operator : BinaryOperator) (l : Label) (v u x y : Operand) (f g : Operand → Continuation) → TwoNumbers w label.Same v u → OnePointer w l x y
      → Follows (Some l) f g → Alike (binary_operation operator v x f) (binary_operation operator u y g)
  pointer_second operator l v u x y f g (are_numbers m n k s back) (is_one p c) h =
      subst (λ z. Alike (binary_operation operator (Integral m) (Pointed p) f) (binary_operation operator (Integral z) (Pointed p) g)) (s refl) (each operator)
    where
      each : (operator : BinaryOperator) → Alike (binary_operation operator (Integral m) (Pointed p) f) (binary_operation operator (Integral m) (Pointed p) g)
      each binary_operator.Add = h _ _ (matches_pointer w l _ c)
      each _ = tt

  pointers_end : (operator : BinaryOperator) (a b : Label) (v u x y : Operand) (f g : Operand → Continuation) → OnePointer w a v u → OnePointer w b x y
      → Alike (binary_operation operator v x f) (binary_operation operator u y g)
  pointers_end binary_operator.Add a b v u x y f g (is_one p c) (is_one q d) = tt
  pointers_end binary_operator.Subtract a b v u x y f g (is_one p c) (is_one q d) = tt
  pointers_end _ a b v u x y f g (is_one p c) (is_one q d) = tt

  plain_alike : (operator : BinaryOperator) (a b : Label) (v u x y : Operand) (f g : Operand → Continuation) → Matches w a v u → Matches w b x y
      → Follows (plain_binary operator a b) f g → Alike (binary_operation operator v x f) (binary_operation operator u y g)
  plain_alike operator label.Unset b v u x y f g m n h = absurd m
  plain_alike operator a label.Unset v u x y f g m n h = absurd n
  plain_alike operator label.Divisor b v u x y f g m n h = absurd h
  plain_alike operator a label.Divisor v u x y f g m n h = absurd h
  plain_alike operator label.Same label.Same v u x y f g m n h = same_follows operator v u x y f g (two_numbers w label.Same v u refl m) (two_numbers w label.Same x y refl n) h
  plain_alike operator label.Same label.Free v u x y f g m n h = free_follows operator v u x y label.Same label.Free f g (two_numbers w label.Same v u refl m) (two_numbers w label.Free x y refl n) h
  plain_alike operator label.Free label.Same v u x y f g m n h = free_follows operator v u x y label.Free label.Same f g (two_numbers w label.Free v u refl m) (two_numbers w label.Same x y refl n) h
  plain_alike operator label.Free label.Free v u x y f g m n h = free_follows operator v u x y label.Free label.Free f g (two_numbers w label.Free v u refl m) (two_numbers w label.Free x y refl n) h
  plain_alike operator label.Free b v u x y f g m n h = absurd h
  plain_alike operator a label.Free v u x y f g m n h = absurd h
  plain_alike operator label.Same label.ToSame v u x y f g m n h = pointer_second operator label.ToSame v u x y f g (two_numbers w label.Same v u refl m) (one_pointer w label.ToSame x y refl n) h
  plain_alike operator label.Same label.ToFree v u x y f g m n h = pointer_second operator label.ToFree v u x y f g (two_numbers w label.Same v u refl m) (one_pointer w label.ToFree x y refl n) h
  plain_alike operator label.Same label.ToAny v u x y f g m n h = pointer_second operator label.ToAny v u x y f g (two_numbers w label.Same v u refl m) (one_pointer w label.ToAny x y refl n) h
  plain_alike operator label.ToSame label.Same v u x y f g m n h = pointer_first operator label.ToSame v u x y f g (one_pointer w label.ToSame v u refl m) (two_numbers w label.Same x y refl n) h
  plain_alike operator label.ToFree label.Same v u x y f g m n h = pointer_first operator label.ToFree v u x y f g (one_pointer w label.ToFree v u refl m) (two_numbers w label.Same x y refl n) h
  plain_alike operator label.ToAny label.Same v u x y f g m n h = pointer_first operator label.ToAny v u x y f g (one_pointer w label.ToAny v u refl m) (two_numbers w label.Same x y refl n) h
  plain_alike operator label.ToSame label.ToSame v u x y f g m n h = pointers_end operator label.ToSame label.ToSame v u x y f g (one_pointer w label.ToSame v u refl m) (one_pointer w label.ToSame x y refl n)
  plain_alike operator label.ToSame label.ToFree v u x y f g m n h = pointers_end operator label.ToSame label.ToFree v u x y f g (one_pointer w label.ToSame v u refl m) (one_pointer w label.ToFree x y refl n)
  plain_alike operator label.ToSame label.ToAny v u x y f g m n h = pointers_end operator label.ToSame label.ToAny v u x y f g (one_pointer w label.ToSame v u refl m) (one_pointer w label.ToAny x y refl n)
  plain_alike operator label.ToFree label.ToSame v u x y f g m n h = pointers_end operator label.ToFree label.ToSame v u x y f g (one_pointer w label.ToFree v u refl m) (one_pointer w label.ToSame x y refl n)
  plain_alike operator label.ToFree label.ToFree v u x y f g m n h = pointers_end operator label.ToFree label.ToFree v u x y f g (one_pointer w label.ToFree v u refl m) (one_pointer w label.ToFree x y refl n)
  plain_alike operator label.ToFree label.ToAny v u x y f g m n h = pointers_end operator label.ToFree label.ToAny v u x y f g (one_pointer w label.ToFree v u refl m) (one_pointer w label.ToAny x y refl n)
  plain_alike operator label.ToAny label.ToSame v u x y f g m n h = pointers_end operator label.ToAny label.ToSame v u x y f g (one_pointer w label.ToAny v u refl m) (one_pointer w label.ToSame x y refl n)
  plain_alike operator label.ToAny label.ToFree v u x y f g m n h = pointers_end operator label.ToAny label.ToFree v u x y f g (one_pointer w label.ToAny v u refl m) (one_pointer w label.ToFree x y refl n)
  plain_alike operator label.ToAny label.ToAny v u x y f g m n h = pointers_end operator label.ToAny label.ToAny v u x y f g (one_pointer w label.ToAny v u refl m) (one_pointer w label.ToAny x y refl n)

  -- a division that doesn't fail
  divided_well : (f g : ℤ → ℤ → ℤ) (j k : IntType) (p q p' q' : ℤ) (after later : Operand → Continuation) → j ≡ k → (int_eq q (pos 0) ≡ false) × (is_in j (int_div p q) ≡ true)
      → (int_eq q' (pos 0) ≡ false) × (is_in k (int_div p' q') ≡ true) → ((x y : Integer) → x.kind ≡ y.kind → Alike (after (Integral x)) (later (Integral y)))
      → Alike (arithmetic (divided f j p q) after) (arithmetic (divided g k p' q') later)
  divided_well f g j k p q p' q' after later e a b h = go (int_eq q (pos 0)) (is_in j (int_div p q)) (int_eq q' (pos 0)) (is_in k (int_div p' q')) a.0 a.1 b.0 b.1
    where
      go : (c d c' d' : Bool) → c ≡ false → d ≡ true → c' ≡ false → d' ≡ true
          → Alike (arithmetic (if c then Err arith_fault.DivideByZero else (if d then Ok (wrapped j (f p q)) else Err arith_fault.DivideOverflow)) after)
          (arithmetic (if c' then Err arith_fault.DivideByZero else (if d' then Ok (wrapped k (g p' q')) else Err arith_fault.DivideOverflow)) later)
      go false true false true _ _ _ _ = h _ _ e
      go true d c' d' s _ _ _ = absurd (false≢true (sym s))
      go false false c' d' _ s _ _ = absurd (false≢true s)
      go false true true d' _ _ s _ = absurd (false≢true (sym s))
      go false true false false _ _ _ s = absurd (false≢true s)

  well_divided : (operator : BinaryOperator) (a b c : Integer) (f g : Operand → Continuation) → a.kind ≡ b.kind → Divides c
      → ((x y : Integer) → x.kind ≡ y.kind → Alike (f (Integral x)) (g (Integral y))) → Alike (arithmetic (binary_value operator a c) f) (arithmetic (binary_value operator b c) g)
  unfolding binary_value
  well_divided binary_operator.Divide a b c f g e d h =
      divided_well int_div int_div (common a.kind c.kind) (common b.kind c.kind) (wrap (common a.kind c.kind) a.number) (wrap (common a.kind c.kind) c.number) (wrap (common b.kind c.kind) b.number) (wrap (common b.kind c.kind) c.number) f g (ap (λ z. common z c.kind) e) (d a) (d b) h
  well_divided binary_operator.Remainder a b c f g e d h =
      divided_well remainder_of remainder_of (common a.kind c.kind) (common b.kind c.kind) (wrap (common a.kind c.kind) a.number) (wrap (common a.kind c.kind) c.number) (wrap (common b.kind c.kind) b.number) (wrap (common b.kind c.kind) c.number) f g (ap (λ z. common z c.kind) e) (d a) (d b) h
  well_divided operator a b c f g e d h = free_operation operator a b c c f g refl e refl h

  by_divisor : (operator : BinaryOperator) (a : Label) (v u x y : Operand) (f g : Operand → Continuation) → Matches w a v u → Matches w label.Divisor x y
      → Follows (divided_label operator a) f g → Alike (binary_operation operator v x f) (binary_operation operator u y g)
  by_divisor operator label.Free (Integral v) (Integral u) (Integral x) (Integral y) f g m n h =
      subst (λ z. Alike (arithmetic (binary_value operator v x) f) (arithmetic (binary_value operator u z) g)) n.0 (well_divided operator v u x f g m n.1 (λ z z' i. h (Integral z) (Integral z') i))
  by_divisor operator label.Free (Integral v) (Integral u) (Integral x) (Pointed q) f g m n h = absurd n
  by_divisor operator label.Free (Integral v) (Integral u) (Pointed p) y f g m n h = absurd n
  by_divisor operator label.Free (Integral v) (Pointed q) x y f g m n h = absurd m
  by_divisor operator label.Free (Pointed p) u x y f g m n h = absurd m
  by_divisor operator label.Unset v u x y f g m n h = absurd m
  by_divisor operator label.Same v u x y f g m n h = plain_alike operator label.Same label.Same v u x y f g m (divisor_is_same w x y n) h
  by_divisor operator label.ToSame v u x y f g m n h = plain_alike operator label.ToSame label.Same v u x y f g m (divisor_is_same w x y n) h
  by_divisor operator label.ToFree v u x y f g m n h = plain_alike operator label.ToFree label.Same v u x y f g m (divisor_is_same w x y n) h
  by_divisor operator label.ToAny v u x y f g m n h = plain_alike operator label.ToAny label.Same v u x y f g m (divisor_is_same w x y n) h
  by_divisor operator label.Divisor v u x y f g m n h = absurd h

  pub binary_alike : (operator : BinaryOperator) (a b : Label) (v u x y : Operand) (f g : Operand → Continuation) → Matches w a v u → Matches w b x y
      → Follows (binary_label operator a b) f g → Alike (binary_operation operator v x f) (binary_operation operator u y g)
  binary_alike operator a label.Divisor v u x y f g m n h = by_divisor operator (plain a) v u x y f g (plain_matches w a v u m) n h
  binary_alike operator a label.Unset v u x y f g m n h = plain_alike operator (plain a) label.Unset v u x y f g (plain_matches w a v u m) n h
  binary_alike operator a label.Same v u x y f g m n h = plain_alike operator (plain a) label.Same v u x y f g (plain_matches w a v u m) n h
  binary_alike operator a label.Free v u x y f g m n h = plain_alike operator (plain a) label.Free v u x y f g (plain_matches w a v u m) n h
  binary_alike operator a label.ToSame v u x y f g m n h = plain_alike operator (plain a) label.ToSame v u x y f g (plain_matches w a v u m) n h
  binary_alike operator a label.ToFree v u x y f g m n h = plain_alike operator (plain a) label.ToFree v u x y f g (plain_matches w a v u m) n h
  binary_alike operator a label.ToAny v u x y f g m n h = plain_alike operator (plain a) label.ToAny v u x y f g (plain_matches w a v u m) n h

  moved_once : (l : Label) (v u x y : Operand) (f g : Pointer → Continuation) → OnePointer w l v u → TwoNumbers w label.Same x y
      → ((q : Pointer) → Matches w l (Pointed q) (Pointed q) → Alike (f q) (g q)) → Alike (moved v x f) (moved u y g)
  moved_once l v u x y f g (is_one p c) (are_numbers m n k s back) h =
      subst (λ z. Alike (moved (Pointed p) (Integral m) f) (moved (Pointed p) (Integral z) g)) (s refl) (h _ (matches_pointer w l _ c))

  -- a pointer that is moved
  pub moved_alike : (a b : Label) (v u x y : Operand) (f g : Pointer → Continuation) → Matches w a v u → Matches w b x y
      → MatchOption (moved_label a b) ⊥ (λ l. (q : Pointer) → Matches w l (Pointed q) (Pointed q) → Alike (f q) (g q)) → Alike (moved v x f) (moved u y g)
  moved_alike label.Unset b v u x y f g m n h = absurd m
  moved_alike a label.Unset v u x y f g m n h = absurd n
  moved_alike label.ToSame label.Same v u x y f g m n h = moved_once label.ToSame v u x y f g (one_pointer w label.ToSame v u refl m) (two_numbers w label.Same x y refl n) h
  moved_alike label.ToFree label.Same v u x y f g m n h = moved_once label.ToFree v u x y f g (one_pointer w label.ToFree v u refl m) (two_numbers w label.Same x y refl n) h
  moved_alike label.ToAny label.Same v u x y f g m n h = moved_once label.ToAny v u x y f g (one_pointer w label.ToAny v u refl m) (two_numbers w label.Same x y refl n) h
  moved_alike _ _ v u x y f g m n h = absurd h

  -- ---- functions of integers

  abbrev SameShape : Option Integer → Option Integer → Type 0
  SameShape None None = Unit {0}
  SameShape (Some a) (Some b) = a.kind ≡ b.kind
  SameShape _ _ = ⊥

  given_alike : (o p : Option Integer) (same : Type 0) (l : Label) (f g : Operand → Continuation) → SameShape o p → (same → o ≡ p)
      → ((a b : Integer) → a.kind ≡ b.kind → (same → a ≡ b) → Matches w l (Integral a) (Integral b)) → ((x y : Operand) → Matches w l x y → Alike (f x) (g y))
      → Alike (given_value o f) (given_value p g)
  given_alike None None same l f g s e back h = tt
  given_alike None (Some b) same l f g s e back h = absurd s
  given_alike (Some a) None same l f g s e back h = absurd s
  given_alike (Some a) (Some b) same l f g s e back h = h _ _ (back a b s (λ i. some_inj a b (e i)))

  one_shape : (function : Builtin) (m n : Integer) → m.kind ≡ n.kind → SameShape (builtin_value function (m ∷ [])) (builtin_value function (n ∷ []))
  unfolding builtin_value
  one_shape builtin.Min m n k = tt
  one_shape builtin.Max m n k = tt
  one_shape builtin.Abs m n k = ap unsigned_of k
  one_shape builtin.Clz m n k = k
  one_shape builtin.Popcount m n k = k
  one_shape builtin.Rotate m n k = tt

  shape_if : (b c : Bool) (o p : Option Integer) → b ≡ c → SameShape o p → SameShape (if b then o else None) (if c then p else None)
  shape_if true true o p e s = s
  shape_if false false o p e s = tt
  shape_if true false o p e s = absurd (false≢true (sym e))
  shape_if false true o p e s = absurd (false≢true e)

  two_shape : (function : Builtin) (m n a b : Integer) → m.kind ≡ n.kind → a.kind ≡ b.kind → SameShape (builtin_value function (m ∷ a ∷ [])) (builtin_value function (n ∷ b ∷ []))
  unfolding builtin_value
  two_shape builtin.Min m n a b k j = shape_if _ _ _ _ (ap₂ is_one_type k j) k
  two_shape builtin.Max m n a b k j = shape_if _ _ _ _ (ap₂ is_one_type k j) k
  two_shape builtin.Abs m n a b k j = shape_if _ _ _ _ (ap₂ is_one_type k j) tt
  two_shape builtin.Clz m n a b k j = shape_if _ _ _ _ (ap₂ is_one_type k j) tt
  two_shape builtin.Popcount m n a b k j = shape_if _ _ _ _ (ap₂ is_one_type k j) tt
  two_shape builtin.Rotate m n a b k j = shape_if _ _ _ _ (ap₂ is_one_type k j) k

  pub of_one_alike : (function : Builtin) (l : Label) (v u : Operand) (f g : Operand → Continuation) → IsTrue (is_number l) → Matches w l v u
      → ((x y : Operand) → Matches w l x y → Alike (f x) (g y)) → Alike (integer_call function (v ∷ []) f) (integer_call function (u ∷ []) g)
  of_one_alike function l v u f g i a h =
      number_alike l v u _ _ (two_numbers w l v u i a) (λ m n k s back.
      given_alike _ _ (is_same l ≡ true) l f g (one_shape function m n k) (λ e. ap (λ z. builtin_value function (z ∷ [])) (s e)) back h)

  joined_matches : (a b : Label) (x y : Integer) → IsTrue (is_number a) → IsTrue (is_number b) → x.kind ≡ y.kind → ((is_same a ≡ true) × (is_same b ≡ true) → x ≡ y)
      → Matches w (joined a b) (Integral x) (Integral y)
  joined_matches label.Unset label.Unset x y i j k s = s (refl, refl)
  joined_matches label.Unset label.Same x y i j k s = s (refl, refl)
  joined_matches label.Unset label.Free x y i j k s = k
  joined_matches label.Same label.Unset x y i j k s = s (refl, refl)
  joined_matches label.Same label.Same x y i j k s = s (refl, refl)
  joined_matches label.Same label.Free x y i j k s = k
  joined_matches label.Free b x y i j k s = k
  joined_matches label.Unset _ x y i j k s = absurd (false≢true j)
  joined_matches label.Same _ x y i j k s = absurd (false≢true j)
  joined_matches _ b x y i j k s = absurd (false≢true i)

  pub of_two_alike : (function : Builtin) (a b : Label) (v u x y : Operand) (f g : Operand → Continuation) → IsTrue (is_number a) → IsTrue (is_number b) → Matches w a v u → Matches w b x y
      → ((x y : Operand) → Matches w (joined a b) x y → Alike (f x) (g y)) → Alike (integer_call function (v ∷ x ∷ []) f) (integer_call function (u ∷ y ∷ []) g)
  of_two_alike function a b v u x y f g i j c d h =
      number_alike a v u _ _ (two_numbers w a v u i c) (λ m n k s back.
      number_alike b x y _ _ (two_numbers w b x y j d) (λ p q k' s' back'.
      given_alike _ _ ((is_same a ≡ true) × (is_same b ≡ true)) (joined a b) f g (two_shape function m n p q k k')
      (λ e. ap₂ (λ z z'. builtin_value function (z ∷ z' ∷ [])) (s e.0) (s' e.1)) (λ z z' k'' s''. joined_matches a b z z' i j k'' s'') h))
