-- How tightly operators bind.
use Rattle.std.proofs.Common.{◌≡◌, ℕ, suc, ◌≤◌, ◌<◌, List, [], ◌∷◌, Option, Some, None, cond, refl, ap, ◌∙◌, arith}
use Rattle.std.proofs.lemmas.Bool.{lt-ltb, le-ltb}
use Rattle.clnum.specs.declared.operators.BinaryOperator.{BinaryOperator}
use Rattle.clnum.specs.declared.operators.BinaryOperator.TheVariants.{BitOr, BitXor, BitAnd, Equal, NotEqual, Less, Greater, LessOrEqual, GreaterOrEqual, ShiftLeft, ShiftRight, Add, Subtract, Multiply, Divide, Remainder}
use Rattle.clmodel.specs.declared.tree.InfixOperator.{InfixOperator}
use Rattle.clmodel.specs.declared.tree.InfixOperator.TheVariants.{Arithmetic, LogicalAnd, LogicalOr}
use Rattle.clmodel.specs.Tree.{Term, Binary, Choice}
use Rattle.clsyntax_lex.specs.declared.token.Token.{Token}
use Rattle.clsyntax_lex.specs.declared.token.TokenKind.{TokenKind}
use Rattle.clsyntax_lex.specs.declared.token.TokenKind.TheVariants as kinds
use Rattle.clmodel.specs.Tree.{arithmetic_level}
use Rattle.clsyntax_terms.specs.Grammar.{Placed, infix_of, level, tight}
use Rattle.clsyntax_terms.specs.Machine.{Frame, After, Before, Conditional, Chosen, InBehind, Operand, Moved, go, folded, close, asked_level, after_folded, on_expression_read, unless_behind, wait, ask}

-- An operand behind these frames is of this level at least.
abbrev pub reach : List Frame → ℕ
reach (After from op d ∷ fs) = suc (level op)
reach (Before at p ∷ fs) = tight
reach (InBehind is_step at n ∷ fs) = tight
reach _ = 0

-- what a token asks of the operators before it
abbrev pub asks : TokenKind → ℕ
asks kind = asked_level (infix_of kind) kind

-- no bracket that would go on with a name
abbrev pub IsNoOpening : TokenKind → Type 0
IsNoOpening kinds.OpenRound = ⊥
IsNoOpening kinds.OpenSquare = ⊥
IsNoOpening _ = Unit {0}

-- the next token ends an expression of a level
pub record EndsAt (l : ℕ) (kind : TokenKind) : Type 0 where
  pub level_ : asks kind ≤ l
  pub no_opening : IsNoOpening kind

abbrev pub Follows : ℕ → List Placed → Type 0
Follows l [] = ⊥
Follows l (q ∷ qs) = EndsAt l q.token.kind

arithmetic_low : (op : BinaryOperator) → 2 ≤ arithmetic_level op
arithmetic_low BitOr = omega arith
arithmetic_low BitXor = omega arith
arithmetic_low BitAnd = omega arith
arithmetic_low Equal = omega arith
arithmetic_low NotEqual = omega arith
arithmetic_low Less = omega arith
arithmetic_low Greater = omega arith
arithmetic_low LessOrEqual = omega arith
arithmetic_low GreaterOrEqual = omega arith
arithmetic_low ShiftLeft = omega arith
arithmetic_low ShiftRight = omega arith
arithmetic_low Add = omega arith
arithmetic_low Subtract = omega arith
arithmetic_low Multiply = omega arith
arithmetic_low Divide = omega arith
arithmetic_low Remainder = omega arith

pub level_low : (op : InfixOperator) → 2 ≤ level op
level_low (Arithmetic op) = arithmetic_low op
level_low LogicalAnd = omega arith
level_low LogicalOr = omega arith

arithmetic_high : (op : BinaryOperator) → arithmetic_level op < tight
arithmetic_high BitOr = omega arith
arithmetic_high BitXor = omega arith
arithmetic_high BitAnd = omega arith
arithmetic_high Equal = omega arith
arithmetic_high NotEqual = omega arith
arithmetic_high Less = omega arith
arithmetic_high Greater = omega arith
arithmetic_high LessOrEqual = omega arith
arithmetic_high GreaterOrEqual = omega arith
arithmetic_high ShiftLeft = omega arith
arithmetic_high ShiftRight = omega arith
arithmetic_high Add = omega arith
arithmetic_high Subtract = omega arith
arithmetic_high Multiply = omega arith
arithmetic_high Divide = omega arith
arithmetic_high Remainder = omega arith

pub level_high : (op : InfixOperator) → level op < tight
level_high (Arithmetic op) = arithmetic_high op
level_high LogicalAnd = omega arith
level_high LogicalOr = omega arith

infix_no_opening : (k : TokenKind) (op : InfixOperator) → infix_of k ≡ Some op → IsNoOpening k
infix_no_opening kinds.OpenRound op e = let clash : None ≡ Some op = e in cc
infix_no_opening kinds.OpenSquare op e = let clash : None ≡ Some op = e in cc
infix_no_opening _ op e = tt

pub infix_follows : (k : TokenKind) (op : InfixOperator) → infix_of k ≡ Some op → EndsAt (level op) k
infix_follows k op e = record { level_ = (let h : asks k ≡ level op = ap (λ o. asked_level o k) e in omega arith); no_opening = infix_no_opening k op e }

pub question_follows : EndsAt 1 kinds.Question
question_follows = record { level_ = omega arith; no_opening = tt }

pub looser_follows : (l m : ℕ) (ps : List Placed) → l ≤ m → Follows l ps → Follows m ps
looser_follows l m [] h f = f
looser_follows l m (p ∷ ps) h f = record { level_ = (let g = f.level_ in omega arith); no_opening = f.no_opening }

asked_high : (o : Option InfixOperator) (k : TokenKind) → asked_level o k ≤ tight
asked_high (Some op) k = let h = level_high op in omega arith
asked_high None kinds.Question = omega arith
asked_high None _ = omega arith

-- every token that ends an expression ends an operand
pub looser_tight : (l : ℕ) (ps : List Placed) → Follows l ps → Follows tight ps
looser_tight l [] f = f
looser_tight l (p ∷ ps) f = record { level_ = asked_high (infix_of p.token.kind) p.token.kind; no_opening = f.no_opening }

-- a token that is no operator and no opening bracket ends any expression
pub ends : (k : TokenKind) → asks k ≡ 0 → IsNoOpening k → EndsAt 0 k
ends k e h = record { level_ = omega arith; no_opening = h }

pub no_less : (n : ℕ) → n ≤ n
no_less n = omega arith

-- frames that demand no more than an operator's level, or that of `?`, stay
pub close_stays : (k from : ℕ) (e : Term) (fs : List Frame) → 1 ≤ k → k < tight → reach fs ≤ k → close k from e fs ≡ folded from e fs
close_stays k from e (After b op d ∷ fs) low high h = ap (λ t. cond t (folded from e (After b op d ∷ fs)) (close k b (Binary b op d e) fs)) (lt-ltb (level op) k h)
close_stays k from e (Before b p ∷ fs) low high h = absurd (let g : tight ≤ k = h in omega arith)
close_stays k from e (Chosen b c d ∷ fs) low high h = ap (λ t. cond t (folded from e (Chosen b c d ∷ fs)) (close k b (Choice b c d e) fs)) (lt-ltb 0 k low)
close_stays k from e _ low high h = refl

-- an operator that binds at least so tightly is taken
pub close_takes : (k b from : ℕ) (op : InfixOperator) (d e : Term) (fs : List Frame) → k ≤ level op → close k from e (After b op d ∷ fs) ≡ close k b (Binary b op d e) fs
close_takes k b from op d e fs h = ap (λ t. cond t (folded from e (After b op d ∷ fs)) (close k b (Binary b op d e) fs)) (le-ltb (level op) k h)

-- a choice is taken where nothing is asked
pub close_chooses : (k b from : ℕ) (c d e : Term) (fs : List Frame) → k ≤ 0 → close k from e (Chosen b c d ∷ fs) ≡ close k b (Choice b c d e) fs
close_chooses k b from c d e fs h = ap (λ t. cond t (folded from e (Chosen b c d ∷ fs)) (close k b (Choice b c d e) fs)) (le-ltb 0 k h)

-- so at each token that may end the operator's expression
pub taken : (m b from : ℕ) (op : InfixOperator) (d e : Term) (fs : List Frame) (t : Token) → asks t.kind ≤ level op → on_expression_read m from e (After b op d ∷ fs) t ≡ on_expression_read m b (Binary b op d e) fs t
taken m b from op d e fs t h = ap (λ x. after_folded (infix_of t.kind) t.kind m x) (close_takes (asks t.kind) b from op d e fs h)

pub chosen_taken : (m b from : ℕ) (c d e : Term) (fs : List Frame) (t : Token) → asks t.kind ≤ 0 → on_expression_read m from e (Chosen b c d ∷ fs) t ≡ on_expression_read m b (Choice b c d e) fs t
chosen_taken m b from c d e fs t h = ap (λ x. after_folded (infix_of t.kind) t.kind m x) (close_chooses (asks t.kind) b from c d e fs h)

pub not_behind : (fs : List Frame) (x : Moved) → reach fs < tight → unless_behind fs x ≡ x
not_behind (InBehind is_step a n ∷ fs) x h = absurd (let g : tight < tight = h in omega arith)
not_behind _ x h = refl

pub operator_step : (k : TokenKind) (op : InfixOperator) (m from : ℕ) (d : Term) (fs : List Frame) → infix_of k ≡ Some op → reach fs ≤ level op
    → after_folded (infix_of k) k m (close (asks k) from d fs) ≡ go m (Operand (suc m)) (After from op d ∷ fs)
operator_step k op m from d fs i h =
    let low = level_low op in
    let high = level_high op in
    ap (λ o. after_folded o k m (close (asked_level o k) from d fs)) i ∙ (ap (wait m op) (close_stays (level op) from d fs (omega arith) high h) ∙ not_behind fs _ (omega arith))

pub question_step : (m from : ℕ) (d : Term) (fs : List Frame) → reach fs ≤ 1 → after_folded None kinds.Question m (close 1 from d fs) ≡ go m (Operand (suc m)) (Conditional from d ∷ fs)
question_step m from d fs h = ap (ask m) (close_stays 1 from d fs (omega arith) (omega arith) h) ∙ not_behind fs _ (omega arith)
