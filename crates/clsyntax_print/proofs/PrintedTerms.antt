-- The tokens that an expression is printed as stand for it.
use Rattle.std.proofs.Common.{◌≡◌, ℕ, suc, ◌≤◌, List, [], ◌∷◌, Bool, true, false, Some, refl, sym, ◌∙◌, ap, subst, arith}
use Rattle.std.specs.Prelude.{nat_lt}
use Rattle.std.proofs.lemmas.Bool.{ltb-false}
use Rattle.clnum.specs.declared.operators.UnaryOperator.{UnaryOperator}
use Rattle.clnum.specs.declared.operators.UnaryOperator.TheVariants as unary_operators
use Rattle.clnum.specs.declared.operators.BinaryOperator.{BinaryOperator}
use Rattle.clnum.specs.declared.operators.BinaryOperator.TheVariants.{Add, Subtract, Multiply, Divide, Remainder, ShiftLeft, ShiftRight, Less, Greater, LessOrEqual, GreaterOrEqual, Equal, NotEqual, BitAnd, BitXor, BitOr}
use Rattle.clmodel.specs.declared.tree.InfixOperator.{InfixOperator}
use Rattle.clmodel.specs.declared.tree.InfixOperator.TheVariants.{Arithmetic, LogicalAnd, LogicalOr}
use Rattle.clmodel.specs.Tree.{Term, Number, Variable, Element, ElementAddress, Dereference, Call, Unary, Cast, Binary, Choice, Terms, NoTerm, ThenTerm}
use Rattle.clsyntax_lex.specs.declared.token.Token.{Token}
use Rattle.clsyntax_lex.specs.declared.token.TokenKind.{TokenKind}
use Rattle.clsyntax_lex.specs.declared.token.TokenKind.TheVariants as kinds
use Rattle.clsyntax_terms.specs.Grammar.{Placed, put, start, level, tight, Operator, prefix_of, infix_of, Goal, Expr, Arguments, Reads, number, variable, element, address, bare_call, call, round, operator, cast, prefixed, binary, choice, one_argument, next_argument}
use Rattle.clsyntax.specs.Correct.{tokens}
use Rattle.clsyntax.proofs.SoundExpressions.{at_zero}
use Rattle.clsyntax_lex.specs.Printed.{kinds_of}
use Rattle.clsyntax_print.specs.Printing.{plain_term, plain_terms, Kinds, infix_kind, arithmetic_kind, unary_kind, bracketed, print_term, print_terms}

abbrev pub token_of : TokenKind → ℕ → Token
token_of kind at = record { kind = kind; at = at }

-- ---- tokens of known kinds

-- the first token, and those behind it
pub record First (k : TokenKind) (ks : Kinds) (ts : List Token) : Type 0 where
  pub at : ℕ
  pub rest : List Token
  pub same : ts ≡ token_of k at ∷ rest
  pub kinds : kinds_of rest ≡ ks

pub first_of_kinds : (k : TokenKind) (ks : Kinds) (ts : List Token) → kinds_of ts ≡ k ∷ ks → First k ks ts
first_of_kinds k ks [] e = let clash : [] ≡ k ∷ ks = e in absurd cc
first_of_kinds k ks (t ∷ ts) e =
    let both : t.kind ∷ kinds_of ts ≡ k ∷ ks = e in
    let head : t.kind ≡ k = cc in
    let rest : kinds_of ts ≡ ks = cc in
    record { at = t.at; rest = ts; same = ap (λ z. token_of z t.at ∷ ts) head; kinds = rest }

-- where tokens begin
abbrev pub begin : List Token → ℕ
begin [] = 0
begin (t ∷ ts) = t.at

pub begins : (ps : List Placed) (ts : List Token) → tokens ps ≡ ts → start ps ≡ begin ts
begins [] ts e = ap begin e
begins (p ∷ ps) ts e = ap begin e

-- a goal's tokens in front of placed ones
pub record Front (g : Goal) (ts : List Token) (qs : List Placed) : Type 0 where
  pub placed : List Placed
  pub same : tokens placed ≡ ts
  pub reads : Reads g placed qs

-- placed tokens behind one more
pub behind_one : {k : TokenKind} {ks : Kinds} {ts : List Token} (n : ℕ) (f : First k ks ts) (ps : List Placed) → tokens ps ≡ f.rest → tokens (put n k f.at ∷ ps) ≡ ts
behind_one {k = k} n f ps e = ap (λ z. token_of k f.at ∷ z) e ∙ sym f.same

-- What tokens that begin with a tree's stand for: a tree with the same plain form, however the tokens behind it are
-- placed.
pub record Again (A : Type 0) (G : A → Goal) (Same : A → Type 0) (rest : Kinds) (ts : List Token) : Type 0 where
  pub tree : A
  pub after : List Token
  pub kinds : kinds_of after ≡ rest
  pub same : Same tree
  pub place : (qs : List Placed) → tokens qs ≡ after → Front (G tree) ts qs

-- an expression and the nesting behind it
abbrev pub AgainTerm : (l n : ℕ) → Term → Kinds → List Token → Type 0
AgainTerm l n e rest ts = Again (Term × ℕ) (λ x. Expr l n x.0 x.1) (λ x. plain_term x.0 ≡ plain_term e) rest ts

-- arguments, at least one
abbrev pub AgainTerms : (n : ℕ) → Terms → Kinds → List Token → Type 0
AgainTerms n es rest ts = Again Terms (λ x. Arguments n x) (λ x. plain_terms x ≡ plain_terms es) rest ts

-- ---- operators

unary_prefix : (op : UnaryOperator) → prefix_of (unary_kind op) ≡ Some (Operator op)
unary_prefix unary_operators.Plus = refl
unary_prefix unary_operators.Negate = refl
unary_prefix unary_operators.Complement = refl
unary_prefix unary_operators.Not = refl

pub arithmetic_infix : (op : BinaryOperator) → infix_of (arithmetic_kind op) ≡ Some (Arithmetic op)
arithmetic_infix BitOr = refl
arithmetic_infix BitXor = refl
arithmetic_infix BitAnd = refl
arithmetic_infix Equal = refl
arithmetic_infix NotEqual = refl
arithmetic_infix Less = refl
arithmetic_infix Greater = refl
arithmetic_infix LessOrEqual = refl
arithmetic_infix GreaterOrEqual = refl
arithmetic_infix ShiftLeft = refl
arithmetic_infix ShiftRight = refl
arithmetic_infix Add = refl
arithmetic_infix Subtract = refl
arithmetic_infix Multiply = refl
arithmetic_infix Divide = refl
arithmetic_infix Remainder = refl

pub infix_infix : (op : InfixOperator) → infix_of (infix_kind op) ≡ Some op
infix_infix (Arithmetic op) = arithmetic_infix op
infix_infix LogicalAnd = refl
infix_infix LogicalOr = refl

-- ---- the rules

-- brackets round an expression
in_brackets : (b : Bool) (l j n : ℕ) (e : Term) (print : Kinds → Kinds) (rest : Kinds) (ts : List Token) → (b ≡ false → l ≤ j)
    → ((k m : ℕ) (more : Kinds) (us : List Token) → k ≤ j → kinds_of us ≡ print more → AgainTerm k m e more us)
    → kinds_of ts ≡ bracketed b print rest → AgainTerm l n e rest ts
in_brackets false l j n e print rest ts h inner s = inner l n rest ts (h refl) s
in_brackets true l j n e print rest ts h inner s =
    let open_ = first_of_kinds kinds.OpenRound (print (kinds.CloseRound ∷ rest)) ts s in
    let inside = inner 0 (suc n) (kinds.CloseRound ∷ rest) open_.rest (omega arith) open_.kinds in
    let close_ = first_of_kinds kinds.CloseRound rest inside.after inside.kinds in
    record {
      tree = (inside.tree.0, n);
      after = close_.rest;
      kinds = close_.kinds;
      same = inside.same;
      place = λ qs q. let f = inside.place (put (suc n) kinds.CloseRound close_.at ∷ qs) (behind_one (suc n) close_ qs q) in
          record { placed = put n kinds.OpenRound open_.at ∷ f.placed; same = behind_one n open_ f.placed f.same; reads = round f.reads };
    }

-- a name before brackets: `name[..]`
element_again : (l n at x : ℕ) (e : Term) (rest : Kinds) (ts : List Token)
    → ((us : List Token) → kinds_of us ≡ print_term 0 e (kinds.CloseSquare ∷ rest) → AgainTerm 0 (suc n) e (kinds.CloseSquare ∷ rest) us)
    → kinds_of ts ≡ kinds.Name x ∷ kinds.OpenSquare ∷ print_term 0 e (kinds.CloseSquare ∷ rest) → AgainTerm l n (Element at x e) rest ts
element_again l n at x e rest ts inner s =
    let name = first_of_kinds (kinds.Name x) _ ts s in
    let open_ = first_of_kinds kinds.OpenSquare _ name.rest name.kinds in
    let inside = inner open_.rest open_.kinds in
    let close_ = first_of_kinds kinds.CloseSquare rest inside.after inside.kinds in
    record {
      tree = (Element name.at x inside.tree.0, n);
      after = close_.rest;
      kinds = close_.kinds;
      same = ap (Element 0 x) inside.same;
      place = λ qs q. let f = inside.place (put (suc n) kinds.CloseSquare close_.at ∷ qs) (behind_one (suc n) close_ qs q) in
          record {
            placed = put n (kinds.Name x) name.at ∷ put n kinds.OpenSquare open_.at ∷ f.placed;
            same = behind_one n name (put n kinds.OpenSquare open_.at ∷ f.placed) (behind_one n open_ f.placed f.same);
            reads = element f.reads;
          };
    }

address_again : (l n at b x : ℕ) (e : Term) (rest : Kinds) (ts : List Token)
    → ((us : List Token) → kinds_of us ≡ print_term 0 e (kinds.CloseSquare ∷ rest) → AgainTerm 0 (suc (suc n)) e (kinds.CloseSquare ∷ rest) us)
    → kinds_of ts ≡ kinds.And ∷ kinds.Name x ∷ kinds.OpenSquare ∷ print_term 0 e (kinds.CloseSquare ∷ rest) → AgainTerm l n (ElementAddress at b x e) rest ts
address_again l n at b x e rest ts inner s =
    let and_ = first_of_kinds kinds.And _ ts s in
    let name = first_of_kinds (kinds.Name x) _ and_.rest and_.kinds in
    let open_ = first_of_kinds kinds.OpenSquare _ name.rest name.kinds in
    let inside = inner open_.rest open_.kinds in
    let close_ = first_of_kinds kinds.CloseSquare rest inside.after inside.kinds in
    record {
      tree = (ElementAddress and_.at name.at x inside.tree.0, suc n);
      after = close_.rest;
      kinds = close_.kinds;
      same = ap (ElementAddress 0 0 x) inside.same;
      place = λ qs q. let f = inside.place (put (suc (suc n)) kinds.CloseSquare close_.at ∷ qs) (behind_one (suc (suc n)) close_ qs q) in
          let opened : List Placed = put (suc n) kinds.OpenSquare open_.at ∷ f.placed in
          let named : List Placed = put (suc n) (kinds.Name x) name.at ∷ opened in
          record {
            placed = put n kinds.And and_.at ∷ named;
            same = behind_one n and_ named (behind_one (suc n) name opened (behind_one (suc n) open_ f.placed f.same));
            reads = address f.reads;
          };
    }

unary_again : (l n at : ℕ) (op : UnaryOperator) (e : Term) (rest : Kinds) (ts : List Token)
    → ((us : List Token) → kinds_of us ≡ print_term tight e rest → AgainTerm tight (suc n) e rest us)
    → kinds_of ts ≡ unary_kind op ∷ print_term tight e rest → AgainTerm l n (Unary at op e) rest ts
unary_again l n at op e rest ts inner s =
    let sign = first_of_kinds (unary_kind op) _ ts s in
    let inside = inner sign.rest sign.kinds in
    record {
      tree = (Unary sign.at op inside.tree.0, inside.tree.1);
      after = inside.after;
      kinds = inside.kinds;
      same = ap (Unary 0 op) inside.same;
      place = λ qs q. let f = inside.place qs q in
          record { placed = put n (unary_kind op) sign.at ∷ f.placed; same = behind_one n sign f.placed f.same; reads = prefixed (operator (unary_prefix op)) f.reads };
    }

fetch_again : (l n at : ℕ) (e : Term) (rest : Kinds) (ts : List Token)
    → ((us : List Token) → kinds_of us ≡ print_term tight e rest → AgainTerm tight (suc n) e rest us)
    → kinds_of ts ≡ kinds.Star ∷ print_term tight e rest → AgainTerm l n (Dereference at e) rest ts
fetch_again l n at e rest ts inner s =
    let star = first_of_kinds kinds.Star _ ts s in
    let inside = inner star.rest star.kinds in
    record {
      tree = (Dereference star.at inside.tree.0, inside.tree.1);
      after = inside.after;
      kinds = inside.kinds;
      same = ap (Dereference 0) inside.same;
      place = λ qs q. let f = inside.place qs q in
          record { placed = put n kinds.Star star.at ∷ f.placed; same = behind_one n star f.placed f.same; reads = prefixed (operator refl) f.reads };
    }

cast_again : (l n at : ℕ) (type : _) (e : Term) (rest : Kinds) (ts : List Token)
    → ((us : List Token) → kinds_of us ≡ print_term tight e rest → AgainTerm tight (suc n) e rest us)
    → kinds_of ts ≡ kinds.OpenRound ∷ kinds.Type type ∷ kinds.CloseRound ∷ print_term tight e rest → AgainTerm l n (Cast at type e) rest ts
cast_again l n at type e rest ts inner s =
    let open_ = first_of_kinds kinds.OpenRound _ ts s in
    let word = first_of_kinds (kinds.Type type) _ open_.rest open_.kinds in
    let close_ = first_of_kinds kinds.CloseRound _ word.rest word.kinds in
    let inside = inner close_.rest close_.kinds in
    record {
      tree = (Cast open_.at type inside.tree.0, inside.tree.1);
      after = inside.after;
      kinds = inside.kinds;
      same = ap (Cast 0 type) inside.same;
      place = λ qs q. let f = inside.place qs q in
          let closed : List Placed = put (suc n) kinds.CloseRound close_.at ∷ f.placed in
          let typed : List Placed = put (suc n) (kinds.Type type) word.at ∷ closed in
          record {
            placed = put n kinds.OpenRound open_.at ∷ typed;
            same = behind_one n open_ typed (behind_one (suc n) word closed (behind_one (suc n) close_ f.placed f.same));
            reads = prefixed (cast refl) f.reads;
          };
    }

binary_again : (l n at : ℕ) (op : InfixOperator) (d e : Term) (rest : Kinds) (ts : List Token) → l ≤ level op
    → ((us : List Token) (more : Kinds) → kinds_of us ≡ print_term (level op) d more → AgainTerm (level op) n d more us)
    → ((m : ℕ) (us : List Token) → kinds_of us ≡ print_term (suc (level op)) e rest → AgainTerm (suc (level op)) m e rest us)
    → kinds_of ts ≡ print_term (level op) d (infix_kind op ∷ print_term (suc (level op)) e rest) → AgainTerm l n (Binary at op d e) rest ts
binary_again l n at op d e rest ts h first second s =
    let left = first ts (infix_kind op ∷ print_term (suc (level op)) e rest) s in
    let m : ℕ = left.tree.1 in
    let sign = first_of_kinds (infix_kind op) (print_term (suc (level op)) e rest) left.after left.kinds in
    let right = second (suc m) sign.rest sign.kinds in
    record {
      tree = (Binary (begin ts) op left.tree.0 right.tree.0, right.tree.1);
      after = right.after;
      kinds = right.kinds;
      same = ap (λ z. Binary 0 op z (plain_term right.tree.0)) left.same ∙ ap (Binary 0 op (plain_term d)) right.same;
      place = λ qs q.
          let g = right.place qs q in
          let f = left.place (put m (infix_kind op) sign.at ∷ g.placed) (behind_one m sign g.placed g.same) in
          let R : ℕ → Type 0 = λ a. Reads (Expr l n (Binary a op left.tree.0 right.tree.0) right.tree.1) f.placed qs in
          record { placed = f.placed; same = f.same; reads = subst R (begins f.placed ts f.same) (binary (infix_infix op) h f.reads g.reads) };
    }

choice_again : (n at : ℕ) (c d e : Term) (rest : Kinds) (ts : List Token)
    → ((us : List Token) (more : Kinds) → kinds_of us ≡ print_term 1 c more → AgainTerm 1 n c more us)
    → ((m : ℕ) (us : List Token) (more : Kinds) → kinds_of us ≡ print_term 0 d more → AgainTerm 0 m d more us)
    → ((m : ℕ) (us : List Token) → kinds_of us ≡ print_term 0 e rest → AgainTerm 0 m e rest us)
    → kinds_of ts ≡ print_term 1 c (kinds.Question ∷ print_term 0 d (kinds.Colon ∷ print_term 0 e rest)) → AgainTerm 0 n (Choice at c d e) rest ts
choice_again n at c d e rest ts first second third s =
    let condition = first ts (kinds.Question ∷ print_term 0 d (kinds.Colon ∷ print_term 0 e rest)) s in
    let m : ℕ = condition.tree.1 in
    let question = first_of_kinds kinds.Question (print_term 0 d (kinds.Colon ∷ print_term 0 e rest)) condition.after condition.kinds in
    let middle = second (suc m) question.rest (kinds.Colon ∷ print_term 0 e rest) question.kinds in
    let o : ℕ = middle.tree.1 in
    let colon = first_of_kinds kinds.Colon (print_term 0 e rest) middle.after middle.kinds in
    let last = third o colon.rest colon.kinds in
    record {
      tree = (Choice (begin ts) condition.tree.0 middle.tree.0 last.tree.0, last.tree.1);
      after = last.after;
      kinds = last.kinds;
      same = ap (λ z. Choice 0 z (plain_term middle.tree.0) (plain_term last.tree.0)) condition.same
          ∙ (ap (λ z. Choice 0 (plain_term c) z (plain_term last.tree.0)) middle.same ∙ ap (Choice 0 (plain_term c) (plain_term d)) last.same);
      place = λ qs q.
          let h = last.place qs q in
          let g = middle.place (put o kinds.Colon colon.at ∷ h.placed) (behind_one o colon h.placed h.same) in
          let f = condition.place (put m kinds.Question question.at ∷ g.placed) (behind_one m question g.placed g.same) in
          let R : ℕ → Type 0 = λ a. Reads (Expr 0 n (Choice a condition.tree.0 middle.tree.0 last.tree.0) last.tree.1) f.placed qs in
          record { placed = f.placed; same = f.same; reads = subst R (begins f.placed ts f.same) (choice f.reads g.reads h.reads) };
    }

-- ---- calls

bare_again : (l n at x : ℕ) (rest : Kinds) (ts : List Token) → kinds_of ts ≡ kinds.Name x ∷ kinds.OpenRound ∷ kinds.CloseRound ∷ rest → AgainTerm l n (Call at x NoTerm) rest ts
bare_again l n at x rest ts s =
    let name = first_of_kinds (kinds.Name x) _ ts s in
    let open_ = first_of_kinds kinds.OpenRound _ name.rest name.kinds in
    let close_ = first_of_kinds kinds.CloseRound rest open_.rest open_.kinds in
    record {
      tree = (Call name.at x NoTerm, n);
      after = close_.rest;
      kinds = close_.kinds;
      same = refl;
      place = λ qs q. let closed : List Placed = put (suc n) kinds.CloseRound close_.at ∷ qs in
          let opened : List Placed = put n kinds.OpenRound open_.at ∷ closed in
          record { placed = put n (kinds.Name x) name.at ∷ opened; same = behind_one n name opened (behind_one n open_ closed (behind_one (suc n) close_ qs q)); reads = bare_call };
    }

call_again : (l n at x : ℕ) (es : Terms) (rest : Kinds) (ts : List Token)
    → ((us : List Token) → kinds_of us ≡ print_terms es (kinds.CloseRound ∷ rest) → AgainTerms n es (kinds.CloseRound ∷ rest) us)
    → kinds_of ts ≡ kinds.Name x ∷ kinds.OpenRound ∷ print_terms es (kinds.CloseRound ∷ rest) → AgainTerm l n (Call at x es) rest ts
call_again l n at x es rest ts inner s =
    let name = first_of_kinds (kinds.Name x) _ ts s in
    let open_ = first_of_kinds kinds.OpenRound _ name.rest name.kinds in
    let inside = inner open_.rest open_.kinds in
    let close_ = first_of_kinds kinds.CloseRound rest inside.after inside.kinds in
    record {
      tree = (Call name.at x inside.tree, n);
      after = close_.rest;
      kinds = close_.kinds;
      same = ap (Call 0 x) inside.same;
      place = λ qs q. let f = inside.place (put (suc n) kinds.CloseRound close_.at ∷ qs) (behind_one (suc n) close_ qs q) in
          let opened : List Placed = put n kinds.OpenRound open_.at ∷ f.placed in
          record { placed = put n (kinds.Name x) name.at ∷ opened; same = behind_one n name opened (behind_one n open_ f.placed f.same); reads = call f.reads };
    }

one_again : (n : ℕ) (e : Term) (rest : Kinds) (ts : List Token) → AgainTerm 0 (suc n) e rest ts → AgainTerms n (ThenTerm NoTerm e) rest ts
one_again n e rest ts last = record {
  tree = ThenTerm NoTerm last.tree.0;
  after = last.after;
  kinds = last.kinds;
  same = ap (ThenTerm NoTerm) last.same;
  place = λ qs q. let f = last.place qs q in record { placed = f.placed; same = f.same; reads = one_argument f.reads };
}

more_again : (n : ℕ) (es : Terms) (e : Term) (rest : Kinds) (ts : List Token)
    → ((more : Kinds) → kinds_of ts ≡ print_terms es more → AgainTerms n es more ts)
    → ((us : List Token) → kinds_of us ≡ print_term 0 e rest → AgainTerm 0 (suc n) e rest us)
    → kinds_of ts ≡ print_terms es (kinds.Comma ∷ print_term 0 e rest) → AgainTerms n (ThenTerm es e) rest ts
more_again n es e rest ts first second s =
    let before = first (kinds.Comma ∷ print_term 0 e rest) s in
    let comma = first_of_kinds kinds.Comma (print_term 0 e rest) before.after before.kinds in
    let last = second comma.rest comma.kinds in
    record {
      tree = ThenTerm before.tree last.tree.0;
      after = last.after;
      kinds = last.kinds;
      same = ap (λ z. ThenTerm z (plain_term last.tree.0)) before.same ∙ ap (ThenTerm (plain_terms es)) last.same;
      place = λ qs q. let g = last.place qs q in
          let f = before.place (put (suc n) kinds.Comma comma.at ∷ g.placed) (behind_one (suc n) comma g.placed g.same) in
          record { placed = f.placed; same = f.same; reads = next_argument f.reads g.reads };
    }

abbrev pub IsSome : Terms → Type 0
IsSome NoTerm = ⊥
IsSome (ThenTerm es e) = Unit {0}

-- a call with arguments or without
either_again : (l n at x : ℕ) (es : Terms) (rest : Kinds) (ts : List Token)
    → (IsSome es → (us : List Token) → kinds_of us ≡ print_terms es (kinds.CloseRound ∷ rest) → AgainTerms n es (kinds.CloseRound ∷ rest) us)
    → kinds_of ts ≡ kinds.Name x ∷ kinds.OpenRound ∷ print_terms es (kinds.CloseRound ∷ rest) → AgainTerm l n (Call at x es) rest ts
either_again l n at x NoTerm rest ts inner s = bare_again l n at x rest ts s
either_again l n at x (ThenTerm es e) rest ts inner s = call_again l n at x (ThenTerm es e) rest ts (inner tt) s

-- the first argument or a further one
some_again : (n : ℕ) (es : Terms) (e : Term) (rest : Kinds) (ts : List Token)
    → (IsSome es → (more : Kinds) → kinds_of ts ≡ print_terms es more → AgainTerms n es more ts)
    → ((us : List Token) → kinds_of us ≡ print_term 0 e rest → AgainTerm 0 (suc n) e rest us)
    → kinds_of ts ≡ print_terms (ThenTerm es e) rest → AgainTerms n (ThenTerm es e) rest ts
some_again n NoTerm e rest ts first second s = one_again n e rest ts (second ts s)
some_again n (ThenTerm es d) e rest ts first second s = more_again n (ThenTerm es d) e rest ts (first tt) second s

-- ---- every expression

mutual
  pub term_again : (e : Term) (l n : ℕ) (rest : Kinds) (ts : List Token) → kinds_of ts ≡ print_term l e rest → AgainTerm l n e rest ts
  term_again (Number at v) l n rest ts s =
      let f = first_of_kinds (kinds.Number v) rest ts s in
      record { tree = (Number f.at v, n); after = f.rest; kinds = f.kinds; same = refl; place = λ qs q. record { placed = put n (kinds.Number v) f.at ∷ qs; same = behind_one n f qs q; reads = number } }
  term_again (Variable at x) l n rest ts s =
      let f = first_of_kinds (kinds.Name x) rest ts s in
      record { tree = (Variable f.at x, n); after = f.rest; kinds = f.kinds; same = refl; place = λ qs q. record { placed = put n (kinds.Name x) f.at ∷ qs; same = behind_one n f qs q; reads = variable } }
  term_again (Element at x e) l n rest ts s = element_again l n at x e rest ts (λ us t. term_again e 0 (suc n) (kinds.CloseSquare ∷ rest) us t) s
  term_again (ElementAddress at b x e) l n rest ts s = address_again l n at b x e rest ts (λ us t. term_again e 0 (suc (suc n)) (kinds.CloseSquare ∷ rest) us t) s
  term_again (Dereference at e) l n rest ts s = fetch_again l n at e rest ts (λ us t. term_again e tight (suc n) rest us t) s
  term_again (Call at x es) l n rest ts s = either_again l n at x es rest ts (λ h us t. terms_again es n (kinds.CloseRound ∷ rest) us h t) s
  term_again (Unary at op e) l n rest ts s = unary_again l n at op e rest ts (λ us t. term_again e tight (suc n) rest us t) s
  term_again (Cast at type e) l n rest ts s = cast_again l n at type e rest ts (λ us t. term_again e tight (suc n) rest us t) s
  term_again (Binary at op d e) l n rest ts s =
      in_brackets (nat_lt (level op) l) l (level op) n (Binary at op d e) (λ more. print_term (level op) d (infix_kind op ∷ print_term (suc (level op)) e more)) rest ts (ltb-false (level op) l)
      (λ k m more us h t. binary_again k m at op d e more us h (λ vs others y. term_again d (level op) m others vs y) (λ o vs y. term_again e (suc (level op)) o more vs y) t) s
  term_again (Choice at c d e) l n rest ts s =
      in_brackets (nat_lt 0 l) l 0 n (Choice at c d e) (λ more. print_term 1 c (kinds.Question ∷ print_term 0 d (kinds.Colon ∷ print_term 0 e more))) rest ts (ltb-false 0 l)
      (λ k m more us h t. at_zero (λ j. AgainTerm j m (Choice at c d e) more us)
      (choice_again m at c d e more us (λ vs others y. term_again c 1 m others vs y) (λ o vs others y. term_again d 0 o others vs y) (λ o vs y. term_again e 0 o more vs y) t) k h) s

  pub terms_again : (es : Terms) (n : ℕ) (rest : Kinds) (ts : List Token) → IsSome es → kinds_of ts ≡ print_terms es rest → AgainTerms n es rest ts
  terms_again NoTerm n rest ts h s = absurd h
  terms_again (ThenTerm es e) n rest ts h s = some_again n es e rest ts (λ k more t. terms_again es n more ts k t) (λ us t. term_again e 0 (suc n) rest us t) s
