-- In statements and types, what the machine reads is in the grammar.
use Rattle.std.proofs.Common.{◌≡◌, ℕ, suc, List, ◌∷◌, Bool, true, false, Option, Some, None, refl, sym, ap, subst}
use Rattle.clnum.specs.Integer as whole
use Rattle.clnum.specs.declared.int_type.IntType.{IntType}
use Rattle.clnum.specs.declared.operators.BinaryOperator.{BinaryOperator}
use Rattle.clmodel.specs.declared.tree.AddressSpace.{AddressSpace}
use Rattle.clmodel.specs.declared.tree.AddressSpace.TheVariants.{Local}
use Rattle.clmodel.specs.declared.tree.VariableType.{VariableType}
use Rattle.clmodel.specs.declared.tree.VariableType.TheVariants.{Integer}
use Rattle.clmodel.specs.Tree.{Term, Target, TargetVariable, Stmt, Block, Declare, DeclareArray, Step, If, IfElse, While, For, Break, Continue, Stmts, ThenStmt, MaybeStmt, Without, MaybeTerm, Funcs, ThenFunc}
use Rattle.clsyntax_lex.specs.declared.token.Token.{Token}
use Rattle.clsyntax_lex.specs.declared.token.TokenKind.{TokenKind}
use Rattle.clsyntax_lex.specs.declared.token.TokenKind.TheVariants as kinds
use Rattle.clsyntax_terms.specs.Grammar.{Placed, put, Head, with_body, IsNoElse, type_of, assign_of, step_of, parameter_of, Statement, Typing, Declaration, Reads, variable_target, step_before, step_behind, empty, block, if_only, if_else, while_loop, for_loop, no_initial, no_final, break_only, continue_only, integer, pointer, const_pointer, declare, array, local_array, no_items, statement, parameter, first_parameter, next_parameter, function}
use Rattle.clsyntax_terms.specs.Machine as machine
use Rattle.clsyntax_terms.specs.Machine.{Frame, InStep, InAssign, InDeclare, InItems, InBlock, InBody, InHead, InInitial, InFinal, Then, Otherwise, Turns, DoTurns, ForTurns, InProgram, Purpose, ForParameter, ForDeclaration, takes_size, nesting_of, Item, Begin, Aim, BeginName, TargetRead, Ended, Closing, StatementRead, AfterIf, AfterWhile, AfterFor, AfterDo, AfterSpace, AfterConst, AfterElement, AfterTyping, Declared, ArrayNamed, ArrayOpened, ArraySized, ArrayClosed, end_step, add_declaration, ends_simple, on_typing, on_after_const, on_local_name, on_array, on_parameter_name, on_typed_name, on_close_brace, on_placed, on_target_read, begin_call, on_simple, on_begin, on_item, Settled, settle, is_else, on_settled, add_parameter}
use Rattle.clsyntax.proofs.Stands.{AnExpr, AnItem, AStatement, AnInitial, ASimple, AfterOne, AFunction, target_need, purpose_need, at_of, Stands, in_program, first, next, after_one, in_body, in_block, in_items, as_item, as_statement, as_initial, in_then, in_otherwise, in_turns, in_do_turns, in_for_turns, in_initial, in_condition, in_final, in_if, in_while, in_do, in_return, declared_initially, in_step, in_part, in_behind, in_assign, in_declare, call_open, HasTarget, has_target, HasStatement, HasEnded, HasClosing, HasBody, HasSpace, HasElement, HasTyping, parameter_typing, declaration_typing, initial_typing, HasDeclared, has_declared, has_initial, HasArrayName, HasArray, HasLength, HasClosed, KeepsFrom, Keeps, Safe, kept}
use Rattle.clsyntax.proofs.SoundExpressions.{declared_added, end_kind, safe_ends_simple}

-- ---- types

typing_of : (p : Purpose) (a : ℕ) (k : TokenKind) {w rest qs : List Placed} {fs : List Frame} {kind : VariableType}
    → Stands w (purpose_need p) fs (put (nesting_of p) k (at_of p a) ∷ rest) → Reads (Typing (takes_size p) (nesting_of p) kind) (put (nesting_of p) k (at_of p a) ∷ rest) qs → HasTyping w p kind fs qs
typing_of (ForParameter u) a k s r = parameter_typing s r
typing_of (ForDeclaration b n) a k s r = declaration_typing s r

pub word_of : (u : Bool) (type : IntType) → type_of u (kinds.Type type) ≡ Some type
word_of true type = refl
word_of false type = refl

pub safe_typing : (p : Purpose) (fs : List Frame) (kind : TokenKind) (w qs : List Placed) (a : ℕ)
    → KeepsFrom w qs (λ k. Stands w (purpose_need p) fs (put k kind (at_of p a) ∷ qs)) (on_typing p fs kind)
safe_typing p fs (kinds.Type type) w qs a = λ h. typing_of p a (kinds.Type type) h (integer (word_of (takes_size p) type))
safe_typing (ForParameter true) fs kinds.SizeT w qs a = λ h. typing_of (ForParameter true) a kinds.SizeT h (integer refl)
safe_typing (ForParameter false) fs kinds.SizeT w qs a = tt
safe_typing (ForDeclaration b n) fs kinds.SizeT w qs a = λ h. typing_of (ForDeclaration b n) a kinds.SizeT h (integer refl)
safe_typing p fs (kinds.Space space) w qs a = λ h. record { at = a; const_at = 0; stands = h }
safe_typing p fs _ w qs a = tt

safe_element : (p : Purpose) (space : AddressSpace) (c : Bool) (fs : List Frame) (kind : TokenKind) (w qs : List Placed) (a : ℕ) → KeepsFrom w qs (λ k. HasSpace w p space c fs (put k kind a ∷ qs)) (on_after_const p space c fs kind)
safe_element p space c fs (kinds.Type type) w qs a = λ h. record { at = a; word = kinds.Type type; names = word_of (takes_size p) type; before = h }
safe_element (ForParameter true) space c fs kinds.SizeT w qs a = λ h. record { at = a; word = kinds.SizeT; names = refl; before = h }
safe_element (ForParameter false) space c fs kinds.SizeT w qs a = tt
safe_element (ForDeclaration b n) space c fs kinds.SizeT w qs a = λ h. record { at = a; word = kinds.SizeT; names = refl; before = h }
safe_element p space c fs _ w qs a = tt

pub safe_after_space : (p : Purpose) (space : AddressSpace) (fs : List Frame) (kind : TokenKind) → Safe (AfterSpace p space) fs kind
safe_after_space p space fs kinds.Const = λ w qs b h. record { at = h.at; const_at = b; stands = h.stands }
safe_after_space p space fs kind = λ w qs a. safe_element p space false fs kind w qs a

pub safe_after_const : (p : Purpose) (space : AddressSpace) (fs : List Frame) (kind : TokenKind) → Safe (AfterConst p space) fs kind
safe_after_const p space fs kind = λ w qs a. safe_element p space true fs kind w qs a

-- a local array's name
local_named : {w qs : List Placed} {fs : List Frame} {n a b x : ℕ} {type : IntType} → HasElement w (ForDeclaration a n) Local false type fs (put n (kinds.Name x) b ∷ qs) → HasArrayName w n a true type b x fs qs
local_named {n = n} {a = a} {b = b} {x = x} {type = type} e = record {
  from = _;
  stands = e.before.stands;
  reads = λ c d g h v rs same.
      let R : List Placed → Type 0 = λ z. Reads (Declaration n (DeclareArray a true type b x d v)) (put n (kinds.Space Local) a ∷ put n e.word e.at ∷ put n (kinds.Name x) b ∷ z) rs in
      subst R (sym same) (local_array e.names);
}

safe_local_name : (p : Purpose) (space : AddressSpace) (c : Bool) (type : IntType) (x : ℕ) (fs : List Frame) (w qs : List Placed) (a : ℕ)
    → Keeps w (AfterElement p space c type) fs (record { kind = kinds.Name x; at = a }) qs (on_local_name p space c type a x fs)
safe_local_name (ForDeclaration b n) Local false type x fs w qs a = local_named
safe_local_name _ _ _ type x fs w qs a = tt

pub safe_after_element : (p : Purpose) (space : AddressSpace) (c : Bool) (type : IntType) (fs : List Frame) (kind : TokenKind) → Safe (AfterElement p space c type) fs kind
safe_after_element p space false type fs kinds.Star = λ w qs a h. typing_of p h.before.at (kinds.Space space) h.before.stands (pointer h.names)
safe_after_element p space true type fs kinds.Star = λ w qs a h. typing_of p h.before.at (kinds.Space space) h.before.stands (const_pointer h.names)
safe_after_element p space c type fs (kinds.Name x) = λ w qs a. safe_local_name p space c type x fs w qs a
safe_after_element p space c type fs _ = λ w qs a. tt

parameter_end : {w qs : List Placed} {fs : List Frame} {u : Bool} {h : Head} {kind : VariableType} {x d : ℕ}
    → HasTyping w (ForParameter u) kind (InHead h ∷ fs) (put 1 (kinds.Name x) d ∷ qs) → Stands w (AfterOne u) (InHead (add_parameter (parameter_of kind d x) h) ∷ fs) qs
parameter_end (parameter_typing (first s o) r) = after_one s o (first_parameter (parameter r))
parameter_end (parameter_typing (next s o q) r) = after_one s o (next_parameter q (parameter r))

safe_parameter_name : (u : Bool) (kind : VariableType) (x : ℕ) (fs : List Frame) (w qs : List Placed) (a : ℕ)
    → Keeps w (AfterTyping (ForParameter u) kind) fs (record { kind = kinds.Name x; at = a }) qs (on_parameter_name u (parameter_of kind a x) fs)
safe_parameter_name u kind x (InHead h ∷ fs) w qs a = parameter_end
safe_parameter_name u kind x _ w qs a = tt

declared_name : {w qs : List Placed} {fs : List Frame} {n a x d : ℕ} {kind : VariableType} → HasTyping w (ForDeclaration a n) kind fs (put n (kinds.Name x) d ∷ qs) → HasDeclared w n a kind d x fs qs
declared_name (declaration_typing s r) = has_declared s r
declared_name (initial_typing s i) = has_initial s i

safe_typed_name : (p : Purpose) (kind : VariableType) (x : ℕ) (fs : List Frame) (w qs : List Placed) (a : ℕ)
    → Keeps w (AfterTyping p kind) fs (record { kind = kinds.Name x; at = a }) qs (on_typed_name p kind a x fs)
safe_typed_name (ForParameter u) kind x fs w qs a = safe_parameter_name u kind x fs w qs a
safe_typed_name (ForDeclaration b n) kind x fs w qs a = declared_name

pub safe_after_typing : (p : Purpose) (kind : VariableType) (fs : List Frame) (word : TokenKind) → Safe (AfterTyping p kind) fs word
safe_after_typing p kind fs (kinds.Name x) = λ w qs a. safe_typed_name p kind x fs w qs a
safe_after_typing p kind fs _ = λ w qs a. tt

-- ---- declarations

value_begins : {w qs : List Placed} {fs : List Frame} {n a b x c : ℕ} {kind : VariableType} → HasDeclared w n a kind b x fs (put n kinds.Assign c ∷ qs) → Stands w (AnExpr n) (InDeclare a n kind b x ∷ fs) qs
value_begins (has_declared s r) = in_declare s r
value_begins (has_initial s i) = declared_initially s i

declare_end : {w qs : List Placed} {fs : List Frame} {n a b x c k : ℕ} {kind : VariableType} {ss : Stmts} → HasDeclared w n a kind b x (InItems k ss ∷ fs) (put n kinds.Semicolon c ∷ qs)
    → Stands w (AnItem n) (InItems k (ThenStmt ss (Declare a kind b x)) ∷ fs) qs
declare_end (has_declared s r) = declared_added s (declare r)
declare_end (has_initial s i) = elim s [ ]

safe_declare_end : (n a : ℕ) (kind : VariableType) (b x : ℕ) (fs : List Frame) (w qs : List Placed) (c : ℕ)
    → Keeps w (Declared n a kind b x) fs (record { kind = kinds.Semicolon; at = c }) qs (add_declaration n (Declare a kind b x) fs)
safe_declare_end n a kind b x (InItems k ss ∷ fs) w qs c = declare_end
safe_declare_end n a kind b x _ w qs c = tt

-- ---- arrays

length_begins : {w qs : List Placed} {fs : List Frame} {n a b x c k : ℕ} {type : IntType} {ss : Stmts} → HasDeclared w n a (Integer type) b x (InItems k ss ∷ fs) (put n kinds.OpenSquare c ∷ qs)
    → HasArray w n a false type b x (InItems k ss ∷ fs) qs
length_begins {n = n} {b = b} {x = x} {c = c} {type = type} (has_declared s (integer {a = a} {k = word} i)) = record {
  from = _;
  stands = s;
  reads = λ d g h v rs same.
      let R : List Placed → Type 0 = λ z. Reads (Declaration n (DeclareArray a false type b x d v)) (put n word a ∷ put n (kinds.Name x) b ∷ put n kinds.OpenSquare c ∷ z) rs in
      subst R (sym same) (array i);
}
length_begins (has_initial s i) = elim s [ ]

safe_array : (n a : ℕ) (kind : VariableType) (b x : ℕ) (fs : List Frame) (w qs : List Placed) (c : ℕ)
    → Keeps w (Declared n a kind b x) fs (record { kind = kinds.OpenSquare; at = c }) qs (on_array n a kind b x fs)
safe_array n a (Integer type) b x (InItems k ss ∷ fs) w qs c = length_begins
safe_array n a _ b x _ w qs c = tt

array_named : {w qs : List Placed} {fs : List Frame} {n a b x c : ℕ} {u : Bool} {type : IntType} → HasArrayName w n a u type b x fs (put n kinds.OpenSquare c ∷ qs) → HasArray w n a u type b x fs qs
array_named {n = n} {c = c} e = record { from = e.from; stands = e.stands; reads = λ d g h v rs same. e.reads c d g h v rs (ap (λ z. put n kinds.OpenSquare c ∷ z) same) }

pub safe_array_named : (n a : ℕ) (u : Bool) (type : IntType) (b x : ℕ) (fs : List Frame) (kind : TokenKind) → Safe (ArrayNamed n a u type b x) fs kind
safe_array_named n a u type b x fs kinds.OpenSquare = λ w qs c. array_named
safe_array_named n a u type b x fs _ = λ w qs c. tt

array_sized : {w qs : List Placed} {fs : List Frame} {n a b x d : ℕ} {u : Bool} {type : IntType} {v : whole.Integer} → HasArray w n a u type b x fs (put (suc n) (kinds.Number v) d ∷ qs) → HasLength w n (DeclareArray a u type b x d v) fs qs
array_sized {n = n} {d = d} {v = v} e = record { from = e.from; stands = e.stands; reads = λ g h rs same. e.reads d g h v rs (ap (λ z. put (suc n) (kinds.Number v) d ∷ z) same) }

pub safe_array_opened : (n a : ℕ) (u : Bool) (type : IntType) (b x : ℕ) (fs : List Frame) (kind : TokenKind) → Safe (ArrayOpened n a u type b x) fs kind
safe_array_opened n a u type b x fs (kinds.Number v) = λ w qs d. array_sized
safe_array_opened n a u type b x fs _ = λ w qs d. tt

array_closed : {w qs : List Placed} {fs : List Frame} {n g : ℕ} {s : Stmt} → HasLength w n s fs (put (suc n) kinds.CloseSquare g ∷ qs) → HasClosed w n s fs qs
array_closed {n = n} {g = g} e = record { from = e.from; stands = e.stands; reads = λ h rs same. e.reads g h rs (ap (λ z. put (suc n) kinds.CloseSquare g ∷ z) same) }

pub safe_array_sized : (n : ℕ) (s : Stmt) (fs : List Frame) (kind : TokenKind) → Safe (ArraySized n s) fs kind
safe_array_sized n s fs kinds.CloseSquare = λ w qs g. array_closed
safe_array_sized n s fs _ = λ w qs g. tt

array_end : {w qs : List Placed} {fs : List Frame} {n h k : ℕ} {s : Stmt} {ss : Stmts} → HasClosed w n s (InItems k ss ∷ fs) (put n kinds.Semicolon h ∷ qs) → Stands w (AnItem n) (InItems k (ThenStmt ss s) ∷ fs) qs
array_end {qs = qs} {h = h} e = declared_added e.stands (e.reads h qs refl)

safe_array_end : (n : ℕ) (s : Stmt) (fs : List Frame) (w qs : List Placed) (h : ℕ) → Keeps w (ArrayClosed n s) fs (record { kind = kinds.Semicolon; at = h }) qs (add_declaration n s fs)
safe_array_end n s (InItems k ss ∷ fs) w qs h = array_end
safe_array_end n s _ w qs h = tt

pub safe_array_closed : (n : ℕ) (s : Stmt) (fs : List Frame) (kind : TokenKind) → Safe (ArrayClosed n s) fs kind
safe_array_closed n s fs kinds.Semicolon = λ w qs h. safe_array_end n s fs w qs h
safe_array_closed n s fs _ = λ w qs h. tt

pub safe_declared : (n a : ℕ) (kind : VariableType) (b x : ℕ) (fs : List Frame) (word : TokenKind) → Safe (Declared n a kind b x) fs word
safe_declared n a kind b x fs kinds.Assign = λ w qs c. value_begins
safe_declared n a kind b x fs kinds.Semicolon = λ w qs c. safe_declare_end n a kind b x fs w qs c
safe_declared n a kind b x fs kinds.OpenSquare = λ w qs c. safe_array n a kind b x fs w qs c
safe_declared n a kind b x fs _ = λ w qs c. tt

-- ---- statements

body_end : {w qs : List Placed} {fs : List Frame} {a n m c : ℕ} {h : Head} {ss : Stmts} {done : Funcs} → Stands w (AnItem m) (InItems n ss ∷ InBody h a ∷ InProgram done ∷ fs) (put n kinds.CloseBrace c ∷ qs) → Stands w AFunction (InProgram (ThenFunc done (with_body h a ss)) ∷ fs) qs
body_end (in_items (in_body (in_program f) h) i) = in_program (function f h i)

block_end : {w qs : List Placed} {fs : List Frame} {a n m k c : ℕ} {ss : Stmts} → Stands w (AnItem m) (InItems n ss ∷ InBlock a k ∷ fs) (put n kinds.CloseBrace c ∷ qs) → HasStatement w (Block a ss) fs qs
block_end (in_items (in_block s) i) = record { n = _; from = _; stands = s; reads = block i }

safe_brace : (m : ℕ) (fs : List Frame) (w qs : List Placed) (a : ℕ) → Keeps w (Item m) fs (record { kind = kinds.CloseBrace; at = a }) qs (on_close_brace fs)
safe_brace m (InItems n ss ∷ InBody h b ∷ InProgram done ∷ fs) w qs a = body_end
safe_brace m (InItems n ss ∷ InBlock b k ∷ fs) w qs a = block_end
safe_brace m _ w qs a = tt

pub safe_simple : (n : ℕ) (fs : List Frame) (kind : TokenKind) (w qs : List Placed) (a : ℕ) → KeepsFrom w qs (λ k. Stands w (ASimple n) fs (put k kind a ∷ qs)) (on_simple n fs (record { kind = kind; at = a }))
safe_simple n fs (kinds.Name x) w qs a = λ h. h
safe_simple n fs kinds.Star w qs a = λ h. in_behind {u = false} h
safe_simple n fs kinds.PlusPlus w qs a = λ h. in_step h refl
safe_simple n fs kinds.MinusMinus w qs a = λ h. in_step h refl
safe_simple n fs _ w qs a = tt

broken : {w qs : List Placed} {fs : List Frame} {n a : ℕ} → Stands w (AStatement n) fs (put n kinds.Break a ∷ qs) → HasClosing w n (Break a) fs qs
broken {n = n} {a = a} s =
    record { from = _; stands = s; reads = λ c rs same. let R : List Placed → Type 0 = λ z. Reads (Statement n (Break a)) (put n kinds.Break a ∷ z) rs in subst R (sym same) break_only }

continued : {w qs : List Placed} {fs : List Frame} {n a : ℕ} → Stands w (AStatement n) fs (put n kinds.Continue a ∷ qs) → HasClosing w n (Continue a) fs qs
continued {n = n} {a = a} s =
    record { from = _; stands = s; reads = λ c rs same. let R : List Placed → Type 0 = λ z. Reads (Statement n (Continue a)) (put n kinds.Continue a ∷ z) rs in subst R (sym same) continue_only }

safe_begins : (n : ℕ) (fs : List Frame) (kind : TokenKind) (w qs : List Placed) (a : ℕ) → KeepsFrom w qs (λ k. Stands w (AStatement n) fs (put k kind a ∷ qs)) (on_begin n fs (record { kind = kind; at = a }))
safe_begins n fs kinds.OpenBrace w qs a = λ h. in_items (in_block h) no_items
safe_begins n fs kinds.Semicolon w qs a = λ h. record { n = n; from = _; stands = h; reads = empty }
safe_begins n fs kinds.If w qs a = λ h. h
safe_begins n fs kinds.While w qs a = λ h. h
safe_begins n fs kinds.Do w qs a = λ h. in_do_turns h
safe_begins n fs kinds.For w qs a = λ h. h
safe_begins n fs kinds.Break w qs a = broken
safe_begins n fs kinds.Continue w qs a = continued
safe_begins n fs kinds.Return w qs a = λ h. in_return h
safe_begins n fs kind w qs a =
    kept w qs (λ k. Stands w (ASimple n) fs (put k kind a ∷ qs)) (λ k. Stands w (AStatement n) fs (put k kind a ∷ qs)) (on_simple n fs (record { kind = kind; at = a })) (λ k h. as_statement h) (safe_simple n fs kind w qs a)

pub safe_begin : (n : ℕ) (fs : List Frame) (kind : TokenKind) → Safe (Begin n) fs kind
safe_begin n fs kind = λ w qs a. safe_begins n fs kind w qs a

pub safe_item : (n : ℕ) (fs : List Frame) (kind : TokenKind) → Safe (Item n) fs kind
safe_item n fs kinds.CloseBrace = λ w qs a. safe_brace n fs w qs a
safe_item n fs (kinds.Type type) = λ w qs a. safe_typing (ForDeclaration a n) fs (kinds.Type type) w qs a
safe_item n fs kinds.SizeT = λ w qs a. safe_typing (ForDeclaration a n) fs kinds.SizeT w qs a
safe_item n fs (kinds.Space space) = λ w qs a. safe_typing (ForDeclaration a n) fs (kinds.Space space) w qs a
safe_item n fs kind = λ w qs a.
    kept w qs (λ k. Stands w (AStatement n) fs (put k kind a ∷ qs)) (λ k. Stands w (AnItem n) fs (put k kind a ∷ qs)) (on_begin n fs (record { kind = kind; at = a })) (λ k h. as_item h) (safe_begins n fs kind w qs a)

-- ---- the parts of a `for`

without_initial : {w qs : List Placed} {fs : List Frame} {n a c : ℕ} → Stands w (AnInitial n) (InInitial a ∷ fs) (put n kinds.Semicolon c ∷ qs) → Stands w (AnExpr n) (machine.InCondition a n Without ∷ fs) qs
without_initial (in_initial s) = in_condition s no_initial

safe_no_initial : (n : ℕ) (fs : List Frame) (w qs : List Placed) (a : ℕ) → Keeps w (machine.Initial n) fs (record { kind = kinds.Semicolon; at = a }) qs (machine.no_initial n fs)
safe_no_initial n (InInitial b ∷ fs) w qs a = without_initial
safe_no_initial n _ w qs a = tt

pub safe_initial : (n : ℕ) (fs : List Frame) (kind : TokenKind) → Safe (machine.Initial n) fs kind
safe_initial n fs kinds.Semicolon = λ w qs a. safe_no_initial n fs w qs a
safe_initial n fs (kinds.Type type) = λ w qs a h. initial_typing h refl
safe_initial n fs kinds.SizeT = λ w qs a h. initial_typing h refl
safe_initial n fs kind = λ w qs a.
    kept w qs (λ k. Stands w (ASimple n) fs (put k kind a ∷ qs)) (λ k. Stands w (AnInitial n) fs (put k kind a ∷ qs)) (on_simple n fs (record { kind = kind; at = a })) (λ k h. as_initial h) (safe_simple n fs kind w qs a)

without_final : {w qs : List Placed} {fs : List Frame} {n a d : ℕ} {i : MaybeStmt} {c : MaybeTerm} → Stands w (ASimple n) (InFinal a i c ∷ fs) (put n kinds.CloseRound d ∷ qs) → Stands w (AStatement n) (ForTurns a i c Without ∷ fs) qs
without_final (in_final s r q) = in_for_turns s r q no_final
without_final (as_statement (as_item h)) = elim h [ ]
without_final (as_initial h) = elim h [ ]

safe_no_final : (n : ℕ) (fs : List Frame) (w qs : List Placed) (a : ℕ) → Keeps w (machine.Final n) fs (record { kind = kinds.CloseRound; at = a }) qs (machine.no_final n fs)
safe_no_final n (InFinal b i c ∷ fs) w qs a = without_final
safe_no_final n _ w qs a = tt

pub safe_final : (n : ℕ) (fs : List Frame) (kind : TokenKind) → Safe (machine.Final n) fs kind
safe_final n fs kinds.CloseRound = λ w qs a. safe_no_final n fs w qs a
safe_final n fs kind = λ w qs a. safe_simple n fs kind w qs a

pub safe_after_if : (n b : ℕ) (fs : List Frame) (kind : TokenKind) → Safe (AfterIf n b) fs kind
safe_after_if n b fs kinds.OpenRound = λ w qs a h. in_if h
safe_after_if n b fs _ = λ w qs a. tt

pub safe_after_while : (n b : ℕ) (fs : List Frame) (kind : TokenKind) → Safe (AfterWhile n b) fs kind
safe_after_while n b fs kinds.OpenRound = λ w qs a h. in_while h
safe_after_while n b fs _ = λ w qs a. tt

pub safe_after_for : (n b : ℕ) (fs : List Frame) (kind : TokenKind) → Safe (AfterFor n b) fs kind
safe_after_for n b fs kinds.OpenRound = λ w qs a h. in_initial h
safe_after_for n b fs _ = λ w qs a. tt

pub safe_after_do : (n b : ℕ) (s : Stmt) (fs : List Frame) (kind : TokenKind) → Safe (AfterDo n b s) fs kind
safe_after_do n b s fs kinds.OpenRound = λ w qs a h. in_do h.stands h.reads
safe_after_do n b s fs _ = λ w qs a. tt

-- ---- simple statements

pub safe_aim : (n : ℕ) (fs : List Frame) (kind : TokenKind) → Safe (Aim n) fs kind
safe_aim n fs (kinds.Name x) = λ w qs a h. h
safe_aim n fs kinds.Star = λ w qs a h. in_behind {u = true} h
safe_aim n fs _ = λ w qs a. tt

aim_end : {w qs : List Placed} {fs : List Frame} {n from b : ℕ} {k : TokenKind} {op : Option BinaryOperator} {t : Target} → HasTarget w false n from t fs (put n k b ∷ qs) → assign_of k ≡ Some op → Stands w (AnExpr n) (InAssign from n t op ∷ fs) qs
aim_end (has_target s g r) i = in_assign s i r

behind_step : {w qs : List Placed} {fs : List Frame} {n from b : ℕ} {k : TokenKind} {up : Bool} {t : Target} → HasTarget w false n from t fs (put n k b ∷ qs) → step_of k ≡ Some up → HasEnded w n (Step from t up) fs qs
behind_step (has_target {ps = ps} s g r) i = record { from = ps; stands = s; reads = step_behind i g r }

stepped : {w qs : List Placed} {fs : List Frame} {n from b k : ℕ} {up : Bool} {t : Target} → HasTarget w true n from t (InStep b k up ∷ fs) qs → HasEnded w k (Step b t up) fs qs
stepped (has_target (in_step s i) g r) = record { from = _; stands = s; reads = step_before i r }

safe_placed : (n b : ℕ) (p : Target) (fs : List Frame) (kind : TokenKind) (o : Option (Option BinaryOperator)) → assign_of kind ≡ o → (u : Option Bool) → step_of kind ≡ u → (w qs : List Placed) (a : ℕ)
    → Keeps w (TargetRead false n b p) fs (record { kind = kind; at = a }) qs (on_placed o u n b p fs)
safe_placed n b p fs kind (Some op) i u j w qs a = λ h. aim_end h i
safe_placed n b p fs kind None i (Some up) j w qs a = λ h. behind_step h j
safe_placed n b p fs kind None i None j w qs a = tt

safe_end_step : (u : Bool) (n b : ℕ) (p : Target) (fs : List Frame) (w qs : List Placed) (a : ℕ) → Keeps w (TargetRead true n b p) fs (record { kind = end_kind u; at = a }) qs (end_step u p fs)
safe_end_step u n b p (InStep c j up ∷ fs) w qs a =
    kept w qs (λ k. HasEnded w j (Step c p up) fs (put k (end_kind u) a ∷ qs)) (λ k. HasTarget w true n b p (InStep c j up ∷ fs) (put k (end_kind u) a ∷ qs)) (ends_simple u j (Step c p up) fs)
    (λ k g. stepped g) (safe_ends_simple u j (Step c p up) fs w qs a)
safe_end_step u n b p _ w qs a = tt

safe_stepped : (n b : ℕ) (p : Target) (fs : List Frame) (kind : TokenKind) → Safe (TargetRead true n b p) fs kind
safe_stepped n b p fs kinds.Semicolon = λ w qs a. safe_end_step false n b p fs w qs a
safe_stepped n b p fs kinds.CloseRound = λ w qs a. safe_end_step true n b p fs w qs a
safe_stepped n b p fs _ = λ w qs a. tt

pub safe_aimed : (u : Bool) (n b : ℕ) (p : Target) (fs : List Frame) (kind : TokenKind) → Safe (TargetRead u n b p) fs kind
safe_aimed false n b p fs kind = λ w qs a. safe_placed n b p fs kind (assign_of kind) refl (step_of kind) refl w qs a
safe_aimed true n b p fs kind = safe_stepped n b p fs kind

safe_begin_call : (u : Bool) (n b x : ℕ) (fs : List Frame) (w qs : List Placed) (a : ℕ) → Keeps w (BeginName u n b x) fs (record { kind = kinds.OpenRound; at = a }) qs (begin_call u n b x fs)
safe_begin_call false n b x fs w qs a = λ h. call_open {u = true} h
safe_begin_call true n b x fs w qs a = tt

pub safe_begin_name : (u : Bool) (n b x : ℕ) (fs : List Frame) (kind : TokenKind) → Safe (BeginName u n b x) fs kind
safe_begin_name u n b x fs kinds.OpenSquare = λ w qs a h. in_part {u = u} h
safe_begin_name u n b x fs kinds.OpenRound = λ w qs a. safe_begin_call u n b x fs w qs a
safe_begin_name u n b x fs kind = λ w qs a.
    kept w qs (λ k. HasTarget w u n b (TargetVariable b x) fs (put k kind a ∷ qs)) (λ k. Stands w (target_need u n) fs (put n (kinds.Name x) b ∷ put k kind a ∷ qs)) (on_target_read u n b (TargetVariable b x) fs kind)
    (λ k s. has_target s tt variable_target) (safe_aimed u n b (TargetVariable b x) fs kind w qs a)

pub safe_ended : (n : ℕ) (s : Stmt) (fs : List Frame) (kind : TokenKind) → Safe (Ended n s) fs kind
safe_ended n s fs kinds.Semicolon = λ w qs a. safe_ends_simple false n s fs w qs a
safe_ended n s fs kinds.CloseRound = λ w qs a. safe_ends_simple true n s fs w qs a
safe_ended n s fs _ = λ w qs a. tt

pub safe_closing : (n : ℕ) (s : Stmt) (fs : List Frame) (kind : TokenKind) → Safe (Closing n s) fs kind
safe_closing n s fs kinds.Semicolon = λ w qs a h. record { n = n; from = h.from; stands = h.stands; reads = h.reads a qs refl }
safe_closing n s fs _ = λ w qs a. tt

-- ---- after a statement

-- a statement behind those before it
added : {w qs : List Placed} {fs : List Frame} {n m : ℕ} {s : Stmt} {ss : Stmts} {from : List Placed} → Stands w (AStatement n) (InItems m ss ∷ fs) from → Reads (Statement n s) from qs → Stands w (AnItem m) (InItems m (ThenStmt ss s) ∷ fs) qs
added (as_item (in_items h i)) r = in_items h (statement i r)

-- the statement that controls one
only_if : {w from qs : List Placed} {fs : List Frame} {n a m : ℕ} {e : Term} {s : Stmt} → Stands w (AStatement n) (Then a m e ∷ fs) from → Reads (Statement n s) from qs → IsNoElse qs → HasStatement w (If a e s) fs qs
only_if (in_then {n = n} h r) q last = record { n = n; from = _; stands = h; reads = if_only r q last }
only_if (as_item h) q last = elim h [ ]

both_parts : {w from qs : List Placed} {fs : List Frame} {n a : ℕ} {e : Term} {s t : Stmt} → Stands w (AStatement n) (Otherwise a e s ∷ fs) from → Reads (Statement n t) from qs → HasStatement w (IfElse a e s t) fs qs
both_parts (in_otherwise {n = n} h r q) z = record { n = n; from = _; stands = h; reads = if_else r q z }
both_parts (as_item h) z = elim h [ ]

while_body : {w from qs : List Placed} {fs : List Frame} {n a : ℕ} {e : Term} {s : Stmt} → Stands w (AStatement n) (Turns a e ∷ fs) from → Reads (Statement n s) from qs → HasStatement w (While a e s) fs qs
while_body (in_turns {n = n} h r) q = record { n = n; from = _; stands = h; reads = while_loop r q }
while_body (as_item h) q = elim h [ ]

for_body : {w from qs : List Placed} {fs : List Frame} {n a : ℕ} {i f : MaybeStmt} {c : MaybeTerm} {s : Stmt} → Stands w (AStatement n) (ForTurns a i c f ∷ fs) from → Reads (Statement n s) from qs → HasStatement w (For a i c f s) fs qs
for_body (in_for_turns {n = n} h r q z) t = record { n = n; from = _; stands = h; reads = for_loop r q z t }
for_body (as_item h) t = elim h [ ]

abbrev IsSettled : List Placed → Settled → List Placed → Type 0
IsSettled w x qs = HasStatement w x.statement x.rest qs

settle_good : (k : Bool) (s : Stmt) (fs : List Frame) {w qs : List Placed} → (k ≡ false → IsNoElse qs) → HasStatement w s fs qs → IsSettled w (settle k s fs) qs
settle_good k s (Otherwise a e t ∷ fs) last g = settle_good k (IfElse a e t s) fs last (both_parts g.stands g.reads)
settle_good k s (Turns a e ∷ fs) last g = settle_good k (While a e s) fs last (while_body g.stands g.reads)
settle_good k s (ForTurns a i c f ∷ fs) last g = settle_good k (For a i c f s) fs last (for_body g.stands g.reads)
settle_good false s (Then a n e ∷ fs) last g = settle_good false (If a e s) fs last (only_if g.stands g.reads (last refl))
settle_good k s fs last g = g

no_else : (kind : TokenKind) → is_else kind ≡ false → kind ≡ kinds.Else → ⊥
no_else kinds.Else h e = let clash : true ≡ false = h in cc
no_else _ h e = cc

else_behind : {w from qs : List Placed} {fs : List Frame} {a n m d : ℕ} {e : Term} {s : Stmt} → Stands w (AStatement m) (Then a n e ∷ fs) from → Reads (Statement m s) from (put n kinds.Else d ∷ qs) → Stands w (AStatement (suc n)) (Otherwise a e s ∷ fs) qs
else_behind (in_then h r) q = in_otherwise h r q
else_behind (as_item h) q = elim h [ ]

else_begins : {w qs : List Placed} {fs : List Frame} {a n d : ℕ} {e : Term} {s : Stmt} → HasStatement w s (Then a n e ∷ fs) (put n kinds.Else d ∷ qs) → Stands w (AStatement (suc n)) (Otherwise a e s ∷ fs) qs
else_begins h = else_behind h.stands h.reads

safe_else : (a n : ℕ) (e : Term) (s : Stmt) (fs : List Frame) (kind : TokenKind) (w qs : List Placed) (d : ℕ) → KeepsFrom w qs (λ k. HasStatement w s (Then a n e ∷ fs) (put k kind d ∷ qs)) (machine.on_else a n e s fs kind)
safe_else a n e s fs kinds.Else w qs d = else_begins
safe_else a n e s fs _ w qs d = tt

while_behind : {w from qs : List Placed} {fs : List Frame} {a n m d : ℕ} {s : Stmt} → Stands w (AStatement m) (DoTurns a n ∷ fs) from → Reads (Statement m s) from (put n kinds.While d ∷ qs) → HasBody w n a s fs qs
while_behind (in_do_turns h) q = record { from = _; at = _; stands = h; reads = q }
while_behind (as_item h) q = elim h [ ]

while_begins : {w qs : List Placed} {fs : List Frame} {a n d : ℕ} {s : Stmt} → HasStatement w s (DoTurns a n ∷ fs) (put n kinds.While d ∷ qs) → HasBody w n a s fs qs
while_begins h = while_behind h.stands h.reads

safe_do_while : (a n : ℕ) (s : Stmt) (fs : List Frame) (kind : TokenKind) (w qs : List Placed) (d : ℕ) → KeepsFrom w qs (λ k. HasStatement w s (DoTurns a n ∷ fs) (put k kind d ∷ qs)) (machine.on_do_while a n s fs kind)
safe_do_while a n s fs kinds.While w qs d = while_begins
safe_do_while a n s fs _ w qs d = tt

safe_settled : (s : Stmt) (fs : List Frame) (kind : TokenKind) (w qs : List Placed) (a : ℕ) → KeepsFrom w qs (λ k. HasStatement w s fs (put k kind a ∷ qs)) (on_settled s fs (record { kind = kind; at = a }))
safe_settled s (InItems m ss ∷ fs) kind w qs a =
    let t : Token = record { kind = kind; at = a } in
    let gs : List Frame = InItems m (ThenStmt ss s) ∷ fs in
    kept w qs (λ k. Stands w (AnItem m) gs (record { nesting = k; token = t } ∷ qs)) (λ k. HasStatement w s (InItems m ss ∷ fs) (record { nesting = k; token = t } ∷ qs)) (on_item m gs t)
    (λ k g. added g.stands g.reads) (safe_item m gs kind w qs a)
safe_settled s (Then b n e ∷ fs) kind w qs a = safe_else b n e s fs kind w qs a
safe_settled s (DoTurns b n ∷ fs) kind w qs a = safe_do_while b n s fs kind w qs a
safe_settled s _ kind w qs a = tt

pub safe_did : (s : Stmt) (fs : List Frame) (kind : TokenKind) → Safe (StatementRead s) fs kind
safe_did s fs kind = λ w qs a.
    let x : Settled = settle (is_else kind) s fs in
    kept w qs (λ k. HasStatement w x.statement x.rest (put k kind a ∷ qs)) (λ k. HasStatement w s fs (put k kind a ∷ qs)) (on_settled x.statement x.rest (record { kind = kind; at = a }))
    (λ k g. settle_good (is_else kind) s fs (λ e. no_else kind e) g) (safe_settled x.statement x.rest kind w qs a)
