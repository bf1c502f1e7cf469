-- What statements without others in them are printed as stands for them, offsets aside.
use Rattle.std.proofs.Common.{◌≡◌, ◌≢◌, ℕ, suc, List, [], ◌∷◌, Bool, true, false, Option, Some, None, refl, sym, ◌∙◌, ap, subst}
use Rattle.clnum.specs.Integer as whole
use Rattle.clnum.specs.declared.int_type.IntType.{IntType}
use Rattle.clnum.specs.declared.operators.BinaryOperator.{BinaryOperator}
use Rattle.clnum.specs.declared.operators.BinaryOperator.TheVariants.{Add, Subtract, Multiply, Divide, Remainder, ShiftLeft, ShiftRight, BitAnd, BitXor, BitOr}
use Rattle.clmodel.specs.declared.tree.AddressSpace.TheVariants.{Local}
use Rattle.clmodel.specs.declared.tree.VariableType.{VariableType}
use Rattle.clmodel.specs.declared.tree.VariableType.TheVariants.{Integer, Pointer}
use Rattle.clmodel.specs.Tree.{Term, Terms, NoTerm, ThenTerm, Target, TargetVariable, TargetElement, TargetDereference, Stmt, DeclareArray, Assign, Step, CallOnly}
use Rattle.clsyntax_lex.specs.declared.token.Token.{Token}
use Rattle.clsyntax_lex.specs.declared.token.TokenKind.{TokenKind}
use Rattle.clsyntax_lex.specs.declared.token.TokenKind.TheVariants as kinds
use Rattle.clsyntax_terms.specs.Grammar.{Placed, put, start, tight, assign_of, step_of, IsNoElse, Assignee, Simple, Statement, Typing, Declaration, Reads, variable_target, element_target, dereference_target, assign, step_before, step_behind, bare_call_only, call_only, simple, empty, block, if_only, if_else, while_loop, do_loop, for_loop, break_only, continue_only, return_only, return_value, integer, pointer, const_pointer, declare, declare_as, array, local_array}
use Rattle.clsyntax.specs.Correct.{tokens}
use Rattle.clsyntax.proofs.SoundStatements.{word_of}
use Rattle.clsyntax_lex.specs.Printed.{kinds_of}
use Rattle.clsyntax_print.specs.Printing.{plain_term, plain_target, plain_stmt, Kinds, assign_kind, step_kind, print_term, print_target, print_type, print_simple, print_stmt}
use Rattle.clsyntax_print.proofs.PrintedTerms.{first_of_kinds, begin, begins, behind_one, Again, term_again, terms_again}

-- ---- targets and simple statements

abbrev AgainTarget : (n : ℕ) → Target → Kinds → List Token → Type 0
AgainTarget n t rest ts = Again Target (λ x. Assignee n x) (λ x. plain_target x ≡ plain_target t) rest ts

pub target_again : (t : Target) (n : ℕ) (rest : Kinds) (ts : List Token) → kinds_of ts ≡ print_target t rest → AgainTarget n t rest ts
target_again (TargetVariable at x) n rest ts s =
    let f = first_of_kinds (kinds.Name x) rest ts s in
    record { tree = TargetVariable f.at x; after = f.rest; kinds = f.kinds; same = refl; place = λ qs q. record { placed = put n (kinds.Name x) f.at ∷ qs; same = behind_one n f qs q; reads = variable_target } }
target_again (TargetElement at x e) n rest ts s =
    let name = first_of_kinds (kinds.Name x) _ ts s in
    let open_ = first_of_kinds kinds.OpenSquare _ name.rest name.kinds in
    let inside = term_again e 0 (suc n) (kinds.CloseSquare ∷ rest) open_.rest open_.kinds in
    let close_ = first_of_kinds kinds.CloseSquare rest inside.after inside.kinds in
    record {
      tree = TargetElement name.at x inside.tree.0;
      after = close_.rest;
      kinds = close_.kinds;
      same = ap (TargetElement 0 x) inside.same;
      place = λ qs q. let f = inside.place (put (suc n) kinds.CloseSquare close_.at ∷ qs) (behind_one (suc n) close_ qs q) in
          let opened : List Placed = put n kinds.OpenSquare open_.at ∷ f.placed in
          record { placed = put n (kinds.Name x) name.at ∷ opened; same = behind_one n name opened (behind_one n open_ f.placed f.same); reads = element_target f.reads };
    }
target_again (TargetDereference at e) n rest ts s =
    let star = first_of_kinds kinds.Star _ ts s in
    let inside = term_again e tight (suc n) rest star.rest star.kinds in
    record {
      tree = TargetDereference star.at inside.tree.0;
      after = inside.after;
      kinds = inside.kinds;
      same = ap (TargetDereference 0) inside.same;
      place = λ qs q. let f = inside.place qs q in record { placed = put n kinds.Star star.at ∷ f.placed; same = behind_one n star f.placed f.same; reads = dereference_target f.reads };
    }

abbrev pub AgainSimple : (n : ℕ) → Stmt → Kinds → List Token → Type 0
AgainSimple n s rest ts = Again Stmt (λ x. Simple n x) (λ x. plain_stmt x ≡ plain_stmt s) rest ts

pub assign_assign : (k : TokenKind) (op : Option BinaryOperator) → assign_of k ≡ Some op → assign_of (assign_kind op) ≡ Some op
assign_assign kinds.Assign op e = let f : Some None ≡ Some op = e in let same : None ≡ op = cc in let P : Option BinaryOperator → Type 0 = λ o. assign_of (assign_kind o) ≡ Some o in subst P same refl
assign_assign kinds.PlusAssign op e = let f : Some (Some Add) ≡ Some op = e in let same : (Some Add) ≡ op = cc in let P : Option BinaryOperator → Type 0 = λ o. assign_of (assign_kind o) ≡ Some o in subst P same refl
assign_assign kinds.MinusAssign op e = let f : Some (Some Subtract) ≡ Some op = e in let same : (Some Subtract) ≡ op = cc in let P : Option BinaryOperator → Type 0 = λ o. assign_of (assign_kind o) ≡ Some o in subst P same refl
assign_assign kinds.StarAssign op e = let f : Some (Some Multiply) ≡ Some op = e in let same : (Some Multiply) ≡ op = cc in let P : Option BinaryOperator → Type 0 = λ o. assign_of (assign_kind o) ≡ Some o in subst P same refl
assign_assign kinds.SlashAssign op e = let f : Some (Some Divide) ≡ Some op = e in let same : (Some Divide) ≡ op = cc in let P : Option BinaryOperator → Type 0 = λ o. assign_of (assign_kind o) ≡ Some o in subst P same refl
assign_assign kinds.PercentAssign op e = let f : Some (Some Remainder) ≡ Some op = e in let same : (Some Remainder) ≡ op = cc in let P : Option BinaryOperator → Type 0 = λ o. assign_of (assign_kind o) ≡ Some o in subst P same refl
assign_assign kinds.ShiftLeftAssign op e = let f : Some (Some ShiftLeft) ≡ Some op = e in let same : (Some ShiftLeft) ≡ op = cc in let P : Option BinaryOperator → Type 0 = λ o. assign_of (assign_kind o) ≡ Some o in subst P same refl
assign_assign kinds.ShiftRightAssign op e = let f : Some (Some ShiftRight) ≡ Some op = e in let same : (Some ShiftRight) ≡ op = cc in let P : Option BinaryOperator → Type 0 = λ o. assign_of (assign_kind o) ≡ Some o in subst P same refl
assign_assign kinds.AndAssign op e = let f : Some (Some BitAnd) ≡ Some op = e in let same : (Some BitAnd) ≡ op = cc in let P : Option BinaryOperator → Type 0 = λ o. assign_of (assign_kind o) ≡ Some o in subst P same refl
assign_assign kinds.CaretAssign op e = let f : Some (Some BitXor) ≡ Some op = e in let same : (Some BitXor) ≡ op = cc in let P : Option BinaryOperator → Type 0 = λ o. assign_of (assign_kind o) ≡ Some o in subst P same refl
assign_assign kinds.OrAssign op e = let f : Some (Some BitOr) ≡ Some op = e in let same : (Some BitOr) ≡ op = cc in let P : Option BinaryOperator → Type 0 = λ o. assign_of (assign_kind o) ≡ Some o in subst P same refl
assign_assign _ op e = let clash : None ≡ Some op = e in absurd cc

step_step : (up : Bool) → step_of (step_kind up) ≡ Some up
step_step true = refl
step_step false = refl

pub assign_again : (n at : ℕ) (t : Target) (op : Option BinaryOperator) (e : Term) (rest : Kinds) (ts : List Token) → assign_of (assign_kind op) ≡ Some op
    → kinds_of ts ≡ print_simple (Assign at t op e) rest → AgainSimple n (Assign at t op e) rest ts
assign_again n at t op e rest ts i s =
    let target = target_again t n (assign_kind op ∷ print_term 0 e rest) ts s in
    let sign = first_of_kinds (assign_kind op) _ target.after target.kinds in
    let value = term_again e 0 n rest sign.rest sign.kinds in
    record {
      tree = Assign (begin ts) target.tree op value.tree.0;
      after = value.after;
      kinds = value.kinds;
      same = ap (λ z. Assign 0 z op (plain_term value.tree.0)) target.same ∙ ap (Assign 0 (plain_target t) op) value.same;
      place = λ qs q.
          let g = value.place qs q in
          let f = target.place (put n (assign_kind op) sign.at ∷ g.placed) (behind_one n sign g.placed g.same) in
          let R : ℕ → Type 0 = λ a. Reads (Simple n (Assign a target.tree op value.tree.0)) f.placed qs in
          record { placed = f.placed; same = f.same; reads = subst R (begins f.placed ts f.same) (assign i f.reads g.reads) };
    }

pub step_again : (n at : ℕ) (t : Target) (up : Bool) (rest : Kinds) (ts : List Token) → kinds_of ts ≡ print_simple (Step at t up) rest → AgainSimple n (Step at t up) rest ts
step_again n at t up rest ts s =
    let sign = first_of_kinds (step_kind up) _ ts s in
    let target = target_again t (suc n) rest sign.rest sign.kinds in
    record {
      tree = Step sign.at target.tree up;
      after = target.after;
      kinds = target.kinds;
      same = ap (λ z. Step 0 z up) target.same;
      place = λ qs q. let f = target.place qs q in
          record { placed = put n (step_kind up) sign.at ∷ f.placed; same = behind_one n sign f.placed f.same; reads = step_before (step_step up) f.reads };
    }

pub call_only_again : (n at x : ℕ) (es : Terms) (rest : Kinds) (ts : List Token) → kinds_of ts ≡ print_simple (CallOnly at x es) rest → AgainSimple n (CallOnly at x es) rest ts
call_only_again n at x NoTerm rest ts s =
    let name = first_of_kinds (kinds.Name x) _ ts s in
    let open_ = first_of_kinds kinds.OpenRound _ name.rest name.kinds in
    let close_ = first_of_kinds kinds.CloseRound rest open_.rest open_.kinds in
    record {
      tree = CallOnly name.at x NoTerm;
      after = close_.rest;
      kinds = close_.kinds;
      same = refl;
      place = λ qs q.
          let closed : List Placed = put (suc n) kinds.CloseRound close_.at ∷ qs in
          let opened : List Placed = put n kinds.OpenRound open_.at ∷ closed in
          record { placed = put n (kinds.Name x) name.at ∷ opened; same = behind_one n name opened (behind_one n open_ closed (behind_one (suc n) close_ qs q)); reads = bare_call_only };
    }
call_only_again n at x (ThenTerm es e) rest ts s =
    let name = first_of_kinds (kinds.Name x) _ ts s in
    let open_ = first_of_kinds kinds.OpenRound _ name.rest name.kinds in
    let inside = terms_again (ThenTerm es e) n (kinds.CloseRound ∷ rest) open_.rest tt open_.kinds in
    let close_ = first_of_kinds kinds.CloseRound rest inside.after inside.kinds in
    record {
      tree = CallOnly name.at x inside.tree;
      after = close_.rest;
      kinds = close_.kinds;
      same = ap (CallOnly 0 x) inside.same;
      place = λ qs q.
          let f = inside.place (put (suc n) kinds.CloseRound close_.at ∷ qs) (behind_one (suc n) close_ qs q) in
          let opened : List Placed = put n kinds.OpenRound open_.at ∷ f.placed in
          record { placed = put n (kinds.Name x) name.at ∷ opened; same = behind_one n name opened (behind_one n open_ f.placed f.same); reads = call_only f.reads };
    }

pub simple_again : {n : ℕ} {s : Stmt} {ps qs : List Placed} → Reads (Simple n s) ps qs → (rest : Kinds) (ts : List Token) → kinds_of ts ≡ print_simple s rest → AgainSimple n s rest ts
simple_again (assign {n = n} {k = k} {op = op} {t = t} {e = e} {ps = ps} i r q) = λ rest ts s. assign_again n (start ps) t op e rest ts (assign_assign k op i) s
simple_again (step_before {n = n} {a = a} {is_increment = up} {t = t} i r) = λ rest ts s. step_again n a t up rest ts s
simple_again (step_behind {n = n} {is_increment = up} {t = t} {ps = ps} i h r) = λ rest ts s. step_again n (start ps) t up rest ts s
simple_again (bare_call_only {n = n} {x = x} {a = a}) = λ rest ts s. call_only_again n a x NoTerm rest ts s
simple_again (call_only {n = n} {x = x} {a = a} {es = es} r) = λ rest ts s. call_only_again n a x es rest ts s

-- with its semicolon it is a statement
pub simple_ended : {n : ℕ} {s : Stmt} {ps qs : List Placed} → Reads (Simple n s) ps qs → (rest : Kinds) → print_stmt s rest ≡ print_simple s (kinds.Semicolon ∷ rest)
simple_ended (assign i r q) rest = refl
simple_ended (step_before i r) rest = refl
simple_ended (step_behind i h r) rest = refl
simple_ended bare_call_only rest = refl
simple_ended (call_only r) rest = refl

-- ---- what no `else` begins

abbrev pub NoElse : Kinds → Type 0
NoElse [] = Unit {0}
NoElse (k ∷ ks) = k ≢ kinds.Else

pub no_else : (qs : List Placed) (ts : List Token) (rest : Kinds) → tokens qs ≡ ts → kinds_of ts ≡ rest → NoElse rest → IsNoElse qs
no_else [] ts rest q k h = tt
no_else (p ∷ ps) ts [] q k h = let clash : p.token.kind ∷ kinds_of (tokens ps) ≡ [] = ap kinds_of q ∙ k in absurd cc
no_else (p ∷ ps) ts (r ∷ rest) q k h = λ e. let both : p.token.kind ∷ kinds_of (tokens ps) ≡ r ∷ rest = ap kinds_of q ∙ k in let same : r ≡ kinds.Else = cc in h same

target_no_else : (t : Target) (rest : Kinds) → NoElse (print_target t rest)
target_no_else (TargetVariable at x) rest = λ e. cc
target_no_else (TargetElement at x i) rest = λ e. cc
target_no_else (TargetDereference at d) rest = λ e. cc

step_no_else : (up : Bool) (rest : Kinds) → NoElse (step_kind up ∷ rest)
step_no_else true rest = λ e. cc
step_no_else false rest = λ e. cc

type_no_else : (kind : VariableType) (rest : Kinds) → NoElse (print_type kind rest)
type_no_else (Integer type) rest = λ e. cc
type_no_else (Pointer p) rest = λ e. cc

pub simple_no_else : {n : ℕ} {s : Stmt} {ps qs : List Placed} → Reads (Simple n s) ps qs → (rest : Kinds) → NoElse (print_simple s rest)
simple_no_else (assign {op = op} {t = t} {e = e} i r q) rest = target_no_else t (assign_kind op ∷ print_term 0 e rest)
simple_no_else (step_before {is_increment = up} {t = t} i r) rest = step_no_else up (print_target t rest)
simple_no_else (step_behind {is_increment = up} {t = t} i h r) rest = step_no_else up (print_target t rest)
simple_no_else bare_call_only rest = λ e. cc
simple_no_else (call_only r) rest = λ e. cc

pub declaration_no_else : {n : ℕ} {s : Stmt} {ps qs : List Placed} → Reads (Declaration n s) ps qs → (rest : Kinds) → NoElse (print_stmt s rest)
declaration_no_else (declare {x = x} {kind = kind} r) rest = type_no_else kind (kinds.Name x ∷ kinds.Semicolon ∷ rest)
declaration_no_else (declare_as {x = x} {kind = kind} {e = e} r q) rest = type_no_else kind (kinds.Name x ∷ kinds.Assign ∷ print_term 0 e (kinds.Semicolon ∷ rest))
declaration_no_else (array i) rest = λ e. cc
declaration_no_else (local_array i) rest = λ e. cc

pub statement_no_else : {n : ℕ} {s : Stmt} {ps qs : List Placed} → Reads (Statement n s) ps qs → (rest : Kinds) → NoElse (print_stmt s rest)
statement_no_else (simple {s = s} r) rest = subst NoElse (sym (simple_ended r rest)) (simple_no_else r (kinds.Semicolon ∷ rest))
statement_no_else empty rest = λ e. cc
statement_no_else (block r) rest = λ e. cc
statement_no_else (if_only r q h) rest = λ e. cc
statement_no_else (if_else r q t) rest = λ e. cc
statement_no_else (while_loop r q) rest = λ e. cc
statement_no_else (do_loop r q) rest = λ e. cc
statement_no_else (for_loop i c f r) rest = λ e. cc
statement_no_else break_only rest = λ e. cc
statement_no_else continue_only rest = λ e. cc
statement_no_else return_only rest = λ e. cc
statement_no_else (return_value r) rest = λ e. cc

-- ---- types and declarations

-- a type, without what is read for it
abbrev pub AgainType : Bool → ℕ → VariableType → Kinds → List Token → Type 0
AgainType u n kind rest ts = Again (Unit {0}) (λ x. Typing u n kind) (λ x. Unit {0}) rest ts

pub type_again : {u : Bool} {n : ℕ} {kind : VariableType} {ps qs : List Placed} → Reads (Typing u n kind) ps qs → (rest : Kinds) (ts : List Token) → kinds_of ts ≡ print_type kind rest → AgainType u n kind rest ts
type_again (integer {n = n} {u = u} {type = type} i) = λ rest ts s.
    let word = first_of_kinds (kinds.Type type) rest ts s in
    record { tree = tt; after = word.rest; kinds = word.kinds; same = tt; place = λ qs q. record { placed = put n (kinds.Type type) word.at ∷ qs; same = behind_one n word qs q; reads = integer (word_of u type) } }
type_again (pointer {n = n} {u = u} {space = space} {type = type} i) = λ rest ts s.
    let first = first_of_kinds (kinds.Space space) _ ts s in
    let word = first_of_kinds (kinds.Type type) _ first.rest first.kinds in
    let star = first_of_kinds kinds.Star rest word.rest word.kinds in
    record {
      tree = tt;
      after = star.rest;
      kinds = star.kinds;
      same = tt;
      place = λ qs q.
          let starred : List Placed = put n kinds.Star star.at ∷ qs in
          let typed : List Placed = put n (kinds.Type type) word.at ∷ starred in
          record { placed = put n (kinds.Space space) first.at ∷ typed; same = behind_one n first typed (behind_one n word starred (behind_one n star qs q)); reads = pointer (word_of u type) };
    }
type_again (const_pointer {n = n} {u = u} {space = space} {type = type} i) = λ rest ts s.
    let first = first_of_kinds (kinds.Space space) _ ts s in
    let const_ = first_of_kinds kinds.Const _ first.rest first.kinds in
    let word = first_of_kinds (kinds.Type type) _ const_.rest const_.kinds in
    let star = first_of_kinds kinds.Star rest word.rest word.kinds in
    record {
      tree = tt;
      after = star.rest;
      kinds = star.kinds;
      same = tt;
      place = λ qs q.
          let starred : List Placed = put n kinds.Star star.at ∷ qs in
          let typed : List Placed = put n (kinds.Type type) word.at ∷ starred in
          let qualified : List Placed = put n kinds.Const const_.at ∷ typed in
          record {
            placed = put n (kinds.Space space) first.at ∷ qualified;
            same = behind_one n first qualified (behind_one n const_ typed (behind_one n word starred (behind_one n star qs q)));
            reads = const_pointer (word_of u type);
          };
    }

abbrev pub AgainDeclaration : (n : ℕ) → Stmt → Kinds → List Token → Type 0
AgainDeclaration n s rest ts = Again Stmt (λ x. Declaration n x) (λ x. plain_stmt x ≡ plain_stmt s) rest ts

-- an array's name, its length in brackets and a semicolon
abbrev sized : (n x : ℕ) → whole.Integer → (name_at open_at length_at close_at end_at : ℕ) → List Placed → List Placed
sized n x v name_at open_at length_at close_at end_at qs =
    put n (kinds.Name x) name_at ∷ put n kinds.OpenSquare open_at ∷ put (suc n) (kinds.Number v) length_at ∷ put (suc n) kinds.CloseSquare close_at ∷ put n kinds.Semicolon end_at ∷ qs

record Sized (n x : ℕ) (v : whole.Integer) (rest : Kinds) (ts : List Token) : Type 0 where
  name_at : ℕ
  open_at : ℕ
  length_at : ℕ
  close_at : ℕ
  end_at : ℕ
  after : List Token
  same : (qs : List Placed) → tokens qs ≡ after → tokens (sized n x v name_at open_at length_at close_at end_at qs) ≡ ts
  kinds : kinds_of after ≡ rest

sized_again : (n x : ℕ) (v : whole.Integer) (rest : Kinds) (ts : List Token) → kinds_of ts ≡ kinds.Name x ∷ kinds.OpenSquare ∷ kinds.Number v ∷ kinds.CloseSquare ∷ kinds.Semicolon ∷ rest → Sized n x v rest ts
sized_again n x v rest ts s =
    let name = first_of_kinds (kinds.Name x) _ ts s in
    let open_ = first_of_kinds kinds.OpenSquare _ name.rest name.kinds in
    let number = first_of_kinds (kinds.Number v) _ open_.rest open_.kinds in
    let close_ = first_of_kinds kinds.CloseSquare _ number.rest number.kinds in
    let end_ = first_of_kinds kinds.Semicolon rest close_.rest close_.kinds in
    record {
      name_at = name.at;
      open_at = open_.at;
      length_at = number.at;
      close_at = close_.at;
      end_at = end_.at;
      after = end_.rest;
      same = λ qs q.
          let ended : List Placed = put n kinds.Semicolon end_.at ∷ qs in
          let closed : List Placed = put (suc n) kinds.CloseSquare close_.at ∷ ended in
          let counted : List Placed = put (suc n) (kinds.Number v) number.at ∷ closed in
          let opened : List Placed = put n kinds.OpenSquare open_.at ∷ counted in
          behind_one n name opened (behind_one n open_ counted (behind_one (suc n) number closed (behind_one (suc n) close_ ended (behind_one n end_ qs q))));
      kinds = end_.kinds;
    }

pub array_again : (n a b x d : ℕ) (type : IntType) (v : whole.Integer) (rest : Kinds) (ts : List Token) → kinds_of ts ≡ print_stmt (DeclareArray a false type b x d v) rest → AgainDeclaration n (DeclareArray a false type b x d v) rest ts
array_again n a b x d type v rest ts s =
    let word = first_of_kinds (kinds.Type type) _ ts s in
    let z = sized_again n x v rest word.rest word.kinds in
    record {
      tree = DeclareArray word.at false type z.name_at x z.length_at v;
      after = z.after;
      kinds = z.kinds;
      same = refl;
      place = λ qs q.
          let named : List Placed = sized n x v z.name_at z.open_at z.length_at z.close_at z.end_at qs in
          record { placed = put n (kinds.Type type) word.at ∷ named; same = behind_one n word named (z.same qs q); reads = array refl };
    }

pub local_array_again : (n a b x d : ℕ) (type : IntType) (v : whole.Integer) (rest : Kinds) (ts : List Token) → kinds_of ts ≡ print_stmt (DeclareArray a true type b x d v) rest → AgainDeclaration n (DeclareArray a true type b x d v) rest ts
local_array_again n a b x d type v rest ts s =
    let space = first_of_kinds (kinds.Space Local) _ ts s in
    let word = first_of_kinds (kinds.Type type) _ space.rest space.kinds in
    let z = sized_again n x v rest word.rest word.kinds in
    record {
      tree = DeclareArray space.at true type z.name_at x z.length_at v;
      after = z.after;
      kinds = z.kinds;
      same = refl;
      place = λ qs q.
          let named : List Placed = sized n x v z.name_at z.open_at z.length_at z.close_at z.end_at qs in
          let typed : List Placed = put n (kinds.Type type) word.at ∷ named in
          record { placed = put n (kinds.Space Local) space.at ∷ typed; same = behind_one n space typed (behind_one n word named (z.same qs q)); reads = local_array refl };
    }
