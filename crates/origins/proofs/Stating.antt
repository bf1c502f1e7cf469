-- What is passed of statements, part by part, is the whole.
use Rattle.std.proofs.Common.{◌≡◌, ℕ, Bool, true, false, Option, None, Some, List, [], ◌∷◌, ◌++◌, length, take, refl, sym, ap, ap₂, ◌∙◌}
use Rattle.std.proofs.lemmas.List.{append_assoc}
use Rattle.clnum.specs.declared.operators.BinaryOperator.{BinaryOperator}
use Rattle.clmodel.specs.Barrier.{is_barrier}
use Rattle.clmodel.specs.BuiltIns.{built_in}
use Rattle.clmodel.specs.Next.{HelperCall, helper_call}
use Rattle.clmodel.specs.Tree.{Term, Terms, Target, Stmt, If, IfElse, While, DoWhile, term, terms, stmt, func}
use Rattle.clnum.specs.declared.int_type.IntType.{IntType}
use Rattle.clmodel.specs.declared.setup.BuiltIn.{BuiltIn}
use Rattle.clmodel.specs.declared.tree.Function.{Function}
use Rattle.clmodel.specs.declared.tree.Parameter.{Parameter}
use Rattle.clmodel.specs.declared.tree.Expression.{Expression}
use Rattle.clmodel.specs.declared.tree.Statement.{Statement}
use Rattle.lower_code.specs.Trees.{all_of}
use Rattle.origins.specs.Names.{plain, parameter_names}
use Rattle.origins.specs.Origins.{Node, OfTerm, OfStmt, OfFunc, Origin, times, expr_origins, terms_origins, target_origins, fetch_origins, needed_count, value_count, right_origins, call_statement_origins, row_origins, function_origins}
use Rattle.origins.specs.Settings.{stmt_in, row_in, right_in, assign_in, call_in, declare_in, calls_in, results_in}
use Rattle.clmodel.specs.declared.tree.VariableType.{VariableType}
use Rattle.origins.specs.declared.names.NamedVariable.{NamedVariable}
use Rattle.origins.specs.declared.setting.Setting.{Setting}

-- five lists, and six, one behind another
pub of_five : (a b c d e : List Origin) → (((a ++ b) ++ c) ++ d) ++ e ≡ a ++ (b ++ (c ++ (d ++ e)))
of_five a b c d e = append_assoc ((a ++ b) ++ c) d e ∙ append_assoc (a ++ b) c (d ++ e) ∙ append_assoc a b (c ++ (d ++ e))

pub of_six : (a b c d e f : List Origin) → ((((a ++ b) ++ c) ++ d) ++ e) ++ f ≡ a ++ (b ++ (c ++ (d ++ (e ++ f))))
of_six a b c d e f = append_assoc (((a ++ b) ++ c) ++ d) e f ∙ of_five a b c d (e ++ f)

of_loop : (a b c d e : List Origin) → (((a ++ b) ++ c) ++ d) ++ e ≡ a ++ (b ++ ((c ++ d) ++ e))
of_loop a b c d e = of_five a b c d e ∙ ap (λ z. a ++ (b ++ z)) (sym (append_assoc c d e))

module _ (s : Setting) (names : List NamedVariable) where
  abbrev E : List NamedVariable → Expression → List Origin
  E ns e = expr_origins ns (term e)

  abbrev S : List NamedVariable → Statement → List Origin
  S ns e = stmt_in s ns (stmt e)

  abbrev O : ℕ → Stmt → List Origin
  O n e = times n (OfStmt e)

  pub if_whole : (e : Stmt) (at : ℕ) (ks ms : List NamedVariable) (t u : Expression) (x y : Statement) → ks ≡ names → t ≡ u → ms ≡ names → x ≡ y → e ≡ If at (term u) (stmt y)
      → (E ks t ++ O 1 e) ++ S ms x ≡ stmt_in s names e
  if_whole e at ks ms t u x y k p m q is =
      ap₂ (λ (ns : List NamedVariable) (z : Expression). (E ns z ++ O 1 e) ++ S ms x) k p
      ∙ ap₂ (λ (ns : List NamedVariable) (z : Statement). (E names u ++ O 1 e) ++ S ns z) m q
      ∙ append_assoc (E names u) (O 1 e) (S names y)
      ∙ ap (λ (z : Stmt). E names u ++ (O 1 z ++ S names y)) is
      ∙ sym (ap (λ (z : Stmt). stmt_in s names z) is)

  pub if_else_whole : (e : Stmt) (at : ℕ) (ks ms ls : List NamedVariable) (t u : Expression) (x y v w : Statement) → ks ≡ names → t ≡ u → ms ≡ names → x ≡ y → ls ≡ names → v ≡ w
      → e ≡ IfElse at (term u) (stmt y) (stmt w) → (((E ks t ++ O 1 e) ++ S ms x) ++ O 1 e) ++ S ls v ≡ stmt_in s names e
  if_else_whole e at ks ms ls t u x y v w k p m q l r is =
      ap₂ (λ (ns : List NamedVariable) (z : Expression). (((E ns z ++ O 1 e) ++ S ms x) ++ O 1 e) ++ S ls v) k p
      ∙ ap₂ (λ (ns : List NamedVariable) (z : Statement). (((E names u ++ O 1 e) ++ S ns z) ++ O 1 e) ++ S ls v) m q
      ∙ ap₂ (λ (ns : List NamedVariable) (z : Statement). (((E names u ++ O 1 e) ++ S names y) ++ O 1 e) ++ S ns z) l r
      ∙ of_five (E names u) (O 1 e) (S names y) (O 1 e) (S names w)
      ∙ ap (λ (z : Stmt). E names u ++ (O 1 z ++ (S names y ++ (O 1 z ++ S names w)))) is
      ∙ sym (ap (λ (z : Stmt). stmt_in s names z) is)

  pub while_whole : (e : Stmt) (at : ℕ) (ms ks : List NamedVariable) (x y : Statement) (t u : Expression) → ms ≡ names → x ≡ y → ks ≡ names → t ≡ u → e ≡ While at (term u) (stmt y)
      → (((O 3 e ++ S ms x) ++ E ks t) ++ O 1 e) ++ O 1 e ≡ stmt_in s names e
  while_whole e at ms ks x y t u m q k p is =
      ap₂ (λ (ns : List NamedVariable) (z : Statement). (((O 3 e ++ S ns z) ++ E ks t) ++ O 1 e) ++ O 1 e) m q
      ∙ ap₂ (λ (ns : List NamedVariable) (z : Expression). (((O 3 e ++ S names y) ++ E ns z) ++ O 1 e) ++ O 1 e) k p
      ∙ of_loop (O 3 e) (S names y) (E names u) (O 1 e) (O 1 e)
      ∙ ap (λ (z : Stmt). O 3 z ++ (S names y ++ ((E names u ++ O 1 z) ++ O 1 z))) is
      ∙ sym (ap (λ (z : Stmt). stmt_in s names z) is)

  pub do_whole : (e : Stmt) (at : ℕ) (ms ks : List NamedVariable) (x y : Statement) (t u : Expression) → ms ≡ names → x ≡ y → ks ≡ names → t ≡ u → e ≡ DoWhile at (stmt y) (term u)
      → (((O 2 e ++ S ms x) ++ E ks t) ++ O 1 e) ++ O 1 e ≡ stmt_in s names e
  do_whole e at ms ks x y t u m q k p is =
      ap₂ (λ (ns : List NamedVariable) (z : Statement). (((O 2 e ++ S ns z) ++ E ks t) ++ O 1 e) ++ O 1 e) m q
      ∙ ap₂ (λ (ns : List NamedVariable) (z : Expression). (((O 2 e ++ S names y) ++ E ns z) ++ O 1 e) ++ O 1 e) k p
      ∙ of_loop (O 2 e) (S names y) (E names u) (O 1 e) (O 1 e)
      ∙ ap (λ (z : Stmt). O 2 z ++ (S names y ++ ((E names u ++ O 1 z) ++ O 1 z))) is
      ∙ sym (ap (λ (z : Stmt). stmt_in s names z) is)

  -- a right side: another expression than a helper's call, and such a call
  pub right_plain : (value : Term) → helper_call value ≡ None → expr_origins names value ≡ right_in s names value
  right_plain value e = ap (λ (c : Option HelperCall). right_origins (calls_in s) (results_in s) s.result names c value) (sym e)

  pub right_call : (value : Term) (call : HelperCall) (es : List Expression) (count : ℕ) → helper_call value ≡ Some call → call.arguments ≡ terms es → count ≡ needed_count (results_in s call.name)
      → (terms_origins names (terms es) ++ calls_in s (OfTerm value) call.name) ++ times count (OfTerm value) ≡ right_in s names value
  right_call value call es count e a k =
      append_assoc (terms_origins names (terms es)) (calls_in s (OfTerm value) call.name) (times count (OfTerm value))
      ∙ ap₂ (λ (ts : Terms) (n : ℕ). terms_origins names ts ++ (calls_in s (OfTerm value) call.name ++ times n (OfTerm value))) (sym a) k
      ∙ ap (λ (c : Option HelperCall). right_origins (calls_in s) (results_in s) s.result names c value) (sym e)

  pub assign_plain : (target : Target) (operator : Option BinaryOperator) (value : Term) (n : Node) → operator ≡ None
      → (target_origins names target ++ right_in s names value) ++ times 1 n ≡ assign_in s names target operator value n
  assign_plain target operator value n e =
      append_assoc (target_origins names target) (right_in s names value) (times 1 n) ∙ ap (λ (o : Option BinaryOperator). assign_in s names target o value n) (sym e)

  pub assign_combined : (target : Target) (operator : Option BinaryOperator) (o : BinaryOperator) (value : Term) (n : Node) → operator ≡ Some o
      → ((target_origins names target ++ fetch_origins names target n) ++ right_in s names value) ++ times 2 n ≡ assign_in s names target operator value n
  assign_combined target operator o value n e =
      append_assoc (target_origins names target ++ fetch_origins names target n) (right_in s names value) (times 2 n)
      ∙ append_assoc (target_origins names target) (fetch_origins names target n) (right_in s names value ++ times 2 n)
      ∙ ap (λ (p : Option BinaryOperator). assign_in s names target p value n) (sym e)

  -- a call that is a statement: a barrier, a built-in function, a helper
  pub waits : (name : ℕ) (arguments : Terms) (n : Node) → is_barrier name ≡ true → times 1 n ≡ call_in s names name arguments n
  waits name arguments n b = ap (λ (w : Bool). call_statement_origins (calls_in s) (results_in s) s.result names w (built_in name) name arguments n) (sym b)

  pub calls_built_in : (name : ℕ) (arguments : Terms) (n : Node) (f : BuiltIn) → is_barrier name ≡ false → built_in name ≡ Some f → terms_origins names arguments ++ times 1 n ≡ call_in s names name arguments n
  calls_built_in name arguments n f b k =
      ap₂ (λ (w : Bool) (g : Option BuiltIn). call_statement_origins (calls_in s) (results_in s) s.result names w g name arguments n) (sym b) (sym k)

  pub calls_helper : (name : ℕ) (arguments : Terms) (n : Node) → is_barrier name ≡ false → built_in name ≡ None → terms_origins names arguments ++ calls_in s n name ≡ call_in s names name arguments n
  calls_helper name arguments n b k =
      ap₂ (λ (w : Bool) (g : Option BuiltIn). call_statement_origins (calls_in s) (results_in s) s.result names w g name arguments n) (sym b) (sym k)

  -- a declaration with an initialiser
  pub declared : (ks : List NamedVariable) (kind : VariableType) (name : ℕ) (value : Term) (n : Node) → ks ≡ names ++ plain name kind ∷ []
      → (times 1 n ++ right_in s ks value) ++ times 1 n ≡ declare_in s names kind name value n
  declared ks kind name value n e =
      append_assoc (times 1 n) (right_in s ks value) (times 1 n) ∙ ap (λ (ns : List NamedVariable). times 1 n ++ (right_in s ns value ++ times 1 n)) e

-- the variables before others
taken_all : {A : Type 0} (xs ys : List A) → take (length xs) (xs ++ ys) ≡ xs
taken_all [] ys = refl
taken_all (x ∷ xs) ys = ap (λ rest. x ∷ rest) (taken_all xs ys)

pub first_names : (count : ℕ) (xs ys zs : List NamedVariable) → count ≡ length xs → zs ≡ xs ++ ys → take count zs ≡ xs
first_names count xs ys zs n e = ap (λ ns. take count ns) e ∙ ap (λ k. take k (xs ++ ys)) n ∙ taken_all xs ys

-- a function: its parameters, its body and its end
pub function_whole : (s : Setting) (f : Function) (ps : List Parameter) (bs : List Statement) (ns : List NamedVariable) (count : ℕ) → s.result ≡ f.result → ps ≡ f.parameters.items → bs ≡ f.body.items
    → ns ≡ parameter_names ps → count ≡ value_count f.result
    → (times (length ps) (OfFunc (func f)) ++ row_in s ns (all_of bs)) ++ times count (OfFunc (func f)) ≡ function_origins s.functions.now (func f)
function_whole s f ps bs ns count r p b n k =
    append_assoc (times (length ps) (OfFunc (func f))) (row_in s ns (all_of bs)) (times count (OfFunc (func f)))
    ∙ ap₂ (λ (ms : List NamedVariable) (m : ℕ). times (length ps) (OfFunc (func f)) ++ (row_in s ms (all_of bs) ++ times m (OfFunc (func f)))) n k
    ∙ ap₂ (λ (qs : List Parameter) (cs : List Statement). times (length qs) (OfFunc (func f)) ++ (row_in s (parameter_names qs) (all_of cs) ++ times (value_count f.result) (OfFunc (func f)))) p b
    ∙ ap (λ (t : Option IntType). times (length f.parameters.items) (OfFunc (func f)) ++ (row_origins (calls_in s) (results_in s) t (parameter_names f.parameters.items) (all_of f.body.items) ++ times (value_count f.result) (OfFunc (func f)))) r
