-- What is passed of each form of statement, and of statements one after another.
use Rattle.std.proofs.Common.{◌≡◌, ℕ, ◌+◌, ◌<◌, Bool, Option, None, Some, Box, Bor, Vec, List, [], ◌∷◌, ◌++◌, length, take, get_or, Result, refl, sym, ap, ap₂, subst, ◌∙◌}
use Rattle.std.proofs.lemmas.List.{append_assoc, append-nil}
use Rattle.std.specs.Option.{option_map}
use Rattle.std.specs.declared.alloc.Global.{Global}
use Rattle.clnum.specs.Integer.{Integer}
use Rattle.clnum.specs.declared.int_type.IntType.{IntType}
use Rattle.clnum.specs.declared.operators.BinaryOperator.{BinaryOperator}
use Rattle.clmodel.specs.Tree.{Stmt, Stmts, NoStmt, ThenStmt, MaybeStmt, Without, With, MaybeTerm, Empty, Block, Declare, DeclareAs, DeclareArray, Assign, Step, CallOnly, If, IfElse, While, DoWhile, For, Break, Continue, Return, ReturnValue, term, terms, tree_target, stmt, maybe_term}
use Rattle.clmodel.specs.declared.tree.Expression.{Expression}
use Rattle.clmodel.specs.declared.tree.Statement as rust_statement
use Rattle.clmodel.specs.declared.tree.Statement.{Statement}
use Rattle.clmodel.specs.declared.tree.Target as rust_target
use Rattle.clmodel.specs.declared.tree.VariableType.{VariableType}
use Rattle.lower_code.specs.Trees.{all_of, part_of}
use Rattle.lower_code.proofs.Calling.{call_is}
use Rattle.lower_code.proofs.Lists.{block_is}
use Rattle.lower_code.proofs.Trees.{row_more}
use Rattle.origins.specs.Names.{plain, array_kind, array_meaning, names_after, names_after_part, names_after_all}
use Rattle.origins.specs.Origins.{Node, OfStmt, Origin, times, array_count, condition_origins}
use Rattle.origins.specs.Settings.{stmt_in, part_in, row_in, assign_in, step_in, call_in, declare_in, return_in, for_in}
use Rattle.origins.specs.Walks.{Walks}
use Rattle.origins.specs.declared.names.NamedVariable.{NamedVariable}
use Rattle.origins.specs.declared.node.WalkEnd.{WalkEnd}
use Rattle.origins.specs.declared.setting.Setting.{Setting}
use Rattle.origins.proofs.Stating.{of_six}

-- the variables behind a declaration are those before it and others
one_after : (names : List NamedVariable) (s : Stmt) → (more : List NamedVariable) × (names_after names s ≡ names ++ more)
one_after names (Declare at kind name_at name) = (plain name kind ∷ [], refl)
one_after names (DeclareAs at kind name_at name value) = (plain name kind ∷ [], refl)
one_after names (DeclareArray at is_local element name_at name length_at count) = (record { name = name; kind = array_kind is_local element; meaning = array_meaning is_local count } ∷ [], refl)
one_after names (Empty at) = ([], sym (append-nil names))
one_after names (Block at body) = ([], sym (append-nil names))
one_after names (Assign at to operator value) = ([], sym (append-nil names))
one_after names (Step at to is_increment) = ([], sym (append-nil names))
one_after names (CallOnly at name arguments) = ([], sym (append-nil names))
one_after names (If at test one) = ([], sym (append-nil names))
one_after names (IfElse at test one two) = ([], sym (append-nil names))
one_after names (While at test body) = ([], sym (append-nil names))
one_after names (DoWhile at body test) = ([], sym (append-nil names))
one_after names (For at first test third body) = ([], sym (append-nil names))
one_after names (Break at) = ([], sym (append-nil names))
one_after names (Continue at) = ([], sym (append-nil names))
one_after names (Return at) = ([], sym (append-nil names))
one_after names (ReturnValue at value) = ([], sym (append-nil names))

pub part_after : (names : List NamedVariable) (part : MaybeStmt) → (more : List NamedVariable) × (names_after_part names part ≡ names ++ more)
part_after names Without = ([], sym (append-nil names))
part_after names (With s) = one_after names s

pub all_after : (names : List NamedVariable) (ss : Stmts) → (more : List NamedVariable) × (names_after_all names ss ≡ names ++ more)
all_after names NoStmt = ([], sym (append-nil names))
all_after names (ThenStmt ss s) =
    let before = all_after names ss in
    let last = one_after (names_after_all names ss) s in
    (before.0 ++ last.0, last.1 ∙ ap (λ ns. ns ++ last.0) before.1 ∙ append_assoc names before.0 last.0)

abbrev part_named : Option Statement → MaybeStmt
part_named None = Without
part_named (Some s) = With (stmt s)

part_is : (p : Option (Bor Statement)) → part_of p ≡ part_named (option_map (λ x. x.now) p)
part_is None = refl
part_is (Some s) = refl

for_stmt : (at : ℕ) (first : Option (Box Statement Global)) (condition : Option (Box Expression Global)) (third : Option (Box Statement Global)) (body : Box Statement Global)
    → For at (part_named (option_map (λ s. s.value) first)) (maybe_term condition) (part_named (option_map (λ s. s.value) third)) (stmt body.value) ≡ stmt (rust_statement.For at first condition third body)
for_stmt at None None None body = refl
for_stmt at None None (Some third) body = refl
for_stmt at (Some first) None None body = refl
for_stmt at (Some first) None (Some third) body = refl
for_stmt at None (Some e) None body = refl
for_stmt at None (Some e) (Some third) body = refl
for_stmt at (Some first) (Some e) None body = refl
for_stmt at (Some first) (Some e) (Some third) body = refl

module _ (s : Setting) (names : List NamedVariable) where
  abbrev S : List NamedVariable → Statement → List Origin
  S ns e = stmt_in s ns (stmt e)

  abbrev N : Statement → Node
  N e = OfStmt (stmt e)

  pub empty_whole : (e : Statement) (at : ℕ) → e ≡ rust_statement.Empty at → [] ≡ S names e
  empty_whole e at is = sym (ap (S names) is)

  pub block_whole : (e : Statement) (at : ℕ) (ss : Vec Statement Global) (xs : List Statement) → e ≡ rust_statement.Block at ss → xs ≡ ss.items → row_in s names (all_of xs) ≡ S names e
  block_whole e at ss xs is q = ap (λ (z : Stmt). stmt_in s names z) (block_is e at ss xs is q)

  pub declare_whole : (e : Statement) (at : ℕ) (kind : VariableType) (name_at name : ℕ) (value : Option (Box Expression Global)) → e ≡ rust_statement.Declare at kind name_at name value → value ≡ None
      → times 1 (N e) ≡ S names e
  declare_whole e at kind name_at name value is none =
      let now : e ≡ rust_statement.Declare at kind name_at name None = is ∙ ap (λ (v : Option (Box Expression Global)). rust_statement.Declare at kind name_at name v) none in
      ap (λ (z : Statement). times 1 (N z)) now ∙ sym (ap (S names) now)

  pub declare_as_whole : (e : Statement) (at : ℕ) (kind : VariableType) (name_at name : ℕ) (value : Option (Box Expression Global)) (v : Box Expression Global) (x : Expression)
      → e ≡ rust_statement.Declare at kind name_at name value → value ≡ Some v → x ≡ v.value → declare_in s names kind name (term x) (N e) ≡ S names e
  declare_as_whole e at kind name_at name value v x is some x_is =
      let now : e ≡ rust_statement.Declare at kind name_at name (Some v) = is ∙ ap (λ (w : Option (Box Expression Global)). rust_statement.Declare at kind name_at name w) some in
      ap (λ (y : Expression). declare_in s names kind name (term y) (N e)) x_is
      ∙ ap (λ (z : Statement). declare_in s names kind name (term v.value) (N z)) now
      ∙ sym (ap (S names) now)

  pub array_whole : (e : Statement) (at : ℕ) (is_local : Bool) (element : IntType) (name_at name length_at : ℕ) (count : Integer) (n : ℕ)
      → e ≡ rust_statement.DeclareArray at is_local element name_at name length_at count → n ≡ array_count is_local → times n (N e) ≡ S names e
  array_whole e at is_local element name_at name length_at count n is n_is = ap₂ (λ (k : ℕ) (z : Statement). times k (N z)) n_is is ∙ sym (ap (S names) is)

  pub assign_whole : (e : Statement) (at : ℕ) (to : Box rust_target.Target Global) (operator : Option BinaryOperator) (value : Box Expression Global) (ks : List NamedVariable) (t : rust_target.Target) (v : Expression)
      → e ≡ rust_statement.Assign at to operator value → ks ≡ names → t ≡ to.value → v ≡ value.value → assign_in s ks (tree_target t) operator (term v) (N e) ≡ S names e
  assign_whole e at to operator value ks t v is k t_is v_is =
      ap₂ (λ (x : rust_target.Target) (y : Expression). assign_in s ks (tree_target x) operator (term y) (N e)) t_is v_is
      ∙ ap₂ (λ (ns : List NamedVariable) (z : Statement). assign_in s ns (tree_target to.value) operator (term value.value) (N z)) k is
      ∙ by operator
      ∙ sym (ap (S names) is)
    where
      by : (o : Option BinaryOperator)
          → assign_in s names (tree_target to.value) o (term value.value) (N (rust_statement.Assign at to o value)) ≡ S names (rust_statement.Assign at to o value)
      by o = refl

  pub step_whole : (e : Statement) (at : ℕ) (to : Box rust_target.Target Global) (is_increment : Bool) (ks : List NamedVariable) (t : rust_target.Target)
      → e ≡ rust_statement.Step at to is_increment → ks ≡ names → t ≡ to.value → step_in ks (tree_target t) (N e) ≡ S names e
  step_whole e at to is_increment ks t is k t_is =
      ap₂ (λ (ns : List NamedVariable) (x : rust_target.Target). step_in ns (tree_target x) (N e)) k t_is
      ∙ ap (λ (z : Statement). step_in names (tree_target to.value) (N z)) is
      ∙ sym (ap (S names) is)

  pub call_whole : (e : Statement) (at name : ℕ) (es : Vec Expression Global) (ks : List NamedVariable) (xs : List Expression) → e ≡ rust_statement.Call at name es → ks ≡ names → xs ≡ es.items
      → call_in s ks name (terms xs) (N e) ≡ S names e
  call_whole e at name es ks xs is k q =
      ap (λ (ns : List NamedVariable). call_in s ns name (terms xs) (N e)) k
      ∙ ap (λ (z : Stmt). call_in s names name (terms xs) (OfStmt z)) (call_is e at name es xs is q)
      ∙ sym (ap (λ (z : Stmt). stmt_in s names z) (call_is e at name es xs is q))

  pub jump_whole : (e f : Statement) → e ≡ f → times 1 (N f) ≡ S names f → times 1 (N e) ≡ S names e
  jump_whole e f is h = ap (λ (z : Statement). times 1 (N z)) is ∙ h ∙ sym (ap (S names) is)

  pub return_whole : (e : Statement) (at : ℕ) (value : Option (Box Expression Global)) (ks : List NamedVariable) (t : MaybeTerm) → e ≡ rust_statement.Return at value → ks ≡ names → t ≡ maybe_term value
      → return_in s ks t (N e) ≡ S names e
  return_whole e at value ks t is k t_is =
      ap₂ (λ (ns : List NamedVariable) (u : MaybeTerm). return_in s ns u (N e)) k t_is
      ∙ ap (λ (z : Statement). return_in s names (maybe_term value) (N z)) is
      ∙ by value
      ∙ sym (ap (S names) is)
    where
      by : (v : Option (Box Expression Global)) → return_in s names (maybe_term v) (N (rust_statement.Return at v)) ≡ S names (rust_statement.Return at v)
      by None = refl
      by (Some v) = refl

  pub for_whole : (e : Statement) (at : ℕ) (first : Option (Box Statement Global)) (condition : Option (Box Expression Global)) (third : Option (Box Statement Global)) (body : Box Statement Global)
      (p q : Option (Bor Statement)) (t : MaybeTerm) (b : Statement) → e ≡ rust_statement.For at first condition third body → option_map (λ x. x.now) p ≡ option_map (λ x. x.value) first
      → t ≡ maybe_term condition → option_map (λ x. x.now) q ≡ option_map (λ x. x.value) third → b ≡ body.value
      → for_in s names (part_of p) t (part_of q) (stmt b) (N e) ≡ S names e
  for_whole e at first condition third body p q t b is p_is t_is q_is b_is =
      let now : For at (part_of p) t (part_of q) (stmt b) ≡ stmt e =
      ap₂ (λ x y. For at x t y (stmt b)) (part_is p ∙ ap part_named p_is) (part_is q ∙ ap part_named q_is)
      ∙ ap₂ (λ x y. For at (part_named (option_map (λ s. s.value) first)) x (part_named (option_map (λ s. s.value) third)) (stmt y)) t_is b_is
      ∙ for_stmt at first condition third body ∙ ap stmt (sym is) in
      ap (λ (z : Stmt). for_in s names (part_of p) t (part_of q) (stmt b) (OfStmt z)) (sym now) ∙ ap (λ (z : Stmt). stmt_in s names z) now

  -- the parts of a `for`, each in the variables that are in scope there
  pub for_joined : (first third : MaybeStmt) (test : MaybeTerm) (body : Stmt) (n : Node) (ds es ks : List NamedVariable) → ds ≡ names_after_part names first → es ≡ names_after_part names first → ks ≡ names_after_part names first
      → ((((part_in s names first ++ times 3 n) ++ stmt_in s ds body) ++ part_in s es third) ++ condition_origins ks test n) ++ times 1 n ≡ for_in s names first test third body n
  for_joined first third test body n ds es ks d e k =
      ap (λ (ns : List NamedVariable). ((((part_in s names first ++ times 3 n) ++ stmt_in s ns body) ++ part_in s es third) ++ condition_origins ks test n) ++ times 1 n) d
      ∙ ap₂ (λ (ns ms : List NamedVariable). ((((part_in s names first ++ times 3 n) ++ stmt_in s (names_after_part names first) body) ++ part_in s ns third) ++ condition_origins ms test n) ++ times 1 n) e k
      ∙ of_six (part_in s names first) (times 3 n) (stmt_in s (names_after_part names first) body) (part_in s (names_after_part names first) third) (condition_origins (names_after_part names first) test n) (times 1 n)

  -- one statement more
  pub row_passed : (inside : ℕ → List Origin) (ss : List Statement) (i n : ℕ) (r : Result ℕ WalkEnd) (e : Statement) (ks : List NamedVariable) → i < length ss → e ≡ get_or ss i e
      → ks ≡ names_after_all names (all_of (take i ss)) → Walks inside (row_in s names (all_of (take i ss)) ++ stmt_in s ks (stmt e)) n r → Walks inside (row_in s names (all_of (take (i + 1) ss))) n r
  row_passed inside ss i n r e ks below is k w =
      subst (λ (rs : Stmts). Walks inside (row_in s names rs) n r) (sym (row_more ss i e below is))
      (subst (λ (ns : List NamedVariable). Walks inside (row_in s names (all_of (take i ss)) ++ stmt_in s ns (stmt e)) n r) k w)

  pub names_more : (ss : List Statement) (i : ℕ) (e : Statement) (ks ms : List NamedVariable) → i < length ss → e ≡ get_or ss i e → ks ≡ names_after_all names (all_of (take i ss)) → ms ≡ names_after ks (stmt e)
      → ms ≡ names_after_all names (all_of (take (i + 1) ss))
  names_more ss i e ks ms below is k m =
      m ∙ ap (λ (ns : List NamedVariable). names_after ns (stmt e)) k ∙ sym (ap (λ (rs : Stmts). names_after_all names rs) (row_more ss i e below is))
