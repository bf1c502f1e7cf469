-- Walks over the statements of a function, in what stands round them (own).
use Rattle.std.specs.Prelude.{ℕ, ◌++◌, Option, List, [], ◌∷◌}
use Rattle.clnum.specs.declared.int_type.IntType.{IntType}
use Rattle.clnum.specs.declared.operators.BinaryOperator.{BinaryOperator}
use Rattle.clmodel.specs.BuiltIns.{built_in}
use Rattle.clmodel.specs.Barrier.{is_barrier}
use Rattle.clmodel.specs.Next.{helper_call}
use Rattle.clmodel.specs.Tree.{Term, Terms, Target, Stmt, Stmts, MaybeStmt, MaybeTerm, WithoutTerm, WithTerm}
use Rattle.lower_code.specs.Code.{result_in}
use Rattle.lower_code.specs.Emission.{functions_of}
use Rattle.origins.specs.Origins.{Node, Origin, times, call_origins, origins_at, expr_origins, target_origins, fetch_origins, value_count, right_origins, call_statement_origins, assign_origins, condition_origins, stmt_origins, part_origins, row_origins}
use Rattle.origins.specs.Names.{plain, names_after_part}
use Rattle.clmodel.specs.declared.tree.VariableType.{VariableType}
use Rattle.origins.specs.declared.names.NamedVariable.{NamedVariable}
use Rattle.origins.specs.declared.setting.Setting.{Setting}

abbrev pub inside_in : Setting → ℕ → List Origin
inside_in s place = origins_at s.functions.now place

abbrev pub calls_in : Setting → Node → ℕ → List Origin
calls_in s call name = call_origins (functions_of s.functions.now) call name

abbrev pub results_in : Setting → ℕ → Option IntType
results_in s name = result_in (functions_of s.functions.now) name

abbrev pub right_in : Setting → List NamedVariable → Term → List Origin
right_in s names value = right_origins (calls_in s) (results_in s) s.result names (helper_call value) value

abbrev pub assign_in : Setting → List NamedVariable → Target → Option BinaryOperator → Term → Node → List Origin
assign_in s names target operator value n = assign_origins (calls_in s) (results_in s) s.result names target operator value n

abbrev pub call_in : Setting → List NamedVariable → ℕ → Terms → Node → List Origin
call_in s names name arguments n = call_statement_origins (calls_in s) (results_in s) s.result names (is_barrier name) (built_in name) name arguments n

-- a step, for its node
abbrev pub step_in : List NamedVariable → Target → Node → List Origin
step_in names target n = target_origins names target ++ (fetch_origins names target n ++ times 3 n)

-- the return of a value, or without one, for its node
abbrev pub return_in : Setting → List NamedVariable → MaybeTerm → Node → List Origin
return_in s names WithoutTerm n = times (value_count s.result) n ++ times 1 n
return_in s names (WithTerm value) n = expr_origins names value ++ (times (value_count s.result) n ++ times 1 n)

abbrev pub stmt_in : Setting → List NamedVariable → Stmt → List Origin
stmt_in s names statement = stmt_origins (calls_in s) (results_in s) s.result names statement

abbrev pub part_in : Setting → List NamedVariable → MaybeStmt → List Origin
part_in s names part = part_origins (calls_in s) (results_in s) s.result names part

abbrev pub row_in : Setting → List NamedVariable → Stmts → List Origin
row_in s names statements = row_origins (calls_in s) (results_in s) s.result names statements

-- a `for`, for its node
abbrev pub for_in : Setting → List NamedVariable → MaybeStmt → MaybeTerm → MaybeStmt → Stmt → Node → List Origin
for_in s names first test third body n =
    part_in s names first
    ++ (times 3 n
    ++ (stmt_in s (names_after_part names first) body
    ++ (part_in s (names_after_part names first) third
    ++ (condition_origins (names_after_part names first) test n ++ times 1 n))))

-- a declaration with an initialiser, for its node
abbrev pub declare_in : Setting → List NamedVariable → VariableType → ℕ → Term → Node → List Origin
declare_in s names kind name value n = times 1 n ++ (right_in s (names ++ plain name kind ∷ []) value ++ times 1 n)
