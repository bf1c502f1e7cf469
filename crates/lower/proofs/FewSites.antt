-- A statement has no more barriers than nodes.
use Rattle.std.proofs.Common.{ℕ, ◌+◌, ◌≤◌, Bool, true, false, if◌then◌else◌, Option, None, Some, arith}
use Rattle.clmodel.specs.Barrier.{is_barrier}
use Rattle.clmodel.specs.BuiltIns.{built_in}
use Rattle.clmodel.specs.Next.{HelperCall, helper_or, helper_call, call_sites, statement_sites, sites, part_sites, all_sites, sites_in}
use Rattle.clmodel.specs.Tree.{Term, Number, Variable, Element, ElementAddress, Dereference, Call, Unary, Cast, Binary, Choice, Stmt, Empty, Block, Declare, DeclareAs, DeclareArray, Assign, Step, CallOnly, If, IfElse, While, DoWhile, For, Break, Continue, Return, ReturnValue, Stmts, NoStmt, ThenStmt, MaybeStmt, Without, With, Funcs, NoFunc, ThenFunc}
use Rattle.clmodel.specs.Typing.Sizes.{Sizes, size_in, term_size, size, part_size, row_size, sizes_of}
use Rattle.clmodel.specs.declared.setup.BuiltIn.{BuiltIn}
use Rattle.lower.specs.Accepted.{Distinct}
use Rattle.lower.proofs.CallCode.{by_name}

module _ (sizes : Sizes) (inside : ℕ → ℕ) (few : (name : ℕ) → inside name ≤ (size_in sizes name).nodes) where
  called_few : (f : Option BuiltIn) (c : HelperCall) → call_sites inside (helper_or f c) ≤ (size_in sizes c.name).nodes
  called_few None c = few c.name
  called_few (Some f) c = omega arith

  value_few : (e : Term) → call_sites inside (helper_call e) ≤ (term_size sizes e).nodes
  value_few (Call at name arguments) = omega (arith, called_few (built_in name) (record { name = name; arguments = arguments }))
  value_few (Number at value) = omega arith
  value_few (Variable at name) = omega arith
  value_few (Element at name index) = omega arith
  value_few (ElementAddress at name_at name index) = omega arith
  value_few (Dereference at pointer) = omega arith
  value_few (Unary at operator operand) = omega arith
  value_few (Cast at target operand) = omega arith
  value_few (Binary at operator left right) = omega arith
  value_few (Choice at condition chosen otherwise) = omega arith

  only_few : (waits : Bool) (f : Option BuiltIn) (name : ℕ) → statement_sites inside waits f name ≤ (size_in sizes name).nodes + 1
  only_few true f name = omega arith
  only_few false (Some f) name = omega arith
  only_few false None name = omega (arith, few name)

  mutual
    statement_few : (s : Stmt) → sites inside s ≤ (size sizes s).nodes
    statement_few (Empty at) = omega arith
    statement_few (Block at body) = omega (arith, row_few body)
    statement_few (Declare at kind name_at name) = omega arith
    statement_few (DeclareAs at kind name_at name value) = omega (arith, value_few value)
    statement_few (DeclareArray at is_local element name_at name length_at count) = omega arith
    statement_few (Assign at place operator value) = omega (arith, value_few value)
    statement_few (Step at place is_increment) = omega arith
    statement_few (CallOnly at name arguments) = omega (arith, only_few (is_barrier name) (built_in name) name)
    statement_few (If at test chosen) = omega (arith, statement_few chosen)
    statement_few (IfElse at test chosen otherwise) = omega (arith, statement_few chosen, statement_few otherwise)
    statement_few (While at test body) = omega (arith, statement_few body)
    statement_few (DoWhile at body test) = omega (arith, statement_few body)
    statement_few (For at first test third body) = omega (arith, part_few first, part_few third, statement_few body)
    statement_few (Break at) = omega arith
    statement_few (Continue at) = omega arith
    statement_few (Return at) = omega arith
    statement_few (ReturnValue at value) = omega arith

    part_few : (part : MaybeStmt) → part_sites inside part ≤ (part_size sizes part).nodes
    part_few Without = omega arith
    part_few (With s) = statement_few s

    row_few : (ss : Stmts) → all_sites inside ss ≤ (row_size sizes ss).nodes
    row_few NoStmt = omega arith
    row_few (ThenStmt ss s) = omega (arith, row_few ss, statement_few s)

-- in each helper
inside_few : (fs : Funcs) → Distinct fs → (name : ℕ) → sites_in fs name ≤ (size_in (sizes_of fs) name).nodes
inside_few NoFunc distinct name = omega arith
inside_few (ThenFunc earlier f) distinct name =
    let before = inside_few earlier distinct.0 in
    by_name (λ s b. (if b then all_sites (sites_in earlier) f.body else sites_in earlier name) ≤ s.nodes) earlier f distinct.1 name
    (λ e. row_few (sizes_of earlier) (sites_in earlier) before f.body) (λ e. before name)

-- in a function's body
pub body_few : (earlier : Funcs) → Distinct earlier → (body : Stmts) → all_sites (sites_in earlier) body ≤ (row_size (sizes_of earlier) body).nodes
body_few earlier distinct body = row_few (sizes_of earlier) (sites_in earlier) (inside_few earlier distinct) body
