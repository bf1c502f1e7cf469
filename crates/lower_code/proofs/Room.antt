-- The nodes of the parts of statements, from those of the whole.
use Rattle.std.proofs.Common.{◌≡◌, ℕ, ◌+◌, ◌<◌, ◌≤◌, ◌^◌, [], Option, None, Some, arith}
use Rattle.clmodel.specs.BuiltIns.{built_in}
use Rattle.clmodel.specs.Next.{HelperCall, helper_or, helper_call, call_sites}
use Rattle.clmodel.specs.Tree.{Term, Number, Variable, Element, ElementAddress, Dereference, Call, Unary, Cast, Binary, Choice, Terms, NoTerm, ThenTerm, Target, TargetVariable, TargetElement, TargetDereference, MaybeTerm, WithoutTerm, WithTerm}
use Rattle.clmodel.specs.Typing.Sizes.{Sizes, size_in, term_size, terms_size, target_size, condition_size}
use Rattle.clmodel.specs.declared.setup.BuiltIn.{BuiltIn}
use Rattle.lower_code.specs.Room.{levels}

-- they are no more where the helpers count for nothing
mutual
  pub fewer : (sizes : Sizes) (e : Term) → (term_size [] e).nodes ≤ (term_size sizes e).nodes
  fewer sizes (Number at value) = omega arith
  fewer sizes (Variable at name) = omega arith
  fewer sizes (Element at name index) = let h = fewer sizes index in omega (arith, h)
  fewer sizes (ElementAddress at name_at name index) = let h = fewer sizes index in omega (arith, h)
  fewer sizes (Dereference at pointer) = let h = fewer sizes pointer in omega (arith, h)
  fewer sizes (Call at name arguments) = let h = fewer_all sizes arguments in omega (arith, h)
  fewer sizes (Unary at operator operand) = let h = fewer sizes operand in omega (arith, h)
  fewer sizes (Cast at target operand) = let h = fewer sizes operand in omega (arith, h)
  fewer sizes (Binary at operator left right) = let h = fewer sizes left in let k = fewer sizes right in omega (arith, h, k)
  fewer sizes (Choice at condition chosen otherwise) =
      let h = fewer sizes condition in let k = fewer sizes chosen in let l = fewer sizes otherwise in omega (arith, h, k, l)

  pub fewer_all : (sizes : Sizes) (es : Terms) → (terms_size [] es).nodes ≤ (terms_size sizes es).nodes
  fewer_all sizes NoTerm = omega arith
  fewer_all sizes (ThenTerm es e) = let h = fewer_all sizes es in let k = fewer sizes e in omega (arith, h, k)

pub fewer_there : (sizes : Sizes) (to : Target) → (target_size [] to).nodes ≤ (target_size sizes to).nodes
fewer_there sizes (TargetVariable at name) = omega arith
fewer_there sizes (TargetElement at name index) = let h = fewer sizes index in omega (arith, h)
fewer_there sizes (TargetDereference at pointer) = let h = fewer sizes pointer in omega (arith, h)

pub fewer_asked : (sizes : Sizes) (test : MaybeTerm) → (condition_size [] test).nodes ≤ (condition_size sizes test).nodes
fewer_asked sizes WithoutTerm = omega arith
fewer_asked sizes (WithTerm test) = fewer sizes test

called : (sizes : Sizes) (f : Option BuiltIn) (c : HelperCall) → call_sites (λ x. (size_in sizes x).nodes) (helper_or f c) ≤ (size_in sizes c.name).nodes
called sizes None c = omega arith
called sizes (Some f) c = omega arith

-- a call of a helper is a node beside the helper's own
pub called_nodes : (sizes : Sizes) (e : Term) → call_sites (λ x. (size_in sizes x).nodes) (helper_call e) + 1 ≤ (term_size sizes e).nodes
called_nodes sizes (Number at value) = omega arith
called_nodes sizes (Variable at name) = omega arith
called_nodes sizes (Element at name index) = omega arith
called_nodes sizes (ElementAddress at name_at name index) = omega arith
called_nodes sizes (Dereference at pointer) = omega arith
called_nodes sizes (Call at name arguments) = let h = called sizes (built_in name) (record { name = name; arguments = arguments }) in omega (arith, h)
called_nodes sizes (Unary at operator operand) = omega arith
called_nodes sizes (Cast at target operand) = omega arith
called_nodes sizes (Binary at operator left right) = omega arith
called_nodes sizes (Choice at condition chosen otherwise) = omega arith

-- the levels of a helper that an assignment or a declaration calls
pub split_low : (sizes : Sizes) (e : Term) (free level nodes all : ℕ) → level ≤ free + 2 → nodes ≡ call_sites (λ x. (size_in sizes x).nodes) (helper_call e) → (term_size sizes e).nodes + 1 ≤ all
    → free + levels all < 2 ^ 28 → level + levels (nodes + 1) < 2 ^ 28
split_low sizes e free level nodes all near same more low = let some = called_nodes sizes e in omega (arith, near, same, more, low, some)
