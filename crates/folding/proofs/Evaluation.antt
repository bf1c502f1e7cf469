-- The evaluation of constant expressions, and their types.
use Rattle.std.proofs.Common.{◌≡◌, Bool, true, false, if◌then◌else◌, Option, None, Some, List, [], ◌∷◌, ◌++◌, Result, Ok, Err, refl, ap, ap₂, sym, subst, ◌∙◌}
use Rattle.clnum.specs.Builtins.{is_same, builtin_value}
use Rattle.clnum.specs.Conversions as conversions
use Rattle.clnum.specs.Conversions.{common}
use Rattle.clnum.specs.Integer.{Integer, converted}
use Rattle.clnum.specs.Operations.{unary_value, unary_kind, binary_value, binary_kind, truth}
use Rattle.clnum.specs.declared.int_type.IntType.{IntType}
use Rattle.clnum.specs.declared.int_type.IntType.TheVariants.{Char, Uchar, Short, Ushort, Int, Uint, Long, Ulong}
use Rattle.clnum.specs.declared.operators.ArithFault.{ArithFault}
use Rattle.clnum.specs.declared.operators.BinaryOperator.{BinaryOperator}
use Rattle.clnum.specs.declared.operators.BinaryOperator.TheVariants as binary_operator
use Rattle.clnum.specs.declared.operators.UnaryOperator.{UnaryOperator}
use Rattle.clnum.specs.declared.operators.UnaryOperator.TheVariants as unary_operator
use Rattle.clnum.specs.declared.operators.Builtin.{Builtin}
use Rattle.clnum.specs.declared.operators.Builtin.TheVariants as builtin
use Rattle.clmodel.specs.BuiltIns.{built_in}
use Rattle.clmodel.specs.Next.{Continuation, ItemPosition, Variables, eval, type_of, base_type, call_type, infix_type, settle, join, arithmetic, number, test, call, given_value, chosen_value}
use Rattle.clmodel.specs.Tree as tree
use Rattle.clmodel.specs.Tree.{Term, Terms, NoTerm, ThenTerm}
use Rattle.clmodel.specs.declared.operand.Operand.{Operand}
use Rattle.clmodel.specs.declared.operand.Operand.TheVariants.{Integral}
use Rattle.clmodel.specs.declared.setup.BuiltIn.{BuiltIn}
use Rattle.clmodel.specs.declared.setup.BuiltIn.TheVariants as built_in_function
use Rattle.clmodel.specs.declared.tree.InfixOperator.{InfixOperator}
use Rattle.clmodel.specs.declared.tree.InfixOperator.TheVariants.{Arithmetic, LogicalAnd, LogicalOr}
use Rattle.clmodel.specs.declared.tree.VariableType.{VariableType}
use Rattle.clmodel.specs.declared.tree.VariableType.TheVariants.{Integer as OfInteger}
use Rattle.folding.specs.Constants.{unary_constant, cast_constant, faultless, holds, truth_constant, infix_constant, common_constant, choice_constant, call_constant, constant_of, constants_of}

-- what follows a value is reached with this one, if there is one
abbrev GivesConstant : ((Operand → Continuation) → Continuation) → Option Integer → Type 0
GivesConstant run None = Unit {0}
GivesConstant run (Some v) = (after : Operand → Continuation) → run after ≡ after (Integral v)

unary_goes : (run : (Operand → Continuation) → Continuation) (operator : UnaryOperator) (o : Option Integer) → GivesConstant run o
    → GivesConstant (λ after. run (λ v. number v (λ n. after (Integral (unary_value operator n))))) (unary_constant operator o)
unary_goes run operator None h = tt
unary_goes run operator (Some v) h = λ after. h _

cast_goes : (run : (Operand → Continuation) → Continuation) (target : IntType) (o : Option Integer) → GivesConstant run o
    → GivesConstant (λ after. run (λ v. number v (λ n. after (Integral (converted n target))))) (cast_constant target o)
cast_goes run target None h = tt
cast_goes run target (Some v) h = λ after. h _

faultless_goes : (run : (Operand → Continuation) → Continuation) (r : Result Integer ArithFault) → ((after : Operand → Continuation) → run after ≡ arithmetic r after)
    → GivesConstant run (faultless r)
faultless_goes run (Ok v) h = h
faultless_goes run (Err fault) h = tt

-- the right operand where the left one doesn't settle the value
more_goes : (run right : (Operand → Continuation) → Continuation) (p : Option Integer) → GivesConstant right p
    → ((after : Operand → Continuation) → run after ≡ right (λ w. test w (λ holds. after (Integral (truth holds))))) → GivesConstant run (truth_constant p)
more_goes run right None k h = tt
more_goes run right (Some w) k h = λ after. h after ∙ k _

and_goes : (run right : (Operand → Continuation) → Continuation) (b : Bool) (p : Option Integer) → GivesConstant right p
    → ((after : Operand → Continuation) → run after ≡ (if b then right (λ w. test w (λ holds. after (Integral (truth holds)))) else after (Integral (truth false))))
    → GivesConstant run (if b then truth_constant p else Some (truth false))
and_goes run right true p k h = more_goes run right p k h
and_goes run right false p k h = h

or_goes : (run right : (Operand → Continuation) → Continuation) (b : Bool) (p : Option Integer) → GivesConstant right p
    → ((after : Operand → Continuation) → run after ≡ (if b then after (Integral (truth true)) else right (λ w. test w (λ holds. after (Integral (truth holds))))))
    → GivesConstant run (if b then Some (truth true) else truth_constant p)
or_goes run right true p k h = h
or_goes run right false p k h = more_goes run right p k h

infix_goes : (left right : (Operand → Continuation) → Continuation) (operator : InfixOperator) (o p : Option Integer) → GivesConstant left o → GivesConstant right p
    → GivesConstant (λ after. left (λ v. settle operator v after (right (λ w. join operator v w after)))) (infix_constant operator o p)
infix_goes left right (Arithmetic operator) (Some v) (Some w) h k = faultless_goes _ (binary_value operator v w) (λ after. h _ ∙ k _)
infix_goes left right (Arithmetic operator) (Some v) None h k = tt
infix_goes left right (Arithmetic operator) None p h k = tt
infix_goes left right LogicalAnd (Some v) p h k = and_goes _ right (holds v) p k (λ after. h _)
infix_goes left right LogicalAnd None p h k = tt
infix_goes left right LogicalOr (Some v) p h k = or_goes _ right (holds v) p k (λ after. h _)
infix_goes left right LogicalOr None p h k = tt

common_goes : (run branch : (Operand → Continuation) → Continuation) (o : Option Integer) (other : VariableType) → GivesConstant branch o
    → ((after : Operand → Continuation) → run after ≡ branch (λ w. chosen_value w other after)) → GivesConstant run (common_constant o (base_type other))
common_goes run branch None other k h = tt
common_goes run branch (Some w) other k h = λ after. h after ∙ k _

branch_goes : (run chosen otherwise : (Operand → Continuation) → Continuation) (b : Bool) (p q : Option Integer) (t u : VariableType) → GivesConstant chosen p → GivesConstant otherwise q
    → ((after : Operand → Continuation) → run after ≡ (if b then chosen (λ w. chosen_value w u after) else otherwise (λ w. chosen_value w t after)))
    → GivesConstant run (if b then common_constant p (base_type u) else common_constant q (base_type t))
branch_goes run chosen otherwise true p q t u k l h = common_goes run chosen p u k h
branch_goes run chosen otherwise false p q t u k l h = common_goes run otherwise q t l h

choice_goes : (condition chosen otherwise : (Operand → Continuation) → Continuation) (o p q : Option Integer) (t u : VariableType) → GivesConstant condition o → GivesConstant chosen p → GivesConstant otherwise q
    → GivesConstant (λ after. condition (λ v. test v (λ holds. if holds then chosen (λ w. chosen_value w u after) else otherwise (λ w. chosen_value w t after))))
    (choice_constant o p (base_type t) q (base_type u))
choice_goes condition chosen otherwise None p q t u h k l = tt
choice_goes condition chosen otherwise (Some v) p q t u h k l = branch_goes _ chosen otherwise (holds v) p q t u k l (λ after. h _)

given_goes : (run : (Operand → Continuation) → Continuation) (o : Option Integer) → ((after : Operand → Continuation) → run after ≡ given_value o after) → GivesConstant run o
given_goes run None h = tt
given_goes run (Some v) h = h

-- a call of one argument, of two, and of more
module _ (here : ItemPosition) where
  one_goes : (run : (Operand → Continuation) → Continuation) (f : Option BuiltIn) (o : Option Integer) → GivesConstant run o
      → GivesConstant (λ after. run (λ v. call here f (v ∷ []) after)) (call_constant f (o ∷ []))
  one_goes run (Some (built_in_function.Integer function)) (Some a) h = given_goes _ (builtin_value function (a ∷ [])) (λ after. h _)
  one_goes run (Some (built_in_function.Integer function)) None h = tt
  one_goes run (Some built_in_function.WorkDim) o h = tt
  one_goes run (Some (built_in_function.WorkItem function)) o h = tt
  one_goes run (Some (built_in_function.Atomic function)) o h = tt
  one_goes run None o h = tt

  two_go : (first second : (Operand → Continuation) → Continuation) (f : Option BuiltIn) (o p : Option Integer) → GivesConstant first o → GivesConstant second p
      → GivesConstant (λ after. first (λ v. second (λ w. call here f (v ∷ w ∷ []) after))) (call_constant f (o ∷ p ∷ []))
  two_go first second (Some (built_in_function.Integer function)) (Some a) (Some b) h k = given_goes _ (builtin_value function (a ∷ b ∷ [])) (λ after. h _ ∙ k _)
  two_go first second (Some (built_in_function.Integer function)) (Some a) None h k = tt
  two_go first second (Some (built_in_function.Integer function)) None p h k = tt
  two_go first second (Some built_in_function.WorkDim) o p h k = tt
  two_go first second (Some (built_in_function.WorkItem function)) o p h k = tt
  two_go first second (Some (built_in_function.Atomic function)) o p h k = tt
  two_go first second None o p h k = tt

none_goes : (run : (Operand → Continuation) → Continuation) (f : Option BuiltIn) → GivesConstant run (call_constant f [])
none_goes run (Some (built_in_function.Integer function)) = tt
none_goes run (Some built_in_function.WorkDim) = tt
none_goes run (Some (built_in_function.WorkItem function)) = tt
none_goes run (Some (built_in_function.Atomic function)) = tt
none_goes run None = tt

three_go : (run : (Operand → Continuation) → Continuation) (f : Option BuiltIn) (a b c : Option Integer) (xs : List (Option Integer)) → GivesConstant run (call_constant f (a ∷ b ∷ c ∷ xs))
three_go run (Some (built_in_function.Integer function)) None b c xs = tt
three_go run (Some (built_in_function.Integer function)) (Some a) None c xs = tt
three_go run (Some (built_in_function.Integer function)) (Some a) (Some b) c xs = tt
three_go run (Some built_in_function.WorkDim) a b c xs = tt
three_go run (Some (built_in_function.WorkItem function)) a b c xs = tt
three_go run (Some (built_in_function.Atomic function)) a b c xs = tt
three_go run None a b c xs = tt

more_go : (run : (Operand → Continuation) → Continuation) (f : Option BuiltIn) (xs : List (Option Integer)) (a b c : Option Integer)
    → GivesConstant run (call_constant f (((xs ++ a ∷ []) ++ b ∷ []) ++ c ∷ []))
more_go run f [] a b c = three_go run f a b c []
more_go run f (x ∷ []) a b c = three_go run f x a b (c ∷ [])
more_go run f (x ∷ y ∷ []) a b c = three_go run f x y a (b ∷ c ∷ [])
more_go run f (x ∷ y ∷ z ∷ xs) a b c = three_go run f x y z _

evaluates : (here : ItemPosition) (variables : Variables) (e : Term) → GivesConstant (λ after. eval here e variables after) (constant_of variables e)
evaluates here vs (tree.Number at value) = λ after. refl
evaluates here vs (tree.Variable at name) = tt
evaluates here vs (tree.Element at name index) = tt
evaluates here vs (tree.ElementAddress at name_at name index) = tt
evaluates here vs (tree.Dereference at pointer) = tt
evaluates here vs (tree.Call at name NoTerm) = none_goes _ (built_in name)
evaluates here vs (tree.Call at name (ThenTerm NoTerm e)) = one_goes here (λ after. eval here e vs after) (built_in name) (constant_of vs e) (evaluates here vs e)
evaluates here vs (tree.Call at name (ThenTerm (ThenTerm NoTerm d) e)) =
    two_go here (λ after. eval here d vs after) (λ after. eval here e vs after) (built_in name) (constant_of vs d) (constant_of vs e) (evaluates here vs d) (evaluates here vs e)
evaluates here vs (tree.Call at name (ThenTerm (ThenTerm (ThenTerm es c) d) e)) = more_go _ (built_in name) (constants_of vs es) (constant_of vs c) (constant_of vs d) (constant_of vs e)
evaluates here vs (tree.Unary at operator operand) = unary_goes (λ after. eval here operand vs after) operator (constant_of vs operand) (evaluates here vs operand)
evaluates here vs (tree.Cast at target operand) = cast_goes (λ after. eval here operand vs after) target (constant_of vs operand) (evaluates here vs operand)
evaluates here vs (tree.Binary at operator left right) =
    infix_goes (λ after. eval here left vs after) (λ after. eval here right vs after) operator (constant_of vs left) (constant_of vs right) (evaluates here vs left) (evaluates here vs right)
evaluates here vs (tree.Choice at condition chosen otherwise) =
    choice_goes (λ after. eval here condition vs after) (λ after. eval here chosen vs after) (λ after. eval here otherwise vs after)
    (constant_of vs condition) (constant_of vs chosen) (constant_of vs otherwise) (type_of vs chosen) (type_of vs otherwise)
    (evaluates here vs condition) (evaluates here vs chosen) (evaluates here vs otherwise)

-- a type is that of this number, if there is one
abbrev Typed : VariableType → Option Integer → Type 0
Typed kind None = Unit {0}
Typed kind (Some v) = kind ≡ OfInteger v.kind

unary_is : (operator : UnaryOperator) (v : Integer) → unary_kind operator v.kind ≡ (unary_value operator v).kind
unfolding unary_value unary_kind
unary_is unary_operator.Plus v = refl
unary_is unary_operator.Negate v = refl
unary_is unary_operator.Complement v = refl
unary_is unary_operator.Not v = refl

unary_typed : (operator : UnaryOperator) (k : VariableType) (o : Option Integer) → Typed k o → Typed (OfInteger (unary_kind operator (base_type k))) (unary_constant operator o)
unary_typed operator k None h = tt
unary_typed operator k (Some v) h = ap (λ t. OfInteger (unary_kind operator (base_type t))) h ∙ ap OfInteger (unary_is operator v)

converted_is : (v : Integer) (kind : IntType) → kind ≡ (converted v kind).kind
unfolding converted
converted_is v kind = refl

cast_typed : (target : IntType) (o : Option Integer) → Typed (OfInteger target) (cast_constant target o)
cast_typed target None = tt
cast_typed target (Some v) = ap OfInteger (converted_is v target)

-- the number of an operator on two integers is of the operator's type
abbrev OfType : IntType → Result Integer ArithFault → Type 0
OfType kind (Ok v) = kind ≡ v.kind
OfType kind (Err fault) = Unit {0}

in_range : (kind : IntType) (b : Bool) (v : Integer) (fault : ArithFault) → kind ≡ v.kind → OfType kind (if b then Ok v else Err fault)
in_range kind true v fault e = e
in_range kind false v fault e = tt

divided_typed : (kind : IntType) (zero inside : Bool) (v : Integer) (first second : ArithFault) → kind ≡ v.kind
    → OfType kind (if zero then Err first else (if inside then Ok v else Err second))
divided_typed kind true inside v first second e = tt
divided_typed kind false inside v first second e = in_range kind inside v second e

binary_is : (operator : BinaryOperator) (v w : Integer) → OfType (binary_kind operator v.kind w.kind) (binary_value operator v w)
unfolding binary_value binary_kind
binary_is binary_operator.Divide v w = divided_typed _ _ _ _ _ _ refl
binary_is binary_operator.Remainder v w = divided_typed _ _ _ _ _ _ refl
binary_is _ v w = refl

faultless_typed : (kind : VariableType) (t : IntType) (r : Result Integer ArithFault) → kind ≡ OfInteger t → OfType t r → Typed kind (faultless r)
faultless_typed kind t (Ok v) h k = h ∙ ap OfInteger k
faultless_typed kind t (Err fault) h k = tt

truth_typed : (o : Option Integer) → Typed (OfInteger Int) (truth_constant o)
truth_typed None = tt
truth_typed (Some v) = refl

and_typed : (b : Bool) (o : Option Integer) → Typed (OfInteger Int) (if b then truth_constant o else Some (truth false))
and_typed true o = truth_typed o
and_typed false o = refl

or_typed : (b : Bool) (o : Option Integer) → Typed (OfInteger Int) (if b then Some (truth true) else truth_constant o)
or_typed true o = refl
or_typed false o = truth_typed o

infix_typed : (operator : InfixOperator) (j k : VariableType) (o p : Option Integer) → Typed j o → Typed k p → Typed (infix_type operator j k) (infix_constant operator o p)
infix_typed (Arithmetic operator) j k (Some v) (Some w) g h =
    faultless_typed _ _ (binary_value operator v w) (ap₂ (infix_type (Arithmetic operator)) g h) (binary_is operator v w)
infix_typed (Arithmetic operator) j k (Some v) None g h = tt
infix_typed (Arithmetic operator) j k None p g h = tt
infix_typed LogicalAnd j k (Some v) p g h = and_typed (holds v) p
infix_typed LogicalAnd j k None p g h = tt
infix_typed LogicalOr j k (Some v) p g h = or_typed (holds v) p
infix_typed LogicalOr j k None p g h = tt

-- two types have one common type, whichever is the first
pub common_either : (a b : IntType) → common a b ≡ common b a
unfolding common conversions.promoted
common_either Char Char = refl
common_either Uchar Uchar = refl
common_either Short Short = refl
common_either Ushort Ushort = refl
common_either Int Int = refl
common_either Uint Uint = refl
common_either Long Long = refl
common_either Ulong Ulong = refl
common_either _ _ = refl

common_typed : (j k : VariableType) (o : Option Integer) → Typed j o → Typed (OfInteger (common (base_type j) (base_type k))) (common_constant o (base_type k))
common_typed j k None h = tt
common_typed j k (Some v) h = ap (λ t. OfInteger (common (base_type t) (base_type k))) h ∙ ap OfInteger (converted_is v (common v.kind (base_type k)))

branch_typed : (b : Bool) (j k : VariableType) (o p : Option Integer) → Typed j o → Typed k p
    → Typed (OfInteger (common (base_type j) (base_type k))) (if b then common_constant o (base_type k) else common_constant p (base_type j))
branch_typed true j k o p g h = common_typed j k o g
branch_typed false j k o p g h =
    subst (λ t. Typed (OfInteger t) (common_constant p (base_type j))) (common_either (base_type k) (base_type j)) (common_typed k j p h)

choice_typed : (j k : VariableType) (c o p : Option Integer) → Typed j o → Typed k p
    → Typed (OfInteger (common (base_type j) (base_type k))) (choice_constant c o (base_type j) p (base_type k))
choice_typed j k None o p g h = tt
choice_typed j k (Some v) o p g h = branch_typed (holds v) j k o p g h

one_is : (function : Builtin) (v : Integer) → Typed (OfInteger (call_type (Some (built_in_function.Integer function)) v.kind)) (builtin_value function (v ∷ []))
unfolding builtin_value
one_is builtin.Abs v = refl
one_is builtin.Clz v = refl
one_is builtin.Popcount v = refl
one_is _ v = tt

same_typed : (b : Bool) (kind : VariableType) (v : Integer) → kind ≡ OfInteger v.kind → Typed kind (if b then Some v else None)
same_typed true kind v h = h
same_typed false kind v h = tt

none_either : (b : Bool) (kind : VariableType) → Typed kind (if b then None else None)
none_either true kind = tt
none_either false kind = tt

two_is : (function : Builtin) (v w : Integer) → Typed (OfInteger (call_type (Some (built_in_function.Integer function)) v.kind)) (builtin_value function (v ∷ w ∷ []))
unfolding builtin_value
two_is builtin.Min v w = same_typed (is_same v.kind w.kind) _ _ refl
two_is builtin.Max v w = same_typed (is_same v.kind w.kind) _ _ refl
two_is builtin.Rotate v w = same_typed (is_same v.kind w.kind) _ _ refl
two_is builtin.Abs v w = none_either (is_same v.kind w.kind) _
two_is builtin.Clz v w = none_either (is_same v.kind w.kind) _
two_is builtin.Popcount v w = none_either (is_same v.kind w.kind) _

one_typed : (f : Option BuiltIn) (j : VariableType) (o : Option Integer) → Typed j o → Typed (OfInteger (call_type f (base_type j))) (call_constant f (o ∷ []))
one_typed (Some (built_in_function.Integer function)) j (Some v) h =
    subst (λ t. Typed (OfInteger (call_type (Some (built_in_function.Integer function)) (base_type t))) (builtin_value function (v ∷ []))) (sym h) (one_is function v)
one_typed (Some (built_in_function.Integer function)) j None h = tt
one_typed (Some built_in_function.WorkDim) j o h = tt
one_typed (Some (built_in_function.WorkItem function)) j o h = tt
one_typed (Some (built_in_function.Atomic function)) j o h = tt
one_typed None j o h = tt

two_typed : (f : Option BuiltIn) (j : VariableType) (o p : Option Integer) → Typed j o → Typed (OfInteger (call_type f (base_type j))) (call_constant f (o ∷ p ∷ []))
two_typed (Some (built_in_function.Integer function)) j (Some v) (Some w) h =
    subst (λ t. Typed (OfInteger (call_type (Some (built_in_function.Integer function)) (base_type t))) (builtin_value function (v ∷ w ∷ []))) (sym h) (two_is function v w)
two_typed (Some (built_in_function.Integer function)) j (Some v) None h = tt
two_typed (Some (built_in_function.Integer function)) j None p h = tt
two_typed (Some built_in_function.WorkDim) j o p h = tt
two_typed (Some (built_in_function.WorkItem function)) j o p h = tt
two_typed (Some (built_in_function.Atomic function)) j o p h = tt
two_typed None j o p h = tt

none_typed : (k : VariableType) (f : Option BuiltIn) → Typed k (call_constant f [])
none_typed k (Some (built_in_function.Integer function)) = tt
none_typed k (Some built_in_function.WorkDim) = tt
none_typed k (Some (built_in_function.WorkItem function)) = tt
none_typed k (Some (built_in_function.Atomic function)) = tt
none_typed k None = tt

three_typed : (k : VariableType) (f : Option BuiltIn) (a b c : Option Integer) (xs : List (Option Integer)) → Typed k (call_constant f (a ∷ b ∷ c ∷ xs))
three_typed k (Some (built_in_function.Integer function)) None b c xs = tt
three_typed k (Some (built_in_function.Integer function)) (Some a) None c xs = tt
three_typed k (Some (built_in_function.Integer function)) (Some a) (Some b) c xs = tt
three_typed k (Some built_in_function.WorkDim) a b c xs = tt
three_typed k (Some (built_in_function.WorkItem function)) a b c xs = tt
three_typed k (Some (built_in_function.Atomic function)) a b c xs = tt
three_typed k None a b c xs = tt

more_typed : (k : VariableType) (f : Option BuiltIn) (xs : List (Option Integer)) (a b c : Option Integer) → Typed k (call_constant f (((xs ++ a ∷ []) ++ b ∷ []) ++ c ∷ []))
more_typed k f [] a b c = three_typed k f a b c []
more_typed k f (x ∷ []) a b c = three_typed k f x a b (c ∷ [])
more_typed k f (x ∷ y ∷ []) a b c = three_typed k f x y a (b ∷ c ∷ [])
more_typed k f (x ∷ y ∷ z ∷ xs) a b c = three_typed k f x y z _

typed : (variables : Variables) (e : Term) → Typed (type_of variables e) (constant_of variables e)
typed vs (tree.Number at value) = refl
typed vs (tree.Variable at name) = tt
typed vs (tree.Element at name index) = tt
typed vs (tree.ElementAddress at name_at name index) = tt
typed vs (tree.Dereference at pointer) = tt
typed vs (tree.Call at name NoTerm) = none_typed _ (built_in name)
typed vs (tree.Call at name (ThenTerm NoTerm e)) = one_typed (built_in name) (type_of vs e) (constant_of vs e) (typed vs e)
typed vs (tree.Call at name (ThenTerm (ThenTerm NoTerm d) e)) = two_typed (built_in name) (type_of vs d) (constant_of vs d) (constant_of vs e) (typed vs d)
typed vs (tree.Call at name (ThenTerm (ThenTerm (ThenTerm es c) d) e)) = more_typed _ (built_in name) (constants_of vs es) (constant_of vs c) (constant_of vs d) (constant_of vs e)
typed vs (tree.Unary at operator operand) = unary_typed operator (type_of vs operand) (constant_of vs operand) (typed vs operand)
typed vs (tree.Cast at target operand) = cast_typed target (constant_of vs operand)
typed vs (tree.Binary at operator left right) =
    infix_typed operator (type_of vs left) (type_of vs right) (constant_of vs left) (constant_of vs right) (typed vs left) (typed vs right)
typed vs (tree.Choice at condition chosen otherwise) =
    choice_typed (type_of vs chosen) (type_of vs otherwise) (constant_of vs condition) (constant_of vs chosen) (constant_of vs otherwise) (typed vs chosen) (typed vs otherwise)

-- both, where the value is known
pub value_is : (here : ItemPosition) (variables : Variables) (e : Term) (v : Integer) → constant_of variables e ≡ Some v → (after : Operand → Continuation)
    → eval here e variables after ≡ after (Integral v)
value_is here variables e v is after = subst (λ o. GivesConstant (λ next. eval here e variables next) o) is (evaluates here variables e) after

pub kind_is : (variables : Variables) (e : Term) (v : Integer) → constant_of variables e ≡ Some v → type_of variables e ≡ OfInteger v.kind
kind_is variables e v is = subst (λ o. Typed (type_of variables e) o) is (typed variables e)
