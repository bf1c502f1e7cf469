-- What the statements that call stand for.
use Rattle.std.proofs.Common.{◌≡◌, ℕ, Bool, List, Option, Some, sym, ap, ◌∙◌, Vec, Box}
use Rattle.std.specs.declared.alloc.Global.{Global}
use Rattle.clmodel.specs.declared.tree.Expression.{Expression}
use Rattle.clmodel.specs.declared.tree.Statement as rust_statement
use Rattle.clmodel.specs.declared.tree.Target.{Target}
use Rattle.clmodel.specs.Tree.{Step, CallOnly, ReturnValue, tree_target, term, terms, stmt}
use Rattle.clmodel.specs.declared.tree.Statement.{Statement}

pub step_is : (s : rust_statement.Statement) (at : ℕ) (to : Box Target Global) (is_increment : Bool) (t : Target)
    → s ≡ rust_statement.Step at to is_increment → t ≡ to.value → Step at (tree_target t) is_increment ≡ stmt s
step_is s at to is_increment t s_is t_is = ap (λ (x : Target). Step at (tree_target x) is_increment) t_is ∙ ap stmt (sym s_is)

pub return_is : (s : rust_statement.Statement) (at : ℕ) (o : Option (Box Expression Global)) (value : Box Expression Global) (v : Expression)
    → s ≡ rust_statement.Return at o → o ≡ Some value → v ≡ value.value → ReturnValue at (term v) ≡ stmt s
return_is s at o value v s_is o_is v_is =
    ap (λ (e : Expression). ReturnValue at (term e)) v_is
    ∙ ap (λ (p : Option (Box Expression Global)). stmt (rust_statement.Return at p)) (sym o_is)
    ∙ ap stmt (sym s_is)

pub call_is : (s : Statement) (at name : ℕ) (es : Vec Expression Global) (xs : List Expression) → s ≡ rust_statement.Call at name es → xs ≡ es.items → stmt s ≡ CallOnly at name (terms xs)
call_is s at name es xs p q = ap stmt p ∙ ap (λ ys. CallOnly at name (terms ys)) (sym q)
