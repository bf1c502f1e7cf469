-- What is left of code and of a scope that were lent.
use Rattle.std.proofs.Common.{◌≡◌, ◌++◌, ◌∷◌, List, [], refl, sym, ap, ◌∙◌}
use Rattle.std.proofs.lemmas.List.{append_assoc}
use Rattle.clmodel.specs.Tree.{Stmt, Empty, Block, Declare, DeclareAs, DeclareArray, Assign, Step, CallOnly, If, IfElse, While, DoWhile, For, Break, Continue, Return, ReturnValue, Stmts, NoStmt, ThenStmt, array_length}
use Rattle.regcode.specs.declared.instruction.Instruction.{Instruction}
use Rattle.lower_expr.specs.Scope.{Scope}
use Rattle.lower_code.specs.Variables.{variable, array_variable, scope_after, scope_after_all}
use Rattle.lower_code.specs.Growth.{GrowsBefore, KeepsOuter}

pub unchanged : (old new : List Instruction) → new ≡ old → GrowsBefore old new
unchanged old new e = record { added = []; is = e }

-- more before what was there, and then what grows before that
pub before : (old one new added : List Instruction) → one ≡ added ++ old → GrowsBefore one new → GrowsBefore old new
before old one new added e h = record { added = h.added ++ added; is = h.is ∙ ap (λ xs. h.added ++ xs) e ∙ sym (append_assoc h.added added old) }

pub one_before : (i : Instruction) (old one new : List Instruction) → one ≡ i ∷ old → GrowsBefore one new → GrowsBefore old new
one_before i old one new e h = before old one new (i ∷ []) e h

pub same_scope : (old new : Scope) → new ≡ old → KeepsOuter old new
same_scope old new e = record { added = []; is = e }

pub inner_scope : (old one new : Scope) → KeepsOuter old one → KeepsOuter one new → KeepsOuter old new
inner_scope old one new h k =
    record {
      added = k.added ++ h.added;
      is = k.is ∙ ap (λ (s : Scope). record s { variables = k.added ++ s.variables }) h.is
          ∙ ap (λ vs. record old { variables = vs }) (sym (append_assoc k.added h.added old.variables));
    }

after_one : (scope : Scope) (s : Stmt) → KeepsOuter scope (scope_after scope s)
after_one scope (Declare at kind name_at name) = record { added = variable name kind ∷ []; is = refl }
after_one scope (DeclareAs at kind name_at name value) = record { added = variable name kind ∷ []; is = refl }
after_one scope (DeclareArray at is_local element name_at name length_at count) = record { added = array_variable is_local element (array_length count) name ∷ []; is = refl }
after_one scope (Empty at) = record { added = []; is = refl }
after_one scope (Block at body) = record { added = []; is = refl }
after_one scope (Assign at place operator value) = record { added = []; is = refl }
after_one scope (Step at place is_increment) = record { added = []; is = refl }
after_one scope (CallOnly at name arguments) = record { added = []; is = refl }
after_one scope (If at test chosen) = record { added = []; is = refl }
after_one scope (IfElse at test chosen otherwise) = record { added = []; is = refl }
after_one scope (While at test body) = record { added = []; is = refl }
after_one scope (DoWhile at body test) = record { added = []; is = refl }
after_one scope (For at first test third body) = record { added = []; is = refl }
after_one scope (Break at) = record { added = []; is = refl }
after_one scope (Continue at) = record { added = []; is = refl }
after_one scope (Return at) = record { added = []; is = refl }
after_one scope (ReturnValue at value) = record { added = []; is = refl }

after_all : (scope : Scope) (ss : Stmts) → KeepsOuter scope (scope_after_all scope ss)
after_all scope NoStmt = record { added = []; is = refl }
after_all scope (ThenStmt ss s) = inner_scope scope (scope_after_all scope ss) (scope_after_all scope (ThenStmt ss s)) (after_all scope ss) (after_one (scope_after_all scope ss) s)

-- statements have been declared, and no more
pub after_statements : (old one new : Scope) (ss : Stmts) → one ≡ scope_after_all old ss → new ≡ one → KeepsOuter old new
after_statements old one new ss e f = let h = after_all old ss in record { added = h.added; is = f ∙ e ∙ h.is }

pub both : (old one new : List Instruction) → GrowsBefore old one → GrowsBefore one new → GrowsBefore old new
both old one new h k = before old one new h.added h.is k
