-- Targets, by name and by what is left for it.
use Rattle.std.proofs.Common.{◌≡◌, ℕ, Bool, true, false, cond, List, [], ◌∷◌, ap, ap₂, refl, sym, ◌∙◌}
use Rattle.clmodel.specs.Next.{base_type, is_private_array}
use Rattle.clmodel.specs.Tree.{Target, TargetVariable, TargetElement, TargetDereference}
use Rattle.clmodel.specs.declared.tree.VariableType.{VariableType}
use Rattle.clmodel.specs.declared.tree.VariableType.TheVariants.{Integer}
use Rattle.regcode.specs.declared.instruction.Instruction.{Instruction}
use Rattle.regcode.specs.declared.instruction.Instruction.TheVariants as instruction
use Rattle.lower_expr.specs.Scope.{Scope, register_at, register_of}
use Rattle.lower_expr.specs.Expressions.{kind_of, kind_named, type_of_elements, private_load, private_store, variable_code, target_kind, target_register}
use Rattle.lower_expr.specs.declared.emission.TargetKind.{TargetKind}
use Rattle.lower_expr.specs.declared.emission.TargetKind.TheVariants as target
use Rattle.lower_expr.specs.Targets.{type_of_target, fetch_code, put_code, set_variable_code}
use Rattle.lower_expr.specs.Targets.{target_name, destination_of}
use Rattle.lower_expr.specs.declared.destinations.Destination.{Destination}

-- the type of the target
abbrev pub target_type : Scope → ℕ → TargetKind → VariableType
target_type scope name target.Variable = kind_named scope name
target_type scope name (target.Index index) = Integer (type_of_elements scope name)
target_type scope name (target.Pointer pointer) = Integer (base_type pointer)

-- the value that is there
abbrev pub target_fetch : Scope → ℕ → TargetKind → ℕ → ℕ → List Instruction
target_fetch scope name target.Variable level to = variable_code to (register_of scope name) name
target_fetch scope name (target.Index index) level to = private_load scope to name (register_at level index) ∷ []
target_fetch scope name (target.Pointer pointer) level to = instruction.Load to (register_at level pointer) ∷ []

-- a register's value is put there
abbrev pub target_put : Scope → ℕ → TargetKind → ℕ → ℕ → List Instruction
target_put scope name target.Variable level from = set_variable_code (register_of scope name) from (kind_named scope name)
target_put scope name (target.Index index) level from = private_store scope name (register_at level index) from ∷ []
target_put scope name (target.Pointer pointer) level from = instruction.Store (register_at level pointer) from ∷ []

type_is_of_target : (scope : Scope) (to : Target) → target_type scope (target_name to) (target_kind scope to) ≡ type_of_target scope to
type_is_of_target scope (TargetVariable at name) = refl
type_is_of_target scope (TargetElement at name index) = part (is_private_array scope.variables name)
  where
    part : (b : Bool) → target_type scope name (cond b (target.Index (kind_of scope index)) (target.Pointer (kind_named scope name))) ≡ Integer (type_of_elements scope name)
    part true = refl
    part false = refl
type_is_of_target scope (TargetDereference at pointer) = refl

fetch_of_target : (scope : Scope) (to : Target) (level register : ℕ)
    → target_fetch scope (target_name to) (target_kind scope to) level register ≡ fetch_code scope to (target_register scope level to) register
fetch_of_target scope (TargetVariable at name) level register = refl
fetch_of_target scope (TargetElement at name index) level register = part (is_private_array scope.variables name)
  where
    part : (b : Bool) → target_fetch scope name (cond b (target.Index (kind_of scope index)) (target.Pointer (kind_named scope name))) level register
        ≡ cond b (private_load scope register name (cond b (register_at level (kind_of scope index)) (register_at level (kind_named scope name))) ∷ [])
        (instruction.Load register (cond b (register_at level (kind_of scope index)) (register_at level (kind_named scope name))) ∷ [])
    part true = refl
    part false = refl
fetch_of_target scope (TargetDereference at pointer) level register = refl

put_of_target : (scope : Scope) (to : Target) (level register : ℕ)
    → target_put scope (target_name to) (target_kind scope to) level register ≡ put_code scope to (target_register scope level to) register
put_of_target scope (TargetVariable at name) level register = refl
put_of_target scope (TargetElement at name index) level register = part (is_private_array scope.variables name)
  where
    part : (b : Bool) → target_put scope name (cond b (target.Index (kind_of scope index)) (target.Pointer (kind_named scope name))) level register
        ≡ cond b (private_store scope name (cond b (register_at level (kind_of scope index)) (register_at level (kind_named scope name))) register ∷ [])
        (instruction.Store (cond b (register_at level (kind_of scope index)) (register_at level (kind_named scope name))) register ∷ [])
    part true = refl
    part false = refl
put_of_target scope (TargetDereference at pointer) level register = refl

-- the same of a destination, whose kind is known
pub type_at : (scope : Scope) (to : Target) (d : Destination) (k : TargetKind) → d ≡ destination_of scope to → d.kind ≡ k → target_type scope d.name k ≡ type_of_target scope to
type_at scope to d k e f = ap₂ (λ n t. target_type scope n t) (ap (λ (x : Destination). x.name) e) (sym f ∙ ap (λ (x : Destination). x.kind) e) ∙ type_is_of_target scope to

pub fetch_at : (scope : Scope) (to : Target) (d : Destination) (k : TargetKind) (level register : ℕ) → d ≡ destination_of scope to → d.kind ≡ k
    → target_fetch scope d.name k level register ≡ fetch_code scope to (target_register scope level to) register
fetch_at scope to d k level register e f =
    ap₂ (λ n t. target_fetch scope n t level register) (ap (λ (x : Destination). x.name) e) (sym f ∙ ap (λ (x : Destination). x.kind) e) ∙ fetch_of_target scope to level register

pub put_at : (scope : Scope) (to : Target) (d : Destination) (k : TargetKind) (level register : ℕ) → d ≡ destination_of scope to → d.kind ≡ k
    → target_put scope d.name k level register ≡ put_code scope to (target_register scope level to) register
put_at scope to d k level register e f =
    ap₂ (λ n t. target_put scope n t level register) (ap (λ (x : Destination). x.name) e) (sym f ∙ ap (λ (x : Destination). x.kind) e) ∙ put_of_target scope to level register
