-- One parameter more.
use Rattle.std.proofs.Common.{◌≡◌, ℕ, zero, suc, ◌+◌, ◌<◌, List, [], ◌∷◌, ◌++◌, length, take, get_or, map, Option, None, ap, sym, ◌∙◌, arith}
use Rattle.std.proofs.lemmas.List.{map-append, get_or_default}
use Rattle.clmodel.specs.Setup.{LocalObject, local_size, parameter_objects}
use Rattle.clmodel.specs.declared.setup.Argument.{Argument}
use Rattle.clmodel.specs.declared.tree.Parameter.{Parameter}

-- the object of a parameter at a place
abbrev pub object_at : List (Option Argument) → ℕ → Parameter → LocalObject
object_at arguments place p = record { name = p.name; size = local_size (get_or arguments place None) }

objects_next : (ps : List Parameter) (arguments : List (Option Argument)) (i : ℕ) (p : Parameter) → i < length ps → p ≡ get_or ps i p
    → parameter_objects (take (suc i) ps) arguments ≡ parameter_objects (take i ps) arguments ++ object_at arguments i p ∷ []
objects_next [] arguments i p below is = absurd (omega (arith, below))
objects_next (q ∷ ps) [] zero p below is = ap (λ x. record { name = x.name; size = 0 } ∷ []) (sym is)
objects_next (q ∷ ps) [] (suc i) p below is = ap (λ objects. record { name = q.name; size = 0 } ∷ objects) (objects_next ps [] i p (omega (arith, below)) is)
objects_next (q ∷ ps) (a ∷ rest) zero p below is = ap (λ x. record { name = x.name; size = local_size a } ∷ []) (sym is)
objects_next (q ∷ ps) (a ∷ rest) (suc i) p below is = ap (λ objects. record { name = q.name; size = local_size a } ∷ objects) (objects_next ps rest i p (omega (arith, below)) is)

objects_more : (ps : List Parameter) (arguments : List (Option Argument)) (i : ℕ) (p : Parameter) → i < length ps → p ≡ get_or ps i p
    → parameter_objects (take (i + 1) ps) arguments ≡ parameter_objects (take i ps) arguments ++ object_at arguments i p ∷ []
objects_more ps arguments i p below is =
    let n : i + 1 ≡ suc i = omega arith in
    ap (λ k. parameter_objects (take k ps) arguments) n ∙ objects_next ps arguments i p below is

pub objects_more_at : (ps : List Parameter) (arguments : List (Option Argument)) (i : ℕ) (d : Parameter) → i < length ps
    → parameter_objects (take (i + 1) ps) arguments ≡ parameter_objects (take i ps) arguments ++ object_at arguments i (get_or ps i d) ∷ []
objects_more_at ps arguments i d below = objects_more ps arguments i (get_or ps i d) below (get_or_default ps i d (get_or ps i d) below)

pub names_more : (ps : List Parameter) (arguments : List (Option Argument)) (i : ℕ) (d : Parameter) → i < length ps
    → map (λ o. o.name) (parameter_objects (take i ps) arguments) ++ (get_or ps i d).name ∷ [] ≡ map (λ o. o.name) (parameter_objects (take (i + 1) ps) arguments)
names_more ps arguments i d below =
    let p = get_or ps i d in
    let is : p ≡ get_or ps i p = get_or_default ps i d p below in
    sym (ap (map (λ o. o.name)) (objects_more ps arguments i p below is) ∙ map-append (λ o. o.name) (parameter_objects (take i ps) arguments) (object_at arguments i p ∷ []))

pub sizes_more : (ps : List Parameter) (arguments : List (Option Argument)) (i : ℕ) (d : Parameter) → i < length ps
    → map (λ o. o.size) (parameter_objects (take i ps) arguments) ++ local_size (get_or arguments i None) ∷ [] ≡ map (λ o. o.size) (parameter_objects (take (i + 1) ps) arguments)
sizes_more ps arguments i d below =
    let p = get_or ps i d in
    let is : p ≡ get_or ps i p = get_or_default ps i d p below in
    sym (ap (map (λ o. o.size)) (objects_more ps arguments i p below is) ∙ map-append (λ o. o.size) (parameter_objects (take i ps) arguments) (object_at arguments i p ∷ []))
