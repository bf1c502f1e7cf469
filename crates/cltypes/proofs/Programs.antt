-- A program is typed within the limits of a device exactly where none of its places has a fault.
use Rattle.std.proofs.Common.{◌≡◌, ℕ, ◌≤◌, true, not, ◌||◌, nat_le, List, [], ◌∷◌, ◌++◌, length, Option, None, Some, is_some, refl}
use Rattle.limits.specs.declared.Limits.{Limits}
use Rattle.clmodel.specs.declared.tree.Parameter.{Parameter}
use Rattle.clmodel.specs.declared.type_fault.TypeFault.{TypeFault}
use Rattle.clmodel.specs.declared.type_fault.TypeFault.TheVariants as fault
use Rattle.clmodel.specs.Tree.{Func, Funcs, NoFunc, ThenFunc, Program}
use Rattle.clmodel.specs.declared.declaration.Declaration.TheVariants.{Single}
use Rattle.clmodel.specs.Typing.Context.{Context, is_free, bind}
use Rattle.clmodel.specs.Typing.Least.{least, first}
use Rattle.clmodel.specs.Typing.Faults.{unless, declared_faults, row_faults}
use Rattle.clmodel.specs.Typing.Sizes.{Size, parameter_limit, row_returns}
use Rattle.clmodel.specs.Typing.Functions.{names, begin, with_params, AreParams, is_new, size_of, IsTypedFunction, AreTypedFunctions, params_faults, heading_faults, end_faults, function_faults, functions_faults, program_faults}
use Rattle.clmodel.specs.Typing.{IsTypedWithin, IsTypeFault}
use Rattle.clmodel.proofs.Conflicts.{or_at, or_made}
use Rattle.cltypes.specs.Answers.{IsExactlyTyped}
use Rattle.cltypes_scope.proofs.Least.{earlier_none, first_none, first_some, one_least}
use Rattle.cltypes_scope.proofs.Follows.{neither_of}
use Rattle.cltypes.proofs.Splits.{places_split, one_place, place_then, unless_none, unless_true, same_le, le_test}
use Rattle.cltypes.proofs.ExactStatements.{row_sound, row_complete}

params_sound : (c : Context) (ps : List Parameter) → first (params_faults c ps) ≡ None → AreParams c ps
params_sound c [] n = tt
params_sound c (p ∷ ps) n =
    let r = earlier_none (least (declared_faults c p.name_at p.name)) (first (params_faults (bind c p.name (Single p.kind)) ps)) n in
    (unless_none (is_free c p.name) (fault.Redeclared p.name_at) r.0, params_sound (bind c p.name (Single p.kind)) ps r.1)

params_complete : (c : Context) (ps : List Parameter) → AreParams c ps → first (params_faults c ps) ≡ None
params_complete c [] h = refl
params_complete c (p ∷ ps) h =
    place_then (declared_faults c p.name_at p.name) (params_faults (bind c p.name (Single p.kind)) ps)
    (unless_true (is_free c p.name) (fault.Redeclared p.name_at) h.0) (params_complete (bind c p.name (Single p.kind)) ps h.1)

-- the end of a function's body, of this size, within these limits
record HasEnd (limits : Limits) (f : Func) (s : Size) : Type 0 where
  returns : is_some f.result ≡ true → row_returns f.body ≡ true
  loops : f.is_kernel ≡ true → s.loops ≤ limits.loops
  bytes : f.is_kernel ≡ true → s.bytes ≤ limits.private_bytes
  nodes : f.is_kernel ≡ true → s.nodes ≤ limits.nodes
  few : length f.parameters ≤ parameter_limit

end_sound : (limits : Limits) (f : Func) (s : Size) → first (end_faults limits f s) ≡ None → HasEnd limits f s
end_sound limits f s n =
    let a = not (is_some f.result) || row_returns f.body in
    let b = not f.is_kernel || nat_le s.loops limits.loops in
    let e = not f.is_kernel || nat_le s.bytes limits.private_bytes in
    let d = not f.is_kernel || nat_le s.nodes limits.nodes in
    let p = unless a (fault.MissingReturn f.name_at) in
    let q = unless b (fault.TooManyLoops f.name_at) in
    let v = unless e (fault.TooLarge f.name_at) in
    let g = nat_le (length f.parameters) parameter_limit in
    let r = unless d (fault.TooLarge f.name_at) in
    let z = unless g (fault.TooLarge f.name_at) in
    let t = earlier_none (least p) (first (q ∷ v ∷ r ∷ z ∷ [])) n in
    let u = earlier_none (least q) (first (v ∷ r ∷ z ∷ [])) t.1 in
    let w = earlier_none (least v) (first (r ∷ z ∷ [])) u.1 in
    let x = earlier_none (least r) (first (z ∷ [])) w.1 in
    record {
      returns = or_at (is_some f.result) (row_returns f.body) (unless_none a (fault.MissingReturn f.name_at) t.0);
      loops = λ k. same_le s.loops limits.loops (or_at f.is_kernel (nat_le s.loops limits.loops) (unless_none b (fault.TooManyLoops f.name_at) u.0) k);
      bytes = λ k. same_le s.bytes limits.private_bytes (or_at f.is_kernel (nat_le s.bytes limits.private_bytes) (unless_none e (fault.TooLarge f.name_at) w.0) k);
      nodes = λ k. same_le s.nodes limits.nodes (or_at f.is_kernel (nat_le s.nodes limits.nodes) (unless_none d (fault.TooLarge f.name_at) x.0) k);
      few = same_le (length f.parameters) parameter_limit (unless_none g (fault.TooLarge f.name_at) (one_place z x.1));
    }

end_complete : (limits : Limits) (f : Func) (s : Size) → HasEnd limits f s → first (end_faults limits f s) ≡ None
end_complete limits f s h =
    let a = not (is_some f.result) || row_returns f.body in
    let b = not f.is_kernel || nat_le s.loops limits.loops in
    let e = not f.is_kernel || nat_le s.bytes limits.private_bytes in
    let d = not f.is_kernel || nat_le s.nodes limits.nodes in
    let p = unless a (fault.MissingReturn f.name_at) in
    let q = unless b (fault.TooManyLoops f.name_at) in
    let v = unless e (fault.TooLarge f.name_at) in
    let g = nat_le (length f.parameters) parameter_limit in
    let r = unless d (fault.TooLarge f.name_at) in
    let z = unless g (fault.TooLarge f.name_at) in
    place_then p (q ∷ v ∷ r ∷ z ∷ []) (unless_true a (fault.MissingReturn f.name_at) (or_made (is_some f.result) (row_returns f.body) h.returns))
    (place_then q (v ∷ r ∷ z ∷ []) (unless_true b (fault.TooManyLoops f.name_at) (or_made f.is_kernel (nat_le s.loops limits.loops) (λ k. le_test s.loops limits.loops (h.loops k))))
    (place_then v (r ∷ z ∷ []) (unless_true e (fault.TooLarge f.name_at) (or_made f.is_kernel (nat_le s.bytes limits.private_bytes) (λ k. le_test s.bytes limits.private_bytes (h.bytes k))))
    (place_then r (z ∷ []) (unless_true d (fault.TooLarge f.name_at) (or_made f.is_kernel (nat_le s.nodes limits.nodes) (λ k. le_test s.nodes limits.nodes (h.nodes k))))
    (place_then z [] (unless_true g (fault.TooLarge f.name_at) (le_test (length f.parameters) parameter_limit h.few)) refl))))

function_sound : (limits : Limits) (all : List ℕ) (fs : Funcs) (f : Func) → first (function_faults limits all fs f) ≡ None → IsTypedFunction limits all fs f
function_sound limits all fs f n =
    let params = params_faults (begin limits all fs f) f.parameters in
    let body = row_faults (with_params (begin limits all fs f) f.parameters) f.body in
    let end = end_faults limits f (size_of fs f) in
    let r = earlier_none (least (heading_faults fs f)) (first (params ++ body ++ end)) n in
    let t = places_split (params ++ body) end r.1 in
    let u = places_split params body t.0 in
    let e = end_sound limits f (size_of fs f) t.1 in
    record {
      name = unless_none (is_new fs f.name) (fault.Redeclared f.name_at) r.0;
      parameters = params_sound (begin limits all fs f) f.parameters u.0;
      body = row_sound (with_params (begin limits all fs f) f.parameters) f.body u.1;
      returns = e.returns;
      loops = e.loops;
      bytes = e.bytes;
      nodes = e.nodes;
      few = e.few;
    }

function_complete : (limits : Limits) (all : List ℕ) (fs : Funcs) (f : Func) → IsTypedFunction limits all fs f → first (function_faults limits all fs f) ≡ None
function_complete limits all fs f h =
    let params = params_faults (begin limits all fs f) f.parameters in
    let body = row_faults (with_params (begin limits all fs f) f.parameters) f.body in
    let end = end_faults limits f (size_of fs f) in
    place_then (heading_faults fs f) (params ++ body ++ end) (unless_true (is_new fs f.name) (fault.Redeclared f.name_at) h.name)
    (neither_of (params ++ body) end
    (neither_of params body (params_complete (begin limits all fs f) f.parameters h.parameters) (row_complete (with_params (begin limits all fs f) f.parameters) f.body h.body))
    (end_complete limits f (size_of fs f) (record { returns = h.returns; loops = h.loops; bytes = h.bytes; nodes = h.nodes; few = h.few })))

functions_sound : (limits : Limits) (all : List ℕ) (fs : Funcs) → first (functions_faults limits all fs) ≡ None → AreTypedFunctions limits all fs
functions_sound limits all NoFunc n = tt
functions_sound limits all (ThenFunc fs f) n =
    let r = places_split (functions_faults limits all fs) (function_faults limits all fs f) n in
    (functions_sound limits all fs r.0, function_sound limits all fs f r.1)

functions_complete : (limits : Limits) (all : List ℕ) (fs : Funcs) → AreTypedFunctions limits all fs → first (functions_faults limits all fs) ≡ None
functions_complete limits all NoFunc h = refl
functions_complete limits all (ThenFunc fs f) h =
    neither_of (functions_faults limits all fs) (function_faults limits all fs f) (functions_complete limits all fs h.0) (function_complete limits all fs f h.1)

pub program_sound : (limits : Limits) (p : Program) → first (program_faults limits p) ≡ None → IsTypedWithin limits p
unfolding IsTypedWithin
program_sound limits p n = functions_sound limits (names p.functions) p.functions n

pub program_complete : (limits : Limits) (p : Program) → IsTypedWithin limits p → first (program_faults limits p) ≡ None
unfolding IsTypedWithin
program_complete limits p h = functions_complete limits (names p.functions) p.functions h

pub program_fault : (limits : Limits) (p : Program) (f : TypeFault) → first (program_faults limits p) ≡ Some f → IsTypeFault limits p f
unfolding IsTypeFault
program_fault limits p f e = first_some (program_faults limits p) f e

typed_or_fault : (limits : Limits) (p : Program) (o : Option TypeFault) → first (program_faults limits p) ≡ o → ((f : TypeFault) → IsTypeFault limits p f → ⊥) → first (program_faults limits p) ≡ None
typed_or_fault limits p None e h = e
typed_or_fault limits p (Some f) e h = absurd (h f (program_fault limits p f e))

pub typed_has_none : (limits : Limits) (p : Program) → IsTypedWithin limits p → (f : TypeFault) → IsTypeFault limits p f → ⊥
unfolding IsTypeFault
typed_has_none limits p h f l = first_none (program_faults limits p) (program_complete limits p h) l.0 f l.1.has

one_fault : (limits : Limits) (p : Program) (f g : TypeFault) → IsTypeFault limits p f → IsTypeFault limits p g → f ≡ g
unfolding IsTypeFault
one_fault limits p f g k l = one_least (program_faults limits p) k.0 l.0 f g k.1 l.1

pub exactly_typed : (limits : Limits) (p : Program) → IsExactlyTyped limits p
exactly_typed limits p = record {
  typed = (λ h. typed_has_none limits p h, λ h. program_sound limits p (typed_or_fault limits p (first (program_faults limits p)) refl h));
  one_fault = one_fault limits p;
}
