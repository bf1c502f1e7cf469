use Rattle.std.proofs.Common.{rules, ◌≡◌, ◌++◌, [], ◌∷◌, true, sym, ap, ◌∙◌}
use Rattle.clmodel.specs.Tree.{func}
use Rattle.clmodel.specs.Typing.Context as typing
use Rattle.clmodel.specs.Typing.Faults.{row_faults}
use Rattle.clmodel.specs.Typing.Functions.{with_params, size_of, params_faults, end_faults, function_faults}
use Rattle.clmodel.specs.Typing.Least.{first}
use Rattle.cltypes_scope.specs.Names.{signature_of, begun}
use Rattle.cltypes.specs.Limits.{statements}
use Rattle.cltypes.proofs.Control.{through, handed_on}
use Rattle.cltypes.proofs.Headings.{function_fixed, not_before, begun_context, heading_of, in_parameters, in_body, in_end, ends_along, if_ok_by}
use Rattle.cltypes.proofs.functions.check_function.Goals as goal

pub end_function-requires : goal.end_function-requires
end_function-requires c =
    let x = c.args.context.now in
    let f = c.args.function.now in
    let s = c.begin.new.self in
    let w : s ≡ begun x f.name (signature_of c.in_ok-signature.signature) = search rules in
    let e = function_fixed x s c.declare_parameters.new.context c.check_statements.new.context f.name (signature_of c.in_ok-signature.signature) c.deref.result.now
    (statements c.deref-2.result.now) w c.in_ok-declare_parameters.ensures.declared c.in_ok-check_statements.ensures.after in
    ap (λ z. typing.signature_of z.before z.current) e ∙ not_before x.before f.name (sym c.is_new.ensures ∙ c.if-not-is_new.false)

pub returns-in_err-declare_parameters-clause-first : goal.returns-in_err-declare_parameters-clause-first
returns-in_err-declare_parameters-clause-first c = λ fs n k.
    let x = c.args.context.now in
    let s = c.begin.new.self in
    let f = func c.args.function.now in
    let w : s ≡ begun x f.name (signature_of c.in_ok-signature.signature) = search rules in
    let b = begun_context x s fs f (signature_of c.in_ok-signature.signature) n c.in_ok-signature.ensures w in
    let h = heading_of x.before fs f true n (sym (sym c.is_new.ensures ∙ c.if-not-is_new.false)) in
    handed_on c.from_residual-in_err-declare_parameters.result c.in_err-declare_parameters.field-0.0 _ c.from_residual-in_err-declare_parameters.ensures.1
    (through (first (params_faults s c.deref.result.now)) (first (function_faults x.limits x.all fs f)) c.in_err-declare_parameters.field-0.0
    (λ e. in_parameters x.limits x.all s fs f c.in_err-declare_parameters.field-0.0 h b (ap (λ z. first (params_faults s z)) (sym c.deref.ensures.value) ∙ e))
    c.in_err-declare_parameters.ensures.first)

pub returns-in_err-check_statements-clause-first : goal.returns-in_err-check_statements-clause-first
returns-in_err-check_statements-clause-first c = λ fs n k.
    let x = c.args.context.now in
    let s = c.begin.new.self in
    let t = c.declare_parameters.new.context in
    let f = func c.args.function.now in
    let g = c.in_err-check_statements.field-0.0 in
    let w : s ≡ begun x f.name (signature_of c.in_ok-signature.signature) = search rules in
    let b = begun_context x s fs f (signature_of c.in_ok-signature.signature) n c.in_ok-signature.ensures w in
    let h = heading_of x.before fs f true n (sym (sym c.is_new.ensures ∙ c.if-not-is_new.false)) in
    handed_on c.from_residual-in_err-check_statements.result g _ c.from_residual-in_err-check_statements.ensures.1
    (through (first (row_faults t (statements c.deref-2.result.now))) (first (function_faults x.limits x.all fs f)) g
    (λ e. in_body x.limits x.all s t fs f g h b
    (ap (λ z. first (params_faults s z)) (sym c.deref.ensures.value) ∙ c.in_ok-declare_parameters.ensures.first)
    (c.in_ok-declare_parameters.ensures.declared ∙ ap (with_params s) c.deref.ensures.value)
    (ap (λ z. first (row_faults t (statements z))) (sym c.deref-2.ensures.value) ∙ e))
    c.in_err-check_statements.ensures.first)

pub returns-clause-first : goal.returns-clause-first
returns-clause-first c = λ fs n k.
    let x = c.args.context.now in
    let s = c.begin.new.self in
    let t = c.declare_parameters.new.context in
    let f = func c.args.function.now in
    let w : s ≡ begun x f.name (signature_of c.in_ok-signature.signature) = search rules in
    let b = begun_context x s fs f (signature_of c.in_ok-signature.signature) n c.in_ok-signature.ensures w in
    let h = heading_of x.before fs f true n (sym (sym c.is_new.ensures ∙ c.if-not-is_new.false)) in
    let y = c.check_statements.new.context in
    let e = function_fixed x s t y f.name (signature_of c.in_ok-signature.signature) c.deref.result.now
    (statements c.deref-2.result.now) w c.in_ok-declare_parameters.ensures.declared c.in_ok-check_statements.ensures.after in
    ends_along c.end_function.result (first (end_faults y.limits f (size_of fs f))) (first (function_faults x.limits x.all fs f))
    (in_end x.limits x.all s t fs f h b
    (ap (λ z. first (params_faults s z)) (sym c.deref.ensures.value) ∙ c.in_ok-declare_parameters.ensures.first)
    (c.in_ok-declare_parameters.ensures.declared ∙ ap (with_params s) c.deref.ensures.value)
    (ap (λ z. first (row_faults t (statements z))) (sym c.deref-2.ensures.value) ∙ c.in_ok-check_statements.ensures.first)
    ∙ ap (λ z. first (end_faults z.limits f (size_of fs f))) (sym e))
    (c.end_function.ensures.first fs k)

pub returns-clause-limits : goal.returns-clause-limits
returns-clause-limits c =
    let x = c.args.context.now in
    let f = c.args.function.now in
    let s = c.begin.new.self in
    let w : s ≡ begun x f.name (signature_of c.in_ok-signature.signature) = search rules in
    let e = function_fixed x s c.declare_parameters.new.context c.check_statements.new.context f.name (signature_of c.in_ok-signature.signature) c.deref.result.now
    (statements c.deref-2.result.now) w c.in_ok-declare_parameters.ensures.declared c.in_ok-check_statements.ensures.after in
    if_ok_by c.end_function.result (λ h. ap (λ z. z.limits) h ∙ ap (λ z. z.limits) e) c.end_function.ensures.ended

pub returns-clause-all : goal.returns-clause-all
returns-clause-all c =
    let x = c.args.context.now in
    let f = c.args.function.now in
    let s = c.begin.new.self in
    let w : s ≡ begun x f.name (signature_of c.in_ok-signature.signature) = search rules in
    let e = function_fixed x s c.declare_parameters.new.context c.check_statements.new.context f.name (signature_of c.in_ok-signature.signature) c.deref.result.now
    (statements c.deref-2.result.now) w c.in_ok-declare_parameters.ensures.declared c.in_ok-check_statements.ensures.after in
    if_ok_by c.end_function.result (λ h. ap (λ z. z.all) h ∙ ap (λ z. z.all) e) c.end_function.ensures.ended

pub returns-clause-before : goal.returns-clause-before
returns-clause-before c =
    let x = c.args.context.now in
    let f = c.args.function.now in
    let s = c.begin.new.self in
    let w : s ≡ begun x f.name (signature_of c.in_ok-signature.signature) = search rules in
    let e = function_fixed x s c.declare_parameters.new.context c.check_statements.new.context f.name (signature_of c.in_ok-signature.signature) c.deref.result.now
    (statements c.deref-2.result.now) w c.in_ok-declare_parameters.ensures.declared c.in_ok-check_statements.ensures.after in
    if_ok_by c.end_function.result
    (λ h. ap (λ z. z.before) h ∙ ap (λ z. z.before ++ (z.current, z.signature) ∷ []) e ∙ ap (λ g. x.before ++ (f.name, g) ∷ []) c.in_ok-signature.ensures)
    c.end_function.ensures.ended
