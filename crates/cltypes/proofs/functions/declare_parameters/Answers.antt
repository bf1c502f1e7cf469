use Rattle.std.proofs.Common.{rules, ◌≡◌, get_or, inr, refl, sym, ◌∙◌}
use Rattle.clmodel.specs.declared.declaration.Declaration.TheVariants.{Single}
use Rattle.clmodel.specs.Typing.Context.{bind}
use Rattle.cltypes.proofs.Headings.{no_parameter, parameter_taken, parameter_free, parameter_bound}
use Rattle.cltypes.proofs.functions.declare_parameters.Goals as goal

pub returns-then-not-is_free-clause-first : goal.returns-then-not-is_free-clause-first
returns-then-not-is_free-clause-first c =
    let i = c.loop-parameter.parameter-index in
    inr (parameter_taken c.args.context.now c.loop-parameter.context c.args.parameters.now i (get_or c.args.parameters.now i no_parameter)
    c.loop-parameter-test.true refl c.loop-parameter.invariant.declared c.loop-parameter.invariant.faultless (sym c.is_free.ensures ∙ c.if-not-is_free.true))

pub loop-parameter-preserved : goal.loop-parameter-preserved
loop-parameter-preserved c =
    let i = c.loop-parameter.parameter-index in
    let p = get_or c.args.parameters.now i no_parameter in
    let bound : c.bind.new.self ≡ bind c.loop-parameter.context p.name (Single p.kind) = search rules in
    record {
      faultless = parameter_free c.args.context.now c.loop-parameter.context c.args.parameters.now i p
          c.loop-parameter-test.true refl c.loop-parameter.invariant.declared c.loop-parameter.invariant.faultless (sym c.is_free.ensures ∙ c.if-not-is_free.false);
      declared = parameter_bound c.args.context.now c.loop-parameter.context c.bind.new.self c.args.parameters.now i p
          c.loop-parameter-test.true refl c.loop-parameter.invariant.declared bound;
    }
