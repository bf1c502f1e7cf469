use Rattle.std.proofs.Common.{refl, sym, ap, ◌∙◌}
use Rattle.std.proofs.lemmas.Result.{IfOk-weaker}
use Rattle.serving.proofs.Commands.{no_rest, open_line, with_source}
use Rattle.simfile.specs.Stepwise.{source_lines}
use Rattle.serving.proofs.server.Server.hear_rest.Goals as goal

pub returns-then-not-self-clause-heard : goal.returns-then-not-self-clause-heard
returns-then-not-self-clause-heard g c = no_rest _ c.args.self.now _ (open_line c.args.self.now c.requires c.if-not-self.true)

pub returns-in-Some-clause-heard : goal.returns-in-Some-clause-heard
returns-in-Some-clause-heard g c =
    let some = ap source_lines (sym c.as_slice.ensures.value) ∙ (sym c.source_lines.ensures ∙ c.in-Some.is) in
    IfOk-weaker c.hear_source.result _ _ (λ whole h. with_source c.args.self.now _ c.in-Some.count whole c.requires c.if-not-self.false some refl refl h) c.hear_source.ensures.heard
