use Rattle.std.proofs.Common.{◌≡◌, ◌∙◌, ℕ, true, sym, ap, refl, subst, arith}
use Rattle.shadow.specs.Seen.{mark_of}
use Rattle.group_traces.specs.Cells.{at_key, IsOwn}
use Rattle.group_traces.specs.Traces.{passes}
use Rattle.group_traces.specs.declared.trace.Trace.{Trace}
use Rattle.group_traces.proofs.Looking.{seen_none}
use Rattle.group_traces.proofs.traces.Traces.look.Goals as goal

pub key_of-requires : goal.key_of-requires
key_of-requires c = omega (arith, c.requires.0)

pub sight-requires-clause-inside : goal.sight-requires-clause-inside
sight-requires-clause-inside c = c.in-Some.ensures.inside

pub returns-in-None-clause-clear : goal.returns-in-None-clause-clear
returns-in-None-clause-clear c h =
    let x = c.args.x.now in
    seen_none (λ (byte : ℕ) (t : Trace). passes c.args.uniform t x.interval (mark_of x byte) ≡ true) c.args.self.now c.args.number x c.requires
    (λ b. ap (λ k. at_key c.args.self.now k b) (sym c.key_of.ensures) ∙ c.in-None.ensures b) (λ byte. refl)

pub returns-in-Some-clause-clear : goal.returns-in-Some-clause-clear
returns-in-Some-clause-clear c h = c.sight.ensures.clear h c.args.number (subst (λ k. IsOwn c.args.self.now k c.in-Some.i) c.key_of.ensures c.in-Some.ensures)

pub returns-in-Some-clause-told : goal.returns-in-Some-clause-told
returns-in-Some-clause-told c h = c.sight.ensures.told h c.args.number (subst (λ k. IsOwn c.args.self.now k c.in-Some.i) c.key_of.ensures c.in-Some.ensures)

pub returns-in-Some-clause-taken : goal.returns-in-Some-clause-taken
returns-in-Some-clause-taken c h = c.sight.ensures.taken h c.args.number (subst (λ k. IsOwn c.args.self.now k c.in-Some.i) c.key_of.ensures c.in-Some.ensures)

pub returns-in-Some-clause-place : goal.returns-in-Some-clause-place
returns-in-Some-clause-place c = subst (λ k. IsOwn c.args.self.now k c.in-Some.i) c.key_of.ensures c.in-Some.ensures
