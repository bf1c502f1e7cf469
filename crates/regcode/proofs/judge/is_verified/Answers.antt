use Rattle.std.proofs.Common.{◌≡◌, ◌<◌, ◌∙◌, length, refl, sym, subst, arith, rules, below_more}
use Rattle.std.specs.List.{All}
use Rattle.std.proofs.lemmas.Bool.Decides.{nat_tests}
use Rattle.std.proofs.lemmas.List.{get_or_read}
use Rattle.std.proofs.lemmas.Option.{slice_get_read, slice_get_within}
use Rattle.regcode.specs.Listed.{listing}
use Rattle.regcode.proofs.Judged.{fine_here}
use Rattle.regcode.proofs.judge.is_verified.Goals as goal

pub loop-place-preserved : goal.loop-place-preserved
loop-place-preserved c =
    let here = slice_get_read c.args.instructions.now _ c.loop-place.place c.index-instructions-place.result refl c.loop-place-test.true c.index-instructions-place.is in
    below_more _ _ c.loop-place.invariant
    (fine_here (listing c.args.instructions.now c.args.tables.now) _ c.index-instructions-place.result here (c.is_fine.ensures.0 c.if-not-is_fine.false))

pub returns : goal.returns
returns c =
    let some : 0 < length c.args.instructions.now = let a = c.if-is_empty.false in let b = c.is_empty.ensures in grind (arith, nat_tests) in
    let listed : length c.args.tables.now.loops.items ≡ length c.args.instructions.now = let a = c.if-len-instructions.false in let b = c.len.ensures in search rules in (
      (λ _. record {
        begins = some;
        listed = listed;
        outside = sym (get_or_read c.args.tables.now.loops.items 0 _ (omega (arith, some, listed)) c.index.ensures 0) ∙ c.if-index-ne0.false;
        named = subst (All (λ register. register.name < c.args.tables.now.names)) c.deref.ensures.value (c.are_named.ensures.0 c.if-not-are_named.false);
        each = λ place i here. c.loop-place.invariant place (let inside = slice_get_within _ place i here in let all = c.loop-place-test.false in omega (arith, inside, all)) i here;
      }),
      (λ _. refl),
    )
