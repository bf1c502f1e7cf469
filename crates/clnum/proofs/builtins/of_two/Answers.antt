use Rattle.std.proofs.Common.{◌∙◌, refl, arith}
use Rattle.std.proofs.lemmas.Int.{ints}
use Rattle.std.specs.Prelude.{int_lt, ◌<ℤ◌, ◌≤ℤ◌}
use Rattle.clnum.specs.declared.operators.Builtin.TheVariants.{Min, Max}
use Rattle.clnum.proofs.Functions.{some_two, first_chosen, second_chosen, less, not_less}
use Rattle.clnum.proofs.builtins.of_two.Goals as goal
use Rattle.clnum.proofs.builtins.of_two.Goals.{then-number, else-number, then-number-2, else-number-2}

pub returns-after-number : goal.returns-after-number
returns-after-number c =
    elim c.if-number.branch [
      | then-number w ↦
          let h : c.args.b.number <ℤ c.args.a.number = omega (arith, ints) in
          some_two c.args.function Min c.args.a c.args.b _ _ c.in-Min.is
          (w.result-is ∙ second_chosen c.args.a c.args.b (int_lt c.args.b.number c.args.a.number) (less _ _ h) c.requires c.number.ensures.in_range)
          refl
      | else-number w ↦
          let h : c.args.a.number ≤ℤ c.args.b.number = omega (arith, ints) in
          some_two c.args.function Min c.args.a c.args.b _ _ c.in-Min.is
          (w.result-is ∙ first_chosen c.args.a c.args.b (int_lt c.args.b.number c.args.a.number) (not_less _ _ h) c.number-in-Min.ensures.in_range)
          refl
    ]

pub returns-after-number-2 : goal.returns-after-number-2
returns-after-number-2 c =
    elim c.if-number-2.branch [
      | then-number-2 w ↦
          let h : c.args.a.number <ℤ c.args.b.number = omega (arith, ints) in
          some_two c.args.function Max c.args.a c.args.b _ _ c.in-Max.is
          (w.result-is ∙ second_chosen c.args.a c.args.b (int_lt c.args.a.number c.args.b.number) (less _ _ h) c.requires c.number-in-Max-2.ensures.in_range)
          refl
      | else-number-2 w ↦
          let h : c.args.b.number ≤ℤ c.args.a.number = omega (arith, ints) in
          some_two c.args.function Max c.args.a c.args.b _ _ c.in-Max.is
          (w.result-is ∙ first_chosen c.args.a c.args.b (int_lt c.args.a.number c.args.b.number) (not_less _ _ h) c.number-in-Max.ensures.in_range)
          refl
    ]
