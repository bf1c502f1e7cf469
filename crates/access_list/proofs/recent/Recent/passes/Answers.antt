use Rattle.std.proofs.Common.{◌≡◌, true, subst, inl, inr, arith, eqb-true, ltb-true}
use Rattle.std.proofs.lemmas.Bool.{false≢true}
use Rattle.access_list.specs.Recent.{is_item, part_of}
use Rattle.access_list.proofs.Indexed.{passed, passed_later}
use Rattle.access_list.proofs.recent.Recent.passes.Goals as goal

pub returns-then-self-x : goal.returns-then-self-x
returns-then-self-x c h part byte left = passed_later c.args.uniform (part_of part c.args.self) c.args.x.now byte (ltb-true c.args.self.interval c.args.x.now.interval h)

pub returns-in-Nobody : goal.returns-in-Nobody
returns-in-Nobody c h part byte left =
    passed c.args.uniform (part_of part c.args.self) c.args.x.now byte (omega (arith, c.if-self-x.false)) (λ y i k. absurd (false≢true (subst (λ w. is_item w y.item ≡ true) c.in-Nobody.is i)))

pub returns-in-One : goal.returns-in-One
returns-in-One c h part byte left =
    passed c.args.uniform (part_of part c.args.self) c.args.x.now byte (omega (arith, c.if-self-x.false))
    (λ y i k. let e : y.item ≡ c.in-One.item = eqb-true y.item c.in-One.item (subst (λ w. is_item w y.item ≡ true) c.in-One.is i) in inl (omega (arith, e, c.if-item-x.true)))

pub returns-in_default : goal.returns-in_default
returns-in_default c h part byte left = passed c.args.uniform (part_of part c.args.self) c.args.x.now byte (omega (arith, c.if-self-x.false)) (λ y i k. inr (c.agrees.ensures h part byte y left k))
