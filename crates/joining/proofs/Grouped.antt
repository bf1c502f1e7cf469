-- The groups of a launch of whole groups.
use Rattle.std.proofs.Common.{◌≡◌, ℕ, suc, ◌+◌, ◌*◌, ◌/◌, ◌%◌, ◌<◌, ◌≤◌, ◌==◌, sym, ap, ◌∙◌, subst, arith, eq-eqb, ne_eqb}
use Rattle.std.proofs.Math.Nat.{mod-lt, suc-mul, lt_of_mul-lt-mul_right, mul-le-mul_right}
use Rattle.std.proofs.lemmas.Nat.{div-add-mod', div-mul-add}
use Rattle.clmodel.specs.Launch.{Launch, group_of}
use Rattle.clmodel.proofs.Steps.{found_first}
use Rattle.joining.specs.Group.{IsGroup, plan_of}
use Rattle.joining.specs.Parts.{IsGrouped}

-- sums of numbers that are products elsewhere
no_rest : (a r n : ℕ) → a + r ≡ n → r ≡ 0 → a ≡ n
no_rest a r n h e = omega (arith, h, e)

within : (k c f n : ℕ) → k < c → f + c ≤ n → f + k < n
within k c f n h e = omega (arith, h, e)

no_earlier : (j f r : ℕ) → j < f → f + r ≡ j → ⊥
no_earlier j f r h e = absurd (omega (arith, h, e))

at_most : (a b c d : ℕ) → a ≡ b → b ≤ c → c ≡ d → a ≤ d
at_most a b c d h e q = omega (arith, h, e, q)

nothing : (n : ℕ) → n ≡ n + 0
nothing n = omega arith

-- a group that begins within the launch is whole
pub whole_inside : (items size group : ℕ) → items % size ≡ 0 → group * size < items → group * size + size ≤ items
whole_inside items size group whole there =
    let e : items / size * size ≡ items = no_rest (items / size * size) (items % size) items (div-add-mod' items size) whole in
    let b : group * size < items / size * size = subst (λ z. group * size < z) (sym e) there in
    let l : suc group ≤ items / size = lt_of_mul-lt-mul_right size b in
    at_most (group * size + size) (suc group * size) (items / size * size) items (sym (suc-mul group size)) (mul-le-mul_right size l) e

mine_first : (l : Launch) (group : ℕ) → 0 < l.group_size → group * l.group_size / l.group_size ≡ group
mine_first l group b = ap (λ n. n / l.group_size) (nothing (group * l.group_size)) ∙ div-mul-add group l.group_size 0 b

not_mine : (l : Launch) (group j : ℕ) → j < group * l.group_size → j / l.group_size ≡ group → ⊥
not_mine l group j b e =
    no_earlier j (group * l.group_size) (j % l.group_size) b (ap (λ g. g * l.group_size + j % l.group_size) (sym e) ∙ div-add-mod' j l.group_size)

pub group_is : (l : Launch) (group : ℕ) → IsGrouped l → group * l.group_size < l.items → IsGroup (plan_of l group)
group_is l group ready there =
    record {
      some = ready.some;
      leads =
          found_first (λ item. group_of l item == group) l.items (group * l.group_size) there
          (eq-eqb (group * l.group_size / l.group_size) group (mine_first l group ready.some))
          (λ j b. ne_eqb (j / l.group_size) group (not_mine l group j b));
      inside = λ k b. within k l.group_size (group * l.group_size) l.items b (whole_inside l.items l.group_size group ready.whole there);
      mine = λ k b. div-mul-add group l.group_size k b;
      listed = λ item b e. (
        item % l.group_size,
        mod-lt item ready.some,
        ap (λ g. g * l.group_size + item % l.group_size) (sym e) ∙ div-add-mod' item l.group_size,
      );
    }
