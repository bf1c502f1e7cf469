-- The function whose arguments go on behind tokens, token by token from the last one on.
use Rattle.std.proofs.Common.{◌≡◌, ℕ, suc, true, false, List, take, None, refl, subst}
use Rattle.std.specs.Prelude.{slice_get}
use Rattle.clsyntax_lex.specs.declared.token.Token.{Token}
use Rattle.hint_rules.specs.declared.marks.Mark.{Mark}
use Rattle.hint_rules.specs.Callee.{begins_arguments, closed_with, callee_before}
use Rattle.hint_rules.specs.Marks.{mark_at}
use Rattle.hint_rules.specs.Near.{nth_last}

-- a token that isn't the bracket that is looked for
pub goes_on : (tokens : List Token) (closed m n : ℕ) (mark : Mark) → m ≡ suc n → mark ≡ mark_at (slice_get tokens n) → begins_arguments closed mark ≡ false
    → callee_before tokens closed m ≡ callee_before tokens (closed_with closed mark) n
unfolding callee_before
goes_on tokens closed m n mark is mark_is passed =
    let other : begins_arguments closed (mark_at (slice_get tokens n)) ≡ false = subst (λ k. begins_arguments closed k ≡ false) mark_is passed in
    rw (is, mark_is, other) refl

-- and one that is
pub found_at : (tokens : List Token) (closed m n : ℕ) (mark : Mark) → m ≡ suc n → mark ≡ mark_at (slice_get tokens n) → begins_arguments closed mark ≡ true
    → callee_before tokens closed m ≡ nth_last (take n tokens) 0
unfolding callee_before
found_at tokens closed m n mark is mark_is begun =
    let this : begins_arguments closed (mark_at (slice_get tokens n)) ≡ true = subst (λ k. begins_arguments closed k ≡ true) mark_is begun in
    rw (is, this) refl

pub nothing_left : (tokens : List Token) (closed m : ℕ) → m ≡ 0 → callee_before tokens closed m ≡ None
unfolding callee_before
nothing_left tokens closed m is = rw is refl
