-- Code that is only longer than it was.
use Rattle.std.proofs.Common.{◌≡◌, ℕ, ◌++◌, Option, List, [], length, take, drop, Result, Ok, Err, IfOk, OnOk, OnErr, IsErrAnd, sym, ap, ap₂, ◌∙◌}
use Rattle.std.proofs.Math.Seq.{take-append_seam, drop-append_seam}
use Rattle.std.proofs.lemmas.List.{append_assoc, append-nil}
use Rattle.clnum.specs.Integer.{Integer}
use Rattle.regcode.specs.declared.instruction.Instruction.{Instruction}
use Rattle.lower_expr.specs.Expressions.{folded}
use Rattle.lower_expr.specs.Growth.{IsLonger}

pub unchanged : (old new : List Instruction) → new ≡ old → IsLonger old new
unchanged old new e = record { added = []; is = e ∙ sym (append-nil old) }

-- what was there, then more, and then what is only longer than that
pub behind : (old one new added : List Instruction) → one ≡ old ++ added → IsLonger one new → IsLonger old new
behind old one new added e h = record { added = added ++ h.added; is = h.is ∙ ap (λ xs. xs ++ h.added) e ∙ append_assoc old added h.added }

pub on_err : {T E : Type 0} {P : Type 0} → (r : Result T E) → P → OnErr r P
on_err (Ok x) p = tt
on_err (Err e) p = p

-- what holds of a value where a call gives one, and where it doesn't
pub on_value : {T E : Type 0} {P Q : T → Type 0} (r : Result T E) → ((x : T) → P x → Q x) → IfOk r P → IfOk r Q
on_value (Ok x) f p = f x p
on_value (Err e) f p = tt

pub on_ok : {T E : Type 0} {P Q : Type 0} (r : Result T E) → (P → Q) → OnOk r P → OnOk r Q
on_ok (Ok x) f p = f p
on_ok (Err e) f p = tt

pub on_error : {T E : Type 0} {P Q : Type 0} (r : Result T E) → (P → Q) → OnErr r P → OnErr r Q
on_error (Ok x) f p = tt
on_error (Err e) f p = f p

-- what stands from a place on is left out again
cut_front : (old mid code : List Instruction) (start : ℕ) → start ≡ length old → mid ≡ old ++ code → take start mid ≡ old
cut_front old mid code start p e = ap₂ (λ n xs. take n xs) p e ∙ take-append_seam old code

pub cut_back : (old mid new code : List Instruction) (start : ℕ) → start ≡ length old → mid ≡ old ++ code → new ≡ take start mid → IsLonger old new
cut_back old mid new code start p e h = unchanged old new (h ∙ cut_front old mid code start p e)

-- a constant in its place
pub settled : (old mid new code : List Instruction) (start level : ℕ) (o p : Option Integer) → start ≡ length old → mid ≡ old ++ code → o ≡ p
    → new ≡ take start mid ++ folded o level (drop start mid) → new ≡ old ++ folded p level code
settled old mid new code start level o p at e same h =
    h ∙ ap₂ (λ xs ys. xs ++ folded o level ys) (cut_front old mid code start at e) (ap₂ (λ n xs. drop n xs) at e ∙ drop-append_seam old code) ∙ ap (λ q. old ++ folded q level code) same

-- nothing is promised of a value where there is none
pub none_ok : {T E : Type 0} (P : Type 0) (Q : E → Type 0) (r : Result T E) → IsErrAnd r Q → OnOk r P
none_ok P Q (Ok x) h = absurd h
none_ok P Q (Err e) h = tt

pub none_value : {T E : Type 0} (P : T → Type 0) (Q : E → Type 0) (r : Result T E) → IsErrAnd r Q → IfOk r P
none_value P Q (Ok x) h = absurd h
none_value P Q (Err e) h = tt
