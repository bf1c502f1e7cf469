-- What is looked up by a number, with one more behind.
use Rattle.std.proofs.Common.{◌≡◌, ℕ, Bool, true, false, cond, Option, None, Some, List, [], ◌∷◌, ◌++◌, ap}
use Rattle.std.specs.Map.{lookup}

pub look_left : {V : Type 0} (test : ℕ → Bool) (entries : List (ℕ × V)) (y : ℕ) (v : V) → test y ≡ false → lookup test (entries ++ (y, v) ∷ []) ≡ lookup test entries
look_left test [] y v e = ap (λ b. cond b (Some v) None) e
look_left test (x ∷ entries) y v e = ap (λ o. cond (test x.0) (Some x.1) o) (look_left test entries y v e)

step_last : {V : Type 0} (v w : V) (b : Bool) (r other : Option V) → (r ≡ None → other ≡ Some v) → cond b (Some w) r ≡ None → cond b (Some w) other ≡ Some v
step_last v w true r other go e = absurd (cc)
step_last v w false r other go e = go e

pub look_last : {V : Type 0} (test : ℕ → Bool) (entries : List (ℕ × V)) (y : ℕ) (v : V) → test y ≡ true → lookup test entries ≡ None → lookup test (entries ++ (y, v) ∷ []) ≡ Some v
look_last test [] y v e none = ap (λ b. cond b (Some v) None) e
look_last test (x ∷ entries) y v e none =
    step_last v x.1 (test x.0) (lookup test entries) (lookup test (entries ++ (y, v) ∷ [])) (λ h. look_last test entries y v e h) none

-- the keys that aren't there are those of entries with the same keys
pub look_none : {V W : Type 0} (test : ℕ → Bool) (b : Bool) (v : V) (w : W) (r : Option V) (s : Option W) → (r ≡ None → s ≡ None) → cond b (Some v) r ≡ None → cond b (Some w) s ≡ None
look_none test true v w r s go e = absurd (cc)
look_none test false v w r s go e = go e
