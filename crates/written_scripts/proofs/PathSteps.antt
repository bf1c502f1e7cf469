-- The loop over the lines of a script for the paths that they name.
use Rattle.std.proofs.Common.{◌≡◌, ℕ, ◌+◌, ◌-◌, ◌<◌, ◌≤◌, zero, suc, List, [], ◌∷◌, ◌++◌, map, length, take, drop, get_or, Option, None, Some, refl, ap, sym, ◌∙◌, subst, arith, append_assoc, length-drop}
use Rattle.std.proofs.lemmas.List.{append-nil, length-map}
use Rattle.written_scripts.proofs.LineSteps.{drop_more}
use Rattle.written_scripts.proofs.Steps.{behind_is, next_shown, within_map}
use Rattle.written_scripts.specs.Paths.{names_at, listed, paths_from}

-- how far the lines are gone through: these paths are named, and those of the lines from `at` on follow
pub record IsNamed (lines : List (List ℕ)) (at : ℕ) (paths : List (List ℕ)) : Type 0 where
  pub within : at ≤ length lines
  pub room : ℕ
  pub enough : length (drop at lines) ≤ room
  pub so_far : paths ++ paths_from room (drop at lines) ≡ paths_from (length lines) lines

pub names_start : (lines paths : List (List ℕ)) → paths ≡ [] → IsNamed lines 0 paths
names_start lines paths none = record { within = omega arith; room = length lines; enough = omega arith; so_far = ap (λ l. l ++ paths_from (length lines) lines) none }

one_line : (room : ℕ) (line : List ℕ) (behind : List (List ℕ)) → length (line ∷ behind) ≤ room → (less : ℕ) × (room ≡ suc less) × (length behind ≤ less)
one_line zero line behind h = absurd (omega (arith, h))
one_line (suc less) line behind h = (less, refl, omega (arith, h))

-- one line more
pub names_more : (lines : List (List ℕ)) (at : ℕ) (line : List ℕ) (old new : List (List ℕ)) (path : Option (List ℕ)) (taken : ℕ) → at < length lines → drop at lines ≡ line ∷ drop (at + 1) lines → IsNamed lines at old
    → names_at line (drop (at + 1) lines) ≡ Some (path, taken) → taken ≤ length (drop (at + 1) lines) → new ≡ old ++ listed path → IsNamed lines (at + (1 + taken)) new
names_more lines at line old new path taken h next here named within is =
    let behind = drop (at + 1) lines in
    let one = one_line here.room line behind (subst (λ (l : List (List ℕ)). length l ≤ here.room) next here.enough) in
    let place : at + 1 + taken ≡ at + (1 + taken) = omega arith in
    let rest : drop taken behind ≡ drop (at + (1 + taken)) lines = drop_more lines (at + 1) taken ∙ ap (λ n. drop n lines) place in
    let read : paths_from here.room (drop at lines) ≡ listed path ++ paths_from one.0 (drop taken behind) =
    ap (λ n. paths_from n (drop at lines)) one.1 ∙ (ap (paths_from (suc one.0)) next ∙ rw named refl) in
    record {
      within = omega (arith, within, length-drop (at + 1) lines, h);
      room = one.0;
      enough = omega (arith, ap length (sym rest), length-drop taken behind, one.2);
      so_far =
          ap (λ l. l ++ paths_from one.0 (drop (at + (1 + taken)) lines)) is
          ∙ (append_assoc old (listed path) (paths_from one.0 (drop (at + (1 + taken)) lines))
          ∙ (ap (λ l. old ++ (listed path ++ paths_from one.0 l)) (sym rest) ∙ (ap (λ l. old ++ l) (sym read) ∙ here.so_far)));
    }

-- a line that says nothing of what lines say
pub names_stop : (lines : List (List ℕ)) (at : ℕ) (line : List ℕ) (paths : List (List ℕ)) → drop at lines ≡ line ∷ drop (at + 1) lines → IsNamed lines at paths → names_at line (drop (at + 1) lines) ≡ None → paths ≡ paths_from (length lines) lines
names_stop lines at line paths next here none =
    let one = one_line here.room line (drop (at + 1) lines) (subst (λ (l : List (List ℕ)). length l ≤ here.room) next here.enough) in
    let read : paths_from here.room (drop at lines) ≡ [] = ap (λ n. paths_from n (drop at lines)) one.1 ∙ (ap (paths_from (suc one.0)) next ∙ rw none refl) in
    sym (append-nil paths) ∙ (ap (λ l. paths ++ l) (sym read) ∙ here.so_far)

paths_nothing : (room : ℕ) → paths_from room [] ≡ []
paths_nothing zero = refl
paths_nothing (suc room) = refl

-- all lines are gone through
pub names_end : (lines : List (List ℕ)) (at : ℕ) (paths : List (List ℕ)) → length lines ≤ at → IsNamed lines at paths → paths ≡ paths_from (length lines) lines
names_end lines at paths past here =
    let none : drop at lines ≡ [] = nothing (drop at lines) (omega (arith, past, length-drop at lines)) in
    let read : paths_from here.room (drop at lines) ≡ [] = ap (paths_from here.room) none ∙ paths_nothing here.room in
    sym (append-nil paths) ∙ (ap (λ l. paths ++ l) (sym read) ∙ here.so_far) where
      nothing : (l : List (List ℕ)) → length l ≡ 0 → l ≡ []
      nothing [] e = refl
      nothing (x ∷ l) e = absurd (omega (arith, e))

-- the same, of lines that references show

pub stop_shown : {A : Type 0} (f : A → List ℕ) (xs : List A) (at : ℕ) (d : A) (paths : List (List ℕ)) → at < length xs → IsNamed (map f xs) at paths → names_at (f (get_or xs at d)) (map f (take (length xs - (at + 1)) (drop (at + 1) xs))) ≡ None
    → paths ≡ paths_from (length (map f xs)) (map f xs)
stop_shown f xs at d paths h here none =
    names_stop (map f xs) at (f (get_or xs at d)) paths (next_shown f xs at d h) here (ap (names_at (f (get_or xs at d))) (sym (behind_is f xs (at + 1))) ∙ none)

pub more_shown : {A : Type 0} (f : A → List ℕ) (xs : List A) (at : ℕ) (d : A) (old new : List (List ℕ)) (path : Option (List ℕ)) (taken : ℕ) → at < length xs → IsNamed (map f xs) at old
    → names_at (f (get_or xs at d)) (map f (take (length xs - (at + 1)) (drop (at + 1) xs))) ≡ Some (path, taken) → taken ≤ length (take (length xs - (at + 1)) (drop (at + 1) xs)) → new ≡ old ++ listed path → IsNamed (map f xs) (at + (1 + taken)) new
more_shown f xs at d old new path taken h here some within is =
    let behind = ap length (behind_is f xs (at + 1)) in
    names_more (map f xs) at (f (get_or xs at d)) old new path taken (within_map f xs at h) (next_shown f xs at d h) here (ap (names_at (f (get_or xs at d))) (sym (behind_is f xs (at + 1))) ∙ some)
    (omega (arith, within, behind, length-map (take (length xs - (at + 1)) (drop (at + 1) xs)) f)) is
