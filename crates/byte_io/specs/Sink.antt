-- What a writer holds, and how often a call on it failed.
use Rattle.std.specs.Prelude.{◌≡◌, ℕ, ◌+◌, ◌-◌, ◌^◌, ◌≤◌, min, Option, List, ◌++◌, Result, MatchResult}
use Rattle.std.specs.Io.KnownBytes.{Appends}

-- the bytes that were written, where they are known, those at their end that are held back still, and the count of
-- failed calls
pub record Sink : Type 0 where
  pub written : Option (List ℕ)
  pub held : List ℕ
  pub failed : ℕ

-- the count went up, if it was below the greatest
abbrev pub CountsUp : ℕ → ℕ → Type 0
CountsUp old new = min (old + 1) (2 ^ 64 - 1) ≤ new

-- the text was written
pub record Wrote (old new : Sink) (text : List ℕ) : Type 0 where
  pub appended : Appends old.written new.written text
  pub counted : new.failed ≡ old.failed

-- a beginning of the text was written
pub record Began (old new : Option (List ℕ)) (text : List ℕ) : Type 0 where
  pub part : List ℕ
  pub more : List ℕ
  pub split : text ≡ part ++ more
  pub appended : Appends old new part

-- a call failed, and a beginning of the text was written
pub record Stopped (old new : Sink) (text : List ℕ) : Type 0 where
  pub began : Began old.written new.written text
  pub counted : CountsUp old.failed new.failed

-- the text was written, or else a call failed and a beginning of it was
abbrev pub Puts : {A E : Type 0} → Sink → Result A E → Sink → List ℕ → Type 0
Puts old r new text = MatchResult r (λ _. Wrote old new text) (λ _. Stopped old new text)

-- the bytes were written, or else a beginning of them
abbrev pub Pushes : {A E : Type 0} → Option (List ℕ) → Result A E → Option (List ℕ) → List ℕ → Type 0
Pushes old r new text = MatchResult r (λ _. Appends old new text) (λ _. Began old new text)
