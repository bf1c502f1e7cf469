-- What is given, explained by its kind: a source, a script with a schedule file, a script.
use Rattle.std.proofs.Common.{◌≡◌, ℕ, Bool, true, false, List, Option, None, Some, refl, sym, subst}
use Rattle.std.specs.Prelude.{MatchBool, MatchOption}
use Rattle.std.proofs.lemmas.Bool.{false≢true}
use Rattle.byte_io.specs.Sink.{Sink}
use Rattle.simfile.specs.Faults.{NoScript}
use Rattle.explaining.specs.Explaining.{Unanswered, Unexplained, Unwritten, is_source}
use Rattle.explaining.specs.declared.facts.Given.{Given}
use Rattle.simfile.specs.declared.faults.RunFault.{RunFault}
use Rattle.simfile.specs.declared.faults.RunFault.TheVariants as fault
use Rattle.limits.specs.declared.Configuration.{Configuration}

at_true : (b : Bool) (P Q : Type 0) → b ≡ true → P → MatchBool b P Q
at_true true P Q e h = h
at_true false P Q e h = absurd (false≢true e)

at_false : (b : Bool) (P Q : Type 0) → b ≡ false → Q → MatchBool b P Q
at_false true P Q e h = absurd (false≢true (sym e))
at_false false P Q e h = h

at_some : {A : Type 0} (o : Option A) (x : A) (P : Type 0) (Q : A → Type 0) → o ≡ Some x → Q x → MatchOption o P Q
at_some o x P Q e h = subst (λ p. MatchOption p P Q) (sym e) h

at_none : {A : Type 0} (o : Option A) (P : Type 0) (Q : A → Type 0) → o ≡ None → P → MatchOption o P Q
at_none o P Q e h = subst (λ p. MatchOption p P Q) (sym e) h

not_bool : (b : Bool) (P Q : Type 0) → (P → ⊥) → (Q → ⊥) → MatchBool b P Q → ⊥
not_bool true P Q p q h = p h
not_bool false P Q p q h = q h

not_option : {A : Type 0} (o : Option A) (P : Type 0) (Q : A → Type 0) → (P → ⊥) → ((x : A) → Q x → ⊥) → MatchOption o P Q → ⊥
not_option None P Q p q h = p h
not_option (Some x) P Q p q h = q x h

-- what is no reason for having no answer
none_by :
    (configuration : Configuration) (given : Given) (why : RunFault) → (why ≡ fault.OutOfMemory → ⊥) → (NoScript given.script.now why → ⊥)
    → ((schedule : List ℕ) → Unexplained configuration given.script.now schedule why → ⊥) → Unanswered configuration given why → ⊥
none_by configuration given why memory script schedules h =
    not_bool (is_source given.name.now) (why ≡ fault.OutOfMemory) (MatchOption given.schedule (NoScript given.script.now why) (λ s. Unexplained configuration given.script.now s.now why))
    memory (λ h. not_option given.schedule (NoScript given.script.now why) (λ s. Unexplained configuration given.script.now s.now why) script (λ s u. schedules s.now u) h) h

-- nothing was written, and why
pub unwritten : (configuration : Configuration) (given : Given) (s : Sink) (why : RunFault) → Unanswered configuration given why → Unwritten configuration given s s why
unwritten configuration given s (fault.Read by) h = absurd (none_by configuration given (fault.Read by) (λ e. cc) (λ u. u) (λ schedule u. u) h)
unwritten configuration given s fault.Write h = absurd (none_by configuration given fault.Write (λ e. cc) (λ u. u) (λ schedule u. u) h)
unwritten configuration given s (fault.BadLine n) h = (h, refl)
unwritten configuration given s fault.OutOfMemory h = refl
unwritten configuration given s fault.NoSuchKernel h = absurd (none_by configuration given fault.NoSuchKernel (λ e. cc) (λ u. u) (λ schedule u. u) h)
unwritten configuration given s fault.BadSchedule h = (h, refl)
unwritten configuration given s (fault.NotALaunch ticket) h = (h, refl)
unwritten configuration given s (fault.CommandRefused ticket) h = (h, refl)
