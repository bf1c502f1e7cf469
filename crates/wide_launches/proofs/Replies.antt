-- The replies to launches whose verdict is wide.
use Rattle.std.proofs.Common.{◌≡◌, ℕ, zero, suc, Bool, true, false, Option, None, Some, Result, Ok, Err, IfOk, IfSome, List, [], ◌∷◌, length, map, slice_index_or, refl, ap, ap₂, sym, ◌∙◌, subst}
use Rattle.std.proofs.Math.Logic.{∥∥₁_map}
use Rattle.clmodel.specs.Law.{CleanWith}
use Rattle.clmodel.specs.Next.{launch_of, next}
use Rattle.clmodel.specs.Outcome.{events_of}
use Rattle.clmodel.specs.Setup.{Setup, buffer_names}
use Rattle.clmodel.specs.Tree.{Program}
use Rattle.clmodel.specs.declared.setup.Argument.{Argument}
use Rattle.device.specs.Kept.{IsCodeOf, RenamedCode}
use Rattle.device.specs.Machine.{Machine, Launches, bytes_of}
use Rattle.host_commands.specs.declared.command.Reply.TheVariants as reply
use Rattle.lower.specs.Correct.{ActsAsTheTree}
use Rattle.item_step.specs.Setups.{ActsAsNext}
use Rattle.regcode.specs.Listing.{Listing}
use Rattle.spaces.specs.Tables.{with_values}
use Rattle.same_launches.specs.Alike.{AlikeCells, AlikeElements}
use Rattle.same_launches.specs.Verdicts.{AlikeBytes}
use Rattle.widening.specs.Widened.{ArgumentsDiffer, BytesDiffer, CleanIsWide, IsWide, is_free_at, with_arguments}
use Rattle.widening.specs.declared.wide.Wide.{Wide}
use Rattle.wide_launches.specs.Replies.{IsWideReply, RepliesAreWide, SameReply}

-- ---- contents in which all cells are set

abbrev set_cells : List ℕ → List (Option ℕ)
set_cells = map Some

-- cells that are alike to set ones are set, to like bytes
pub record SetTo (free : Bool) (bytes : List ℕ) (cells : List (Option ℕ)) : Type 0 where
  pub values : List ℕ
  pub are : cells ≡ set_cells values
  pub alike : AlikeBytes free bytes values

more_bytes : (free : Bool) (a b : ℕ) (xs ys : List ℕ) → AlikeCells free (Some a) (Some b) → AlikeBytes free xs ys → AlikeBytes free (a ∷ xs) (b ∷ ys)
more_bytes true a b xs ys h k = ap suc k
more_bytes false a b xs ys h k = ap₂ (λ x y. x ∷ y) h k

no_bytes : (free : Bool) → AlikeBytes free [] []
no_bytes true = refl
no_bytes false = refl

set_to : (free : Bool) (bytes : List ℕ) (cells : List (Option ℕ)) → AlikeElements free (set_cells bytes) cells → SetTo free bytes cells
set_to free [] [] h = record { values = []; are = refl; alike = no_bytes free }
set_to free [] (c ∷ cells) h = absurd h
set_to free (a ∷ bytes) [] h = absurd h
set_to free (a ∷ bytes) (None ∷ cells) h = absurd h.0
set_to free (a ∷ bytes) (Some b ∷ cells) h =
    let rest = set_to free bytes cells h.1 in
    record { values = b ∷ rest.values; are = ap (λ zs. Some b ∷ zs) rest.are; alike = more_bytes free a b bytes rest.values h.0 rest.alike }

abbrev all_set : List (List ℕ) → List (List (Option ℕ))
all_set = map set_cells

pub record AllSetTo (free : ℕ → Bool) (contents : List (List ℕ)) (others : List (List (Option ℕ))) : Type 0 where
  pub values : List (List ℕ)
  pub are : others ≡ all_set values
  pub alike : (number : ℕ) → AlikeBytes (free number) (slice_index_or contents number []) (slice_index_or values number [])

abbrev head_of : List (List ℕ) → List ℕ
head_of [] = []
head_of (xs ∷ contents) = xs

abbrev rest_of : List (List ℕ) → List (List ℕ)
rest_of [] = []
rest_of (xs ∷ contents) = contents

all_set_to : (free : ℕ → Bool) (contents : List (List ℕ)) (others : List (List (Option ℕ)))
    → ((number : ℕ) → AlikeElements (free number) (slice_index_or (all_set contents) number []) (slice_index_or others number [])) → AllSetTo free contents others
all_set_to free contents [] h = record { values = []; are = refl; alike = λ number. none contents number (h number) }
  where
    none : (contents : List (List ℕ)) (number : ℕ) → AlikeElements (free number) (slice_index_or (all_set contents) number []) [] → AlikeBytes (free number) (slice_index_or contents number []) []
    none [] number k = no_bytes (free number)
    none ([] ∷ contents) zero k = no_bytes (free zero)
    none ((a ∷ xs) ∷ contents) zero k = absurd k
    none (xs ∷ contents) (suc number) k = go contents number k
      where
        go : (contents : List (List ℕ)) (n : ℕ) → AlikeElements (free (suc number)) (slice_index_or (all_set contents) n []) [] → AlikeBytes (free (suc number)) (slice_index_or contents n []) []
        go [] n k = no_bytes (free (suc number))
        go ([] ∷ contents) zero k = no_bytes (free (suc number))
        go ((a ∷ xs) ∷ contents) zero k = absurd k
        go (xs ∷ contents) (suc n) k = go contents n k
all_set_to free contents (cells ∷ others) h =
    let first = set_to (free zero) (head_of contents) cells (begins contents (h zero)) in
    let rest = all_set_to (λ n. free (suc n)) (rest_of contents) others (λ n. goes_on contents n (h (suc n))) in
    record {
      values = first.values ∷ rest.values;
      are = ap₂ (λ x y. x ∷ y) first.are rest.are;
      alike = λ number. both contents first.values rest.values first.alike rest.alike number;
    }
  where
    begins : (contents : List (List ℕ)) → AlikeElements (free zero) (slice_index_or (all_set contents) zero []) cells → AlikeElements (free zero) (set_cells (head_of contents)) cells
    begins [] k = k
    begins (xs ∷ contents) k = k

    goes_on : (contents : List (List ℕ)) (n : ℕ) → AlikeElements (free (suc n)) (slice_index_or (all_set contents) (suc n) []) (slice_index_or others n [])
        → AlikeElements (free (suc n)) (slice_index_or (all_set (rest_of contents)) n []) (slice_index_or others n [])
    goes_on [] n k = k
    goes_on (xs ∷ contents) n k = k

    both : (contents : List (List ℕ)) (first : List ℕ) (rest : List (List ℕ)) → AlikeBytes (free zero) (head_of contents) first
        → ((n : ℕ) → AlikeBytes (free (suc n)) (slice_index_or (rest_of contents) n []) (slice_index_or rest n []))
        → (number : ℕ) → AlikeBytes (free number) (slice_index_or contents number []) (slice_index_or (first ∷ rest) number [])
    both [] first rest a b zero = a
    both (xs ∷ contents) first rest a b zero = a
    both [] first rest a b (suc n) = b n
    both (xs ∷ contents) first rest a b (suc n) = b n

-- ---- code

-- a kernel's code acts as its text, whatever the arguments
code_acts : ActsAsTheTree → (setup : Setup) (code : Listing) → IsCodeOf setup.program setup.kernel code → ∥ ((given : List (Option Argument)) → ActsAsNext code (with_arguments setup given)) ∥₁
unfolding ActsAsTheTree
code_acts law setup code is = ∥∥₁_map is acts
  where
    acts : RenamedCode setup.program setup.kernel code → (given : List (Option Argument)) → ActsAsNext code (with_arguments setup given)
    acts r given item answers =
        r.renumbered.acts (with_arguments setup given) item answers
        ∙ law (with_arguments setup given) r.lists.function r.defined r.lists.there (ap (λ (c : Listing). c.instructions) r.lists.same) item answers

-- ---- replies

same_reply : CleanIsWide → (code : Listing) (setup : Setup) (buffers arguments : List Bool) → IsWide code setup buffers arguments
    → ((given : List (Option Argument)) → ActsAsNext code (with_arguments setup given))
    → (old other : Machine) (given : List (Option Argument)) → ArgumentsDiffer arguments setup.arguments given → BytesDiffer buffers (buffer_names setup) (bytes_of old) (bytes_of other)
    → SameReply buffers old other setup (with_arguments setup given)
same_reply law code setup buffers arguments wide acts old other given numbers bytes =
    let same = wide given (bytes_of old) (bytes_of other) numbers bytes (acts setup.arguments) (acts given) in
    record {
      clean = λ new h.
          let l = law code setup buffers arguments wide given (bytes_of old) (bytes_of other) numbers bytes (acts setup.arguments) (acts given) (all_set h.0) h.1 in
          let s = all_set_to (is_free_at buffers) h.0 l.0 l.2 in (
            record other { buffers = with_values other.buffers (buffer_names (with_arguments setup given)) s.values },
            (s.values, subst (λ z. CleanWith (launch_of (with_arguments setup given) (bytes_of other)) z) s.are l.1, refl),
            s.alike,
          );
      fault = λ fault schedule new h. ((same.reached (events_of schedule) fault).0 h.0, (same.reported (events_of schedule) fault).0 h.1, h.2, refl);
    }

pub replies_are_wide : ActsAsTheTree → CleanIsWide → RepliesAreWide
replies_are_wide acts clean code setup buffers arguments wide is old other given numbers bytes =
    ∥∥₁_map (code_acts acts setup code is) (λ every. same_reply clean code setup buffers arguments wide every old other given numbers bytes)

-- what is found for a launch holds for the replies to it
pub answers_wide : {E : Type 0} (code : Listing) (names : List (List ℕ)) (arguments : List (Option Argument)) (uniform : Bool) (r : Result (Option Wide) E) → RepliesAreWide
    → IfOk r (λ found. IfSome found (λ wide. (setup : Setup) → setup.arguments ≡ arguments → buffer_names setup ≡ names → setup.range.uniform ≡ uniform
    → IsWide code setup wide.buffers.items wide.arguments.items))
    → IfOk r (λ found. IfSome found (λ wide. (old : Machine) (setup : Setup) → IsCodeOf setup.program setup.kernel code → setup.arguments ≡ arguments → buffer_names setup ≡ names → setup.range.uniform ≡ uniform
    → IsWideReply wide.buffers.items wide.arguments.items old setup))
answers_wide code names arguments uniform (Ok (Some wide)) replies h =
    λ old setup is given named said. replies code setup wide.buffers.items wide.arguments.items (h setup given named said) is old
answers_wide code names arguments uniform (Ok None) replies h = tt
answers_wide code names arguments uniform (Err why) replies h = tt
