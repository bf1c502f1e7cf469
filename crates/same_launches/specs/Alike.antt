-- What may differ between two launches, and how their items' actions and answers are alike then (own).
use Rattle.std.specs.Prelude.{◌≡◌, ℕ, Bool, true, false, not, ◌&&◌, Option, None, Some, List, [], ◌∷◌}
use Rattle.clmodel.specs.declared.access.FetchOp.{FetchOp}
use Rattle.clmodel.specs.declared.access.FetchOp.TheVariants as fetch
use Rattle.clmodel.specs.declared.access.Object.{Object}
use Rattle.clmodel.specs.declared.access.Object.TheVariants as object
use Rattle.clmodel.specs.declared.access.Operation.{Operation}
use Rattle.clmodel.specs.declared.access.Operation.TheVariants as operation
use Rattle.clmodel.specs.declared.action.Action.{Action}
use Rattle.clmodel.specs.declared.action.Action.TheVariants as action
use Rattle.clmodel.specs.declared.action.Answer.{Answer}

-- Which objects may hold other bytes, buffers and local objects each by their numbers. In a uniform launch no stored
-- number may differ.
pub record Freedom : Type 0 where
  pub buffers : ℕ → Bool
  pub locals : ℕ → Bool
  pub uniform : Bool

-- the bytes of an object may differ
abbrev pub is_free : Freedom → Object → Bool
is_free w (object.Buffer number) = w.buffers number
is_free w (object.Local number) = w.locals number

-- two numbers are one, but where they may differ
abbrev pub AlikeNumbers : Bool → ℕ → ℕ → Type 0
AlikeNumbers true m n = Unit {0}
AlikeNumbers false m n = m ≡ n

-- two cells: both are unset, or both are set, to one number but where they may differ
abbrev pub AlikeCells : Bool → Option ℕ → Option ℕ → Type 0
AlikeCells free None None = Unit {0}
AlikeCells free (Some m) (Some n) = AlikeNumbers free m n
AlikeCells free _ _ = ⊥

-- two lists of cells, one by one
abbrev pub AlikeElements : Bool → List (Option ℕ) → List (Option ℕ) → Type 0
AlikeElements free [] [] = Unit {0}
AlikeElements free (a ∷ xs) (b ∷ ys) = AlikeCells free a b × AlikeElements free xs ys
AlikeElements free _ _ = ⊥

-- two atomic operations whose old numbers are used
abbrev pub AlikeFetches : Bool → FetchOp → FetchOp → Type 0
AlikeFetches free (fetch.Class c) (fetch.Class d) = c ≡ d
AlikeFetches free fetch.Exchange fetch.Exchange = Unit {0}
AlikeFetches free (fetch.CompareExchange m) (fetch.CompareExchange n) = AlikeNumbers free m n
AlikeFetches free _ _ = ⊥

-- Two operations on an object: of one kind and width, with one number but where the object's bytes may differ. In a
-- uniform launch stores have one number.
abbrev pub AlikeOperations : (uniform free : Bool) → Operation → Operation → Type 0
AlikeOperations uniform free (operation.Load a) (operation.Load b) = a ≡ b
AlikeOperations uniform free (operation.Store a m) (operation.Store b n) = (a ≡ b) × AlikeNumbers (free && not uniform) m n
AlikeOperations uniform free (operation.Update c m) (operation.Update d n) = (c ≡ d) × AlikeNumbers free m n
AlikeOperations uniform free (operation.Fetch f m) (operation.Fetch g n) = AlikeFetches free f g × AlikeNumbers free m n
AlikeOperations uniform free _ _ = ⊥

-- two actions: accesses to one element of one object by like operations, or one and the same
abbrev pub AlikeActions : Freedom → Action → Action → Type 0
AlikeActions w (action.Access o e f) (action.Access p d g) = (o ≡ p) × (e ≡ d) × AlikeOperations w.uniform (is_free w o) f g
AlikeActions w (action.Barrier i f) (action.Barrier j g) = (i ≡ j) × (f ≡ g)
AlikeActions w action.End action.End = Unit {0}
AlikeActions w (action.Fault c) (action.Fault d) = c ≡ d
AlikeActions w _ _ = ⊥

-- the answer to an action may differ: that of an access to an object whose bytes may
abbrev pub has_free_answer : Freedom → Action → Bool
has_free_answer w (action.Access o e f) = is_free w o
has_free_answer w (action.Barrier i f) = false
has_free_answer w action.End = false
has_free_answer w (action.Fault c) = false

-- two answers are one, but where they may differ
abbrev pub AlikeAnswers : Bool → Answer → Answer → Type 0
AlikeAnswers true x y = Unit {0}
AlikeAnswers false x y = x ≡ y

-- The answers that two items had, where `next` is what the first makes after its answers: as many, and each two are
-- alike, by the action that they answer.
abbrev pub HadAlike : Freedom → (List Answer → Action) → List Answer → List Answer → Type 0
HadAlike w next [] [] = Unit {0}
HadAlike w next (x ∷ xs) (y ∷ ys) = AlikeAnswers (has_free_answer w (next [])) x y × HadAlike w (λ rest. next (x ∷ rest)) xs ys
HadAlike w next _ _ = ⊥
