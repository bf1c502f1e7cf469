-- What parsing promises, in terms of the grammar alone.
use Rattle.std.specs.Prelude.{◌≡◌, ℕ, ◌≤◌, ◌<◌, List, [], ◌∷◌, ◌++◌, map, Result, Ok, Err}
use Rattle.std.specs.List.{AllByRecursion}
use Rattle.limits.specs.declared.Limits.{Limits}
use Rattle.clmodel.specs.Tree.{Funcs, NoFunc, ThenFunc, Program, program}
use Rattle.clmodel.specs.declared.tree.Tree as rust_tree
use Rattle.clsyntax_lex.specs.Tokens.{Text}
use Rattle.clsyntax_lex.specs.declared.token.Token.{Token}
use Rattle.clsyntax_lex.specs.declared.token.SyntaxFault.{SyntaxFault}
use Rattle.clsyntax_lex.specs.declared.token.SyntaxFault.TheVariants.{BadByte, NumberTooLarge, Unexpected, TooDeep, TooLong, OutOfMemory}
use Rattle.clsyntax_terms.specs.Grammar.{Placed, Reads}
use Rattle.clsyntax_terms.specs.Grammar as grammar

abbrev pub tokens : List Placed → List Token
tokens ps = map (λ p. p.token) ps

abbrev pub IsNonEmpty : Funcs → Type 0
IsNonEmpty NoFunc = ⊥
IsNonEmpty (ThenFunc fs f) = Unit {0}

-- the placed tokens are a program with these functions
pub record IsProgram (ps : List Placed) (fs : Funcs) : Type 0 where
  pub reads : Reads (grammar.Program fs) ps []
  pub non_empty : IsNonEmpty fs

-- no token is nested deeper than the device allows
abbrev pub IsWithin : Limits → List Placed → Type 0
IsWithin limits ps = AllByRecursion (λ p. p.nesting ≤ limits.nesting) ps

-- some program begins with these placed tokens
pub record IsFront (ps : List Placed) : Type 0 where
  pub more : List Placed
  pub functions : Funcs
  pub program : IsProgram (ps ++ more) functions

-- no program begins with these tokens
abbrev pub BeginsNone : List Token → Type 0
BeginsNone ts = (ps : List Placed) (rest : List Token) (fs : Funcs) → tokens ps ≡ ts ++ rest → IsProgram ps fs → ⊥

-- these tokens are no program
abbrev pub IsNone : List Token → Type 0
IsNone ts = (ps : List Placed) (fs : Funcs) → tokens ps ≡ ts → IsProgram ps fs → ⊥

-- The tokens are a program with these functions, within the limits of the device.
pub record Succeeds (limits : Limits) (ts : List Token) (fs : Funcs) : Type 0 where
  pub placed : List Placed
  pub same : ts ≡ tokens placed
  pub program : IsProgram placed fs
  pub within : IsWithin limits placed

-- Where front ends: with the next token no program begins, or the tokens end too early.
abbrev pub Ends : List Token → List Token → Type 0
Ends front [] = IsNone front
Ends front (t ∷ rest) = BeginsNone (front ++ t ∷ [])

-- where the next token begins, or the source ends
abbrev pub next_at : ℕ → List Token → ℕ
next_at length [] = length
next_at length (t ∷ ts) = t.at

-- The tokens before the offset begin a program within the device's limit; with the next one none begins, or they end
-- too early.
pub record IsUnexpected (limits : Limits) (length : ℕ) (ts : List Token) (at : ℕ) : Type 0 where
  pub placed : List Placed
  pub rest : List Token
  pub same : ts ≡ tokens placed ++ rest
  pub where_ : at ≡ next_at length rest
  pub front : IsFront placed
  pub within : IsWithin limits placed
  pub ends : Ends (tokens placed) rest

-- The tokens before the offset begin a program within the device's limit; so they do with the next one, which is nested
-- too deep.
pub record IsTooDeep (limits : Limits) (ts : List Token) (at : ℕ) : Type 0 where
  pub placed : List Placed
  pub deep : Placed
  pub rest : List Token
  pub same : ts ≡ tokens placed ++ deep.token ∷ rest
  pub where_ : at ≡ deep.token.at
  pub front : IsFront (placed ++ deep ∷ [])
  pub within : IsWithin limits placed
  pub above : limits.nesting < deep.nesting

-- a program with the text's names
pub record IsProgramOf (limits : Limits) (text : Text) (p : Program) : Type 0 where
  pub functions : Succeeds limits text.tokens p.functions
  pub names : p.names ≡ text.names

-- where tokens of a source of this length go wrong
abbrev pub IsFault : Limits → ℕ → List Token → SyntaxFault → Type 0
IsFault limits length ts (Unexpected at) = IsUnexpected limits length ts at
IsFault limits length ts (TooDeep at) = IsTooDeep limits ts at
IsFault limits length ts _ = ⊥

-- what the text's tokens stand for on a device, or where they go wrong
abbrev pub IsReading : Limits → Text → Result Program SyntaxFault → Type 0
IsReading limits text (Ok p) = IsProgramOf limits text p
IsReading limits text (Err fault) = IsFault limits text.length text.tokens fault

-- One program, one tree, and one nesting of each token.
abbrev pub IsOne : Type 0
IsOne = (ps qs : List Placed) (f g : Funcs) → tokens ps ≡ tokens qs → IsProgram ps f → IsProgram qs g → (ps ≡ qs) × (f ≡ g)

-- P, of a fault other than out of memory
abbrev pub UnlessMemory : SyntaxFault → Type 0 → Type 0
UnlessMemory OutOfMemory P = Unit {0}
UnlessMemory (BadByte at) P = P
UnlessMemory (NumberTooLarge at) P = P
UnlessMemory (Unexpected at) P = P
UnlessMemory (TooDeep at) P = P
UnlessMemory (TooLong at) P = P

-- The answer meets P, or memory ran out.
abbrev pub GivesAs : Result rust_tree.Tree SyntaxFault → (Result Program SyntaxFault → Type 0) → Type 0
GivesAs (Ok t) P = P (Ok (program t))
GivesAs (Err fault) P = UnlessMemory fault (P (Err fault))

-- The answer is r, or memory ran out.
abbrev pub Gives : Result rust_tree.Tree SyntaxFault → Result Program SyntaxFault → Type 0
Gives answer r = GivesAs answer (λ s. s ≡ r)
