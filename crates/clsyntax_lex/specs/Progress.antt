-- One step of the lexer.
use Rattle.std.specs.Prelude.{◌≡◌, ◌≢◌, ℕ, ◌+◌, ◌<◌, ◌≤◌, List, length, drop, All, Err}
use Rattle.clsyntax_lex.specs.declared.token.Token.{Token}
use Rattle.clsyntax_lex.specs.declared.token.SyntaxFault.{SyntaxFault}
use Rattle.clsyntax_lex.specs.declared.token.SyntaxFault.TheVariants.{OutOfMemory}
use Rattle.clsyntax_lex.specs.Tokens.{IsNumberedBelow}
use Rattle.clsyntax_lex.specs.Lexing.{lexemes_from, completed}

-- From the offset `at` on, of whose bytes `len` are taken, what the tokens and names so far are completed to stays the
-- same.
pub record Advances (at : ℕ) (rest : List ℕ) (tokens : List Token) (names : List (List ℕ)) (new_tokens : List Token) (new_names : List (List ℕ)) (len : ℕ) : Type 0 where
  pub positive : 0 < len
  pub within : len ≤ length rest
  pub numbered : All (λ token. IsNumberedBelow (length names) token.kind) tokens → All (λ token. IsNumberedBelow (length new_names) token.kind) new_tokens
  pub few : length new_names ≤ length names + len
  pub same : (bytes : ℕ) → completed bytes tokens names (lexemes_from at 0 rest) ≡ completed bytes new_tokens new_names (lexemes_from (at + len) 0 (drop len rest))

-- out of memory aside, it is this fault that stands first in the rest
abbrev pub Stops : ℕ → List ℕ → List Token → List (List ℕ) → SyntaxFault → Type 0
Stops at rest tokens names fault = fault ≢ OutOfMemory → (bytes : ℕ) → completed bytes tokens names (lexemes_from at 0 rest) ≡ Err fault
