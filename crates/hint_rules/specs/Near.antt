-- The tokens round a place of a source (own).
use Rattle.std.specs.Prelude.{ℕ, ◌-◌, nat_lt, List, [], length, take, drop, slice_get, Option, None, Some, if◌then◌else◌}
use Rattle.std.specs.List.{prefix_len}
use Rattle.clsyntax_lex.specs.declared.token.Token.{Token}
use Rattle.opencl_words.specs.Spelling.{word_at}
use Rattle.hint_rules.specs.declared.near.TokensAround.{TokensAround}
use Rattle.hint_rules.specs.declared.near.Surroundings.{Surroundings}
use Rattle.hint_rules.specs.Marks.{mark_at}
use Rattle.hint_rules.specs.Seen.{seen_of}

-- a source, its tokens in front of a place, and those from it on
pub record Near : Type 0 where
  pub source : List ℕ
  pub front : List Token
  pub rest : List Token

abbrev pub near_of : TokensAround → Near
near_of place = record { source = place.source.now; front = place.front.now; rest = place.rest.now }

-- how many tokens begin before a byte
abbrev pub count_before : List Token → ℕ → ℕ
count_before tokens at = prefix_len (λ token. nat_lt token.at at) tokens

-- round a byte of a source with these tokens
abbrev pub near_in : List ℕ → List Token → ℕ → Near
near_in source tokens at = let count = count_before tokens at in record { source = source; front = take count tokens; rest = drop count tokens }

-- the token with so many behind it
abbrev pub nth_last : List Token → ℕ → Option Token
nth_last tokens number = if nat_lt number (length tokens) then slice_get tokens (length tokens - 1 - number) else None

-- the word that begins at a byte
abbrev pub word_from : List ℕ → ℕ → List ℕ
word_from source at = if nat_lt at (length source) then word_at source at else []

-- the word that a token is
abbrev pub word_of : List ℕ → Option Token → List ℕ
word_of source None = []
word_of source (Some token) = word_from source token.at

-- what is known of a place: the token at it, the one behind that, and what stands in front
abbrev pub setting_of : Near → Surroundings
setting_of n = record { here = mark_at (slice_get n.rest 0); next = mark_at (slice_get n.rest 1); seen = seen_of n.front }
