-- The beginning and the end of a source.
use Rattle.std.proofs.Common.{◌≡◌, ℕ, ◌<◌, ◌≤◌, ◌+◌, ◌-◌, All, take, length-drop, List, [], ◌∷◌, length, drop, arith, sym, ◌∙◌, cond, ap, subst, Result, Ok, Err, append-nil, Bool, true, false, nat_lt}
use Rattle.std.proofs.lemmas.List.{take_all, drop_all, drop-drop}
use borrow.Author.Tests.{le-ltb, lt-ltb}
use Rattle.limits.specs.declared.Limits.{Limits}
use Rattle.clsyntax_lex.specs.declared.token.Token.{Token}
use Rattle.clsyntax_lex.specs.declared.token.SyntaxFault.{SyntaxFault}
use Rattle.clsyntax_lex.specs.declared.token.SyntaxFault.TheVariants.{TooLong}
use Rattle.clsyntax_lex.specs.Tokens.{Text, IsNumberedBelow}
use Rattle.clsyntax_lex.specs.Words.{built_in_names}
use Rattle.clsyntax_lex.specs.Progress.{Advances}
use Rattle.clsyntax_lex.specs.Lexing.{lexing, lexing_at_any_length, lexemes_from, completed, with_names, Lexes, LexesAtAnyLength}

pub lexing-long : (limits : Limits) (source : List ℕ) → limits.source_bytes < length source → lexing limits source ≡ Err (TooLong limits.source_bytes)
unfolding lexing
lexing-long limits source long = ap (λ b. cond b (Err (TooLong limits.source_bytes)) (lexing_at_any_length source)) (lt-ltb limits.source_bytes (length source) long)

pub lexing-short : (limits : Limits) (source : List ℕ) → length source ≤ limits.source_bytes → lexing limits source ≡ lexing_at_any_length source
unfolding lexing
lexing-short limits source short = ap (λ b. cond b (Err (TooLong limits.source_bytes)) (lexing_at_any_length source)) (le-ltb limits.source_bytes (length source) short)

-- what a source is read as it is read as without a limit of length
pub without_limit : (limits : Limits) (source : List ℕ) (text : Text) → Lexes limits source (Ok text) → LexesAtAnyLength source (Ok text)
unfolding lexing
without_limit limits source text e = by (nat_lt limits.source_bytes (length source)) e
  where
    by : (is_long : Bool) → cond is_long (Err (TooLong limits.source_bytes)) (lexing_at_any_length source) ≡ Ok text → LexesAtAnyLength source (Ok text)
    by true e = cc
    by false e = e

pub completed-end : (bytes at : ℕ) (tokens : List Token) (names : List (List ℕ)) (rest : List ℕ) → rest ≡ [] →
    completed bytes tokens names (lexemes_from at 0 rest) ≡ Ok (record { tokens = tokens; length = bytes; names = names })
unfolding lexemes_from with_names
completed-end bytes at tokens names [] ended = ap (λ tokens. Ok (record { tokens = tokens; length = bytes; names = names })) (append-nil tokens)
completed-end bytes at tokens names (b ∷ rest) ended = cc

-- so far a source is read as these tokens and names
pub record ReadsTo (limits : Limits) (source : List ℕ) (at : ℕ) (tokens : List Token) (names : List (List ℕ)) : Type 0 where
  pub within : at ≤ length source
  pub few : length names ≤ length built_in_names + at
  pub numbered : All (λ token. IsNumberedBelow (length names) token.kind) tokens
  pub same : lexing limits source ≡ completed (length source) tokens names (lexemes_from at 0 (drop at source))

pub ReadsTo-begin : (limits : Limits) (source : List ℕ) (tokens : List Token) (names : List (List ℕ)) → length source ≤ limits.source_bytes → tokens ≡ [] → names ≡ built_in_names → ReadsTo limits source 0 tokens names
ReadsTo-begin limits source tokens names short none built_in =
    subst (λ tokens. ReadsTo limits source 0 tokens names) (sym none) (subst (ReadsTo limits source 0 []) (sym built_in) (record {
      within = omega arith;
      few = omega arith;
      numbered = λ k d inside. absurd (omega arith);
      same = lexing-short limits source short;
    }))

pub ReadsTo-more : (limits : Limits) (source : List ℕ) (at len : ℕ) (tokens new_tokens : List Token) (names new_names : List (List ℕ)) → ReadsTo limits source at tokens names
    → Advances at (take (length source - at) (drop at source)) tokens names new_tokens new_names len → ReadsTo limits source (at + len) new_tokens new_names
ReadsTo-more limits source at len tokens new_tokens names new_names before step =
    let tail : take (length source - at) (drop at source) ≡ drop at source = take_all (length source - at) (drop at source) (omega (arith, length-drop at source)) in
    let step' : Advances at (drop at source) tokens names new_tokens new_names len = subst (λ rest. Advances at rest tokens names new_tokens new_names len) tail step in
    record {
      within = omega (arith, step'.within, length-drop at source, before.within);
      few = omega (arith, step'.few, before.few);
      numbered = step'.numbered before.numbered;
      same = before.same ∙ step'.same (length source) ∙ ap (λ rest. completed (length source) new_tokens new_names (lexemes_from (at + len) 0 rest)) (drop-drop len at source);
    }

pub ReadsTo-end : (limits : Limits) (source : List ℕ) (at : ℕ) (tokens : List Token) (names copied : List (List ℕ)) (text : Text) → ReadsTo limits source at tokens names → length source ≤ at
    → copied ≡ names → text ≡ record { tokens = tokens; length = length source; names = copied } → lexing limits source ≡ Ok text
ReadsTo-end limits source at tokens names copied text before ended same_names is_text =
    before.same ∙ completed-end (length source) at tokens names (drop at source) (drop_all at source ended)
    ∙ ap (whole (length source) tokens) (sym same_names) ∙ ap Ok (sym is_text)
  where
    whole : ℕ → List Token → List (List ℕ) → Result Text SyntaxFault
    whole bytes tokens names = Ok (record { tokens = tokens; length = bytes; names = names })
