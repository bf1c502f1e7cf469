-- What is completed from tokens and names so far, piece by piece.
use Rattle.std.proofs.Common.{◌≡◌, ℕ, zero, suc, ◌<◌, ◌≤◌, ◌+◌, ◌-◌, List, [], ◌∷◌, ◌++◌, map, length, take, drop, get_or, All, refl, arith, sym, ◌∙◌, ap, subst, Result, Ok, Err, append_assoc}
use Rattle.std.proofs.lemmas.List.Elements.{All-append}
use Rattle.clsyntax_lex.specs.declared.token.TokenKind.{TokenKind}
use Rattle.clsyntax_lex.specs.declared.token.TokenKind.TheVariants as kinds
use Rattle.clsyntax_lex.specs.declared.token.Token.{Token}
use Rattle.clsyntax_lex.specs.declared.token.SyntaxFault.{SyntaxFault}
use Rattle.clsyntax_lex.specs.declared.token.SyntaxFault.TheVariants.{BadByte, NumberTooLarge}
use Rattle.clsyntax_lex.specs.declared.pieces.Piece.{Piece}
use Rattle.clsyntax_lex.specs.declared.pieces.Piece.TheVariants as pieces
use Rattle.clsyntax_lex.specs.Tokens.{Text, IsNumberedBelow}
use Rattle.clsyntax_lex.specs.Pieces.{piece_at, FitsIn}
use Rattle.clsyntax_lex.specs.Lexing.{Named, Plain, Placed, placed, in_front, with_piece, lexemes_from, place, with_text, with_names, token_of, completed}
use Rattle.clsyntax_lex.specs.Progress.{Advances, Stops}
use Rattle.clsyntax_lex.proofs.NameLemmas.{found-with_text, Keeps-with_names, length-with_text}

pub lexemes_from-skip : (at skip : ℕ) (bytes : List ℕ) → lexemes_from at skip bytes ≡ lexemes_from (at + skip) 0 (drop skip bytes)
unfolding lexemes_from
lexemes_from-skip at zero bytes = ap (λ k. lexemes_from k 0 bytes) (omega arith)
lexemes_from-skip at (suc skip) [] = refl
lexemes_from-skip at (suc skip) (b ∷ bytes) = lexemes_from-skip (suc at) skip bytes ∙ ap (λ k. lexemes_from k 0 (drop skip bytes)) (omega arith)

-- the lexemes behind a piece
others-at : (at len b : ℕ) (bytes : List ℕ) → 0 < len → lexemes_from (suc at) (len - 1) bytes ≡ lexemes_from (at + len) 0 (drop len (b ∷ bytes))
others-at at zero b bytes positive = absurd (omega arith)
others-at at (suc len) b bytes positive =
    let e : suc len - 1 ≡ len = omega arith in
    ap (λ k. lexemes_from (suc at) k bytes) e ∙ lexemes_from-skip (suc at) len bytes ∙ ap (λ k. lexemes_from k 0 (drop len bytes)) (omega arith)

front : (at b : ℕ) (bytes : List ℕ) (piece : Piece) → piece ≡ piece_at (b ∷ bytes) → lexemes_from at 0 (b ∷ bytes) ≡ with_piece at (b ∷ bytes) piece (λ skip. lexemes_from (suc at) skip bytes)
unfolding lexemes_from
front at b bytes piece e = ap (λ p. with_piece at (b ∷ bytes) p (λ skip. lexemes_from (suc at) skip bytes)) (sym e)

pub gap_front : (at len : ℕ) (bytes : List ℕ) → 0 < length bytes → 0 < len → pieces.Gap len ≡ piece_at bytes → lexemes_from at 0 bytes ≡ lexemes_from (at + len) 0 (drop len bytes)
gap_front at len [] nonempty positive e = absurd (omega arith)
gap_front at len (b ∷ bytes) nonempty positive e = front at b bytes (pieces.Gap len) e ∙ others-at at len b bytes positive

pub name_front : (at len : ℕ) (bytes : List ℕ) → 0 < length bytes → 0 < len → pieces.Name len ≡ piece_at bytes → lexemes_from at 0 bytes ≡ in_front (placed (Named (take len bytes)) at) (lexemes_from (at + len) 0 (drop len bytes))
name_front at len [] nonempty positive e = absurd (omega arith)
name_front at len (b ∷ bytes) nonempty positive e = front at b bytes (pieces.Name len) e ∙ ap (in_front (placed (Named (take len (b ∷ bytes))) at)) (others-at at len b bytes positive)

pub token_front : (at len : ℕ) (kind : TokenKind) (bytes : List ℕ) → 0 < length bytes → 0 < len → pieces.Token kind len ≡ piece_at bytes → lexemes_from at 0 bytes ≡ in_front (placed (Plain kind) at) (lexemes_from (at + len) 0 (drop len bytes))
token_front at len kind [] nonempty positive e = absurd (omega arith)
token_front at len kind (b ∷ bytes) nonempty positive e = front at b bytes (pieces.Token kind len) e ∙ ap (in_front (placed (Plain kind) at)) (others-at at len b bytes positive)

pub bad_front : (at further : ℕ) (bytes : List ℕ) → 0 < length bytes → pieces.Bad further ≡ piece_at bytes → lexemes_from at 0 bytes ≡ Err (BadByte (at + further))
bad_front at further [] nonempty e = absurd (omega arith)
bad_front at further (b ∷ bytes) nonempty e = front at b bytes (pieces.Bad further) e

pub large_front : (at : ℕ) (bytes : List ℕ) → 0 < length bytes → pieces.TooLarge ≡ piece_at bytes → lexemes_from at 0 bytes ≡ Err (NumberTooLarge at)
large_front at [] nonempty e = absurd (omega arith)
large_front at (b ∷ bytes) nonempty e = front at b bytes pieces.TooLarge e

-- one more lexeme in front is one more token behind those so far
text_of : ℕ → List (List ℕ) → List Token → Result Text SyntaxFault
text_of bytes table tokens = Ok (record { tokens = tokens; length = bytes; names = table })

pub completed-name : (bytes : ℕ) (tokens : List Token) (names : List (List ℕ)) (text : List ℕ) (at : ℕ) (others : Result (List Placed) SyntaxFault) →
    completed bytes tokens names (in_front (placed (Named text) at) others)
    ≡ completed bytes (tokens ++ record { kind = kinds.Name (place (with_text names text) text); at = at } ∷ []) (with_text names text) others
unfolding with_names text_of
completed-name bytes tokens names text at (Err fault) = refl
completed-name bytes tokens names text at (Ok ps) =
    let table = with_names (with_text names text) ps in
    let more : List Token = map (token_of table) ps in
    let keeps = Keeps-with_names text (with_text names text) ps (found-with_text text names) in
    let e : tokens ++ record { kind = kinds.Name (place table text); at = at } ∷ more ≡ (tokens ++ record { kind = kinds.Name (place (with_text names text) text); at = at } ∷ []) ++ more =
    ap (λ number. tokens ++ record { kind = kinds.Name number; at = at } ∷ more) keeps.same ∙ sym (append_assoc tokens (record { kind = kinds.Name (place (with_text names text) text); at = at } ∷ []) more) in
    ap (text_of bytes table) e

pub completed-plain : (bytes : ℕ) (tokens : List Token) (names : List (List ℕ)) (kind : TokenKind) (at : ℕ) (others : Result (List Placed) SyntaxFault) →
    completed bytes tokens names (in_front (placed (Plain kind) at) others)
    ≡ completed bytes (tokens ++ record { kind = kind; at = at } ∷ []) names others
unfolding with_names text_of
completed-plain bytes tokens names kind at (Err fault) = refl
completed-plain bytes tokens names kind at (Ok ps) =
    ap (text_of bytes (with_names names ps)) (sym (append_assoc tokens (record { kind = kind; at = at } ∷ []) (map (token_of (with_names names ps)) ps)))

-- numbers that are below a count are below a greater one
numbered-more : (m n : ℕ) (kind : TokenKind) → m ≤ n → IsNumberedBelow m kind → IsNumberedBelow n kind
numbered-more m n (kinds.Name number) le below = omega arith
numbered-more m n _ le below = tt

abbrev AreNumberedBelow : ℕ → List Token → Type 0
AreNumberedBelow count tokens = All (λ token. IsNumberedBelow count token.kind) tokens

numbered-push : (m n : ℕ) (tokens : List Token) (token : Token) → m ≤ n → IsNumberedBelow n token.kind → AreNumberedBelow m tokens → AreNumberedBelow n (tokens ++ token ∷ [])
numbered-push m n tokens token le here all =
    All-append (λ token. IsNumberedBelow n token.kind) tokens (token ∷ []) (λ k d inside. numbered-more m n (get_or tokens k d).kind le (all k d inside)) last
  where
    last : (k : ℕ) (d : Token) → k < length (token ∷ []) → IsNumberedBelow n (get_or (token ∷ []) k d).kind
    last zero d inside = here
    last (suc k) d inside = absurd (omega arith)

module _ (at len : ℕ) (rest : List ℕ) (tokens : List Token) (names : List (List ℕ)) (nonempty : 0 < length rest) where
  pub gap-Advances : FitsIn (length rest) (pieces.Gap len) → pieces.Gap len ≡ piece_at rest → Advances at rest tokens names tokens names len
  gap-Advances fits e = record {
    positive = fits.0;
    within = fits.1;
    numbered = λ all. all;
    few = omega arith;
    same = λ bytes. ap (completed bytes tokens names) (gap_front at len rest nonempty fits.0 e);
  }

  pub token-Advances : (kind : TokenKind) (new : List Token) → FitsIn (length rest) (pieces.Token kind len) → pieces.Token kind len ≡ piece_at rest
      → new ≡ tokens ++ record { kind = kind; at = at } ∷ [] → Advances at rest tokens names new names len
  token-Advances kind new fits e pushed = record {
    positive = fits.0;
    within = fits.1;
    numbered = λ all. subst (AreNumberedBelow (length names)) (sym pushed) (numbered-push (length names) (length names) tokens (record { kind = kind; at = at }) (omega arith) (numbered-more 0 (length names) kind (omega arith) fits.2) all);
    few = omega arith;
    same = λ bytes. ap (completed bytes tokens names) (token_front at len kind rest nonempty fits.0 e) ∙ completed-plain bytes tokens names kind at (lexemes_from (at + len) 0 (drop len rest))
        ∙ ap (λ tokens. completed bytes tokens names (lexemes_from (at + len) 0 (drop len rest))) (sym pushed);
  }

  pub name-Advances : (number : ℕ) (new : List Token) (table : List (List ℕ)) → FitsIn (length rest) (pieces.Name len) → pieces.Name len ≡ piece_at rest
      → table ≡ with_text names (take len rest) → number ≡ place table (take len rest) → number < length table
      → new ≡ tokens ++ record { kind = kinds.Name number; at = at } ∷ [] → Advances at rest tokens names new table len
  name-Advances number new table fits e grown numbered below pushed = record {
    positive = fits.0;
    within = fits.1;
    numbered = λ all. subst (AreNumberedBelow (length table)) (sym pushed) (numbered-push (length names) (length table) tokens (record { kind = kinds.Name number; at = at }) longer below all);
    few = omega (arith, ap length grown, (length-with_text names (take len rest)).1, fits.0);
    same = λ bytes. ap (completed bytes tokens names) (name_front at len rest nonempty fits.0 e) ∙ completed-name bytes tokens names (take len rest) at (lexemes_from (at + len) 0 (drop len rest)) ∙ renamed bytes;
  }
    where
      longer : length names ≤ length table
      longer = omega (arith, ap length grown, (length-with_text names (take len rest)).0)

      renamed : (bytes : ℕ) → completed bytes (tokens ++ record { kind = kinds.Name (place (with_text names (take len rest)) (take len rest)); at = at } ∷ []) (with_text names (take len rest)) (lexemes_from (at + len) 0 (drop len rest))
          ≡ completed bytes new table (lexemes_from (at + len) 0 (drop len rest))
      renamed bytes =
          ap (λ table. completed bytes (tokens ++ record { kind = kinds.Name (place table (take len rest)); at = at } ∷ []) table (lexemes_from (at + len) 0 (drop len rest))) (sym grown)
          ∙ ap (λ number. completed bytes (tokens ++ record { kind = kinds.Name number; at = at } ∷ []) table (lexemes_from (at + len) 0 (drop len rest))) (sym numbered)
          ∙ ap (λ tokens. completed bytes tokens table (lexemes_from (at + len) 0 (drop len rest))) (sym pushed)

  pub bad-Stops : (further : ℕ) → pieces.Bad further ≡ piece_at rest → Stops at rest tokens names (BadByte (at + further))
  bad-Stops further e = λ _ bytes. ap (completed bytes tokens names) (bad_front at further rest nonempty e)

  pub large-Stops : pieces.TooLarge ≡ piece_at rest → Stops at rest tokens names (NumberTooLarge at)
  large-Stops e = λ _ bytes. ap (completed bytes tokens names) (large_front at rest nonempty e)
