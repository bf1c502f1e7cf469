-- A source without a fault is its lexemes, with white space round them.
use Rattle.std.proofs.Common.{◌≡◌, ℕ, zero, suc, ◌<◌, ◌+◌, ◌-◌, List, [], ◌∷◌, map, length, take, drop, refl, arith, sym, subst, Result, Ok, Err}
use Rattle.clsyntax_lex.specs.declared.token.SyntaxFault.{SyntaxFault}
use Rattle.clsyntax_lex.specs.declared.pieces.Piece.{Piece}
use Rattle.clsyntax_lex.specs.declared.pieces.Piece.TheVariants as pieces
use Rattle.clsyntax_lex.specs.Tokens.{Text}
use Rattle.clsyntax_lex.specs.Words.{built_in_names}
use Rattle.clsyntax_lex.specs.Pieces.{piece_at, FitsIn}
use Rattle.clsyntax_lex.specs.Lexing.{Named, Plain, Placed, placed, in_front, with_piece, lexemes_from, with_names, token_of, completed, LexesAtAnyLength}
use Rattle.clsyntax_lex.specs.Spelling.{Reads, ended, gap, token, IsReading}
use Rattle.clsyntax_lex.proofs.FitLemmas.{piece_at-FitsIn}
use Rattle.clsyntax_lex.proofs.TableLemmas.{with_names-IsNameTable}
use Rattle.clsyntax_lex.proofs.SpellingLemmas.{IsPieceOf, piece_at-spelled}

-- one lexeme more is read where the others are
in_front-ok : (first : Placed) (others : Result (List Placed) SyntaxFault) (ps : List Placed) → in_front first others ≡ Ok ps → (qs : List Placed) × (others ≡ Ok qs) × (ps ≡ first ∷ qs)
in_front-ok first (Ok qs) ps e = (qs, refl, cc)
in_front-ok first (Err fault) ps e = cc

pub sound : (at skip : ℕ) (bytes : List ℕ) (ps : List Placed) → lexemes_from at skip bytes ≡ Ok ps → Reads (at + skip) (drop skip bytes) ps
unfolding lexemes_from
sound at zero [] ps e = subst (Reads (at + 0) []) (cc) ended
sound at (suc skip) [] ps e = subst (Reads (at + suc skip) []) (cc) ended
sound at (suc skip) (b ∷ bytes) ps e = subst (λ k. Reads k (drop skip bytes) ps) (omega arith) (sound (suc at) skip bytes ps e)
sound at zero (b ∷ bytes) ps e =
    subst (λ k. Reads k (b ∷ bytes) ps) (omega arith)
    (by (piece_at (b ∷ bytes)) (piece_at-FitsIn (b ∷ bytes) (omega arith)) (piece_at-spelled (b ∷ bytes) (omega arith)) e (λ skip ps. sound (suc at) skip bytes ps))
  where
    behind : (len : ℕ) (qs : List Placed) → 0 < len → Reads (suc at + (len - 1)) (drop (len - 1) bytes) qs → Reads (at + len) (drop len (b ∷ bytes)) qs
    behind zero qs positive reads = absurd (omega arith)
    behind (suc len) qs positive reads =
        let e : suc len - 1 ≡ len = omega arith in
        let reads' = subst (λ k. Reads (suc at + k) (drop k bytes) qs) e reads in
        subst (λ k. Reads k (drop len bytes) qs) (omega arith) reads'

    by : (piece : Piece) → FitsIn (length (b ∷ bytes)) piece → IsPieceOf (b ∷ bytes) piece → with_piece at (b ∷ bytes) piece (λ skip. lexemes_from (suc at) skip bytes) ≡ Ok ps
        → ((skip : ℕ) (ps : List Placed) → lexemes_from (suc at) skip bytes ≡ Ok ps → Reads (suc at + skip) (drop skip bytes) ps) → Reads at (b ∷ bytes) ps
    by (pieces.Gap len) fits is e others = gap fits.0 fits.1 is (behind len ps fits.0 (others (len - 1) ps e))
    by (pieces.Name len) fits is e others =
        let r = in_front-ok (placed (Named (take len (b ∷ bytes))) at) (lexemes_from (suc at) (len - 1) bytes) ps e in
        subst (Reads at (b ∷ bytes)) (sym r.2) (token fits.0 fits.1 is (behind len r.0 fits.0 (others (len - 1) r.0 r.1)))
    by (pieces.Token kind len) fits is e others =
        let r = in_front-ok (placed (Plain kind) at) (lexemes_from (suc at) (len - 1) bytes) ps e in
        subst (Reads at (b ∷ bytes)) (sym r.2) (token fits.0 fits.1 is (behind len r.0 fits.0 (others (len - 1) r.0 r.1)))
    by (pieces.Bad further) fits is e others = cc
    by pieces.TooLarge fits is e others = cc

pub lexing-IsReading : (source : List ℕ) (text : Text) → LexesAtAnyLength source (Ok text) → IsReading source text
lexing-IsReading source text e = read (lexemes_from 0 0 source) refl e
  where
    read : (found : Result (List Placed) SyntaxFault) → lexemes_from 0 0 source ≡ found → completed (length source) [] built_in_names found ≡ Ok text → IsReading source text
    read (Err fault) is e = cc
    read (Ok ps) is e =
        let same : record { tokens = map (token_of (with_names built_in_names ps)) ps; length = length source; names = with_names built_in_names ps } ≡ text = cc in
        subst (IsReading source) same (record { lexemes = ps; reads = sound 0 0 source ps is; length = refl; tokens = refl; names = with_names-IsNameTable ps })
