-- A name and a number in front of a space are pieces of their own.
use Rattle.std.proofs.Common.{◌≡◌, ℕ, suc, ◌+◌, Bool, true, false, ◌||◌, ◌&&◌, List, [], ◌∷◌, ◌++◌, length, take, refl, arith, sym, ◌∙◌, cond, ap, subst, Option, None, Some, nat_eq}
use Rattle.std.specs.Prelude.{codes}
use Rattle.std.specs.List.{prefix_len, AllPass}
use Rattle.std.specs.Char.{is_ascii_digit}
use Rattle.std.proofs.Math.Seq.{take-append_seam}
use borrow.Author.Tests.{eqb-true}
use Rattle.clsyntax_lex.specs.declared.token.TokenKind.{TokenKind}
use Rattle.clsyntax_lex.specs.declared.pieces.Piece.{Piece}
use Rattle.clsyntax_lex.specs.declared.pieces.Piece.TheVariants.{Gap, Name, Token}
use Rattle.clsyntax_lex.specs.Words.{reserved_words}
use Rattle.clsyntax_lex.specs.Numbers.{begins_with}
use Rattle.clsyntax_lex.specs.Pieces.{piece_at, word_piece, number_piece, symbol_piece, word_in, is_space, is_name_start, is_name_part, line_comment_len, block_comment_piece}
use Rattle.clsyntax_lex.specs.Spelling.{IsName}
use Rattle.clsyntax_lex.proofs.SpellingLemmas.{word_in-HasEntry}

-- two bytes differ where one passes a test and the other doesn't
differs : (p : ℕ → Bool) (b k : ℕ) → p b ≡ true → p k ≡ false → nat_eq b k ≡ false
differs p b k passes stops = by (nat_eq b k) refl
  where
    by : (e : Bool) → nat_eq b k ≡ e → nat_eq b k ≡ false
    by true equal = let same : p k ≡ true = subst (λ x. p x ≡ true) (eqb-true b k equal) passes in cc
    by false other = other

-- a byte that passes a test is neither white space nor the beginning of a comment where those don't pass it
pub record IsApart (b : ℕ) (behind : List ℕ) : Type 0 where
  pub no_space : is_space b ≡ false
  pub no_line : begins_with (codes "//") (b ∷ behind) ≡ false
  pub no_block : begins_with (codes "/*") (b ∷ behind) ≡ false

pub apart : (p : ℕ → Bool) (b : ℕ) (behind : List ℕ) → p b ≡ true → p 32 ≡ false → p 9 ≡ false → p 10 ≡ false → p 13 ≡ false → p 47 ≡ false → IsApart b behind
apart p b behind passes space tab feed return slash = record {
  no_space = none (nat_eq b 32) (nat_eq b 9) (nat_eq b 10) (nat_eq b 13) (differs p b 32 passes space) (differs p b 9 passes tab) (differs p b 10 passes feed) (differs p b 13 passes return);
  no_line = slashless (codes "/");
  no_block = slashless (codes "*");
}
  where
    none : (c d e f : Bool) → c ≡ false → d ≡ false → e ≡ false → f ≡ false → ((c || d) || e) || f ≡ false
    none c d e f is_c is_d is_e is_f = cc

    other : nat_eq 47 b ≡ false
    other = by (nat_eq 47 b) refl
      where
        by : (e : Bool) → nat_eq 47 b ≡ e → nat_eq 47 b ≡ false
        by true equal = let same : p 47 ≡ true = subst (λ x. p x ≡ true) (sym (eqb-true 47 b equal)) passes in cc
        by false unlike = unlike

    slashless : (more : List ℕ) → begins_with (47 ∷ more) (b ∷ behind) ≡ false
    slashless more = ap (λ e. e && begins_with more behind) other

-- which piece it is by the first byte
pub name_front : (b : ℕ) (behind : List ℕ) → IsApart b behind → is_name_start b ≡ true → piece_at (b ∷ behind) ≡ word_piece (b ∷ behind)
unfolding piece_at
name_front b behind is starts =
    ap (λ s. cond s (Gap 1) (by_line (begins_with (codes "//") bytes) (begins_with (codes "/*") bytes) (is_name_start b))) is.no_space
    ∙ ap (λ l. by_line l (begins_with (codes "/*") bytes) (is_name_start b)) is.no_line
    ∙ ap (λ k. by_line false k (is_name_start b)) is.no_block
    ∙ ap (λ n. by_line false false n) starts
  where
    bytes : List ℕ
    bytes = b ∷ behind

    by_line : (line block name : Bool) → Piece
    by_line line block name = cond line (Gap (line_comment_len bytes)) (cond block (block_comment_piece bytes) (cond name (word_piece bytes) (cond (is_ascii_digit b) (number_piece bytes) (symbol_piece bytes))))

pub number_front : (b : ℕ) (behind : List ℕ) → IsApart b behind → is_name_start b ≡ false → is_ascii_digit b ≡ true → piece_at (b ∷ behind) ≡ number_piece (b ∷ behind)
unfolding piece_at
number_front b behind is no_start digit =
    ap (λ s. cond s (Gap 1) (by_line (begins_with (codes "//") bytes) (begins_with (codes "/*") bytes) (is_name_start b) (is_ascii_digit b))) is.no_space
    ∙ ap (λ l. by_line l (begins_with (codes "/*") bytes) (is_name_start b) (is_ascii_digit b)) is.no_line
    ∙ ap (λ k. by_line false k (is_name_start b) (is_ascii_digit b)) is.no_block
    ∙ ap (λ n. by_line false false n (is_ascii_digit b)) no_start
    ∙ ap (λ d. by_line false false false d) digit
  where
    bytes : List ℕ
    bytes = b ∷ behind

    by_line : (line block name digit : Bool) → Piece
    by_line line block name digit = cond line (Gap (line_comment_len bytes)) (cond block (block_comment_piece bytes) (cond name (word_piece bytes) (cond digit (number_piece bytes) (symbol_piece bytes))))

-- the longest front that passes is a text that passes, where what stands behind it doesn't
pub prefix_len-whole : (p : ℕ → Bool) (text : List ℕ) (b : ℕ) (behind : List ℕ) → AllPass p text → p b ≡ false → prefix_len p (text ++ b ∷ behind) ≡ length text
prefix_len-whole p [] b behind all stops = ap (λ e. cond e (1 + prefix_len p behind) 0) stops
prefix_len-whole p (x ∷ text) b behind all stops =
    ap (λ e. cond e (1 + prefix_len p (text ++ b ∷ behind)) 0) (all 0 0 (omega arith))
    ∙ omega (arith, prefix_len-whole p text b behind (λ k d inside. all (suc k) d (omega arith)) stops)

-- what a word is, by how long it is
word_by : List ℕ → ℕ → Piece
word_by bytes len = elim (word_in reserved_words (take len bytes)) [ None ↦ Name len | Some kind ↦ Token kind len ]

pub name_piece : (text behind : List ℕ) → IsName text → piece_at (text ++ 32 ∷ behind) ≡ Name (length text)
unfolding word_by
name_piece [] behind is = let no = is.starts in cc
name_piece (b ∷ text) behind is =
    name_front b (text ++ 32 ∷ behind) (apart is_name_start b (text ++ 32 ∷ behind) is.starts refl refl refl refl refl) is.starts
    ∙ ap (word_by (b ∷ text ++ 32 ∷ behind)) (prefix_len-whole is_name_part (b ∷ text) 32 behind is.parts refl)
    ∙ ap (λ word. elim (word_in reserved_words word) [ None ↦ Name (length (b ∷ text)) | Some kind ↦ Token kind (length (b ∷ text)) ]) (take-append_seam (b ∷ text) (32 ∷ behind))
    ∙ ap (λ found. elim found [ None ↦ Name (length (b ∷ text)) | Some kind ↦ Token kind (length (b ∷ text)) ]) (free (word_in reserved_words (b ∷ text)) refl)
  where
    free : (found : Option TokenKind) → word_in reserved_words (b ∷ text) ≡ found → word_in reserved_words (b ∷ text) ≡ None
    free None e = e
    free (Some kind) e = absurd (is.free kind (word_in-HasEntry reserved_words (b ∷ text) kind e))
