-- Printed tokens are read back, with the same table of names.
use Rattle.std.proofs.Common.{◌≡◌, ℕ, zero, suc, ◌+◌, ◌⊎◌, inl, inr, Bool, true, false, List, [], ◌∷◌, ◌++◌, map, length, take, refl, arith, sym, ◌∙◌, ap, subst, Option, None, Some, Result, Ok, Err, All, fold, slice_get, length-append}
use Rattle.std.specs.List.{cons_option, AllByRecursion}
use Rattle.std.specs.Option.{unwrap_or}
use Rattle.std.proofs.Math.Seq.{take-append_seam, drop-append_seam}
use Rattle.clsyntax_lex.specs.declared.token.TokenKind.{TokenKind}
use Rattle.clsyntax_lex.specs.declared.token.TokenKind.TheVariants as kinds
use Rattle.clsyntax_lex.specs.declared.token.SyntaxFault.{SyntaxFault}
use Rattle.clsyntax_lex.specs.Tokens.{Text}
use Rattle.clsyntax_lex.specs.Words.{reserved_words, symbols, built_in_names}
use Rattle.clsyntax_lex.specs.Pieces.{piece_at}
use Rattle.clsyntax_lex.specs.Lexing.{Lexeme, Named, Plain, Placed, placed, in_front, lexemes_from, place, with_text, with_name, with_names, token_of, completed, lexing_at_any_length, LexesAtAnyLength}
use Rattle.clsyntax_lex.specs.Spelling.{HasName, IsName, Spells, Reads, ended, gap, token}
use Rattle.clsyntax_lex.specs.Printed.{spelled, text_of, name_number, names_in, kinds_of, IsWritable, ReadsAs}
use Rattle.clsyntax_lex.proofs.StepLemmas.{gap_front, name_front, token_front}
use Rattle.clsyntax_lex.proofs.LexLemmas.{lexing-short}
use Rattle.clsyntax_lex.proofs.SpellingLemmas.{passes}
use Rattle.clsyntax_lex.proofs.TableLemmas.{with_names-IsNameTable}
use Rattle.clsyntax_lex.proofs.ReadingLemmas.{sound}
use Rattle.clsyntax_lex.proofs.WordPrinting.{IsReadBack, word_read_back}
use Rattle.clsyntax_lex.proofs.NamePrinting.{name_piece}
use Rattle.clsyntax_lex.proofs.NumberPrinting.{number-IsHeld, number_read_back}

-- each token is a name or is read back
read_back : (names : List (List ℕ)) (kind : TokenKind) → IsWritable kind → ((number : ℕ) × (kind ≡ kinds.Name number)) ⊎ IsReadBack names kind
read_back names (kinds.Name number) writable = inl (number, refl)
read_back names (kinds.Number value) writable = inr (number_read_back names value (number-IsHeld writable.0 value writable.1))
read_back names (kinds.Space space) writable = inr (word_read_back names (kinds.Space space) tt)
read_back names (kinds.Type type) writable = inr (word_read_back names (kinds.Type type) tt)
read_back names _ writable = inr (word_read_back names _ tt)

-- ---- the lexemes of a source

-- a name by its text, and any other token such as can be written
abbrev IsGood : Lexeme → Type 0
IsGood (Named text) = IsName text
IsGood (Plain kind) = (name_number kind ≡ None) × IsWritable kind

is_word : TokenKind → Bool
is_word (kinds.Name number) = false
is_word (kinds.Number value) = false
is_word _ = true

word-IsGood : (kind : TokenKind) → is_word kind ≡ true → IsGood (Plain kind)
unfolding is_word
word-IsGood (kinds.Name number) e = cc
word-IsGood (kinds.Number value) e = cc
word-IsGood _ e = (refl, tt)

spelled-IsGood : (lexeme : Lexeme) (text : List ℕ) → Spells lexeme text → IsGood lexeme
unfolding is_word
spelled-IsGood (Named name) text spells = subst IsName (sym spells.0) spells.1
spelled-IsGood (Plain kind) text (inl number) = subst (λ kind. IsGood (Plain kind)) (sym number.1) (refl, (text, number.2))
spelled-IsGood (Plain kind) text (inr (inl reserved)) = word-IsGood kind (passes (λ entry. is_word entry.1) reserved_words text kind refl reserved)
spelled-IsGood (Plain kind) text (inr (inr symbol)) = word-IsGood kind (passes (λ entry. is_word entry.1) symbols text kind refl symbol)

AreGood : List Placed → Type 0
AreGood ps = AllByRecursion (λ p. IsGood p.lexeme) ps

reads-AreGood : {at : ℕ} {bytes : List ℕ} {ps : List Placed} → Reads at bytes ps → AreGood ps
unfolding AreGood
reads-AreGood ended = tt
reads-AreGood (gap positive within is others) = reads-AreGood others
reads-AreGood (token {len = len} {bytes = bytes} {lexeme = lexeme} positive within is others) = (spelled-IsGood lexeme (take len bytes) is.spelled, reads-AreGood others)

-- a source is its lexemes
record IsLexed (source : List ℕ) (text : Text) : Type 0 where
  lexemes : List Placed
  good : AreGood lexemes
  is : text ≡ record { tokens = map (token_of (with_names built_in_names lexemes)) lexemes; length = length source; names = with_names built_in_names lexemes }

lexing-IsLexed : (source : List ℕ) (text : Text) → LexesAtAnyLength source (Ok text) → IsLexed source text
lexing-IsLexed source text e = read (lexemes_from 0 0 source) refl e
  where
    read : (found : Result (List Placed) SyntaxFault) → lexemes_from 0 0 source ≡ found → completed (length source) [] built_in_names found ≡ Ok text → IsLexed source text
    read (Err fault) is e = cc
    read (Ok ps) is e = record { lexemes = ps; good = reads-AreGood (sound 0 0 source ps is); is = cc }

writable-at : (names : List (List ℕ)) (ps : List Placed) → AreGood ps → All IsWritable (kinds_of (map (token_of names) ps))
unfolding AreGood
writable-at names [] good k d inside = absurd (omega arith)
writable-at names (p ∷ ps) good zero d inside = by p.lexeme good.0
  where
    by : (lexeme : Lexeme) → IsGood lexeme → IsWritable (token_of names (placed lexeme p.at)).kind
    by (Named text) is = tt
    by (Plain kind) is = is.1
writable-at names (p ∷ ps) good (suc k) d inside = writable-at names ps good.1 k d (omega arith)

pub tokens_writable : (source : List ℕ) (text : Text) → LexesAtAnyLength source (Ok text) → All IsWritable (kinds_of text.tokens)
tokens_writable source text e =
    let lexed = lexing-IsLexed source text e in
    subst (λ text. All IsWritable (kinds_of text.tokens)) (sym lexed.is) (writable-at (with_names built_in_names lexed.lexemes) lexed.lexemes lexed.good)

-- ---- the names of lexemes, by their texts

name_text : Lexeme → Option (List ℕ)
name_text (Named text) = Some text
name_text (Plain kind) = None

texts_in : List Placed → List (List ℕ)
texts_in [] = []
texts_in (p ∷ ps) = cons_option (name_text p.lexeme) (texts_in ps)

-- the table depends on the names alone
with_names-texts : (names : List (List ℕ)) (ps : List Placed) → with_names names ps ≡ fold with_text names (texts_in ps)
unfolding with_names name_text texts_in
with_names-texts names [] = refl
with_names-texts names (p ∷ ps) = by p.lexeme (λ table. with_names-texts table ps)
  where
    by : (lexeme : Lexeme) → ((table : List (List ℕ)) → with_names table ps ≡ fold with_text table (texts_in ps))
        → with_names (with_name names lexeme) ps ≡ fold with_text names (cons_option (name_text lexeme) (texts_in ps))
    by (Named text) more = more (with_text names text)
    by (Plain kind) more = more names

-- the numbers of the names among tokens are the places of their texts
names_in-texts : (names : List (List ℕ)) (ps : List Placed) → AreGood ps → names_in (kinds_of (map (token_of names) ps)) ≡ map (place names) (texts_in ps)
unfolding AreGood name_text texts_in
names_in-texts names [] good = refl
names_in-texts names (p ∷ ps) good = by p.lexeme good.0 (names_in-texts names ps good.1)
  where
    by : (lexeme : Lexeme) → IsGood lexeme → names_in (kinds_of (map (token_of names) ps)) ≡ map (place names) (texts_in ps)
        → cons_option (name_number (token_of names (placed lexeme p.at)).kind) (names_in (kinds_of (map (token_of names) ps))) ≡ map (place names) (cons_option (name_text lexeme) (texts_in ps))
    by (Named text) is others = ap (λ numbers. place names text ∷ numbers) others
    by (Plain kind) is others = ap (λ o. cons_option o (names_in (kinds_of (map (token_of names) ps)))) is.0 ∙ others

-- a name that stands in a table at its number
record IsAtPlace (names : List (List ℕ)) (text : List ℕ) : Type 0 where
  name : IsName text
  stands : slice_get names (place names text) ≡ Some text

texts_in-place : (names : List (List ℕ)) (ps : List Placed) → AreGood ps → ((text : List ℕ) → HasName ps text → slice_get names (place names text) ≡ Some text) → AllByRecursion (IsAtPlace names) (texts_in ps)
unfolding AreGood name_text texts_in
texts_in-place names [] good numbered = tt
texts_in-place names (p ∷ ps) good numbered = by p.lexeme refl good.0 (texts_in-place names ps good.1 (λ text has. numbered text (inr has)))
  where
    by : (lexeme : Lexeme) → p.lexeme ≡ lexeme → IsGood lexeme → AllByRecursion (IsAtPlace names) (texts_in ps) → AllByRecursion (IsAtPlace names) (cons_option (name_text lexeme) (texts_in ps))
    by (Named text) is good others = (record { name = good; stands = numbered text (inl is) }, others)
    by (Plain kind) is good others = others

-- ---- what printed tokens are read as

space_front : (at : ℕ) (rest : List ℕ) → lexemes_from at 0 (32 ∷ rest) ≡ lexemes_from (at + 1) 0 rest
unfolding piece_at
space_front at rest = gap_front at 1 (32 ∷ rest) (omega arith) (omega arith) refl

name_then_space : (at : ℕ) (text rest : List ℕ) → IsName text → lexemes_from at 0 (text ++ 32 ∷ rest) ≡ in_front (placed (Named text) at) (lexemes_from (at + length text + 1) 0 rest)
name_then_space at [] rest is = let no_start = is.starts in cc
name_then_space at (b ∷ text) rest is =
    name_front at (length (b ∷ text)) (b ∷ text ++ 32 ∷ rest) (omega arith) (omega arith) (sym (name_piece (b ∷ text) rest is))
    ∙ (λ i. in_front (placed (Named (take-append_seam (b ∷ text) (32 ∷ rest) i)) at) (lexemes_from (at + length (b ∷ text)) 0 (drop-append_seam (b ∷ text) (32 ∷ rest) i)))
    ∙ ap (in_front (placed (Named (b ∷ text)) at)) (space_front (at + length (b ∷ text)) rest)

token_then_space : (at : ℕ) (names : List (List ℕ)) (kind : TokenKind) (rest : List ℕ) → IsReadBack names kind
    → lexemes_from at 0 (spelled names kind ++ 32 ∷ rest) ≡ in_front (placed (Plain kind) at) (lexemes_from (at + length (spelled names kind) + 1) 0 rest)
token_then_space at names kind rest is =
    token_front at (length (spelled names kind)) kind (spelled names kind ++ 32 ∷ rest) (omega (arith, is.positive, length-append (spelled names kind) (32 ∷ rest))) is.positive (sym (is.piece rest))
    ∙ ap (λ rest. in_front (placed (Plain kind) at) (lexemes_from (at + length (spelled names kind)) 0 rest)) (drop-append_seam (spelled names kind) (32 ∷ rest))
    ∙ ap (in_front (placed (Plain kind) at)) (space_front (at + length (spelled names kind)) rest)

-- these lexemes are read, and are the tokens
record IsBack (names : List (List ℕ)) (tokens : List TokenKind) (texts : List (List ℕ)) (at : ℕ) : Type 0 where
  lexemes : List Placed
  read : lexemes_from at 0 (text_of names tokens) ≡ Ok lexemes
  tokens_are : kinds_of (map (token_of names) lexemes) ≡ tokens
  texts_are : texts_in lexemes ≡ texts

module _ (names : List (List ℕ)) (others : List TokenKind)
    (more : (texts : List (List ℕ)) (at : ℕ) → AllByRecursion (IsAtPlace names) texts → names_in others ≡ map (place names) texts → IsBack names others texts at) where
  name_back : (number : ℕ) (texts : List (List ℕ)) (at : ℕ) → AllByRecursion (IsAtPlace names) texts → number ∷ names_in others ≡ map (place names) texts → IsBack names (kinds.Name number ∷ others) texts at
  unfolding name_text texts_in
  name_back number [] at stand e = cc
  name_back number (text ∷ texts) at stand e =
      let number_is : number ≡ place names text = cc in
      let rest_is : names_in others ≡ map (place names) texts = cc in
      let text_is : spelled names (kinds.Name number) ≡ text = ap (λ o. unwrap_or o []) (ap (slice_get names) number_is ∙ stand.0.stands) in
      let back = more texts (at + length text + 1) stand.1 rest_is in
      record {
        lexemes = placed (Named text) at ∷ back.lexemes;
        read = ap (λ t. lexemes_from at 0 (t ++ 32 ∷ text_of names others)) text_is ∙ name_then_space at text (text_of names others) stand.0.name ∙ ap (in_front (placed (Named text) at)) back.read;
        tokens_are = ap (λ n. kinds.Name n ∷ kinds_of (map (token_of names) back.lexemes)) (sym number_is) ∙ ap (λ tokens. kinds.Name number ∷ tokens) back.tokens_are;
        texts_are = ap (λ texts. text ∷ texts) back.texts_are;
      }

  token_back : (kind : TokenKind) (texts : List (List ℕ)) (at : ℕ) → IsReadBack names kind → AllByRecursion (IsAtPlace names) texts
      → names_in (kind ∷ others) ≡ map (place names) texts → IsBack names (kind ∷ others) texts at
  unfolding name_text texts_in
  token_back kind texts at is stand e =
      let rest_is : names_in others ≡ map (place names) texts = sym (ap (λ o. cons_option o (names_in others)) is.unnamed) ∙ e in
      let back = more texts (at + length (spelled names kind) + 1) stand rest_is in
      record {
        lexemes = placed (Plain kind) at ∷ back.lexemes;
        read = token_then_space at names kind (text_of names others) is ∙ ap (in_front (placed (Plain kind) at)) back.read;
        tokens_are = ap (λ tokens. kind ∷ tokens) back.tokens_are;
        texts_are = back.texts_are;
      }

  one_back : (kind : TokenKind) (texts : List (List ℕ)) (at : ℕ) → ((number : ℕ) × (kind ≡ kinds.Name number)) ⊎ IsReadBack names kind → AllByRecursion (IsAtPlace names) texts
      → names_in (kind ∷ others) ≡ map (place names) texts → IsBack names (kind ∷ others) texts at
  one_back kind texts at (inl named) stand e =
      subst (λ kind. names_in (kind ∷ others) ≡ map (place names) texts → IsBack names (kind ∷ others) texts at) (sym named.1) (name_back named.0 texts at stand) e
  one_back kind texts at (inr is) stand e = token_back kind texts at is stand e

tokens_back : (names : List (List ℕ)) (tokens : List TokenKind) → All IsWritable tokens → (texts : List (List ℕ)) (at : ℕ) → AllByRecursion (IsAtPlace names) texts
    → names_in tokens ≡ map (place names) texts → IsBack names tokens texts at
unfolding texts_in lexemes_from
tokens_back names [] writable [] at stand e = record { lexemes = []; read = refl; tokens_are = refl; texts_are = refl }
tokens_back names [] writable (text ∷ texts) at stand e = cc
tokens_back names (kind ∷ others) writable texts at stand e =
    one_back names others (tokens_back names others (λ k d inside. writable (suc k) d (omega arith))) kind texts at (read_back names kind (writable 0 kind (omega arith))) stand e

-- printed tokens with the names of a source are read as these tokens with its table
printed-ReadsAs : (ps : List Placed) (tokens : List TokenKind) → AreGood ps → All IsWritable tokens → names_in tokens ≡ names_in (kinds_of (map (token_of (with_names built_in_names ps)) ps))
    → ReadsAs (text_of (with_names built_in_names ps) tokens) tokens (with_names built_in_names ps)
printed-ReadsAs ps tokens good writable same =
    record {
      text = record { tokens = map (token_of (with_names built_in_names back.lexemes)) back.lexemes; length = length (text_of table tokens); names = with_names built_in_names back.lexemes };
      read = whole;
      tokens_are = ap (λ names. kinds_of (map (token_of names) back.lexemes)) names_same ∙ back.tokens_are;
      names_are = names_same;
      lexes = λ limits short. lexing-short limits (text_of table tokens) short ∙ whole;
    }
  where
    table : List (List ℕ)
    table = with_names built_in_names ps

    back : IsBack (with_names built_in_names ps) tokens (texts_in ps) 0
    back = tokens_back table tokens writable (texts_in ps) 0 (texts_in-place table ps good (with_names-IsNameTable ps).numbered) (same ∙ names_in-texts table ps good)

    names_same : with_names built_in_names back.lexemes ≡ with_names built_in_names ps
    names_same = with_names-texts built_in_names back.lexemes ∙ ap (fold with_text built_in_names) back.texts_are ∙ sym (with_names-texts built_in_names ps)

    whole : lexing_at_any_length (text_of table tokens)
        ≡ Ok (record { tokens = map (token_of (with_names built_in_names back.lexemes)) back.lexemes; length = length (text_of table tokens); names = with_names built_in_names back.lexemes })
    whole = ap (completed (length (text_of table tokens)) [] built_in_names) back.read

pub tokens_read_back : (source : List ℕ) (text : Text) (tokens : List TokenKind) → LexesAtAnyLength source (Ok text) → All IsWritable tokens → names_in tokens ≡ names_in (kinds_of text.tokens)
    → ReadsAs (text_of text.names tokens) tokens text.names
tokens_read_back source text tokens e writable same =
    let lexed = lexing-IsLexed source text e in
    subst (λ text. names_in tokens ≡ names_in (kinds_of text.tokens) → ReadsAs (text_of text.names tokens) tokens text.names) (sym lexed.is) (printed-ReadsAs lexed.lexemes tokens lexed.good writable) same
