-- What a program is printed as stands for it.
use Rattle.std.proofs.Common.{◌≡◌, ℕ, List, [], ◌∷◌, refl, sym, ap, subst, ◌∙◌}
use Rattle.std.specs.List.{AllByRecursion}
use Rattle.std.proofs.lemmas.List.Elements.{All-from_recursion, recursion_from_All}
use Rattle.clmodel.specs.Tree.{Program, Funcs}
use Rattle.clsyntax_lex.specs.declared.token.TokenKind.TheVariants as kinds
use Rattle.clsyntax_lex.specs.Printed.{text_of, names_in, kinds_of, IsWritable, ReadsAs}
use Rattle.clsyntax_lex.proofs.PrintedLemmas.{tokens_writable, tokens_read_back}
use Rattle.clsyntax.specs.Source.{read}
use Rattle.clsyntax_print.specs.Printing.{Kinds, printed, words_in}
use Rattle.clsyntax_print.specs.Text.{printed_text, StandsFor, IsReadBack}
use Rattle.clsyntax_print.proofs.PrintedPrograms.{is_printed}
use Rattle.clsyntax_print.proofs.PrintedWords.{has_words}
use Rattle.clsyntax_print.proofs.PlainPrinted.{printed_alike}

-- names are words
names_in-words : (ks : Kinds) → names_in (words_in ks) ≡ names_in ks
names_in-words [] = refl
names_in-words (kinds.Name x ∷ ks) = ap (λ xs. x ∷ xs) (names_in-words ks)
names_in-words (kinds.Number v ∷ ks) = names_in-words ks
names_in-words (_ ∷ ks) = names_in-words ks

-- numbers are words
words-writable : (ks : Kinds) → AllByRecursion IsWritable ks → AllByRecursion IsWritable (words_in ks)
words-writable [] all = tt
words-writable (kinds.Name x ∷ ks) all = (all.0, words-writable ks all.1)
words-writable (kinds.Number v ∷ ks) all = (all.0, words-writable ks all.1)
words-writable (_ ∷ ks) all = words-writable ks all.1

writable-words : (ks : Kinds) → AllByRecursion IsWritable (words_in ks) → AllByRecursion IsWritable ks
writable-words [] all = tt
writable-words (kinds.Name x ∷ ks) all = (all.0, writable-words ks all.1)
writable-words (kinds.Number v ∷ ks) all = (all.0, writable-words ks all.1)
writable-words (_ ∷ ks) all = (tt, writable-words ks all)

-- what bytes stand for is printed as bytes that are read back as it
pub read_back : (bytes : List ℕ) (p : Program) → StandsFor bytes p → IsReadBack (printed_text p) p
read_back bytes p is =
    let fs : Funcs = is.again.functions in
    let words : words_in (kinds_of is.text.tokens) ≡ words_in (printed fs) = ap (λ ts. words_in (kinds_of ts)) (sym is.same) ∙ has_words is.placed fs is.program in
    let names : names_in (printed fs) ≡ names_in (kinds_of is.text.tokens) = sym (names_in-words (printed fs)) ∙ (ap names_in (sym words) ∙ names_in-words (kinds_of is.text.tokens)) in
    let text_words = words-writable (kinds_of is.text.tokens) (recursion_from_All IsWritable (kinds_of is.text.tokens) (tokens_writable bytes is.text is.lexed)) in
    let writable = All-from_recursion IsWritable (printed fs) (writable-words (printed fs) (subst (λ (ks : Kinds). AllByRecursion IsWritable ks) words text_words)) in
    let back : ReadsAs (text_of is.text.names (printed fs)) (printed fs) is.text.names = tokens_read_back bytes is.text (printed fs) is.lexed writable names in
    let again = is_printed is.placed fs back.text.tokens is.program back.tokens_are in
    let stands : StandsFor (text_of is.text.names (printed fs)) p = record {
      text = back.text;
      lexed = back.read;
      placed = again.placed;
      same = again.same;
      again = record { functions = again.functions; names = is.text.names };
      program = again.program;
      functions = again.plain ∙ is.functions;
      names_read = sym back.names_are;
      names = sym is.names_read ∙ is.names;
    } in
    let whole : IsReadBack (text_of is.text.names (printed fs)) p = record {
      stands = stands;
      source = λ limits short within. read (back.lexes limits short) (record {
        functions = record { placed = again.placed; same = sym again.same; program = again.program; within = within };
        names = sym back.names_are;
      });
    } in
    let text_same : text_of is.text.names (printed fs) ≡ printed_text p =
    ap (λ (names : List (List ℕ)). text_of names (printed fs)) (sym is.names_read ∙ is.names) ∙ ap (text_of p.names) (printed_alike fs p.functions is.functions) in
    subst (λ (bytes : List ℕ). IsReadBack bytes p) text_same whole
