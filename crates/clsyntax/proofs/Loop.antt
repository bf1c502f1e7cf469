-- Reading a list by an index.
use Rattle.std.proofs.Common.{◌≡◌, ℕ, ◌+◌, ◌<◌, ◌≤◌, List, [], ◌∷◌, length, drop, get_or, Result, refl, sym, ◌∙◌, ap, drop-cons, add-one}
use Rattle.std.proofs.lemmas.List.{drop_all}
use Rattle.limits.specs.declared.Limits.{Limits}
use Rattle.clmodel.specs.Tree.{Funcs}
use Rattle.clsyntax_lex.specs.declared.token.Token.{Token}
use Rattle.clsyntax_lex.specs.declared.token.SyntaxFault.{SyntaxFault}
use Rattle.clsyntax_lex.specs.declared.token.SyntaxFault.TheVariants.{BadByte, NumberTooLarge, Unexpected, TooDeep, TooLong, OutOfMemory}
use Rattle.clsyntax_terms.specs.Machine.{State, step, ended}
use Rattle.clsyntax.specs.Correct.{UnlessMemory}
use Rattle.clsyntax.specs.Reading.{at_end, moved, read_from}

split_at : (ts : List Token) (i : ℕ) (t : Token) → i < length ts → t ≡ get_or ts i t → drop i ts ≡ t ∷ drop (i + 1) ts
split_at ts i t h e = rw (add-one, drop-cons ts i t h, ← e) refl

pub read_next : (limits : Limits) (n : ℕ) (t : Token) (ts : List Token) (s : State) → read_from limits n (t ∷ ts) s ≡ moved limits (step s t) t.at (read_from limits n ts)
unfolding read_from
read_next limits n t ts s = refl

pub read_nothing : (limits : Limits) (n : ℕ) (s : State) → read_from limits n [] s ≡ at_end (ended s) n
unfolding read_from
read_nothing limits n s = refl

-- what is left to read, as the next token moves
pub reads_next : (limits : Limits) (n : ℕ) (ts : List Token) (i : ℕ) (t : Token) (s : State) (all : Result Funcs SyntaxFault) → i < length ts → t ≡ get_or ts i t
    → read_from limits n (drop i ts) s ≡ all → moved limits (step s t) t.at (read_from limits n (drop (i + 1) ts)) ≡ all
reads_next limits n ts i t s all h e inv = sym (read_next limits n t (drop (i + 1) ts) s) ∙ (ap (λ us. read_from limits n us s) (sym (split_at ts i t h e)) ∙ inv)

-- nothing is left to read
pub reads_end : (limits : Limits) (n : ℕ) (ts : List Token) (i : ℕ) (s : State) (all : Result Funcs SyntaxFault) → length ts ≤ i → read_from limits n (drop i ts) s ≡ all → at_end (ended s) n ≡ all
reads_end limits n ts i s all h inv = sym (read_nothing limits n s) ∙ (ap (λ us. read_from limits n us s) (sym (drop_all i ts h)) ∙ inv)

-- a consequence of a fault's fact
pub unless_memory : (fault : SyntaxFault) (P Q : Type 0) → (P → Q) → UnlessMemory fault P → UnlessMemory fault Q
unless_memory (BadByte at) P Q f h = f h
unless_memory (NumberTooLarge at) P Q f h = f h
unless_memory (Unexpected at) P Q f h = f h
unless_memory (TooDeep at) P Q f h = f h
unless_memory (TooLong at) P Q f h = f h
unless_memory OutOfMemory P Q f h = tt
