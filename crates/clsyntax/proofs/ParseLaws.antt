-- What parsing gives, from what reading gives.
use Rattle.std.proofs.Common.{◌≡◌, ℕ, List, Result, Ok, Err, sym, ◌∙◌, ap, subst}
use Rattle.limits.specs.declared.Limits.{Limits}
use Rattle.clmodel.specs.Tree.{Funcs, Program}
use Rattle.clsyntax_lex.specs.Tokens.{Text}
use Rattle.clsyntax_lex.specs.declared.token.Token.{Token}
use Rattle.clsyntax_lex.specs.declared.token.SyntaxFault.{SyntaxFault}
use Rattle.clsyntax_terms.specs.Machine.{begun}
use Rattle.clsyntax.specs.Correct.{IsFault, IsProgramOf}
use Rattle.clsyntax.specs.Reading.{read_from}
use Rattle.clsyntax.proofs.ReadingLaws.{Tells, reads_so, reads_only}

-- the reading of a text
abbrev pub read_text : Limits → Text → Result Funcs SyntaxFault
read_text limits text = read_from limits text.length text.tokens begun

pub of_values : (limits : Limits) (text : Text) (n : ℕ) (ts : List Token) → n ≡ text.length → ts ≡ text.tokens → read_text limits text ≡ read_from limits n ts begun
of_values limits text n ts e f = ap (λ k. read_from limits k text.tokens begun) (sym e) ∙ ap (λ us. read_from limits n us begun) (sym f)

pub exact_program : (limits : Limits) (text : Text) (p : Program) → read_text limits text ≡ Ok p.functions → p.names ≡ text.names → IsProgramOf limits text p
exact_program limits text p e names =
    let T : Result Funcs SyntaxFault → Type 0 = λ r. Tells limits text.length text.tokens r in
    record { functions = subst T e (reads_so limits text.length text.tokens); names = names }

pub only_program : (limits : Limits) (text : Text) (p q : Program) → read_text limits text ≡ Ok p.functions → p.names ≡ text.names → IsProgramOf limits text q → p ≡ q
only_program limits text p q e names h =
    let f : Ok p.functions ≡ Ok q.functions = sym e ∙ reads_only limits text.length text.tokens q.functions h.functions in
    let functions : p.functions ≡ q.functions = cc in
    let same : p.names ≡ q.names = names ∙ sym h.names in
    ap (λ x. record { functions = x; names = p.names }) functions ∙ ap (λ x. record { functions = q.functions; names = x }) same

pub exact_fault : (limits : Limits) (text : Text) (fault : SyntaxFault) → read_text limits text ≡ Err fault → IsFault limits text.length text.tokens fault
exact_fault limits text fault e =
    let T : Result Funcs SyntaxFault → Type 0 = λ r. Tells limits text.length text.tokens r in
    subst T e (reads_so limits text.length text.tokens)

pub only_fault : (limits : Limits) (text : Text) (fault : SyntaxFault) (q : Program) → read_text limits text ≡ Err fault → IsProgramOf limits text q → ⊥
only_fault limits text fault q e h =
    let clash : Err fault ≡ Ok q.functions = sym e ∙ reads_only limits text.length text.tokens q.functions h.functions in cc
