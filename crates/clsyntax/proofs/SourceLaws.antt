-- What a source's bytes stand for.
use Rattle.std.proofs.Common.{◌≡◌, ◌≢◌, ℕ, List, Ok, Err, sym, ◌∙◌, ap, subst}
use Rattle.limits.specs.declared.Limits.{Limits}
use Rattle.clsyntax_lex.specs.declared.token.SyntaxFault.{SyntaxFault}
use Rattle.clsyntax_lex.specs.declared.token.SyntaxFault.TheVariants.{BadByte, NumberTooLarge, Unexpected, TooDeep, TooLong, OutOfMemory}
use Rattle.clsyntax_lex.specs.Tokens.{Text}
use Rattle.clsyntax_lex.specs.Lexing.{Lexes}
use Rattle.clsyntax.specs.Correct.{IsReading, UnlessMemory}
use Rattle.clsyntax.specs.Source.{IsSource, read, refused, IsOneSource}
use Rattle.clsyntax.proofs.Unique.{one_reading}

pub one_source : IsOneSource
one_source limits source a b (read {text = text} l h) (read {text = other} m k) =
    let same : Ok text ≡ Ok other = sym l ∙ m in
    let texts : text ≡ other = cc in
    let R : Text → Type 0 = λ x. IsReading limits x a in
    one_reading limits other a b (subst R texts h) k
one_source limits source a b (read {text = text} l h) (refused {fault = fault} m) = let clash : Ok text ≡ Err fault = sym l ∙ m in absurd cc
one_source limits source a b (refused {fault = fault} l) (read {text = other} m k) = let clash : Err fault ≡ Ok other = sym l ∙ m in absurd cc
one_source limits source a b (refused {fault = fault} l) (refused {fault = other} m) = let f : Err fault ≡ Err other = sym l ∙ m in let same : fault ≡ other = cc in ap Err same

pub refused_unless : (limits : Limits) (source : List ℕ) (fault : SyntaxFault) → (fault ≢ OutOfMemory → Lexes limits source (Err fault)) → UnlessMemory fault (IsSource limits source (Err fault))
refused_unless limits source (BadByte at) h = refused (h (λ e. cc))
refused_unless limits source (NumberTooLarge at) h = refused (h (λ e. cc))
refused_unless limits source (Unexpected at) h = refused (h (λ e. cc))
refused_unless limits source (TooDeep at) h = refused (h (λ e. cc))
refused_unless limits source (TooLong at) h = refused (h (λ e. cc))
refused_unless limits source OutOfMemory h = tt
