-- A source builds to one thing.
use Rattle.std.proofs.Common.{◌≡◌, Result, Ok, Err, ap, sym, subst}
use Rattle.clmodel.specs.Tree.{Program}
use Rattle.clmodel.specs.Typing.{IsTypeFault}
use Rattle.clsyntax.specs.Source.{IsOneSource}
use Rattle.clsyntax_lex.specs.declared.token.SyntaxFault.{SyntaxFault}
use Rattle.cltypes.specs.Answers.{IsTypedExactly}
use Rattle.host_commands.specs.Builds.{Builds}
use Rattle.host_commands.specs.declared.command.BuildFault.TheVariants as build_fault
use Rattle.wide_scripts.proofs.OneAnswer.{BuildsAreOne}

abbrev ok : Program → Result Program SyntaxFault
ok p = Ok p

abbrev err : SyntaxFault → Result Program SyntaxFault
err f = Err f

program_of : (p q : Program) → ok p ≡ ok q → p ≡ q
program_of p q e = cc

fault_of : (f g : SyntaxFault) → err f ≡ err g → f ≡ g
fault_of f g e = cc

not_both : (p : Program) (f : SyntaxFault) → ok p ≡ err f → ⊥
not_both p f e = cc

pub builds_are_one : IsOneSource → IsTypedExactly → BuildsAreOne
unfolding Builds IsTypedExactly
builds_are_one one exactly limits source (Ok p) (Ok q) x y = ap Ok (program_of p q (one limits source (Ok p) (Ok q) x.0 y.0))
builds_are_one one exactly limits source (Ok p) (Err (build_fault.Syntax g)) x y = absurd (not_both p g (one limits source (Ok p) (Err g) x.0 y))
builds_are_one one exactly limits source (Ok p) (Err (build_fault.Type g)) x y =
    let same = program_of p y.0 (one limits source (Ok p) (Ok y.0) x.0 y.1) in
    absurd ((exactly limits p).typed.0 x.1 g (subst (λ q. IsTypeFault limits q g) (sym same) y.2))
builds_are_one one exactly limits source (Err (build_fault.Syntax f)) (Ok q) x y = absurd (not_both q f (one limits source (Ok q) (Err f) y.0 x))
builds_are_one one exactly limits source (Err (build_fault.Syntax f)) (Err (build_fault.Syntax g)) x y =
    ap (λ h. Err (build_fault.Syntax h)) (fault_of f g (one limits source (Err f) (Err g) x y))
builds_are_one one exactly limits source (Err (build_fault.Syntax f)) (Err (build_fault.Type g)) x y = absurd (not_both y.0 f (one limits source (Ok y.0) (Err f) y.1 x))
builds_are_one one exactly limits source (Err (build_fault.Type f)) (Ok q) x y =
    let same = program_of q x.0 (one limits source (Ok q) (Ok x.0) y.0 x.1) in
    absurd ((exactly limits q).typed.0 y.1 f (subst (λ p. IsTypeFault limits p f) (sym same) x.2))
builds_are_one one exactly limits source (Err (build_fault.Type f)) (Err (build_fault.Syntax g)) x y = absurd (not_both x.0 g (one limits source (Ok x.0) (Err g) x.1 y))
builds_are_one one exactly limits source (Err (build_fault.Type f)) (Err (build_fault.Type g)) x y =
    let same = program_of x.0 y.0 (one limits source (Ok x.0) (Ok y.0) x.1 y.1) in
    ap (λ h. Err (build_fault.Type h)) ((exactly limits x.0).one_fault f g x.2 (subst (λ q. IsTypeFault limits q g) (sym same) y.2))
