use Rattle.clsyntax_lex.proofs.StepLemmas.{gap-Advances, name-Advances, token-Advances, bad-Stops, large-Stops}
use Rattle.clsyntax_lex.proofs.lexer.Progress.take_piece.Goals as goal

pub returns-in-Gap-clause-taken : goal.returns-in-Gap-clause-taken
returns-in-Gap-clause-taken c = gap-Advances c.args.at _ c.args.rest.now _ _ c.requires.nonempty c.in-Gap.ensures.fits c.in-Gap.ensures.value

pub returns-in_ok-push-in-Name-clause-taken : goal.returns-in_ok-push-in-Name-clause-taken
returns-in_ok-push-in-Name-clause-taken c =
    name-Advances c.args.at _ c.args.rest.now _ _ c.requires.nonempty _ _ _ c.in-Name.ensures.fits c.in-Name.ensures.value
    c.in_ok-number-in-Name.ensures.ok c.in_ok-number-in-Name.ensures.place c.in_ok-number-in-Name.ensures.within c.in_ok-push-in-Name.ensures.items

pub returns-in_ok-push-in-Token-clause-taken : goal.returns-in_ok-push-in-Token-clause-taken
returns-in_ok-push-in-Token-clause-taken c =
    token-Advances c.args.at _ c.args.rest.now _ _ c.requires.nonempty c.in-Token.kind _ c.in-Token.ensures.fits c.in-Token.ensures.value c.in_ok-push-in-Token.ensures.items

pub returns-in-Bad-clause-fault : goal.returns-in-Bad-clause-fault
returns-in-Bad-clause-fault c = bad-Stops c.args.at 0 c.args.rest.now _ _ c.requires.nonempty c.in-Bad.further c.in-Bad.ensures.value

pub returns-in-TooLarge-clause-fault : goal.returns-in-TooLarge-clause-fault
returns-in-TooLarge-clause-fault c = large-Stops c.args.at 0 c.args.rest.now _ _ c.requires.nonempty c.in-TooLarge.ensures.value
