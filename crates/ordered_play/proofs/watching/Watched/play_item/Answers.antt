use Rattle.std.proofs.Common.{◌≡◌, length, subst}
use Rattle.std.proofs.lemmas.List.{nil_from_length}
use Rattle.std.specs.List.{IsLastAndRest}
use Rattle.std.specs.Option.{MatchOption}
use Rattle.replay.proofs.Playing.{is_none}
use Rattle.ordered_play.proofs.Noted.{made_noted, made_untold, not_made}
use Rattle.ordered_play.proofs.watching.Watched.play_item.Goals as goal

pub play_item-requires : goal.play_item-requires
play_item-requires g c = (c.requires.0, c.requires.1, c.requires.2, c.requires.3.at)

pub returns-then-not-branch : goal.returns-then-not-branch
returns-then-not-branch g c = λ l r s alike own is.
    not_made {D = g.row.D.Denot} g.D.Described.launch g.D.Runnable.started l r s c.args.item c.args.self.now c.play_item.new.self c.in_ok-play_item.field-0 is c.if-not-branch.true
    (c.in_ok-play_item.ensures.played l r s is.at)

pub returns-in_default : goal.returns-in_default
returns-in_default g c = λ l r s alike own is.
    let none : length c.log.result.now ≡ 0
    = subst (λ z. MatchOption z (length c.log.result.now ≡ 0) (λ p. IsLastAndRest c.log.result.now p.0.now p.1.now)) (is_none c.split_last.result c.in_default.not-Some) c.split_last.ensures.cases in
    made_untold {D = g.row.D.Denot} g.D.Described.launch g.D.Runnable.started l r s c.args.item c.args.self.now c.play_item.new.self c.in_ok-play_item.field-0 c.log.result.now is c.if-not-branch.false
    (c.in_ok-play_item.ensures.played l r s is.at) (λ state at. c.log.ensures l r state at) (nil_from_length c.log.result.now none)

pub returns : goal.returns
returns g c = λ l r s alike own is.
    let last : IsLastAndRest c.log.result.now c.in-Some.newest.now c.in-Some._rest.now
    = subst (λ z. MatchOption z (length c.log.result.now ≡ 0) (λ p. IsLastAndRest c.log.result.now p.0.now p.1.now)) c.in-Some.is c.split_last.ensures.cases in
    made_noted {D = g.row.D.Denot} g.D.Described.launch g.D.Runnable.started l r s c.args.group c.args.uniform c.args.item c.args.self.now c.play_item.new.self c.pass.new.self c.in_ok-play_item.field-0 c.in_ok-quiet.quiet
    c.log.result.now c.in-Some._rest.now c.in-Some.newest.now alike own is c.if-not-branch.false (c.in_ok-play_item.ensures.played l r s is.at) (λ state at. c.log.ensures l r state at) last.0
    c.in_ok-quiet.ensures
