use Rattle.std.proofs.Common.{◌&&◌, ap, sym, ◌∙◌, subst}
use Rattle.std.proofs.lemmas.Bool.{false≢true}
use Rattle.race_filter.specs.Filters.{IsNotedAt, IsPassed}
use Rattle.race_filter.specs.Words.{first_word, last_word, word_in}
use Rattle.race_filter.proofs.Noted.{noted_once, noted_twice}
use Rattle.race_filter.proofs.filter.RaceFilter.note.Goals as goal

pub returns-then-first-last : goal.returns-then-first-last
returns-then-first-last c =
    let x = c.args.x.now in
    let at : IsNotedAt (word_in x.region (first_word x)) c.args.group c.args.uniform x c.args.self.now c.note_at.new.self c.in_ok-one.one
    = subst (λ w. IsNotedAt w c.args.group c.args.uniform x c.args.self.now c.note_at.new.self c.in_ok-one.one) (c.word_in.ensures ∙ ap (word_in x.region) c.first_word-first.ensures) c.in_ok-one.ensures in
    noted_once c.args.group c.args.uniform x c.args.self.now c.note_at.new.self c.in_ok-one.one c.requires.whole c.requires.own c.requires.wide
    (sym c.first_word-first.ensures ∙ c.if-first-last.true ∙ c.last_word-last.ensures) at

pub returns-then-one : goal.returns-then-one
returns-then-one c =
    let x = c.args.x.now in
    let first : IsNotedAt (word_in x.region (first_word x)) c.args.group c.args.uniform x c.args.self.now c.note_at.new.self c.in_ok-one.one
    = subst (λ w. IsNotedAt w c.args.group c.args.uniform x c.args.self.now c.note_at.new.self c.in_ok-one.one) (c.word_in.ensures ∙ ap (word_in x.region) c.first_word-first.ensures) c.in_ok-one.ensures in
    let last : IsNotedAt (word_in x.region (last_word x)) c.args.group c.args.uniform x c.note_at.new.self c.note_at-2.new.self c.in_ok-other.other
    = subst (λ w. IsNotedAt w c.args.group c.args.uniform x c.note_at.new.self c.note_at-2.new.self c.in_ok-other.other) (c.word_in-2.ensures ∙ ap (word_in x.region) c.last_word-last.ensures)
    c.in_ok-other.ensures in
    subst (IsPassed c.args.group c.args.uniform x c.args.self.now c.note_at-2.new.self) (ap (λ b. b && c.in_ok-other.other.quiet) c.if-one.true)
    (noted_twice c.args.group c.args.uniform x c.args.self.now c.note_at.new.self c.note_at-2.new.self c.in_ok-one.one c.in_ok-other.other c.requires.whole c.requires.own c.requires.wide first last)

pub returns-else-one : goal.returns-else-one
returns-else-one c = λ launch log alike own kept.
    let x = c.args.x.now in
    let first : IsNotedAt (word_in x.region (first_word x)) c.args.group c.args.uniform x c.args.self.now c.note_at.new.self c.in_ok-one.one
    = subst (λ w. IsNotedAt w c.args.group c.args.uniform x c.args.self.now c.note_at.new.self c.in_ok-one.one) (c.word_in.ensures ∙ ap (word_in x.region) c.first_word-first.ensures) c.in_ok-one.ensures in
    let last : IsNotedAt (word_in x.region (last_word x)) c.args.group c.args.uniform x c.note_at.new.self c.note_at-2.new.self c.in_ok-other.other
    = subst (λ w. IsNotedAt w c.args.group c.args.uniform x c.note_at.new.self c.note_at-2.new.self c.in_ok-other.other) (c.word_in-2.ensures ∙ ap (word_in x.region) c.last_word-last.ensures)
    c.in_ok-other.ensures in
    let claims = noted_twice c.args.group c.args.uniform x c.args.self.now c.note_at.new.self c.note_at-2.new.self c.in_ok-one.one c.in_ok-other.other c.requires.whole c.requires.own c.requires.wide first last
    launch log alike own kept in
    (claims.0, λ is. absurd (false≢true (sym c.if-one.false ∙ is)))
