use Rattle.std.proofs.Common.{◌&&◌, ◌||◌, ap, ap₂, sym, ◌∙◌, subst}
use Rattle.race_filter.specs.Filters.{IsNotedAt, IsPassed}
use Rattle.race_filter.specs.Words.{byte_in, first_word, word_in}
use Rattle.race_filter.proofs.Noted.{noted_byte}
use Rattle.race_filter.proofs.filter.RaceFilter.note_byte.Goals as goal

pub returns-then-word : goal.returns-then-word
returns-then-word c =
    let x = c.args.x.now in
    let first : IsNotedAt (word_in x.region (first_word x)) c.args.group c.args.uniform x c.args.self.now c.note_at.new.self c.in_ok-word.word
    = subst (λ w. IsNotedAt w c.args.group c.args.uniform x c.args.self.now c.note_at.new.self c.in_ok-word.word) (c.word_in.ensures ∙ ap (word_in x.region) c.first_word.ensures) c.in_ok-word.ensures in
    let last : IsNotedAt (byte_in x.region x.first) c.args.group c.args.uniform x c.note_at.new.self c.note_at-2.new.self c.in_ok-byte.byte
    = subst (λ w. IsNotedAt w c.args.group c.args.uniform x c.note_at.new.self c.note_at-2.new.self c.in_ok-byte.byte) c.byte_in.ensures c.in_ok-byte.ensures in
    subst (IsPassed c.args.group c.args.uniform x c.args.self.now c.note_at-2.new.self) (ap (λ b. b || (c.in_ok-word.word.of_bytes && c.in_ok-byte.byte.quiet)) c.if-word.true ∙ sym c.if-word.true)
    (noted_byte c.args.group c.args.uniform x c.args.self.now c.note_at.new.self c.note_at-2.new.self c.in_ok-word.word c.in_ok-byte.byte c.requires.whole c.requires.own first last)

pub returns-then-word-2 : goal.returns-then-word-2
returns-then-word-2 c =
    let x = c.args.x.now in
    let first : IsNotedAt (word_in x.region (first_word x)) c.args.group c.args.uniform x c.args.self.now c.note_at.new.self c.in_ok-word.word
    = subst (λ w. IsNotedAt w c.args.group c.args.uniform x c.args.self.now c.note_at.new.self c.in_ok-word.word) (c.word_in.ensures ∙ ap (word_in x.region) c.first_word.ensures) c.in_ok-word.ensures in
    let last : IsNotedAt (byte_in x.region x.first) c.args.group c.args.uniform x c.note_at.new.self c.note_at-2.new.self c.in_ok-byte.byte
    = subst (λ w. IsNotedAt w c.args.group c.args.uniform x c.note_at.new.self c.note_at-2.new.self c.in_ok-byte.byte) c.byte_in.ensures c.in_ok-byte.ensures in
    subst (IsPassed c.args.group c.args.uniform x c.args.self.now c.note_at-2.new.self) (ap₂ (λ a b. a || (b && c.in_ok-byte.byte.quiet)) c.if-word.false c.if-word-2.true)
    (noted_byte c.args.group c.args.uniform x c.args.self.now c.note_at.new.self c.note_at-2.new.self c.in_ok-word.word c.in_ok-byte.byte c.requires.whole c.requires.own first last)

pub returns-else-word-2 : goal.returns-else-word-2
returns-else-word-2 c =
    let x = c.args.x.now in
    let first : IsNotedAt (word_in x.region (first_word x)) c.args.group c.args.uniform x c.args.self.now c.note_at.new.self c.in_ok-word.word
    = subst (λ w. IsNotedAt w c.args.group c.args.uniform x c.args.self.now c.note_at.new.self c.in_ok-word.word) (c.word_in.ensures ∙ ap (word_in x.region) c.first_word.ensures) c.in_ok-word.ensures in
    let last : IsNotedAt (byte_in x.region x.first) c.args.group c.args.uniform x c.note_at.new.self c.note_at-2.new.self c.in_ok-byte.byte
    = subst (λ w. IsNotedAt w c.args.group c.args.uniform x c.note_at.new.self c.note_at-2.new.self c.in_ok-byte.byte) c.byte_in.ensures c.in_ok-byte.ensures in
    subst (IsPassed c.args.group c.args.uniform x c.args.self.now c.note_at-2.new.self) (ap₂ (λ a b. a || (b && c.in_ok-byte.byte.quiet)) c.if-word.false c.if-word-2.false ∙ sym c.if-word-2.false)
    (noted_byte c.args.group c.args.uniform x c.args.self.now c.note_at.new.self c.note_at-2.new.self c.in_ok-word.word c.in_ok-byte.byte c.requires.whole c.requires.own first last)
