use Rattle.std.proofs.Common.{◌%◌, refl, sym, ap, ◌∙◌, subst}
use Rattle.std.proofs.lemmas.List.{length-set, get_or-set_same}
use Rattle.clmodel.specs.Cells.{byte_of}
use Rattle.access_list.specs.Recent.{Describes, in_word, no_word}
use Rattle.access_list.specs.declared.word.ListedWord.{ListedWord}
use Rattle.access_list.specs.declared.word.ListedWord.TheVariants as word
use Rattle.access_list.proofs.Words.{left_in_word, word_kept}
use Rattle.access_list.proofs.cells.Cells.mark_whole.Goals as goal

pub returns-then-has-clause-added : goal.returns-then-has-clause-added
returns-then-has-clause-added c byte lo hi =
    let x = c.args.x.now in
    subst (λ (w : ListedWord). Describes (in_word c.args.self.now.apart.items w (byte % 4)) x byte) (sym c.requires.word)
    (c.has.ensures c.if-has.true (byte_of (byte % 4)) byte
    (left_in_word x c.args.first byte c.requires.even c.requires.after lo hi ∙ ap (byte_of (byte % 4)) (sym c.word_left-left.ensures)))

pub returns-clause-kept : goal.returns-clause-kept
returns-clause-kept c =
    let words = c.args.self.now.words.items in
    let apart = c.args.self.now.apart.items in
    let w : ListedWord = word.Whole c.with.result in
    record {
      starts = refl;
      long = length-set words c.args.place w;
      kept = word_kept words apart apart c.args.place w c.requires.there (λ p y byte d. d)
          (λ k y byte b d. c.with.ensures.kept (byte_of k) y byte (subst (λ (v : ListedWord). Describes (in_word apart v k) y byte) c.requires.word d));
    }

pub returns-clause-added : goal.returns-clause-added
returns-clause-added c byte lo hi =
    let x = c.args.x.now in
    subst (λ (w : ListedWord). Describes (in_word c.args.self.now.apart.items w (byte % 4)) x byte)
    (sym (get_or-set_same c.args.self.now.words.items c.args.place (word.Whole c.with.result) no_word c.requires.there))
    (c.with.ensures.added (byte_of (byte % 4)) byte
    (left_in_word x c.args.first byte c.requires.even c.requires.after lo hi ∙ ap (byte_of (byte % 4)) (sym c.word_left-left.ensures)))
