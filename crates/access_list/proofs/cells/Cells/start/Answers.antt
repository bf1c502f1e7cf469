use Rattle.std.proofs.Common.{◌≡◌, ◌∙◌, length, sym, subst, arith}
use Rattle.access_list.specs.Recent.{Describes, IsInside, in_word}
use Rattle.access_list.specs.declared.word.ListedWord.{ListedWord}
use Rattle.access_list.proofs.Indexed.{cells_kept}
use Rattle.access_list.proofs.cells.Cells.start.Goals as goal

pub invariant_of-self-2 : goal.invariant_of-self-2
invariant_of-self-2 c =
    let old = c.args.self.now in
    let end : c.len-start.result ≡ length old.words.items = c.len-start.ensures ∙ old.words.ok.0 in
    record {
      inside = c.add_start.ensures.inside (length c.add_words.new.words.items) (omega (arith, end, c.in_ok-add_words.ensures.long))
          (λ q s e. omega (arith, old.inside q s e, c.add_words.ensures.longer));
      bytes_inside = λ place. subst (IsInside old.apart.items) (sym (c.add_words.ensures.same place)) (old.bytes_inside place);
    }

pub returns-in_err-add_start-clause-same : goal.returns-in_err-add_start-clause-same
returns-in_err-add_start-clause-same c =
    let old = c.args.self.now in
    cells_kept old.starts c.add_start.new.starts old.words.items c.add_words.new.words.items old.apart.items old.apart.items c.add_start.ensures.kept
    (λ p k y byte b d. subst (λ (w : ListedWord). Describes (in_word old.apart.items w k) y byte) (sym (c.add_words.ensures.same p)) d)

pub returns-clause-same : goal.returns-clause-same
returns-clause-same c =
    let old = c.args.self.now in
    cells_kept old.starts c.add_start.new.starts old.words.items c.add_words.new.words.items old.apart.items old.apart.items c.add_start.ensures.kept
    (λ p k y byte b d. subst (λ (w : ListedWord). Describes (in_word old.apart.items w k) y byte) (sym (c.add_words.ensures.same p)) d)
