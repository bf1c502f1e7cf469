use Rattle.std.proofs.Common.{◌≡◌, ◌+◌, Some, length, sym, ap, ◌∙◌, subst}
use Rattle.std.specs.HashMap.{get}
use Rattle.std.proofs.lemmas.List.Elements.{All-push}
use Rattle.access_list.specs.Cells.{IsMarked}
use Rattle.access_list.specs.Index.{IsIndexed}
use Rattle.access_list.specs.Keys.{same_key}
use Rattle.access_list.specs.declared.log.Entry.{Entry}
use Rattle.access_list.proofs.Indexed.{all_as, below_kept, below_more}
use Rattle.access_list.proofs.index.keep.Goals as goal

pub returns-in_err-push-clause-indexed : goal.returns-in_err-push-clause-indexed
returns-in_err-push-clause-indexed c =
    let log = c.args.log.now.items in
    let old = c.args.index.now in
    let own : get same_key c.insert.new.self c.access_key.result ≡ Some (length log + 1) =
    c.in_ok-insert.ensures.updates.1 ∙ ap (λ n. Some (n + 1)) (c.len.ensures ∙ c.args.log.now.ok.0) in
    subst (λ l. IsIndexed l (record { newest = c.insert.new.self; cells = c.mark.new.self })) (sym c.in_err-push.ensures.items)
    (record {
      below = below_kept log old.newest c.insert.new.self c.access_key.result c.requires.indexed.below own c.in_ok-insert.ensures.updates.2;
      marked =
          all_as (λ (y : Entry). IsMarked old.cells y.access) (λ (y : Entry). IsMarked c.mark.new.self y.access) (λ y m. c.mark.ensures.kept y.access m) log c.requires.indexed.marked;
    })

pub returns-clause-indexed : goal.returns-clause-indexed
returns-clause-indexed c =
    let log = c.args.log.now.items in
    let old = c.args.index.now in
    let x = c.args.entry in
    let own : get same_key c.insert.new.self c.access_key.result ≡ Some (length log + 1) =
    c.in_ok-insert.ensures.updates.1 ∙ ap (λ n. Some (n + 1)) (c.len.ensures ∙ c.args.log.now.ok.0) in
    subst (λ l. IsIndexed l (record { newest = c.insert.new.self; cells = c.mark.new.self })) (sym c.in_ok-push.ensures.items)
    (record {
      below = below_more log x old.newest c.insert.new.self c.access_key.result c.requires.indexed.below c.access_key.ensures own c.in_ok-insert.ensures.updates.2;
      marked = All-push (λ (y : Entry). IsMarked c.mark.new.self y.access) log x
          (all_as (λ (y : Entry). IsMarked old.cells y.access) (λ (y : Entry). IsMarked c.mark.new.self y.access) (λ y m. c.mark.ensures.kept y.access m) log c.requires.indexed.marked)
          c.in_ok-mark.ensures.added;
    })
