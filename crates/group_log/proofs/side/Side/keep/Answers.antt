use Rattle.std.proofs.Common.{◌++◌, ◌∷◌, [], sym, ap, ◌∙◌, subst}
use Rattle.std.proofs.lemmas.Result.{on_ok_weaker, on_err_weaker}
use Rattle.access_list.specs.declared.log.Entry.{Entry}
use Rattle.std.specs.Prelude.{List}
use Rattle.group_log.specs.SummarizesByte.{AllStand}
use Rattle.group_log.proofs.side.Side.keep.Goals as goal

pub invariant_of-self : goal.invariant_of-self
invariant_of-self c =
    let side = c.args.self.now in
    record { stands = λ e. subst (λ (l : List Entry). ∥ AllStand side.uniform side.interval l side.traces side.home ∥₁) (sym c.reserve.ensures.items) (side.stands e) }

pub keep_seen-requires-clause-seen : goal.keep_seen-requires-clause-seen
keep_seen-requires-clause-seen c = c.requires.known c.in-Some.number c.in-Some.is

pub returns-in-None-clause-kept : goal.returns-in-None-clause-kept
returns-in-None-clause-kept c = c.keep_unseen.ensures.kept ∙ ap (λ (l : List Entry). l ++ c.args.entry ∷ []) c.reserve.ensures.items

pub returns-in-None-clause-takes : goal.returns-in-None-clause-takes
returns-in-None-clause-takes c space log takes = c.keep_unseen.ensures.takes (c.args.entry.access ∷ log)

pub returns-in-Some-clause-kept : goal.returns-in-Some-clause-kept
returns-in-Some-clause-kept c = on_ok_weaker c.keep_seen.result (λ e. e ∙ ap (λ (l : List Entry). l ++ c.args.entry ∷ []) c.reserve.ensures.items) c.keep_seen.ensures.kept

pub returns-in-Some-clause-stays : goal.returns-in-Some-clause-stays
returns-in-Some-clause-stays c = on_err_weaker c.keep_seen.result (λ e. e ∙ c.reserve.ensures.items) c.keep_seen.ensures.stays
