use Rattle.std.proofs.Common.{◌≡◌, true, Some, refl, sym, ap, ◌∙◌, subst, rules}
use Rattle.std.specs.Prelude.{List, unwrap_or}
use Rattle.std.proofs.Math.Logic.{∥∥₁_map}
use Rattle.clmodel.specs.declared.access.Access.{Access}
use Rattle.clmodel.specs.declared.access.Region.TheVariants as region
use Rattle.group_log.specs.SummarizesByte.{AllStand, AllTake}
use Rattle.group_log.proofs.Taking.{all_same, all_taken, same_take, marked_take, buffer_of}
use Rattle.group_log.proofs.side.Side.keep_seen.Goals as goal

pub mark-requires-clause-near : goal.mark-requires-clause-near
mark-requires-clause-near c = c.requires.seen.2

pub mark-requires-clause-place : goal.mark-requires-clause-place
mark-requires-clause-place c = c.requires.seen.4

pub invariant_of-self : goal.invariant_of-self
invariant_of-self c =
    let side = c.args.self.now in
    record { stands = λ e. ∥∥₁_map (side.stands e) (all_same side.uniform side.interval side.kept.items side.traces c.mark.new.self side.home c.in_err-mark.ensures.same) }

pub returns-in_err-mark-clause-still : goal.returns-in_err-mark-clause-still
returns-in_err-mark-clause-still c =
    let side = c.args.self.now in
    let still : (log : List Access) → (side.whole ≡ true → AllTake side.traces log) → side.whole ≡ true → AllTake c.mark.new.self log = λ log t e. same_take side.traces c.mark.new.self log c.in_err-mark.ensures.same (t e) in
    search (rules, still)

pub invariant_of-self-2 : goal.invariant_of-self-2
invariant_of-self-2 c =
    let side = c.args.self.now in
    let x = c.args.entry.access in
    let seen = c.requires.seen in
    let home = unwrap_or side.home x.region in
    record {
      stands = λ e.
          ∥∥₁_map (side.stands e)
          (λ s.
          subst (λ h. AllStand side.uniform side.interval c.push_reserved.new.self.items c.mark.new.self (Some h)) (sym c.unwrap_or.ensures)
          (subst (λ l. AllStand side.uniform side.interval l c.mark.new.self (Some home)) (sym c.push_reserved.ensures)
          (all_taken side.uniform side.interval side.kept.items side.traces c.mark.new.self side.home x c.args.entry c.args.number s seen.1 seen.3 c.requires.interval refl c.in_ok-mark.ensures.marked)));
    }

pub returns-clause-takes : goal.returns-clause-takes
returns-clause-takes c space log takes e =
    let side = c.args.self.now in
    let x = c.args.entry.access in
    marked_take side.traces c.mark.new.self log x c.args.number (buffer_of x.region space ∙ ap region.Buffer (sym c.requires.seen.0)) c.in_ok-mark.ensures.marked (takes e)
