use Rattle.std.proofs.Common.{rules, arith, sym, ap, ◌∙◌, subst, ◌≡◌, length}
use Rattle.std.specs.Box.{box_value}
use Rattle.host_queue.specs.History.{Begins}
use Rattle.host_queue.proofs.Comings.{looks}
use Rattle.host_queue.proofs.Clients.{driver_looks, all_drawn}
use Rattle.host_queue.proofs.queue.Driver.drive_rest.Goals as goal

pub load-drawn-requires : goal.load-drawn-requires
load-drawn-requires g c = let words = c.args.queue.now.sized.1 in (search rules, omega arith, looks g.D.Machine.step box_value _ _ _ _ c.args.self.now.driver.idle)

pub invariant_of-self : goal.invariant_of-self
invariant_of-self g c = let look = c.load-drawn.ensures.2 in let k = c.args.self.now.driver in let d = k.driving in let same = look.2.own_known (omega arith) in record {
  driver = driver_looks g.D.Machine.step c.args.self.now.seat.me.0 c.load-drawn.new.seat.me.0 c.args.self.now.machine c.load-drawn.new.seat.me.0.known c.load-drawn.result k same look.0;
  counted = c.args.self.now.counted ∙ sym (ap length same);
  short = c.args.self.now.short;
}

pub returns-clause-known : goal.returns-clause-known
returns-clause-known g c = let look = c.load-drawn.ensures.2 in let d = c.args.self.now.driver.driving in subst (λ z. Begins z c.drive_to.new.self.seat.me.0.known) (look.2.own_known (omega arith)) c.drive_to.ensures.known

pub returns-clause-same : goal.returns-clause-same
returns-clause-same g c = c.drive_to.ensures.same.0 ∙ ap (λ z. z.start) c.load-drawn.ensures.2.0

pub returns-clause-all : goal.returns-clause-all
returns-clause-all g c = λ eq. let look = c.load-drawn.ensures.2 in let k = c.args.self.now.driver in let d = k.driving in let all = look.3 (omega arith) eq in let same = look.2.own_known (omega arith) in
    let is = c.tickets_of-count.ensures in let e = c.drive_to.ensures in let counted = c.args.self.now.counted in let short = c.args.self.now.short in
    let long : length c.load-drawn.new.seat.me.0.known ≡ length c.args.self.now.seat.me.0.known = ap length same in
    all_drawn c.load-drawn.result c.tickets_of-count.result c.args.queue.now.table.shared.table_id.slots c.args.self.now.seat.me.0.count (length c.load-drawn.new.seat.me.0.known) (length c.drive_to.new.self.seat.me.0.known)
    c.args.queue.now.sized.0 is.all is.most all.0 all.1 look.2.floors.2 (omega arith) e.reached e.no_more
