use Rattle.std.proofs.Common.{arith, sym, ◌∙◌, subst}
use Rattle.host_queue.specs.History.{RunsTo}
use Rattle.host_queue.proofs.Basics.{begins_trans}
use Rattle.host_queue.proofs.Clients.{serves_more}
use Rattle.host_queue.proofs.queue.close.Goals as goal

pub returns : goal.returns
returns g c = let e = c.drive_rest.ensures in let p = c.part_from_all.ensures in let log = c.drive_rest.new.self.seat.me.0.known in (
  c.drive_rest.new.self.seat.me.0.known,
  (λ x st. subst (λ m. RunsTo g.D.Machine.step x c.drive_rest.new.self.seat.me.0.known m) (sym c.into_machine.ensures) (c.drive_rest.new.self.driver.runs x (e.same ∙ (p.same.0 ∙ st)))),
  begins_trans c.args.driver.seat.me.0.known c.part_from_all.new.self.seat.me.0.known c.drive_rest.new.self.seat.me.0.known p.known e.known,
  (λ k x at. let z = p.clients k x at in (
    begins_trans x.seat.me.0.known c.part_from_all.new.self.seat.me.0.known c.drive_rest.new.self.seat.me.0.known z.0 e.known,
    serves_more x.seat.me.0.tickets c.part_from_all.new.self.seat.me.0.known c.drive_rest.new.self.seat.me.0.known e.known z.1,
  )),
  (λ none all. let n = p.counts.0 in let drawn = p.counts.1 in let left = c.args.driver.driver.left none in let admitted = p.same.1 in let is = e.all (omega arith) in omega arith),
)
