use Rattle.std.proofs.Common.{rules, arith, ◌∙◌, ◌<◌}
use Rattle.host_queue.proofs.Basics.{begins_trans}
use Rattle.host_queue.proofs.queue.Driver.drive_to.Goals as goal

pub loop-preserved : goal.loop-preserved
loop-preserved g c = let l = c.loop.invariant in let d = c.drive_one.ensures in record {
  one = d.one ∙ l.one;
  known = begins_trans c.args.self.now.seat.me.0.known c.loop.self.seat.me.0.known c.drive_one.new.self.seat.me.0.known l.known d.grows.0;
  no_more = λ h. let is = c.loop.self.counted in let low : c.loop.self.count < c.args.count = search rules in let more = d.grows.1 in omega arith;
  start = d.same.0 ∙ l.start;
  admitted = d.same.1 ∙ l.admitted;
  share = d.same.2 ∙ l.share;
  drawn = d.same.3 ∙ l.drawn;
}
