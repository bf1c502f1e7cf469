use Rattle.std.proofs.Common.{◌≡◌, length, refl, ap}
use Rattle.joining.specs.Group.{Plan}
use Rattle.group_run.proofs.Stepping.{release_room, release_made}
use Rattle.group_run.specs.Items.{acts_at}
use Rattle.group_run.proofs.group.GroupMachine.release.Goals as goal

pub pass-requires-clause-local : goal.pass-requires-clause-local
pass-requires-clause-local g c = (release_room _ _ _ _ _ _ _ _ _ c.args.fences c.requires c.in_ok-made.ensures.fits).local

pub pass-requires-clause-global : goal.pass-requires-clause-global
pass-requires-clause-global g c = (release_room _ _ _ _ _ _ _ _ _ c.args.fences c.requires c.in_ok-made.ensures.fits).global

pub returns-clause-made : goal.returns-clause-made
returns-clause-made g c = λ events s fits gathered instance waits.
    let t = c.args.self.now in
    let p : Plan = record { launch = g.D.Described.launch t.launch.now; group = t.number; first = t.first; count = length t.items.items } in
    let items2 = c.answer_all.new.items.items in
    let r : Plan = record { launch = p.launch; group = p.group; first = p.first; count = length items2 } in
    let last : r ≡ p = ap (λ n. record { launch = p.launch; group = p.group; first = p.first; count = n }) c.answer_all.ensures.many in
    release_made (acts_at (g.D.Described.launch t.launch.now) t.first) g.G.Space.bytes g.G.Space.read_only p r t.items.items items2 t.made t.buffers.items t.locals.items (g.L.Logged.log t.log)
    (g.L.Logged.log c.pass.new.log) events s instance c.args.fences last fits refl gathered waits c.in_ok-answer_all.ensures.answered c.pass.ensures c.in_ok-made.made c.in_ok-made.ensures.value
