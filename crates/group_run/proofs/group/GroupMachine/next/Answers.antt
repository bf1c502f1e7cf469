use Rattle.std.proofs.Common.{◌≡◌, length, set, slice_get, refl, sym, ap}
use Rattle.std.proofs.lemmas.List.{length-set, get_or-set_same}
use Rattle.std.proofs.lemmas.Option.{slice_get_read}
use Rattle.group_run.proofs.Stepping.{actions_are, next_fits}
use Rattle.joining.specs.Group.{Plan}
use Rattle.launches.specs.Turns.{turns_of}
use Rattle.group_run.specs.Items.{acts_at}
use Rattle.group_run.specs.Turns.{turns_in}
use Rattle.group_run.proofs.group.GroupMachine.next.Goals as goal

pub returns-clause-value : goal.returns-clause-value
returns-clause-value g c =
    let t = c.args.self.now in
    let i = c.index_mut.result.now in
    let j = c.next_brief.new.self in
    let items = set t.items.items c.args.k j in
    let there = slice_get_read items (length t.items.items) c.args.k j (sym (length-set t.items.items c.args.k j)) c.requires (sym (get_or-set_same t.items.items c.args.k j j c.requires)) in
    actions_are (acts_at (g.D.Described.launch t.launch.now) t.first) g.G.Space.bytes g.G.Space.read_only
    (record { launch = g.D.Described.launch t.launch.now; group = t.number; first = t.first; count = length t.items.items }) t.items.items t.made t.buffers.items
    t.locals.items (g.L.Logged.log t.log) c.args.k i (turns_of j) (turns_in (slice_get items c.args.k)) (ap turns_in (sym there))
    (slice_get_read t.items.items (length t.items.items) c.args.k i refl c.requires c.index_mut.ensures.value) c.next_brief.result c.next_brief.ensures.action

pub returns-clause-fits_same : goal.returns-clause-fits_same
returns-clause-fits_same g c = λ events s f.
    let t = c.args.self.now in
    let i = c.index_mut.result.now in
    let j = c.next_brief.new.self in
    let p : Plan = record { launch = g.D.Described.launch t.launch.now; group = t.number; first = t.first; count = length t.items.items } in
    let r : Plan = record { launch = p.launch; group = p.group; first = p.first; count = length (set t.items.items c.args.k j) } in
    let last : r ≡ p = ap (λ n. record { launch = p.launch; group = p.group; first = p.first; count = n }) (length-set t.items.items c.args.k j) in
    next_fits (acts_at (g.D.Described.launch t.launch.now) t.first) g.G.Space.bytes g.G.Space.read_only p r t.items.items t.made t.buffers.items t.locals.items (g.L.Logged.log t.log) c.args.k i j
    last (slice_get_read t.items.items (length t.items.items) c.args.k i refl c.requires c.index_mut.ensures.value) c.next_brief.ensures.same events s f
