use Rattle.std.proofs.Common.{rules, to_z, of_z, w64, ◌≡◌, ◌+◌, length, set, refl, ap, ◌∙◌, subst}
use Rattle.std.specs.Prelude.{Err, option_map}
use Rattle.std.specs.Box.{box_value}
use Rattle.std.proofs.lemmas.List.{length-set}
use Rattle.std.proofs.lemmas.Option.{slice_get_read}
use Rattle.clmodel.specs.Launch.{region_of, location_of, kind_of}
use Rattle.clmodel.specs.declared.fault.Fault.TheVariants as fault
use Rattle.launches.specs.Objects.{ObjectsHold, IsMoved}
use Rattle.joining.specs.Group.{Plan}
use Rattle.access_list.specs.Log.{entry_of}
use Rattle.group_run.specs.Logs.{IsJudged}
use Rattle.group_run.proofs.Stepping.{access_made, unset_made, place_read}
use Rattle.group_run.specs.Items.{acts_at}
use Rattle.group_run.proofs.group.GroupMachine.access.Goals as goal

pub unreachable-requires : goal.unreachable-requires
unreachable-requires g c = subst (IsMoved (ObjectsHold g.G.Space.bytes (g.D.Described.launch c.args.self.now.launch.now) 0 c.args.self.now.buffers.items c.args.self.now.locals.items) (ObjectsHold g.G.Space.bytes (g.D.Described.launch c.args.self.now.launch.now) 0 c.perform_on.new.buffers.items c.perform_on.new.locals.items) (region_of 0 c.args.object) c.in-Some.first c.args.operation) (c.in-Err-Bounds.is ∙ ap Err c.in-Err-Bounds.field-0-is) (c.perform_on.ensures (g.D.Described.launch c.args.self.now.launch.now) 0)

pub unreachable-requires-in-Err-ReadOnly : goal.unreachable-requires-in-Err-ReadOnly
unreachable-requires-in-Err-ReadOnly g c = subst (IsMoved (ObjectsHold g.G.Space.bytes (g.D.Described.launch c.args.self.now.launch.now) 0 c.args.self.now.buffers.items c.args.self.now.locals.items) (ObjectsHold g.G.Space.bytes (g.D.Described.launch c.args.self.now.launch.now) 0 c.perform_on.new.buffers.items c.perform_on.new.locals.items) (region_of 0 c.args.object) c.in-Some.first c.args.operation) (c.in-Err-ReadOnly.is ∙ ap Err c.in-Err-ReadOnly.field-0-is) (c.perform_on.ensures (g.D.Described.launch c.args.self.now.launch.now) 0)

pub returns-in-Err-Unset-clause-made : goal.returns-in-Err-Unset-clause-made
returns-in-Err-Unset-clause-made g c =
    let t = c.args.self.now in
    let p : Plan = record { launch = g.D.Described.launch t.launch.now; group = t.number; first = t.first; count = length t.items.items } in
    let back : to_z w64 (of_z w64 c.args.element) ≡ c.args.element = search rules in
    let place = place_read g.G.Space.bytes c.args.object c.args.operation c.in-Some.ensures.value back c.as_slice.ensures.value c.as_slice-2.ensures.value in
    let told : c.in_ok-fault-in-Err-Unset.fault.value ≡ fault.Unset (t.first + c.args.k) (kind_of c.args.operation) (location_of p.launch (region_of t.number c.args.object)) c.in-Err-Unset.byte
    = cc (c.in_ok-fault-in-Err-Unset.ensures, c.in-Err-Unset.byte-is, c.kind-kind-in-Err-Unset.ensures) in
    unset_made (acts_at (g.D.Described.launch t.launch.now) t.first) g.G.Space.bytes g.G.Space.read_only p t.items.items t.made t.buffers.items t.locals.items (g.L.Logged.log t.log) c.args.k c.args.object c.args.element c.args.operation c.requires.inside
    c.perform_on.new.buffers.items c.perform_on.new.locals.items c.in-Some.first c.in-Err-Unset.byte c.in_ok-fault-in-Err-Unset.fault place
    (c.in-Err-Unset.is ∙ ap Err c.in-Err-Unset.field-0-is) (c.perform_on.ensures p.launch p.group) told

pub returns-clause-made : goal.returns-clause-made
returns-clause-made g c =
    let t = c.args.self.now in
    let p : Plan = record { launch = g.D.Described.launch t.launch.now; group = t.number; first = t.first; count = length t.items.items } in
    let back : to_z w64 (of_z w64 c.args.element) ≡ c.args.element = search rules in
    let place = place_read g.G.Space.bytes c.args.object c.args.operation c.in-Some.ensures.value back c.as_slice.ensures.value c.as_slice-2.ensures.value in
    let i = c.index_mut.result.now in
    let j = c.answer_item.new.slot in
    let log2 = g.L.Logged.log c.judge.new.log in
    let r : Plan = record { launch = p.launch; group = p.group; first = p.first; count = length (set t.items.items c.args.k j) } in
    let last : r ≡ p = ap (λ n. record { launch = p.launch; group = p.group; first = p.first; count = n }) (length-set t.items.items c.args.k j) in
    let entry = c.of-entry.ensures ∙ ap (λ z. entry_of (t.first + c.args.k) z c.in-Some.first c.args.operation t.made) c.region-region.ensures in
    let judged = subst (λ z. IsJudged p.launch (g.L.Logged.log t.log) z log2 (option_map box_value c.in_ok-report.report)) entry c.in_ok-report.ensures in
    let there = slice_get_read t.items.items (length t.items.items) c.args.k i refl c.requires.inside c.index_mut.ensures.value in
    access_made (acts_at (g.D.Described.launch t.launch.now) t.first) g.G.Space.bytes g.G.Space.read_only p t.items.items t.made t.buffers.items t.locals.items (g.L.Logged.log t.log) c.args.k c.args.object c.args.element c.args.operation c.requires.inside
    r c.perform_on.new.buffers.items c.perform_on.new.locals.items log2 i j c.in-Some.first c.in-Ok.answer c.in_ok-report.report last there place
    c.in-Ok.is (c.perform_on.ensures p.launch p.group) c.in_ok-answer_item.ensures judged c.in_ok-made.made c.in_ok-made.ensures.value c.judged.result c.judged.ensures
