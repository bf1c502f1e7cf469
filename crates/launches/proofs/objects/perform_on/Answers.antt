use Rattle.std.proofs.Common.{length, refl}
use Rattle.std.specs.Prelude.{false}
use Rattle.std.proofs.lemmas.Option.{slice_get_read}
use Rattle.launches.proofs.Memory.{buffer_there, local_there, on_buffer, on_local}
use Rattle.launches.proofs.objects.perform_on.Goals as goal

pub returns-in-Buffer : goal.returns-in-Buffer
returns-in-Buffer g c launch group =
    let n = c.in-Buffer.number in
    let xs = c.args.buffers.now.items in
    let ys = c.args.locals.now.items in
    let b = buffer_there g.G.Space.bytes xs ys c.args.object n c.args.first c.args.operation c.in-Buffer.is c.requires.inside in
    let x = c.index_mut.result.now in
    on_buffer g.G.Space.bytes launch group xs ys n x c.perform.new.space g.G.Space.may_want c.args.first c.args.operation c.perform.result c.args.object c.in-Buffer.is
    (slice_get_read xs (length xs) n x refl b c.index_mut.ensures.value) c.requires.inside c.perform.ensures

pub returns-in-Local : goal.returns-in-Local
returns-in-Local g c launch group =
    let n = c.in-Local.number in
    let xs = c.args.buffers.now.items in
    let ys = c.args.locals.now.items in
    let b = local_there g.G.Space.bytes xs ys c.args.object n c.args.first c.args.operation c.in-Local.is c.requires.inside in
    let y = c.index_mut-in-Local.result.now in
    on_local g.G.Space.bytes launch group xs ys n y c.perform-in-Local.new.space false c.args.first c.args.operation c.perform-in-Local.result c.args.object c.in-Local.is
    (slice_get_read ys (length ys) n y refl b c.index_mut-in-Local.ensures.value) c.requires.inside c.perform-in-Local.ensures
