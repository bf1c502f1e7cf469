use Rattle.std.proofs.Common.{sym, ap, ◌∙◌}
use Rattle.clmodel.specs.Next.{content}
use Rattle.item_value.specs.Arguments.{buffer_place}
use Rattle.item_value.proofs.Arguments.{content_here, content_past, place_here}
use Rattle.item_value.proofs.parameters.parameter.Goals as goal

pub returns-then-place-context : goal.returns-then-place-context
returns-then-place-context c =
    let context = c.args.context.now in
    let buffers = context.buffers.now in
    let inside = c.if-place-context.true in
    let is = c.index-context-place.is in
    let place = place_here buffers context.arguments.now context.places.now c.args.number c.index-context-place.result 0 context.placed inside is ∙ ap (buffer_place buffers) is in
    content_here buffers c.args.kind context.arguments.now c.args.number c.index-context-place.result _ inside is
    (c.content.ensures buffers place ∙ ap (content buffers c.args.number c.args.kind) (sym is))

pub returns-else-place-context : goal.returns-else-place-context
returns-else-place-context c = content_past _ c.args.kind _ c.args.number c.if-place-context.false
