use Rattle.std.proofs.Common.{◌++◌, ◌∷◌, [], Err, take, sym, ap, subst, ◌∙◌}
use Rattle.clmodel.specs.Tree.{func}
use Rattle.origins.specs.Origins.{function_origins, origins_at}
use Rattle.origins.specs.Walks.{Walks}
use Rattle.origins.proofs.Chaining.{Reached, begins, reached_below, not_passed, found_there, lost_there, further}
use Rattle.origins.proofs.Counting.{known_before}
use Rattle.origins.proofs.origin.origin_inside.Goals as goal

pub loop-node-init : goal.loop-node-init
loop-node-init c = begins c.args.functions.now c.args.entered c.push.new.self.items (c.in_ok-push.ensures.items ∙ ap (λ cs. cs ++ c.args.entered.call ∷ []) c.new-through.ensures.items) c.requires.there

pub pass_function-requires : goal.pass_function-requires
pass_function-requires c = known_before c.args.functions.now c.args.lengths.now c.loop-node.end c.requires.known

pub unreachable-requires : goal.unreachable-requires
unreachable-requires c =
    let fs = c.args.functions.now in
    let end = c.loop-node.end in
    not_passed fs c.args.entered c.loop-node.through.items end c.loop-node.left c.index-functions-end.result (reached_below fs c.args.entered _ end _ c.loop-node.invariant) c.index-functions-end.is c.loop-node.invariant _ c.in-Ok.ensures

pub returns-in-Err-Found : goal.returns-in-Err-Found
returns-in-Err-Found c =
    let fs = c.args.functions.now in
    let end = c.loop-node.end in
    found_there fs c.args.entered c.loop-node.through.items end c.loop-node.left c.index-functions-end.result (reached_below fs c.args.entered _ end _ c.loop-node.invariant) c.index-functions-end.is c.loop-node.invariant c.in-Err-Found.node
    (subst (λ h. Walks (origins_at (take end fs)) (function_origins (take end fs) (func c.index-functions-end.result)) c.loop-node.left (Err h)) c.in-Err-Found.field-0-is c.in-Err-Found.ensures)

pub returns-in-Err-Lost : goal.returns-in-Err-Lost
returns-in-Err-Lost c =
    let fs = c.args.functions.now in
    let end = c.loop-node.end in
    lost_there fs c.args.entered c.loop-node.through.items end c.loop-node.left c.index-functions-end.result (reached_below fs c.args.entered _ end _ c.loop-node.invariant) c.index-functions-end.is c.loop-node.invariant
    (subst (λ h. Walks (origins_at (take end fs)) (function_origins (take end fs) (func c.index-functions-end.result)) c.loop-node.left (Err h)) c.in-Err-Lost.field-0-is c.in-Err-Lost.ensures)

pub loop-node-preserved : goal.loop-node-preserved
loop-node-preserved c =
    let fs = c.args.functions.now in
    let end = c.loop-node.end in
    let next = c.in-Err-Inside.further in
    subst (λ cs. Reached fs c.args.entered cs next.place next.left) (sym c.in_ok-push-in-Err-Inside.ensures.items)
    ((further fs c.args.entered c.loop-node.through.items end c.loop-node.left c.index-functions-end.result (reached_below fs c.args.entered _ end _ c.loop-node.invariant) c.index-functions-end.is c.loop-node.invariant next
    (subst (λ h. Walks (origins_at (take end fs)) (function_origins (take end fs) (func c.index-functions-end.result)) c.loop-node.left (Err h)) c.in-Err-Inside.field-0-is c.in-Err-Inside.ensures)).0)

pub loop-node-smaller : goal.loop-node-smaller
loop-node-smaller c =
    let fs = c.args.functions.now in
    let end = c.loop-node.end in
    (further fs c.args.entered c.loop-node.through.items end c.loop-node.left c.index-functions-end.result (reached_below fs c.args.entered _ end _ c.loop-node.invariant) c.index-functions-end.is c.loop-node.invariant c.in-Err-Inside.further
    (subst (λ h. Walks (origins_at (take end fs)) (function_origins (take end fs) (func c.index-functions-end.result)) c.loop-node.left (Err h)) c.in-Err-Inside.field-0-is c.in-Err-Inside.ensures)).1
