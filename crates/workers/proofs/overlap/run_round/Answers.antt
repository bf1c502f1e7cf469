use Rattle.std.proofs.Common.{Vec, Global, ap₂}
use Rattle.std.proofs.lemmas.Result.{IfOk-weaker}
use denote.Param.Send.{sendable}
use Rattle.clmodel.specs.Next.{launch_of}
use Rattle.item_step.specs.Launches.{setup_of}
use Rattle.spaces.specs.Buffers.{bytes_in}
use Rattle.workers.proofs.Runs.{Came}
use Rattle.workers.proofs.OfUnits.{same_round}
use Rattle.workers.proofs.overlap.run_round.Goals as goal

pub run_groups-units-requires-sync-W : goal.run_groups-units-requires-sync-W
run_groups-units-requires-sync-W g c κs = search (sendable, c.rounds_are_shared.ensures)

pub returns : goal.returns
returns g c =
    let round = c.new-round.result in let new = c.new-round.ensures in
    let same = ap₂ (λ x y. launch_of (setup_of x) (bytes_in y)) new.launch new.buffers in
    IfOk-weaker _ _ _
    (λ (v : Vec Came Global) are. same_round (launch_of (setup_of round.launch.now) (bytes_in round.buffers.now)) (launch_of (setup_of c.args.launch.now) (bytes_in c.args.buffers.now)) round.first c.args.first round.last c.args.last v.items same new.first new.last are)
    c.results_of.ensures
