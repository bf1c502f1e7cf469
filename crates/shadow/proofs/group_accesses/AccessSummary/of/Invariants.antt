use Rattle.std.proofs.Common.{All, [], take, map}
use Rattle.std.specs.Prelude.{reverse}
use Rattle.shadow.specs.Lasting.{StandsWith, TellsNews}
use Rattle.shadow.specs.Seen.{IsFootprint}
use Rattle.access_list.specs.Log.{IsPlaced}
use Rattle.access_list.specs.declared.log.Entry.{Entry}
use Rattle.shadow.proofs.group_accesses.AccessSummary.of.Given as goal

abbrev pub invariant-loop-i : goal.invariant-loop-i
invariant-loop-i g l =
    record {
      footprint : IsFootprint l.footprint (map (λ (e : Entry). e.access) (reverse (take l.i (g.L.Logged.log l.log).accesses)));
      placed : All IsPlaced l.entries.items;
      stands : StandsWith l.has_last l.entries.items (take l.i (g.L.Logged.log l.log).accesses);
      news : TellsNews [] l.entries.items (take l.i (g.L.Logged.log l.log).accesses);
    }
