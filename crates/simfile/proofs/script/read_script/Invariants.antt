use Rattle.std.proofs.Common.{◌≡◌, ◌-◌, length}
use Rattle.simfile.specs.Places.{AreAt, Locates}
use Rattle.simfile.proofs.Scripts.{IsAt}
use Rattle.simfile.proofs.script.read_script.Given as goal

abbrev pub invariant-loop : goal.invariant-loop
invariant-loop l = record {
  at : IsAt l.bytes l.version l.script.commands.items l.rest;
  count : length l.script.commands.items ≡ l.counter;
  placed : AreAt l.bytes l.script.commands.items l.script.places.items;
  here : Locates l.bytes (length l.bytes - length l.rest) l.place;
}
