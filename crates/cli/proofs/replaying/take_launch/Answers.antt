use Rattle.std.proofs.Common.{◌≡◌, ◌<◌, ◌∙◌, ℕ, ◌+◌, suc, length, Option, None, Some, List, [], ◌∷◌, ◌++◌, take, sym, ap, arith, add-one}
use Rattle.std.specs.Prelude.{IfNone, slice_get}
use Rattle.std.proofs.lemmas.Option.{IfSome_then, same_Some}
use Rattle.host_commands.specs.declared.command.Command.{Command}
use Rattle.cli.proofs.Replays.{last_taken}
use Rattle.cli.proofs.replaying.take_launch.Goals as goal

-- the command of the ticket is the last of those that were kept
last : (commands kept rest : List Command) (ticket : ℕ) (command : Command) → ticket < length commands → kept ≡ take (ticket + 1) commands → kept ≡ rest ++ command ∷ []
    → slice_get commands ticket ≡ Some command
last commands kept rest ticket command h t e =
    let cut : kept ≡ take (suc ticket) commands = rw add-one at t in
    last_taken commands rest ticket command h (sym cut ∙ e)

none_then : {X : Type 0} (o : Option X) {P Q : Type 0} → IfNone o P → (P → Q) → IfNone o Q
none_then None h f = f h
none_then (Some x) h f = tt

pub returns-clause-launch : goal.returns-clause-launch
returns-clause-launch c =
    let command = last c.args.commands.now.items c.truncate.new.self.items c.pop.new.self.items c.args.ticket c.in_ok-command.command (omega arith) c.truncate.ensures.items c.in_ok-command.ensures.items in
    IfSome_then c.launch_in.result c.launch_in.ensures.launch (λ l h. command ∙ ap Some h)

pub returns-clause-none : goal.returns-clause-none
returns-clause-none c =
    let command = last c.args.commands.now.items c.truncate.new.self.items c.pop.new.self.items c.args.ticket c.in_ok-command.command (omega arith) c.truncate.ensures.items c.in_ok-command.ensures.items in
    none_then c.launch_in.result c.launch_in.ensures.none (λ h kernel range orders e. h kernel range orders (same_Some _ _ (sym command ∙ e)))
