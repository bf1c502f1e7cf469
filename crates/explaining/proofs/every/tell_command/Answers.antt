use Rattle.std.proofs.Common.{◌≡◌, ◌<◌, ℕ, Bool, List, Some, length, string_bytes, refl, sym, subst, arith}
use Rattle.std.specs.Prelude.{slice_get}
use Rattle.std.proofs.lemmas.Option.{slice_get_within}
use Rattle.device.specs.Machine.{machine_of}
use Rattle.explaining.proofs.Each.{end_told, goes_told, stands_at}
use Rattle.telling.proofs.Telling.{if_none}
use Rattle.explaining.specs.Every.{IsEndAdded}
use Rattle.explaining.proofs.every.tell_command.Goals as goal

pub push_end-requires-clause-within : goal.push_end-requires-clause-within
push_end-requires-clause-within c =
    let at : c.len-ticket.result ≡ length c.args.done.now.items = omega (arith, c.len-ticket.ensures, c.args.done.now.ok.0) in
    let within : length c.args.done.now.items < length c.args.script.now.commands.now = slice_get_within c.args.script.now.commands.now _ c.args.command c.requires.next in
    omega (arith, at, within)

pub push_end-requires-clause-ended : goal.push_end-requires-clause-ended
push_end-requires-clause-ended c =
    let at : c.len-ticket.result ≡ length c.args.done.now.items = omega (arith, c.len-ticket.ensures, c.args.done.now.ok.0) in
    stands_at c.args.script.now.commands.now (machine_of c.args.device.now) (machine_of c.perform.new.device) c.args.command c.len-ticket.result c.in_ok-reply.reply c.in-Some.end c.in-Some.ensures.ends
    (subst (λ (n : ℕ). slice_get c.args.script.now.commands.now n ≡ Some c.args.command) (sym at) c.requires.next) c.in_ok-reply.ensures.step

pub returns-in_default-clause-told : goal.returns-in_default-clause-told
returns-in_default-clause-told c =
    goes_told c.args.script.now.options c.args.script.now.given.name.now c.args.script.now.told c.args.script.now.commands.now c.args.done.now.items _ (machine_of c.args.device.now) c.args.command
    (machine_of c.perform.new.device) c.in_ok-reply.reply (string_bytes c.args.out.now) c.args.met _ c.in_ok-reply.ensures.step c.in_ok-reply.ensures.memory c.in_ok-reply.ensures.noted
    (if_none _ c.in_default.is c.end_of.ensures.goes_on) refl c.ordered_by-ordered.ensures

pub returns-clause-told : goal.returns-clause-told
returns-clause-told c =
    let at : c.len-ticket.result ≡ length c.args.done.now.items = omega (arith, c.len-ticket.ensures, c.args.done.now.ok.0) in
    end_told c.args.script.now.options c.args.script.now.given.name.now c.args.script.now.told c.args.script.now.commands.now c.args.done.now.items c.perform.new.done.items c.len-ticket.result
    (machine_of c.args.device.now) c.args.command (machine_of c.perform.new.device) c.in_ok-reply.reply c.in-Some.end (string_bytes c.args.out.now) (string_bytes c.push_end.new.out) c.args.met _
    c.in_ok-reply.ensures.step c.in_ok-reply.ensures.memory c.in_ok-reply.ensures.noted at c.in-Some.ensures.ends
    (subst
    (λ (l : List Bool).
    IsEndAdded c.args.script.now.options c.args.script.now.given.name.now c.args.script.now.told c.args.script.now.commands.now l (machine_of c.perform.new.device) c.len-ticket.result c.in-Some.end
    (string_bytes c.args.out.now) (string_bytes c.push_end.new.out)) c.as_slice.ensures.value c.in_ok-push_end.ensures.told) refl c.ordered_by-ordered.ensures
