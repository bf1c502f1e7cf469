use Rattle.std.proofs.Common.{rules, ◌≡◌, List, ℕ, Bor, map, None, Some, arith}
use Rattle.written_scripts.specs.Reading.{told_at}
use Rattle.written_scripts.proofs.LineSteps.{stops_here, stops_full, adds_none, adds_some, text_of_told}
use Rattle.written_scripts.proofs.reading.add_line.Goals as goal

pub returns-in_default : goal.returns-in_default
returns-in_default c =
    let behind = map (λ (l : Bor (List ℕ)). l.now) c.args.behind.now in
    let none : told_at c.args.files.now c.args.number c.args.line.now behind ≡ None = search rules in
    stops_here c.args.files.now c.args.number c.args.line.now behind _ none

pub returns-in_default-told : goal.returns-in_default-told
returns-in_default-told c =
    let behind = map (λ (l : Bor (List ℕ)). l.now) c.args.behind.now in
    let read : told_at c.args.files.now c.args.number c.args.line.now behind ≡ Some (None, c.in-Some.taken) = search rules in
    adds_none c.args.files.now c.args.number c.args.line.now behind c.args.plain.now c.in-Some.taken read c.requires

pub returns-then-len-ge-MAX_COMMANDS : goal.returns-then-len-ge-MAX_COMMANDS
returns-then-len-ge-MAX_COMMANDS c =
    let behind = map (λ (l : Bor (List ℕ)). l.now) c.args.behind.now in
    let read : told_at c.args.files.now c.args.number c.args.line.now behind ≡ Some (Some (c.in-Some-told.command, c.in-Some-told.place), c.in-Some.taken) = search rules in
    stops_full c.args.files.now c.args.number c.args.line.now behind _ c.in-Some.taken (c.in-Some-told.command, c.in-Some-told.place) read (omega (arith, c.if-len-ge-MAX_COMMANDS.true, c.len.ensures))

pub command_text-requires : goal.command_text-requires
command_text-requires c =
    let behind = map (λ (l : Bor (List ℕ)). l.now) c.args.behind.now in
    let read : told_at c.args.files.now c.args.number c.args.line.now behind ≡ Some (Some (c.in-Some-told.command, c.in-Some-told.place), c.in-Some.taken) = search rules in
    text_of_told c.args.files.now c.args.number c.args.line.now behind c.in-Some.taken c.in-Some-told.command c.in-Some-told.place read

pub returns : goal.returns
returns c =
    let behind = map (λ (l : Bor (List ℕ)). l.now) c.args.behind.now in
    let read : told_at c.args.files.now c.args.number c.args.line.now behind ≡ Some (Some (c.in-Some-told.command, c.in-Some-told.place), c.in-Some.taken) = search rules in
    adds_some c.args.files.now c.args.number c.args.line.now behind c.args.plain.now _ c.in-Some.taken c.in-Some-told.command c.in-Some-told.place c.in_ok-text.text.items read (omega (arith, c.if-len-ge-MAX_COMMANDS.false, c.len.ensures)) c.in_ok-text.ensures
    (search rules) (search rules)
