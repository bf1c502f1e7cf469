use Rattle.std.proofs.Common.{◌≡◌, None, Some, sym, ap, ◌∙◌}
use Rattle.std.specs.Option.{option_map}
use Rattle.fault_lines.specs.Reading.{file_of}
use Rattle.fault_lines.specs.Views.{fault_of}
use Rattle.fault_lines.proofs.Files.{file_takes, file_again, file_is}
use Rattle.fault_lines.proofs.reading.read.Goals as goal

pub returns-in_default-clause-bad : goal.returns-in_default-clause-bad
returns-in_default-clause-bad c =
    let none : file_of c.args.bytes.now ≡ None = sym c.file_of.ensures ∙ ap (option_map (λ file. (file.ticket, fault_of file.fault, file.schedule.now))) c.in_default.is in
    λ ticket fault runs h. let again = file_again c.args.bytes.now ticket fault runs h in let read = again.read in absurd (cc)

pub returns-in-Ok-clause-found : goal.returns-in-Ok-clause-found
returns-in-Ok-clause-found c =
    let some : file_of c.args.bytes.now ≡ Some (c.in-Some.file.ticket, fault_of c.in-Some.file.fault, c.in-Some.file.schedule.now) = sym c.file_of.ensures ∙ ap (option_map (λ file. (file.ticket, fault_of file.fault, file.schedule.now))) c.in-Some.is in
    let parts = c.in-Ok.ensures in
    rw (parts.0, parts.1) (file_takes c.args.bytes.now c.in-Some.file.ticket (fault_of c.in-Some.file.fault) c.in-Some.file.schedule.now some)

pub returns-in-Ok-clause-only : goal.returns-in-Ok-clause-only
returns-in-Ok-clause-only c =
    let some : file_of c.args.bytes.now ≡ Some (c.in-Some.file.ticket, fault_of c.in-Some.file.fault, c.in-Some.file.schedule.now) = sym c.file_of.ensures ∙ ap (option_map (λ file. (file.ticket, fault_of file.fault, file.schedule.now))) c.in-Some.is in
    let parts = c.in-Ok.ensures in
    λ ticket fault runs h.
    let one = file_is c.args.bytes.now c.in-Some.file.ticket ticket (fault_of c.in-Some.file.fault) fault c.in-Some.file.schedule.now runs some h in
    (one.0, parts.0 ∙ one.1, parts.1 ∙ one.2)
