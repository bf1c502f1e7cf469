use Rattle.std.proofs.Common.{ap, sym, ◌∙◌}
use Rattle.spaces.specs.Tables.{find}
use Rattle.device.proofs.Kept.{code_acts, code_has_few, code_is_of}
use Rattle.device.proofs.Device.kernel.Goals as goal

pub returns-in-Some-program-clause-faithful : goal.returns-in-Some-program-clause-faithful
returns-in-Some-program-clause-faithful c =
    let device = c.args.self.now in
    code_acts device.programs device.kernels c.args.name.now c.in-Some.compiled.now c.in-Some-program.checked.now device.kept
    (sym c.in-Some.ensures.kept) (sym (c.in-Some-program.ensures.kept ∙ ap (find device.programs) c.program.ensures))

pub returns-in-Some-program-clause-code : goal.returns-in-Some-program-clause-code
returns-in-Some-program-clause-code c =
    let device = c.args.self.now in
    code_is_of device.programs device.kernels c.args.name.now c.in-Some.compiled.now c.in-Some-program.checked.now device.kept
    (sym c.in-Some.ensures.kept) (sym (c.in-Some-program.ensures.kept ∙ ap (find device.programs) c.program.ensures))

pub returns-in-Some-program-clause-few : goal.returns-in-Some-program-clause-few
returns-in-Some-program-clause-few c =
    let device = c.args.self.now in
    code_has_few device.programs device.kernels c.args.name.now c.in-Some.compiled.now device.kept (sym c.in-Some.ensures.kept)
