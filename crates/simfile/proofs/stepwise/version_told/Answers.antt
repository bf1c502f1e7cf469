use Rattle.std.proofs.Common.{◌≡◌, rules}
use Rattle.simfile.specs.declared.lines.Version.TheVariants as version
use Rattle.simfile.specs.Script.{head}
use Rattle.simfile.proofs.VersionLines.{only_two, only_three, neither}
use Rattle.simfile.proofs.stepwise.version_told.Goals as goal

pub returns-then-is_version_two-clause-only : goal.returns-then-is_version_two-clause-only
returns-then-is_version_two-clause-only c =
    let two : c.args.line.now ≡ head version.Two = search rules in
    only_two c.args.line.now two

pub returns-then-is_version_three-clause-only : goal.returns-then-is_version_three-clause-only
returns-then-is_version_three-clause-only c =
    let three : c.args.line.now ≡ head version.Three = search rules in
    only_three c.args.line.now three

pub returns-clause-only : goal.returns-clause-only
returns-clause-only c = neither c.args.line.now (search rules) (search rules)
