use Rattle.joining.proofs.Steps as steps
use Rattle.joining.proofs.join_reports.Goals as goal

pub returns : goal.returns
returns c = steps.join_reports
