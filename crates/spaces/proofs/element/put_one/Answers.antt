use Rattle.spaces.proofs.Puts.{put_byte}
use Rattle.spaces.proofs.element.put_one.Goals as goal

pub returns-clause-bytes : goal.returns-clause-bytes
returns-clause-bytes c byte = put_byte c.args.row.now c.args.at c.args.value c.requires byte
