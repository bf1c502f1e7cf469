use Rattle.std.proofs.Common.{◌≡◌, drop}
use Rattle.written_scripts.specs.Telling.{text_at}
use Rattle.written_scripts.proofs.files.text_at.Given as goal

abbrev pub invariant-loop-file : goal.invariant-loop-file
invariant-loop-file l = text_at (drop l.file-index l.files) l.path ≡ text_at l.files l.path
