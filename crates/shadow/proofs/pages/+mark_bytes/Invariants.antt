use Rattle.shadow.proofs.pages.+mark_bytes.Given as goal

abbrev pub decreases-mark_bytes : goal.decreases-mark_bytes
decreases-mark_bytes l = l.count
