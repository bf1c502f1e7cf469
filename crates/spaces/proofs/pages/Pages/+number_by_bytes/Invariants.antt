use Rattle.spaces.proofs.pages.Pages.+number_by_bytes.Given as goal

abbrev pub decreases-number_by_bytes : goal.decreases-number_by_bytes
decreases-number_by_bytes l = l.count
