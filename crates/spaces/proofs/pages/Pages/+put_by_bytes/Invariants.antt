use Rattle.spaces.proofs.pages.Pages.+put_by_bytes.Given as goal

abbrev pub decreases-put_by_bytes : goal.decreases-put_by_bytes
decreases-put_by_bytes l = l.count
