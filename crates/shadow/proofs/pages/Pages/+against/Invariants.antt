use Rattle.shadow.proofs.pages.Pages.+against.Given as goal

abbrev pub decreases-against : goal.decreases-against
decreases-against l = l.count
