use Rattle.std.proofs.Common.{◌≡◌, ◌+◌, ◌*◌, take}
use Rattle.clmodel.specs.Next.{all_sites}
use Rattle.lower_code.specs.Trees.{all_of}
use Rattle.lower_code.specs.Emission.{inside}
use Rattle.lower.proofs.sites.+sites.Given as goal

abbrev pub decreases-sites : goal.decreases-sites
decreases-sites l = 2 * goal.size-sites l + 1

abbrev pub decreases-sites_in_all : goal.decreases-sites_in_all
decreases-sites_in_all l = 2 * goal.size-sites_in_all l + 2

abbrev pub invariant-sites_in_all-loop-i : goal.invariant-sites_in_all-loop-i
invariant-sites_in_all-loop-i l = l.all ≡ all_sites (inside l.helpers.functions.now) (all_of (take l.i l.statements))
