use Rattle.clmodel.specs.Next.{next}
use Rattle.launches.proofs.NextLaws.{walk_is_over}
use Rattle.launches.proofs.next_laws.budget_bounds.Goals as goal

pub returns : goal.returns
unfolding next
returns c setup bytes item answers below enough = walk_is_over _ _ answers enough
