-- The code of a launch, and the origins of its instructions.
use Rattle.std.proofs.Common.{is_some, map, ap, subst, sym, ◌∙◌, arith}
use Rattle.std.proofs.Math.Logic.{∥∥₁_elim}
use Rattle.std.proofs.lemmas.Option.{same_Some}
use Rattle.clmodel.specs.Tree.{Func}
use Rattle.device.specs.Kept.{IsCodeOf, RenamedCode}
use Rattle.explain_items.specs.Marked.{CodeIsMarked, CodeIsMarked-prop, origins_of}
use Rattle.explain_items.proofs.Renaming.{marks_renamed}
use Rattle.item_step.specs.Launches.{code_of, setup_of}
use Rattle.item_step.specs.declared.launch.Launch.{Launch}
use Rattle.origins.specs.Marks.{KernelsMarked, Marks}
use Rattle.regcode.specs.Listing.{Listing}
use Rattle.renumbering.specs.Renamed.{renamed}

pub marked : (launch : Launch) → KernelsMarked → IsCodeOf (setup_of launch).program (setup_of launch).kernel (code_of launch) → CodeIsMarked launch
marked launch law code = ∥∥₁_elim code (CodeIsMarked-prop launch) of
  where
    of : RenamedCode (setup_of launch).program (setup_of launch).kernel (code_of launch) → CodeIsMarked launch
    of r = record {
      there = ap is_some r.lists.there;
      marks =
          λ kernel e.
          subst (λ (f : Func). Marks (origins_of launch f) (code_of launch).instructions) (same_Some r.lists.function kernel (sym r.lists.there ∙ e))
          (subst (λ is. Marks (origins_of launch r.lists.function) is)
          (sym (r.renumbered.renamed.1 ∙ ap (λ (c : Listing). map (renamed r.renumbered.renamed.0) c.instructions) r.lists.same))
          (marks_renamed r.renumbered.renamed.0 (origins_of launch r.lists.function) _ (law _ r.lists.function)));
      few = let short = r.short in omega (arith, short);
    }
