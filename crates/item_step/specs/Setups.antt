-- What a launch runs, as plain data, and the code that may run it (own).
use Rattle.std.specs.Prelude.{◌≡◌, ℕ, List}
use Rattle.clmodel.specs.Next.{next}
use Rattle.clmodel.specs.Setup as model
use Rattle.clmodel.specs.Tree.{program}
use Rattle.clmodel.specs.declared.action.Answer.{Answer}
use Rattle.item_step.specs.declared.setup.Setup.{Setup}
use Rattle.regcode.specs.Listing.{Listing}
use Rattle.regcode.specs.Machine.{acts}

abbrev pub plain : Setup → model.Setup
plain setup =
    record {
      program = program setup.tree.now;
      kernel = setup.kernel;
      range = setup.range.now;
      arguments = setup.arguments.now;
      budget = setup.budget;
    }

-- for each item and list of answers, code makes the action that comes next in the kernel's text
abbrev pub ActsAsNext : Listing → model.Setup → Type 0
ActsAsNext code setup = (item : ℕ) (answers : List Answer) → acts code setup item answers ≡ next setup item answers
