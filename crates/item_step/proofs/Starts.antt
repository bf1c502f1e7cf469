-- An item before its first action: what it is given, and what it does.
use Rattle.std.proofs.Common.{◌≡◌, ℕ, List, length, ap, ap₂, ◌∙◌}
use Rattle.clmodel.specs.Next.{next, here_of}
use Rattle.clmodel.specs.declared.action.Answer.{Answer}
use Rattle.item_step.specs.Launches.{given_to, setup_of}
use Rattle.item_step.specs.declared.launch.Launch.{Launch}
use Rattle.item_step.specs.Running.{Running, action_of}
use Rattle.regcode.specs.Machine.{ItemContext, acts, acts_from, at_start}
use Rattle.regcode.specs.declared.tables.Register.{Register}

abbrev given_with : Launch → ℕ → List (List ℕ) → List Register → ItemContext
given_with launch number buffers registers =
    record { here = here_of (setup_of launch) number; buffers = buffers; arguments = launch.setup.arguments.now; registers = registers }

-- it is given what the launch says
pub given_as_said : (launch : Launch) (number : ℕ) (buffers : List (List ℕ)) (registers : List Register) → buffers ≡ launch.buffers.items → registers ≡ launch.code.now.registers
    → given_with launch number buffers registers ≡ given_to launch number
given_as_said launch number buffers registers named tabled = ap₂ (given_with launch number) (named ∙ launch.named) tabled

-- it acts as comes next
pub acts_as_next : (launch : Launch) (number : ℕ) (buffers : List (List ℕ)) (registers : List Register) (item : Running) → buffers ≡ launch.buffers.items → registers ≡ launch.code.now.registers
    → item ≡ record { code = launch.code.now; given = given_with launch number buffers registers; state = at_start (length launch.code.now.registers) (length launch.code.now.arrays); ticks = launch.setup.budget }
    → (answers : List Answer) → action_of item answers ≡ next (setup_of launch) number answers
unfolding acts
acts_as_next launch number buffers registers item named tabled is answers =
    ap (λ i. action_of i answers) is
    ∙ ap (λ table. acts_from (given_with launch number buffers table) launch.code.now.instructions launch.setup.budget (at_start (length launch.code.now.registers) (length launch.code.now.arrays)) answers)
    tabled
    ∙ ap (λ names. acts_from (given_with launch number names launch.code.now.registers) launch.code.now.instructions launch.setup.budget (at_start (length launch.code.now.registers) (length launch.code.now.arrays)) answers)
    (named ∙ launch.named)
    ∙ launch.faithful number answers
