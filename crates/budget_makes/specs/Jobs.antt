-- The job `make`: the work of `plan` on the texts of a made design. A text that is refused, or longer than a file may be, is named as its
-- file would be.
use Rattle.std.specs.Prelude.{ℕ}
use Rattle.bud_gen.specs.declared.designs.MadeDesign.{MadeDesign}
use Rattle.budget_steps.specs.declared.outcomes.Answer.{Answer}
use Rattle.budget_steps.specs.Steps.{Course, ◌>>=◌}
use Rattle.budget_makes.specs.OwnFiles.{made_design, own_layout}
use Rattle.budget_makes.specs.Makes.{made}

-- what comes of a design of so many gates
abbrev pub make_of : MadeDesign → ℕ → Course Answer
make_of design gates = do
  l ← own_layout design
  made l gates design.registers

-- `make GATES NUMBER`
abbrev pub make_job : ℕ → ℕ → Course Answer
make_job gates number = make_of (made_design gates number) gates
