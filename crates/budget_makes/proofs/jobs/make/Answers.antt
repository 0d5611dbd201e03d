use Rattle.std.proofs.Common.{subst}
use Rattle.bud_gen.specs.declared.designs.MadeDesign.{MadeDesign}
use Rattle.budget_steps.specs.Steps.{Follows}
use Rattle.budget_makes.specs.Jobs.{make_of}
use Rattle.budget_makes.proofs.jobs.make.Goals as goal

pub returns : goal.returns
returns c = subst (λ (d : MadeDesign). Follows (make_of d c.args.gates) c.make_of.result) c.in_ok-design.ensures c.make_of.ensures
