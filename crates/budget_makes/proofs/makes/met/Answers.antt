use Rattle.budget_plans.specs.Layouts.{laid_of}
use Rattle.budget_makes.proofs.Mades.{made_done}
use Rattle.budget_makes.proofs.makes.met.Goals as goal

pub returns : goal.returns
returns c =
    rw c.done.ensures (made_done (laid_of c.args.layout.now) c.args.gates c.args.registers c.args.slack c.in_ok-plan.plan c.in_ok-text.text c.requires.met c.in_ok-plan.ensures c.in_ok-text.ensures)
