use Rattle.std.proofs.Common.{rules, ◌≡◌, to_z, of_z, w64}
use Rattle.budget_plans.proofs.LaidOut.{of_design}
use Rattle.budget_plans.proofs.Measures.{met_some}
use Rattle.budget_makes.proofs.Mades.{made_violated}
use Rattle.budget_makes.proofs.makes.made.Goals as goal

pub met-requires-in-Meets-clause-met : goal.met-requires-in-Meets-clause-met
met-requires-in-Meets-clause-met c =
    let answer = rw c.in-Meets.is at c.run.ensures.answer in
    let same : to_z w64 (of_z w64 c.in-Meets.slack) ≡ c.in-Meets.slack = search rules in
    rw same (met_some c.args.layout.now c.requires c.in-Meets.slack answer.0 answer.1)

pub violated-requires-clause-drawn : goal.violated-requires-clause-drawn
violated-requires-clause-drawn c = of_design c.args.layout.now c.requires

pub returns : goal.returns
returns c =
    let answer = rw c.in-Violated.is at c.run.ensures.answer in
    made_violated c.args.layout.now c.requires c.in-Violated.slack c.args.gates c.args.registers c.violated.result answer.0 answer.1 c.violated.ensures
