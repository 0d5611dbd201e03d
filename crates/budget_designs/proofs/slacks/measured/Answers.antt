use Rattle.std.proofs.Common.{rules, ◌≡◌, to_z, of_z, w64}
use Rattle.budget_designs.proofs.Measures.{layer_none, layer_met}
use Rattle.budget_designs.proofs.slacks.measured.Goals as goal

pub returns-in-NoPaths : goal.returns-in-NoPaths
returns-in-NoPaths c =
    layer_none c.args.layered.now c.args.flat.now c.args.all.now c.in_ok-none-in-NoPaths.none c.in_ok-none-in-NoPaths.ensures (rw c.in-NoPaths.is at c.run.ensures.answer)

pub returns-in-Meets : goal.returns-in-Meets
returns-in-Meets c =
    let answer = rw c.in-Meets.is at c.run.ensures.answer in
    let same : to_z w64 (of_z w64 c.in-Meets.slack) ≡ c.in-Meets.slack = search rules in
    let good = rw same at c.in_ok-good-in-Meets.ensures in
    layer_met c.args.layered.now c.args.flat.now c.args.all.now c.in_ok-good-in-Meets.good c.in-Meets.slack good answer.0 answer.1
