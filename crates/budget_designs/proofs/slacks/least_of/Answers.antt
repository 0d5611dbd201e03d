use Rattle.std.proofs.Common.{length}
use Rattle.budget_designs.specs.Designs.{view_of}
use Rattle.budget_designs.proofs.Measures.{least_follows, least_refused}
use Rattle.budget_designs.proofs.slacks.least_of.Goals as goal

pub returns-in-Ok : goal.returns-in-Ok
returns-in-Ok c =
    let w = view_of c.args.flat.now c.args.graph.now.arcs c.args.all.now in
    let answer = rw c.in-Ok.is at c.layer_without_policy.ensures.answer in
    let paths = rw c.in-Ok.is at c.layer_without_policy.ensures.paths in
    let slack = rw c.in-Ok.is at c.layer_without_policy.ensures.slack in
    least_follows w (length c.args.flat.now.pins) c.in-Ok.layered c.measured.result c.requires.constraints answer paths slack c.measured.ensures

pub returns-in-Err : goal.returns-in-Err
returns-in-Err c =
    let w = view_of c.args.flat.now c.args.graph.now.arcs c.args.all.now in
    let answer = rw c.in-Err.is at c.layer_without_policy.ensures.answer in
    least_refused w c.in-Err.fault c.refused_by.result answer c.refused_by.ensures
