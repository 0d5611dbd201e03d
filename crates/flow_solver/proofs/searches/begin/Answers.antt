use Rattle.flow_solver.proofs.Seeds.{IsSeeded-reached, room-reached}
use Rattle.flow_solver.proofs.searches.begin.Goals as goal

pub returns-clause-seeded : goal.returns-clause-seeded
returns-clause-seeded c = IsSeeded-reached c.args.front.now c.restart.new.self c.reach.new.self c.args.node.0 c.requires c.restart.ensures c.reach.ensures

pub returns-clause-room : goal.returns-clause-room
returns-clause-room c = room-reached c.args.front.now c.restart.new.self c.reach.new.self c.args.node.0 c.restart.ensures c.reach.ensures
