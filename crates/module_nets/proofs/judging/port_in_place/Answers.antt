use Rattle.module_nets.proofs.JudgeSteps.{place_none, place_some}
use Rattle.module_nets.proofs.judging.port_in_place.Goals as goal

pub returns-then-ports-k : goal.returns-then-ports-k
returns-then-ports-k c = place_none c.args.ports.now c.args.k c.if-ports-k.true

pub returns : goal.returns
returns c = place_some c.args.ports.now c.args.k c.index-ports-k.result c.if-ports-k.false c.index-ports-k.is
