use Rattle.module_nets.proofs.BitLaws.{in_rising, in_falling}
use Rattle.module_nets.proofs.nets.bit_in.Goals as goal

pub returns-then-range : goal.returns-then-range
returns-then-range c = in_rising c.args.range c.in-Some.range c.args.place c.in-Some.is c.if-range.true c.requires

pub returns-else-range : goal.returns-else-range
returns-else-range c = in_falling c.args.range c.in-Some.range c.args.place c.in-Some.is c.if-range.false c.requires
