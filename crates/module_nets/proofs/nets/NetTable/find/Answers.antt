use Rattle.std.proofs.Common.{◌∙◌}
use Rattle.module_nets.proofs.nets.NetTable.find.Goals as goal

pub returns : goal.returns
returns c = c.known_near.ensures ∙ c.args.self.now.placed c.args.name.now
