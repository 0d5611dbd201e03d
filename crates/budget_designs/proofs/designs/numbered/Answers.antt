use Rattle.budget_designs.proofs.Numbers.{resolvable_list}
use Rattle.budget_designs.proofs.designs.numbered.Goals as goal

pub returns-clause-resolvable : goal.returns-clause-resolvable
returns-clause-resolvable c = resolvable_list c.args.commands c.numbers.result c.requires c.numbers.ensures.numbered c.numbers.ensures.few
