use Rattle.std.proofs.Common.{arith}
use Rattle.std.proofs.lemmas.Grind.{common_steps}
use Rattle.plan_cert.proofs.LineNumbers.{IsPlanNumber-at}
use Rattle.plan_cert.proofs.numbers.arrival_at.Goals as goal

pub returns-clause-range : goal.returns-clause-range
returns-clause-range c = IsPlanNumber-at c.args.cert.now.nodes (λ line. line.arrival) c.args.k _ c.requires.numbers.arrivals c.requires.within (grind (arith, common_steps))
