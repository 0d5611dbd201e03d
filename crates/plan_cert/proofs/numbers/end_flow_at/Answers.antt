use Rattle.std.proofs.Common.{arith}
use Rattle.std.proofs.lemmas.Grind.{common_steps}
use Rattle.plan_cert.proofs.LineNumbers.{IsPlanNumber-at}
use Rattle.plan_cert.proofs.numbers.end_flow_at.Goals as goal

pub returns-clause-range : goal.returns-clause-range
returns-clause-range c = IsPlanNumber-at c.args.cert.now.ends (λ line. line.flow) c.args.e _ c.requires.numbers.end_flow c.requires.within (grind (arith, common_steps))
