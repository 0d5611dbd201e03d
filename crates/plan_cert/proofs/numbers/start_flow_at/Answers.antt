use Rattle.std.proofs.Common.{arith}
use Rattle.std.proofs.lemmas.Grind.{common_steps}
use Rattle.plan_cert.proofs.LineNumbers.{IsPlanNumber-at}
use Rattle.plan_cert.proofs.numbers.start_flow_at.Goals as goal

pub returns-clause-range : goal.returns-clause-range
returns-clause-range c = IsPlanNumber-at c.args.cert.now.starts (λ line. line.flow) c.args.s _ c.requires.numbers.start_flow c.requires.within (grind (arith, common_steps))
