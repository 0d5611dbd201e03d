use Rattle.std.proofs.Common.{rules}
use Rattle.plan_cert.proofs.TotalLemmas.{IsProduct-of}
use Rattle.plan_report.proofs.weights.product.Goals as goal

pub returns-clause-range : goal.returns-clause-range
returns-clause-range c = IsProduct-of c.args.left c.args.right _ c.requires.left c.requires.right (search rules)
