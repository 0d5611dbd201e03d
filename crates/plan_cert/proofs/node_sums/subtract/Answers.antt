use Rattle.std.proofs.Common.{arith}
use Rattle.std.proofs.lemmas.Int.{ints}
use Rattle.plan_cert.proofs.NodeSumLemmas.{number_at-less}
use Rattle.plan_cert.proofs.node_sums.subtract.Goals as goal

pub returns : goal.returns
returns c = number_at-less c.args.sums.now c.args.node _ c.args.number c.requires.node (omega (arith, ints, c.from.ensures))
