use Rattle.cert_text.specs.Certs.{plan_in}
use Rattle.plan_cert.specs.NodeSums.{AreSums, excess_sum}
use Rattle.plan_cert.proofs.node_sums.subtract_ends.Given as goal

abbrev pub invariant-loop-e : goal.invariant-loop-e
invariant-loop-e l = AreSums l.fn.problem.nodes l.sums (excess_sum l.fn.problem (plan_in l.fn.cert) l.e)
