use Rattle.cert_text.specs.Certs.{plan_in}
use Rattle.plan_cert.specs.NodeSums.{AreSums, inflow_sum}
use Rattle.plan_cert.proofs.node_sums.add_starts.Given as goal

abbrev pub invariant-loop-s : goal.invariant-loop-s
invariant-loop-s l = AreSums l.fn.problem.nodes l.sums (inflow_sum l.fn.problem (plan_in l.fn.cert) l.s)
