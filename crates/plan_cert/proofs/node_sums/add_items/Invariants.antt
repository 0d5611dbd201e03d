use Rattle.cert_text.specs.Certs.{plan_in}
use Rattle.plan_cert.specs.NodeSums.{AreSums, items_sum}
use Rattle.plan_cert.proofs.node_sums.add_items.Given as goal

abbrev pub invariant-loop-i : goal.invariant-loop-i
invariant-loop-i l = AreSums l.fn.problem.nodes l.sums (items_sum l.fn.problem (plan_in l.fn.cert) l.i)
