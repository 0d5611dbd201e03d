use Rattle.cert_text.specs.Certs.{plan_in}
use Rattle.plan_cert.proofs.NodeSumLemmas.{IsFailure-kept}
use Rattle.plan_cert.proofs.node_sums.first_unkept.Goals as goal

pub returns : goal.returns
returns c =
    IsFailure-kept c.args.problem.now (plan_in c.args.cert.now) c.subtract_ends.new.sums c.first_other.result c.subtract_ends.ensures c.first_other.ensures
