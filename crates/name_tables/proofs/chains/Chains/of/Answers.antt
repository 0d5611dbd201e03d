use Rattle.name_tables.proofs.ChainLaws.{chained-step}
use Rattle.name_tables.proofs.chains.Chains.of.Goals as goal

pub loop-number-preserved : goal.loop-number-preserved
loop-number-preserved c =
    chained-step c.args.keys.now c.args.low c.loop-number.number c.loop-number.chains c.lead.new.self c.loop-number-test.true c.loop-number.invariant.0 c.loop-number.invariant.2
    c.in_ok-lead.ensures.next c.in_ok-lead.ensures.first
