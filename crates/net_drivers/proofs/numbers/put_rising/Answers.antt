use Rattle.std.proofs.Common.{◌∙◌}
use Rattle.net_drivers.proofs.AppendLaws.{put-next, range-next}
use Rattle.net_drivers.proofs.numbers.put_rising.Goals as goal

pub loop-n-preserved : goal.loop-n-preserved
loop-n-preserved c = put-next _ _ _ _ _ (range-next _ _ c.loop-n-test.true) c.in_ok-push.ensures.items ∙ c.loop-n.invariant
