use Rattle.std.proofs.Common.{◌∙◌, arith}
use Rattle.net_drivers.proofs.AppendLaws.{put-next, range-falls}
use Rattle.net_drivers.proofs.numbers.put_falling.Goals as goal

pub loop-n-preserved : goal.loop-n-preserved
loop-n-preserved c = record {
  order = omega arith;
  small = omega arith;
  rest = put-next _ _ _ _ _ (range-falls _ _ c.loop-n-test.true) c.in_ok-push.ensures.items ∙ c.loop-n.invariant.rest;
}
