use Rattle.std.proofs.Common.{◌^◌}
use Rattle.net_drivers.specs.Chains.{IsFollowed}
use Rattle.net_drivers.proofs.chains.follow.Given as goal

abbrev pub invariant-loop-round : goal.invariant-loop-round
invariant-loop-round l = IsFollowed (2 ^ l._round) l.next l.far.items
