use Rattle.std.proofs.Common.{◌≡◌, length}
use Rattle.state_numbers.proofs.FirstSteps.{AreFirsts}
use Rattle.state_numbers.proofs.firsts.first_launches.Given as goal

abbrev pub invariant-loop-place : goal.invariant-loop-place
invariant-loop-place l = (length l.firsts.items ≡ l.kinds) × AreFirsts l.states l.launches l.live l.kinds l.place l.firsts.items
