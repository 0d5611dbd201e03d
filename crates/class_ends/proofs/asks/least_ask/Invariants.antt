use Rattle.std.proofs.Common.{map}
use Rattle.bud_base.proofs.Trials.{rest_of}
use Rattle.bud_design.specs.Exceptions.{class_requirement}
use Rattle.class_ends.specs.Asks.{capture_item}
use Rattle.class_ends.proofs.AskSteps.{IsAsking}
use Rattle.class_ends.proofs.asks.least_ask.Given as goal

abbrev pub invariant-loop-next : goal.invariant-loop-next
invariant-loop-next l = IsAsking l.all.captures l.fn.pin.0 (class_requirement l.all l.«class») l.next l.least

abbrev pub decreases-loop-next : goal.decreases-loop-next
decreases-loop-next l = rest_of (map capture_item l.all.captures) l.next
