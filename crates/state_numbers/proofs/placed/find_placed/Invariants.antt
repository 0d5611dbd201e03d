use Rattle.std.proofs.Common.{◌-◌}
use Rattle.state_numbers.proofs.Searching.{IsSearched}
use Rattle.state_numbers.proofs.placed.find_placed.Given as goal

abbrev pub invariant-loop-low : goal.invariant-loop-low
invariant-loop-low l = IsSearched l.list l.«class» l.number l.low l.high

abbrev pub decreases-loop-low : goal.decreases-loop-low
decreases-loop-low l = l.high - l.low
