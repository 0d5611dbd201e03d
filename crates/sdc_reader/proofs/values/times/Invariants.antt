use Rattle.std.proofs.Common.{◌≡◌, length}
use Rattle.tcl_words.specs.Lists.{elements}
use Rattle.sdc_reader.specs.Values.{times}
use Rattle.sdc_reader.proofs.TimeLemmas.{with_times}
use Rattle.sdc_reader.proofs.values.times.Given as goal

-- the times so far and those of the elements that are left are those of all elements
abbrev pub invariant-loop-element : goal.invariant-loop-element
invariant-loop-element l = with_times l.times.items (times l.unit l.at (elements l.kind l.rest)) ≡ times l.unit l.at (elements l.kind l.fn.list)

abbrev pub decreases-loop-element : goal.decreases-loop-element
decreases-loop-element l = length l.rest
