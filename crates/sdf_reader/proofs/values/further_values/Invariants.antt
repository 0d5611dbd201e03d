use Rattle.std.proofs.Common.{◌≡◌}
use Rattle.sdf_reader.specs.Lefts.{Follows}
use Rattle.sdf_reader.specs.Found.{found_of}
use Rattle.sdf_reader.specs.Values.{up_to}
use Rattle.sdf_reader.proofs.values.further_values.Given as goal

-- the greatest so far, with the values that are left
abbrev pub invariant-loop-further : goal.invariant-loop-further
invariant-loop-further l = record {
  same : up_to l.further l.unit (found_of l.found) ≡ up_to 11 l.unit (found_of l.first);
  follows : Follows l.first.left l.found.left;
}

abbrev pub decreases-loop-further : goal.decreases-loop-further
decreases-loop-further l = l.further
