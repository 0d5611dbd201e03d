use Rattle.std.proofs.Common.{reverse}
use Rattle.std.specs.List.{AllByRecursion}
use Rattle.sdc_reader.specs.Brackets.{Forest, Opens, listed}
use Rattle.sdc_reader.specs.Rooms.{HasRoom, weights, IsLeft}
use Rattle.sdc_reader.proofs.brackets.listed.Given as goal

-- what the pending words find goes on from here
abbrev pub invariant-loop-word : goal.invariant-loop-word
invariant-loop-word l = record {
  goes_on : (f : Forest) → Opens l.fn.words.items f → IsLeft l.found.items (reverse l.pending.items) (listed f);
  room : AllByRecursion HasRoom l.pending.items;
}

abbrev pub decreases-loop-word : goal.decreases-loop-word
decreases-loop-word l = weights l.pending.items
