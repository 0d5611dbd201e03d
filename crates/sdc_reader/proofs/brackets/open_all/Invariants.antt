use Rattle.std.proofs.Common.{reverse, vec_len}
use Rattle.std.specs.List.{AllByRecursion}
use Rattle.sdc_reader.specs.Brackets.{Forest, Opens, opened}
use Rattle.sdc_reader.specs.Rooms.{HasRoom, AreLeft}
use Rattle.sdc_reader.proofs.brackets.open_all.Given as goal

-- the words that are pending are opened behind those that are done
abbrev pub invariant-loop-word : goal.invariant-loop-word
invariant-loop-word l = record {
  goes_on : (f : Forest) → Opens l.fn.words f → AreLeft l.done.items (reverse l.pending.items) (opened f);
  room : AllByRecursion HasRoom l.pending.items;
}

abbrev pub decreases-loop-word : goal.decreases-loop-word
decreases-loop-word l = vec_len l.pending
