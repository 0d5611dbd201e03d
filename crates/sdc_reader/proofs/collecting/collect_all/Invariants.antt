use Rattle.std.proofs.Common.{◌≡◌, drop}
use Rattle.sdc_reader.specs.Collecting.{nothing_given, complete, collected_all}
use Rattle.sdc_reader.proofs.collecting.collect_all.Given as goal

-- what is left goes on from here to what all the words give
abbrev pub invariant-loop-opened : goal.invariant-loop-opened
invariant-loop-opened l = collected_all l.setting l.so_far (drop l.opened-index l.words) ≡ collected_all l.setting (complete nothing_given) l.words
