use Rattle.std.proofs.Common.{List, map, reverse, vec_len}
use Rattle.std.specs.List.{AllByRecursion}
use Rattle.sdc_reader.specs.Brackets.{Forest, opened}
use Rattle.sdc_reader.specs.Files.{file, OpenAll, GoesOn}
use Rattle.sdc_reader.specs.Rooms.{HaveRoom}
use Rattle.sdc_reader.specs.declared.given.TimeUnit.TheVariants.{Nanoseconds}
use Rattle.sdc_reader.proofs.reader.read_all.Given as goal

-- the commands that are left go on from here
abbrev pub invariant-loop-words : goal.invariant-loop-words
invariant-loop-words l = record {
  goes_on : (fs : List Forest) → OpenAll l.fn.commands.items fs → GoesOn l.progress (reverse l.left.items) (file Nanoseconds (map opened fs));
  room : AllByRecursion HaveRoom l.left.items;
}

abbrev pub decreases-loop-words : goal.decreases-loop-words
decreases-loop-words l = vec_len l.left
