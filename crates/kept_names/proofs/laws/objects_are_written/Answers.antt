use Rattle.kept_names.proofs.Objects.{objects_written, clock_kept, clock_numbered}
use Rattle.kept_names.proofs.laws.objects_are_written.Goals as goal

pub returns : goal.returns
returns c = record { objects = objects_written; clocks = clock_kept; numbered = clock_numbered }
