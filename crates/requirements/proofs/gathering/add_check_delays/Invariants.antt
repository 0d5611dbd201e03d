use Rattle.std.proofs.Common.{◌≡◌, ◌++◌, drop}
use Rattle.std.specs.Prelude.{filter_map}
use Rattle.requirements.specs.Gathering.{check_delay}
use Rattle.requirements.proofs.gathering.add_check_delays.Given as goal

abbrev pub invariant-loop-check : goal.invariant-loop-check
invariant-loop-check l = l.initial.delays.items ++ filter_map (check_delay l.reached) l.checks ≡ l.delays.items ++ filter_map (check_delay l.reached) (drop l.check-index l.checks)
