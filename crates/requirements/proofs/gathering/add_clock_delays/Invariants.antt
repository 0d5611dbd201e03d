use Rattle.std.proofs.Common.{◌≡◌, ◌++◌, drop}
use Rattle.std.specs.Prelude.{filter_map}
use Rattle.requirements.specs.Gathering.{clock_delay}
use Rattle.requirements.proofs.gathering.add_clock_delays.Given as goal

abbrev pub invariant-loop-edge : goal.invariant-loop-edge
invariant-loop-edge l = l.initial.delays.items ++ filter_map (clock_delay l.reached) l.edges ≡ l.delays.items ++ filter_map (clock_delay l.reached) (drop l.edge-index l.edges)
