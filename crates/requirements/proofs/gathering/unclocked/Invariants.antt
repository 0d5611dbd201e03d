use Rattle.std.proofs.Common.{◌≡◌, ◌++◌, drop}
use Rattle.std.specs.Prelude.{filter_map}
use Rattle.requirements.specs.Gathering.{unclocked_pin}
use Rattle.requirements.proofs.gathering.unclocked.Given as goal

abbrev pub invariant-loop-edge : goal.invariant-loop-edge
invariant-loop-edge l = filter_map (unclocked_pin l.reached) l.edges ≡ l.pins.items ++ filter_map (unclocked_pin l.reached) (drop l.edge-index l.edges)
