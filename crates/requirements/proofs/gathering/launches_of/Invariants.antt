use Rattle.std.proofs.Common.{◌≡◌, ◌++◌, drop, map}
use Rattle.requirements.specs.Gathering.{launch_of}
use Rattle.requirements.proofs.gathering.launches_of.Given as goal

abbrev pub invariant-loop-delay : goal.invariant-loop-delay
invariant-loop-delay l = map launch_of l.delays ≡ l.launches.items ++ map launch_of (drop l.delay-index l.delays)
