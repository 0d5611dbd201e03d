use Rattle.std.proofs.Common.{◌≡◌, ◌++◌, drop, map}
use Rattle.requirements.specs.Gathering.{capture_of}
use Rattle.requirements.proofs.gathering.captures_of.Given as goal

abbrev pub invariant-loop-delay : goal.invariant-loop-delay
invariant-loop-delay l = map capture_of l.delays ≡ l.captures.items ++ map capture_of (drop l.delay-index l.delays)
