use Rattle.std.proofs.Common.{ℕ, ◌<◌, get_or}
use Rattle.bud_design.specs.Clocks.{IsSoundClock}
use Rattle.bud_design.specs.declared.clocks.Clock.{Clock}
use Rattle.path_requirements.proofs.tests.assert_all_sound.Given as goal

abbrev pub invariant-loop-clock : goal.invariant-loop-clock
invariant-loop-clock g l = (k : ℕ) (d : Clock) → k < l.clock-index → IsSoundClock (get_or l.clocks k d)
