use Rattle.std.proofs.Common.{◌≡◌, drop, find, not}
use Rattle.bud_base.specs.Soundness.{is_time}
use Rattle.bud_base.proofs.ranges.bad_end_time.Given as goal

abbrev pub invariant-loop-end : goal.invariant-loop-end
invariant-loop-end l = find (λ x. not (is_time x.require)) l.ends ≡ find (λ x. not (is_time x.require)) (drop l.end-index l.ends)
