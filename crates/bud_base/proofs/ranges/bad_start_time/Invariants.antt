use Rattle.std.proofs.Common.{◌≡◌, drop, find, not}
use Rattle.bud_base.specs.Soundness.{is_time}
use Rattle.bud_base.proofs.ranges.bad_start_time.Given as goal

abbrev pub invariant-loop-start : goal.invariant-loop-start
invariant-loop-start l = find (λ x. not (is_time x.offset)) l.starts ≡ find (λ x. not (is_time x.offset)) (drop l.start-index l.starts)
