use Rattle.std.proofs.Common.{◌≡◌, drop, not}
use Rattle.std.specs.List.{position_from}
use Rattle.bud_base.specs.Soundness.{is_bounded}
use Rattle.bud_base.proofs.ranges.bad_bounds.Given as goal

abbrev pub invariant-loop-i : goal.invariant-loop-i
invariant-loop-i l = position_from (λ x. not (is_bounded x)) 0 l.items ≡ position_from (λ x. not (is_bounded x)) l.i (drop l.i l.items)
