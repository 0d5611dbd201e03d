use Rattle.std.proofs.Common.{◌≡◌, drop}
use Rattle.std.specs.List.{position_from}
use Rattle.std.specs.Str.{bytes_eq}
use Rattle.bud_design.specs.Clocks.{clock_called}
use Rattle.bud_design.specs.declared.clocks.Clock.{Clock}
use Rattle.policy_lines.proofs.refusals.is_clock.Given as goal

abbrev pub invariant-loop-clock : goal.invariant-loop-clock
invariant-loop-clock l = clock_called l.clocks l.name ≡ position_from (λ (c : Clock). bytes_eq c.name l.name) l.clock-index (drop l.clock-index l.clocks)
