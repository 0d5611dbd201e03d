use Rattle.std.proofs.Common.{◌≡◌, ◌++◌, drop}
use Rattle.plan_report.specs.Summaries.{pin_lines}
use Rattle.plan_report.proofs.summaries.put_pins.Given as goal

abbrev pub invariant-loop-pin : goal.invariant-loop-pin
invariant-loop-pin l = l.fn.out.items ++ pin_lines l.flat l.pins ≡ l.out.items ++ pin_lines l.flat (drop l.pin-index l.pins)
