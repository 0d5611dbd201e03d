use Rattle.std.proofs.Common.{◌≡◌, drop}
use Rattle.std.specs.List.{list_any}
use Rattle.bud_design.specs.Policies.{has_line_clock}
use Rattle.design_layers.proofs.weights.version_of.Given as goal

abbrev pub invariant-loop-line : goal.invariant-loop-line
invariant-loop-line l = list_any has_line_clock l.policy.lines ≡ list_any has_line_clock (drop l.line-index l.policy.lines)
