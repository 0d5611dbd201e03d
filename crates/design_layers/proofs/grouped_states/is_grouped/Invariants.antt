use Rattle.std.proofs.Common.{◌≡◌, drop}
use Rattle.layer_theory.specs.LayerAnswers.{is_grouped as lists_groups}
use Rattle.design_layers.proofs.grouped_states.is_grouped.Given as goal

abbrev pub invariant-loop-met : goal.invariant-loop-met
invariant-loop-met l = lists_groups l.class.exceptions l.all ≡ lists_groups (drop l.met-index l.class.exceptions) l.all
