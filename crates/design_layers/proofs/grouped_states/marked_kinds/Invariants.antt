use Rattle.std.proofs.Common.{◌≡◌, ◌++◌, drop, map}
use Rattle.bud_design.specs.declared.layers.Class.{Class}
use Rattle.layer_theory.specs.LayerAnswers.{is_grouped as lists_groups}
use Rattle.design_layers.proofs.grouped_states.marked_kinds.Given as goal

abbrev pub invariant-loop-kind : goal.invariant-loop-kind
invariant-loop-kind l = map (λ (k : Class). lists_groups k.exceptions l.all) l.kinds ≡ l.marks.items ++ map (λ (k : Class). lists_groups k.exceptions l.all) (drop l.kind-index l.kinds)
