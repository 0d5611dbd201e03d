use Rattle.std.proofs.Common.{◌≡◌, ◌-◌}
use Rattle.std.specs.List.{list_any, range_with_len}
use Rattle.bud_design.specs.Arcs.{is_clocked}
use Rattle.timing_objects.specs.Objects.{is_register_place}
use Rattle.timing_objects.proofs.scenes.Scene.is_register.Given as goal

abbrev pub invariant-loop-number : goal.invariant-loop-number
invariant-loop-number l = is_register_place l.self l.place ≡ list_any (is_clocked l.self.timing) (range_with_len l.number (l.number-end - l.number))
