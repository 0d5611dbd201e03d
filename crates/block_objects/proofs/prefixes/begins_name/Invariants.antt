use Rattle.std.proofs.Common.{◌≡◌, drop}
use Rattle.std.specs.List.{list_any}
use Rattle.block_theory.specs.BlockClocks.{begins_with}
use Rattle.block_objects.proofs.prefixes.begins_name.Given as goal

-- a name among those that are left begins so where one among all does
abbrev pub invariant-loop-clock : goal.invariant-loop-clock
invariant-loop-clock l = list_any (λ c. begins_with l.front c.name) l.clocks ≡ list_any (λ c. begins_with l.front c.name) (drop l.clock-index l.clocks)
