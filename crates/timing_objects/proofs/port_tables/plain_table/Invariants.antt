use Rattle.std.proofs.Common.{map, take}
use Rattle.text_tables.specs.Standings.{IsOf}
use Rattle.timing_objects.proofs.port_tables.plain_table.Given as goal

abbrev pub invariant-loop-place : goal.invariant-loop-place
invariant-loop-place l = IsOf (map (λ n. n.plain) (take l.place l.names)) l.table
