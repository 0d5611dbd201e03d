use Rattle.std.proofs.Common.{map, take}
use Rattle.text_tables.specs.Standings.{IsOf}
use Rattle.timing_objects.proofs.port_tables.printed_table.Given as goal

abbrev pub invariant-loop-place : goal.invariant-loop-place
invariant-loop-place l = IsOf (map (λ n. n.printed) (take l.place l.names)) l.table
