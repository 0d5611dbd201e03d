use Rattle.std.proofs.Common.{◌≡◌, ◌++◌, drop}
use Rattle.bud_design.specs.Names.{plain, plain_from}
use Rattle.timing_objects.proofs.port_names.plain.Given as goal

abbrev pub invariant-loop-byte : goal.invariant-loop-byte
invariant-loop-byte l = plain l.name ≡ l.text.items ++ plain_from l.escaped (drop l.byte-index l.name)
