use Rattle.std.proofs.Common.{◌≡◌, drop, ◌++◌}
use Rattle.sdf_reader.specs.Names.{printed_from, printed}
use Rattle.sdf_reader.proofs.names.printed.Given as goal

-- what is put, and the bytes that are left in printed form
abbrev pub invariant-loop-byte : goal.invariant-loop-byte
invariant-loop-byte l = l.out.items ++ printed_from l.divider l.escape (drop l.byte-index l.bytes) ≡ printed l.divider l.bytes
