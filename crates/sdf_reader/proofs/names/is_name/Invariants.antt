use Rattle.std.proofs.Common.{◌≡◌, drop, Some}
use Rattle.sdf_reader.specs.Names.{ends_name, is_name}
use Rattle.sdf_reader.proofs.names.is_name.Given as goal

-- the bytes that are left decide
abbrev pub invariant-loop-byte : goal.invariant-loop-byte
invariant-loop-byte l = ends_name l.divider (Some l.place) (drop l.byte-index l.bytes) ≡ is_name l.divider l.bytes
