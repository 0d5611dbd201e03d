use Rattle.std.proofs.Common.{◌≡◌, drop}
use Rattle.std.specs.Str.{bytes_eq}
use Rattle.bud_design.specs.Names.{printed}
use Rattle.module_nets.proofs.names.is_printed_as.Given as goal

abbrev pub invariant-loop-byte : goal.invariant-loop-byte
invariant-loop-byte l = bytes_eq (printed l.identifier) l.name ≡ bytes_eq (printed (drop l.byte-index l.identifier)) l.rest
