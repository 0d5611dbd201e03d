use Rattle.std.proofs.Common.{◌≡◌, drop}
use Rattle.std.specs.Str.{bytes_eq}
use Rattle.bud_design.specs.Names.{plain, plain_from}
use Rattle.delay_bind.proofs.names.is_plain.Given as goal

abbrev pub invariant-loop-byte : goal.invariant-loop-byte
invariant-loop-byte l = bytes_eq (plain_from l.escaped (drop l.byte-index l.printed)) l.rest ≡ bytes_eq (plain l.printed) l.name
