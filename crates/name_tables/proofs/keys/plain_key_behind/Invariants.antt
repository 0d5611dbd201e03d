use Rattle.std.proofs.Common.{◌≡◌, drop}
use Rattle.bud_design.specs.Names.{plain, plain_from}
use Rattle.name_tables.specs.Keys.{key_from}
use Rattle.name_tables.proofs.keys.plain_key_behind.Given as goal

abbrev pub invariant-loop-byte : goal.invariant-loop-byte
invariant-loop-byte l = key_from l.key (plain_from l.escaped (drop l.byte-index l.name)) ≡ key_from l.initial.key (plain l.name)
