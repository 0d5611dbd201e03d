use Rattle.std.proofs.Common.{◌≡◌, drop}
use Rattle.name_tables.specs.Keys.{key_from}
use Rattle.name_tables.proofs.keys.key_behind.Given as goal

abbrev pub invariant-loop-byte : goal.invariant-loop-byte
invariant-loop-byte l = key_from l.key (drop l.byte-index l.text) ≡ key_from l.initial.key l.text
