use Rattle.std.proofs.Common.{◌≡◌, ◌+◌, ◌≤◌, length, drop}
use Rattle.bud_design.specs.Names.{plain, plain_from}
use Rattle.flat_design.proofs.texts.plain_length.Given as goal

abbrev pub invariant-loop-byte : goal.invariant-loop-byte
invariant-loop-byte l = (l.count + length (plain_from l.escaped (drop l.byte-index l.name)) ≡ length (plain l.name)) × (l.count ≤ l.byte-index)
