use Rattle.std.proofs.Common.{◌≡◌, ◌++◌, drop}
use Rattle.bud_design.specs.Names.{printed}
use Rattle.module_nets.proofs.names.put_printed.Given as goal

abbrev pub invariant-loop-byte : goal.invariant-loop-byte
invariant-loop-byte l = l.fn.into.items ++ printed l.name ≡ l.into.items ++ printed (drop l.byte-index l.name)
