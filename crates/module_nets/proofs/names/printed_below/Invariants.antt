use Rattle.std.proofs.Common.{◌≡◌, ◌++◌, drop}
use Rattle.module_nets.specs.Paths.{printed_below}
use Rattle.module_nets.proofs.names.printed_below.Given as goal

abbrev pub invariant-loop-part : goal.invariant-loop-part
invariant-loop-part l = printed_below l.path l.name ≡ l.text.items ++ printed_below (drop l.part-index l.path) l.name
