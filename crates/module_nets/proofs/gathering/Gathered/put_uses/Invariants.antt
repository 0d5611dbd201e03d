use Rattle.std.proofs.Common.{List, take}
use Rattle.std.specs.List.{flat_map}
use Rattle.module_nets.specs.Gathering.{Gathers, with_uses}
use Rattle.module_nets.specs.Numbers.{Net}
use Rattle.module_nets.proofs.gathering.Gathered.put_uses.Given as goal

abbrev pub invariant-loop-item : goal.invariant-loop-item
invariant-loop-item g l = (ports nets : List Net) → Gathers ports nets l.fn.self
    → Gathers ports (with_uses ports nets (flat_map g.T.NetUse.names_of (take l.item-index l.items))) l.self
