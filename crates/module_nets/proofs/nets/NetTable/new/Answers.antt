use Rattle.std.proofs.Common.{List, subst, ◌∙◌, ap, sym, map, []}
use Rattle.std.specs.List.{flat_map}
use Rattle.bud_syntax.specs.declared.modules.Port.{Port}
use Rattle.bud_syntax.specs.declared.modules.NetDecl.{NetDecl}
use Rattle.bud_syntax.specs.declared.modules.Instance.{Instance}
use Rattle.bud_syntax.specs.declared.modules.Assign.{Assign}
use Rattle.module_nets.specs.Gathering.{Gathers, with_uses, used_by_instance, used_by_assign}
use Rattle.module_nets.specs.Numbers.{Net, net_of, capped}
use Rattle.module_nets.proofs.NetLaws.{port_nets, declared_nets, gathered_module, count-all_bits, count-local_bits}
use Rattle.module_nets.proofs.nets.NetTable.new.Goals as goal

pub invariant_of-result : goal.invariant_of-result
invariant_of-result c =
    let m = c.args.«module».now in
    let P : List Port → Type 0 = λ ps. Gathers (map (λ p. net_of p.name p.range) ps) [] c.put_ports.new.self in
    let ports = subst P c.as_slice.ensures (c.in_ok-put_ports.ensures.ports c.in_ok-nets.ensures.none) in
    let Q : List NetDecl → Type 0 = λ ns. Gathers (port_nets m) (map (λ n. net_of n.name n.range) ns) c.put_nets.new.self in
    let nets = subst Q c.as_slice-2.ensures (c.in_ok-put_nets.ensures.nets (port_nets m) ports) in
    let R : List Instance → Type 0 = λ is. Gathers (port_nets m) (with_uses (port_nets m) (declared_nets m) (flat_map used_by_instance is)) c.put_uses.new.self in
    let uses = subst R c.as_slice-3.ensures (c.in_ok-put_uses.ensures.nets (port_nets m) (declared_nets m) nets) in
    let used : List Net = with_uses (port_nets m) (declared_nets m) (flat_map used_by_instance m.instances) in
    let S : List Assign → Type 0 = λ xs. Gathers (port_nets m) (with_uses (port_nets m) used (flat_map used_by_assign xs)) c.put_uses-2.new.self in
    let all = gathered_module m c.put_uses-2.new.self c.requires (subst S c.as_slice-4.ensures (c.in_ok-put_uses-2.ensures.nets (port_nets m) used uses)) in
    record {
      apart = c.requires;
      placed = all.places;
      named = all.names;
      all = all.bits ∙ ap capped (sym (count-all_bits m c.requires));
      counted = all.local ∙ ap capped (sym (count-local_bits m c.requires));
    }
