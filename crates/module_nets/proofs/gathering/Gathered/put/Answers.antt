use Rattle.std.proofs.Common.{◌≡◌, refl, rules, ◌+◌, ◌++◌, ◌∷◌, [], min}
use Rattle.module_nets.specs.Numbers.{net_of, range_width}
use Rattle.module_nets.proofs.GatherSteps.{gathers_port, names_pushed}
use Rattle.module_nets.proofs.gathering.Gathered.put.Goals as goal

pub returns-clause-ports : goal.returns-clause-ports
returns-clause-ports c = λ ports so_far.
    let sum : c.saturating_add-self.result ≡ min (c.args.self.now.bits + range_width c.args.range) 18446744073709551615 = search rules in
    let pushed : c.push.new.self.items ≡ c.args.self.now.names.items ++ c.args.name ∷ [] = search rules in
    gathers_port ports (net_of c.args.name.now c.args.range) c.args.self.now _ so_far c.in_ok-enter.ensures.entered sum refl (names_pushed c.args.self.now.names.items c.push.new.self.items c.args.name pushed)
