use Rattle.std.proofs.Common.{◌≡◌, rules, ◌++◌, ◌∷◌, [], None}
use Rattle.module_nets.specs.Numbers.{net_of}
use Rattle.module_nets.proofs.GatherSteps.{gathers_net, names_pushed}
use Rattle.module_nets.proofs.gathering.Gathered.put_new.Goals as goal

pub returns-clause-nets : goal.returns-clause-nets
returns-clause-nets c = λ ports nets so_far.
    let pushed : c.push.new.self.items ≡ c.args.self.now.names.items ++ c.args.name ∷ [] = search rules in
    gathers_net ports nets (net_of c.args.name.now None) c.args.self.now _ so_far c.in_ok-enter_new.ensures.entered c.saturating_add-self.ensures c.saturating_add-self-2.ensures
    (names_pushed c.args.self.now.names.items c.push.new.self.items c.args.name pushed)
