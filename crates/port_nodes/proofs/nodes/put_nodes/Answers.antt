use Rattle.std.proofs.Common.{◌-◌, ◌<◌, ℕ, List, length, sym, subst, arith}
use Rattle.name_tables.specs.Chained.{first_of}
use Rattle.port_nodes.proofs.Chaining.{ArePut, put-first, put-next}
use Rattle.port_nodes.proofs.nodes.put_nodes.Goals as goal

pub loop-node-init : goal.loop-node-init
loop-node-init c = put-first c.args.layered.now c.args.pin.0 c.args.chains.now c.args.out.now.items c.first-node.result (first_of c.args.chains.now) c.requires c.first-node.ensures c.requires.first

pub loop-node-smaller : goal.loop-node-smaller
loop-node-smaller c =
    let below : c.loop-node.node < length c.args.layered.now.nodes = omega (arith, c.loop-node-test.true, c.len-count.ensures) in
    let on = put-next c.args.layered.now c.args.pin.0 c.args.chains.now c.args.out.now.items c.loop-node.out.items c.loop-node.node c.next-node.result c.requires below c.next-node.ensures c.loop-node.invariant in
    let less : length c.args.layered.now.nodes - c.next-node.result < length c.args.layered.now.nodes - c.loop-node.node = omega (arith, below, on.0) in
    less

pub loop-node-preserved : goal.loop-node-preserved
loop-node-preserved c =
    let below : c.loop-node.node < length c.args.layered.now.nodes = omega (arith, c.loop-node-test.true, c.len-count.ensures) in
    let on = put-next c.args.layered.now c.args.pin.0 c.args.chains.now c.args.out.now.items c.loop-node.out.items c.loop-node.node c.next-node.result c.requires below c.next-node.ensures c.loop-node.invariant in
    subst (λ (ns : List ℕ). ArePut c.args.layered.now c.args.pin.0 c.args.out.now.items ns c.next-node.result) (sym c.in_ok-push.ensures.items) on.1
